use Rattle.std.proofs.Common.{◌≡◌, ◌∙◌, ◌++◌, ◌∷◌, ℕ, List, [], ap, arith, codes, drop, slice_index}
use Rattle.ceph_dumps.specs.OwnList.{behind_digits}
use Rattle.ceph_dumps.proofs.own_list.words_of.Goals as goal

begins : (xs : List ℕ) → slice_index xs 0 ≡ 32 → slice_index xs 1 ≡ 47 → xs ≡ codes " /" ++ drop 2 xs
begins [] blank slash = absurd (omega (arith, blank))
begins (x ∷ []) blank slash = absurd (omega (arith, slash))
begins (x ∷ y ∷ xs) blank slash = ap (λ (c : ℕ). c ∷ y ∷ xs) blank ∙ ap (λ (c : ℕ). 32 ∷ c ∷ xs) slash

pub returns-in-None : goal.returns-in-None
returns-in-None c = λ are.
    c.in-None.ensures (drop 2 (behind_digits c.args.line.now))
    ((c.split_at.ensures.back ∙ ap (λ (k : ℕ). drop k c.args.line.now) c.digit_count.ensures.count)
    ∙ begins (behind_digits c.args.line.now) are.blank are.slash)
