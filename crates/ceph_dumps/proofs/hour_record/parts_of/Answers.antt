use Rattle.std.proofs.Common.{◌≡◌, ◌∙◌, ◌∷◌, ℕ, List, [], ap, arith, drop, slice_index, subst, sym, take}
use Rattle.ceph_dumps.specs.HourRecord.{IsHeatText}
use Rattle.ceph_dumps.specs.OwnList.{behind_digits}
use Rattle.ceph_dumps.proofs.hour_record.parts_of.Goals as goal

pub returns-in_default : goal.returns-in_default
returns-in_default c = λ are. c.in_default.ensures
    (subst IsHeatText (sym (c.split_at.ensures.front ∙ ap (λ (k : ℕ). take k c.args.line.now) c.digit_count.ensures.count)) are.0)

begins : (xs : List ℕ) → slice_index xs 0 ≡ 32 → xs ≡ 32 ∷ drop 1 xs
begins [] is = absurd (omega (arith, is))
begins (x ∷ xs) is = ap (λ (c : ℕ). c ∷ xs) is

pub returns-in-None : goal.returns-in-None
returns-in-None c = λ are.
    c.in-None.ensures (drop 1 (behind_digits c.args.line.now))
    ((c.split_at.ensures.back ∙ ap (λ (k : ℕ). drop k c.args.line.now) c.digit_count.ensures.count) ∙ begins (behind_digits c.args.line.now) are.1)
