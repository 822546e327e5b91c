-- The policies of directories that are held as a whole, from the ones that were looked at to one more.
use Rattle.std.proofs.Common.{◌≡◌, ◌∙◌, ◌<◌, ◌+◌, ◌==◌, ◌||◌, ℕ, Bool, false, true, List, Option, Some, None, length, get_or, take, refl, ap, sym}
use Rattle.std.specs.List.{list_any}
use Rattle.std.specs.Option.{option_map, option_or}
use Rattle.std.proofs.lemmas.List.Folds.{list_any_more}
use Rattle.ceph_dumps.specs.declared.listing.EphemeralPin.{EphemeralPin}
use Rattle.ceph_dumps.specs.declared.listing.EphemeralPin.TheVariants.{Unknown}
use Rattle.ceph_snapshot.specs.Gathered.{Listed, with_unknown}

twice : (a b : Bool) (o : Option Listed) → option_map (with_unknown b) (option_map (with_unknown a) o) ≡ option_map (with_unknown (a || b)) o
twice a b None = refl
twice false b (Some x) = refl
twice true false (Some x) = refl
twice true true (Some x) = ap (λ (p : Option EphemeralPin). Some (x.0, p)) (known x.1) where
  known : (p : Option EphemeralPin) → option_or (option_or p (Some Unknown)) (Some Unknown) ≡ option_or p (Some Unknown)
  known None = refl
  known (Some p) = refl

pub tops_more : (first before now : ℕ → Option Listed) (tops : List ℕ) (at : ℕ) → at < length tops
    → ((i : ℕ) → before i ≡ option_map (with_unknown (list_any (λ top. top == i) (take at tops))) (first i))
    → ((i : ℕ) → now i ≡ option_map (with_unknown (get_or tops at 0 == i)) (before i))
    → (i : ℕ) → now i ≡ option_map (with_unknown (list_any (λ top. top == i) (take (at + 1) tops))) (first i)
tops_more first before now tops at l so_far more i =
    more i
    ∙ (ap (option_map (with_unknown (get_or tops at 0 == i))) (so_far i)
    ∙ (twice (list_any (λ top. top == i) (take at tops)) (get_or tops at 0 == i) (first i)
    ∙ ap (λ (b : Bool). option_map (with_unknown b) (first i)) (sym (list_any_more (λ top. top == i) tops at 0 l))))
