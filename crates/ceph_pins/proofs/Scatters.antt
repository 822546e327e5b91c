-- What one more directory adds to the sums.
use Rattle.std.proofs.Common.{◌≡◌, ◌∙◌, ◌+◌, ◌-◌, ◌^◌, ◌<◌, ◌≤◌, ◌&&◌, ℕ, suc, Bool, true, false}
use Rattle.std.proofs.Common.{cond, nat_lt, List, length, min, slice_index, add-one, add-zero, ap, arith, refl, sym}
use Rattle.std.proofs.lemmas.Bool.{le-ltb}
use Rattle.mds_types.specs.Sums.{sum_below}
use Rattle.mds_types.proofs.SumsLemmas.{count_below-le, sum_below-split, sum_from, sum_from-same}
use Rattle.ceph_snapshot.specs.declared.directory.Directory.{Directory}
use Rattle.ceph_snapshot.specs.Holding.{most_heat}
use Rattle.ceph_pins.specs.Children.{heat_from, hot_below, is_child_of}

-- a sum with one more term, where it is one
with_term : (b : Bool) (old new sum v : ℕ) → (b ≡ true → new ≡ min most_heat (old + v)) → (b ≡ false → new ≡ old) → old ≡ min most_heat sum
    → new ≡ min most_heat (sum + cond b v 0)
with_term true old new sum v more same is = let e : new ≡ min most_heat (old + v) = more refl in grind (arith, e, is)
with_term false old new sum v more same is = same refl ∙ (is ∙ ap (min most_heat) (sym (add-zero sum)))

-- what the children of directory i have from directory `first` on
abbrev pub from : List Directory → (ℕ → ℕ) → ℕ → ℕ → ℕ
from ds value first i = sum_from (length ds - first) first (λ c. cond (is_child_of ds i c) (value c) 0)

pub from_none : (ds : List Directory) (value : ℕ → ℕ) (i : ℕ) → from ds value (length ds) i ≡ 0
from_none ds value i = let e : length ds - length ds ≡ 0 = omega arith in rw e refl

pub from_all : (ds : List Directory) (value : ℕ → ℕ) (i : ℕ) → from ds value 0 i ≡ sum_below (length ds) (λ c. cond (is_child_of ds i c) (value c) 0)
from_all ds value i =
    let f : ℕ → ℕ = λ c. cond (is_child_of ds i c) (value c) 0 in
    let e : length ds - 0 ≡ length ds = omega arith in
    rw e (omega (arith, sum_below-split (length ds) 0 (length ds) f (omega arith)))

from_more : (ds : List Directory) (value other : ℕ → ℕ) (at i : ℕ) → at < length ds → ((c : ℕ) → at ≤ c → other c ≡ value c)
    → from ds other at i ≡ from ds value (at + 1) i + cond (is_child_of ds i at) (value at) 0
from_more ds value other at i inside same =
    let old : ℕ → ℕ = λ c. cond (is_child_of ds i c) (value c) 0 in
    let new : ℕ → ℕ = λ c. cond (is_child_of ds i c) (other c) 0 in
    let e : length ds - at ≡ suc (length ds - (at + 1)) = omega arith in
    sum_from-same (length ds - at) at new old (λ c l. ap (λ (x : ℕ). cond (is_child_of ds i c) x 0) (same c l))
    ∙ rw (e, add-one) (omega arith)

-- a parent has what its child has too
pub below_more : (ds : List Directory) (heats below next : List ℕ) (at first heat : ℕ) → at + 1 ≡ first → at < length ds → heat ≡ heat_from heats below at
    → ((i : ℕ) → is_child_of ds i at ≡ true → slice_index next i ≡ min most_heat (slice_index below i + heat))
    → ((i : ℕ) → is_child_of ds i at ≡ false → slice_index next i ≡ slice_index below i)
    → ((i : ℕ) → i < length ds → slice_index below i ≡ min most_heat (from ds (heat_from heats below) first i))
    → (i : ℕ) → i < length ds → slice_index next i ≡ min most_heat (from ds (heat_from heats next) at i)
unfolding is_child_of heat_from
below_more ds heats below next at first heat one inside own parent others before i l =
    let later : (c : ℕ) → at ≤ c → is_child_of ds c at ≡ false = λ c le. (let e : nat_lt c at ≡ false = le-ltb c at le in rw e refl) in
    let same : (c : ℕ) → at ≤ c → heat_from heats next c ≡ heat_from heats below c =
    λ c le. ap (λ (x : ℕ). min most_heat (slice_index heats c + x)) (others c (later c le)) in
    with_term (is_child_of ds i at) (slice_index below i) (slice_index next i) (from ds (heat_from heats below) first i) heat (parent i) (others i) (before i l)
    ∙ ap (min most_heat)
    (ap (λ (h : ℕ). from ds (heat_from heats below) first i + cond (is_child_of ds i at) h 0) own
    ∙ (ap (λ (k : ℕ). from ds (heat_from heats below) k i + cond (is_child_of ds i at) (heat_from heats below at) 0) (sym one)
    ∙ sym (from_more ds (heat_from heats below) (heat_from heats next) at i inside same)))

-- a count fits 64 bits
pub fits : (ds : List Directory) (heats below : List ℕ) (i : ℕ) → length ds < 2 ^ 64
    → min most_heat (hot_below ds heats below (length ds) i) ≡ hot_below ds heats below (length ds) i
fits ds heats below i few = omega (arith, count_below-le (length ds) (λ c. is_child_of ds i c && nat_lt 0 (heat_from heats below c)))
