-- Members that are passed over say nothing of an item.
use Rattle.std.proofs.Common.{◌≡◌, ◌∙◌, ℕ, Bool, true, false, List, ◌∷◌, codes, option_and_then, refl, sym, ap}
use Rattle.std.proofs.lemmas.Slice.Eq.{bytes_eq-Decides}
use Rattle.std.specs.Str.{bytes_eq}
use Rattle.json.specs.Json.{Json, array, boolean, member, Members, no_members, null, number, object, string}
use Rattle.ceph_dumps.specs.Kept.{members_kept, slim}
use Rattle.ceph_dumps.specs.Loads.{fragment_in, is_read}
use Rattle.ceph_dumps.specs.Members.{values_named}
use Rattle.ceph_dumps.specs.Subtrees.{root_in}

module _ (kept : List ℕ → Bool) (name : List ℕ) (is : kept name ≡ true) where
  passed : (key : List ℕ) (value : Json) (rest : Members) (b : Bool) → bytes_eq key name ≡ b → (k : Bool) → kept key ≡ k
      → values_named name (members_kept kept rest) ≡ values_named name rest
      → values_named name (members_kept kept (member key value rest)) ≡ values_named name (member key value rest)
  passed key value rest true same true keeps e = rw (keeps, same) (ap (λ values. value ∷ values) e)
  passed key value rest false same true keeps e = rw (keeps, same) e
  passed key value rest false same false keeps e = rw (keeps, same) e
  passed key value rest true same false keeps e =
      let never : true ≡ false = sym is ∙ ap kept (sym ((bytes_eq-Decides key name).0 same)) ∙ keeps in absurd (cc)

  named_kept : (ms : Members) → values_named name (members_kept kept ms) ≡ values_named name ms
  named_kept no_members = refl
  named_kept (member key value rest) = passed key value rest (bytes_eq key name) refl (kept key) refl (named_kept rest)

all_kept : (ms : Members) → members_kept (λ _. true) ms ≡ ms
all_kept no_members = refl
all_kept (member key value rest) = ap (member key value) (all_kept rest)

pub fragment_law : (j : Json) → option_and_then fragment_in (slim is_read j) ≡ fragment_in j
fragment_law null = refl
fragment_law (boolean truth) = refl
fragment_law (number text) = refl
fragment_law (string text) = refl
fragment_law (array items) = refl
fragment_law (object ms) =
    rw (named_kept is_read (codes "path") refl ms)
    (rw (named_kept is_read (codes "dirfrag") refl ms) (rw (named_kept is_read (codes "pop_me") refl ms) refl))

pub root_law : (j : Json) → option_and_then root_in (slim (λ _. true) j) ≡ root_in j
root_law null = refl
root_law (boolean truth) = refl
root_law (number text) = refl
root_law (string text) = refl
root_law (array items) = refl
root_law (object ms) = ap (λ kept. root_in (object kept)) (all_kept ms)
