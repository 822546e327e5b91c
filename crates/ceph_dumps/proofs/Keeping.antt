-- What an object says by the members that are read alone.
use Rattle.std.proofs.Common.{◌≡◌, ◌∙◌, ℕ, ◌-◌, ◌<◌, ◌≤◌, Bool, true, false, List, [], ◌∷◌, ◌++◌, length, Option, Some, None}
use Rattle.std.proofs.Common.{option_and_then, option_map, refl, sym, ap, Bor}
use Rattle.json.specs.Json.{Json, array, boolean, member, Members, null, number, object, string}
use Rattle.json.specs.Json.{Parse, members, parse_map, read_key, value}
use Rattle.json.specs.Find.{as_object}
use Rattle.json.specs.Token.{Token}
use Rattle.json.specs.Value.{members_view, value_view}
use Rattle.json.specs.declared.value.Value.{Value}
use Rattle.json.proofs.Grammar.{left_some, members_end, members_more, value-begin_object}
use Rattle.json.proofs.Trees.{members_before, members_before-no_members, one_more_member}
use Rattle.ceph_dumps.specs.Kept.{members_kept, slim}
use Rattle.ceph_dumps.specs.Reading.{after_open_object, said_of}
use Rattle.ceph_dumps.proofs.Saying.{opened_object}

-- ---- what is said of an object is said of the members that are kept

module _ {A : Type 0} (said : Json → Option A) (kept : List ℕ → Bool) (law : (j : Json) → option_and_then said (slim kept j) ≡ said j) where
  pub unsaid_by_kept : (o : Option (Json × List Token)) → said_of (slim kept) o ≡ None → said_of said o ≡ None
  unsaid_by_kept None e = refl
  unsaid_by_kept (Some part) e = of_slim (slim kept part.0) refl e where
    of_slim : (s : Option Json) → slim kept part.0 ≡ s → option_map {U = Json × List Token} (λ what. (what, part.1)) s ≡ None
        → option_map {U = A × List Token} (λ what. (what, part.1)) (said part.0) ≡ None
    of_slim None is e = rw (sym (law part.0), is) refl
    of_slim (Some k) is e = absurd (cc)

-- ---- member by member

module _ {A : Type 0} (kept : List ℕ → Bool) (found : List (Bor (List ℕ) × Value A)) where
  abbrev pub behind : Option (Members × List Token) → Option (Members × List Token)
  behind o = parse_map (members_before found) (parse_map (members_kept kept) o)

  member_kept : (key : List ℕ) (j : Json) → kept key ≡ true → (o : Option (Members × List Token))
      → parse_map (members_kept kept) (parse_map (member key j) o) ≡ parse_map (member key j) (parse_map (members_kept kept) o)
  member_kept key j is None = refl
  member_kept key j is (Some part) = rw is refl

  member_passed : (key : List ℕ) (j : Json) → kept key ≡ false → (o : Option (Members × List Token))
      → parse_map (members_kept kept) (parse_map (member key j) o) ≡ parse_map (members_kept kept) o
  member_passed key j is None = refl
  member_passed key j is (Some part) = rw is refl

  module _ (p : Parse Json) (n : ℕ) (ts : List Token) where
    pub keep_turn : (m : Bor (List ℕ) × Value A) (s r : List Token) → 0 < n → read_key ts ≡ Some (Some m.0.now, s)
        → kept m.0.now ≡ true → p s ≡ Some (value_view m.1, r)
        → behind (members p n ts) ≡ parse_map (members_before (found ++ m ∷ [])) (parse_map (members_kept kept) (members p (n - 1) r))
    keep_turn m s r some comes is read =
        ap behind (members_more p n m.0.now ts s r (value_view m.1) some comes read)
        ∙ ap (parse_map (members_before found)) (member_kept m.0.now (value_view m.1) is _)
        ∙ one_more_member found m _

    pub pass_turn : (key : List ℕ) (s r : List Token) → 0 < n → read_key ts ≡ Some (Some key, s) → kept key ≡ false
        → option_map (λ q. q.1) (p s) ≡ Some r → behind (members p n ts) ≡ behind (members p (n - 1) r)
    pass_turn key s r some comes is passes =
        let j = left_some (p s) r passes in
        ap behind (members_more p n key ts s r j.0 some comes j.1) ∙ ap (parse_map (members_before found)) (member_passed key j.0 is _)

    pub all_passed : (r : List Token) → length ts ≤ n → read_key ts ≡ Some (None, r)
        → behind (members p n ts) ≡ Some (members_view found, r)
    all_passed r enough comes =
        ap behind (members_end p n ts r enough comes) ∙ ap (λ (ms : Members). Some (ms, r)) (members_before-no_members found)

pub nothing_behind : (A : Type 0) (kept : List ℕ → Bool) (o : Option (Members × List Token))
    → parse_map (members_kept kept) o ≡ behind {A = A} kept [] o
nothing_behind A kept None = refl
nothing_behind A kept (Some part) = refl

-- ---- a whole object

module _ (kept : List ℕ → Bool) where
  slimmed : (o : Option (Members × List Token)) → said_of (slim kept) (parse_map object o) ≡ parse_map object (parse_map (members_kept kept) o)
  slimmed None = refl
  slimmed (Some part) = refl

  pub slim_opened : (depth : ℕ) (ts r : List Token) → 0 < depth → after_open_object ts ≡ Some r
      → said_of (slim kept) (value depth ts) ≡ parse_map object (parse_map (members_kept kept) (members (value (depth - 1)) (length r) r))
  slim_opened depth ts r some e =
      ap (λ (tokens : List Token). said_of (slim kept) (value depth tokens)) (opened_object ts r e)
      ∙ ap (said_of (slim kept)) (value-begin_object depth r some) ∙ slimmed _

  pub not_slim : (j : Json) → as_object j ≡ None → slim kept j ≡ None
  not_slim null e = refl
  not_slim (boolean truth) e = refl
  not_slim (number text) e = refl
  not_slim (string text) e = refl
  not_slim (array items) e = refl
  not_slim (object ms) e = absurd (cc)
