-- What is said by lists and members that are read one by one.
use Rattle.std.proofs.Common.{◌≡◌, ℕ, zero, suc, ◌-◌, ◌<◌, ◌≤◌, List, [], ◌∷◌, ◌++◌, length, Option, Some, None, true, false}
use Rattle.std.proofs.Common.{option_map, option_and_then, refl, sym, ap, ◌∙◌, append_assoc, append-nil, is_some, true≢false}
use Rattle.std.specs.Str.{bytes_eq}
use Rattle.json.specs.Find.{as_object}
use Rattle.json.specs.Token.{Token}
use Rattle.json.specs.Json.{Json, array, object, Items, item, Members, member, Parse, parse_map}
use Rattle.json.specs.Json.{after_end_array, read_key, items_step, items, members, value}
use Rattle.json.proofs.Grammar.{items_end, items_more, left_none, left_some, members_end, members_no_key, members_fail, members_more}
use Rattle.json.proofs.Grammar.{value-begin_array, value-begin_object, value_is}
use Rattle.ceph_dumps.specs.Members.{each, list_in, list_of, values_named, the_only}
use Rattle.ceph_dumps.specs.Reading.{after_open_array, after_open_object, if_any, list_named, said_of}

-- ---- what is said, and by what

abbrev pick : {A : Type 0} → A → Option A → A
pick a None = a
pick a (Some b) = b

both : {A B : Type 0} (a : A) (left rest : List Token) (x : Option B) (what : B)
    → option_map {U = B × List Token} (λ w. (w, left)) x ≡ Some (what, rest) → (left ≡ rest) × (x ≡ Some what)
both a left rest None what e = absurd (cc)
both a left rest (Some w) what e = let same = ap (pick (w, left)) e in (ap (λ p. p.1) same, ap (λ p. Some p.0) same)

pub said_some : {A B : Type 0} (said : A → Option B) (o : Option (A × List Token)) (what : B) (rest : List Token)
    → said_of said o ≡ Some (what, rest) → (a : A) × (o ≡ Some (a, rest)) × (said a ≡ Some what)
said_some said None what rest e = absurd (cc)
said_some said (Some part) what rest e =
    let is = both part.0 part.1 rest (said part.0) what e in (part.0, ap (λ r. Some (part.0, r)) is.0, is.1)

unsaid : {B : Type 0} (left : List Token) (x : Option B) → option_map {U = B × List Token} (λ w. (w, left)) x ≡ None → x ≡ None
unsaid left None e = refl
unsaid left (Some w) e = absurd (cc)

-- ---- what opens a list, and an object

pub opened_array : (ts r : List Token) → after_open_array ts ≡ Some r → ts ≡ Token.begin_array ∷ r
opened_array [] r e = absurd (cc)
opened_array (Token.begin_object ∷ ts) r e = absurd (cc)
opened_array (Token.end_object ∷ ts) r e = absurd (cc)
opened_array (Token.begin_array ∷ ts) r e = ap (λ (rest : List Token). Token.begin_array ∷ rest) (ap (pick ts) e)
opened_array (Token.end_array ∷ ts) r e = absurd (cc)
opened_array (Token.key text ∷ ts) r e = absurd (cc)
opened_array (Token.string text ∷ ts) r e = absurd (cc)
opened_array (Token.number text ∷ ts) r e = absurd (cc)
opened_array (Token.boolean truth ∷ ts) r e = absurd (cc)
opened_array (Token.null ∷ ts) r e = absurd (cc)
opened_array (Token.bad ∷ ts) r e = absurd (cc)

pub opened_object : (ts r : List Token) → after_open_object ts ≡ Some r → ts ≡ Token.begin_object ∷ r
opened_object [] r e = absurd (cc)
opened_object (Token.begin_object ∷ ts) r e = ap (λ (rest : List Token). Token.begin_object ∷ rest) (ap (pick ts) e)
opened_object (Token.end_object ∷ ts) r e = absurd (cc)
opened_object (Token.begin_array ∷ ts) r e = absurd (cc)
opened_object (Token.end_array ∷ ts) r e = absurd (cc)
opened_object (Token.key text ∷ ts) r e = absurd (cc)
opened_object (Token.string text ∷ ts) r e = absurd (cc)
opened_object (Token.number text ∷ ts) r e = absurd (cc)
opened_object (Token.boolean truth ∷ ts) r e = absurd (cc)
opened_object (Token.null ∷ ts) r e = absurd (cc)
opened_object (Token.bad ∷ ts) r e = absurd (cc)

module _ {A : Type 0} (said : Json → Option A) (none : (j : Json) → as_object j ≡ None → said j ≡ None) where
  array_unsaid : (o : Option (Items × List Token)) → said_of said (parse_map array o) ≡ None
  array_unsaid None = refl
  array_unsaid (Some part) = rw (none (array part.0) refl) refl

  pub no_object : (depth : ℕ) (ts : List Token) → after_open_object ts ≡ None → said_of said (value depth ts) ≡ None
  no_object depth [] e = ap (said_of said) (value_is depth [])
  no_object depth (Token.begin_object ∷ ts) e = absurd (cc)
  no_object depth (Token.end_object ∷ ts) e = ap (said_of said) (value_is depth (Token.end_object ∷ ts))
  no_object depth (Token.begin_array ∷ ts) e = ap (said_of said) (value_is depth (Token.begin_array ∷ ts)) ∙ array_unsaid _
  no_object depth (Token.end_array ∷ ts) e = ap (said_of said) (value_is depth (Token.end_array ∷ ts))
  no_object depth (Token.key text ∷ ts) e = ap (said_of said) (value_is depth (Token.key text ∷ ts))
  no_object depth (Token.string text ∷ ts) e = ap (said_of said) (value_is depth (Token.string text ∷ ts))
      ∙ ap (option_map (λ w. (w, ts))) (none (Json.string text) refl)
  no_object depth (Token.number text ∷ ts) e = ap (said_of said) (value_is depth (Token.number text ∷ ts))
      ∙ ap (option_map (λ w. (w, ts))) (none (Json.number text) refl)
  no_object depth (Token.boolean truth ∷ ts) e = ap (said_of said) (value_is depth (Token.boolean truth ∷ ts))
      ∙ ap (option_map (λ w. (w, ts))) (none (Json.boolean truth) refl)
  no_object depth (Token.null ∷ ts) e = ap (said_of said) (value_is depth (Token.null ∷ ts)) ∙ ap (option_map (λ w. (w, ts))) (none Json.null refl)
  no_object depth (Token.bad ∷ ts) e = ap (said_of said) (value_is depth (Token.bad ∷ ts))

-- ---- lists

abbrev pub each_behind : {A : Type 0} → (Json → Option A) → List A → Items → Option (List A)
each_behind said done js = option_map (λ more. done ++ more) (each said js)

module _ {A : Type 0} (said : Json → Option A) where
  none_before : (x : Option (List A)) (r : List Token)
      → option_map {U = List A × List Token} (λ w. (w, r)) x ≡ option_map (λ w. (w, r)) (option_map (λ more. [] ++ more) x)
  none_before None r = refl
  none_before (Some more) r = refl

  pub nothing_behind : (o : Option (Items × List Token)) → said_of (each said) o ≡ said_of (each_behind said []) o
  nothing_behind None = refl
  nothing_behind (Some part) = none_before (each said part.0) part.1

  one_more : (done : List A) (a : A) (x : Option (List A))
      → option_map (λ more. done ++ more) (option_map (λ others. a ∷ others) x) ≡ option_map (λ more. (done ++ a ∷ []) ++ more) x
  one_more done a None = refl
  one_more done a (Some more) = ap Some (sym (append_assoc done (a ∷ []) more))

  item_said : (done : List A) (j : Json) (a : A) → said j ≡ Some a → (o : Option (Items × List Token))
      → said_of (each_behind said done) (parse_map (item j) o) ≡ said_of (each_behind said (done ++ a ∷ [])) o
  item_said done j a is None = refl
  item_said done j a is (Some part) =
      rw is (ap (option_map (λ w. (w, part.1))) (one_more done a (each said part.0)))

  item_unsaid : (done : List A) (j : Json) → said j ≡ None → (o : Option (Items × List Token))
      → said_of (each_behind said done) (parse_map (item j) o) ≡ None
  item_unsaid done j is None = refl
  item_unsaid done j is (Some part) = rw is

  module _ (p : Parse Json) (done : List A) where
    pub item_turn : (n : ℕ) (ts r : List Token) (a : A) → 0 < n → after_end_array ts ≡ None → said_of said (p ts) ≡ Some (a, r)
        → said_of (each_behind said done) (items p n ts) ≡ said_of (each_behind said (done ++ a ∷ [])) (items p (n - 1) r)
    item_turn n ts r a some going is =
        let j = said_some said (p ts) a r is in
        ap (said_of (each_behind said done)) (items_more p n ts r j.0 some going j.1) ∙ item_said done j.0 a j.2 _

    refused : (more : Parse Items) (o : Option (Json × List Token)) → said_of said o ≡ None
        → said_of (each_behind said done) (option_and_then (λ q. parse_map (item q.0) (more q.1)) o) ≡ None
    refused more None e = refl
    refused more (Some q) e = item_unsaid done q.0 (unsaid q.1 (said q.0) e) (more q.1)

    pub item_refused : (n : ℕ) (ts : List Token) → after_end_array ts ≡ None → said_of said (p ts) ≡ None
        → said_of (each_behind said done) (items p n ts) ≡ None
    unfolding items
    item_refused zero ts going e = refl
    item_refused (suc n) ts going e =
        ap (λ o. said_of (each_behind said done) (items_step p (items p n) ts o)) going ∙ refused (items p n) (p ts) e

    pub items_over : (n : ℕ) (ts r : List Token) → length ts ≤ n → after_end_array ts ≡ Some r
        → said_of (each_behind said done) (items p n ts) ≡ Some (done, r)
    items_over n ts r enough e =
        ap (said_of (each_behind said done)) (items_end p n ts r enough e) ∙ ap (λ w. Some (w, r)) (append-nil done)

  -- ---- a whole list

  array_said : (o : Option (Items × List Token)) → said_of (list_of said) (parse_map array o) ≡ said_of (each said) o
  array_said None = refl
  array_said (Some part) = refl

  pub list_opened : (depth : ℕ) (ts r : List Token) → 0 < depth → after_open_array ts ≡ Some r
      → said_of (list_of said) (value depth ts) ≡ said_of (each said) (items (value (depth - 1)) (length r) r)
  list_opened depth ts r some e =
      ap (λ (tokens : List Token). said_of (list_of said) (value depth tokens)) (opened_array ts r e)
      ∙ ap (said_of (list_of said)) (value-begin_array depth r some) ∙ array_said _

  object_unsaid : (o : Option (Members × List Token)) → said_of (list_of said) (parse_map object o) ≡ None
  object_unsaid None = refl
  object_unsaid (Some part) = refl

  pub no_list : (depth : ℕ) (ts : List Token) → after_open_array ts ≡ None → said_of (list_of said) (value depth ts) ≡ None
  no_list depth [] e = ap (said_of (list_of said)) (value_is depth [])
  no_list depth (Token.begin_object ∷ ts) e = ap (said_of (list_of said)) (value_is depth (Token.begin_object ∷ ts)) ∙ object_unsaid _
  no_list depth (Token.end_object ∷ ts) e = ap (said_of (list_of said)) (value_is depth (Token.end_object ∷ ts))
  no_list depth (Token.begin_array ∷ ts) e = absurd (cc)
  no_list depth (Token.end_array ∷ ts) e = ap (said_of (list_of said)) (value_is depth (Token.end_array ∷ ts))
  no_list depth (Token.key text ∷ ts) e = ap (said_of (list_of said)) (value_is depth (Token.key text ∷ ts))
  no_list depth (Token.string text ∷ ts) e = ap (said_of (list_of said)) (value_is depth (Token.string text ∷ ts))
  no_list depth (Token.number text ∷ ts) e = ap (said_of (list_of said)) (value_is depth (Token.number text ∷ ts))
  no_list depth (Token.boolean truth ∷ ts) e = ap (said_of (list_of said)) (value_is depth (Token.boolean truth ∷ ts))
  no_list depth (Token.null ∷ ts) e = ap (said_of (list_of said)) (value_is depth (Token.null ∷ ts))
  no_list depth (Token.bad ∷ ts) e = ap (said_of (list_of said)) (value_is depth (Token.bad ∷ ts))

-- ---- the member of a name

pub some_found : {A B : Type 0} (f : A → B) (found : Option A) → is_some found ≡ true → is_some (option_map f found) ≡ true
some_found f None e = e
some_found f (Some a) e = refl

pub none_found : {A B : Type 0} (f : A → B) (found : Option A) → is_some found ≡ false → option_map f found ≡ None
none_found f None e = refl
none_found f (Some a) e = absurd (true≢false e)

abbrev pub values_behind : {A : Type 0} → (Json → Option A) → Option A → List Json → Option (Option A)
values_behind said None values = option_and_then (if_any said) (the_only values)
values_behind said (Some a) [] = Some (Some a)
values_behind said (Some a) (value ∷ values) = None

abbrev pub members_behind : {A : Type 0} → (Json → Option A) → List ℕ → Option A → Members → Option (Option A)
members_behind said name found ms = values_behind said found (values_named name ms)

module _ {A : Type 0} (said : Json → Option A) (name : List ℕ) where
  pub other_member : (found : Option A) (key : List ℕ) (j : Json) → bytes_eq key name ≡ false → (o : Option (Members × List Token))
      → said_of (members_behind said name found) (parse_map (member key j) o) ≡ said_of (members_behind said name found) o
  other_member found key j other None = refl
  other_member found key j other (Some part) = rw other refl

  first_value : (j : Json) (a : A) → said j ≡ Some a → (values : List Json) (r : List Token)
      → option_map {U = Option A × List Token} (λ w. (w, r)) (values_behind said None (j ∷ values))
      ≡ option_map (λ w. (w, r)) (values_behind said (Some a) values)
  first_value j a is [] r = rw is refl
  first_value j a is (v ∷ values) r = refl

  first_member : (key : List ℕ) (j : Json) (a : A) → bytes_eq key name ≡ true → said j ≡ Some a → (o : Option (Members × List Token))
      → said_of (members_behind said name None) (parse_map (member key j) o) ≡ said_of (members_behind said name (Some a)) o
  first_member key j a same is None = refl
  first_member key j a same is (Some part) = rw same (first_value j a is (values_named name part.0) part.1)

  no_value : (j : Json) → said j ≡ None → (values : List Json) → values_behind said None (j ∷ values) ≡ None
  no_value j is [] = rw is refl
  no_value j is (v ∷ values) = refl

  first_unsaid : (key : List ℕ) (j : Json) → bytes_eq key name ≡ true → said j ≡ None → (o : Option (Members × List Token))
      → said_of (members_behind said name None) (parse_map (member key j) o) ≡ None
  first_unsaid key j same is None = refl
  first_unsaid key j same is (Some part) =
      rw same (ap (option_map (λ w. (w, part.1))) (no_value j is (values_named name part.0)))

  second_unsaid : (key : List ℕ) (j : Json) (a : A) → bytes_eq key name ≡ true → (o : Option (Members × List Token))
      → said_of (members_behind said name (Some a)) (parse_map (member key j) o) ≡ None
  second_unsaid key j a same None = refl
  second_unsaid key j a same (Some part) = rw same refl

  module _ (p : Parse Json) (n : ℕ) (key : List ℕ) (ts s : List Token) (comes : read_key ts ≡ Some (Some key, s)) where
    pub skip_turn : (found : Option A) (r : List Token) → 0 < n → bytes_eq key name ≡ false → option_map (λ q. q.1) (p s) ≡ Some r
        → said_of (members_behind said name found) (members p n ts) ≡ said_of (members_behind said name found) (members p (n - 1) r)
    skip_turn found r some other passed =
        let j = left_some (p s) r passed in
        ap (said_of (members_behind said name found)) (members_more p n key ts s r j.0 some comes j.1) ∙ other_member found key j.0 other _

    pub list_turn : (a : A) (r : List Token) → 0 < n → bytes_eq key name ≡ true → said_of said (p s) ≡ Some (a, r)
        → said_of (members_behind said name None) (members p n ts) ≡ said_of (members_behind said name (Some a)) (members p (n - 1) r)
    list_turn a r some same is =
        let j = said_some said (p s) a r is in
        ap (said_of (members_behind said name None)) (members_more p n key ts s r j.0 some comes j.1) ∙ first_member key j.0 a same j.2 _

    list_fails : (o : Option (Json × List Token)) → p s ≡ o → 0 < n → bytes_eq key name ≡ true → said_of said o ≡ None
        → said_of (members_behind said name None) (members p n ts) ≡ None
    list_fails None is some same e = ap (said_of (members_behind said name None)) (members_fail p n key ts s comes is)
    list_fails (Some q) is some same e =
        ap (said_of (members_behind said name None)) (members_more p n key ts s q.1 q.0 some comes is)
        ∙ first_unsaid key q.0 same (unsaid q.1 (said q.0) e) _

    pub list_refused : 0 < n → bytes_eq key name ≡ true → said_of said (p s) ≡ None
        → said_of (members_behind said name None) (members p n ts) ≡ None
    list_refused some same e = list_fails (p s) refl some same e

    twice_fails : (o : Option (Json × List Token)) → p s ≡ o → (a : A) → 0 < n → bytes_eq key name ≡ true
        → said_of (members_behind said name (Some a)) (members p n ts) ≡ None
    twice_fails None is a some same = ap (said_of (members_behind said name (Some a))) (members_fail p n key ts s comes is)
    twice_fails (Some q) is a some same =
        ap (said_of (members_behind said name (Some a))) (members_more p n key ts s q.1 q.0 some comes is) ∙ second_unsaid key q.0 a same _

    pub twice_refused : (a : A) → 0 < n → bytes_eq key name ≡ true → said_of (members_behind said name (Some a)) (members p n ts) ≡ None
    twice_refused a some same = twice_fails (p s) refl a some same

    pub twice_found : (found : Option A) → is_some found ≡ true → 0 < n → bytes_eq key name ≡ true
        → said_of (members_behind said name found) (members p n ts) ≡ None
    twice_found None never some same = absurd (true≢false (sym never))
    twice_found (Some a) is some same = twice_refused a some same

    pub skip_refused : (found : Option A) → option_map (λ q. q.1) (p s) ≡ None → said_of (members_behind said name found) (members p n ts) ≡ None
    skip_refused found e = ap (said_of (members_behind said name found)) (members_fail p n key ts s comes (left_none (p s) e))

  found_all : (found : Option A) → values_behind said found [] ≡ Some found
  found_all None = refl
  found_all (Some a) = refl

  pub members_over : (p : Parse Json) (n : ℕ) (ts r : List Token) (found : Option A) → length ts ≤ n → read_key ts ≡ Some (None, r)
      → said_of (members_behind said name found) (members p n ts) ≡ Some (found, r)
  members_over p n ts r found enough e =
      ap (said_of (members_behind said name found)) (members_end p n ts r enough e) ∙ ap (option_map (λ w. (w, r))) (found_all found)

  pub key_refused : (p : Parse Json) (n : ℕ) (ts : List Token) (found : Option A) → read_key ts ≡ None
      → said_of (members_behind said name found) (members p n ts) ≡ None
  key_refused p n ts found e = ap (said_of (members_behind said name found)) (members_no_key p n ts e)

-- ---- a whole object

abbrev joined : {A : Type 0} → Option (Option A) → Option A
joined None = None
joined (Some found) = found

abbrev inner : {A : Type 0} → Option (Option A × List Token) → Option A
inner None = None
inner (Some part) = part.0

abbrev part_of : {A : Type 0} → Option A → List Token → Option (Option A × List Token)
part_of found rest = Some (found, rest)

some_none : {A : Type 0} (a : A) (r left : List Token) → part_of None left ≡ part_of (Some a) r → ⊥
some_none a r left e = let never : None ≡ Some a = ap inner e in absurd (cc)

module _ {A : Type 0} (said : Json → Option A) (name : List ℕ) where
  one_or_none : (x : Option (Option Json))
      → option_and_then (list_of said) (option_and_then (λ found. found) x) ≡ joined (option_and_then (if_any (list_of said)) x)
  one_or_none None = refl
  one_or_none (Some None) = refl
  one_or_none (Some (Some v)) = opened (list_of said v) where
    opened : (x : Option (List A)) → x ≡ joined (option_map Some x)
    opened None = refl
    opened (Some a) = refl

  abbrev pub object_as : Option (Members × List Token) → Option (List A × List Token)
  object_as o = said_of (list_in said name) (parse_map object o)

  with_list : (list : List A) (r left : List Token) (x : Option (Option (List A)))
      → option_map {U = Option (List A) × List Token} (λ w. (w, left)) x ≡ Some (Some list, r)
      → option_map {U = List A × List Token} (λ w. (w, left)) (joined x) ≡ Some (list, r)
  with_list list r left None e = absurd (cc)
  with_list list r left (Some None) e = absurd (some_none list r left e)
  with_list list r left (Some (Some w)) e = let same = ap (pick (Some w, left)) e in
      ap (λ q. option_map (λ l. (l, q.1)) q.0) same

  pub object_said : (o : Option (Members × List Token)) (list : List A) (r : List Token)
      → said_of (list_named said name) o ≡ Some (Some list, r) → object_as o ≡ Some (list, r)
  object_said None list r e = absurd (cc)
  object_said (Some part) list r e =
      ap (option_map (λ w. (w, part.1))) (one_or_none (the_only (values_named name part.0)))
      ∙ with_list list r part.1 (option_and_then (if_any (list_of said)) (the_only (values_named name part.0))) e

  without : (r left : List Token) (x : Option (Option (List A)))
      → option_map {U = Option (List A) × List Token} (λ w. (w, left)) x ≡ Some (None, r)
      → option_map {U = List A × List Token} (λ w. (w, left)) (joined x) ≡ None
  without r left None e = refl
  without r left (Some None) e = refl
  without r left (Some (Some w)) e = absurd (some_none w left r (sym e))

  pub object_without : (o : Option (Members × List Token)) (r : List Token)
      → said_of (list_named said name) o ≡ Some (None, r) → object_as o ≡ None
  object_without None r e = refl
  object_without (Some part) r e =
      ap (option_map (λ w. (w, part.1))) (one_or_none (the_only (values_named name part.0)))
      ∙ without r part.1 (option_and_then (if_any (list_of said)) (the_only (values_named name part.0))) e

  nothing : (left : List Token) (x : Option (Option (List A)))
      → option_map {U = Option (List A) × List Token} (λ w. (w, left)) x ≡ None
      → option_map {U = List A × List Token} (λ w. (w, left)) (joined x) ≡ None
  nothing left None e = refl
  nothing left (Some w) e = absurd (cc)

  pub object_refused : (o : Option (Members × List Token)) → said_of (list_named said name) o ≡ None → object_as o ≡ None
  object_refused None e = refl
  object_refused (Some part) e =
      ap (option_map (λ w. (w, part.1))) (one_or_none (the_only (values_named name part.0)))
      ∙ nothing part.1 (option_and_then (if_any (list_of said)) (the_only (values_named name part.0))) e

  pub object_opened : (depth : ℕ) (ts r : List Token) → 0 < depth → after_open_object ts ≡ Some r
      → said_of (list_in said name) (value depth ts) ≡ object_as (members (value (depth - 1)) (length r) r)
  object_opened depth ts r some e =
      ap (λ (tokens : List Token). said_of (list_in said name) (value depth tokens)) (opened_object ts r e)
      ∙ ap (said_of (list_in said name)) (value-begin_object depth r some)

  pub not_listed : (j : Json) → as_object j ≡ None → list_in said name j ≡ None
  not_listed j e = rw e refl
