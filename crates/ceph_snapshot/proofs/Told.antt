-- What is told of directories, as more directories are named and more facts are read.
use Rattle.std.proofs.Common.{◌≡◌, ◌≢◌, ◌∙◌, ◌<◌, ◌↔◌, ◌⊎◌, ◌++◌, ◌∷◌, ◌+◌, ◌==◌, ◌&&◌, ◌||◌, [], ℕ, zero}
use Rattle.std.proofs.Common.{suc, Bool, false, true, not, All, List, Option, Some, None, is_some, length, length-append, length-set, map}
use Rattle.std.proofs.Common.{slice_get, set, take, refl, ap, sym, subst, get_or, arith, ⊎_elim, inl, inr, cond}
use Rattle.std.specs.List.{filter, fold}
use Rattle.std.specs.Option.{option_map, option_map_or, option_or, unwrap_or}
use Rattle.std.specs.Str.{bytes_eq}
use Rattle.std.proofs.lemmas.Bool.{cases_eq, eq-eqb, eqb-true, false≢true, false_from_ne_true, ne_eqb}
use Rattle.std.proofs.lemmas.List.{append_assoc, get_or-set_other, get_or-set_same, map-append, take_more}
use Rattle.std.proofs.lemmas.List.Elements.{All-append, filter-append}
use Rattle.std.proofs.lemmas.List.Folds.{list_any-append, list_any_none}
use Rattle.std.proofs.lemmas.List.Sums.{fold-append}
use Rattle.std.proofs.lemmas.Option.{none-some, slice_get-get_or, slice_get_cases, slice_get_read}
use Rattle.std.proofs.lemmas.Slice.Eq.{bytes_eq-Decides}
use Rattle.ceph_snapshot.specs.declared.tree.Node.{Node}
use Rattle.ceph_snapshot.specs.declared.tree.Sighting.{Sighting}
use Rattle.ceph_snapshot.specs.declared.names.Names.{Names}
use Rattle.ceph_snapshot.specs.Names.{path_number}
use Rattle.ceph_snapshot.specs.Sightings.{Account, IsNumberOf, IsNumbered, TreeData, account_at, account_of, with_path}
use Rattle.ceph_snapshot.specs.Facts.{AreAsTold, Fact, IsAsTold, IsToldSpread, IsWith, KeepNumbers, StillTold}
use Rattle.ceph_snapshot.specs.Facts.{any_of, entries_told, fact_path, number_listed, pin_told, policy_told, is_marked_spread}
use Rattle.ceph_snapshot.specs.Facts.{is_other, is_rank, is_root_at, last_of, rank_told}
use Rattle.ceph_snapshot.proofs.Beaten.{or_cases, or_one, or_other}
use Rattle.ceph_snapshot.proofs.Numbers.{numbered_set, own_paths, path_account, path_same}
use Rattle.ceph_snapshot.proofs.Parents.{get_more}
use Rattle.ceph_snapshot.proofs.Placing.{set-same}

abbrev step : List ℕ → Option ℕ → Fact → Option ℕ
step path found f = cond (bytes_eq (fact_path f) path) (option_or (rank_told f) found) found

-- the last rank is that of a root
rank_among : (path : List ℕ) (r : ℕ) (facts : List Fact) (before : Option ℕ) → fold (step path) before facts ≡ Some r
    → (before ≡ Some r) ⊎ (any_of (is_root_at r) path facts ≡ true)
rank_among path r [] before h = inl h
rank_among path r (f ∷ fs) before h =
    ⊎_elim (λ (now : step path before f ≡ Some r). head (bytes_eq (fact_path f) path) (rank_told f) before (any_of (is_root_at r) path fs) now)
    (λ (later : any_of (is_root_at r) path fs ≡ true). inr (or_other (bytes_eq (fact_path f) path && is_root_at r f) (any_of (is_root_at r) path fs) later))
    (rank_among path r fs (step path before f) h) where
      head : (b : Bool) (told before : Option ℕ) (rest : Bool) → cond b (option_or told before) before ≡ Some r
          → (before ≡ Some r) ⊎ (((b && is_rank r told) || rest) ≡ true)
      head false told before rest h = inl h
      head true None before rest h = inl h
      head true (Some s) before rest h = inr (or_one (s == r) rest (eq-eqb s r (ap (λ (o : Option ℕ). unwrap_or o 0) h)))

-- where there is a root, there is a last one
rank_some : (path : List ℕ) (r : ℕ) (facts : List Fact) (before : Option ℕ)
    → (is_some before ≡ true) ⊎ (any_of (is_root_at r) path facts ≡ true) → is_some (fold (step path) before facts) ≡ true
rank_some path r [] before (inl h) = h
rank_some path r [] before (inr h) = absurd (false≢true h)
rank_some path r (f ∷ fs) before h = rank_some path r fs (step path before f)
    (head (bytes_eq (fact_path f) path) (rank_told f) before (any_of (is_root_at r) path fs) h) where
      head : (b : Bool) (told before : Option ℕ) (rest : Bool) → (is_some before ≡ true) ⊎ (((b && is_rank r told) || rest) ≡ true)
          → (is_some (cond b (option_or told before) before) ≡ true) ⊎ (rest ≡ true)
      head false told before rest h = h
      head true None before rest h = h
      head true (Some s) before rest h = inl refl

some_of : (o : Option ℕ) → is_some o ≡ true → (r : ℕ) × (o ≡ Some r)
some_of None h = absurd (false≢true h)
some_of (Some r) h = (r, refl)

rank_of : (r : ℕ) (o : Option ℕ) → is_rank r o ≡ true → o ≡ Some r
rank_of r None h = absurd (false≢true h)
rank_of r (Some s) h = ap (λ (n : ℕ). Some n) (eqb-true s r h)

other_of : (root told : Option ℕ) → is_other root told ≡ true → (a : ℕ) × (b : ℕ) × (root ≡ Some a) × (told ≡ Some b) × (a ≢ b)
other_of None told h = absurd (false≢true h)
other_of (Some a) None h = absurd (false≢true h)
other_of (Some a) (Some b) h = (a, b, refl, refl, λ same. false≢true (sym (ap not (eq-eqb a b same)) ∙ h))

last_more : {X : Type 0} (of : Fact → Option X) (path : List ℕ) (facts : List Fact) (f : Fact)
    → last_of of path (facts ++ f ∷ []) ≡ cond (bytes_eq (fact_path f) path) (option_or (of f) (last_of of path facts)) (last_of of path facts)
last_more of path facts f = fold-append (λ found one. cond (bytes_eq (fact_path one) path) (option_or (of one) found) found) None facts (f ∷ [])

any_more : (is : Fact → Bool) (path : List ℕ) (facts : List Fact) (f : Fact)
    → any_of is path (facts ++ f ∷ []) ≡ (any_of is path facts || ((bytes_eq (fact_path f) path && is f) || false))
any_more is path facts f = list_any-append (λ one. bytes_eq (fact_path one) path && is one) facts (f ∷ [])

or_none : (b : Bool) → (b || false) ≡ b
or_none true = refl
or_none false = refl

-- if more facts say the same of a path
spread_from : (path : List ℕ) (facts more : List Fact) → ((is : Fact → Bool) → any_of is path facts ≡ true → any_of is path more ≡ true)
    → IsToldSpread path facts → IsToldSpread path more
spread_from path facts more same (inl h) = inl (same is_marked_spread h)
spread_from path facts more same (inr h) = inr (h.0, h.1, same (is_root_at h.0) h.2, same (is_root_at h.1) h.3, h.4)

told_by : (facts more : List Fact) (n : Node)
    → ((X : Type 0) (of : Fact → Option X) → last_of of n.directory.path.items facts ≡ last_of of n.directory.path.items more)
    → ((is : Fact → Bool) → any_of is n.directory.path.items facts ≡ any_of is n.directory.path.items more) → IsAsTold facts n → IsAsTold more n
told_by facts more n last any was =
    let path : List ℕ = n.directory.path.items in
    record {
      root = was.root ∙ last _ _;
      pinned = was.pinned ∙ ap (λ (o : Option (Option ℕ)). unwrap_or o None) (last _ _);
      inodes = was.inodes ∙ ap (λ (o : Option ℕ). unwrap_or o 1) (last _ _);
      policy = was.policy ∙ last _ _;
      number = was.number ∙ last _ _;
      spread = (
        λ is. spread_from path facts more (λ p h. sym (any p) ∙ h) (was.spread.0 is),
        λ is. was.spread.1 (spread_from path more facts (λ p h. any p ∙ h) is),
      );
    }

-- a fact of another directory
told_other : (facts : List Fact) (f : Fact) (n : Node) → bytes_eq (fact_path f) n.directory.path.items ≡ false → IsAsTold facts n → IsAsTold (facts ++ f ∷ []) n
told_other facts f n other was =
    let path : List ℕ = n.directory.path.items in
    told_by facts (facts ++ f ∷ []) n
    (λ X of. sym (last_more of path facts f ∙ ap (λ (b : Bool). cond b (option_or (of f) (last_of of path facts)) (last_of of path facts)) other))
    (λ is. sym (any_more is path facts f ∙ (ap (λ (b : Bool). any_of is path facts || ((b && is f) || false)) other ∙ or_none (any_of is path facts))))
    was

-- a directory of which there is no fact yet
last_none : {X : Type 0} (of : Fact → Option X) (path : List ℕ) (facts : List Fact) → All (λ f. bytes_eq (fact_path f) path ≡ false) facts
    → None ≡ last_of of path facts
last_none {X} of path facts none = go facts none None where
  go : (facts : List Fact) → All (λ f. bytes_eq (fact_path f) path ≡ false) facts → (o : Option X)
      → o ≡ fold (λ found f. cond (bytes_eq (fact_path f) path) (option_or (of f) found) found) o facts
  go [] none o = refl
  go (f ∷ fs) none o =
      go fs (λ k d l. none (suc k) d (omega (arith, l))) o
      ∙ ap (λ (b : Bool). fold (λ found f. cond (bytes_eq (fact_path f) path) (option_or (of f) found) found)
      (cond b (option_or (of f) o) o) fs) (sym (none 0 f (omega arith)))

told_first : (facts : List Fact) (n : Node) → All (λ f. bytes_eq (fact_path f) n.directory.path.items ≡ false) facts → IsAsTold [] n → IsAsTold facts n
told_first facts n none was =
    let path : List ℕ = n.directory.path.items in
    told_by [] facts n (λ X of. last_none of path facts none)
    (λ is. sym (list_any_none (λ f. bytes_eq (fact_path f) path && is f) facts (λ k d l. ap (λ (b : Bool). b && is (get_or facts k d)) (none k d l)))) was

-- one more fact of a directory
unwrapped : {X : Type 0} (a b : Option X) (d : X) → unwrap_or a (unwrap_or b d) ≡ unwrap_or (option_or a b) d
unwrapped None b d = refl
unwrapped (Some x) b d = refl

spread_own : (path : List ℕ) (facts : List Fact) (f : Fact) (old : Bool) (root : Option ℕ) → bytes_eq (fact_path f) path ≡ true
    → root ≡ last_of rank_told path facts → (old ≡ true) ↔ IsToldSpread path facts
    → ((old || (is_other root (rank_told f) || is_marked_spread f)) ≡ true) ↔ IsToldSpread path (facts ++ f ∷ [])
spread_own path facts f old root own last so = (to, from) where
  new : (is : Fact → Bool) → any_of is path (facts ++ f ∷ []) ≡ (any_of is path facts || is f)
  new is = any_more is path facts f
      ∙ (ap (λ (b : Bool). any_of is path facts || ((b && is f) || false)) own
      ∙ ap (λ (b : Bool). any_of is path facts || b) (or_none (is f)))

  before : (is : Fact → Bool) → any_of is path facts ≡ true → any_of is path (facts ++ f ∷ []) ≡ true
  before is h = new is ∙ or_one (any_of is path facts) (is f) h

  end : (is : Fact → Bool) → is f ≡ true → any_of is path (facts ++ f ∷ []) ≡ true
  end is h = new is ∙ or_other (any_of is path facts) (is f) h

  root_among : (r : ℕ) → root ≡ Some r → any_of (is_root_at r) path facts ≡ true
  root_among r is = ⊎_elim (λ (none : None ≡ Some r). absurd (none-some r none)) (λ (h : any_of (is_root_at r) path facts ≡ true). h)
      (rank_among path r facts None (sym last ∙ is))

  rest : Bool
  rest = is_other root (rank_told f) || is_marked_spread f

  is_at : (r : ℕ) → rank_told f ≡ Some r → is_root_at r f ≡ true
  is_at r is = ap (is_rank r) is ∙ eq-eqb r r refl

  to : (old || (is_other root (rank_told f) || is_marked_spread f)) ≡ true → IsToldSpread path (facts ++ f ∷ [])
  to h =
      ⊎_elim (λ (was : old ≡ true). spread_from path facts (facts ++ f ∷ []) before (so.0 was))
      (λ (now : (is_other root (rank_told f) || is_marked_spread f) ≡ true).
      ⊎_elim
      (λ (other : is_other root (rank_told f) ≡ true).
      let two = other_of root (rank_told f) other in
      inr (two.0, two.1, before (is_root_at two.0) (root_among two.0 two.2), end (is_root_at two.1) (is_at two.1 two.3), two.4))
      (λ (marked : is_marked_spread f ≡ true). inl (end is_marked_spread marked))
      (or_cases (is_other root (rank_told f)) (is_marked_spread f) now))
      (or_cases old (is_other root (rank_told f) || is_marked_spread f) h)

  spread_by_root : (r : ℕ) (here : ℕ) → r ≢ here → is_other (Some r) (Some here) ≡ true
  spread_by_root r here apart = ap not (ne_eqb r here apart)

  crossed : (there here : ℕ) → any_of (is_root_at there) path facts ≡ true → is_root_at here f ≡ true → there ≢ here
      → (old || (is_other root (rank_told f) || is_marked_spread f)) ≡ true
  crossed there here h is apart =
      let some = some_of root (ap is_some last ∙ rank_some path there facts None (inr h)) in
      ⊎_elim
      (λ (same : some.0 ≡ here).
      or_one old (is_other root (rank_told f) || is_marked_spread f)
      (so.1 (inr (there, here, h, subst (λ (r : ℕ). any_of (is_root_at r) path facts ≡ true) same (root_among some.0 some.1), apart))))
      (λ (other : some.0 ≢ here).
      or_other old (is_other root (rank_told f) || is_marked_spread f) (or_one (is_other root (rank_told f)) (is_marked_spread f)
      (ap (λ (o : Option ℕ). is_other o (rank_told f)) some.1
      ∙ (ap (is_other (Some some.0)) (rank_of here (rank_told f) is) ∙ spread_by_root some.0 here other))))
      (cases_eq some.0 here)

  from : IsToldSpread path (facts ++ f ∷ []) → (old || (is_other root (rank_told f) || is_marked_spread f)) ≡ true
  from (inl h) =
      ⊎_elim (λ (was : any_of is_marked_spread path facts ≡ true). or_one old (is_other root (rank_told f) || is_marked_spread f) (so.1 (inl was)))
      (λ (now : is_marked_spread f ≡ true). or_other old (is_other root (rank_told f) || is_marked_spread f)
      (or_other (is_other root (rank_told f)) (is_marked_spread f) now))
      (or_cases (any_of is_marked_spread path facts) (is_marked_spread f) (sym (new is_marked_spread) ∙ h))
  from (inr h) =
      let one : ℕ = h.0 in
      let two : ℕ = h.1 in
      ⊎_elim
      (λ (first : any_of (is_root_at one) path facts ≡ true).
      ⊎_elim
      (λ (second : any_of (is_root_at two) path facts ≡ true). or_one old (is_other root (rank_told f) || is_marked_spread f)
      (so.1 (inr (one, two, first, second, h.4))))
      (λ (second : is_root_at two f ≡ true). crossed one two first second h.4)
      (or_cases (any_of (is_root_at two) path facts) (is_root_at two f) (sym (new (is_root_at two)) ∙ h.3)))
      (λ (first : is_root_at one f ≡ true).
      ⊎_elim
      (λ (second : any_of (is_root_at two) path facts ≡ true). crossed two one second first (λ same. h.4 (sym same)))
      (λ (second : is_root_at two f ≡ true). absurd
      (h.4 (ap (λ (o : Option ℕ). unwrap_or o 0) (sym (rank_of one (rank_told f) first) ∙ rank_of two (rank_told f) second))))
      (or_cases (any_of (is_root_at two) path facts) (is_root_at two f) (sym (new (is_root_at two)) ∙ h.3)))
      (or_cases (any_of (is_root_at one) path facts) (is_root_at one f) (sym (new (is_root_at one)) ∙ h.2))

told_own : (facts : List Fact) (f : Fact) (old new : Node) → new.directory.path.items ≡ old.directory.path.items
    → bytes_eq (fact_path f) old.directory.path.items ≡ true → IsWith f old new → IsAsTold facts old
    → IsAsTold (facts ++ f ∷ []) new
told_own facts f old new path own more was = record {
  root = more.root ∙ (ap (option_or (rank_told f)) was.root ∙ last rank_told);
  pinned = more.pinned ∙ (ap (unwrap_or (pin_told f)) was.pinned
      ∙ (unwrapped (pin_told f) (last_of pin_told p facts) None ∙ ap (λ (o : Option (Option ℕ)). unwrap_or o None) (last pin_told)));
  inodes = more.inodes ∙ (ap (unwrap_or (entries_told f)) was.inodes
      ∙ (unwrapped (entries_told f) (last_of entries_told p facts) 1 ∙ ap (λ (o : Option ℕ). unwrap_or o 1) (last entries_told)));
  policy = more.policy ∙ (ap (option_or (policy_told f)) was.policy ∙ last policy_told);
  number = more.number ∙ (ap (option_or (number_listed f)) was.number ∙ last number_listed);
  spread = subst (λ (q : List ℕ). (new.directory.is_spread ≡ true) ↔ IsToldSpread q (facts ++ f ∷ [])) (sym path)
      (subst (λ (b : Bool). (b ≡ true) ↔ IsToldSpread p (facts ++ f ∷ [])) (sym more.spread)
      (spread_own p facts f old.directory.is_spread old.root own was.root was.spread));
} where
  p : List ℕ
  p = old.directory.path.items

  last : {X : Type 0} (of : Fact → Option X) → option_or (of f) (last_of of p facts) ≡ last_of of new.directory.path.items (facts ++ f ∷ [])
  last of = sym (ap (λ (q : List ℕ). last_of of q (facts ++ f ∷ [])) path
      ∙ (last_more of p facts f ∙ ap (λ (b : Bool). cond b (option_or (of f) (last_of of p facts)) (last_of of p facts)) own))

all_one : {X : Type 0} (P : X → Type 0) (x : X) → P x → All P (x ∷ [])
all_one P x h zero d l = h
all_one P x h (suc k) d l = absurd (omega (arith, l))

number_more : (nodes : List Node) (n : Node) (path : List ℕ) (i : ℕ) → IsNumberOf nodes path i → IsNumberOf (nodes ++ n ∷ []) path i
number_more nodes n path i h = record {
  inside = omega (arith, h.inside, length-append nodes (n ∷ []));
  there = ap (λ (o : Option Node). option_map_or (λ (one : Node). one.directory.path.items) o []) (get_more nodes n i h.inside) ∙ h.there;
}

-- the account of the directory with this number
account_there : (nodes : List Node) (path : List ℕ) (i : ℕ) → IsNumberOf nodes path i → (t : Account) × (account_at nodes i ≡ Some t) × (t.0 ≡ path)
account_there nodes path i h =
    ⊎_elim
    (λ some.
    let is : account_at nodes i ≡ Some (account_of some.0.directory) = ap (option_map (λ (n : Node). account_of n.directory)) some.2 in
    (account_of some.0.directory, is, sym (path_account nodes i (account_of some.0.directory) is) ∙ h.there))
    (λ none. absurd (omega (arith, h.inside, none.0)))
    (slice_get_cases nodes i).1

-- one more directory, whose path had no number
pub still_more : (names : Names) (nodes : List Node) (n : Node) (path : List ℕ) (ss : List Sighting) → path_number names path ≡ None
    → n.directory.path.items ≡ path → IsAsTold [] n → IsNumbered names nodes ss
    → StillTold nodes (nodes ++ n ∷ [])
still_more names nodes n path ss fresh is first was = record {
  told = λ facts before. record {
    told = All-append (IsAsTold facts) nodes (n ∷ []) before.told (all_one (IsAsTold facts) n (told_first facts n (none facts before) first));
    there = λ k d l. let i = before.there k d l in (i.0, number_more nodes n (fact_path (get_or facts k d)) i.0 i.1);
  };
  numbers = number_more nodes n;
} where
  none : (facts : List Fact) → AreAsTold nodes facts → All (λ f. bytes_eq (fact_path f) n.directory.path.items ≡ false) facts
  none facts before k d l =
      let f : Fact = get_or facts k d in
      let i = before.there k d l in
      let at = account_there nodes (fact_path f) i.0 i.1 in
      false_from_ne_true (bytes_eq (fact_path f) n.directory.path.items)
      (λ same. none-some i.0 (sym fresh
      ∙ (ap (path_number names) (sym is ∙ (sym ((bytes_eq-Decides (fact_path f) n.directory.path.items).0 same) ∙ sym at.2))
      ∙ was.numbered i.0 at.0 at.1)))

-- more is known of a directory
set_numbers : (nodes : List Node) (at : ℕ) (old new : Node) → at < length nodes → slice_get nodes at ≡ Some old
    → account_of new.directory ≡ account_of old.directory → KeepNumbers nodes (set nodes at new)
set_numbers nodes at old new inside read same p i h = record {
  inside = omega (arith, h.inside, length-set nodes at new);
  there = path_same nodes (set nodes at new) i (set-same (λ (n : Node). account_of n.directory) nodes at old new inside read same i) ∙ h.there;
}

-- and nothing else is there
set_only : (nodes : List Node) (at : ℕ) (old new : Node) → at < length nodes → slice_get nodes at ≡ Some old
    → account_of new.directory ≡ account_of old.directory → KeepNumbers (set nodes at new) nodes
set_only nodes at old new inside read same p i h = record {
  inside = omega (arith, h.inside, length-set nodes at new);
  there = sym (path_same nodes (set nodes at new) i (set-same (λ (n : Node). account_of n.directory) nodes at old new inside read same i)) ∙ h.there;
}

-- one more fact, of the directory with this number
told_more : (names : Names) (nodes : List Node) (at : ℕ) (old new : Node) (ss : List Sighting) (f : Fact) → slice_get nodes at ≡ Some old
    → account_of new.directory ≡ account_of old.directory → IsNumberOf nodes (fact_path f) at
    → IsWith f old new → IsNumbered names nodes ss → (facts : List Fact) → AreAsTold nodes facts → AreAsTold (set nodes at new) (facts ++ f ∷ [])
told_more names nodes at old new ss f read same number more was facts before = record {
  told = λ k d l.
      ⊎_elim
      (λ (here : k ≡ at).
      subst (λ (n : Node). IsAsTold (facts ++ f ∷ []) n)
      (sym (ap (λ (j : ℕ). get_or (set nodes at new) j d) here ∙ get_or-set_same nodes at new d number.inside))
      (told_own facts f old new (ap (λ (t : Account). t.0) same) ((bytes_eq-Decides (fact_path f) old.directory.path.items).1 (sym path)) more
      (subst (IsAsTold facts) (at_is d) (before.told at d number.inside))))
      (λ (other : k ≢ at).
      let inside : k < length nodes = omega (arith, l, length-set nodes at new) in
      let n : Node = get_or nodes k d in
      subst (λ (one : Node). IsAsTold (facts ++ f ∷ []) one) (sym (get_or-set_other nodes at k new d other))
      (told_other facts f n
      (false_from_ne_true (bytes_eq (fact_path f) n.directory.path.items)
      (λ eq. other (own_paths names nodes ss was k at (account_of n.directory) (account_of old.directory)
      (ap (option_map (λ (one : Node). account_of one.directory)) (slice_get-get_or nodes k d inside))
      (ap (option_map (λ (one : Node). account_of one.directory)) read) (sym ((bytes_eq-Decides (fact_path f) n.directory.path.items).0 eq) ∙ sym path))))
      (before.told k d inside)))
      (cases_eq k at);
  there = All-append (λ one. (i : ℕ) × IsNumberOf (set nodes at new) (fact_path one) i) facts (f ∷ [])
      (λ k d l. let i = before.there k d l in (i.0, number_set (fact_path (get_or facts k d)) i.0 i.1))
      (all_one (λ one. (i : ℕ) × IsNumberOf (set nodes at new) (fact_path one) i) f (at, number_set (fact_path f) at number));
} where
  at_is : (d : Node) → get_or nodes at d ≡ old
  at_is d = ap (λ (o : Option Node). unwrap_or o d) (sym (slice_get-get_or nodes at d number.inside) ∙ read)

  path : old.directory.path.items ≡ fact_path f
  path = sym (ap (λ (o : Option Node). option_map_or (λ (one : Node). one.directory.path.items) o []) read) ∙ number.there

  number_set : KeepNumbers nodes (set nodes at new)
  number_set = set_numbers nodes at old new number.inside read same

pub record IsAdded (names : Names) (nodes : List Node) (ss : List Sighting) (f : Fact) (before : TreeData) : Type 0 where
  pub numbered : IsNumbered names nodes ss
  pub seen : map (with_path nodes) ss ≡ before.seen
  pub told : (facts : List Fact) → AreAsTold before.nodes facts → AreAsTold nodes (facts ++ f ∷ [])
  pub numbers : KeepNumbers before.nodes nodes
  pub only : KeepNumbers nodes before.nodes

pub added : (names : Names) (nodes : List Node) (at : ℕ) (old new : Node) (ss : List Sighting) (f : Fact) (v : TreeData)
    → record { nodes = nodes; seen = map (with_path nodes) ss } ≡ v → IsNumberOf v.nodes (fact_path f) at
    → old ≡ get_or nodes at old → account_of new.directory ≡ account_of old.directory → new.directory.parent ≡ old.directory.parent
    → IsWith f old new → IsNumbered names nodes ss
    → IsAdded names (set nodes at new) ss f v
added names nodes at old new ss f v view number here same parent more was =
    let there : IsNumberOf nodes (fact_path f) at = subst (λ (w : TreeData). IsNumberOf w.nodes (fact_path f) at) (sym view) number in
    let read : slice_get nodes at ≡ Some old = slice_get_read nodes (length nodes) at old refl there.inside here in
    let kept = numbered_set names nodes at old new ss there.inside read same parent was in
    record {
      numbered = kept.0;
      seen = kept.1 ∙ ap (λ (w : TreeData). w.seen) view;
      told = λ facts before. told_more names nodes at old new ss f read same there more was facts
          (subst (λ (w : TreeData). AreAsTold w.nodes facts) (sym view) before);
      numbers = subst (λ (w : TreeData). KeepNumbers w.nodes (set nodes at new)) view (set_numbers nodes at old new there.inside read same);
      only = subst (λ (w : TreeData). KeepNumbers (set nodes at new) w.nodes) view (set_only nodes at old new there.inside read same);
    }

-- one more of what a list says of the directories of users
pub filtered_more : {X : Type 0} (of : X → Fact) (user : X → Bool) (facts : List Fact) (xs : List X) (at : ℕ) (x : X) → at < length xs → x ≡ get_or xs at x
    → (facts ++ map of (filter user (take at xs))) ++ map of (filter user (x ∷ [])) ≡ facts ++ map of (filter user (take (at + 1) xs))
filtered_more of user facts xs at x l is =
    append_assoc facts (map of (filter user (take at xs))) (map of (filter user (x ∷ [])))
    ∙ ap (λ (fs : List Fact). facts ++ fs)
    (sym (ap (λ (ys : List _). map of (filter user ys)) (take_more xs at x l ∙ ap (λ one. take at xs ++ one ∷ []) (sym is))
    ∙ (ap (map of) (filter-append user (take at xs) (x ∷ [])) ∙ map-append of (filter user (take at xs)) (filter user (x ∷ [])))))

pub still_both : (a b c : List Node) → StillTold a b → StillTold b c → StillTold a c
still_both a b c one two = record { told = λ facts h. two.told facts (one.told facts h); numbers = λ path i h. two.numbers path i (one.numbers path i h) }
