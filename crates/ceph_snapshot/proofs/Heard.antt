-- What was gathered of hearsay, of directories that are held as a whole and of claims, as more is read.
use Rattle.std.proofs.Common.{◌≡◌, ◌≢◌, ◌∙◌, ◌-◌, ◌<◌, ◌++◌, ◌∷◌, ◌==◌, ◌&&◌, [], ℕ, zero, suc}
use Rattle.std.proofs.Common.{Bool, false, true, not, All, List, append-nil, length, length-append, map, get_or, refl, ap}
use Rattle.std.proofs.Common.{sym, subst, arith, take, ◌≤◌, ◌||◌, ◌⊎◌, cond, inl, inr, None, ⊎_elim}
use Rattle.std.specs.List.{filter, flat_map, list_any, take_while}
use Rattle.std.proofs.lemmas.Bool.{cases_lt, eq-eqb, eqb-true, false≢true, ne_eqb}
use Rattle.std.proofs.lemmas.List.{get_or-append_right, get_or_append_left, get_or_push, length_push, map-append, take_all}
use Rattle.std.proofs.lemmas.List.Concat.{flat_map-append}
use Rattle.std.proofs.lemmas.List.Elements.{All-append, All-map}
use Rattle.std.proofs.lemmas.Option.{none-some}
use Rattle.std.proofs.lemmas.List.Sums.{prefix_len_is, take_while-cons}
use Rattle.ceph_dumps.specs.declared.listing.ListedDir.{ListedDir}
use Rattle.ceph_dumps.specs.declared.subtrees.SubtreeRoot.{SubtreeRoot}
use Rattle.ceph_snapshot.specs.declared.gathering.Gathering.{Gathering}
use Rattle.ceph_snapshot.specs.declared.gathering.Hearsay.{Hearsay}
use Rattle.ceph_snapshot.specs.declared.names.Names.{Names}
use Rattle.ceph_snapshot.specs.declared.tree.Node.{Node}
use Rattle.ceph_snapshot.specs.Authority.{StillClaimed, is_user_path, node_path_at}
use Rattle.ceph_snapshot.specs.Facts.{AreAsTold, Fact, KeepNumbers, Root, StillTold, Value, roots_in}
use Rattle.ceph_snapshot.specs.Heard.{AreClaimsIn, AreHeardAt, AreNumbersOf, ClaimsByFact, ClaimsFragment, HasTold, HeardRank, IsNotedIn}
use Rattle.ceph_snapshot.specs.Heard.{LiesInTop, StillHasTold, heard_at, heard_in, heard_in_fact, top_of_path, tops_in, tops_in_fact}
use Rattle.ceph_snapshot.specs.Named.{ArePathsNamed}
use Rattle.ceph_snapshot.specs.Names.{path_number}
use Rattle.ceph_snapshot.specs.Sightings.{IsNumberOf}

-- a directory that is there keeps its path
number_kept : (old new : List Node) (i : ℕ) → KeepNumbers old new → i < length old → IsNumberOf new (node_path_at old i) i
number_kept old new i keep l = keep (node_path_at old i) i (record { inside = l; there = refl })

pub heard_kept : (old new : List Node) (hearsay : List Hearsay) (heard : List HeardRank) → KeepNumbers old new
    → AreHeardAt old hearsay heard → AreHeardAt new hearsay heard
heard_kept old new hearsay heard keep was = record {
  inside = λ k d l. (number_kept old new (get_or hearsay k d).directory keep (was.inside k d l)).inside;
  are = same hearsay was.inside ∙ was.are;
} where
  same : (hs : List Hearsay) → All (λ (said : Hearsay). said.directory < length old) hs → map (heard_at new) hs ≡ map (heard_at old) hs
  same [] inside = refl
  same (h ∷ hs) inside =
      ap (λ (p : List ℕ). record { path = p; by = h.by; authority = h.authority } ∷ map (heard_at new) hs)
      (number_kept old new h.directory keep (inside 0 h (omega arith))).there
      ∙ ap (λ (those : List HeardRank). heard_at old h ∷ those) (same hs (λ k d l. inside (suc k) d (omega (arith, l))))

pub numbers_kept_of : (old new : List Node) (numbers : List ℕ) (paths : List (List ℕ)) → KeepNumbers old new
    → AreNumbersOf old numbers paths → AreNumbersOf new numbers paths
numbers_kept_of old new numbers paths keep was = record {
  inside = λ k d l. (number_kept old new (get_or numbers k d) keep (was.inside k d l)).inside;
  are = same numbers was.inside ∙ was.are;
} where
  same : (is : List ℕ) → All (λ i. i < length old) is → map (node_path_at new) is ≡ map (node_path_at old) is
  same [] inside = refl
  same (i ∷ is) inside =
      ap (λ (p : List ℕ). p ∷ map (node_path_at new) is) (number_kept old new i keep (inside 0 i (omega arith))).there
      ∙ ap (λ (those : List (List ℕ)). node_path_at old i ∷ those) (same is (λ k d l. inside (suc k) d (omega (arith, l))))

pub all_single : {X : Type 0} (P : X → Type 0) (x : X) → P x → All P (x ∷ [])
all_single P x h zero d l = h
all_single P x h (suc k) d l = absurd (omega (arith, l))

-- one more of each
pub heard_push : (nodes : List Node) (hearsay : List Hearsay) (said : Hearsay) (heard : List HeardRank) (path : List ℕ)
    → IsNumberOf nodes path said.directory → AreHeardAt nodes hearsay heard
    → AreHeardAt nodes (hearsay ++ said ∷ []) (heard ++ record { path = path; by = said.by; authority = said.authority } ∷ [])
heard_push nodes hearsay said heard path at was = record {
  inside = All-append (λ (s : Hearsay). s.directory < length nodes) hearsay (said ∷ []) was.inside
      (all_single (λ (s : Hearsay). s.directory < length nodes) said at.inside);
  are = map-append (heard_at nodes) hearsay (said ∷ [])
      ∙ (ap (λ (those : List HeardRank). those ++ heard_at nodes said ∷ []) was.are
      ∙ ap (λ (p : List ℕ). heard ++ record { path = p; by = said.by; authority = said.authority } ∷ []) at.there);
}

pub number_push : (nodes : List Node) (numbers : List ℕ) (i : ℕ) (paths : List (List ℕ)) (path : List ℕ) → IsNumberOf nodes path i
    → AreNumbersOf nodes numbers paths
    → AreNumbersOf nodes (numbers ++ i ∷ []) (paths ++ path ∷ [])
number_push nodes numbers i paths path at was = record {
  inside = All-append (λ j. j < length nodes) numbers (i ∷ []) was.inside (all_single (λ j. j < length nodes) i at.inside);
  are = map-append (node_path_at nodes) numbers (i ∷ [])
      ∙ (ap (λ (those : List (List ℕ)). those ++ node_path_at nodes i ∷ []) was.are ∙ ap (λ (p : List ℕ). paths ++ p ∷ []) at.there);
}

-- nothing is said yet
pub told_nothing : (g : Gathering) → AreAsTold g.tree.nodes [] → g.hearsay.items ≡ [] → g.tops.items ≡ []
    → ((fragment : List ℕ) → path_number g.fragments fragment ≡ None) → ArePathsNamed g.tree.seen [] g.tree.nodes → HasTold g []
told_nothing g told hearsay tops none named = record {
  told = told;
  heard = subst (λ (hs : List Hearsay). AreHeardAt g.tree.nodes hs []) (sym hearsay) (record { inside = λ k d l. absurd (omega (arith, l)); are = refl });
  tops = subst (λ (is : List ℕ). AreNumbersOf g.tree.nodes is []) (sym tops) (record { inside = λ k d l. absurd (omega (arith, l)); are = refl });
  claims = λ k d l. absurd (omega (arith, l));
  only = λ rank fragment is. absurd (none-some rank (sym (none fragment) ∙ is));
  named = named;
}

-- more directories are named
pub still_has : (g h : Gathering) → StillTold g.tree.nodes h.tree.nodes → h.hearsay.items ≡ g.hearsay.items → h.tops.items ≡ g.tops.items
    → h.fragments ≡ g.fragments
    → ((facts : List Fact) → ArePathsNamed g.tree.seen facts g.tree.nodes → ArePathsNamed h.tree.seen facts h.tree.nodes) → StillHasTold g h
still_has g h still hearsay tops claims named facts was = record {
  told = still.told facts was.told;
  heard = subst (λ (hs : List Hearsay). AreHeardAt h.tree.nodes hs (heard_in facts)) (sym hearsay)
      (heard_kept g.tree.nodes h.tree.nodes g.hearsay.items (heard_in facts) still.numbers was.heard);
  tops = subst (λ (is : List ℕ). AreNumbersOf h.tree.nodes is (tops_in facts)) (sym tops)
      (numbers_kept_of g.tree.nodes h.tree.nodes g.tops.items (tops_in facts) still.numbers was.tops);
  claims = subst (λ (names : Names). All (IsNotedIn names) facts) (sym claims) was.claims;
  only = subst (λ (names : Names). AreClaimsIn names facts) (sym claims) was.only;
  named = named facts was.named;
}

pub claims_kept : (old new : Names) (facts : List Fact) → StillClaimed old new → All (IsNotedIn old) facts → All (IsNotedIn new) facts
claims_kept old new facts keep was k d l rank fragment claim = keep fragment rank (was k d l rank fragment claim)

-- a claim by some facts is one by more of them
pub claims_more : (facts more : List Fact) (rank : ℕ) (fragment : List ℕ) → ClaimsFragment facts rank fragment → ClaimsFragment (facts ++ more) rank fragment
claims_more facts more rank fragment claim =
    let f : Fact = claim.0 in
    let at : ℕ = claim.1.0 in
    let inside : at < length facts = claim.1.1.0 in (
      f,
      (
        at,
        (omega (arith, inside, length-append facts more), claim.1.1.1 ∙ sym (get_or_append_left facts more f at inside)),
      ),
      claim.2,
    )

pub claims_last : (facts : List Fact) (f : Fact) (rank : ℕ) (fragment : List ℕ) → ClaimsByFact rank fragment f → ClaimsFragment (facts ++ f ∷ []) rank fragment
claims_last facts f rank fragment claim = (f, (length facts, (omega (arith, length_push facts f), sym (get_or_push facts f f (length facts) refl))), claim)

-- what another rank claims, it claims by the facts before those of a rank
abbrev IsOfRank : ℕ → Fact → Type 0
IsOfRank rank f = (other : ℕ) (fragment : List ℕ) → ClaimsByFact other fragment f → other ≡ rank

pub claims_before : (facts : List Fact) (rank : ℕ) (roots : List SubtreeRoot) (other : ℕ) (fragment : List ℕ) → other ≢ rank
    → ClaimsFragment (facts ++ roots_in rank roots) other fragment
    → ClaimsFragment facts other fragment
claims_before facts rank roots other fragment apart claim =
    let f : Fact = claim.0 in
    let at : ℕ = claim.1.0 in
    let those : List Fact = roots_in rank roots in
    let inside : at < length (facts ++ those) = claim.1.1.0 in
    let of_rank : All (IsOfRank rank) those = All-map (IsOfRank rank) (Root rank) (filter (λ root. is_user_path root.path.items) roots)
    (λ k d l who which by. sym by.0) in
    ⊎_elim (λ (before : at < length facts). (f, (at, (before, claim.1.1.1 ∙ get_or_append_left facts those f at before)), claim.2))
    (λ (after : length facts ≤ at).
    let is : f ≡ get_or those (at - length facts) f = claim.1.1.1 ∙ get_or-append_right facts those (length facts) at f refl after in
    absurd (apart (of_rank (at - length facts) f (omega (arith, inside, after, length-append facts those)) other fragment
    (subst (ClaimsByFact other fragment) is claim.2))))
    (cases_lt at (length facts))

-- one more fact
pub piece : {A : Type 0} (of : Fact → List A) (facts : List Fact) (f : Fact) → flat_map of (facts ++ f ∷ []) ≡ flat_map of facts ++ of f
piece of facts f = flat_map-append of facts (f ∷ []) ∙ ap (λ rest. flat_map of facts ++ rest) (append-nil (of f))

-- a value says nothing of these
pub no_piece : {A : Type 0} (of : Fact → List A) (facts : List Fact) (f : Fact) → of f ≡ [] → flat_map of (facts ++ f ∷ []) ≡ flat_map of facts
no_piece of facts f none = piece of facts f ∙ (ap (λ rest. flat_map of facts ++ rest) none ∙ append-nil (flat_map of facts))

pub told_value : (g : Gathering) (nodes : List Node) (facts : List Fact) (dir : ListedDir) → AreAsTold nodes (facts ++ Value dir ∷ [])
    → KeepNumbers g.tree.nodes nodes → HasTold g facts
    → AreAsTold nodes (facts ++ Value dir ∷ []) × AreHeardAt nodes g.hearsay.items (heard_in (facts ++ Value dir ∷ []))
    × AreNumbersOf nodes g.tops.items (tops_in (facts ++ Value dir ∷ []))
    × All (IsNotedIn g.fragments) (facts ++ Value dir ∷ []) × AreClaimsIn g.fragments (facts ++ Value dir ∷ [])
told_value g nodes facts dir told keep was = (
  told,
  subst (AreHeardAt nodes g.hearsay.items) (sym (no_piece heard_in_fact facts (Value dir) refl))
      (heard_kept g.tree.nodes nodes g.hearsay.items (heard_in facts) keep was.heard),
  subst (AreNumbersOf nodes g.tops.items) (sym (no_piece tops_in_fact facts (Value dir) refl))
      (numbers_kept_of g.tree.nodes nodes g.tops.items (tops_in facts) keep was.tops),
  All-append (IsNotedIn g.fragments) facts (Value dir ∷ []) was.claims (all_single (IsNotedIn g.fragments) (Value dir) (λ rank fragment claim. absurd claim)),
  λ rank fragment is. claims_more facts (Value dir ∷ []) rank fragment (was.only rank fragment is),
)

-- what is told of the same directories
pub heard_same : (a b : List Node) (h k : List Hearsay) (heard : List HeardRank) → a ≡ b → h ≡ k → AreHeardAt a h heard → AreHeardAt b k heard
heard_same a b h k heard nodes hearsay was = subst (λ (ns : List Node). AreHeardAt ns k heard) nodes
    (subst (λ (hs : List Hearsay). AreHeardAt a hs heard) hearsay was)

pub numbers_same_of : (a b : List Node) (h k : List ℕ) (paths : List (List ℕ)) → a ≡ b → h ≡ k → AreNumbersOf a h paths → AreNumbersOf b k paths
numbers_same_of a b h k paths nodes numbers was = subst (λ (ns : List Node). AreNumbersOf ns k paths) nodes
    (subst (λ (is : List ℕ). AreNumbersOf a is paths) numbers was)

-- a path up to the first slash behind its first byte
pub top_at : (path : List ℕ) (end : ℕ) → 0 < end → end ≤ length path → ((k : ℕ) → 0 < k → k < end → get_or path k 0 ≢ 47)
    → (end < length path → get_or path end 0 ≡ 47)
    → take end path ≡ top_of_path path
top_at [] end some l apart stop = absurd (omega (arith, some, l))
top_at (c ∷ cs) zero some l apart stop = absurd (omega (arith, some))
top_at (c ∷ cs) (suc e) some l apart stop =
    ap (λ (n : ℕ). c ∷ take n cs)
    (sym (prefix_len_is (λ (b : ℕ). not (b == 47)) cs e 0 (omega (arith, l))
    (λ k m. ap not (ne_eqb (get_or cs k 0) 47 (apart (suc k) (omega arith) (omega (arith, m)))))
    (λ m. ap not (eq-eqb (get_or cs e 0) 47 (stop (omega (arith, m)))))))

pub top_whole : (path : List ℕ) (end : ℕ) → length path ≤ end → ((k : ℕ) → 0 < k → k < end → get_or path k 0 ≢ 47) → path ≡ top_of_path path
top_whole [] end far apart = refl
top_whole (c ∷ cs) end far apart =
    sym (take_all (length (c ∷ cs)) (c ∷ cs) (omega arith))
    ∙ top_at (c ∷ cs) (length (c ∷ cs)) (omega arith) (omega arith) (λ k some l. apart k some (omega (arith, l, far))) (λ l. absurd (omega (arith, l)))

-- is in the tree of users where the path is
or_false : (a b : Bool) → (a || b) ≡ false → (a ≡ false) × (b ≡ false)
or_false true b h = absurd (false≢true (sym h))
or_false false b h = (refl, h)

and_true : (a b : Bool) → (a && b) ≡ true → (a ≡ true) × (b ≡ true)
and_true true b h = (refl, h)
and_true false b h = absurd (false≢true h)

not_true : (b : Bool) → not b ≡ true → b ≡ false
not_true true h = absurd (false≢true h)
not_true false h = refl

any_take : (p : ℕ → Bool) (n : ℕ) (xs : List ℕ) → list_any p xs ≡ false → list_any p (take n xs) ≡ false
any_take p zero xs h = refl
any_take p (suc n) [] h = refl
any_take p (suc n) (x ∷ xs) h = let o = or_false (p x) (list_any p xs) h in ap (λ (b : Bool). b || list_any p (take n xs)) o.0 ∙ any_take p n xs o.1

user_by : (c : ℕ) (cs : List ℕ) → is_user_path (c ∷ cs) ≡ ((c == 47) && not (list_any (λ b. b == 0) (c ∷ cs)))
user_by c cs = ap (λ (b : Bool). b || ((c == 47) && not (list_any (λ k. k == 0) (c ∷ cs)))) (ne_eqb (length (c ∷ cs)) 0 (λ none. absurd (omega (arith, none))))

pub user_top : (path : List ℕ) (end : ℕ) → 0 < end → is_user_path path ≡ true → is_user_path (take end path) ≡ true
user_top path zero some user = absurd (omega (arith, some))
user_top [] (suc e) some user = refl
user_top (c ∷ cs) (suc e) some user =
    let both = and_true (c == 47) (not (list_any (λ b. b == 0) (c ∷ cs))) (sym (user_by c cs) ∙ user) in
    user_by c (take e cs)
    ∙ (ap (λ (b : Bool). b && not (list_any (λ k. k == 0) (c ∷ take e cs))) both.0
    ∙ ap not (any_take (λ k. k == 0) (suc e) (c ∷ cs) (not_true (list_any (λ b. b == 0) (c ∷ cs)) both.1)))

-- a path but the root's is its first name in the root, or lies below that
abbrev first_name : List ℕ → List ℕ
first_name = take_while (λ c. not (c == 47))

name_single : (cs : List ℕ) → list_any (λ c. c == 47) (first_name cs) ≡ false
name_single [] = refl
name_single (x ∷ xs) = ap (list_any (λ c. c == 47)) (take_while-cons (λ c. not (c == 47)) x xs) ∙ by (x == 47) refl (name_single xs) where
  by : (b : Bool) → (x == 47) ≡ b → list_any (λ c. c == 47) (first_name xs) ≡ false → list_any (λ c. c == 47) (cond (not b) (x ∷ first_name xs) []) ≡ false
  by true is rest = refl
  by false is rest = ap (λ (b : Bool). b || list_any (λ c. c == 47) (first_name xs)) is ∙ rest

abbrev IsNameOf : List ℕ → List ℕ → Type 0
IsNameOf cs name = (cs ≡ name) ⊎ ((rest : List ℕ) × (cs ≡ name ++ 47 ∷ rest))

name_split : (cs : List ℕ) → IsNameOf cs (first_name cs)
name_split [] = inl refl
name_split (x ∷ xs) = subst (IsNameOf (x ∷ xs)) (sym (take_while-cons (λ c. not (c == 47)) x xs)) (by (x == 47) refl (name_split xs)) where
  by : (b : Bool) → (x == 47) ≡ b → IsNameOf xs (first_name xs) → IsNameOf (x ∷ xs) (cond (not b) (x ∷ first_name xs) [])
  by true is rest = inr (xs, ap (λ (c : ℕ). c ∷ xs) (eqb-true x 47 is))
  by false is (inl whole) = inl (ap (λ (ys : List ℕ). x ∷ ys) whole)
  by false is (inr cut) = inr (cut.0, ap (λ (ys : List ℕ). x ∷ ys) cut.1)

pub lies_in_top : (path top : List ℕ) → top ≡ top_of_path path → is_user_path path ≡ true → (path ≡ []) ⊎ LiesInTop path top
lies_in_top [] top is user = inl refl
lies_in_top (c ∷ cs) top is user = inr (subst (LiesInTop (c ∷ cs)) (sym is) (record {
  in_root = record { name = first_name cs; whole = ap (λ (b : ℕ). b ∷ first_name cs) slash; single = name_single cs };
  in_top = longer (first_name cs) (name_split cs);
})) where
  slash : c ≡ 47
  slash = eqb-true c 47 (and_true (c == 47) (not (list_any (λ b. b == 0) (c ∷ cs))) (sym (user_by c cs) ∙ user)).0

  longer : (name : List ℕ) → IsNameOf cs name → IsNameOf (c ∷ cs) (c ∷ name)
  longer name (inl whole) = inl (ap (λ (ys : List ℕ). c ∷ ys) whole)
  longer name (inr cut) = inr (cut.0, ap (λ (ys : List ℕ). c ∷ ys) cut.1)
