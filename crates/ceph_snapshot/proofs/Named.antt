-- Which paths are named, as more directories are numbered and more is read.
use Rattle.std.proofs.Common.{◌≡◌, ◌∙◌, ◌<◌, ◌≤◌, ◌^◌, ◌⊎◌, ◌++◌, ◌∷◌, [], ℕ, zero, suc, List, Option, Some, None}
use Rattle.std.proofs.Common.{◌+◌, Bool, append_assoc, ap, arith, cond, drop, false, get_or, inl, inr, length, length-append, map, refl, slice_get, subst, sym}
use Rattle.std.proofs.Common.{take, true, ⊎_elim}
use Rattle.std.specs.List.{IsAmong, filter}
use Rattle.std.specs.Option.{option_map, option_map_or, unwrap_or}
use Rattle.std.proofs.lemmas.Bool.{cases_lt, false≢true}
use Rattle.std.proofs.lemmas.List.{get_or_append_left, get_or_push, length_push, length-map, map-append, take-append-drop}
use Rattle.std.proofs.lemmas.List.Elements.{All-append, All-map, filter-append}
use Rattle.std.proofs.lemmas.Option.{none-some, slice_get-get_or, slice_get-map, slice_get_within}
use Rattle.ceph_dumps.specs.declared.loads.FragmentHeat.{FragmentHeat}
use Rattle.ceph_snapshot.specs.declared.names.Names.{Names}
use Rattle.ceph_snapshot.specs.declared.tree.Node.{Node}
use Rattle.ceph_snapshot.specs.declared.tree.Sighting.{Sighting}
use Rattle.ceph_snapshot.specs.Authority.{is_user_path, node_path_at}
use Rattle.ceph_snapshot.specs.Facts.{Fact, fact_path}
use Rattle.ceph_snapshot.specs.Heard.{LiesInTop, top_of_path}
use Rattle.ceph_snapshot.specs.Named.{ArePathsNamed, AreOldOr, AreTooManyNamed, AreTooManyPaths, IsPathNamed, IsOldOr, IsUpFrom}
use Rattle.ceph_snapshot.specs.Names.{IsAtOrAbove, path_number}
use Rattle.ceph_snapshot.specs.Sightings.{IsNumberOf, IsNumbered, PathHeat, TreeData, account_of, of_fragment, seen_in}
use Rattle.ceph_snapshot.proofs.Heard.{all_single}
use Rattle.ceph_snapshot.proofs.Numbers.{seen_more}
use Rattle.ceph_snapshot.proofs.Parents.{get_end, get_more}
use Rattle.ceph_snapshot.proofs.Told.{filtered_more}

abbrev path_of : Node → List ℕ
path_of n = n.directory.path.items

-- what is at or above a path
pub up_both : (a b c : List ℕ) → IsAtOrAbove a b → IsAtOrAbove b c → IsAtOrAbove a c
up_both a b c (inl one) two = subst (λ (p : List ℕ). IsAtOrAbove p c) one two
up_both a b c (inr one) (inl two) = inr (one.0, two ∙ one.1)
up_both a b c (inr one) (inr two) = inr (
  one.0 ++ 47 ∷ two.0,
  two.1 ∙ (ap (λ (p : List ℕ). p ++ 47 ∷ two.0) one.1 ∙ append_assoc a (47 ∷ one.0) (47 ∷ two.0)),
)

pub up_to_slash : (path : List ℕ) (end : ℕ) → end < length path → get_or path end 0 ≡ 47 → IsAtOrAbove (take end path) path
up_to_slash [] end l slash = absurd (omega (arith, l))
up_to_slash (c ∷ cs) zero l slash = inr (cs, ap (λ (b : ℕ). b ∷ cs) slash)
up_to_slash (c ∷ cs) (suc e) l slash =
    ⊎_elim (λ (same : cs ≡ take e cs). inl (ap (λ (ys : List ℕ). c ∷ ys) same))
    (λ (cut : (names : List ℕ) × (cs ≡ take e cs ++ 47 ∷ names)). inr (cut.0, ap (λ (ys : List ℕ). c ∷ ys) cut.1))
    (up_to_slash cs e (omega (arith, l)) slash)

-- the directories, as more are numbered
pub old_same : (nodes : List Node) (Is : List ℕ → Type 0) → AreOldOr nodes Is nodes
old_same nodes Is path i at = inl (i, at)

pub old_both : (a b c : List Node) (P Q R : List ℕ → Type 0) → ((path : List ℕ) → P path → R path) → ((path : List ℕ) → Q path → R path)
    → AreOldOr a P b → AreOldOr b Q c → AreOldOr a R c
old_both a b c P Q R first second one two path i at =
    ⊎_elim (λ (was : (j : ℕ) × IsNumberOf b path j). old_weaker a P R first path (one path was.0 was.1))
    (λ (is : Q path). inr (second path is)) (two path i at) where
      old_weaker : (nodes : List Node) (P R : List ℕ → Type 0) → ((p : List ℕ) → P p → R p) → (p : List ℕ) → IsOldOr nodes P p → IsOldOr nodes R p
      old_weaker nodes P R so p (inl was) = inl was
      old_weaker nodes P R so p (inr is) = inr (so p is)

path_inside : (nodes : List Node) (k : ℕ) (d : Node) → k < length nodes → node_path_at nodes k ≡ path_of (get_or nodes k d)
path_inside nodes k d l = ap (λ (o : Option Node). option_map_or path_of o []) (slice_get-get_or nodes k d l)

-- one more directory, with this path
pub old_more : (nodes : List Node) (n : Node) (path : List ℕ) → path_of n ≡ path → AreOldOr nodes (λ other. IsAtOrAbove other path) (nodes ++ n ∷ [])
old_more nodes n path is other i at =
    ⊎_elim
    (λ (l : i < length nodes).
    inl (
      i,
      record {
        inside = l;
        there = sym (ap (λ (o : Option Node). option_map_or path_of o []) (get_more nodes n i l)) ∙ at.there;
      },
    ))
    (λ (from : length nodes ≤ i).
    let end : i ≡ length nodes = omega (arith, from, at.inside, length_push nodes n) in
    inr (inl (sym is ∙ (sym (ap (λ (o : Option Node). option_map_or path_of o []) (ap (slice_get (nodes ++ n ∷ [])) end ∙ get_end nodes n)) ∙ at.there))))
    (cases_lt i (length nodes))

-- only the root
pub named_root : (n : Node) → path_of n ≡ [] → ArePathsNamed [] [] (n ∷ [])
named_root n is path i at =
    let first : i ≡ 0 = omega (arith, at.inside) in
    inl (sym at.there ∙ (ap (node_path_at (n ∷ [])) first ∙ is))

-- more paths than can be numbered
pub many_weaker : (P Q : List ℕ → Type 0) → ((path : List ℕ) → P path → Q path) → AreTooManyPaths P → AreTooManyPaths Q
many_weaker P Q so many = record { paths = many.paths; apart = many.apart; many = many.many; each = λ k d l. so (get_or many.paths k d) (many.each k d l) }

pub many_both : (a b : List Node) (P Q R : List ℕ → Type 0) → ((path : List ℕ) → P path → R path) → ((path : List ℕ) → Q path → R path)
    → AreOldOr a P b → AreTooManyPaths (IsOldOr b Q) → AreTooManyPaths (IsOldOr a R)
many_both a b P Q R first second one = many_weaker (IsOldOr b Q) (IsOldOr a R) by where
  old : (p : List ℕ) → IsOldOr a P p → IsOldOr a R p
  old p (inl was) = inl was
  old p (inr is) = inr (first p is)

  by : (p : List ℕ) → IsOldOr b Q p → IsOldOr a R p
  by p (inl was) = old p (one p was.0 was.1)
  by p (inr is) = inr (second p is)

-- all numbers are taken, and this path has none
pub many_numbered : (names : Names) (nodes : List Node) (path : List ℕ) (ss : List Sighting) → IsNumbered names nodes ss → path_number names path ≡ None
    → 2 ^ 32 ≤ length nodes → AreTooManyPaths (IsOldOr nodes (λ other. IsAtOrAbove other path))
many_numbered names nodes path ss was fresh full = record {
  paths = paths;
  apart = λ i j q one two. alone i j q (place i q one) (place j q two);
  many = omega (arith, full, size);
  each = All-append Is (map path_of nodes) (path ∷ [])
      (All-map Is path_of nodes (λ k d l. inl (k, record { inside = l; there = path_inside nodes k d l })))
      (all_single Is path (inr (inl refl)));
} where
  paths : List (List ℕ)
  paths = map path_of nodes ++ path ∷ []

  Is : List ℕ → Type 0
  Is = IsOldOr nodes (λ other. IsAtOrAbove other path)

  size : length paths ≡ length nodes + 1
  size = length_push (map path_of nodes) path ∙ ap (λ (n : ℕ). n + 1) (length-map nodes path_of)

  named : (i : ℕ) (q : List ℕ) (o : Option Node) → slice_get nodes i ≡ o → option_map path_of o ≡ Some q → path_number names q ≡ Some i
  named i q None at is = absurd (none-some q is)
  named i q (Some n) at is =
      subst (λ (p : List ℕ). path_number names p ≡ Some i) (ap (λ (o : Option (List ℕ)). unwrap_or o q) is)
      (was.numbered i (account_of n.directory) (ap (option_map (λ (one : Node). account_of one.directory)) at))

  place : (i : ℕ) (q : List ℕ) → slice_get paths i ≡ Some q → (path_number names q ≡ Some i) ⊎ ((i ≡ length nodes) × (q ≡ path))
  place i q at =
      ⊎_elim
      (λ (l : i < length (map path_of nodes)).
      inl (named i q (slice_get nodes i) refl (sym (slice_get-map path_of nodes i) ∙ (sym (get_more (map path_of nodes) path i l) ∙ at))))
      (λ (from : length (map path_of nodes) ≤ i).
      let end : i ≡ length nodes = omega (arith, from, slice_get_within paths i q at, size, length-map nodes path_of) in
      let last : i ≡ length (map path_of nodes) = omega (arith, end, length-map nodes path_of) in
      inr (end, ap (λ (o : Option (List ℕ)). unwrap_or o q) (sym at ∙ (ap (slice_get paths) last ∙ get_end (map path_of nodes) path))))
      (cases_lt i (length (map path_of nodes)))

  alone : (i j : ℕ) (q : List ℕ) → (path_number names q ≡ Some i) ⊎ ((i ≡ length nodes) × (q ≡ path))
      → (path_number names q ≡ Some j) ⊎ ((j ≡ length nodes) × (q ≡ path)) → i ≡ j
  alone i j q (inl one) (inl two) = ap (λ (o : Option ℕ). unwrap_or o i) (sym one ∙ two)
  alone i j q (inl one) (inr two) = absurd (none-some i (sym fresh ∙ (ap (path_number names) (sym two.1) ∙ one)))
  alone i j q (inr one) (inl two) = absurd (none-some j (sym fresh ∙ (ap (path_number names) (sym one.1) ∙ two)))
  alone i j q (inr one) (inr two) = one.0 ∙ sym two.0

-- what is among a list is among a longer one
pub among_more : {X : Type 0} (xs more : List X) (x : X) → IsAmong xs x → IsAmong (xs ++ more) x
among_more xs more x is = (
  is.0,
  (omega (arith, is.1.0, length-append xs more), is.1.1 ∙ sym (get_or_append_left xs more x is.0 is.1.0)),
)

pub among_last : {X : Type 0} (xs : List X) (x : X) → IsAmong (xs ++ x ∷ []) x
among_last xs x = (length xs, (omega (arith, length_push xs x), sym (get_or_push xs x x (length xs) refl)))

pub named_facts : (seen : List PathHeat) (facts more : List Fact) (path : List ℕ) → IsPathNamed seen facts path → IsPathNamed seen (facts ++ more) path
named_facts seen facts more path (inl root) = inl root
named_facts seen facts more path (inr (inl s)) = inr (inl s)
named_facts seen facts more path (inr (inr f)) = inr (inr (f.0, among_more facts more f.0 f.1, f.2))

pub named_heats : (seen heats : List PathHeat) (facts : List Fact) (path : List ℕ) → IsPathNamed seen facts path → IsPathNamed (seen ++ heats) facts path
named_heats seen heats facts path (inl root) = inl root
named_heats seen heats facts path (inr (inl s)) = inr (inl (s.0, among_more seen heats s.0 s.1, s.2))
named_heats seen heats facts path (inr (inr f)) = inr (inr f)

-- by one more fact, or more heat, if it is of a directory of users
pub named_by_fact : (old : List Node) (seen : List PathHeat) (facts more : List Fact) (f : Fact) → (is_user_path (fact_path f) ≡ true → more ≡ f ∷ [])
    → ArePathsNamed seen facts old → (path : List ℕ) → IsOldOr old (IsUpFrom (fact_path f)) path → IsPathNamed seen (facts ++ more) path
named_by_fact old seen facts more f user was path (inl there) = named_facts seen facts more path (was path there.0 there.1)
named_by_fact old seen facts more f user was path (inr up) =
    subst (λ (fs : List Fact). IsPathNamed seen (facts ++ fs) path) (sym (user up.0)) (inr (inr (f, among_last facts f, up.1)))

pub named_by_heat : (old : List Node) (seen more : List PathHeat) (facts : List Fact) (s : PathHeat) → (is_user_path s.path ≡ true → more ≡ s ∷ [])
    → ArePathsNamed seen facts old → (path : List ℕ) → IsOldOr old (IsUpFrom s.path) path → IsPathNamed (seen ++ more) facts path
named_by_heat old seen more facts s user was path (inl there) = named_heats seen more facts path (was path there.0 there.1)
named_by_heat old seen more facts s user was path (inr up) =
    subst (λ (hs : List PathHeat). IsPathNamed (seen ++ hs) facts path) (sym (user up.0)) (inr (inl (s, among_last seen s, up.1)))

pub named_fact : (old new : TreeData) (f : Fact) (facts : List Fact) → new.seen ≡ old.seen → AreOldOr old.nodes (IsUpFrom (fact_path f)) new.nodes
    → ArePathsNamed old.seen facts old.nodes → ArePathsNamed new.seen (facts ++ f ∷ []) new.nodes
named_fact old new f facts seen only was path i at =
    subst (λ (hs : List PathHeat). IsPathNamed hs (facts ++ f ∷ []) path) (sym seen)
    (named_by_fact old.nodes old.seen facts (f ∷ []) f (λ _. refl) was path (only path i at))

pub named_heat : (old new : TreeData) (s : PathHeat) (more : List PathHeat) (facts : List Fact) → (is_user_path s.path ≡ true → more ≡ s ∷ [])
    → new.seen ≡ old.seen ++ more
    → AreOldOr old.nodes (IsUpFrom s.path) new.nodes → ArePathsNamed old.seen facts old.nodes → ArePathsNamed new.seen facts new.nodes
named_heat old new s more facts user seen only was path i at =
    subst (λ (hs : List PathHeat). IsPathNamed hs facts path) (sym seen) (named_by_heat old.nodes old.seen more facts s user was path (only path i at))

-- a path of no user names nothing
pub named_same : (old new : TreeData) (other : List ℕ) → new.seen ≡ old.seen → is_user_path other ≡ false → AreOldOr old.nodes (IsUpFrom other) new.nodes
    → (facts : List Fact) → ArePathsNamed old.seen facts old.nodes → ArePathsNamed new.seen facts new.nodes
named_same old new other seen absent only facts was path i at =
    subst (λ (hs : List PathHeat). IsPathNamed hs facts path) (sym seen)
    (⊎_elim (λ (there : (j : ℕ) × IsNumberOf old.nodes path j). was path there.0 there.1)
    (λ (up : IsUpFrom other path). absurd (false≢true (sym absent ∙ up.0)))
    (only path i at))

-- of what a list says of the directories of users, after some of it
filtered_take : {X Y : Type 0} (of : X → Y) (user : X → Bool) (xs : List X) (n : ℕ)
    → map of (filter user (take n xs)) ++ map of (filter user (drop n xs)) ≡ map of (filter user xs)
filtered_take of user xs n =
    sym (map-append of (filter user (take n xs)) (filter user (drop n xs)))
    ∙ ap (map of) (sym (filter-append user (take n xs) (drop n xs)) ∙ ap (filter user) (take-append-drop n xs))

pub many_told : {X : Type 0} (of : X → Fact) (user : X → Bool) (seen before : List PathHeat) (facts : List Fact) (xs : List X) (at : ℕ) (x : X)
    → at < length xs → x ≡ get_or xs at x → before ≡ seen
    → AreTooManyNamed before ((facts ++ map of (filter user (take at xs))) ++ map of (filter user (x ∷ [])))
    → AreTooManyNamed seen (facts ++ map of (filter user xs))
many_told of user seen before facts xs at x l is same =
    let so_far : List Fact = (facts ++ map of (filter user (take at xs))) ++ map of (filter user (x ∷ [])) in
    let rest : List Fact = map of (filter user (drop (at + 1) xs)) in
    let all : so_far ++ rest ≡ facts ++ map of (filter user xs) = ap (λ (fs : List Fact). fs ++ rest) (filtered_more of user facts xs at x l is)
    ∙ (append_assoc facts (map of (filter user (take (at + 1) xs))) rest ∙ ap (λ (fs : List Fact). facts ++ fs) (filtered_take of user xs (at + 1))) in
    many_weaker (IsPathNamed before so_far) (IsPathNamed seen (facts ++ map of (filter user xs)))
    (λ path named. subst (λ (hs : List PathHeat). IsPathNamed hs (facts ++ map of (filter user xs)) path) same
    (subst (λ (fs : List Fact). IsPathNamed before fs path) all (named_facts before so_far rest path named)))

pub many_seen : (old : List Node) (rank : ℕ) (seen before : List PathHeat) (facts : List Fact) (fs : List FragmentHeat) (at : ℕ) (f : FragmentHeat)
    → at < length fs → f ≡ get_or fs at f → before ≡ seen ++ seen_in rank (take at fs) → ArePathsNamed before facts old
    → AreTooManyPaths (IsOldOr old (IsUpFrom f.path.items)) → AreTooManyNamed (seen ++ seen_in rank fs) facts
many_seen old rank seen before facts fs at f l is same was =
    let more : List PathHeat = cond (is_user_path f.path.items) (of_fragment rank f ∷ []) [] in
    let rest : List PathHeat = seen_in rank (drop (at + 1) fs) in
    let all : (before ++ more) ++ rest ≡ seen ++ seen_in rank fs = ap (λ (hs : List PathHeat). (hs ++ more) ++ rest) same
    ∙ (ap (λ (hs : List PathHeat). hs ++ rest) (append_assoc seen (seen_in rank (take at fs)) more)
    ∙ (ap (λ (hs : List PathHeat). (seen ++ hs) ++ rest) (sym (seen_more rank fs at f l (sym is)))
    ∙ (append_assoc seen (seen_in rank (take (at + 1) fs)) rest
    ∙ ap (λ (hs : List PathHeat). seen ++ hs) (filtered_take (of_fragment rank) (λ one. is_user_path one.path.items) fs (at + 1))))) in
    many_weaker (IsOldOr old (IsUpFrom f.path.items)) (IsPathNamed (seen ++ seen_in rank fs) facts)
    (λ path up. subst (λ (hs : List PathHeat). IsPathNamed hs facts path) all
    (named_heats (before ++ more) rest facts path
    (named_by_heat old before more facts (of_fragment rank f) (λ user. rw user refl) was path up)))

-- the directory just below the root that a path is or lies in
pub up_to_top : (path top : List ℕ) → top ≡ top_of_path path → (path ≡ []) ⊎ LiesInTop path top → IsAtOrAbove top path
up_to_top path top is (inl none) = inl (none ∙ sym (is ∙ ap top_of_path none))
up_to_top path top is (inr lies) = lies.in_top
