-- The test for connected sets is their definition.
use Rattle.std.proofs.Common.{◌≡◌, ◌≢◌, ℕ, zero, suc, ◌+◌, ◌<◌, Bool, true, false, ◌&&◌, not, eqb, cond, List}
use Rattle.std.proofs.Common.{[], ◌∷◌, length, Option, Some, None, refl, sym, ap, ◌∙◌, subst, inl, inr, ◌⊎◌, arith}
use Rattle.std.proofs.lemmas.Bool.{and_from, and_parts, cases_Bool, cases_eq, eqb-true, ne_eqb, not-true, or_cases, or_from, or_left, or_parts, or_right}
use Rattle.std.specs.List.{count_by}
use Rattle.export_protocol.specs.Cluster.{World}
use Rattle.export_protocol.specs.Authority.{is_among}
use Rattle.export_protocol.specs.Step.{run, start, repeats, parent_among, is_connected}
use Rattle.export_protocol.specs.declared.event.Event.{Event}
use Rattle.export_protocol.specs.Roots.{parent_of}
use Rattle.export_protocol.specs.Connected.{named_parent, parent_in, HangsTogether, TestsConnected, AreParents, AcceptsConnected}
use Rattle.export_protocol.specs.View.{IsReached}
use Rattle.export_protocol.proofs.Tidy.{by_tidy}
use Rattle.export_protocol.proofs.Lists.{among_at}
use Rattle.export_protocol.proofs.Lookups.{itself}
use Rattle.export_protocol.proofs.Named.{never_unconnected}
use Rattle.export_protocol.proofs.Tidy.{Tidy, run_tidy, start_tidy}
use Rattle.mds_types.specs.Connected.{IsChain, IsParentOrChild}
use Rattle.std.specs.List.{AllPairs, Contains}
use Rattle.std.proofs.lemmas.List.Recursion.{is_count_by}

-- a chain of members, by the world's own parents
data Chain (w : World) (dirs : List ℕ) : ℕ → ℕ → Type 0 where
  here : {d : ℕ} → is_among dirs d ≡ true → Chain w dirs d d
  to_parent : {c p d : ℕ} → is_among dirs c ≡ true → parent_of w c ≡ Some p → Chain w dirs p d → Chain w dirs c d
  to_child : {c p d : ℕ} → is_among dirs p ≡ true → parent_of w c ≡ Some p → Chain w dirs c d → Chain w dirs p d

-- some directory, none twice, and each two joined
abbrev AreJoined : World → List ℕ → Type 0
AreJoined w dirs =
    ((d : ℕ) × (is_among dirs d ≡ true)) × (repeats dirs ≡ false)
    × ((c d : ℕ) → is_among dirs c ≡ true → is_among dirs d ≡ true → Chain w dirs c d)

begins_among : {w : World} {dirs : List ℕ} {c d : ℕ} → Chain w dirs c d → is_among dirs c ≡ true
begins_among (here i) = i
begins_among (to_parent i e k) = i
begins_among (to_child i e k) = i

abbrev number_of : (ℕ → Bool) → List ℕ → ℕ
number_of p [] = 0
number_of p (d ∷ ds) = cond (p d) (1 + number_of p ds) (number_of p ds)

counts : (p : ℕ → Bool) (ds : List ℕ) → number_of p ds ≡ count_by p ds
counts p ds = is_count_by (number_of p) p refl (λ x xs. refl) ds

among_tail : (c : ℕ) (cs : List ℕ) (a : ℕ) → is_among (c ∷ cs) a ≡ true → (c ≡ a) ⊎ (is_among cs a ≡ true)
among_tail c cs a h = elim (or_cases (eqb c a) (is_among cs a) h) [ inl e ↦ inl (eqb-true c a e) | inr i ↦ inr i ]

among_more : (c : ℕ) (cs : List ℕ) (a : ℕ) → is_among cs a ≡ true → is_among (c ∷ cs) a ≡ true
among_more c cs a h = or_right (eqb c a) (is_among cs a) h

among_first : (c : ℕ) (cs : List ℕ) → is_among (c ∷ cs) c ≡ true
among_first c cs = or_left (eqb c c) (is_among cs c) (itself c)

none_pass : (p : ℕ → Bool) (ds : List ℕ) → number_of p ds ≡ 0 → (a : ℕ) → is_among ds a ≡ true → p a ≡ false
none_pass p [] h a i = absurd (cc)
none_pass p (c ∷ cs) h a i = elim (among_tail c cs a i) [
  | inl e ↦ subst (λ x. p x ≡ false) e (parts (p c) (number_of p cs) h).0
  | inr j ↦ none_pass p cs (parts (p c) (number_of p cs) h).1 a j
]
  where
    parts : (b : Bool) (n : ℕ) → cond b (1 + n) n ≡ 0 → (b ≡ false) × (n ≡ 0)
    parts b n k = (grind arith, grind arith)

one_passes : (p : ℕ → Bool) (ds : List ℕ) → number_of p ds ≡ 1 → (a b : ℕ) → is_among ds a ≡ true → p a ≡ true → is_among ds b ≡ true → p b ≡ true → a ≡ b
one_passes p [] h a b i k j l = absurd (cc)
one_passes p (c ∷ cs) h a b i k j l = elim (cases_Bool (p c)) [
  | inl t ↦ (let z : number_of p cs ≡ 0 = first (p c) (number_of p cs) t h in sym (only z a i k) ∙ only z b j l)
  | inr f ↦ one_passes p cs (rest (p c) (number_of p cs) f h) a b (later f a i k) k (later f b j l) l
]
  where
    first : (x : Bool) (n : ℕ) → x ≡ true → cond x (1 + n) n ≡ 1 → n ≡ 0
    first x n t m = grind arith

    rest : (x : Bool) (n : ℕ) → x ≡ false → cond x (1 + n) n ≡ 1 → n ≡ 1
    rest x n t m = grind arith

    only : number_of p cs ≡ 0 → (d : ℕ) → is_among (c ∷ cs) d ≡ true → p d ≡ true → c ≡ d
    only z d m t = elim (among_tail c cs d m) [ inl e ↦ e | inr n ↦ absurd (cc (none_pass p cs z d n, t)) ]

    later : p c ≡ false → (d : ℕ) → is_among (c ∷ cs) d ≡ true → p d ≡ true → is_among cs d ≡ true
    later f d m t = elim (among_tail c cs d m) [ inl e ↦ absurd (cc (f, t, e)) | inr n ↦ n ]

none_counted : (p : ℕ → Bool) (ds : List ℕ) → ((a : ℕ) → is_among ds a ≡ true → p a ≡ false) → number_of p ds ≡ 0
none_counted p [] h = refl
none_counted p (c ∷ cs) h = rw (h c (among_first c cs)) (none_counted p cs (λ a i. h a (among_more c cs a i)))

one_counted : (p : ℕ → Bool) (ds : List ℕ) (t : ℕ) → repeats ds ≡ false → is_among ds t ≡ true → p t ≡ true →
    ((a : ℕ) → is_among ds a ≡ true → p a ≡ true → a ≡ t) → number_of p ds ≡ 1
one_counted p [] t r i k h = absurd (cc)
one_counted p (c ∷ cs) t r i k h = elim (cases_Bool (p c)) [
  | inl u ↦ rw (u, none_counted p cs (others u)) refl
  | inr f ↦ rw f (one_counted p cs t (or_parts (is_among cs c) (repeats cs) r).1 (later f) k (λ a j. h a (among_more c cs a j)))
]
  where
    later : p c ≡ false → is_among cs t ≡ true
    later f = elim (among_tail c cs t i) [ inl e ↦ absurd (cc (f, k, e)) | inr n ↦ n ]

    others : p c ≡ true → (a : ℕ) → is_among cs a ≡ true → p a ≡ false
    others u a j = elim (cases_Bool (p a)) [
      | inr f ↦ f
      | inl v ↦
          (let e : a ≡ t = h a (among_more c cs a j) v in
          let g : c ≡ t = h c (among_first c cs) u in
          absurd (cc ((or_parts (is_among cs c) (repeats cs) r).0, j, e, g)))
    ]

module _ (w : World) (tidy : Tidy w) (dirs : List ℕ) where
  abbrev is_top : ℕ → Bool
  is_top d = not (parent_among dirs d (parent_of w d))

  joined : {a b c : ℕ} → Chain w dirs a b → Chain w dirs b c → Chain w dirs a c
  joined (here i) k = k
  joined (to_parent i e j) k = to_parent i e (joined j k)
  joined (to_child i e j) k = to_child i e (joined j k)

  turned : {a b : ℕ} → Chain w dirs a b → Chain w dirs b a
  turned (here i) = here i
  turned (to_parent i e k) = joined (turned k) (to_child (begins_among k) e (here i))
  turned (to_child i e k) = joined (turned k) (to_parent (begins_among k) e (here i))

  -- from each member a chain leads up to a top
  climb : (n d : ℕ) → d < n → is_among dirs d ≡ true → (t : ℕ) × (is_among dirs t ≡ true) × (is_top t ≡ true) × Chain w dirs d t
  climb zero d l i = absurd (omega arith)
  climb (suc n) d l i = go (parent_of w d) refl (climb n)
    where
      go : (o : Option ℕ) → parent_of w d ≡ o
          → ((c : ℕ) → c < n → is_among dirs c ≡ true → (t : ℕ) × (is_among dirs t ≡ true) × (is_top t ≡ true) × Chain w dirs c t) →
          (t : ℕ) × (is_among dirs t ≡ true) × (is_top t ≡ true) × Chain w dirs d t
      go None e ih = (d, i, rw e refl, here i)
      go (Some p) e ih = elim (cases_Bool (is_among dirs p && not (eqb p d))) [
        | inr f ↦ (d, i, rw (e, f) refl, here i)
        | inl t ↦
            (let b : (is_among dirs p ≡ true) × (not (eqb p d) ≡ true) = and_parts (is_among dirs p) (not (eqb p d)) t in
            let m : p < d = tidy.lower d p e (unequal p d b.1) in
            let r : (t : ℕ) × (is_among dirs t ≡ true) × (is_top t ≡ true) × Chain w dirs p t = ih p (omega arith) b.0 in
            (r.0, r.1, r.2, to_parent i e r.3))
      ]
        where
          unequal : (x y : ℕ) → not (eqb x y) ≡ true → x ≢ y
          unequal x y h = grind arith

  data Up : ℕ → ℕ → Type 0 where
    at_it : {d : ℕ} → Up d d
    up_to : {c p d : ℕ} → parent_of w c ≡ Some p → is_among dirs p ≡ true → Up p d → Up c d

  same_parent : (c p q : ℕ) → parent_of w c ≡ Some p → parent_of w c ≡ Some q → p ≡ q
  same_parent c p q h k = cc

  -- a top has no other parent among them
  top_parent : (d p : ℕ) → is_top d ≡ true → parent_of w d ≡ Some p → is_among dirs p ≡ true → p ≡ d
  top_parent d p t e i = elim (cases_eq p d) [ inl s ↦ s | inr n ↦ absurd (clash (eqb p d) (ne_eqb p d n) (rw (e, i) at t)) ]
    where
      clash : (b : Bool) → b ≡ false → not (not b) ≡ true → ⊥
      clash b h k = grind arith

  -- along a chain from a top, each member leads up to it
  rises : (a : ℕ) → is_top a ≡ true → {b d : ℕ} → Chain w dirs b d → Up b a → Up d a
  rises a t (here i) u = u
  rises a t (to_parent {c = b} {p = p} i e k) u = rises a t k (over p e (begins_among k) u)
    where
      over : (q : ℕ) → parent_of w b ≡ Some q → is_among dirs q ≡ true → Up b a → Up q a
      over q f j v = lifted v refl
        where
          lifted : {x : ℕ} → Up x a → x ≡ b → Up q a
          lifted at_it g = subst (λ y. Up y a) (sym (top_parent a q t (subst (λ y. parent_of w y ≡ Some q) (sym g) f) j)) at_it
          lifted (up_to {c = x} {p = r} f' j' v') g = subst (λ y. Up y a) (same_parent b r q (subst (λ y. parent_of w y ≡ Some r) g f') f) v'
  rises a t (to_child i e k) u = rises a t k (up_to e i u)

  -- two tops that are joined are one
  one_top : {a b : ℕ} → is_top b ≡ true → Up b a → b ≡ a
  one_top s at_it = refl
  one_top {a = a} {b = b} s (up_to {p = p} e i u) = sym (top_parent b p s e i) ∙ one_top (subst (λ y. is_top y ≡ true) (sym (top_parent b p s e i)) s) u

  tests_sound : is_connected w dirs ≡ true → AreJoined w dirs
  tests_sound h =
      let a : (not (repeats dirs) ≡ true) × (eqb (count_by is_top dirs) 1 ≡ true) = and_parts (not (repeats dirs)) (eqb (count_by is_top dirs) 1) h in
      let n : number_of is_top dirs ≡ 1 = counts is_top dirs ∙ eqb-true (count_by is_top dirs) 1 a.1 in (
        some dirs n,
        not-true (repeats dirs) a.0,
        λ c d i j.
            (let s : (t : ℕ) × (is_among dirs t ≡ true) × (is_top t ≡ true) × Chain w dirs c t = climb (suc c) c (omega arith) i in
            let u : (t : ℕ) × (is_among dirs t ≡ true) × (is_top t ≡ true) × Chain w dirs d t = climb (suc d) d (omega arith) j in
            let e : u.0 ≡ s.0 = one_passes is_top dirs n u.0 s.0 u.1 u.2 s.1 s.2 in
            joined s.3 (turned (subst (λ y. Chain w dirs d y) e u.3))),
      )
    where
      some : (ds : List ℕ) → number_of is_top ds ≡ 1 → (d : ℕ) × (is_among ds d ≡ true)
      some [] k = absurd (cc)
      some (c ∷ cs) k = (c, among_first c cs)

  tests_complete : AreJoined w dirs → is_connected w dirs ≡ true
  tests_complete h =
      let s : (t : ℕ) × (is_among dirs t ≡ true) × (is_top t ≡ true) × Chain w dirs h.0.0 t = climb (suc h.0.0) h.0.0 (omega arith) h.0.1 in
      let n : number_of is_top dirs ≡ 1 = one_counted is_top dirs s.0 h.1 s.1 s.2
      (λ a i t. one_top t (rises s.0 s.2 (h.2 s.0 a s.1 i) at_it)) in
      and_from (not (repeats dirs)) (eqb (count_by is_top dirs) 1) (rw h.1 refl) (rw (← counts is_top dirs, n) refl)

-- the same in the words of lists

among_from : (xs : List ℕ) (x : ℕ) → Contains xs x → is_among xs x ≡ true
among_from xs x h = subst (λ y. is_among xs y ≡ true) h.2 (among_at xs h.0 x h.1)

contains_from : (xs : List ℕ) (x : ℕ) → is_among xs x ≡ true → Contains xs x
contains_from [] x h = absurd (cc)
contains_from (y ∷ ys) x h = elim (among_tail y ys x h) [
  | inl e ↦ (0, omega arith, e)
  | inr i ↦ (let r : Contains ys x = contains_from ys x i in (suc r.0, omega (arith, r.1), r.2))
]

first_member : (xs : List ℕ) → 0 < length xs → (d : ℕ) × (is_among xs d ≡ true)
first_member [] h = absurd (omega arith)
first_member (x ∷ xs) h = (x, among_first x xs)

repeats_none : (xs : List ℕ) → AllPairs (λ c d. c ≢ d) xs → repeats xs ≡ false
repeats_none [] h = refl
repeats_none (x ∷ xs) h = or_from (is_among xs x) (repeats xs) (fresh (is_among xs x) refl)
    (repeats_none xs (λ i j d l m. h (suc i) (suc j) d (omega arith) (omega arith)))
  where
    fresh : (b : Bool) → is_among xs x ≡ b → b ≡ false
    fresh false e = refl
    fresh true e = let c : Contains xs x = contains_from xs x e in absurd (h 0 (suc c.0) x (omega arith) (omega (arith, c.1)) (sym c.2))

repeated_none : (xs : List ℕ) → repeats xs ≡ false → AllPairs (λ c d. c ≢ d) xs
repeated_none [] h = λ i j d l m. absurd (omega arith)
repeated_none (x ∷ xs) h = pairs (repeated_none xs (or_parts (is_among xs x) (repeats xs) h).1)
  where
    pairs : AllPairs (λ c d. c ≢ d) xs → AllPairs (λ c d. c ≢ d) (x ∷ xs)
    pairs rest zero zero d l m e = absurd (omega arith)
    pairs rest zero (suc j) d l m e =
        absurd (cc ((or_parts (is_among xs x) (repeats xs) h).0, subst (λ y. is_among xs y ≡ true) (sym e) (among_at xs j d (omega arith))))
    pairs rest (suc i) zero d l m e = absurd (omega arith)
    pairs rest (suc i) (suc j) d l m e = rest i j d (omega arith) (omega arith) e

module _ (w : World) (dirs : List ℕ) where
  -- parents from elsewhere, where what isn't a child of another names itself
  module _ (parent : ℕ → ℕ) (fits : (d : ℕ) → Contains dirs d → (parent_of w d ≡ Some (parent d)) ⊎ (parent d ≡ d)) where
    hop : (c next d : ℕ) → Contains dirs c → Contains dirs next → IsParentOrChild parent c next → Chain w dirs next d → Chain w dirs c d
    hop c next d i j (inl up) k = elim (fits c i) [
      | inl e ↦ to_parent (among_from dirs c i) (e ∙ ap Some up) k
      | inr s ↦ subst (λ y. Chain w dirs y d) (sym up ∙ s) k
    ]
    hop c next d i j (inr down) k = elim (fits next j) [
      | inl e ↦ to_child (among_from dirs c i) (e ∙ ap Some down) k
      | inr s ↦ subst (λ y. Chain w dirs y d) (sym s ∙ down) k
    ]

    by_chain : (chain : List ℕ) (c d : ℕ) → Contains dirs c → IsChain (IsParentOrChild parent) (Contains dirs) c chain d → Chain w dirs c d
    by_chain [] c d i e = subst (λ y. Chain w dirs c y) e (here (among_from dirs c i))
    by_chain (next ∷ chain) c d i link = hop c next d i link.1 link.0 (by_chain chain next d link.1 link.2)

    are_joined : HangsTogether parent dirs → AreJoined w dirs
    are_joined h = (
      first_member dirs h.some,
      repeats_none dirs h.once,
      λ c d i j. (let k : (chain : List ℕ) × IsChain (IsParentOrChild parent) (Contains dirs) c chain d =
          h.joined c d (contains_from dirs c i) (contains_from dirs d j) in by_chain k.0 c d (contains_from dirs c i) k.1),
    )

  as_chain : {c d : ℕ} → Chain w dirs c d → (chain : List ℕ) × IsChain (IsParentOrChild (parent_in w)) (Contains dirs) c chain d
  as_chain (here i) = ([], refl)
  as_chain (to_parent {c = c} {p = p} i e k) =
      let r = as_chain k in (p ∷ r.0, (inl (ap (named_parent c) e), contains_from dirs p (begins_among k), r.1))
  as_chain (to_child {c = c} {p = p} i e k) =
      let r = as_chain k in (c ∷ r.0, (inr (ap (named_parent c) e), contains_from dirs c (begins_among k), r.1))

  hangs_together : AreJoined w dirs → HangsTogether (parent_in w) dirs
  hangs_together h = record {
    some = (let c : Contains dirs h.0.0 = contains_from dirs h.0.0 h.0.1 in omega (arith, c.1));
    once = repeated_none dirs h.1;
    joined = λ c d i j. as_chain (h.2 c d (among_from dirs c i) (among_from dirs d j));
  }

  in_fits : (d : ℕ) → Contains dirs d → (parent_of w d ≡ Some (parent_in w d)) ⊎ (parent_in w d ≡ d)
  in_fits d i = go (parent_of w d)
    where
      go : (o : Option ℕ) → (o ≡ Some (named_parent d o)) ⊎ (named_parent d o ≡ d)
      go None = inr refl
      go (Some p) = inl refl

pub promised_connected : (limit ranks : ℕ) (events : List Event) → TestsConnected (run (start limit ranks) events)
promised_connected limit ranks events dirs =
    let w : World = run (start limit ranks) events in
    let tidy : Tidy w = run_tidy events (start limit ranks) (start_tidy limit ranks) in
    (λ h. hangs_together w dirs (tests_sound w tidy dirs h), λ h. tests_complete w tidy dirs (are_joined w dirs (parent_in w) (in_fits w dirs) h))

pub accepts_connected : (w : World) → IsReached w → (parent : ℕ → ℕ) (dirs : List ℕ) → AreParents w dirs parent → HangsTogether parent dirs
    → AcceptsConnected w dirs
accepts_connected w reached parent dirs are h = record { passes = passes; accepted = λ from to. never_unconnected w from to dirs passes }
  where
    passes : is_connected w dirs ≡ true
    passes = elim (cases_Bool (is_connected w dirs)) [
      | inl y ↦ y
      | inr n ↦ absurd (by_tidy w reached
          (λ tidy. (let y : is_connected w dirs ≡ true = tests_complete w tidy dirs (are_joined w dirs parent (λ d i. inl (are d i)) h) in
          cc (n, y))))
    ]
