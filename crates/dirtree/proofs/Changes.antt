-- A tree that grows by a directory, or loses one.
use Rattle.std.proofs.Common.{◌≡◌, ◌≢◌, ℕ, ◌<◌, ◌≤◌, List, length, sym, ap, ◌∙◌, refl, arith, [], ◌∷◌}
use Rattle.std.proofs.Common.{◌++◌, ◌⊎◌, inl, inr, zero, suc, set, true, false, cond, ◌&&◌, Option, Some, None}
use Rattle.std.proofs.lemmas.Grind.{common_steps}
use Rattle.std.proofs.lemmas.Bool.{and_parts, and_from, false≢true, cases_lt}
use Rattle.std.proofs.lemmas.Bool.Decides.{Decides-eqb}
use Rattle.std.proofs.lemmas.Slice.Eq.{bytes_eq-Decides}
use Rattle.std.specs.Option.{option_map}
use Rattle.std.specs.Prelude.{is_some, nat_eq}
use Rattle.std.specs.Str.{bytes_eq}
use Rattle.dirtree.specs.Name.{is_name}
use Rattle.dirtree.specs.Tree.{Entry, entry_at, is_there}
use Rattle.dirtree.proofs.Indexed.{IsIndexed}
use Rattle.dirtree.specs.Keeps.{Key, key, key_of, key_at}
use Rattle.dirtree.proofs.Nodes.{there_by_key}

-- where a number is among the entries and one more
pub places : (es : List (Option Entry)) (e : Option Entry) (d : ℕ)
    → ((d < length es) × (entry_at (es ++ e ∷ []) d ≡ entry_at es d))
    ⊎ (((d ≡ length es) × (entry_at (es ++ e ∷ []) d ≡ e)) ⊎ ((length es < d) × (entry_at (es ++ e ∷ []) d ≡ None)))
places es e d = grind (arith, common_steps)

outside : (es : List (Option Entry)) (d : ℕ) → length es ≤ d → entry_at es d ≡ None
outside es d h = grind (arith, common_steps)

pub inside : (es : List (Option Entry)) (d : ℕ) → is_there es d ≡ true → d < length es
inside es d there = elim (cases_lt d (length es)) [ inl below ↦ below | inr past ↦ absurd (false≢true (sym (ap is_some (outside es d past)) ∙ there)) ]

-- a test of a place, as the two facts that it means
picks : (p i : ℕ) (name text : List ℕ) → (nat_eq p i && bytes_eq name text) ≡ true → (p ≡ i) × (text ≡ name)
picks p i name text h = let parts = and_parts (nat_eq p i) (bytes_eq name text) h in ((Decides-eqb p i).0 parts.0, sym ((bytes_eq-Decides name text).0 parts.1))

picked : (i : ℕ) (name : List ℕ) → (nat_eq i i && bytes_eq name name) ≡ true
picked i name = and_from (nat_eq i i) (bytes_eq name name) ((Decides-eqb i i).1 refl) ((bytes_eq-Decides name name).1 refl)

kept_there : (es : List (Option Entry)) (e : Option Entry) (d : ℕ) → is_there es d ≡ true → is_there (es ++ e ∷ []) d ≡ true
kept_there es e d there = elim (places es e d) [
  | inl old ↦ ap is_some old.1 ∙ there
  | inr new ↦ let below = inside es d there in elim new [ inl last ↦ absurd (omega (arith, last.0, below)) | inr past ↦ absurd (omega (arith, past.0, below)) ]
]

kept_key : (es : List (Option Entry)) (e : Option Entry) (d : ℕ) (k : Key) → key_at es d ≡ Some k → key_at (es ++ e ∷ []) d ≡ Some k
kept_key es e d k at = elim (places es e d) [
  | inl old ↦ ap (option_map key_of) old.1 ∙ at
  | inr new ↦ let below = inside es d (there_by_key es d k at) in
      elim new [ inl last ↦ absurd (omega (arith, last.0, below)) | inr past ↦ absurd (omega (arith, past.0, below)) ]
]

last_entry : (es : List (Option Entry)) (e : Option Entry) → entry_at (es ++ e ∷ []) (length es) ≡ e
last_entry es e = elim (places es e (length es)) [
  | inl old ↦ absurd (omega (arith, old.0))
  | inr new ↦ elim new [ inl last ↦ last.1 | inr past ↦ absurd (omega (arith, past.0)) ]
]

none_some : {X : Type 0} {x : X} → None ≡ Some x → ⊥
none_some h = cc

only : {X : Type 0} {x y : X} → Some x ≡ Some y → x ≡ y
only h = cc

pub emptied : (es : List (Option Entry)) (d c : ℕ) → c ≡ d → entry_at (set es d None) c ≡ None
emptied [] d c e = refl
emptied (x ∷ es) zero c e = rw e refl
emptied (x ∷ es) (suc d) c e = rw e (emptied es d d refl)

module _ (es : List (Option Entry)) (indexed after : ℕ → List ℕ → Option ℕ) (index : IsIndexed es indexed) where
  -- the new directory is indexed under its name
  pub grown : (e : Entry) → is_there es e.parent ≡ true → is_name e.name ≡ true → indexed e.parent e.name ≡ None
      → ((p : ℕ) (text : List ℕ) → after p text ≡ cond (nat_eq p e.parent && bytes_eq e.name text) (Some (length es)) (indexed p text))
      → IsIndexed (es ++ Some e ∷ []) after
  grown e there named free changed = record {
    rooted = elim (places es (Some e) 0) [
      | inl old ↦ old.1 ∙ index.rooted
      | inr new ↦ let below = inside es 0 (ap is_some index.rooted) in
          elim new [ inl last ↦ absurd (omega (arith, last.0, below)) | inr past ↦ absurd (omega (arith, past.0, below)) ]
    ];
    above = λ d k some at. elim (places es (Some e) d) [
      | inl old ↦ index.above d k some (sym (ap (option_map key_of) old.1) ∙ at)
      | inr new ↦ elim new [
        | inl last ↦
            let is : key_of e ≡ k = only (sym (ap (option_map key_of) last.1) ∙ at) in
            let below = inside es e.parent there in
            rw (← is) (omega (arith, below, last.0), named)
        | inr past ↦ absurd (none_some (sym (ap (option_map key_of) past.1) ∙ at))
      ]
    ];
    held = λ p d name at. elim (nat_eq p e.parent && bytes_eq e.name name) as
        (λ b. (nat_eq p e.parent && bytes_eq e.name name) ≡ b → cond b (Some (length es)) (indexed p name) ≡ Some d
        → is_there (es ++ Some e ∷ []) p ≡ true) [
          | true ↦ λ is _. kept_there es (Some e) p (rw (picks p e.parent e.name name is).0 there)
          | false ↦ λ is old. kept_there es (Some e) p (index.held p d name old)
        ] refl (sym (changed p name) ∙ at);
    finds = λ p d name at. elim (nat_eq p e.parent && bytes_eq e.name name) as
        (λ b. (nat_eq p e.parent && bytes_eq e.name name) ≡ b → cond b (Some (length es)) (indexed p name) ≡ Some d
        → (0 < d) × (key_at (es ++ Some e ∷ []) d ≡ Some (key p name))) [
          | true ↦ λ is new.
              let here = picks p e.parent e.name name is in
              let last : length es ≡ d = only new in
              let below = inside es e.parent there in
              (omega (arith, last, below), rw (← last, here.0, here.1) (ap (option_map key_of) (last_entry es (Some e))))
          | false ↦ λ is old. let was = index.finds p d name old in (was.0, kept_key es (Some e) d (key p name) was.1)
        ] refl (sym (changed p name) ∙ at);
    found = λ d k some at. elim (places es (Some e) d) [
      | inl old ↦
          let was = index.found d k some (sym (ap (option_map key_of) old.1) ∙ at) in
          changed k.parent k.name ∙ elim (nat_eq k.parent e.parent && bytes_eq e.name k.name) as
          (λ b. (nat_eq k.parent e.parent && bytes_eq e.name k.name) ≡ b → cond b (Some (length es)) (indexed k.parent k.name) ≡ Some d) [
            | true ↦ λ is. let here = picks k.parent e.parent e.name k.name is in absurd (none_some {x = d} (sym free ∙ (rw (← here.0, ← here.1) was)))
            | false ↦ λ is. was
          ] refl
      | inr new ↦ elim new [
        | inl last ↦
            let is : key_of e ≡ k = only (sym (ap (option_map key_of) last.1) ∙ at) in
            rw (← is, changed e.parent e.name, picked e.parent e.name, last.0) refl
        | inr past ↦ absurd (none_some (sym (ap (option_map key_of) past.1) ∙ at))
      ]
    ];
  }

  kept : (d c : ℕ) → c ≢ d → entry_at (set es d None) c ≡ entry_at es c
  kept d c other = grind (arith, common_steps)

  -- a directory that indexes nothing leaves the index of its parent
  pub shrunk : (d : ℕ) (k : Key) → 0 < d → key_at es d ≡ Some k → ((text : List ℕ) → indexed d text ≡ None)
      → ((p : ℕ) (text : List ℕ) → after p text ≡ cond (nat_eq p k.parent && bytes_eq k.name text) None (indexed p text))
      → IsIndexed (set es d None) after
  shrunk d k some at childless changed = record {
    rooted = kept d 0 (λ e. absurd (omega (arith, e, some))) ∙ index.rooted;
    above = λ c j more is. index.above c j more (was c j is);
    held = λ p c name is. let before = old p c name is in
        ap is_some (kept d p (λ e. none_some {x = c} (sym (childless name) ∙ (rw (← e) before.1)))) ∙ index.held p c name before.1;
    finds = λ p c name is.
        let before = old p c name is in
        let found = index.finds p c name before.1 in
        let stays : c ≢ d = λ e. false≢true (sym before.0 ∙ (let same : k ≡ key p name = only (sym at ∙ (rw (← e) found.1)) in rw same (picked p name))) in
        (found.0, ap (option_map key_of) (kept d c stays) ∙ found.1);
    found = λ c j more is.
        let before = index.found c j more (was c j is) in
        changed j.parent j.name ∙ elim (nat_eq j.parent k.parent && bytes_eq k.name j.name) as
        (λ b. (nat_eq j.parent k.parent && bytes_eq k.name j.name) ≡ b → cond b None (indexed j.parent j.name) ≡ Some c) [
          | true ↦ λ hit. let here = picks j.parent k.parent k.name j.name hit in
              absurd (gone c j is (only (sym before ∙ (rw (here.0, here.1) (index.found d k some at)))))
          | false ↦ λ miss. before
        ] refl;
  }
    where
      gone : (c : ℕ) (j : Key) → key_at (set es d None) c ≡ Some j → c ≢ d
      gone c j is e = let none : entry_at (set es d None) c ≡ None = emptied es d c e in none_some (sym (ap (option_map key_of) none) ∙ is)

      was : (c : ℕ) (j : Key) → key_at (set es d None) c ≡ Some j → key_at es c ≡ Some j
      was c j is = sym (ap (option_map key_of) (kept d c (gone c j is))) ∙ is

      old : (p c : ℕ) (name : List ℕ) → after p name ≡ Some c → ((nat_eq p k.parent && bytes_eq k.name name) ≡ false) × (indexed p name ≡ Some c)
      old p c name is = elim (nat_eq p k.parent && bytes_eq k.name name) as
          (λ b. cond b None (indexed p name) ≡ Some c → (b ≡ false) × (indexed p name ≡ Some c)) [
            | true ↦ λ h. absurd (none_some h)
            | false ↦ λ h. (refl, h)
          ] (sym (changed p name) ∙ is)
