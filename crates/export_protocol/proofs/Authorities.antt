-- How the authority of a directory changes, event by event: what a table of owners has to follow.
use Rattle.std.proofs.Common.{◌≡◌, ℕ, ◌<◌, true, ◌&&◌, length, Option, Some, None, refl, sym, ap, ◌∙◌, inl, inr, ◌⊎◌}
use Rattle.std.proofs.lemmas.Bool.{and_from, or_right}
use Rattle.export_protocol.specs.Cluster.{World}
use Rattle.export_protocol.specs.Authority.{is_inside, owns, is_taking_over, IsAuthority, any_below, is_authority, authority}
use Rattle.export_protocol.proofs.Safe.{Safe}
use Rattle.export_protocol.proofs.Lookups.{any_here, first_none, inside_near, authority_is, one_authority}

-- the test says what the relation says
pub tests_authority : (w : World) (r d : ℕ) → IsAuthority w r d → is_authority w r d ≡ true
tests_authority w r d (inl o) = rw o refl
tests_authority w r d (inr t) = or_right (owns w r d) (any_below (length w.orders) (λ x. is_taking_over w r x && is_inside w x d))
    (any_here (length w.orders) (λ x. is_taking_over w r x && is_inside w x d) t.0 (inside_near w t.0 d t.2)
    (and_from (is_taking_over w r t.0) (is_inside w t.0 d) t.1 t.2))

pub found_or_not : (o : Option ℕ) → (o ≡ None) ⊎ ((r : ℕ) × (o ≡ Some r))
found_or_not None = inl refl
found_or_not (Some r) = inr (r, refl)

module _ (w : World) (safe : Safe w) where
  -- the read finds the one authority
  pub authority_found : (r d : ℕ) → IsAuthority w r d → r < w.ranks → authority w d ≡ Some r
  unfolding authority
  authority_found r d a near = elim (found_or_not (authority w d)) [
    | inl n ↦ absurd (cc (first_none w.ranks (λ s. is_authority w s d) n r near, tests_authority w r d a))
    | inr f ↦ f.1 ∙ ap Some (one_authority w safe f.0 r d (authority_is w d f.0 f.1).1 a)
  ]

  pub no_authority : (d : ℕ) → ((r : ℕ) → IsAuthority w r d → ⊥) → authority w d ≡ None
  no_authority d h = elim (found_or_not (authority w d)) [
    | inl n ↦ n
    | inr f ↦ absurd (h f.0 (authority_is w d f.0 f.1).1)
  ]

-- Where each authority of the old world is one of the new world, and no directory comes or goes, the authority stays.
pub authority_stays : (w v : World) → Safe w → Safe v → v.ranks ≡ w.ranks → (d : ℕ) →
    ((r : ℕ) → IsAuthority w r d → IsAuthority v r d) → ((r : ℕ) → IsAuthority v r d → (s : ℕ) × IsAuthority w s d) → authority v d ≡ authority w d
authority_stays w v safe_w safe_v same d there back = elim (found_or_not (authority w d)) [
  | inr f ↦ authority_found v safe_v f.0 d (there f.0 (authority_is w d f.0 f.1).1) (rw same (authority_is w d f.0 f.1).0) ∙ sym f.1
  | inl n ↦ elim (found_or_not (authority v d)) [
    | inl m ↦ m ∙ sym n
    | inr g ↦
        (let s : (s : ℕ) × IsAuthority w s d = back g.0 (authority_is v d g.0 g.1).1 in
        let t : IsAuthority v s.0 d = there s.0 s.1 in
        let e : s.0 ≡ g.0 = one_authority v safe_v s.0 g.0 d t (authority_is v d g.0 g.1).1 in
        let near : s.0 < w.ranks = rw (e, ← same) (authority_is v d g.0 g.1).0 in
        absurd (cc (n, authority_found w safe_w s.0 d s.1 near)))
  ]
]
