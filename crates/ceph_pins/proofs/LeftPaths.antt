-- Paths that lie in one another, and lists of them.
use Rattle.std.proofs.Common.{◌≡◌, ◌≢◌, ◌∙◌, ◌<◌, ◌≤◌, ◌+◌, ◌++◌, ℕ, IsTrue, List, [], ◌∷◌}
use Rattle.std.proofs.Common.{Option, Some, ap, arith, inr, length, nat_eq, slice_index_or, subst, sym, ⊎_elim}
use Rattle.std.specs.Global.{Global}
use Rattle.std.specs.Prelude.{Vec}
use Rattle.std.specs.List.{slice_get}
use Rattle.std.specs.Option.{option_map, unwrap_or}
use Rattle.std.proofs.lemmas.Bool.{cases_eq, eq-eqb, eqb-true}
use Rattle.std.proofs.lemmas.List.{append-nil, append_cancel_left}
use Rattle.std.proofs.lemmas.Option.{slice_get-map, slice_get_within}
use Rattle.ceph_dumps.specs.PathList.{path_bytes}
use Rattle.ceph_pins.specs.Left.{LiesIn, IsLeft, IsLeftBy}

-- what comes after it is nothing, or begins with a slash
pub in_if_slash : (above path rest : List ℕ) → path ≡ above ++ rest → 1 ≤ length rest
    → (IsTrue (nat_eq (slice_index_or rest 0 0) 47) → LiesIn above path) × (LiesIn above path → IsTrue (nat_eq (slice_index_or rest 0 0) 47))
in_if_slash above path [] is some = absurd (omega (arith, some))
in_if_slash above path (c ∷ rest) is some = (
  λ slash. inr (rest, is ∙ ap (λ (b : ℕ). above ++ b ∷ rest) (eqb-true c 47 slash)),
  λ (lies : LiesIn above path).
      ⊎_elim
      (λ (same : path ≡ above).
      let none : c ∷ rest ≡ [] = append_cancel_left above (c ∷ rest) [] (sym is ∙ (same ∙ sym (append-nil above))) in
      let no : ⊥ = omega (arith, ap length none) in absurd no)
      (λ (below : (other : List ℕ) × (path ≡ above ++ 47 ∷ other)).
      let both : c ∷ rest ≡ 47 ∷ below.0 = append_cancel_left above (c ∷ rest) (47 ∷ below.0) (sym is ∙ below.1) in
      eq-eqb c 47 (ap (λ (xs : List ℕ). slice_index_or xs 0 0) both))
      lies,
)

-- it does not begin so
pub not_in : (above path : List ℕ) → ((rest : List ℕ) → path ≢ above ++ rest) → ¬ LiesIn above path
not_in above path never lies =
    ⊎_elim (λ (same : path ≡ above). never [] (same ∙ sym (append-nil above)))
    (λ (below : (other : List ℕ) × (path ≡ above ++ 47 ∷ other)). never (47 ∷ below.0) below.1) lies

some-same : (one other : List ℕ) → Some one ≡ Some other → one ≡ other
some-same one other is = ap (λ (o : Option (List ℕ)). unwrap_or o []) is

-- the path of a list at a place
pub listed_at : (list : List (Vec ℕ Global)) (k : ℕ) (path : Vec ℕ Global) → slice_get list k ≡ Some path → slice_get (path_bytes list) k ≡ Some path.items
listed_at list k path there = slice_get-map (λ (p : Vec ℕ Global). p.items) list k ∙ ap (option_map (λ (p : Vec ℕ Global). p.items)) there

-- one more that doesn't leave it
pub none_leaves : (list : List (List ℕ)) (path : List ℕ) (at : ℕ) (here : List ℕ) → slice_get list at ≡ Some here → ¬ IsLeftBy here path
    → ((k : ℕ) (listed : List ℕ) → k < at → slice_get list k ≡ Some listed → ¬ IsLeftBy listed path)
    → (k : ℕ) (listed : List ℕ) → k < at + 1 → slice_get list k ≡ Some listed → ¬ IsLeftBy listed path
none_leaves list path at here there never before k listed l at_k by =
    ⊎_elim
    (λ (same : k ≡ at).
    never (subst (λ (p : List ℕ). IsLeftBy p path) (some-same listed here (sym at_k ∙ (ap (slice_get list) same ∙ there))) by))
    (λ (other : k ≢ at). before k listed (omega (arith, l, other)) at_k by) (cases_eq k at)

-- none of all
pub not_left : (list : List (List ℕ)) (path : List ℕ) (at : ℕ) → length list ≤ at
    → ((k : ℕ) (listed : List ℕ) → k < at → slice_get list k ≡ Some listed → ¬ IsLeftBy listed path) → ¬ IsLeft list path
not_left list path at all never left = never left.at left.listed (omega (arith, all, slice_get_within list left.at left.listed left.there)) left.there left.by
