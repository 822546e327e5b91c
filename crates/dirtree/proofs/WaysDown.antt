-- The names down to a directory, each after a slash, and when a text is that.
use Rattle.std.proofs.Common.{◌≡◌, ◌≢◌, ◌==◌, ◌↔◌, ℕ, zero, suc, ◌<◌, List, [], ◌∷◌, ◌++◌}
use Rattle.std.proofs.Common.{sym, ap, ◌∙◌, refl, arith, true, append_assoc, Bor, Option, Some, None, Ok}
use Rattle.std.specs.Prelude.{reverse, is_some, MatchOption, Bool, length}
use Rattle.std.specs.List.{flat_map}
use Rattle.std.proofs.lemmas.Bool.Decides.{Decides-eqb}
use Rattle.std.proofs.lemmas.Grind.{reverse_onto, flat_map-append}
use Rattle.std.proofs.lemmas.List.{append-nil, append_cancel_right}
use Rattle.dirtree.specs.Tree.{Entry, IsTree, is_there, parent_of, name_of}
use Rattle.dirtree.specs.Path.{find, names_up}
use Rattle.dirtree.proofs.PathRoundTrip.{path_leads}
use Rattle.dirtree.proofs.Walks.{names_up-step}

abbrev pub way_down : List (Option Entry) → ℕ → List ℕ
way_down es d = flat_map (λ name. 47 ∷ name) (reverse (names_up es d))

pub way_down-step : (es : List (Option Entry)) (d : ℕ) → IsTree es → 0 < d → way_down es d ≡ way_down es (parent_of es d) ++ 47 ∷ name_of es d
way_down-step es d tree some =
    ap (λ (names : List (List ℕ)). flat_map (λ name. 47 ∷ name) (reverse names)) (names_up-step es d tree some)
    ∙ ap (flat_map (λ name. 47 ∷ name)) (reverse_onto (names_up es (parent_of es d)) (name_of es d) [])
    ∙ flat_map-append (λ name. 47 ∷ name) (reverse (names_up es (parent_of es d))) (name_of es d ∷ [])
    ∙ ap (λ (last : List ℕ). way_down es (parent_of es d) ++ 47 ∷ last) (append-nil (name_of es d))

-- the root's path is a slash, and another directory's is the way down to it
pub leads_root : (es : List (Option Entry)) (path : List ℕ) → IsTree es → (find es path ≡ Ok 0) ↔ (path ≡ 47 ∷ [])
leads_root es path tree = (
  (λ h. ((path_leads es path 0 tree).0 h).1),
  (λ is. (path_leads es path 0 tree).1 (ap is_some tree.rooted, is)),
)

pub leads_down : (es : List (Option Entry)) (path : List ℕ) (d : ℕ) → IsTree es → 0 < d → is_there es d ≡ true → (find es path ≡ Ok d) ↔ (path ≡ way_down es d)
leads_down es path zero tree some there = absurd (omega arith)
leads_down es path (suc d) tree some there = (
  (λ h. ((path_leads es path (suc d) tree).0 h).1),
  (λ is. (path_leads es path (suc d) tree).1 (there, is)),
)

-- a text that ends in a slash and a directory's name is the way down to it exactly if the rest is the way down to its parent
pub one_up : (es : List (Option Entry)) (d : ℕ) (text above : List ℕ) → IsTree es → 0 < d → text ≡ above ++ 47 ∷ name_of es d
    → (text ≡ way_down es d) ↔ (above ≡ way_down es (parent_of es d))
one_up es d text above tree some ends = (
  (λ h. append_cancel_right above (way_down es (parent_of es d)) (47 ∷ name_of es d) (sym ends ∙ h ∙ way_down-step es d tree some)),
  (λ h. ends ∙ ap (λ (front : List ℕ). front ++ 47 ∷ name_of es d) h ∙ sym (way_down-step es d tree some)),
)

pub no_way : (es : List (Option Entry)) (d : ℕ) (text : List ℕ) → IsTree es → 0 < d → ((front : List ℕ) → text ≢ front ++ 47 ∷ name_of es d)
    → text ≢ way_down es d
no_way es d text tree some other = λ h. other (way_down es (parent_of es d)) (h ∙ way_down-step es d tree some)

-- a text that ends in a name, and a slash before that
pub slash_and_name : (text above name : List ℕ) (r : Option (Bor (List ℕ))) → text ≡ above ++ name
    → MatchOption r ((front : List ℕ) → above ≢ front ++ 47 ∷ []) (λ front. above ≡ front.now ++ 47 ∷ [])
    → MatchOption r ((front : List ℕ) → text ≢ front ++ 47 ∷ name) (λ front. text ≡ front.now ++ 47 ∷ name)
slash_and_name text above name None ends none = λ front is. none front
    (append_cancel_right above (front ++ 47 ∷ []) name (sym ends ∙ is ∙ sym (append_assoc front (47 ∷ []) name)))
slash_and_name text above name (Some front) ends is = ends ∙ ap (λ (xs : List ℕ). xs ++ name) is ∙ append_assoc front.now (47 ∷ []) name

pub no_name : (text name : List ℕ) → ((front : List ℕ) → text ≢ front ++ name) → (front : List ℕ) → text ≢ front ++ 47 ∷ name
no_name text name other front is = other (front ++ 47 ∷ []) (is ∙ sym (append_assoc front (47 ∷ []) name))

pub empty_or_not : (text : List ℕ) (b : Bool) → b ≡ (length text == 0) → (b ≡ true) ↔ (text ≡ [])
empty_or_not [] b h = (λ is. refl, λ is. h)
empty_or_not (c ∷ text) b h = (
  (λ is. let none : suc (length text) ≡ 0 = (Decides-eqb (suc (length text)) 0).0 (sym h ∙ is) in absurd (omega (arith, none))),
  (λ is. cc),
)
