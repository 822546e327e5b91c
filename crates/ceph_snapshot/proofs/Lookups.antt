-- What a number that a path gets leaves at other paths.
use Rattle.std.proofs.Common.{◌≡◌, ◌∙◌, ℕ, Bool, false, true, Global, List, Option, Vec, cond, subst, sym, ⊎_elim}
use Rattle.std.proofs.lemmas.Bool.{cases_Bool, cond-false, cond-true}
use Rattle.std.proofs.lemmas.Cmp.{nat_list_eq_equiv}
use Rattle.std.proofs.lemmas.Slice.Eq.{bytes_eq-Decides}
use Rattle.std.specs.HashMap.{HashMap, UpdatesBy, get_by}
use Rattle.std.specs.Str.{bytes_eq}
use Rattle.std.specs.Map.{AreApart, IsKeyTest, KeepsOthers, lookup}

apart : (bs cs ks : List ℕ) → bytes_eq bs cs ≡ false → bytes_eq bs ks ≡ true → bytes_eq cs ks ≡ false
apart bs cs ks n y = nat_list_eq_equiv.symm cs ks ∙ (sym (nat_list_eq_equiv.congr bs ks cs y) ∙ n)

others : {X : Type 0} (eq : Vec ℕ Global → Vec ℕ Global → Bool) (test : Vec ℕ Global → Bool) (old new : List (Vec ℕ Global × X)) → KeepsOthers eq test old new
    → (other : Vec ℕ Global → Bool) → IsKeyTest eq other → AreApart test other → lookup other new ≡ lookup other old
unfolding KeepsOthers
others eq test old new h = h

pub inserted : {X S : Type 0} (m n : HashMap (Vec ℕ Global) X S) (bs : List ℕ) (w : Option X)
    → UpdatesBy (λ (x y : Vec ℕ Global). bytes_eq x.items y.items) (λ (k : Vec ℕ Global). bytes_eq bs k.items) m n w
    → (cs : List ℕ) → get_by (λ (k : Vec ℕ Global). bytes_eq cs k.items) n ≡ cond (bytes_eq bs cs) w (get_by (λ (k : Vec ℕ Global). bytes_eq cs k.items) m)
inserted m n bs w h cs =
    ⊎_elim
    (λ (same : bytes_eq bs cs ≡ true). subst (λ (l : List ℕ). get_by (λ (k : Vec ℕ Global). bytes_eq l k.items) n ≡ w)
    ((bytes_eq-Decides bs cs).0 same) h.1 ∙ sym (cond-true (bytes_eq bs cs) w _ same))
    (λ (other : bytes_eq bs cs ≡ false).
    others (λ (x y : Vec ℕ Global). bytes_eq x.items y.items) (λ (k : Vec ℕ Global). bytes_eq bs k.items) m.entries n.entries h.3
    (λ (k : Vec ℕ Global). bytes_eq cs k.items)
    (λ x y. nat_list_eq_equiv.congr cs x.items y.items) (λ k. apart bs cs k.items other)
    ∙ sym (cond-false (bytes_eq bs cs) w _ other))
    (cases_Bool (bytes_eq bs cs))
