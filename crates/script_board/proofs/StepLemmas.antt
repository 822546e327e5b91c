-- The directories that paths name, one after another, and a request that is counted.
use Rattle.std.proofs.Common.{◌≡◌, ℕ, ◌+◌, List, [], ◌∷◌, ◌++◌, refl, sym, Result, Ok, Err}
use Rattle.script_board.specs.declared.fault.Fault.{Fault}
use Rattle.script_board.specs.Board.{BoardData}
use Rattle.script_board.specs.Commands.{◌>>=◌, find}
use Rattle.script_board.specs.Steps.{find_all}

only : {x y : List ℕ} → (let r : Result (List ℕ) Fault = Ok x in r) ≡ Ok y → x ≡ y
only h = cc

-- one more path that names a directory
pub find_all_more : (b : BoardData) (paths : List (List ℕ)) (path : List ℕ) (ds : List ℕ) (d : ℕ) → find_all b paths ≡ Ok ds
    → find b path ≡ Ok d → find_all b (paths ++ path ∷ []) ≡ Ok (ds ++ d ∷ [])
find_all_more b [] path ds d before named = let none : ds ≡ [] = sym (only before) in rw (named, none) refl
find_all_more b (first ∷ paths) path ds d before named =
    elim (find b first) as (λ r. (r >>= λ x. find_all b paths >>= λ more. Ok (x ∷ more)) ≡ Ok ds
    → (r >>= λ x. find_all b (paths ++ path ∷ []) >>= λ more. Ok (x ∷ more)) ≡ Ok (ds ++ d ∷ [])) [
      | Ok x ↦ λ h. elim (find_all b paths) as (λ q. find_all b paths ≡ q → (q >>= λ more. Ok (x ∷ more)) ≡ Ok ds
          → (find_all b (paths ++ path ∷ []) >>= λ more. Ok (x ∷ more)) ≡ Ok (ds ++ d ∷ [])) [
            | Ok more ↦ λ is same. let all : x ∷ more ≡ ds = only same in rw (find_all_more b paths path more d is named, ← all) refl
            | Err e ↦ λ is bad. cc
          ] refl h
      | Err e ↦ λ bad. cc
    ] before

-- one that names none, whatever follows
pub find_all_end : (b : BoardData) (paths more : List (List ℕ)) (path : List ℕ) (ds : List ℕ) (e : Fault) → find_all b paths ≡ Ok ds
    → find b path ≡ Err e → find_all b (paths ++ path ∷ more) ≡ Err e
find_all_end b [] more path ds e before refused = rw refused refl
find_all_end b (first ∷ paths) more path ds e before refused =
    elim (find b first) as (λ r. (r >>= λ x. find_all b paths >>= λ rest. Ok (x ∷ rest)) ≡ Ok ds
    → (r >>= λ x. find_all b (paths ++ path ∷ more) >>= λ rest. Ok (x ∷ rest)) ≡ Err e) [
      | Ok x ↦ λ h. elim (find_all b paths) as (λ q. find_all b paths ≡ q → (q >>= λ rest. Ok (x ∷ rest)) ≡ Ok ds
          → (find_all b (paths ++ path ∷ more) >>= λ rest. Ok (x ∷ rest)) ≡ Err e) [
            | Ok rest ↦ λ is same. rw (find_all_end b paths more path rest e is refused) refl
            | Err f ↦ λ is bad. cc
          ] refl h
      | Err f ↦ λ bad. cc
    ] before
