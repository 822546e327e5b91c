-- Requests that are dealt one after another, and the refusals that they met.
use Rattle.std.proofs.Common.{add-one, ◌≡◌, ◌==◌, ℕ, zero, suc, ◌<◌, ◌+◌, Bool, true, false, cond, List, Vec, Global, [], ◌∷◌}
use Rattle.std.proofs.Common.{◌++◌, length, map, take, set, get_or, length-set, refl, sym, ap, ◌∙◌, arith, subst, inl, inr, append-nil, append_assoc}
use Rattle.std.specs.Prelude.{filter}
use Rattle.std.proofs.lemmas.Bool.{cases_eq, ne_eqb}
use Rattle.std.proofs.lemmas.Bool.Decides.{Decides-eqb}
use Rattle.std.proofs.lemmas.List.{get_or-map, get_or-set_same, get_or-set_other, map-set}
use Rattle.heat_ledger.specs.Ledger.{ShareData}
use Rattle.mds_board.specs.History.{World}
use Rattle.rank_threads.specs.declared.work.Work.{Work}
use Rattle.rank_threads.specs.declared.work.WorkAnswer.{WorkAnswer}
use Rattle.rank_threads.specs.Serving.{AreReturned}
use Rattle.script_board.specs.declared.dealing.Seat.{Seat}
use Rattle.script_board.specs.declared.fault.Fault.{Fault}
use Rattle.script_board.specs.declared.load.Load.{Load}
use Rattle.script_board.specs.Serve.{IsDealt, asked_rank, met, place, places_after, refusal_at, refusals, script_at, work_of, works_at}

works_more : (w : World) (ranks rank : ℕ) (ls : List Load) (l : Load)
    → works_at w ranks rank (ls ++ l ∷ []) ≡ works_at w ranks rank ls ++ cond (asked_rank w ranks l.dir == rank) (work_of l ∷ []) []
works_more w ranks rank [] l = elim (asked_rank w ranks l.dir == rank) as (λ v. map work_of (cond v (l ∷ []) []) ≡ cond v (work_of l ∷ []) []) [
  | true ↦ refl
  | false ↦ refl
]
works_more w ranks rank (x ∷ ls) l =
    let test : Load → Bool = λ k. asked_rank w ranks k.dir == rank in
    elim (asked_rank w ranks x.dir == rank) as (λ v. map work_of (cond v (x ∷ filter test (ls ++ l ∷ [])) (filter test (ls ++ l ∷ [])))
    ≡ map work_of (cond v (x ∷ filter test ls) (filter test ls)) ++ cond (asked_rank w ranks l.dir == rank) (work_of l ∷ []) []) [
      | true ↦ ap (λ (works : List Work). work_of x ∷ works) (works_more w ranks rank ls l)
      | false ↦ works_more w ranks rank ls l
    ]

places_more : (w : World) (ranks : ℕ) (earlier ls : List Load) (l : Load)
    → places_after w ranks earlier (ls ++ l ∷ []) ≡ places_after w ranks earlier ls ++ place w ranks (earlier ++ ls) l ∷ []
places_more w ranks earlier [] l = ap (λ (e : List Load). place w ranks e l ∷ []) (sym (append-nil earlier))
places_more w ranks earlier (x ∷ ls) l =
    ap (λ (seats : List Seat). place w ranks earlier x ∷ seats) (places_more w ranks (earlier ++ x ∷ []) ls l
    ∙ ap (λ (e : List Load). places_after w ranks (earlier ++ x ∷ []) ls ++ place w ranks e l ∷ []) (append_assoc earlier (x ∷ []) ls))

-- a rank's script with a request more
pub script_grown : (scripts : List (Vec Work Global)) (rank : ℕ) (old new : Vec Work Global) (w : Work) → rank < length scripts
    → old ≡ get_or scripts rank old → new.items ≡ old.items ++ w ∷ []
    → map (λ (s : Vec Work Global). s.items) (set scripts rank new)
    ≡ set (map (λ (s : Vec Work Global). s.items) scripts) rank (script_at (map (λ (s : Vec Work Global). s.items) scripts) rank ++ w ∷ [])
script_grown scripts rank old new w inside was grown =
    let items : Vec Work Global → List Work = λ s. s.items in
    let here : script_at (map items scripts) rank ≡ old.items = get_or-map items scripts rank old [] inside ∙ ap items (sym was) in
    map-set items scripts rank new ∙ ap (λ (works : List Work). set (map items scripts) rank works)
    (grown ∙ ap (λ (works : List Work). works ++ w ∷ []) (sym here))

-- one request more is dealt to its rank
pub dealt_more : (w : World) (ranks : ℕ) (ls : List Load) (l : Load) (scripts : List (List Work)) (seats : List Seat) (rank : ℕ)
    → rank ≡ asked_rank w ranks l.dir → rank < ranks → IsDealt w ranks ls scripts seats
    → IsDealt w ranks (ls ++ l ∷ []) (set scripts rank (script_at scripts rank ++ work_of l ∷ []))
    (seats ++ record { rank = rank; number = length (script_at scripts rank) } ∷ [])
dealt_more w ranks ls l scripts seats rank named inside h =
    let grown : List Work = script_at scripts rank ++ work_of l ∷ [] in
    let within : rank < length scripts = omega (arith, inside, h.as_many) in record {
      as_many = (simp length-set) ∙ h.as_many;
      each = λ q small. elim (cases_eq q rank) [
        | inl here ↦ subst (λ (r : ℕ). script_at (set scripts rank grown) r ≡ works_at w ranks r (ls ++ l ∷ [])) (sym here)
            (get_or-set_same scripts rank grown [] within ∙ (ap (λ (works : List Work). works ++ work_of l ∷ []) (h.each rank inside)
            ∙ sym (works_more w ranks rank ls l ∙ ap (λ (v : Bool). works_at w ranks rank ls ++ cond v (work_of l ∷ []) [])
            ((Decides-eqb (asked_rank w ranks l.dir) rank).1 (sym named)))))
        | inr other ↦ get_or-set_other scripts rank q grown [] other ∙ (h.each q small
            ∙ sym (works_more w ranks q ls l
            ∙ (ap (λ (v : Bool). works_at w ranks q ls ++ cond v (work_of l ∷ []) [])
            (ne_eqb (asked_rank w ranks l.dir) q (λ e. other (sym (named ∙ e)))) ∙ append-nil (works_at w ranks q ls))))
      ];
      found =
          let earlier : length (script_at scripts rank) ≡ length (works_at w ranks (asked_rank w ranks l.dir) ls) =
          ap (λ (works : List Work). length works) (h.each rank inside ∙ ap (λ (r : ℕ). works_at w ranks r ls) named) in
          (λ i. h.found i ++ record { rank = named i; number = earlier i } ∷ []) ∙ sym (places_more w ranks [] ls l);
    }

-- the elements that pass, one more looked at
pub filter_more : {A : Type 0} (test : A → Bool) (xs : List A) (i : ℕ) (d : A) → i < length xs
    → filter test (take (i + 1) xs) ≡ filter test (take i xs) ++ cond (test (get_or xs i d)) (get_or xs i d ∷ []) []
filter_more {A} test xs i d h = rw add-one (grown xs i h)
  where
    grown : (xs : List A) (i : ℕ) → i < length xs → filter test (take (suc i) xs) ≡ filter test (take i xs)
        ++ cond (test (get_or xs i d)) (get_or xs i d ∷ []) []
    grown [] i h = absurd (omega arith)
    grown (x ∷ xs) zero h = elim (test x) as (λ v. cond v (x ∷ []) [] ≡ cond v (x ∷ []) []) [
      | true ↦ refl
      | false ↦ refl
    ]
    grown (x ∷ xs) (suc i) h =
        elim (test x) as (λ v. cond v (x ∷ filter test (take (suc i) xs)) (filter test (take (suc i) xs))
        ≡ cond v (x ∷ filter test (take i xs)) (filter test (take i xs)) ++ cond (test (get_or xs i d)) (get_or xs i d ∷ []) []) [
          | true ↦ ap (λ (l : List A). x ∷ l) (grown xs i (omega arith))
          | false ↦ grown xs i (omega arith)
        ]

-- the refusals, one more answer looked at
pub refusals_more : (answers : List (List WorkAnswer)) (seats : List Seat) (i : ℕ) (d : Seat) → i < length seats
    → refusals answers (take (i + 1) seats) ≡ refusals answers (take i seats) ++ met (refusal_at answers (get_or seats i d))
refusals_more answers seats i d h = rw add-one (grown seats i h)
  where
    grown : (seats : List Seat) (i : ℕ) → i < length seats
        → refusals answers (take (suc i) seats) ≡ refusals answers (take i seats) ++ met (refusal_at answers (get_or seats i d))
    grown [] i h = absurd (omega arith)
    grown (s ∷ seats) zero h = append-nil (met (refusal_at answers s))
    grown (s ∷ seats) (suc i) h =
        ap (λ (rest : List _). met (refusal_at answers s) ++ rest) (grown seats i (omega arith))
        ∙ sym (append_assoc (met (refusal_at answers s)) (refusals answers (take i seats))
        (met (refusal_at answers (get_or seats i d))))

-- each rank has its share back
pub returned_length : (limit : ℕ) (olds : List ShareData) (scripts : List (List Work)) (answers : List (List WorkAnswer))
    (news : List ShareData) → AreReturned limit olds scripts answers news
    → length news ≡ length olds
returned_length limit [] [] [] [] h = refl
returned_length limit (s ∷ olds) (w ∷ scripts) (a ∷ answers) (t ∷ news) h = ap (λ (n : ℕ). suc n) (returned_length limit olds scripts answers news h.1)
returned_length limit [] [] [] (t ∷ news) h = absurd h
returned_length limit [] [] (a ∷ answers) news h = absurd h
returned_length limit [] (w ∷ scripts) answers news h = absurd h
returned_length limit (s ∷ olds) [] answers news h = absurd h
returned_length limit (s ∷ olds) (w ∷ scripts) [] news h = absurd h
returned_length limit (s ∷ olds) (w ∷ scripts) (a ∷ answers) [] h = absurd h

-- what is added in turn
pub told_in_turn : (none of_requests of_ends of_deposits first second third : List Fault) → none ≡ [] → first ≡ none ++ of_requests
    → second ≡ first ++ of_ends → third ≡ second ++ of_deposits
    → third ≡ of_requests ++ of_ends ++ of_deposits
told_in_turn none of_requests of_ends of_deposits first second third is one two three =
    three ∙ ap (λ (l : List Fault). l ++ of_deposits) (two ∙ ap (λ (l : List Fault). l ++ of_ends) (one ∙ ap (λ (l : List Fault). l ++ of_requests) is))
