-- What the answers of all ranks name together.
use Rattle.std.specs.Global.{Global}
use Rattle.std.specs.Prelude.{◌≡◌, ℕ, ◌+◌, ◌<◌, List, ◌∷◌, Vec, map}
use Rattle.heat_ledger.specs.Ledger.{ShareData, begun_of, hits_of, pending_of, weight_of}
use Rattle.heat_ledger.specs.Rows.{at}
use Rattle.mds_board.specs.History.{World}
use Rattle.rank_threads.specs.Serving.{begun_on, hits_on}
use Rattle.rank_threads.specs.declared.phase.Ranks.{Ranks}
use Rattle.rank_threads.specs.declared.work.Work.{Work}
use Rattle.rank_threads.specs.declared.work.WorkAnswer.{WorkAnswer}

-- what each rank's requests and answers come to, added up
abbrev pub over_ranks : (List Work → List WorkAnswer → ℕ) → List (List Work) → List (List WorkAnswer) → ℕ
over_ranks f (w ∷ scripts) (a ∷ answers) = f w a + over_ranks f scripts answers
over_ranks _ _ _ = 0

-- the board counts what these shares count
pub record CountsAll (board : World) (shares : List ShareData) : Type 0 where
  pub begun : (d : ℕ) → at board.state.begun d ≡ begun_of shares d
  pub hits : (e : ℕ) → at board.state.counted e + pending_of shares e ≡ hits_of shares e

-- what all ranks' requests and answers come to
abbrev pub over_answers : {J : Type 0} → (List Work → List WorkAnswer → ℕ) → List (Vec Work Global) → Ranks J → ℕ
over_answers f scripts ranks = over_ranks f (map (λ s. s.items) scripts) (map (λ a. a.items) ranks.answers.items)

-- The shares are all of the board's. On each directory below the limit its requests rose by the answers with a ticket,
-- and its hits, with those that are pending, by the hits that the answers name.
pub record RoseByAnswers {J : Type 0} (limit : ℕ) (before now : World) (shares : List ShareData)
    (scripts : List (Vec Work Global)) (ranks : Ranks J) : Type 0 where
  pub whole : weight_of ranks.shares.items ≡ now.shares
  pub begun : (d : ℕ) → d < limit
      → at now.state.begun d ≡ at before.state.begun d + over_answers (begun_on d) scripts ranks
  pub hits : (e : ℕ) → e < limit + limit → at now.state.counted e + pending_of ranks.shares.items e
      ≡ (at before.state.counted e + pending_of shares e) + over_answers (hits_on e) scripts ranks
