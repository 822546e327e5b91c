-- The certificates of the plans that a history adopts.
use Rattle.std.specs.Prelude.{ℕ, List, [], ◌∷◌, ◌++◌, codes, map, Option, Some, None}
use Prim.Native.Nat.{zero, suc}
use Rattle.mds_board.specs.declared.change.Answer.{Answer}
use Rattle.mds_board.specs.declared.change.Answer.TheVariants.{Problem}
use Rattle.mds_board.specs.declared.change.Change.{Change}
use Rattle.mds_board.specs.declared.change.Change.TheVariants.{Adopt}
use Rattle.mds_board.specs.State.{State, dirs_of, next, start}
use Rattle.dirtree.specs.Tree.{Entry, name_of}
use Rattle.mds_board.specs.declared.entry.Entry as history
use Rattle.mds_board.specs.History.{World}
use Rattle.mds_types.specs.Problem.{ProblemData}
use Rattle.plan_text.specs.declared.certificate.Certificate.{Certificate}

-- the name of a row whose directory is d: a slash for the root
abbrev pub row_name : List (Option Entry) → ℕ → List ℕ
row_name entries zero = codes "/"
row_name entries (suc d) = name_of entries (suc d)

-- the names of the rows of a state's problem: those of the directories that no pin holds, by rising numbers
abbrev pub row_names : State → List (List ℕ)
row_names s = map (row_name s.directories.entries) (dirs_of s)

-- a problem that was opened, and the names of its rows at that time
pub record PosedData : Type 0 where
  pub problem : ProblemData
  pub names : List (List ℕ)

abbrev pub posed : State → ProblemData → PosedData
posed s problem = record { problem = problem; names = row_names s }

-- the problem that was opened last, once this reply was given in this state
abbrev pub opened : State → Option PosedData → Answer → Option PosedData
opened s last (Problem problem) = Some (posed s problem)
opened s last _ = last

-- the certificate of the plan that a change adopts, for the problem that was opened last
abbrev pub certified_by : Option PosedData → Change → List Certificate
certified_by (Some p) (Adopt plan) = record { problem = p.problem; names = Some p.names; plan = plan } ∷ []
certified_by _ _ = []

-- The certificates of the plans that some entries adopt from a state on, in order, each for the problem that was opened
-- last before.
abbrev pub certificates : State → Option PosedData → List history.Entry → List Certificate
certificates s last [] = []
certificates s last (e ∷ es) = certified_by last e.change ++ certificates (next s e.change) (opened s last e.reply) es

-- the certificates of the plans that a board has adopted
abbrev pub certificates_of : World → List Certificate
certificates_of w = certificates (start w.state.directories.limit w.state.pins.active) None w.history
