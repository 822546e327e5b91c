-- What a list of commands does to a board, and the answers.
use Rattle.std.specs.Prelude.{◌≡◌, ◌⊎◌, Bool, true, List, [], ◌∷◌, Result, Ok, Err, Some, None}
use Rattle.mds_types.specs.declared.plan.Plan.{Plan}
use Rattle.mds_types.specs.Certificate.{IsBest, IsCertified}
use Rattle.mds_types.specs.Problem.{ProblemData}
use Rattle.mds_board.specs.declared.board_error.BoardError.{BoardError}
use Rattle.mds_board.specs.declared.board_error.BoardError.TheVariants.{Memory}
use Rattle.mds_board.specs.declared.change.Answer.{Answer}
use Rattle.mds_board.specs.declared.change.Change.TheVariants as change
use Rattle.mds_board.specs.State.{balance_refusal, happens, next, problem_of, refusal}
use Rattle.mds_board.specs.Steps.{is_inner}
use Rattle.mds_board.specs.declared.command.BoardCommand.{BoardCommand}
use Rattle.mds_board.specs.declared.command.BoardCommand.TheVariants as command
use Rattle.mds_board.specs.History.{World, IsAnswer, recorded}

-- no command makes or removes a directory, or begins a request, as an event of the cluster
abbrev pub is_fit : BoardCommand → Bool
is_fit (command.Step e) = is_inner e
is_fit _ = true

-- what a solver promises of a plan for a problem, beside that it is best and that its proofs hold
abbrev Promise : Type 1
Promise = ProblemData → Plan → Type 0

-- The problem is opened, and a best plan for it adopted, whose orders are the answer. What the solver promises of its
-- plans beside that holds of it too. Only a full history, a balancer that is off and memory refuse it, which changes
-- nothing.
abbrev pub IsBalanced : Promise → World → Result Answer BoardError → World → Type 0
IsBalanced also old (Ok reply) new =
    (plan : Plan) × IsBest (problem_of old.state) plan × IsCertified (problem_of old.state) plan
    × also (problem_of old.state) plan × (refusal old.state change.Open ≡ None)
    × (reply ≡ (happens (next old.state change.Open) (change.Adopt plan)).reply)
    × (new ≡ recorded (recorded old change.Open) (change.Adopt plan))
IsBalanced also old (Err e) new =
    ((balance_refusal old.state ≡ Some e) ⊎ ((balance_refusal old.state ≡ None) × (e ≡ Memory))) × (new ≡ old)

-- a command is the change of its name, and a balance two of them
abbrev pub IsCarriedOut : Promise → World → BoardCommand → Result Answer BoardError → World → Type 0
IsCarriedOut also old (command.Make parent name inodes) answer new = IsAnswer old (change.Make parent name inodes) answer new
IsCarriedOut also old (command.Remove d) answer new = IsAnswer old (change.Remove d) answer new
IsCarriedOut also old (command.Pin d value) answer new = IsAnswer old (change.Pin d value) answer new
IsCarriedOut also old (command.Mask bits) answer new = IsAnswer old (change.Mask bits) answer new
IsCarriedOut also old (command.Weights read write) answer new = IsAnswer old (change.Weights read write) answer new
IsCarriedOut also old command.Tick answer new = IsAnswer old change.Tick answer new
IsCarriedOut also old (command.Step e) answer new = IsAnswer old (change.Step e) answer new
IsCarriedOut also old command.Balance answer new = IsBalanced also old answer new

-- the commands one after the other, each with its answer
abbrev pub AreCarriedOut : Promise → World → List BoardCommand → List (Result Answer BoardError) → World → Type 0
AreCarriedOut also old [] [] new = new ≡ old
AreCarriedOut also old (c ∷ cs) (a ∷ more) new =
    (between : World) × IsCarriedOut also old c a between × AreCarriedOut also between cs more new
AreCarriedOut also old [] (a ∷ more) new = ⊥
AreCarriedOut also old (c ∷ cs) [] new = ⊥
