-- A change that was refused for memory loses nothing.
use Rattle.std.proofs.Common.{◌≡◌, ◌∙◌, Option, Some, None, Result, Ok, Err, sym, subst, inl, inr}
use Rattle.mds_types.specs.declared.plan.Plan.{Plan}
use Rattle.mds_board.specs.declared.board_error.BoardError.{BoardError}
use Rattle.mds_board.specs.declared.board_error.BoardError.TheVariants.{Memory}
use Rattle.mds_board.specs.declared.change.Answer.{Answer}
use Rattle.mds_board.specs.declared.change.Change.{Change}
use Rattle.mds_board.specs.declared.change.Change.TheVariants as change
use Rattle.mds_board.specs.State.{State, Opened, refusal}
use Rattle.mds_board.specs.Steps.{IsAllowed, IsBelied, IsBestForOpen, IsDue, IsNotCertified}
use Rattle.mds_board.specs.History.{World, IsAnswer}

pub again : (old between new : World) (c : Change) (answer : Result Answer BoardError) → IsAnswer old c (Err Memory) between
    → IsAnswer between c answer new → IsAnswer old c answer new
again old between new c answer refused h = subst (λ (w : World). IsAnswer w c answer new) refused.1 h

pub alike : (old one other : World) (c : Change) (a b : Answer) → IsAnswer old c (Ok a) one → IsAnswer old c (Ok b) other → (a ≡ b) × (one ≡ other)
alike old one other c a b h k = (h.2 ∙ sym k.2, h.3 ∙ sym k.3)

best_believed : (o : Option Opened) (plan : Plan) → IsBestForOpen o plan → IsNotCertified o plan → ⊥
best_believed None plan best not = best
best_believed (Some o) plan best not = not best.1

believed : (s : State) (c : Change) → IsAllowed s c → IsBelied s c → ⊥
believed s (change.Adopt plan) allowed belied = best_believed s.opened plan allowed belied
believed s (change.Make parent name inodes) allowed belied = belied
believed s (change.Remove d) allowed belied = belied
believed s (change.Pin d value) allowed belied = belied
believed s (change.Mask bits) allowed belied = belied
believed s (change.Weights read write) allowed belied = belied
believed s (change.Deposit hits) allowed belied = belied
believed s change.Tick allowed belied = belied
believed s (change.Step e) allowed belied = belied
believed s change.Open allowed belied = belied

due : (s : State) (c : Change) (error : BoardError) → refusal s c ≡ None → IsAllowed s c → IsDue s c error → error ≡ Memory
due s c error none allowed (inl some) = let never : None ≡ Some error = sym none ∙ some in absurd (cc)
due s c error none allowed (inr (is, inl memory)) = memory
due s c error none allowed (inr (is, inr belied)) = absurd (believed s c allowed belied.1)

pub memory : (old one other : World) (c : Change) (a : Answer) (error : BoardError) → IsAnswer old c (Ok a) one
    → IsAnswer old c (Err error) other → error ≡ Memory
memory old one other c a error h k = due old.state c error h.0 h.1 k.0
