-- Orders with their outcomes.
use Rattle.std.proofs.Common.{◌≡◌, ℕ, zero, suc, ◌<◌, List, [], ◌∷◌, length, get_or, refl, ap, arith}
use Rattle.mds_types.specs.declared.order.Order.{Order}
use Rattle.phased_board.specs.declared.outcome.Outcome.{Outcome}
use Rattle.script_session.specs.Move.{pairs}

pub length-pairs : (orders : List Order) (outcomes : List Outcome) → length outcomes ≡ length orders → length (pairs orders outcomes) ≡ length orders
length-pairs [] [] same = refl
length-pairs [] (w ∷ outcomes) same = refl
length-pairs (o ∷ orders) [] same = absurd (omega arith)
length-pairs (o ∷ orders) (w ∷ outcomes) same = ap suc (length-pairs orders outcomes (omega arith))

pub pairs_at : (orders : List Order) (outcomes : List Outcome) (i : ℕ) (o : Order) (w : Outcome) (d : Order × Outcome)
    → length outcomes ≡ length orders → i < length orders
    → get_or (pairs orders outcomes) i d ≡ (get_or orders i o, get_or outcomes i w)
pairs_at [] outcomes i o w d same h = absurd (omega arith)
pairs_at (x ∷ orders) [] i o w d same h = absurd (omega arith)
pairs_at (x ∷ orders) (y ∷ outcomes) zero o w d same h = refl
pairs_at (x ∷ orders) (y ∷ outcomes) (suc i) o w d same h = pairs_at orders outcomes i o w d (omega arith) (omega arith)
