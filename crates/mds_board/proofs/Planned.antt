-- The ranks that a plan gives directories, as a list.
use Rattle.std.proofs.Common.{◌≡◌, ℕ, ◌<◌, List, length, map, Option, None, get_or, sym, ◌∙◌, arith}
use Rattle.std.proofs.lemmas.List.{ext_get_or, get_or_default, length-map}
use Rattle.dir_pins.specs.Pins.{below}
use Rattle.dir_pins.proofs.NearestPin.{read_below}
use Rattle.mds_types.specs.declared.plan.Plan.{Plan}
use Rattle.mds_board.specs.State.{planned, targets}
use Rattle.mds_board.proofs.Accepted.{length_below}

pub all_planned : (ranks : List (Option ℕ)) (n : ℕ) (dirs : List ℕ) (plan : Plan) → length ranks ≡ n
    → ((d : ℕ) → d < n → get_or ranks d None ≡ planned dirs plan d) → ranks ≡ targets n dirs plan
all_planned ranks n dirs plan size each =
    let f : ℕ → Option ℕ = planned dirs plan in
    let all : List (Option ℕ) = map f (below n) in
    let long : length all ≡ n = length-map (below n) f ∙ length_below n in
    ext_get_or None ranks all (size ∙ sym long) (λ i inside.
    let low : i < n = omega (arith, inside, size) in
    each i low ∙ sym (read_below f n i (get_or all i None) low (get_or_default all i None (get_or all i None) (omega (arith, low, long)))))
