-- What it says of the parts that a change has no cause to be refused.
use Rattle.std.proofs.Common.{◌≡◌, ◌≢◌, ℕ, zero, suc, ℤ, ◌+◌, ◌<◌, Bool, true, false, ◌==◌, nat_le, List, []}
use Rattle.std.proofs.Common.{◌∷◌, length, length-append, Option, Some, None, IsSome, refl, rules, ap, ◌∙◌, inl, inr, arith}
use Rattle.std.proofs.lemmas.Bool.Decides.{nat_tests}
use Rattle.dirtree.specs.declared.tree_error.TreeError.{TreeError}
use Rattle.dirtree.specs.Tree as tree
use Rattle.dir_pins.specs.declared.pin_error.PinError.{PinError}
use Rattle.dir_pins.specs.Pins as pins
use Rattle.dir_pins.specs.Pins.{below}
use Rattle.mds_types.specs.RankSet.{rank_count}
use Rattle.export_protocol.specs.declared.event.Event.{Event}
use Rattle.export_protocol.specs.declared.event.Event.TheVariants.{Made, Gone}
use Rattle.export_protocol.specs.declared.step_error.StepError.{StepError}
use Rattle.export_protocol.specs.Step as machine
use Rattle.export_protocol.specs.declared.step_error.StepError.TheVariants as step_error
use Rattle.export_machine.specs.Room.{IsRefusal}
use Rattle.mds_types.specs.declared.plan.Plan.{Plan}
use Rattle.mds_board.specs.Refused.{step_refused}
use Rattle.mds_board.specs.Steps.{IsDue}
use Rattle.mds_board.specs.declared.board_error.BoardError.{BoardError}
use Rattle.mds_board.specs.declared.board_error.BoardError.TheVariants as error
use Rattle.mds_board.specs.declared.change.Change.{Change}
use Rattle.mds_board.specs.declared.change.Change.TheVariants.{Make, Remove, Step, Open, Adopt}
use Rattle.mds_board.specs.declared.change.Change.TheVariants as change
use Rattle.mds_board.specs.State.{State, Opened, or_cause, when, of_tree, of_pin, of_step, usable}
use Rattle.mds_board.specs.State.{cause, adopt_cause, balance_refusal, refusal, happens, next, event_limit}

-- it is one of few
pub has_place : (s : State) (c : Change) → refusal s c ≡ None → s.events < 1048576
unfolding refusal
has_place s c h = room (nat_le event_limit s.events) refl h
  where
    room : (b : Bool) → nat_le event_limit s.events ≡ b → or_cause (when b error.HistoryFull) (cause s c) ≡ None → s.events < 1048576
    room true is h = absurd (cc)
    room false is h = grind (arith, nat_tests)

pub no_cause : (s : State) (c : Change) → refusal s c ≡ None → cause s c ≡ None
unfolding refusal
no_cause s c h = on (nat_le event_limit s.events) h
  where
    on : (b : Bool) → or_cause (when b error.HistoryFull) (cause s c) ≡ None → cause s c ≡ None
    on true h = absurd (cc)
    on false h = h

neither : (a b : Option BoardError) → or_cause a b ≡ None → (a ≡ None) × (b ≡ None)
neither None b h = (refl, h)
neither (Some e) b h = absurd (cc)

tree_none : (o : Option TreeError) → of_tree o ≡ None → o ≡ None
tree_none None h = refl
tree_none (Some e) h = absurd (cc)

pin_none : (o : Option PinError) → of_pin o ≡ None → o ≡ None
pin_none None h = refl
pin_none (Some e) h = absurd (cc)

step_none : (o : Option StepError) → of_step o ≡ None → o ≡ None
step_none None h = refl
step_none (Some e) h = absurd (cc)

pub may_make : (s : State) (parent : ℕ) (name : List ℕ) (inodes : ℕ) → refusal s (Make parent name inodes) ≡ None
    → (tree.make_refusal s.directories parent name ≡ None) × (machine.refusal s.cluster (Made parent) ≡ None)
may_make s parent name inodes h =
    let both = neither (of_tree (tree.make_refusal s.directories parent name)) (of_step (machine.refusal s.cluster (Made parent)))
    (no_cause s (Make parent name inodes) h) in
    (tree_none (tree.make_refusal s.directories parent name) both.0, step_none (machine.refusal s.cluster (Made parent)) both.1)

pub may_remove : (s : State) (d : ℕ) → refusal s (Remove d) ≡ None
    → (tree.remove_refusal s.directories d ≡ None) × (machine.refusal s.cluster (Gone d) ≡ None)
may_remove s d h =
    let both = neither (of_tree (tree.remove_refusal s.directories d)) (of_step (machine.refusal s.cluster (Gone d))) (no_cause s (Remove d) h) in
    (tree_none (tree.remove_refusal s.directories d) both.0, step_none (machine.refusal s.cluster (Gone d)) both.1)

pub may_step : (s : State) (e : Event) → refusal s (Step e) ≡ None → machine.refusal s.cluster e ≡ None
may_step s e h = step_none (machine.refusal s.cluster e) (no_cause s (Step e) h)

pub may_adopt : (s : State) (plan : Plan) → refusal s (Adopt plan) ≡ None → IsSome s.opened
may_adopt s plan h = on s.opened (no_cause s (Adopt plan) h)
  where
    on : (o : Option Opened) → adopt_cause o ≡ None → IsSome o
    on None h = absurd (cc)
    on (Some o) h = search rules

pub may_pin : (s : State) (d : ℕ) (value : ℤ) → refusal s (change.Pin d value) ≡ None → pins.pin_refusal s.pins.active s.directories.entries d value ≡ None
may_pin s d value h = pin_none (pins.pin_refusal s.pins.active s.directories.entries d value) (no_cause s (change.Pin d value) h)

pub may_open : (s : State) → refusal s Open ≡ None → 0 < rank_count (usable s)
may_open s h = on (rank_count (usable s)) refl (no_cause s Open h)
  where
    on : (n : ℕ) → rank_count (usable s) ≡ n → when (n == 0) error.BalancerOff ≡ None → 0 < rank_count (usable s)
    on zero is h = absurd (cc)
    on (suc n) is h = omega (arith, is)

-- where a balance has no cause to be refused, an opening has none, and then an adoption has none
pub may_balance : (s : State) → balance_refusal s ≡ None → (s.events < 1048575) × (rank_count (usable s) ≢ 0)
may_balance s h = on (nat_le 1_048_575 s.events) (rank_count (usable s) == 0) refl refl h
  where
    on : (b d : Bool) → nat_le 1_048_575 s.events ≡ b → (rank_count (usable s) == 0) ≡ d
        → or_cause (when b error.HistoryFull) (when d error.BalancerOff) ≡ None → (s.events < 1048575) × (rank_count (usable s) ≢ 0)
    on true d is off h = absurd (cc)
    on false true is off h = absurd (cc)
    on false false is off h = (grind (arith, nat_tests), grind (arith, nat_tests))

pub balance_opens : (s : State) → balance_refusal s ≡ None → refusal s Open ≡ None
unfolding refusal
balance_opens s h =
    let may = may_balance s h in
    let room : nat_le event_limit s.events ≡ false = grind (arith, nat_tests, may) in
    let some : (rank_count (usable s) == 0) ≡ false = grind (arith, nat_tests, may) in
    rw (room, some) refl

pub balance_adopts : (s : State) (plan : Plan) → balance_refusal s ≡ None → refusal (next s Open) (Adopt plan) ≡ None
unfolding refusal happens
balance_adopts s plan h =
    let may = may_balance s h in
    let room : nat_le event_limit (s.events + 1) ≡ false = grind (arith, nat_tests, may) in
    rw room refl

pub length_below : (n : ℕ) → length (below n) ≡ n
length_below zero = refl
length_below (suc n) = omega (arith, length-append (below n) (n ∷ []), length_below n)

-- a cluster's refusal is the board's
named : (x : StepError) → x ≢ step_error.Memory → step_refused x ≡ error.Step x
named step_error.Memory h = absurd (h refl)
named step_error.NoDir h = refl
named step_error.NotEmpty h = refl
named step_error.IsRoot h = refl
named step_error.TreeFull h = refl
named step_error.NoRank h = refl
named step_error.NoExport h = refl
named (step_error.Elsewhere rank) h = refl
named (step_error.Busy export) h = refl
named (step_error.Frozen export) h = refl
named step_error.SameRank h = refl
named (step_error.NotYet requests) h = refl
named (step_error.Late state) h = refl
named step_error.NoMessage h = refl
named step_error.NoTicket h = refl
named step_error.NotConnected h = refl
named step_error.ExportsFull h = refl
named (step_error.Stopped rank) h = refl
named step_error.HistoryFull h = refl

pub step_due : (s : State) (e : Event) (x : StepError) → nat_le event_limit s.events ≡ false → machine.refusal s.cluster e ≢ Some step_error.Memory
    → IsRefusal s.cluster e x → IsDue s (Step e) (step_refused x)
unfolding refusal
step_due s e x room never (inl h) =
    inl (rw (room, h, named x (λ is. never (h ∙ ap (λ (y : StepError). Some y) is))) refl)
step_due s e x room never (inr h) = inr (rw (room, h.0) refl, inl (ap (λ (y : StepError). step_refused y) h.1))

pub full_due : (s : State) (c : Change) → nat_le event_limit s.events ≡ true → refusal s c ≡ Some error.HistoryFull
unfolding refusal
full_due s c h = rw h refl

pub few_due : (s : State) (e : Event) → nat_le event_limit s.events ≡ false → machine.refusal s.cluster e ≡ None → refusal s (Step e) ≡ None
unfolding refusal
few_due s e h none = rw (h, none) refl

pub is_place : (s : State) → nat_le event_limit s.events ≡ false → s.events < 1048576
is_place s h = grind (arith, nat_tests, h)
