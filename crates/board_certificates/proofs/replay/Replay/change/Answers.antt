use Rattle.std.proofs.Common.{◌≡◌, ◌∙◌, ℕ, List, None, ap, subst, sym}
use Rattle.std.specs.Prelude.{ℤ}
use Rattle.board_certificates.specs.Replayed.{IsReplayed}
use Rattle.board_certificates.specs.declared.replay.Replay.{Replay}
use Rattle.board_certificates.proofs.ReplayLemmas.{elsewhere, made, none_of, on_ok_three, pinnable, pinned, removable, removed, value_same}
use Rattle.mds_board.specs.declared.change.Change.{Change}
use Rattle.mds_board.specs.declared.change.Change.TheVariants.{Make, Remove}
use Rattle.mds_board.specs.declared.change.Change.TheVariants as change
use Rattle.mds_board.specs.State.{next, refusal}
use Rattle.dir_pins.specs.Pins.{pin_refusal, with_pin}
use Rattle.board_certificates.proofs.replay.Replay.change.Goals as goal

pub remove-requires : goal.remove-requires
remove-requires c = removable c.requires.0 c.args.self.now c.in-Remove.dir c.requires.1 (ap (refusal c.requires.0) (sym c.in-Remove.is) ∙ c.requires.2)

pub pin-requires-clause-free : goal.pin-requires-clause-free
pin-requires-clause-free c =
    let free : refusal c.requires.0 (change.Pin c.in-Pin.dir c.in-Pin.pin) ≡ None = ap (refusal c.requires.0) (sym c.in-Pin.is) ∙ c.requires.2 in
    subst (λ (value : ℤ). pin_refusal c.args.self.now.pins.active c.args.self.now.tree.entries c.in-Pin.dir value ≡ None)
    (sym (value_same c.requires.0 c.args.self.now c.in-Pin.dir c.in-Pin.pin c.requires.1 free))
    (pinnable c.requires.0 c.args.self.now c.in-Pin.dir c.in-Pin.pin c.requires.1 free)

pub returns-in-Make : goal.returns-in-Make
returns-in-Make c =
    on_ok_three c.make.result
    (λ tree pins names s h free.
    let is : c.args.change.now ≡ Make c.in-Make.parent c.as_str.result.now c.in-Make.inodes = c.in-Make.is
    ∙ ap (λ (name : List ℕ). Make c.in-Make.parent name c.in-Make.inodes) (sym c.as_str.ensures) in
    subst (λ (ch : Change). IsReplayed (next s ch) c.make.new.self) (sym is)
    (made s c.args.self.now c.make.new.self c.in-Make.parent c.in-Make.inodes c.as_str.result.now h tree pins names))
    c.make.ensures.tree c.make.ensures.pins c.make.ensures.names

pub returns-in-Remove : goal.returns-in-Remove
returns-in-Remove c = λ s h free.
    subst (λ (ch : Change). IsReplayed (next s ch) c.remove.new.self) (sym c.in-Remove.is)
    (subst (λ (r : Replay). IsReplayed (next s (Remove c.in-Remove.dir)) r) (sym c.remove.ensures) (removed s c.args.self.now c.in-Remove.dir h))

pub returns-in-Pin : goal.returns-in-Pin
returns-in-Pin c = λ s h free.
    let same = value_same s c.args.self.now c.in-Pin.dir c.in-Pin.pin h (ap (refusal s) (sym c.in-Pin.is) ∙ free) in
    let now = c.pin.ensures ∙ ap (λ (value : ℤ). record c.args.self.now { pins = with_pin c.args.self.now.pins c.in-Pin.dir value }) same in
    subst (λ (ch : Change). IsReplayed (next s ch) c.pin.new.self) (sym c.in-Pin.is)
    (subst (λ (r : Replay). IsReplayed (next s (change.Pin c.in-Pin.dir c.in-Pin.pin)) r) (sym now) (pinned s c.args.self.now c.in-Pin.dir c.in-Pin.pin h))

pub returns-in_default : goal.returns-in_default
returns-in_default c = λ s h free. elsewhere s c.args.self.now c.args.change.now
    (none_of c.args.change.now c.in_default.not-Make c.in_default.not-Remove c.in_default.not-Pin) h
