use Rattle.std.proofs.Common.{◌≡◌, ◌∙◌, ◌++◌, List, ℕ, ap}
use Rattle.ceph_pins.proofs.Lines.{place_no_nul}
use Rattle.ceph_pins.proofs.pins_script.push_mounted.Goals as goal

pub returns-clause-refused : goal.returns-clause-refused
returns-clause-refused c mounted fine =
    let path : List ℕ = c.args.directory.now.path.items in
    let place : c.deref-2.result.now ≡ c.args.mount.now ++ path =
    c.deref-2.ensures.value
    ∙ (c.in_ok-extend_from_slice.ensures.items
    ∙ (ap (λ (text : List ℕ). text ++ c.deref.result.now) c.in_ok-place.ensures.items
    ∙ ap (λ (more : List ℕ). c.args.mount.now ++ more) c.deref.ensures.value)) in
    c.push_line.ensures.refused (place_no_nul c.args.mount.now path c.deref-2.result.now place mounted fine)
