use Rattle.std.proofs.Common.{◌≡◌, false, List, Bool, length, refl, sym, ap, ◌∙◌}
use Rattle.std.specs.Prelude.{replicate}
use Rattle.std.proofs.lemmas.List.{length-replicate}
use Rattle.export_machine.specs.Kept.{indexes_of}
use Rattle.export_machine.proofs.Bounds.{kept_same}
use Rattle.export_machine.proofs.Listing.{all_clear}
use Rattle.export_machine.proofs.cluster.Cluster.connects.Goals as goal

pub invariant_of-self : goal.invariant_of-self
invariant_of-self c =
    let r = c.self.inside.records in
    let places : length c.unmark.new.marks.items ≡ length r.dirs.parents =
    c.unmark.ensures.places ∙ (c.mark_once.ensures.places ∙ (ap length c.self.invariant.indexed.unmarked ∙ length-replicate (length r.dirs.parents) false)) in
    let marks : c.unmark.new.marks.items ≡ r.marks.items =
    all_clear c.unmark.new.marks.items c.unmark.ensures.unmarked ∙ (ap (λ n. replicate n false) places ∙ sym c.self.invariant.indexed.unmarked) in
    kept_same r _ refl (ap (λ (ms : List Bool). record (indexes_of r) { marks = ms }) marks) c.self.invariant
