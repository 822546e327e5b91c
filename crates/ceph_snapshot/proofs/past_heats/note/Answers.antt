use Rattle.std.proofs.Common.{◌≡◌, ◌∙◌, ℕ, List, Some, ap, cond}
use Rattle.std.specs.HashMap.{get_by}
use Rattle.std.specs.Str.{bytes_eq}
use Rattle.ceph_snapshot.proofs.Lookups.{inserted}
use Rattle.ceph_snapshot.proofs.past_heats.note.Goals as goal

pub returns : goal.returns
returns c = λ path.
    let key : c.in_ok-from_slice.field-0.items ≡ c.args.entry.now.path.items = c.in_ok-from_slice.ensures.items ∙ c.deref.ensures.value in
    inserted c.args.heats.now c.insert.new.self c.in_ok-from_slice.field-0.items (Some c.args.entry.now.heat) c.in_ok-insert.ensures.updates path
    ∙ ap (λ (bs : List ℕ). cond (bytes_eq bs path) (Some c.args.entry.now.heat) (get_by (λ key. bytes_eq path key.items) c.args.heats.now)) key
