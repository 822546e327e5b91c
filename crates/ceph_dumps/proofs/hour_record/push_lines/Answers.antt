use Rattle.std.proofs.Common.{◌≡◌, ◌∙◌, ◌++◌, ℕ, List, ap, arith, length, sym, take}
use Rattle.std.specs.List.{flat_map}
use Rattle.std.proofs.Math.Seq.{take-length}
use Rattle.std.proofs.lemmas.List.Folds.{flat_map-map}
use Rattle.ceph_dumps.specs.HourRecord.{heat_line, heat_path}
use Rattle.ceph_dumps.specs.declared.hour_record.PastHeat.{PastHeat}
use Rattle.ceph_dumps.proofs.hour_record.push_lines.Goals as goal

pub returns : goal.returns
returns c =
    let heats : List PastHeat = c.args.heats.now in
    let end : c.loop-past.past-index ≡ length heats = omega (arith, c.loop-past-test.false, c.loop-past.auto.past-index-end) in
    c.loop-past.invariant
    ∙ ap (λ (text : List ℕ). c.args.text.now.items ++ text)
    (ap (flat_map (λ (past : PastHeat). heat_line (heat_path past))) (ap (λ (n : ℕ). take n heats) end ∙ take-length heats)
    ∙ sym (flat_map-map heat_line heat_path heats))
