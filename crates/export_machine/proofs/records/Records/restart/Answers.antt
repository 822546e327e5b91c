use Rattle.std.proofs.Common.{◌≡◌, List, Bool, false, cond, set, sym, ap, ◌∙◌}
use Rattle.export_protocol.specs.Step.{happens, changed, ignored, restarts}
use Rattle.export_machine.specs.Kept.{world_of, indexes_of}
use Rattle.export_protocol.proofs.Resting.{restarts_same}
use Rattle.export_machine.proofs.Halted.{stopped_indexed}
use Rattle.export_machine.proofs.records.Records.restart.Goals as goal

pub returns-then-not-is_stopped : goal.returns-then-not-is_stopped
unfolding happens
returns-then-not-is_stopped c =
    record {
      effect = ap (λ b. cond b (changed (restarts (world_of c.args.self.now) c.args.rank)) (ignored (world_of c.args.self.now)))
          (sym c.is_stopped.ensures ∙ c.if-not-is_stopped.true);
      indexed = c.requires.kept.indexed;
    }

pub returns : goal.returns
unfolding happens
returns c =
    record {
      effect =
          (let w = world_of c.args.self.now in
          let stopped : c.put.new.table.items ≡ set w.stopped c.args.rank false = c.put.ensures.items
          ∙ ap (λ r. set w.stopped r false) c.number.ensures.value in
          ap (λ b. cond b (changed (restarts w c.args.rank)) (ignored w)) (sym c.is_stopped.ensures ∙ c.if-not-is_stopped.false)
          ∙ (ap changed (restarts_same w c.requires.kept.reached c.args.rank (sym c.is_stopped.ensures ∙ c.if-not-is_stopped.false))
          ∙ ap (λ (bs : List Bool). changed (record w { stopped = bs })) (sym stopped)));
      indexed = stopped_indexed (world_of c.args.self.now) (indexes_of c.args.self.now) c.requires.kept.indexed c.put.new.table.items;
    }
