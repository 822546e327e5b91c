use Rattle.std.proofs.Common.{◌≡◌, get_or, Some, None, sym, ap, ◌∙◌}
use Rattle.export_machine.specs.Kept.{world_of, indexes_of}
use Rattle.export_machine.proofs.Indexing.{end_indexed, end_runs}
use Rattle.export_machine.proofs.records.Records.end_at.Goals as goal

pub end-requires-clause-near : goal.end-requires-clause-near
end-requires-clause-near c =
    let e : get_or c.args.self.now.tickets.items c.args.ticket None ≡ Some c.in-Some.request =
    ap (λ ts. get_or ts c.args.ticket None) (sym c.deref.ensures.value) ∙ (sym c.value_at.ensures ∙ c.in-Some.is) in
    rw c.requires.indexed.running_places (c.requires.there c.in-Some.request e)

pub end-requires-clause-some : goal.end-requires-clause-some
end-requires-clause-some c =
    let e : get_or c.args.self.now.tickets.items c.args.ticket None ≡ Some c.in-Some.request =
    ap (λ ts. get_or ts c.args.ticket None) (sym c.deref.ensures.value) ∙ (sym c.value_at.ensures ∙ c.in-Some.is) in
    end_runs (world_of c.args.self.now) (indexes_of c.args.self.now) c.args.ticket c.in-Some.request c.requires.indexed e

pub returns-clause-indexed : goal.returns-clause-indexed
returns-clause-indexed c =
    let e : get_or c.args.self.now.tickets.items c.args.ticket None ≡ Some c.in-Some.request =
    ap (λ ts. get_or ts c.args.ticket None) (sym c.deref.ensures.value) ∙ (sym c.value_at.ensures ∙ c.in-Some.is) in
    rw (c.end.ensures, c.put.ensures.items)
    (end_indexed (world_of c.args.self.now) (indexes_of c.args.self.now) c.args.ticket c.in-Some.request c.requires.indexed e
    (c.requires.there c.in-Some.request e))
