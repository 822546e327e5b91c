use Rattle.std.proofs.Common.{◌≡◌, ◌<◌, List, [], Option, length, set, sym, ap, subst, arith}
use Rattle.export_protocol.specs.declared.event.Request.{Request}
use Rattle.export_machine.specs.declared.records.Records.{Records}
use Rattle.export_machine.specs.Kept.{world_of, indexes_of, AreByRank}
use Rattle.export_machine.proofs.ByRank.{stop_filed, list_set}
use Rattle.export_machine.proofs.Indexing.{refiled}
use Rattle.export_machine.proofs.records.Records.end_requests.Goals as goal

pub index_mut-requires : goal.index_mut-requires
index_mut-requires c =
    let same : length c.end_listed.new.self.tickets_at.items
    ≡ length c.args.self.now.tickets_at.items = ap (λ (r : Records). length r.tickets_at.items) c.end_listed.ensures.others in
    omega (arith, c.requires.near, c.number.ensures.value)

pub returns-clause-indexed : goal.returns-clause-indexed
returns-clause-indexed c =
    let mid = c.end_listed.new.self in
    let w = world_of mid in
    let i = indexes_of mid in
    let same : length mid.tickets_at.items ≡ length c.args.self.now.tickets_at.items =
    ap (λ (r : Records). length r.tickets_at.items) c.end_listed.ensures.others in
    let near : c.args.rank < length mid.tickets_at.items = omega (arith, c.requires.near) in
    let ended : AreByRank w.ranks w.tickets (set i.tickets_at c.args.rank []) =
    subst (λ (ts : List (Option Request)). AreByRank w.ranks ts (set i.tickets_at c.args.rank [])) (sym c.end_listed.ensures.tickets)
    (stop_filed w.ranks c.args.self.now.tickets.items i.tickets_at c.args.rank
    (subst (λ (ts : List (Option Request)). AreByRank w.ranks ts i.tickets_at) c.end_listed.ensures.tickets
    c.end_listed.ensures.indexed.requests)) in
    rw (list_set (λ l. []) mid.tickets_at.items c.number.result c.args.rank c.clear.new.self c.index_mut.result.now c.number.ensures.value
    near c.index_mut.ensures.value c.clear.ensures.items)
    (refiled w i c.end_listed.ensures.indexed _ ended)
