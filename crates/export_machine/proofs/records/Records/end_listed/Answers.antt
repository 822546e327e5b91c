use Rattle.std.proofs.Common.{◌≡◌, ◌<◌, ◌≤◌, ℕ, List, [], Some, get_or, take, None, length, sym, ap, ◌∙◌, refl, arith}
use Rattle.export_machine.specs.declared.records.Records.{Records}
use Rattle.export_machine.specs.Kept.{world_of, indexes_of}
use Rattle.export_machine.proofs.ByRank.{ends_none, ends_next, ends_all, ended_was, list_here}
use Rattle.export_machine.proofs.records.Records.end_listed.Goals as goal

pub loop-at-init : goal.loop-at-init
loop-at-init c = record {
  others = refl;
  tickets = ends_none c.args.rank c.args.self.now.tickets.items;
  indexed = c.requires.indexed;
}

pub end_at-requires-clause-there : goal.end_at-requires-clause-there
end_at-requires-clause-there c = λ q h.
    (let tickets : List ℕ = get_or (indexes_of c.args.self.now).tickets_at c.args.rank [] in
    let t = c.index-in-loop-at-2.result.now in
    let was : get_or c.args.self.now.tickets.items t None ≡ Some q =
    ended_was c.args.rank (take c.loop-at.at tickets) c.args.self.now.tickets.items t q (sym (ap (λ ts. get_or ts t None) c.loop-at.invariant.tickets) ∙ h) in
    let parents : length c.loop-at.self.dirs.parents ≡ length c.args.self.now.dirs.parents =
    ap (λ (r : Records). length r.dirs.parents) c.loop-at.invariant.others in
    rw parents (c.requires.there t q was))

pub loop-at-preserved : goal.loop-at-preserved
loop-at-preserved c =
    let tickets : List ℕ = get_or (indexes_of c.args.self.now).tickets_at c.args.rank [] in
    let t = c.index-in-loop-at-2.result.now in
    let lists : c.loop-at.self.tickets_at ≡ c.args.self.now.tickets_at = ap (λ (r : Records). r.tickets_at) c.loop-at.invariant.others in
    let here : tickets ≡ c.index-in-loop-at.result.now.items =
    list_here c.args.self.now.tickets_at.items c.number-index.result c.args.rank c.index-in-loop-at.result.now c.number-index.ensures.value c.requires.near
    (c.index-in-loop-at.ensures ∙ ap (λ ls. get_or ls.items c.number-index.result c.index-in-loop-at.result.now) lists) in
    let first : tickets ≡ c.index.result.now.items =
    list_here c.args.self.now.tickets_at.items c.number-index.result c.args.rank c.index.result.now c.number-index.ensures.value
    c.requires.near c.index.ensures in
    let near : c.loop-at.at < length tickets = rw first (omega arith) in
    let read : t ≡ get_or tickets c.loop-at.at t = c.index-in-loop-at-2.ensures ∙ ap (λ l. get_or l c.loop-at.at t) (sym here) in
    record {
      others = c.end_at.ensures.others
          ∙ ap (λ (r : Records). record r {
            tickets = c.end_at.new.self.tickets;
            dirs = record r.dirs { running = c.end_at.new.self.dirs.running };
          }) c.loop-at.invariant.others;
      tickets = c.end_at.ensures.tickets ∙ ends_next c.args.rank tickets c.loop-at.at t c.loop-at.self.tickets.items
          c.args.self.now.tickets.items near read c.loop-at.invariant.tickets;
      indexed = c.end_at.ensures.indexed;
    }

pub returns-clause-tickets : goal.returns-clause-tickets
returns-clause-tickets c =
    let tickets : List ℕ = get_or (indexes_of c.args.self.now).tickets_at c.args.rank [] in
    let first : tickets ≡ c.index.result.now.items =
    list_here c.args.self.now.tickets_at.items c.number-index.result c.args.rank c.index.result.now c.number-index.ensures.value
    c.requires.near c.index.ensures in
    let past : length tickets ≤ c.loop-at.at = rw first (omega arith) in
    c.loop-at.invariant.tickets
    ∙ ends_all (world_of c.args.self.now).ranks c.args.rank c.args.self.now.tickets.items (indexes_of c.args.self.now).tickets_at
    c.loop-at.at c.requires.indexed.requests past
