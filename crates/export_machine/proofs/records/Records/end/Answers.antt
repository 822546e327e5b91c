use Rattle.std.proofs.Common.{◌≡◌, ◌<◌, ℕ, zero, suc, List, [], ◌∷◌, length, get_or, Option, Some, None, sym, ap, ◌∙◌, refl, arith}
use Rattle.export_protocol.specs.declared.event.Request.{Request}
use Rattle.export_protocol.specs.Step.{happens, changed}
use Rattle.export_machine.specs.Kept.{world_of, indexes_of}
use Rattle.std.proofs.lemmas.List.{length-map}
use Rattle.export_machine.proofs.ByRank.{filed_rank}
use Rattle.export_machine.proofs.Indexing.{end_indexed, end_runs, request_there}
use Rattle.export_protocol.proofs.Accepted.{end_ticket, end_near}
use Rattle.export_machine.proofs.records.Records.end.Goals as goal

ticket_at : (ts : List (Option Request)) (t : ℕ) (o : Option Request) → t < length ts → o ≡ get_or ts t o → get_or ts t None ≡ o
ticket_at ts t o h e = any ts t o None h ∙ sym e
  where
    any : (us : List (Option Request)) (k : ℕ) (a b : Option Request) → k < length us → get_or us k b ≡ get_or us k a
    any [] k a b l = absurd (omega arith)
    any (u ∷ us) zero a b l = refl
    any (u ∷ us) (suc k) a b l = any us k a b (omega arith)

pub index-requires : goal.index-requires
index-requires c = let near : c.args.ticket < length c.args.self.now.tickets.items =
    end_near (world_of c.args.self.now) c.args.ticket c.requires.accepted in omega arith

pub returns-in_default : goal.returns-in_default
returns-in_default c =
    absurd (end_ticket (world_of c.args.self.now) c.args.ticket c.requires.accepted
    (ticket_at c.args.self.now.tickets.items c.args.ticket c.index.result.now
    (end_near (world_of c.args.self.now) c.args.ticket c.requires.accepted) c.index.ensures ∙ c.in_default.is))

pub end-requires-clause-near : goal.end-requires-clause-near
end-requires-clause-near c =
    let e : get_or c.args.self.now.tickets.items c.args.ticket None ≡ Some c.in-Some.request =
    ticket_at c.args.self.now.tickets.items c.args.ticket c.index.result.now
    (end_near (world_of c.args.self.now) c.args.ticket c.requires.accepted) c.index.ensures ∙ c.in-Some.is in
    rw c.requires.kept.indexed.running_places (request_there (world_of c.args.self.now) c.requires.kept.reached c.args.ticket c.in-Some.request e)

pub end-requires-clause-some : goal.end-requires-clause-some
end-requires-clause-some c =
    let e : get_or c.args.self.now.tickets.items c.args.ticket None ≡ Some c.in-Some.request =
    ticket_at c.args.self.now.tickets.items c.args.ticket c.index.result.now
    (end_near (world_of c.args.self.now) c.args.ticket c.requires.accepted) c.index.ensures ∙ c.in-Some.is in
    end_runs (world_of c.args.self.now) (indexes_of c.args.self.now) c.args.ticket c.in-Some.request c.requires.kept.indexed e

pub index_mut-requires : goal.index_mut-requires
index_mut-requires c = let near : c.args.ticket < length c.args.self.now.tickets.items =
    end_near (world_of c.args.self.now) c.args.ticket c.requires.accepted in omega arith

pub note_end-requires-clause-near : goal.note_end-requires-clause-near
note_end-requires-clause-near c =
    let e : get_or c.args.self.now.tickets.items c.args.ticket None ≡ Some c.in-Some.request =
    ticket_at c.args.self.now.tickets.items c.args.ticket c.index.result.now
    (end_near (world_of c.args.self.now) c.args.ticket c.requires.accepted) c.index.ensures ∙ c.in-Some.is in
    let w = world_of c.args.self.now in
    let filed : c.in-Some.request.rank < length (indexes_of c.args.self.now).tickets_at =
    filed_rank w.ranks w.tickets (indexes_of c.args.self.now).tickets_at c.requires.kept.indexed.requests c.args.ticket
    c.in-Some.request e in
    omega (arith, filed, length-map c.args.self.now.tickets_at.items (λ l. l.items))

pub note_end-requires-clause-indexed : goal.note_end-requires-clause-indexed
note_end-requires-clause-indexed c =
    let e : get_or c.args.self.now.tickets.items c.args.ticket None ≡ Some c.in-Some.request =
    ticket_at c.args.self.now.tickets.items c.args.ticket c.index.result.now
    (end_near (world_of c.args.self.now) c.args.ticket c.requires.accepted) c.index.ensures ∙ c.in-Some.is in
    let near : c.in-Some.request.dir < length c.args.self.now.dirs.parents =
    request_there (world_of c.args.self.now) c.requires.kept.reached c.args.ticket c.in-Some.request e in
    rw c.end.ensures (end_indexed (world_of c.args.self.now) (indexes_of c.args.self.now) c.args.ticket c.in-Some.request c.requires.kept.indexed e near)

pub returns : goal.returns
unfolding happens
returns c =
    record {
      effect = ap changed (sym (ap world_of c.note_end.ensures.others ∙ rw c.end.ensures refl));
      indexed = c.note_end.ensures.indexed;
    }
