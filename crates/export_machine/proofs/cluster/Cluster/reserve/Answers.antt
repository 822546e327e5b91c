use Rattle.std.proofs.Common.{◌≡◌, ◌<◌, ℕ, Option, Some, None, true, length, sym, ap, ◌∙◌, subst}
use Rattle.std.proofs.lemmas.List.{length-map}
use Rattle.std.specs.Option.{IfSome}
use Rattle.std.proofs.lemmas.Bool.{false≢true}
use Rattle.std.specs.Result.{IsOk}
use Rattle.export_machine.specs.Kept.{State, has_entry_places}
use Rattle.export_machine.proofs.Bounds.{on_ok, kept_same, room_parts, lists_kept, grown_room, ready_is, keeps_room}
use Rattle.export_machine.proofs.Receiving.{as_lists}
use Rattle.export_machine.proofs.cluster.Cluster.reserve.Goals as goal

some_near : (o : Option ℕ) (a b : ℕ) → b ≡ a → IfSome o (λ r. r < a) → IfSome o (λ r. r < b)
some_near None a b e h = tt
some_near (Some r) a b e h = rw e h

pub grow_entry-requires-clause-listing : goal.grow_entry-requires-clause-listing
grow_entry-requires-clause-listing c =
    let r = c.self.inside.records in
    let same : length r.open_at.items ≡ length c.args.self.now.world.journals =
    as_lists r c.self.invariant ∙ (sym (length-map r.journals.items (λ j. j.items)) ∙ ap (λ (s : State). length s.world.journals) c.self.view_is) in
    some_near c.journal_rank-rank.result _ _ same c.journal_rank-rank.ensures.near

pub invariant_of-self : goal.invariant_of-self
invariant_of-self c = kept_same c.self.inside.records c.grow_entry.new.self c.grow_entry.ensures.world c.grow_entry.ensures.indexes c.self.invariant

pub returns-in_err-grow_entry-clause-ready : goal.returns-in_err-grow_entry-clause-ready
returns-in_err-grow_entry-clause-ready c = λ h.
    (let r = c.self.inside.records in
    let p = (room_parts r (c.args.event.now) (sym (ready_is r (c.args.event.now)) ∙ (rw (← c.self.view_is) at h))).0 in
    let k : has_entry_places r c.journal_rank-rank.result ≡ true = rw (c.journal_rank-rank.ensures.rank, ← c.self.view_is) p in
    absurd (false≢true (subst IsOk c.in_err-grow_entry.was (c.grow_entry.ensures.ready k))))

pub returns-in_err-grow_entry-clause-spare : goal.returns-in_err-grow_entry-clause-spare
returns-in_err-grow_entry-clause-spare c =
    rw (← c.self.view_is) (keeps_room c.self.inside.records c.grow_entry.new.self c.grow_entry.ensures.spare c.grow_entry.ensures.world)

pub invariant_of-self-2 : goal.invariant_of-self-2
invariant_of-self-2 c =
    kept_same c.self.inside.records c.grow_lists.new.self (c.grow_lists.ensures.world ∙ c.grow_entry.ensures.world)
    (c.grow_lists.ensures.indexes ∙ c.grow_entry.ensures.indexes) c.self.invariant

pub returns-clause-room : goal.returns-clause-room
returns-clause-room c =
    let e = c.args.event.now in
    let rank = rw (← c.self.view_is) at c.journal_rank-rank.ensures.rank in
    on_ok c.grow_lists.result (λ l. ready_is c.grow_lists.new.self (e)
    ∙ grown_room c.self.inside.records c.grow_entry.new.self c.grow_lists.new.self (e) c.journal_rank-rank.result rank
    (c.grow_lists.ensures.world ∙ c.grow_entry.ensures.world) c.grow_lists.ensures.spare c.in_ok-grow_entry.ensures.room l) c.grow_lists.ensures.room

pub returns-clause-ready : goal.returns-clause-ready
returns-clause-ready c = λ h.
    (let r = c.self.inside.records in
    c.grow_lists.ensures.ready (lists_kept r c.grow_entry.new.self c.grow_entry.ensures.spare c.grow_entry.ensures.world (c.args.event.now)
    (room_parts r (c.args.event.now) (sym (ready_is r (c.args.event.now)) ∙ (rw (← c.self.view_is) at h))).1))

pub returns-clause-spare : goal.returns-clause-spare
returns-clause-spare c =
    rw (← c.self.view_is) (λ e h. keeps_room c.grow_entry.new.self c.grow_lists.new.self c.grow_lists.ensures.spare c.grow_lists.ensures.world e
    (keeps_room c.self.inside.records c.grow_entry.new.self c.grow_entry.ensures.spare c.grow_entry.ensures.world e h))
