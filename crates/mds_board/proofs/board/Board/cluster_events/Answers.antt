use Rattle.std.proofs.Common.{◌≡◌, ◌∙◌, ◌++◌, ◌<◌, ◌≤◌, List, Some, arith, length, slice_get, take, ap, subst, sym}
use Rattle.std.proofs.lemmas.List.{take_all}
use Rattle.std.proofs.lemmas.Option.{get_or_from_slice_get}
use Rattle.export_protocol.proofs.Lists.{take_next}
use Rattle.export_protocol.specs.declared.event.Event.{Event}
use Rattle.export_protocol.specs.Step.{run, start}
use Rattle.mds_board.specs.declared.entry.Entry.{Entry}
use Rattle.mds_board.specs.History.{World}
use Rattle.mds_board.specs.Promises.{cluster_event, cluster_events}
use Rattle.mds_board.specs.Stored.{shown_entry}
use Rattle.mds_board.proofs.Headline.{cluster_ran}
use Rattle.mds_board.proofs.Listing.{events_next}
use Rattle.mds_board.proofs.board.Board.cluster_events.Goals as goal

pub loop-number-preserved : goal.loop-number-preserved
loop-number-preserved g c =
    let history = c.args.self.now.history in
    let same : c.self.inside.history.entries ≡ history = ap (λ (w : World). w.history) c.self.view_is in
    let i = c.loop-number.number in
    let e = shown_entry c.at.result in
    let inside : i < length c.self.inside.history.entries = omega arith in
    let near = subst (λ (es : List Entry). i < length es) same inside in
    let is = sym (get_or_from_slice_get history i e e (subst (λ (es : List Entry). slice_get es i ≡ Some e) same c.at.ensures)) in
    record {
      events = c.in_ok-list_event.ensures ∙ (ap (λ (events : List Event). events ++ cluster_event e.change) c.loop-number.invariant.events
          ∙ (sym (events_next (take i history) e) ∙ ap cluster_events (sym (take_next history i e near is))));
    }

pub returns-clause-again : goal.returns-clause-again
returns-clause-again g c =
    let same : c.self.inside.history.entries ≡ c.args.self.now.history = ap (λ (w : World). w.history) c.self.view_is in
    let all_told : length c.self.inside.history.entries ≤ c.loop-number.number = omega arith in
    let past = subst (λ (es : List Entry). length es ≤ c.loop-number.number) same all_told in
    let all = c.loop-number.invariant.events ∙ ap cluster_events (take_all c.loop-number.number c.args.self.now.history past) in
    subst (λ (w : World). run (start w.state.directories.limit w.state.pins.active) c.loop-number.events.items ≡ w.state.cluster) c.self.view_is
    (ap (run (start c.self.inside.state.state.directories.limit c.self.inside.state.state.pins.active))
    (all ∙ ap (λ (w : World). cluster_events w.history) (sym c.self.view_is))
    ∙ sym (cluster_ran _ _ _ c.self.invariant.replay))
