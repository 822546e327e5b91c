use Rattle.std.proofs.Common.{◌≡◌, ◌<◌, ◌≤◌, ◌&&◌, ℕ, List, [], Option, None, true, false, cond}
use Rattle.std.proofs.Common.{eqb, length, get_or, set, take, sym, ap, ◌∙◌, subst, refl, arith}
use Rattle.std.proofs.lemmas.Bool.{and_parts}
use Rattle.export_protocol.specs.declared.exporter.ExporterState.{ExporterState}
use Rattle.export_protocol.specs.declared.exporter.ExporterState.TheVariants.{Aborted}
use Rattle.export_machine.specs.declared.records.Records.{Records}
use Rattle.mds_types.specs.declared.order.Order.{Order}
use Rattle.export_machine.specs.ExportColumns.{ExportColumns}
use Rattle.export_protocol.specs.Authority.{order_in, from_of, is_among, is_inside, exporter_of}
use Rattle.export_protocol.specs.Step.{map_at, is_before_log}
use Rattle.export_machine.specs.Kept.{world_of, indexes_of, IsIndexed}
use Rattle.export_protocol.specs.Entries.{exporter_at_stop}
use Rattle.export_machine.proofs.ByRank.{list_here}
use Rattle.export_protocol.proofs.Views.{map_at_length}
use Rattle.export_machine.proofs.Listed.{change_among_none, change_among_next, change_among_all, set_own, before_near}
use Rattle.export_protocol.proofs.Safe.{aborted_safe}
use Rattle.export_protocol.proofs.Reached.{by_safe}
use Rattle.export_machine.proofs.Indexing.{abort_there, abort_indexed, aborted}
use Rattle.export_protocol.proofs.Accepted.{numbers_by}
use Rattle.export_machine.proofs.Halted.{halted_twice, is_halted, not_halted, unlisted_exporter}
use Rattle.export_machine.proofs.records.Records.halt_exports.Goals as goal
use Rattle.export_machine.proofs.records.Records.halt_exports.Goals.{then-is_halted, else-is_halted}

pub loop-at-init : goal.loop-at-init
loop-at-init c = record {
  others = refl;
  exporters = change_among_none (λ x state. cond (eqb (from_of (world_of c.args.self.now) x) c.args.rank) (exporter_at_stop state) state)
      c.args.self.now.exports.exporters;
  indexed = c.requires.kept.indexed;
  safely = by_safe (world_of c.args.self.now) c.requires.kept.reached;
}

pub order-requires : goal.order-requires
order-requires c =
    let self = c.loop-at.self in
    let n = c.index-export.result.now in
    let halted : (eqb (from_of (world_of self) n) c.args.rank && is_before_log (exporter_of (world_of self) n))
    ≡ true = sym c.is_halted.ensures ∙ c.if-is_halted.true in
    let before : is_before_log (exporter_of (world_of self) n) ≡ true = (and_parts _ _ halted).1 in
    let g = λ (x : ℕ) (state : ExporterState). cond (eqb (from_of (world_of c.args.self.now) x) c.args.rank) (exporter_at_stop state) state in
    let listed : List ℕ = get_or (indexes_of c.args.self.now).open_at c.args.rank [] in
    let as_many : length self.exports.exporters ≡ length c.args.self.now.exports.exporters = ap length c.loop-at.invariant.exporters
    ∙ map_at_length (λ k a. cond (is_among (take c.loop-at.at listed) k) (g k a) a) c.args.self.now.exports.exporters in
    let orders : length self.exports.orders ≡ length c.args.self.now.exports.orders =
    ap (λ (r : Records). length r.exports.orders) c.loop-at.invariant.others in
    let all : length c.args.self.now.exports.exporters ≡ length c.args.self.now.exports.orders =
    numbers_by (world_of c.args.self.now) c.requires.kept.reached (length c.args.self.now.exports.exporters)
    (length c.args.self.now.exports.orders) (λ safe. safe.exporting) in
    let placed : n < length self.exports.exporters = before_near self.exports.exporters n before in
    let ordered : n < length self.exports.orders = omega arith in
    record { near = rw c.set_exporter.ensures ordered }

pub mark_opened-requires : goal.mark_opened-requires
mark_opened-requires c =
    let self = c.loop-at.self in
    let n = c.index-export.result.now in
    let halted : (eqb (from_of (world_of self) n) c.args.rank && is_before_log (exporter_of (world_of self) n))
    ≡ true = sym c.is_halted.ensures ∙ c.if-is_halted.true in
    let before : is_before_log (exporter_of (world_of self) n) ≡ true = (and_parts _ _ halted).1 in
    let here : order_in self.exports.orders n ≡ c.order.result.now =
    sym (c.order.ensures ∙ ap (λ (t : ExportColumns). order_in t.orders n) c.set_exporter.ensures) in
    let e : (order_in self.exports.orders n).dirs ≡ c.as_slice.result.now = ap (λ (o : Order). o.dirs) here ∙ sym c.as_slice.ensures in
    record {
      near = λ d h. rw c.loop-at.invariant.indexed.opened_places
          (abort_there (world_of self) c.loop-at.invariant.safely n before d (ap (λ (ds : List ℕ). is_among ds d) e ∙ h));
    }

pub loop-at-preserved : goal.loop-at-preserved
loop-at-preserved c =
    let self = c.loop-at.self in
    let xs = c.args.self.now.exports.exporters in
    let g = λ (x : ℕ) (state : ExporterState). cond (eqb (from_of (world_of c.args.self.now) x) c.args.rank) (exporter_at_stop state) state in
    let listed : List ℕ = get_or (indexes_of c.args.self.now).open_at c.args.rank [] in
    let n = c.index-export.result.now in
    let lists : self.open_at ≡ c.args.self.now.open_at = ap (λ (r : Records). r.open_at) c.loop-at.invariant.others in
    let here : listed ≡ c.index-in-loop-at.result.now.items =
    list_here c.args.self.now.open_at.items c.number-index.result c.args.rank c.index-in-loop-at.result.now c.number-index.ensures.value c.requires.ranked
    (c.index-in-loop-at.ensures ∙ ap (λ ls. get_or ls.items c.number-index.result c.index-in-loop-at.result.now) lists) in
    let first : listed ≡ c.index.result.now.items =
    list_here c.args.self.now.open_at.items c.number-index.result c.args.rank c.index.result.now c.number-index.ensures.value
    c.requires.ranked c.index.ensures in
    let near : c.loop-at.at < length listed = rw first (omega arith) in
    let read : n ≡ get_or listed c.loop-at.at n = c.index-export.ensures ∙ ap (λ l. get_or l c.loop-at.at n) (sym here) in
    let from : from_of (world_of self) n ≡ from_of (world_of c.args.self.now) n =
    ap (λ (r : Records). (order_in r.exports.orders n).from) c.loop-at.invariant.others in
    let twice = λ (k : ℕ) (a : ExporterState). halted_twice (eqb (from_of (world_of c.args.self.now) k) c.args.rank) a in
    elim c.if-is_halted.branch [
      | then-is_halted w ↦
          (let halted : (eqb (from_of (world_of self) n) c.args.rank && is_before_log (exporter_of (world_of self) n))
          ≡ true = sym c.is_halted.ensures ∙ w.if-is_halted.true in
          let before : is_before_log (exporter_of (world_of self) n) ≡ true = (and_parts _ _ halted).1 in
          let as_many : length self.exports.exporters ≡ length xs = ap length c.loop-at.invariant.exporters
          ∙ map_at_length (λ k a. cond (is_among (take c.loop-at.at listed) k) (g k a) a) xs in
          let orders : length self.exports.orders ≡ length c.args.self.now.exports.orders =
          ap (λ (r : Records). length r.exports.orders) c.loop-at.invariant.others in
          let all : length xs ≡ length c.args.self.now.exports.orders =
          numbers_by (world_of c.args.self.now) c.requires.kept.reached (length xs) (length c.args.self.now.exports.orders) (λ safe. safe.exporting) in
          let placed : n < length self.exports.exporters = before_near self.exports.exporters n before in
          let ordered : n < length self.exports.orders = omega arith in
          let value : Aborted ≡ g n (get_or self.exports.exporters n Aborted) =
          is_halted (eqb (from_of (world_of self) n) c.args.rank) (exporter_of (world_of self) n) halted
          ∙ ap (λ k. cond (eqb k c.args.rank) (exporter_at_stop (exporter_of (world_of self) n)) (exporter_of (world_of self) n))
          from in
          let here : order_in self.exports.orders n ≡ w.order.result.now =
          sym (w.order.ensures ∙ ap (λ (t : ExportColumns). order_in t.orders n) w.set_exporter.ensures) in
          let e : (order_in self.exports.orders n).dirs ≡ w.as_slice.result.now = ap (λ (o : Order). o.dirs) here ∙ sym w.as_slice.ensures in
          let marks : List (Option ℕ) = map_at (λ k old. cond (is_among w.as_slice.result.now k) None old) self.dirs.opened in
          let marked : map_at (λ k old. cond (is_inside (world_of self) n k) None old) self.dirs.opened ≡ marks =
          ap (λ (ds : List ℕ). map_at (λ k old. cond (is_among ds k) None old) self.dirs.opened) e in
          rw (w.self-is, w.mark_opened.ensures, w.set_exporter.ensures) (record {
            others = ap (λ (r : Records). record r {
              exports = record r.exports { exporters = set self.exports.exporters n Aborted };
              dirs = record r.dirs { opened = marks };
            }) c.loop-at.invariant.others;
            exporters = change_among_next g twice listed c.loop-at.at n xs self.exports.exporters Aborted Aborted near read c.loop-at.invariant.exporters value;
            indexed = subst (λ (os : List (Option ℕ)). IsIndexed (aborted (world_of self) n placed self.sent.items)
                (record (indexes_of self) { opened = os })) marked
                (abort_indexed (world_of self) n placed self.sent.items c.loop-at.invariant.safely (indexes_of self) c.loop-at.invariant.indexed before);
            safely = λ k. c.loop-at.invariant.safely (λ safe. k (aborted_safe (world_of self) safe n Aborted placed before refl));
          }))
      | else-is_halted w ↦
          (let halted : (eqb (from_of (world_of self) n) c.args.rank && is_before_log (exporter_of (world_of self) n))
          ≡ false = sym c.is_halted.ensures ∙ w.if-is_halted.false in
          let value : get_or self.exports.exporters n Aborted ≡ g n (get_or self.exports.exporters n Aborted) =
          sym (not_halted (eqb (from_of (world_of self) n) c.args.rank) (exporter_of (world_of self) n) halted)
          ∙ ap (λ k. cond (eqb k c.args.rank) (exporter_at_stop (exporter_of (world_of self) n)) (exporter_of (world_of self) n))
          from in
          rw w.self-is (record {
            others = c.loop-at.invariant.others;
            exporters = sym (set_own self.exports.exporters n Aborted)
                ∙ change_among_next g twice listed c.loop-at.at n xs self.exports.exporters (get_or self.exports.exporters n Aborted)
                Aborted near read c.loop-at.invariant.exporters value;
            indexed = c.loop-at.invariant.indexed;
            safely = c.loop-at.invariant.safely;
          }))
    ]

pub returns-clause-exporters : goal.returns-clause-exporters
returns-clause-exporters c =
    let w = world_of c.args.self.now in
    let i = indexes_of c.args.self.now in
    let g = λ (x : ℕ) (state : ExporterState). cond (eqb (from_of w x) c.args.rank) (exporter_at_stop state) state in
    let listed : List ℕ = get_or (indexes_of c.args.self.now).open_at c.args.rank [] in
    let first : listed ≡ c.index.result.now.items =
    list_here c.args.self.now.open_at.items c.number-index.result c.args.rank c.index.result.now c.number-index.ensures.value
    c.requires.ranked c.index.ensures in
    let past : length listed ≤ c.loop-at.at = rw first (omega arith) in
    c.loop-at.invariant.exporters
    ∙ change_among_all g listed c.loop-at.at c.args.self.now.exports.exporters Aborted past
    (λ k h. unlisted_exporter w.ranks w.orders w.exporters w.importers w.journals i.open_at i.dropped c.requires.kept.indexed.listed c.args.rank k h)
