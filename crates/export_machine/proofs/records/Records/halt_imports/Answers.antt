use Rattle.std.proofs.Common.{◌≡◌, ◌<◌, ◌≤◌, ℕ, Bool, List, [], true, false, cond, eqb, length, get_or, set, take, sym, ap, ◌∙◌, refl, arith}
use Rattle.std.proofs.lemmas.Bool.{eqb-true}
use Rattle.export_protocol.specs.declared.importer.ImporterState.{ImporterState}
use Rattle.export_protocol.specs.declared.importer.ImporterState.TheVariants.{Unknown}
use Rattle.export_protocol.specs.declared.journal.JournalEntry.{JournalEntry}
use Rattle.export_machine.specs.declared.records.Records.{Records}
use Rattle.export_protocol.specs.Authority.{order_in, to_of, has, is_among, importer_of}
use Rattle.export_machine.specs.Kept.{world_of, indexes_of}
use Rattle.export_protocol.specs.Entries.{importer_at_stop}
use Rattle.export_machine.proofs.ByRank.{list_here}
use Rattle.export_protocol.proofs.Marks.{map_at_same}
use Rattle.export_protocol.proofs.Views.{map_at_length}
use Rattle.export_machine.proofs.Listed.{change_among_none, change_among_next, change_among_all}
use Rattle.export_machine.proofs.Halted.{left_twice, unlisted_importer}
use Rattle.export_machine.proofs.records.Records.halt_imports.Goals as goal

pub loop-at-init : goal.loop-at-init
loop-at-init c = record {
  others = refl;
  importers = change_among_none
      (λ x state. cond (eqb (to_of (world_of c.args.self.now) x) c.args.rank)
      (importer_at_stop (get_or c.args.self.now.exports.dropped x false) state) state) c.args.self.now.exports.importers;
}

pub import_at_stop-state-requires : goal.import_at_stop-state-requires
import_at_stop-state-requires c =
    let self = c.loop-at.self in
    let g = λ (x : ℕ) (state : ImporterState). cond (eqb (to_of (world_of c.args.self.now) x) c.args.rank)
    (importer_at_stop (get_or c.args.self.now.exports.dropped x false) state) state in
    let listed : List ℕ = get_or (indexes_of c.args.self.now).open_at c.args.rank [] in
    let as_many : length self.exports.importers ≡ length c.args.self.now.exports.importers = ap length c.loop-at.invariant.importers
    ∙ map_at_length (λ k a. cond (is_among (take c.loop-at.at listed) k) (g k a) a) c.args.self.now.exports.importers in
    let orders : length self.exports.orders ≡ length c.args.self.now.exports.orders =
    ap (λ (r : Records). length r.exports.orders) c.loop-at.invariant.others in
    record { near = as_many ∙ (c.requires.near ∙ sym orders) }

pub loop-at-preserved : goal.loop-at-preserved
loop-at-preserved c =
    let self = c.loop-at.self in
    let xs = c.args.self.now.exports.importers in
    let g = λ (x : ℕ) (state : ImporterState). cond (eqb (to_of (world_of c.args.self.now) x) c.args.rank)
    (importer_at_stop (get_or c.args.self.now.exports.dropped x false) state) state in
    let listed : List ℕ = get_or (indexes_of c.args.self.now).open_at c.args.rank [] in
    let n = c.index-export.result.now in
    let lists : self.open_at ≡ c.args.self.now.open_at = ap (λ (r : Records). r.open_at) c.loop-at.invariant.others in
    let here : listed ≡ c.index-in-loop-at.result.now.items =
    list_here c.args.self.now.open_at.items c.number-index.result c.args.rank c.index-in-loop-at.result.now c.number-index.ensures.value c.requires.ranked
    (c.index-in-loop-at.ensures ∙ ap (λ ls. get_or ls.items c.number-index.result c.index-in-loop-at.result.now) lists) in
    let first : listed ≡ c.index.result.now.items =
    list_here c.args.self.now.open_at.items c.number-index.result c.args.rank c.index.result.now c.number-index.ensures.value
    c.requires.ranked c.index.ensures in
    let near : c.loop-at.at < length listed = rw first (omega arith) in
    let read : n ≡ get_or listed c.loop-at.at n = c.index-export.ensures ∙ ap (λ l. get_or l c.loop-at.at n) (sym here) in
    let to : to_of (world_of self) n ≡ to_of (world_of c.args.self.now) n = ap (λ (r : Records). (order_in r.exports.orders n).to) c.loop-at.invariant.others in
    let drops : get_or self.exports.dropped n false ≡ get_or c.args.self.now.exports.dropped n false =
    ap (λ (r : Records). get_or r.exports.dropped n false) c.loop-at.invariant.others in
    let twice = λ (k : ℕ) (a : ImporterState). left_twice (eqb (to_of (world_of c.args.self.now) k) c.args.rank)
    (get_or c.args.self.now.exports.dropped k false) a in
    let s : ImporterState = importer_of (world_of self) n in
    let value : c.import_at_stop-state.result ≡ g n s =
    c.import_at_stop-state.ensures
    ∙ (ap (λ k. cond (eqb k c.args.rank) (importer_at_stop (get_or self.exports.dropped n false) s) s) to
    ∙ ap (λ d. cond (eqb (to_of (world_of c.args.self.now) n) c.args.rank) (importer_at_stop d s) s) drops) in
    rw c.set_importer.ensures (record {
      others = ap (λ (r : Records). record r {
        exports =
            record r.exports { importers = set self.exports.importers n c.import_at_stop-state.result };
      }) c.loop-at.invariant.others;
      importers = change_among_next g twice listed c.loop-at.at n xs self.exports.importers c.import_at_stop-state.result Unknown near read
          c.loop-at.invariant.importers value;
    })

pub returns-clause-importers : goal.returns-clause-importers
returns-clause-importers c =
    let w = world_of c.args.self.now in
    let i = indexes_of c.args.self.now in
    let g = λ (x : ℕ) (state : ImporterState). cond (eqb (to_of w x) c.args.rank) (importer_at_stop (get_or i.dropped x false) state) state in
    let listed : List ℕ = get_or (indexes_of c.args.self.now).open_at c.args.rank [] in
    let first : listed ≡ c.index.result.now.items =
    list_here c.args.self.now.open_at.items c.number-index.result c.args.rank c.index.result.now c.number-index.ensures.value
    c.requires.ranked c.index.ensures in
    let past : length listed ≤ c.loop-at.at = rw first (omega arith) in
    c.loop-at.invariant.importers
    ∙ (change_among_all g listed c.loop-at.at c.args.self.now.exports.importers Unknown past
    (λ k h. unlisted_importer w.ranks w.orders w.exporters w.importers w.journals i.open_at i.dropped c.requires.indexed.listed c.args.rank
    (λ x e t. c.requires.dropped x (ap (λ r. has w r (JournalEntry.Dropped x)) (sym e) ∙ (sym (c.requires.indexed.listed.tells x) ∙ t))) k h)
    ∙ map_at_same _ _ (λ x state. tells x state (eqb (to_of w x) c.args.rank) refl) c.args.self.now.exports.importers)
  where
    tells : (x : ℕ) (state : ImporterState) (b : Bool) → eqb (to_of (world_of c.args.self.now) x) c.args.rank ≡ b →
        cond b (importer_at_stop (get_or (indexes_of c.args.self.now).dropped x false) state) state
        ≡ cond b (importer_at_stop (has (world_of c.args.self.now) c.args.rank (JournalEntry.Dropped x)) state) state
    tells x state false e = refl
    tells x state true e =
        ap (λ d. importer_at_stop d state) (c.requires.indexed.listed.tells x
        ∙ ap (λ r. has (world_of c.args.self.now) r (JournalEntry.Dropped x))
        (eqb-true (to_of (world_of c.args.self.now) x) c.args.rank e))
