use Rattle.std.proofs.Common.{◌<◌, All, Option, arith, length, subst, sym}
use Rattle.std.proofs.lemmas.Option.{get_or_from_slice_get}
use Rattle.std.proofs.lemmas.Result.{err_from_is_err_and}
use Rattle.std.specs.Option.{option_map}
use Rattle.board_certificates.proofs.WriteLemmas.{all_writable, allowed, at_front, at_next, begins, done, lent, written_at}
use Rattle.board_certificates.proofs.write.write_history.Goals as goal
use Rattle.board_certificates.specs.Certificates.{PosedData, certified_by}
use Rattle.board_certificates.specs.Posed.{IsSized, posed_of}
use Rattle.mds_board.specs.State.{start}
use Rattle.mds_board.specs.Stored.{shown_entry}
use Rattle.plan_text.specs.Text.{texts}
use Rattle.plan_text.specs.Writable.{IsWritable}
use Rattle.script_engine.specs.Known.{AppendsFront}
use Rattle.std.specs.Io.KnownBytes.{Appends}

pub loop-number-init : goal.loop-number-init
loop-number-init g c = record {
  state = start c.args.limit c.args.active;
  replayed = c.in_ok-replay.ensures;
  sized = tt;
  ahead = c.requires.replay;
  partly = begins _ _;
  writable = λ all. all;
}

pub write_entry-requires : goal.write_entry-requires
write_entry-requires g c = subst IsSized (sym (lent c.as_ref.result c.loop-number.last c.as_ref.ensures.value)) c.loop-number.invariant.sized

pub follow-requires : goal.follow-requires
follow-requires g c =
    let near : c.loop-number.number < length c.args.history.now.entries = omega arith in
    let e = shown_entry c.at-entry.result in (
      c.loop-number.invariant.state,
      c.loop-number.invariant.replayed,
      allowed _ _ _ _ _ _ _ _ e near (get_or_from_slice_get c.args.history.now.entries c.loop-number.number e e c.at-entry.ensures)
          c.loop-number.invariant,
    )

pub returns-in_err-write_entry-clause-begun : goal.returns-in_err-write_entry-clause-begun
returns-in_err-write_entry-clause-begun g c =
    let near : c.loop-number.number < length c.args.history.now.entries = omega arith in
    let e = shown_entry c.at-entry.result in
    let same = lent c.as_ref.result c.loop-number.last c.as_ref.ensures.value in
    let failed = err_from_is_err_and c.from_residual-in_err-write_entry.result c.from_residual-in_err-write_entry.ensures.1 in
    rw failed.1 (at_front _ _ _ _ _ _ _ _ e near
    (get_or_from_slice_get c.args.history.now.entries c.loop-number.number e e c.at-entry.ensures) c.loop-number.invariant
    (g.W.Write.contents c.write_entry.new.writer)
    (subst (λ (posed : Option PosedData). AppendsFront (g.W.Write.contents c.loop-number.writer)
    (g.W.Write.contents c.write_entry.new.writer) (texts (certified_by posed e.change))) same c.in_err-write_entry.ensures.begun))

pub returns-in_err-last-clause-begun : goal.returns-in_err-last-clause-begun
returns-in_err-last-clause-begun g c =
    let near : c.loop-number.number < length c.args.history.now.entries = omega arith in
    let e = shown_entry c.at-entry.result in
    let same = lent c.as_ref.result c.loop-number.last c.as_ref.ensures.value in
    let failed = err_from_is_err_and c.from_residual-in_err-last.result c.from_residual-in_err-last.ensures.1 in
    rw failed.1 (written_at _ _ _ _ _ _ _ _ e near
    (get_or_from_slice_get c.args.history.now.entries c.loop-number.number e e c.at-entry.ensures) c.loop-number.invariant
    (g.W.Write.contents c.write_entry.new.writer)
    (subst (λ (posed : Option PosedData). Appends (g.W.Write.contents c.loop-number.writer) (g.W.Write.contents c.write_entry.new.writer)
    (texts (certified_by posed e.change))) same c.in_ok-write_entry.ensures.written))

pub loop-number-preserved : goal.loop-number-preserved
loop-number-preserved g c =
    let near : c.loop-number.number < length c.args.history.now.entries = omega arith in
    let e = shown_entry c.at-entry.result in
    let at = c.loop-number.invariant in
    let item = get_or_from_slice_get c.args.history.now.entries c.loop-number.number e e c.at-entry.ensures in
    let same = lent c.as_ref.result c.loop-number.last c.as_ref.ensures.value in
    at_next _ _ _ _ _ _ _ _ e near item at (g.W.Write.contents c.write_entry.new.writer) c.follow.new.replay (option_map posed_of c.in_ok-last.last)
    (subst (λ (posed : Option PosedData). Appends (g.W.Write.contents c.loop-number.writer) (g.W.Write.contents c.write_entry.new.writer)
    (texts (certified_by posed e.change))) same c.in_ok-write_entry.ensures.written)
    (subst (λ (posed : Option PosedData). All IsWritable (certified_by posed e.change)) same c.in_ok-write_entry.ensures.writable)
    (c.in_ok-last.ensures.posed at.state at.replayed)
    (c.in_ok-last.ensures.replayed at.state at.replayed (allowed _ _ _ _ _ _ _ _ e near item at))

pub returns-clause-written : goal.returns-clause-written
returns-clause-written g c = done _ _ _ _ _ _ _ _ (omega arith) c.loop-number.invariant

pub returns-clause-writable : goal.returns-clause-writable
returns-clause-writable g c = all_writable _ _ _ _ _ _ _ _ (omega arith) c.loop-number.invariant
