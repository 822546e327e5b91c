use Rattle.std.proofs.Common.{◌∙◌, List, ℕ, OnErr, OnOk, ap, sym, subst}
use Rattle.std.specs.Io.KnownBytes.{Appends}
use Rattle.std.specs.Option.{option_map}
use Rattle.board_certificates.specs.Posed.{IsSized, posed_of}
use Rattle.mds_board.specs.declared.change.Change.TheVariants.{Adopt}
use Rattle.script_engine.specs.Known.{AppendsFront}
use Rattle.board_certificates.proofs.WriteLemmas.{one}
use Rattle.board_certificates.proofs.write.write_adopted.Goals as goal

pub write_one-requires : goal.write_one-requires
write_one-requires g c = subst IsSized (ap (option_map (λ posed. posed_of posed.now)) c.in-Some.is) c.requires

pub returns-clause-written : goal.returns-clause-written
returns-clause-written g c =
    subst (λ (t : List ℕ). OnOk c.write_one.result (Appends (g.W.Write.contents c.args.writer.now) (g.W.Write.contents c.write_one.new.writer) t))
    (sym (one _ c.args.change.now (posed_of c.in-Some.posed.now) c.plan.result.now
    (ap (option_map (λ posed. posed_of posed.now)) c.in-Some.is) (c.in-Adopt.is ∙ ap Adopt (sym c.plan.ensures))))
    c.write_one.ensures.written

pub returns-clause-begun : goal.returns-clause-begun
returns-clause-begun g c =
    subst (λ (t : List ℕ). OnErr c.write_one.result (AppendsFront (g.W.Write.contents c.args.writer.now) (g.W.Write.contents c.write_one.new.writer) t))
    (sym (one _ c.args.change.now (posed_of c.in-Some.posed.now) c.plan.result.now
    (ap (option_map (λ posed. posed_of posed.now)) c.in-Some.is) (c.in-Adopt.is ∙ ap Adopt (sym c.plan.ensures))))
    c.write_one.ensures.begun
