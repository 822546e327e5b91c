use Rattle.std.proofs.Common.{None, inl, inr, option_and_then, refl}
use Rattle.script_program.specs.Exit.{HasAllIn, HasFrontIn}
use Rattle.script_program.proofs.ExitLemmas.{with_kept, with_lost, without_file}
use Rattle.script_program.proofs.program.carry_out.Goals as goal

pub returns-in_default : goal.returns-in_default
returns-in_default g c =
    without_file g.R.Read.remaining c.args.input.now c.prove.new.input (g.W.Write.contents c.args.writer.now) (g.W.Write.contents c.prove.new.writer)
    c.args.settings.now.limit c.args.settings.now.strict (λ file. file.now) c.args.settings.now.proofs c.in_default.is
    (g.F.ProofFiles.holds c.args.files.now)
    (HasAllIn None (option_and_then g.F.File.Write.contents c.prove.new.proofs)) (HasFrontIn None (option_and_then g.F.File.Write.contents c.prove.new.proofs))
    _ c.prove.ensures

pub returns-in-Err : goal.returns-in-Err
returns-in-Err g c = inr (inr (inr (refl, inr (inr (inl (refl, refl))))))

pub returns-in-Some-proofs : goal.returns-in-Some-proofs
returns-in-Some-proofs g c =
    with_kept g.R.Read.remaining c.args.input.now c.prove-status.new.input (g.W.Write.contents c.args.writer.now) (g.W.Write.contents c.prove-status.new.writer)
    c.args.settings.now.limit c.args.settings.now.strict (λ file. file.now) c.args.settings.now.proofs c.in-Some.name c.in-Some.is
    (g.F.ProofFiles.holds c.create.new.self) (g.F.ProofFiles.holds c.keep.new.self) g.F.File.Write.contents c.in-Ok.file
    c.prove-status.new.proofs c.in-Some-proofs.file _ c.in-Some-proofs.is
    c.in-Ok.ensures c.keep.ensures c.prove-status.ensures

pub returns-in_default-proofs : goal.returns-in_default-proofs
returns-in_default-proofs g c =
    with_lost g.R.Read.remaining c.args.input.now c.prove-status.new.input (g.W.Write.contents c.args.writer.now) (g.W.Write.contents c.prove-status.new.writer)
    c.args.settings.now.limit c.args.settings.now.strict (λ file. file.now) c.args.settings.now.proofs c.in-Some.name c.in-Some.is
    (g.F.ProofFiles.holds c.create.new.self) g.F.File.Write.contents c.in-Ok.file c.prove-status.new.proofs _ c.in_default-proofs.is
    c.in-Ok.ensures c.prove-status.ensures
