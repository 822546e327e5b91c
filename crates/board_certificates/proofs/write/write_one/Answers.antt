use Rattle.std.proofs.Common.{◌∙◌, List, ℕ, subst}
use Rattle.std.specs.Io.KnownBytes.{Appends}
use Rattle.board_certificates.proofs.write.write_one.Goals as goal

pub returns-clause-written : goal.returns-clause-written
returns-clause-written g c =
    subst (λ (t : List ℕ). Appends (g.W.Write.contents c.args.writer.now) (g.W.Write.contents c.write_whole.new.writer) t)
    (c.as_bytes.ensures.value ∙ c.in_ok-made.ensures.text) c.in_ok-write_whole.ensures.ok
