use Rattle.certificate_judge.proofs.JudgedLemmas.{judged_is}
use Rattle.certificate_judge.proofs.reporting.report.Goals as goal

pub returns : goal.returns
returns g c =
    judged_is g.W.Write.contents g.E.Write.contents (g.R.Read.remaining c.args.reader.now) c.args.writer.now c.print_judged.new.writer
    c.args.errors.now c.print_judged.new.errors
    c.print_judged.result c.judge.result c.judge.ensures.answered c.judge.ensures.refused
    c.print_judged.ensures.yes c.print_judged.ensures.no c.print_judged.ensures.all c.print_judged.ensures.front c.print_judged.ensures.few
    c.print_judged.ensures.refused c.print_judged.ensures.memory
