use Rattle.script_program.proofs.JudgedLemmas.{judged_yes, of_exit}
use Rattle.script_program.proofs.laws.certificates_are_judged_yes.Goals as goal

pub returns : goal.returns
returns g c words holds status read_before read_after answers_before answers_after said_before said_after ends accepted few name file
    is_name is_file some old new before after verdict judged =
    let all = of_exit g.R.Read.remaining g.E.Write.contents read_before read_after answers_before answers_after said_before said_after holds
    words name file status accepted is_name is_file few ends in
    judged_yes g.W.Write.contents g.E.Write.contents file old new before after verdict all.0 all.1 some judged
