use Rattle.std.proofs.Common.{Vec, Global, ◌++◌, map, ◌∙◌}
use Rattle.rank_threads.specs.declared.work.WorkAnswer.{WorkAnswer}
use Rattle.script_board.specs.Fault.{unless_done}
use Rattle.script_board.specs.Serve.{refusals}
use Rattle.script_board.proofs.DealingLemmas.{told_in_turn}
use Rattle.script_board.proofs.script_board.ScriptBoard.told.Goals as goal

pub returns-clause-told : goal.returns-clause-told
returns-clause-told g c =
    told_in_turn c.args.refused.items
    (refusals (map (λ (a : Vec WorkAnswer Global). a.items) c.args.ranks.answers.items) c.args.dealt.now.seats.items)
    (unless_done c.args.ranks.ended) (unless_done c.args.ranks.deposited)
    c.tell.new.refused.items c.tell_rest.new.refused.items c.tell_rest-2.new.refused.items c.requires.none
    (c.tell.ensures.told ∙ (λ i. c.args.refused.items ++ refusals (map (λ (a : Vec WorkAnswer Global). a.items) (c.deref-2.ensures.value i))
    (c.deref.ensures.value i)))
    c.tell_rest.ensures.told c.tell_rest-2.ensures.told
