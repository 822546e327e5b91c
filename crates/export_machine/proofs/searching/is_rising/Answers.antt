use Rattle.std.proofs.Common.{ltb, rules}
use Rattle.std.proofs.lemmas.List.Sorted.{answers_always}
use Rattle.export_machine.proofs.Ascending.{rising_answer}
use Rattle.export_machine.proofs.searching.is_rising.Goals as goal

pub returns : goal.returns
returns c = rising_answer c.args.dirs.now c.is_sorted_by.result (c.is_sorted_by.ensures.cases ltb (answers_always _ _ _ (λ f a r f' k. search rules)))
