use Rattle.std.proofs.Common.{◌∙◌}
use Rattle.clap.specs.Words.{found_of}
use Rattle.clap.proofs.WalkLemmas.{one_text-rows}
use Rattle.mdbal_ceph.proofs.matched.has_flag.Goals as goal

pub returns : goal.returns
returns c = record {
  given = λ is. c.get_flag.ensures.value (one_text-rows (found_of c.args.matches.now) c.args.option.now ∙ is);
  left_out = λ is. c.get_flag.ensures.other (one_text-rows (found_of c.args.matches.now) c.args.option.now ∙ is);
}
