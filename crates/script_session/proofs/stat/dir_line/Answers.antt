use Rattle.std.proofs.Common.{◌∙◌}
use Rattle.std.proofs.lemmas.Result.{on_ok_weaker}
use Rattle.script_session.proofs.stat.dir_line.Goals as goal

pub returns-clause-line : goal.returns-clause-line
returns-clause-line g c = on_ok_weaker c.write_dir.result
    (λ e. e ∙ simp (
      c.as_str.ensures.value,
      c.in_ok-write_path.ensures.path,
      c.pin_of.ensures,
      c.rank_of.ensures.rank,
      c.heat_of.ensures,
      c.hits_of.ensures,
      c.hits_of-2.ensures,
      c.rank_of.ensures.same,
    )) c.write_dir.ensures
