use Rattle.mdbal_ceph.proofs.comparing.plan_checked.Goals as goal

pub returns-clause-checked : goal.returns-clause-checked
returns-clause-checked g c = λ name file. record {
  stored = c.args.stored.now;
  collected = c.in_ok-collected.collected;
  file = file;
  read = c.in_ok-collected.ensures.collected;
  ours = c.in_ok-collected.ensures.ours;
  text = c.in_ok-found.ensures.text;
  holds = c.in_ok-found.ensures.holds;
}
