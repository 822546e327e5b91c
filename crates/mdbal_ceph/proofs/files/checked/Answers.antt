use Rattle.mdbal_ceph.proofs.files.checked.Goals as goal

pub returns-clause-checked : goal.returns-clause-checked
returns-clause-checked g c = record {
  collected = c.in_ok-collected.collected;
  read = c.in_ok-collected.ensures.collected;
  ours = c.in_ok-collected.ensures.ours;
  text = rw (c.deref.ensures.value, c.listed-count.ensures) at c.in_ok-found.ensures.text;
  holds = rw (c.deref.ensures.value, c.listed-count.ensures) at c.in_ok-found.ensures.holds;
}
