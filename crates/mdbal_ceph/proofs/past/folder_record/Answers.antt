use Rattle.mdbal_ceph.proofs.past.folder_record.Goals as goal

pub returns-clause-hour : goal.returns-clause-hour
returns-clause-hour g c = record {
  file_system = c.in_ok-file_system.file_system;
  snapshot = c.in_ok-snapshot.snapshot;
  of = c.in_ok-file_system.ensures.of;
  ranks = c.in_ok-snapshot.ensures.ranks;
  hour = c.in_ok-kept.ensures;
}
