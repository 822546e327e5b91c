use Rattle.std.proofs.Common.{◌≡◌, All, take, true}
use Rattle.mdbal_ceph.specs.Past.{is_same_file_system}
use Rattle.mdbal_ceph.proofs.past.refuse_others.Given as goal

abbrev pub invariant-loop-hour : goal.invariant-loop-hour
invariant-loop-hour l = All (λ hour. is_same_file_system hour.kept.file_system l.present ≡ true) (take l.hour-index l.earlier)
