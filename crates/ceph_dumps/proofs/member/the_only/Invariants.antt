use Rattle.std.proofs.Common.{◌≡◌, option_map}
use Rattle.json.specs.Value.{members_view, value_view}
use Rattle.ceph_dumps.specs.Members.{values_named, the_only}
use Rattle.ceph_dumps.proofs.Chosen.{only_behind, values_from}
use Rattle.ceph_dumps.proofs.member.the_only.Given as goal

-- what is the only one of all is the only one of what was found and what comes
abbrev pub invariant-loop-member : goal.invariant-loop-member
invariant-loop-member l =
    the_only (values_named l.name (members_view l.members))
    ≡ only_behind (option_map (λ v. value_view v.now) l.found) (values_from l.name l.member-index l.members)
