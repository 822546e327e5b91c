use Rattle.std.proofs.Common.{◌≡◌, None, map}
use Rattle.std.specs.List.{fold}
use Rattle.std.specs.Prelude.{option_map}
use Rattle.ceph_dumps.specs.Listing.{IsListedAs, name_after, value_lines}
use Rattle.ceph_dumps.specs.OneForOne.{AreOneForOne}
use Rattle.ceph_dumps.proofs.listing.read_listing.Given as goal

-- the entries are those of the lines so far, and the directory that is named is that of the last name
abbrev pub invariant-loop-at : goal.invariant-loop-at
invariant-loop-at l = record {
  name : option_map (λ here. here.now) l.name ≡ fold name_after None (map (λ at. at.1.now) l.yielded);
  lines : AreOneForOne IsListedAs (value_lines None (map (λ at. at.1.now) l.yielded)) l.found.items;
}
