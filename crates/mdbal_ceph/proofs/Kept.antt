-- What may not be pinned stays when others are folded, twice.
use Rattle.std.proofs.Common.{◌∙◌, List}
use Rattle.ceph_snapshot.specs.declared.directory.Directory.{Directory}
use Rattle.ceph_snapshot.specs.Policies.{IsLeftKept, KeepUnpinnable, StillKeepUnpinnable}
use Rattle.ceph_folding.specs.Folding.{StillKept}

pub kept_through : (collected units left : List Directory) → KeepUnpinnable collected → StillKept collected units → StillKept units left
    → StillKeepUnpinnable collected left
kept_through collected units left keep one other i later inside unpinnable =
    let first : IsLeftKept collected units i = one i later inside ((keep i later inside).1 unpinnable) in
    let second : IsLeftKept units left first.place = other first.place first.below first.inside first.kept in
    record {
      place = second.place;
      below = second.below;
      inside = second.inside;
      path = second.path ∙ first.path;
      policy = second.policy ∙ first.policy;
      doubtful = second.doubtful ∙ first.doubtful;
      kept = second.kept;
    }
