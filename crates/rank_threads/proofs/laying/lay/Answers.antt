use Rattle.std.proofs.Common.{arith}
use Rattle.std.proofs.lemmas.Grind.{common_steps}
use Rattle.rank_threads.specs.Asking.{IsRoomFor}
use Rattle.std.proofs.lemmas.Slice.Zip.{AllZip-long}
use Rattle.rank_threads.proofs.laying.lay.Goals as goal

pub returns-clause-laid : goal.returns-clause-laid
returns-clause-laid g c =
    let same = AllZip-long IsRoomFor c.args.scripts.now c.in-Ok.rooms.items c.in-Ok.ensures in
    record {
      few = c.requires.few;
      equal = c.requires.equal;
      ways = c.requires.ways;
      as_many = grind (arith, common_steps);
      roomy = c.in-Ok.ensures;
      none = c.in-Ok-with_capacity.ensures.items;
      place = grind (arith, common_steps, c.in-Ok-with_capacity.ensures.capacity);
    }
