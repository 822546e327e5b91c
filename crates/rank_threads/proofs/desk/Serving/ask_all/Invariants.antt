use Rattle.std.proofs.Common.{◌≡◌, ◌≤◌, ◌+◌, length, map, vec_len, vec_capacity}
use Rattle.std.specs.List.{AllZip}
use Rattle.rank_threads.specs.Asking.{IsRoomFor}
use Rattle.rank_threads.specs.Ways.{hands_of}
use Rattle.rank_threads.proofs.Joining.{AreAsked}
use Rattle.rank_threads.proofs.desk.Serving.ask_all.Given as goal

-- the ranks from here on were asked
abbrev pub invariant-loop-script : goal.invariant-loop-script
invariant-loop-script g l = record {
  from : AreAsked l.scripts (hands_of l.fn.laid.shares.items (map g.W.Route.way l.fn.laid.ways.items)) l.left
      (hands_of l.shares.items (map g.W.Route.way l.ways.items)) l.asked.items;
  few : length l.left ≤ 64;
  equal : vec_len l.shares ≡ length l.left;
  ways : vec_len l.ways ≡ length l.left;
  as_many : vec_len l.rooms ≡ length l.left;
  roomy : AllZip IsRoomFor l.left l.rooms.items;
  count : length l.left + vec_len l.asked ≡ length l.scripts;
  place : length l.scripts ≤ vec_capacity l.asked;
  capacity : (vec_capacity l.shares ≡ vec_capacity l.fn.laid.shares) × (vec_capacity l.ways ≡ vec_capacity l.fn.laid.ways)
      × (vec_capacity l.rooms ≡ vec_capacity l.fn.laid.rooms);
}

abbrev pub decreases-loop-script : goal.decreases-loop-script
decreases-loop-script g l = length l.left
