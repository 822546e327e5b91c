use Rattle.std.proofs.Common.{◌≡◌, ◌∙◌, ◌++◌, ◌∷◌, [], List, length, map, ap, refl, arith}
use Rattle.std.proofs.lemmas.List.{length-map, map-append}
use Rattle.rank_threads.specs.Asking.{Asking}
use Rattle.rank_threads.specs.Ways.{Hand, hands_of}
use Rattle.rank_threads.proofs.Joining.{all_asked, hands_last, hands_long, more_asked, none_asked}
use Rattle.rank_threads.proofs.Returning.{rooms_last}
use Rattle.rank_threads.proofs.desk.Serving.ask_all.Goals as goal

pub loop-script-init : goal.loop-script-init
loop-script-init g c =
    let laid = c.requires.laid in
    let none = ap (λ (xs : List Asking). length xs) laid.none in
    let place = laid.place in
    record {
      from = none_asked c.args.scripts.now (hands_of c.args.laid.shares.items (map g.W.Route.way c.args.laid.ways.items)) c.args.laid.asked.items laid.none;
      few = laid.few;
      equal = laid.equal;
      ways = laid.ways;
      as_many = laid.as_many;
      roomy = laid.roomy;
      count = omega (arith, none);
      place = place;
      capacity = (refl, refl, refl);
    }

pub ask-requires-clause-empty : goal.ask-requires-clause-empty
ask-requires-clause-empty g c κs within =
    let z = rooms_last c.loop-script.left.now c.in-Some.before.now c.in-Some.script.now c.loop-script.rooms.items
    c.last_desk-desk.new.rooms.items c.last_desk-desk.result.answers c.in-Some.ensures.cases.0 c.last_desk-desk.ensures.room
    c.loop-script.invariant.roomy in z.1.0

pub ask-requires-clause-room : goal.ask-requires-clause-room
ask-requires-clause-room g c κs within =
    let z = rooms_last c.loop-script.left.now c.in-Some.before.now c.in-Some.script.now c.loop-script.rooms.items
    c.last_desk-desk.new.rooms.items c.last_desk-desk.result.answers c.in-Some.ensures.cases.0 c.last_desk-desk.ensures.room
    c.loop-script.invariant.roomy in z.1.1

pub loop-script-preserved : goal.loop-script-preserved
loop-script-preserved g c =
    let inv = c.loop-script.invariant in
    let z = rooms_last c.loop-script.left.now c.in-Some.before.now c.in-Some.script.now c.loop-script.rooms.items
    c.last_desk-desk.new.rooms.items c.last_desk-desk.result.answers c.in-Some.ensures.cases.0 c.last_desk-desk.ensures.room
    inv.roomy in
    let fewer = c.last_desk-desk.ensures.fewer in
    let shorter = c.in-Some.ensures.cases.1 in
    let way = g.W.Route.way in
    let desk = c.last_desk-desk.result in
    let hand : Hand = record { share = desk.share; way = way desk.way } in
    let shares = c.last_desk-desk.new.shares.items in
    let ways = c.last_desk-desk.new.ways.items in
    let pushed : c.push_reserved.new.self.items ≡ c.loop-script.asked.items ++ c.ask.result ∷ [] = c.push_reserved.ensures.items in
    let told = pushed ∙ ap (λ (a : Asking). c.loop-script.asked.items ++ a ∷ []) c.ask.ensures in
    let longer = ap (λ (xs : List Asking). length xs) pushed in
    let equal_before = inv.equal in
    let ways_before = inv.ways in
    let some_left = map-append way ways (desk.way ∷ []) in
    let many = length-map ways way in
    let even : length shares ≡ length (map way ways) = omega arith in
    let hands : hands_of c.loop-script.shares.items (map way c.loop-script.ways.items) ≡ hands_of shares (map way ways) ++ hand ∷ [] =
    rw (c.last_desk-desk.ensures.share, c.last_desk-desk.ensures.way, some_left) (hands_last shares (map way ways) desk.share (way desk.way) even) in
    record {
      from = more_asked c.args.scripts.now (hands_of c.args.laid.shares.items (map way c.args.laid.ways.items)) c.loop-script.left.now
          c.in-Some.before.now c.in-Some.script.now
          (hands_of c.loop-script.shares.items (map way c.loop-script.ways.items)) (hands_of shares (map way ways)) hand
          c.loop-script.asked.items c.push_reserved.new.self.items inv.from c.in-Some.ensures.cases.0 hands told;
      few = omega arith;
      equal = omega arith;
      ways = omega arith;
      as_many = omega arith;
      roomy = z.0;
      count = omega arith;
      place = omega arith;
      capacity = (omega arith, omega arith, omega arith);
    }

pub returns-clause-asked : goal.returns-clause-asked
returns-clause-asked g c =
    let none : length c.loop-script.left.now ≡ 0 = c.in_default.ensures.cases in
    let equal = c.loop-script.invariant.equal in
    let as_many = c.loop-script.invariant.ways in
    let many = length-map c.loop-script.ways.items g.W.Route.way in
    let even : length c.loop-script.shares.items ≡ length (map g.W.Route.way c.loop-script.ways.items) = omega arith in
    let long = hands_long c.loop-script.shares.items (map g.W.Route.way c.loop-script.ways.items) even in
    let none_hands : length (hands_of c.loop-script.shares.items (map g.W.Route.way c.loop-script.ways.items)) ≡ 0 = omega arith in
    all_asked c.args.scripts.now (hands_of c.args.laid.shares.items (map g.W.Route.way c.args.laid.ways.items)) c.loop-script.left.now
    (hands_of c.loop-script.shares.items (map g.W.Route.way c.loop-script.ways.items)) c.loop-script.asked.items
    c.loop-script.invariant.from none none_hands
