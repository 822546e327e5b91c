use Rattle.std.proofs.Common.{◌≡◌, ◌++◌, ◌∷◌, ◌∙◌, [], ℕ, List, Vec, Global, length, map, ap, refl, subst, arith, rules, length-append}
use Rattle.std.proofs.lemmas.Grind.{common_steps}
use Rattle.std.proofs.lemmas.List.{length-map, map-append}
use Rattle.std.proofs.lemmas.List.Elements.{All-nil}
use Rattle.heat_ledger.specs.Ledger.{IsClean, ShareData}
use Rattle.rank_threads.specs.declared.work.WorkAnswer.{WorkAnswer}
use Rattle.rank_threads.specs.Asking.{Asking}
use Rattle.rank_threads.specs.Ways.{Hand, hands_of}
use Rattle.rank_threads.proofs.Joining.{all_joined, hands_last, hands_long, none_joined, one_joined, told_done}
use Rattle.rank_threads.proofs.Returning.{clean_last}
use Rattle.proof_names.specs.Numbers.{AreApart}
use Rattle.rank_threads.proofs.desk.Serving.join_all.Goals as goal

abbrev items : List (Vec WorkAnswer Global) → List (List WorkAnswer)
items answers = map (λ (a : Vec WorkAnswer Global). a.items) answers

pub loop-rank-init : goal.loop-rank-init
loop-rank-init g c =
    let none = c.requires.none in
    let room = c.requires.room in
    let shares = ap (λ (xs : List ShareData). length xs) none.0 in
    let ways = ap length none.1 in
    let answers = ap (λ (xs : List (Vec WorkAnswer Global)). length xs) none.2 in
    record {
      joined = λ hs ws e h. rw (none.0, none.2, c.requires.given)
          (none_joined g.J.Naming.limit g.K.Phase.before c.args.ranks.known.seen hs ws c.args.asked.items e h);
      even = rw (none.0, none.1) refl;
      apart = rw c.requires.given tt;
      clean = λ ok. rw none.0 (All-nil (λ (s : ShareData). IsClean s));
      told = told_done g.K.Phase.before c.args.ranks.known.seen c.args.ranks.deposited c.requires.deposited;
      shares = grind (arith, common_steps, shares, room);
      ways = grind (arith, common_steps, ways, room);
      answers = grind (arith, common_steps, answers, room);
    }

pub loop-rank-preserved : goal.loop-rank-preserved
loop-rank-preserved g c =
    let inv = c.loop-rank.invariant in
    let way = g.W.Route.way in
    let done = c.join-done.result in
    let said = c.with_desk-ranks.ensures in
    let last = said.last in
    let given = said.given in
    let order : c.loop-rank.asked.items ≡ c.pop.new.self.items ++ c.in-Some.rank ∷ [] = search rules in
    let answers : items c.with_desk-ranks.result.answers.items ≡ items c.loop-rank.ranks.answers.items ++ done.answers.items ∷ [] =
    ap items given ∙ map-append (λ (a : Vec WorkAnswer Global). a.items) c.loop-rank.ranks.answers.items (done.answers ∷ []) in
    let longer = ap (λ (xs : List ShareData). length xs) last.3 ∙ length-append c.loop-rank.ranks.shares.items (last.0 ∷ []) in
    let more_ways = ap length said.way ∙ length-append c.loop-rank.ranks.ways.items (done.way ∷ []) in
    let more = ap (λ (xs : List (Vec WorkAnswer Global)). length xs) given ∙ length-append c.loop-rank.ranks.answers.items (done.answers ∷ []) in
    let fewer = ap (λ (xs : List Asking). length xs) order ∙ length-append c.pop.new.self.items (c.in-Some.rank ∷ []) in
    let some_ways = map-append way c.loop-rank.ranks.ways.items (done.way ∷ []) in
    let many = length-map c.loop-rank.ranks.ways.items way in
    let even = inv.even in
    let level : length c.loop-rank.ranks.shares.items ≡ length (map way c.loop-rank.ranks.ways.items) = omega arith in
    let hand : Hand = record { share = last.0; way = way done.way } in
    let mid : Hand = record { share = done.share; way = way done.way } in
    let hands = hands_last c.loop-rank.ranks.shares.items (map way c.loop-rank.ranks.ways.items) last.0 (way done.way) level in
    record {
      joined = λ hs ws e h. rw (answers, last.3, said.way, some_ways, hands)
          (one_joined g.J.Naming.limit g.K.Phase.before c.loop-rank.ranks.known.seen done.known.seen c.with_desk-ranks.result.known.seen hs
          ws c.loop-rank.asked.items c.pop.new.self.items c.in-Some.rank (items c.loop-rank.ranks.answers.items) done.answers.items
          (hands_of c.loop-rank.ranks.shares.items (map way c.loop-rank.ranks.ways.items)) mid hand c.loop-rank.ranks.known.tickets
          done.known.tickets c.with_desk-ranks.result.known.tickets
          (inv.joined hs ws e h) order c.join-done.ensures last.1 refl said.seen said.tickets);
      even = omega arith;
      apart = said.apart;
      clean = λ ok. clean_last c.loop-rank.ranks.shares.items c.with_desk-ranks.result.shares.items last.0 last.3 (inv.clean (said.deposited ok)) (last.2 ok);
      told = said.told inv.told;
      shares = grind (arith, common_steps, longer, fewer, inv.shares, said.shares);
      ways = grind (arith, common_steps, more_ways, fewer, inv.ways, said.ways);
      answers = grind (arith, common_steps, more, fewer, inv.answers, said.answers);
    }

pub returns : goal.returns
returns g c =
    let none : length c.loop-rank.asked.items ≡ 0 = grind (arith, common_steps, c.in_default.ensures.cases, c.in_default.ensures.variant) in
    let inv = c.loop-rank.invariant in
    let way = g.W.Route.way in
    let ranks = c.loop-rank.ranks in
    let many = length-map ranks.ways.items way in
    let even = inv.even in
    let level : length ranks.shares.items ≡ length (map way ranks.ways.items) = omega arith in
    record {
      joined = λ ss vs ws es ev h.
          (let same : length ss ≡ length vs = omega arith in
          let long = hands_long ss vs same in
          let as_many : length (hands_of ss vs) ≡ length ws = omega arith in
          let joined = inv.joined (hands_of ss vs) ws as_many h in
          let both = all_joined g.J.Naming.limit g.K.Phase.before ranks.known.seen ss vs ws c.loop-rank.asked.items
          (items ranks.answers.items) ranks.shares.items (map way ranks.ways.items) ranks.known.tickets same level joined none in
          record {
            returned = both.0;
            answered = both.1;
            apart = subst (λ (ts : List ℕ). AreApart ts) joined.given inv.apart;
            clean = inv.clean;
            told = inv.told;
          });
    }
