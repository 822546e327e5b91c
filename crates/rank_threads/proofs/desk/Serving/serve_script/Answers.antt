use Rattle.std.specs.List.{AllZip}
use Rattle.std.proofs.Common.{◌≡◌, ◌∷◌, ◌∙◌, ◌++◌, ◌⊎◌, [], ℕ, Bool, List, Vec, Global, vec_capacity}
use Rattle.std.proofs.Common.{false, true, inl, inr, length, take, ap, refl, sym, subst, arith, length-append}
use Rattle.std.proofs.lemmas.Slice.Zip.{all_zipped_more}
use Rattle.std.proofs.lemmas.List.{take_all, take_more}
use Rattle.std.proofs.lemmas.List.Elements.{All-nil, All-push}
use Rattle.rank_threads.specs.declared.work.Work.{Work}
use Rattle.rank_threads.specs.declared.work.WorkAnswer.{WorkAnswer}
use Rattle.rank_threads.specs.Answered.{IsAnswered}
use Rattle.rank_threads.specs.Serving.{IsServed, no_thread}
use Rattle.rank_threads.specs.Tickets.{ticket_named, tickets_of}
use Rattle.rank_threads.proofs.Naming.{tickets_more}
use Rattle.rank_threads.proofs.Counting.{served_none, served_more}
use Rattle.rank_threads.proofs.Later.{each_later}
use Rattle.rank_threads.proofs.Routing.{each_held, held_further, held_still, one_since}
use Rattle.rank_threads.proofs.desk.Serving.serve_script.Goals as goal

pub loop-number-init : goal.loop-number-init
loop-number-init g c = record {
  served = rw c.requires.empty (served_none g.J.Naming.limit c.args.done.now.share);
  as_many = rw c.requires.empty refl;
  answered = λ has. rw c.requires.empty tt;
  refused = λ none. rw c.requires.empty (All-nil (λ (a : WorkAnswer). a ≡ no_thread));
  held = held_still (g.W.Route.way c.args.done.now.way);
  given = rw (c.requires.empty, c.requires.none) refl;
  room = refl;
}

pub loop-number-preserved : goal.loop-number-preserved
loop-number-preserved g c =
    let a = c.answer_to-answer.result in
    let work = c.index-script-number.result in
    let pushed = c.push_reserved.ensures.items in
    let before = g.K.Phase.before in
    let old = g.W.Route.way c.args.done.now.way in
    let mid = g.W.Route.way c.loop-number.done.way in
    let new = g.W.Route.way c.answer_to-answer.new.done.way in
    let i = c.loop-number.invariant in
    let said = c.answer_to-answer.ensures in
    let answers = c.loop-number.done.answers.items in
    let same = ap (λ (v : Vec WorkAnswer Global). v.items) said.answers in
    let all : c.push_reserved.new.self.items ≡ answers ++ a ∷ [] = pushed ∙ ap (λ (l : List WorkAnswer). l ++ a ∷ []) same in
    let l = length-append answers (a ∷ []) in
    let e = ap length all in
    let n = i.as_many in
    let r = i.room in
    let cap = c.push_reserved.ensures.capacity in
    let roomy = ap (λ (v : Vec WorkAnswer Global). vec_capacity v) said.answers in
    let number = c.loop-number.number in
    let longer = take_more c.args.script.now number work c.loop-number-test.true in record {
      served = rw (all, longer, sym c.index-script-number.is)
          (served_more g.J.Naming.limit c.args.done.now.share c.loop-number.done.share c.answer_to-answer.new.done.share
          (take number c.args.script.now) answers work a i.served said.fits said.short said.counted);
      as_many = omega arith;
      answered = λ has. rw (all, longer, sym c.index-script-number.is)
          (all_zipped_more (IsAnswered before c.answer_to-answer.new.done.known.seen old new) (take number c.args.script.now) answers work a
          (each_later before c.loop-number.done.known.seen c.answer_to-answer.new.done.known.seen old new (take number c.args.script.now) answers said.seen
          (each_held before c.loop-number.done.known.seen old mid new (take number c.args.script.now) answers said.held (i.answered has)))
          (one_since before c.answer_to-answer.new.done.known.seen old mid new work a i.held (said.answered has)));
      refused = λ none. rw all (All-push (λ (b : WorkAnswer). b ≡ no_thread) answers a (i.refused none) (said.refused none));
      held = held_further old mid new i.held said.held;
      given = said.given ∙ (ap (λ (ts : List ℕ). ts ++ ticket_named a.ticket) i.given
          ∙ (sym (tickets_more answers a) ∙ ap (λ (l : List WorkAnswer). tickets_of l) (sym all)));
      room = omega arith;
    }

pub returns : goal.returns
returns g c =
    let i = c.loop-number.invariant in
    let whole = take_all c.loop-number.number c.args.script.now (omega arith) in record {
      served = subst (λ (ws : List Work). IsServed g.J.Naming.limit c.args.done.now.share ws c.loop-number.done.answers.items
          c.loop-number.done.share) whole i.served;
      answered = answered_by c.args.has_thread
          (λ has. subst (λ (ws : List Work). AllZip
          (IsAnswered g.K.Phase.before c.loop-number.done.known.seen (g.W.Route.way c.args.done.now.way)
          (g.W.Route.way c.loop-number.done.way)) ws c.loop-number.done.answers.items) whole (i.answered has)) i.refused;
      held = i.held;
      given = i.given;
    }
  where
    answered_by : {A B : Type 0} → (has : Bool) → (has ≡ true → A) → (has ≡ false → B) → A ⊎ B
    answered_by true f h = inl (f refl)
    answered_by false f h = inr (h refl)
