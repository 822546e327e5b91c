use Rattle.std.proofs.Common.{◌≡◌, ◌∙◌, ◌<◌, ◌∷◌, ◌++◌, [], ℕ, Global, List, Vec, ap, inr, length, subst, sym, take}
use Rattle.std.proofs.lemmas.List.{take_more}
use Rattle.std.proofs.lemmas.Result.{err_from_is_err_and}
use Rattle.std.proofs.lemmas.List.Elements.{All-push}
use Rattle.ceph_dumps.specs.OneForOne.{AreOneForOne}
use Rattle.ceph_dumps.proofs.Records.{one_more}
use Rattle.ceph_folding.specs.Folding.{AreHoursOf}
use Rattle.ceph_snapshot.specs.declared.directory.Directory.{Directory}
use Rattle.mdbal_ceph.specs.Hours.{IsSeenAt}
use Rattle.mdbal_ceph.specs.declared.past.EarlierHour.{EarlierHour}
use Rattle.mdbal_ceph.proofs.hours.past_heats.Goals as goal

pub loop-hour-preserved : goal.loop-hour-preserved
loop-hour-preserved c =
    let directories : List Directory = c.args.directories.now in
    let earlier : List EarlierHour = c.args.earlier.now in
    let at : ℕ = c.loop-hour.hour-index in
    let hour : EarlierHour = c.hour-item.result in
    let heats : Vec ℕ Global = c.in_ok-heats_at.field-0 in
    let inside : at < length earlier = c.loop-hour-test.true in
    let is : EarlierHour → Vec ℕ Global → Type 0 = λ one seen. IsSeenAt directories one.kept seen in
    let here : is hour heats = c.in_ok-heats_at.ensures.seen in
    let sizes : AreHoursOf (length directories) (c.loop-hour.hours.items ++ heats ∷ []) =
    All-push (λ (seen : Vec ℕ Global). length seen.items ≡ length directories) c.loop-hour.hours.items heats c.loop-hour.invariant.sizes here.heats_then.size in
    record {
      each =
          subst (λ (those : List EarlierHour). AreOneForOne is those c.push.new.self.items)
          (sym {A = List EarlierHour} (take_more earlier at hour inside ∙ ap (λ (one : EarlierHour). take at earlier ++ one ∷ []) (sym c.hour-item.is)))
          (subst (AreOneForOne is (take at earlier ++ hour ∷ [])) (sym {A = List (Vec ℕ Global)} c.in_ok-push.ensures.items)
          (one_more is (take at earlier) c.loop-hour.hours.items hour heats c.loop-hour.invariant.each here));
      sizes = subst (AreHoursOf (length directories)) (sym {A = List (Vec ℕ Global)} c.in_ok-push.ensures.items) sizes;
    }

pub returns-in_err-heats_at-clause-failed : goal.returns-in_err-heats_at-clause-failed
returns-in_err-heats_at-clause-failed c =
    let e = err_from_is_err_and c.from_residual-in_err-heats_at.result c.from_residual-in_err-heats_at.ensures.1 in
    rw (e.1, e.2) (inr (c.hour-item.result, (c.loop-hour.hour-index, (c.loop-hour-test.true, c.hour-item.is)), c.in_err-heats_at.ensures.failed))
