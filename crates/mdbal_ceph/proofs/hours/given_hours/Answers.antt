use Rattle.std.proofs.Common.{◌∙◌, ◌<◌, ◌∷◌, ◌++◌, [], ℕ, List, ap, append_assoc, length, subst, sym, take}
use Rattle.std.proofs.lemmas.List.{take_more}
use Rattle.ceph_dumps.specs.OneForOne.{AreOneForOne}
use Rattle.ceph_dumps.proofs.Records.{one_more}
use Rattle.ceph_plan.specs.declared.hours.Hour.{Hour}
use Rattle.mdbal_ceph.specs.Hours.{IsHourThen}
use Rattle.mdbal_ceph.specs.declared.hours.PastHour.{PastHour}
use Rattle.mdbal_ceph.proofs.hours.given_hours.Goals as goal

pub loop-at-preserved : goal.loop-at-preserved
loop-at-preserved c =
    let past : List PastHour = c.args.past.now in
    let at : ℕ = c.loop-at.at in
    let hour : PastHour = c.index-past-at.result in
    let then : Hour = c.in_ok-hour_then.field-0 in
    let inside : at < length past = c.loop-at-test.true in
    let is : PastHour → Hour → Type 0 = IsHourThen c.args.directories.now c.args.holds.now in
    let here : is hour then = c.in_ok-hour_then.ensures in
    let rest : List Hour = c.loop-at.invariant.0 in (
      rest ++ then ∷ [],
      subst (λ (those : List PastHour). AreOneForOne is those (rest ++ then ∷ []))
          (sym (take_more past at hour inside ∙ ap (λ (one : PastHour). take at past ++ one ∷ []) (sym c.index-past-at.is)))
          (one_more is (take at past) rest hour then c.loop-at.invariant.1 here),
      ◌∙◌ {A = List Hour} c.in_ok-push.ensures.items
          (ap (λ (those : List Hour). those ++ then ∷ []) c.loop-at.invariant.2 ∙ append_assoc c.args.first.items rest (then ∷ [])),
    )
