use Rattle.std.proofs.Common.{◌∙◌, ◌<◌, ◌∷◌, ◌++◌, [], ℕ, List, ap, append_assoc, length, subst, sym, take}
use Rattle.std.proofs.lemmas.List.{take_more}
use Rattle.ceph_dumps.specs.OneForOne.{AreOneForOne}
use Rattle.ceph_dumps.proofs.Records.{one_more}
use Rattle.ceph_plan.specs.declared.hours.Hour.{Hour}
use Rattle.ceph_plan.specs.declared.made.MadeHour.{MadeHour}
use Rattle.mdbal_ceph.specs.Hours.{IsCopied}
use Rattle.mdbal_ceph.proofs.planning.with_made.Goals as goal

pub loop-one-preserved : goal.loop-one-preserved
loop-one-preserved c =
    let made : List MadeHour = c.args.made.now in
    let at : ℕ = c.loop-one.one-index in
    let one : MadeHour = c.one-item.result in
    let hour : Hour = record { heats = c.in_ok-from_slice.field-0; pinned = c.in_ok-from_slice-2.field-0 } in
    let inside : at < length made = c.loop-one-test.true in
    let before = c.loop-one.invariant in
    let added : List Hour = before.0 in
    let here : IsCopied one hour =
    (c.in_ok-from_slice.ensures.items ∙ c.deref.ensures.value, c.in_ok-from_slice-2.ensures.items ∙ c.deref-in-loop-one.ensures.value) in (
      added ++ hour ∷ [],
      subst (λ (those : List MadeHour). AreOneForOne IsCopied those (added ++ hour ∷ []))
          (sym (take_more made at one inside ∙ ap (λ (last : MadeHour). take at made ++ last ∷ []) (sym c.one-item.is)))
          (one_more IsCopied (take at made) added one hour before.1 here),
      c.in_ok-push.ensures.items ∙ (ap (λ (hours : List Hour). hours ++ hour ∷ []) before.2 ∙ append_assoc c.args.seen.items added (hour ∷ [])),
    )
