use Rattle.std.proofs.Common.{◌≡◌, ◌+◌, ◌<◌, ◌∙◌, ℕ, List, Some, arith, get_or, length, refl, rules, slice_get, subst}
use Rattle.std.proofs.lemmas.List.{get_or_read}
use Rattle.std.proofs.lemmas.Option.{slice_get_read}
use Rattle.ceph_snapshot.specs.declared.directory.Directory.{Directory}
use Rattle.ceph_snapshot.specs.declared.held.Held.{Held}
use Rattle.ceph_snapshot.specs.declared.held.Held.TheVariants.{Free}
use Rattle.ceph_snapshot.specs.Holding.{held_at, now_at}
use Rattle.ceph_report.specs.Amounts.{AreAmounts, going_at, inodes_from}
use Rattle.ceph_report.proofs.Totals.{amounts_more, from_step, going_is, now_is}
use Rattle.ceph_report.proofs.moves.inodes_away.Goals as goal

pub loop-at-preserved : goal.loop-at-preserved
loop-at-preserved c =
    let ds : List Directory = c.args.directories.now in
    let holds : List Held = c.args.holds.now in
    let goals : List ℕ = c.args.goals.now in
    let at : ℕ = c.loop-at.at in
    let small : c.from-number.result < 64 = search rules in
    let inside : c.from-number.result < length c.loop-at.inodes.items = omega (arith, small, c.loop-at.invariant.size) in
    let here : c.index.result.now ≡ get_or c.loop-at.inodes.items c.from-number.result 0 =
    get_or_read c.loop-at.inodes.items c.from-number.result c.index.result.now inside c.index.ensures 0 in
    let before : at < length ds = omega (arith, c.loop-at-test.true) in
    let read : slice_get ds at ≡ Some c.index-directories-at.result =
    slice_get_read ds (length ds) at c.index-directories-at.result refl before c.index-directories-at.is in
    let held : c.index-holds-at.result ≡ held_at holds at =
    get_or_read holds at c.index-holds-at.result (omega (arith, before, c.requires.holds)) c.index-holds-at.is Free in
    let to : c.index-goals-at.result ≡ get_or goals at 0 =
    get_or_read goals at c.index-goals-at.result (omega (arith, before, c.requires.goals)) c.index-goals-at.is 0 in
    let number : c.from-number.result ≡ now_at ds at = c.from-number.ensures ∙ (c.number.ensures.value ∙ now_is ds at c.index-directories-at.result read) in
    let amount : c.going-more.result ≡ going_at ds holds goals at = c.going-more.ensures
    ∙ going_is ds holds goals at c.index-directories-at.result c.index-holds-at.result c.index-goals-at.result read held to in
    amounts_more c.loop-at.inodes.items
    (λ r. inodes_from ds holds goals r at)
    (λ r. inodes_from ds holds goals r (at + 1))
    c.from-number.result c.going-more.result c.saturating_add.result c.loop-at.invariant small (omega (arith, here, c.saturating_add.ensures))
    (λ r. from_step ds holds goals r at c.from-number.result c.going-more.result number amount)

pub returns : goal.returns
returns c =
    let end : c.loop-at.at ≡ length c.args.directories.now = omega (arith, c.loop-at-test.false, c.loop-at.auto.at-end) in
    subst (λ (n : ℕ). AreAmounts c.loop-at.inodes.items (λ r. inodes_from c.args.directories.now c.args.holds.now c.args.goals.now r n)) end c.loop-at.invariant
