use Rattle.std.proofs.Common.{◌≡◌, ◌+◌, ◌<◌, ◌∙◌, ℕ, List, None, Option, arith, cond, eqb, get_or, length, refl, rules, slice_index, slice_index_or, subst, suc}
use Rattle.std.proofs.lemmas.List.{get_or_read}
use Rattle.ceph_snapshot.specs.declared.directory.Directory.{Directory}
use Rattle.ceph_report.specs.Amounts.{AreAmounts}
use Rattle.ceph_report.specs.Roots.{is_root, root_count}
use Rattle.ceph_report.proofs.Totals.{amounts_more}
use Rattle.ceph_report.proofs.roots.root_counts.Goals as goal

-- what one directory more adds
root_step : (directories : List Directory) (rank : ℕ → ℕ) (own : ℕ → Option ℕ) (r at number more : ℕ) → number ≡ rank at
    → more ≡ cond (is_root directories rank own at) 1 0
    → root_count directories rank own r (at + 1) ≡ root_count directories rank own r at + cond (eqb number r) more 0
root_step directories rank own r at number more is amount =
    let next : at + 1 ≡ suc at = omega arith in
    rw (next, is, amount) refl

pub loop-at-preserved : goal.loop-at-preserved
loop-at-preserved c =
    let rank : ℕ → ℕ = slice_index c.args.ranks.now in
    let own : ℕ → Option ℕ = λ i. slice_index_or c.args.own.now i None in
    let at : ℕ = c.loop-at.at in
    let small : c.from-number.result < 64 = search rules in
    let inside : c.from-number.result < length c.loop-at.counts.items = omega (arith, small, c.loop-at.invariant.size) in
    let here : c.index.result.now ≡ get_or c.loop-at.counts.items c.from-number.result 0 =
    get_or_read c.loop-at.counts.items c.from-number.result c.index.result.now inside c.index.ensures 0 in
    let number : c.from-number.result ≡ rank at = c.from-number.ensures ∙ (c.number.ensures.value ∙ c.rank_at.ensures) in
    amounts_more c.loop-at.counts.items
    (λ r. root_count c.args.directories.now rank own r at)
    (λ r. root_count c.args.directories.now rank own r (at + 1))
    c.from-number.result c.root_of-more.result c.saturating_add.result c.loop-at.invariant small (omega (arith, here, c.saturating_add.ensures))
    (λ r. root_step c.args.directories.now rank own r at c.from-number.result c.root_of-more.result number c.root_of-more.ensures)

pub returns : goal.returns
returns c =
    let rank : ℕ → ℕ = slice_index c.args.ranks.now in
    let own : ℕ → Option ℕ = λ i. slice_index_or c.args.own.now i None in
    let end : c.loop-at.at ≡ length c.args.own.now = omega (arith, c.loop-at-test.false, c.loop-at.auto.at-end) in
    subst (λ (n : ℕ). AreAmounts c.loop-at.counts.items (λ r. root_count c.args.directories.now rank own r n)) end c.loop-at.invariant
