use Rattle.std.proofs.Common.{◌≡◌, ◌∙◌, ◌<◌, ℕ, List, ap, length, slice_index, subst, sym}
use Rattle.std.proofs.lemmas.Result.{err_from_is_err_and}
use Rattle.ceph_snapshot.specs.declared.directory.Directory.{Directory}
use Rattle.ceph_folding.specs.Amounts.{amount_at}
use Rattle.ceph_folding.specs.Folding.{brought}
use Rattle.ceph_folding.specs.TooMany.{IsPastCount}
use Rattle.ceph_folding.proofs.Folds.{brought-alike}
use Rattle.ceph_folding.proofs.PastCounts.{past_alike}
use Rattle.ceph_snapshot.proofs.Growth.{growth_for}
use Rattle.ceph_folding.proofs.amounts.brought_home.Goals as goal

pub returns-clause-sums : goal.returns-clause-sums
returns-clause-sums c = λ there inside.
    let ds : List Directory = c.args.directories.now in
    let amounts : List ℕ = c.in_ok-amounts.amounts.items in
    let homes : ℕ → ℕ = slice_index c.args.homes.now in
    let size : length amounts ≡ length ds = c.in_ok-amounts.ensures.size in
    let sums : (k : ℕ) → k < length amounts → slice_index c.in_ok-sums.sums.items k
    ≡ brought (slice_index amounts) homes (length amounts) k = rw c.deref.ensures.value at c.in_ok-sums.ensures.sums in
    sums there (subst (λ (n : ℕ). there < n) (sym size) inside)
    ∙ (ap (λ (n : ℕ). brought (slice_index amounts) homes n there) size
    ∙ brought-alike (slice_index amounts) (amount_at c.args.amount ds) homes (length ds) there c.in_ok-amounts.ensures.amounts)

pub returns-in_err-sums-clause-many : goal.returns-in_err-sums-clause-many
returns-in_err-sums-clause-many c =
    let ds : List Directory = c.args.directories.now in
    let amounts : List ℕ = c.in_ok-amounts.amounts.items in
    let homes : ℕ → ℕ = slice_index c.args.homes.now in
    let e = err_from_is_err_and c.from_residual-in_err-sums.result c.from_residual-in_err-sums.ensures.1 in
    rw (e.1, e.2)
    (growth_for (IsPastCount (slice_index amounts) homes (length amounts)) (IsPastCount (amount_at c.args.amount ds) homes (length ds))
    c.in_err-sums.field-0.0
    (past_alike (slice_index amounts) (amount_at c.args.amount ds) homes (length amounts) (length ds) c.in_ok-amounts.ensures.size
    c.in_ok-amounts.ensures.amounts)
    (rw c.deref.ensures.value at c.in_err-sums.ensures.many))
