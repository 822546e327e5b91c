use Rattle.std.proofs.Common.{◌≡◌, ◌∙◌, ◌+◌, ◌<◌, ℕ, List, ap, length, min, slice_index}
use Rattle.ceph_snapshot.specs.declared.directory.Directory.{Directory}
use Rattle.ceph_snapshot.specs.Holding.{heat_at, most_heat}
use Rattle.ceph_snapshot.proofs.Adding.{held-alike}
use Rattle.ceph_snapshot.proofs.held.held_heat.Goals as goal

pub returns-clause-heats : goal.returns-clause-heats
returns-clause-heats c = λ r l.
    let ds : List Directory = c.args.directories.now in
    let same : (i : ℕ) → i < length ds → slice_index c.deref.result.now i ≡ heat_at ds i =
    λ i inside. ap (λ (xs : List ℕ). slice_index xs i) c.deref.ensures.value ∙ c.in_ok-heats.ensures.heats i inside in
    c.in_ok-held.ensures.heats r l
    ∙ ap (λ (k : ℕ). min most_heat (slice_index c.args.spread.now r + k))
    (held-alike ds c.args.holds.now (slice_index c.deref.result.now) (heat_at ds) r (length ds) same)
