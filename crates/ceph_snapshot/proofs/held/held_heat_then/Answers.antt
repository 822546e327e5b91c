use Rattle.std.proofs.Common.{◌≡◌, ◌<◌, ◌+◌, ◌∙◌, ℕ, Global, List, Option, Some, Vec, ap}
use Rattle.std.proofs.Common.{false, length, length-set, min, refl, set, slice_get, slice_index, subst, sym}
use Rattle.std.specs.Option.{option_map_or}
use Rattle.std.proofs.Math.Nat.{min_comm}
use Rattle.std.proofs.lemmas.List.{get_or_read}
use Rattle.std.proofs.lemmas.Option.{slice_get_read}
use Rattle.ceph_snapshot.specs.declared.directory.Directory.{Directory}
use Rattle.ceph_snapshot.specs.declared.held.Held.{Held}
use Rattle.ceph_snapshot.specs.declared.held.Held.TheVariants.{Free}
use Rattle.ceph_snapshot.specs.Holding.{held_at, is_spread_at, most_heat}
use Rattle.ceph_snapshot.proofs.Adding.{AreHeld, IsCounted, held-more, held-same}
use Rattle.ceph_snapshot.proofs.held.held_heat_then.Goals as goal
use Rattle.ceph_snapshot.proofs.held.held_heat_then.Goals.{in-Some, in_default}

counted_at : (ds : List Directory) (holds : List Held) (at : ℕ) (d : Directory) (hold : Held) (found : Option ℕ) → slice_get ds at ≡ Some d
    → hold ≡ held_at holds at
    → IsCounted found hold d.is_spread → IsCounted found (held_at holds at) (is_spread_at ds at)
counted_at ds holds at d hold found read is counts =
    subst (λ (h : Held). IsCounted found h (is_spread_at ds at)) is
    (subst (λ (o : Option Directory). IsCounted found hold (option_map_or (λ (one : Directory). one.is_spread) o false)) (sym read) counts)

pub loop-at-preserved : goal.loop-at-preserved
loop-at-preserved c =
    let ds : List Directory = c.args.directories.now in
    let holds : List Held = c.args.holds.now in
    let heats : List ℕ = c.loop-at.held.items in
    let warm : ℕ → ℕ = slice_index c.args.heats.now in
    let at : ℕ = c.loop-at.at in
    let d : Directory = c.index-directories-at.result in
    let inside : at < length ds = c.loop-at-test.true in
    let read : slice_get ds at ≡ Some d = slice_get_read ds (length ds) at d refl inside c.index-directories-at.is in
    let hold : c.index-holds-at.result ≡ held_at holds at =
    get_or_read holds at c.index-holds-at.result (subst (λ (n : ℕ). at < n) (sym c.requires.holds) inside) c.index-holds-at.is Free in
    let counts : IsCounted c.counted.result (held_at holds at) (is_spread_at ds at) =
    counted_at ds holds at d c.index-holds-at.result c.counted.result read hold c.counted.ensures in
    elim c.match-counted.branch [
      | in-Some w ↦
          let number : ℕ = w.from-number.result in
          let number_is : number ≡ w.in-Some.rank = w.from-number.ensures ∙ w.number.ensures.value in
          let small : number < 64 = subst (λ (n : ℕ). n < 64) (sym w.from-number.ensures) w.number.ensures.small in
          let sum : ℕ = w.saturating_add.result in
          let had : w.index.result.now ≡ slice_index heats number =
          get_or_read heats number w.index.result.now (subst (λ (n : ℕ). number < n) (sym c.loop-at.invariant.size) small)
          w.index.ensures 0 in
          let is : c.match-counted.held.items ≡ set heats number sum = ap (λ (v : Vec ℕ Global). v.items) w.held-is in
          let added : sum ≡ min most_heat (slice_index heats number + warm at) =
          w.saturating_add.ensures ∙ (min_comm _ _ ∙ ap (λ (k : ℕ). min most_heat (k + warm at)) had) in
          record {
            size = ap length is ∙ (length-set heats number sum ∙ c.loop-at.invariant.size);
            heats = subst (λ (found : List ℕ). AreHeld ds holds warm c.args.spread.now found (at + 1)) (sym is)
                (held-more ds holds warm c.args.spread.now heats at number sum c.loop-at.invariant.size small
                (subst (λ (found : Option ℕ). IsCounted found (held_at holds at) (is_spread_at ds at))
                (w.in-Some.is ∙ ap (λ (n : ℕ). Some n) (sym number_is)) counts)
                added c.loop-at.invariant.heats);
          }
      | in_default w ↦
          record {
            size = ap (λ (v : Vec ℕ Global). length v.items) w.held-is ∙ c.loop-at.invariant.size;
            heats = subst (λ (found : List ℕ). AreHeld ds holds warm c.args.spread.now found (at + 1)) (sym (ap (λ (v : Vec ℕ Global). v.items) w.held-is))
                (held-same ds holds warm c.args.spread.now heats at
                (subst (λ (found : Option ℕ). IsCounted found (held_at holds at) (is_spread_at ds at)) w.in_default.is counts)
                c.loop-at.invariant.heats);
          }
    ]
