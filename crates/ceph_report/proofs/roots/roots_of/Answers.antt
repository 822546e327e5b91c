use Rattle.std.proofs.Common.{◌≡◌, ◌<◌, ◌≤◌, ◌∙◌, ◌==◌, ◌||◌, ℕ, Bool, List, None, Option, ap}
use Rattle.std.proofs.Common.{arith, cond, is_some, length, min, not, refl, slice_index, slice_index_or, sym, ⊎_elim}
use Rattle.std.specs.Option.{option_map_or}
use Rattle.std.proofs.lemmas.Bool.{cases_lt}
use Rattle.std.proofs.lemmas.List.{get_or_past}
use Rattle.std.proofs.lemmas.Option.{slice_get_past}
use Rattle.mds_types.proofs.SumsLemmas.{sum_below-same}
use Rattle.ceph_pins.specs.OwnList.{earlier_pin}
use Rattle.ceph_plan.specs.declared.row.PinRow.{PinRow}
use Rattle.ceph_snapshot.specs.declared.directory.Directory.{Directory}
use Rattle.ceph_snapshot.specs.Holding.{most_heat, now_at, parent_at, pin_at}
use Rattle.ceph_report.specs.Amounts.{AreAmounts}
use Rattle.ceph_report.specs.Moves.{pin_after}
use Rattle.ceph_report.specs.Roots.{is_root, root_count}
use Rattle.ceph_report.proofs.roots.roots_of.Goals as goal

abbrev counted : Bool → Bool → ℕ
counted here root = cond here (cond root 1 0) 0

abbrev apart : List Directory → ℕ → ℕ → ℕ → Option ℕ → Bool
apart directories i here above own = (i == 0) || (is_some (pin_at directories i) || (is_some own || not (here == above)))

root_same : (directories : List Directory) (rank other : ℕ → ℕ) (own those : ℕ → Option ℕ) (r i : ℕ) → rank i ≡ other i
    → rank (parent_at directories i) ≡ other (parent_at directories i) → own i ≡ those i
    → counted (rank i == r) (is_root directories rank own i) ≡ counted (other i == r) (is_root directories other those i)
root_same directories rank other own those r i here above pins =
    ap (λ (n : ℕ). counted (n == r) (apart directories i n (rank (parent_at directories i)) (own i))) here
    ∙ (ap (λ (n : ℕ). counted (other i == r) (apart directories i (other i) n (own i))) above
    ∙ ap (λ (p : Option ℕ). counted (other i == r) (apart directories i (other i) (other (parent_at directories i)) p)) pins)

-- the same ranks and pins have the same roots
counts_same : (xs : List ℕ) (directories : List Directory) (rank other : ℕ → ℕ) (own those : ℕ → Option ℕ) (n m : ℕ) → n ≡ m
    → ((i : ℕ) → rank i ≡ other i) → ((i : ℕ) → i < m → own i ≡ those i)
    → AreAmounts xs (λ r. root_count directories rank own r n) → AreAmounts xs (λ r. root_count directories other those r m)
counts_same xs directories rank other own those n m size ranks pins are =
    record {
      size = are.size;
      at = λ r l. are.at r l
          ∙ ap (λ (k : ℕ). min most_heat k)
          (ap (root_count directories rank own r) size
          ∙ sum_below-same m (λ i. counted (rank i == r) (is_root directories rank own i)) (λ i. counted (other i == r) (is_root directories other those i))
          (λ i inside. root_same directories rank other own those r i (ranks i) (ranks (parent_at directories i)) (pins i inside)));
    }

-- past the last directory both are rank 0
everywhere : (directories : List Directory) (ranks : List ℕ) → length ranks ≡ length directories
    → ((i : ℕ) → i < length directories → slice_index ranks i ≡ now_at directories i) → (i : ℕ)
    → slice_index ranks i ≡ now_at directories i
everywhere directories ranks size are i =
    ⊎_elim (are i)
    (λ (past : length directories ≤ i).
    get_or_past ranks i 0 (omega (arith, past, size)) ∙ sym
    (ap (λ (found : Option Directory). option_map_or (λ (d : Directory). d.now) found 0) (slice_get_past directories i past)))
    (cases_lt i (length directories))

pub returns : goal.returns
returns c =
    let directories : List Directory = c.args.directories.now in
    let rows : List PinRow = c.args.rows.now in
    record {
      now = counts_same c.in_ok-root_counts.field-0.items directories (slice_index c.deref.result.now) (now_at directories)
          (λ i. slice_index_or c.deref-2.result.now i None) (earlier_pin rows)
          (length c.deref-2.result.now) (length rows) (ap length c.deref-2.ensures.value ∙ c.in_ok-before.ensures.size)
          (λ i. ap (λ (xs : List ℕ). slice_index xs i) c.deref.ensures.value
          ∙ everywhere directories c.in_ok-ranks.ranks.items c.in_ok-ranks.ensures.size c.in_ok-ranks.ensures.ranks i)
          (λ i l. ap (λ (xs : List (Option ℕ)). slice_index_or xs i None) c.deref-2.ensures.value ∙ c.in_ok-before.ensures.pins i l)
          c.in_ok-root_counts.ensures;
      planned = counts_same c.in_ok-root_counts-2.field-0.items directories (slice_index c.args.goals.now) (slice_index c.args.goals.now)
          (λ i. slice_index_or c.deref-3.result.now i None)
          (pin_after rows c.args.changes.now) (length c.deref-3.result.now) (length rows)
          (ap length c.deref-3.ensures.value ∙ c.in_ok-after.ensures.size) (λ i. refl)
          (λ i l. ap (λ (xs : List (Option ℕ)). slice_index_or xs i None) c.deref-3.ensures.value ∙ c.in_ok-after.ensures.pins i l)
          c.in_ok-root_counts-2.ensures;
    }
