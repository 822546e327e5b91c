-- How parts are packed by their heat: one after another, the hottest first, each on the least loaded rank.
use Rattle.std.specs.Prelude.{◌≡◌, ◌≢◌, ◌==◌, ◌<◌, ◌≤◌, ◌+◌, ◌*◌, ◌/◌, ◌^◌, ◌||◌, ◌&&◌, ◌⊎◌, ℕ, Bool, true}
use Rattle.std.specs.Prelude.{List, length, nat_lt, slice_index, if◌then◌else◌}
use Rattle.mds_types.specs.declared.problem.ProblemRow.{ProblemRow}
use Rattle.mds_types.specs.Problem.{inodes_at, now_at}
use Rattle.mds_types.specs.RankSet.{has_rank, rank_count}
use Rattle.mds_types.specs.Sums.{max_below, sum_below}
use Rattle.ceph_plan.specs.declared.hours.Hour.{Hour}
use Rattle.ceph_plan.specs.declared.packing.Packing.{Packing}
use Rattle.ceph_plan.specs.Packing.{AreHours, greatest_of, heat_in, heats_in, load, pinned_at, pinned_in, total_of}
use Rattle.ceph_plan.specs.Packing.{worst}

-- part q is hotter than part p, or as hot and its number is smaller
abbrev pub is_hotter : List ℕ → ℕ → ℕ → Bool
is_hotter heats q p =
    nat_lt (slice_index heats p) (slice_index heats q)
    || ((slice_index heats p == slice_index heats q) && nat_lt q p)

-- the parts in an order, of two the hotter one later, and none is missing
pub record IsByHeat (heats order : List ℕ) : Type 0 where
  pub size : length order ≡ length heats
  pub inside : (i : ℕ) → i < length heats → slice_index order i < length heats
  pub hotter : (i j : ℕ) → i < j → j < length heats → slice_index order i ≢ slice_index order j
      → is_hotter heats (slice_index order j) (slice_index order i) ≡ true
  pub each : (p : ℕ) → p < length heats → ¬ ((i : ℕ) → i < length heats → slice_index order i ≢ p)

-- the heat of a part, in the hour in which it is greatest
abbrev pub AreGreatest : List Hour → List ℕ → Type 0
AreGreatest hours heats = (p : ℕ) → p < length heats → slice_index heats p ≡ worst hours (λ h. heat_in hours h p)

-- the amounts of parts: not too many of them and not too much heat in any hour, by the greatest heat in this order,
-- with 64 numbers of inodes a part. Rank 0, for the root's part, is one of the ranks
pub record ArePartAmounts (hours : List Hour) (heats order inodes : List ℕ) (root ranks : ℕ) : Type 0 where
  pub few : length heats ≤ 65536
  pub inodes_size : length inodes ≡ length heats * 64
  pub by_heat : IsByHeat heats order
  pub inside : root < length heats
  pub zero : has_rank ranks 0 ≡ true
  pub hours_are : AreHours hours (length heats)
  pub greatest : AreGreatest hours heats

-- the root's part goes first, and of two others the hotter one
abbrev pub goes_before : List ℕ → ℕ → ℕ → ℕ → Bool
goes_before heats root q p = (q == root) || is_hotter heats q p

-- the load of rank r in hour h by some of the parts: what is pinned there, and those of them that go there
abbrev pub load_by : List Hour → List ℕ → List ℕ → (ℕ → Bool) → ℕ → ℕ → ℕ
load_by hours heats rank some h r =
    pinned_at hours h r
    + sum_below (length heats) (λ q. if some q && (slice_index rank q == r) then heat_in hours h q else 0)

-- the load of rank r by all parts, and by those that go before part p with p itself, wherever that goes
abbrev pub load_of_parts : List Hour → List ℕ → List ℕ → ℕ → ℕ
load_of_parts hours heats rank r = load hours (length heats) (slice_index rank) r

abbrev pub load_with : List Hour → List ℕ → ℕ → List ℕ → ℕ → ℕ → ℕ
load_with hours heats root rank p r =
    worst hours (λ h. load_by hours heats rank (λ q. goes_before heats root q p) h r + heat_in hours h p)

-- what a part makes of the loads: that of rank r with it, in the hour in which it is greatest
abbrev pub made : List Hour → List ℕ → ℕ → ℕ → ℕ
made hours loads p r = worst hours (λ h. slice_index loads (h * 64 + r) + heat_in hours h p)

-- part p is one of n, and can be added to each of the loads
pub record CanTake (hours : List Hour) (n : ℕ) (loads : List ℕ) (p : ℕ) : Type 0 where
  pub size : length loads ≡ length hours * 64
  pub inside : p < n
  pub sizes : (h : ℕ) → h < length hours → length (heats_in hours h) ≡ n
  pub room : (h r : ℕ) → h < length hours → r < 64 → slice_index loads (h * 64 + r) + heat_in hours h p < 2 ^ 64

-- the greatest load of a rank of the set
abbrev pub greatest_by : ℕ → List Hour → List ℕ → List ℕ → ℕ
greatest_by ranks hours heats rank = greatest_of ranks (load_of_parts hours heats rank)

-- each part has a rank of the set, the root's part rank 0
pub record HaveRanks (ranks : ℕ) (heats : List ℕ) (root : ℕ) (rank : List ℕ) : Type 0 where
  pub size : length rank ≡ length heats
  pub usable : (p : ℕ) → p < length heats → has_rank ranks (slice_index rank p) ≡ true
  pub at_zero : slice_index rank root ≡ 0

-- the packing that looks at heat only, largest first: on no rank would a part make a smaller load, when its turn comes
pub record IsLargestFirst (ranks : ℕ) (hours : List Hour) (heats : List ℕ) (root : ℕ) (rank : List ℕ) : Type 0 where
  pub ranks_are : HaveRanks ranks heats root rank
  pub least : (p r : ℕ) → p < length heats → p ≢ root → has_rank ranks r ≡ true
      → load_with hours heats root rank p (slice_index rank p) ≤ load_with hours heats root rank p r

-- the inodes of part p at rank r, 64 numbers a part
abbrev pub inodes_there : List ℕ → ℕ → ℕ → ℕ
inodes_there inodes p r = slice_index inodes (p * 64 + r)

-- the first rank that has most of the part's inodes
pub record IsHomeRank (inodes : List ℕ) (p home : ℕ) : Type 0 where
  pub small : home < 64
  pub most : (r : ℕ) → r < 64 → inodes_there inodes p r ≤ inodes_there inodes p home
  pub first : (r : ℕ) → r < home → inodes_there inodes p r < inodes_there inodes p home

-- where a part goes when these are the loads with it: it stays at home if the load there is within the limit, and goes
-- where the load is least if not
pub record IsSent (ranks : ℕ) (load : ℕ → ℕ) (inodes : List ℕ) (p limit to : ℕ) : Type 0 where
  pub home : ℕ
  pub is : IsHomeRank inodes p home
  pub goes : ((has_rank ranks home ≡ true) × (load home ≤ limit) × (to ≡ home))
      ⊎ ((has_rank ranks home ≡ true → limit < load home)
      × ((r : ℕ) → has_rank ranks r ≡ true → load to ≤ load r))

-- the packing that keeps parts at home within a limit, largest first
pub record IsKeptWithin (ranks : ℕ) (hours : List Hour) (heats inodes : List ℕ) (root limit : ℕ) (rank : List ℕ)
    : Type 0 where
  pub ranks_are : HaveRanks ranks heats root rank
  pub sent : (p : ℕ) → p < length heats → p ≢ root
      → IsSent ranks (load_with hours heats root rank p) inodes p limit (slice_index rank p)

-- a load and `keep` hundredths of it, where a hundredth is rounded down
abbrev pub allowed : ℕ → ℕ → ℕ
allowed keep load = load + load / 100 * keep

-- what is pinned and all parts, in all hours, and the hottest part
abbrev pub all_of_parts : ℕ → List Hour → List ℕ → ℕ
all_of_parts ranks hours heats =
    sum_below (length hours) (λ h. total_of ranks (pinned_at hours h) + sum_below (length heats) (heat_in hours h))

abbrev pub hottest_of : List ℕ → ℕ
hottest_of heats = max_below (length heats) (slice_index heats)

-- a greatest load is at most one of three: the most that is pinned; the root's part with what is pinned at rank 0; the
-- mean loads of the hours and the hottest part (times the number of ranks, so that nothing is rounded)
abbrev pub IsNearMean : ℕ → List Hour → List ℕ → ℕ → ℕ → Type 0
IsNearMean ranks hours heats root greatest =
    (greatest ≤ greatest_of ranks (λ r. worst hours (λ h. pinned_at hours h r)))
    ⊎ ((greatest ≤ worst hours (λ h. pinned_at hours h 0 + heat_in hours h root))
    ⊎ (greatest * rank_count ranks ≤ all_of_parts ranks hours heats + hottest_of heats * rank_count ranks))

-- a packing after exchanges: cooler, or left as it was. One that was cool enough is left as it was
pub record IsEvened (ranks : ℕ) (hours : List Hour) (heats : List ℕ) (root enough : ℕ) (packed rank : List ℕ)
    : Type 0 where
  pub ranks_are : HaveRanks ranks heats root rank
  pub cooler : (rank ≡ packed) ⊎ (greatest_by ranks hours heats rank < greatest_by ranks hours heats packed)
  pub left : greatest_by ranks hours heats packed ≤ enough → rank ≡ packed

-- the packing by heat only: largest first, and then evened
pub record IsEvenPacking (ranks : ℕ) (hours : List Hour) (heats : List ℕ) (root : ℕ) (even : List ℕ) : Type 0 where
  pub plain : List ℕ
  pub largest_first : IsLargestFirst ranks hours heats root plain
  pub near_mean : IsNearMean ranks hours heats root (greatest_by ranks hours heats plain)
  pub evened : IsEvened ranks hours heats root 0 plain even

-- the packing that keeps parts at home within a limit, evened, if its greatest load is then within the limit, which is
-- `keep` percent above that of the packing by heat only; otherwise that one
pub record IsKeptPacking (ranks : ℕ) (hours : List Hour) (heats inodes : List ℕ) (root keep : ℕ)
    (even rank : List ℕ) : Type 0 where
  pub kept : List ℕ
  pub within : IsKeptWithin ranks hours heats inodes root (allowed keep (greatest_by ranks hours heats even)) kept
  pub near : List ℕ
  pub mended : IsEvened ranks hours heats root (allowed keep (greatest_by ranks hours heats even)) kept near
  pub taken : ((greatest_by ranks hours heats near ≤ allowed keep (greatest_by ranks hours heats even))
      × (rank ≡ near))
      ⊎ ((allowed keep (greatest_by ranks hours heats even) < greatest_by ranks hours heats near) × (rank ≡ even))

-- a packing of parts of these heats and inodes, where `even` is the one by heat only: its loads and its greatest load,
-- which is at most `keep` percent above that of `even`
pub record IsPartsPacking (ranks : ℕ) (hours : List Hour) (heats inodes : List ℕ) (root : ℕ) (even : List ℕ)
    (packing : Packing) : Type 0 where
  pub ranks_are : HaveRanks ranks heats root packing.rank.items
  pub chosen : IsKeptPacking ranks hours heats inodes root packing.keep even packing.rank.items
  pub size : length packing.load.items ≡ 64
  pub loads : (r : ℕ) → r < 64 → slice_index packing.load.items r ≡ load_of_parts hours heats packing.rank.items r
  pub greatest : packing.greatest ≡ greatest_by ranks hours heats packing.rank.items
  pub coolest : packing.even ≡ greatest_by ranks hours heats even
  pub within : packing.greatest ≤ allowed packing.keep packing.even

-- the inodes of part p at rank r
abbrev pub part_inodes_at : List ProblemRow → List ℕ → ℕ → ℕ → ℕ
part_inodes_at rows part p r =
    sum_below (length rows)
    (λ i. if (slice_index part i == p) && (now_at rows i == r) then inodes_at rows i else 0)

-- the parts of rows in each hour: as much is pinned, and the heat of a part is that of its rows
pub record ArePartHours (hours : List Hour) (n : ℕ) (part : List ℕ) (count : ℕ) (parts : List Hour) : Type 0 where
  pub size : length parts ≡ length hours
  pub pinned : (h : ℕ) → h < length hours → pinned_in parts h ≡ pinned_in hours h
  pub sizes : (h : ℕ) → h < length hours → length (heats_in parts h) ≡ count
  pub heats : (h p : ℕ) → h < length hours → p < count
      → heat_in parts h p ≡ sum_below n (λ i. if slice_index part i == p then heat_in hours h i else 0)

-- a packing of the parts of rows: its greatest load is at most its `keep` percent above that of the packing by heat
-- only, which is no more than that of the largest first. Parts stay at home where that leaves it within the limit
pub record IsPackedEvenly (ranks : ℕ) (hours : List Hour) (rows : List ProblemRow) (part : List ℕ) (count : ℕ)
    (packing : Packing) : Type 0 where
  pub parts : List Hour
  pub heats : List ℕ
  pub inodes : List ℕ
  pub size : length heats ≡ count
  pub parts_are : ArePartHours hours (length rows) part count parts
  pub greatest : AreGreatest parts heats
  pub there : (p r : ℕ) → p < count → r < 64 → inodes_there inodes p r ≡ part_inodes_at rows part p r
  pub even : List ℕ
  pub by_heat : IsEvenPacking ranks parts heats (slice_index part 0) even
  pub packed : IsPartsPacking ranks parts heats inodes (slice_index part 0) even packing
  pub cooler : packing.even ≤ greatest_by ranks parts heats by_heat.plain
