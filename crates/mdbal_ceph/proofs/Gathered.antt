-- What is gathered of dumps, one after another.
use Rattle.std.proofs.Common.{◌≡◌, ◌≢◌, ◌∙◌, ◌+◌, ◌<◌, ◌++◌, ◌∷◌, [], ℕ, All, Bool, true, false}
use Rattle.std.proofs.Common.{List, Option, append-nil, append_assoc, ap, arith, cond, get_or, map, refl, subst, sym, ⊎_elim}
use Rattle.std.specs.List.{filter, flat_map, range_with_len}
use Rattle.std.specs.Option.{option_map}
use Rattle.std.proofs.lemmas.Bool.{cases_eq}
use Rattle.std.proofs.lemmas.List.{get_or_append_left, get_or_push, length_push, map-append, map-id}
use Rattle.std.proofs.lemmas.List.Concat.{flat_map-append}
use Rattle.std.proofs.lemmas.List.Elements.{All-append}
use Rattle.std.proofs.lemmas.List.FromFn.{filter_of_map_range_with_len_more}
use Rattle.mds_types.specs.RankSet.{has_rank}
use Rattle.ceph_dumps.specs.declared.listing.ListedDir.{ListedDir}
use Rattle.ceph_dumps.specs.declared.loads.FragmentHeat.{FragmentHeat}
use Rattle.ceph_dumps.specs.declared.own_list.OwnPin.{OwnPin}
use Rattle.ceph_snapshot.specs.Authority.{LieAsClaimed, is_true_of}
use Rattle.ceph_snapshot.specs.Doubts.{have_left, with_numbers}
use Rattle.ceph_snapshot.specs.Facts.{Fact}
use Rattle.ceph_snapshot.specs.Gathered.{numbers_at, path_pin_at, whose_pin_at, with_owner}
use Rattle.ceph_snapshot.specs.Heard.{BearsOut, HasDirectory, HasSpreadHeat, HasTold}
use Rattle.ceph_snapshot.specs.Named.{IsPathNamed}
use Rattle.ceph_snapshot.specs.Sightings.{HasSeen, LieAt, PathHeat}
use Rattle.ceph_snapshot.specs.declared.gathering.Gathering.{Gathering}
use Rattle.ceph_snapshot.specs.declared.snapshot.Snapshot.{Snapshot}
use Rattle.ceph_snapshot.specs.declared.tree.Node.{Node}
use Rattle.mdbal_ceph.specs.Collections.{Adds, HasGathered, IsSnapshotOf}
use Rattle.mdbal_ceph.specs.Dumps.{AreRankDumps, AreSamples, DumpValue, IsLoadsFile, IsRankDump, RankDump, all_seen}
use Rattle.mdbal_ceph.specs.Dumps.{loads_file, rank_facts, rank_seen, ranks_below, ranks_if, root_facts}
use Rattle.mdbal_ceph.specs.Folder.{FileContent}

pub adds_none : (g : Gathering) → Adds g g [] []
adds_none g = record {
  seen_more = sym (append-nil g.tree.seen);
  told = λ before is. subst (HasTold g) (sym (append-nil before)) is;
  listed = refl;
  numbered = refl;
}

pub adds_both : (a b c : Gathering) (s t : List PathHeat) (f h : List Fact) → Adds a b s f → Adds b c t h → Adds a c (s ++ t) (f ++ h)
adds_both a b c s t f h one two = record {
  seen_more = two.seen_more ∙ (ap (λ (xs : List PathHeat). xs ++ t) one.seen_more ∙ append_assoc a.tree.seen s t);
  told = λ before is. subst (HasTold c) (append_assoc before f h) (two.told (before ++ f) (one.told before is));
  listed = two.listed ∙ one.listed;
  numbered = two.numbered ∙ one.numbered;
}

pub piece_more : {X A : Type 0} (f : X → List A) (xs : List X) (x : X) → flat_map f (xs ++ x ∷ []) ≡ flat_map f xs ++ f x
piece_more f xs x = flat_map-append f xs (x ∷ []) ∙ ap (λ rest. flat_map f xs ++ rest) (append-nil (f x))

module _ (reads : List ℕ → FileContent → Type 0) (says : List ℕ → DumpValue → Type 0) (numbers : Option (List ListedDir)) (folder : List ℕ) where
  pub samples_none : (rank : ℕ) → AreSamples reads says numbers folder rank 0 []
  samples_none rank = record { size = refl; each = λ k l. absurd (omega (arith, l)) }

  pub samples_more : (rank n : ℕ) (samples : List (List FragmentHeat)) (loads : List FragmentHeat) → AreSamples reads says numbers folder rank n samples
      → IsLoadsFile reads says numbers (loads_file folder rank (n + 1)) loads → AreSamples reads says numbers folder rank (n + 1) (samples ++ loads ∷ [])
  samples_more rank n samples loads was here =
      let P : ℕ → List FragmentHeat → Type 0 = λ k those. IsLoadsFile reads says numbers (loads_file folder rank (k + 1)) those in
      record {
        size = length_push samples loads ∙ ap (λ (m : ℕ). m + 1) was.size;
        each = λ k l.
            ⊎_elim (λ (same : k ≡ n).
            subst (λ (j : ℕ). P j (get_or (samples ++ loads ∷ []) j [])) (sym same) (subst (P n) (sym (get_or_push samples loads [] n was.size)) here))
            (λ (other : k ≢ n).
            let inside : k < n = omega (arith, other, l) in
            subst (P k) (sym (get_or_append_left samples (loads ∷ []) [] k (omega (arith, inside, was.size)))) (was.each k inside))
            (cases_eq k n);
      }

  pub dumps_none : (count : ℕ) → AreRankDumps reads says numbers folder count [] []
  dumps_none count = record { these = refl; each = λ k d l. absurd (omega (arith, l)) }

  pub dumps_one : (count : ℕ) (dump : RankDump) → IsRankDump reads says numbers folder count dump
      → AreRankDumps reads says numbers folder count (dump.rank ∷ []) (dump ∷ [])
  dumps_one count dump here = record {
    these = refl;
    each = λ k d l.
        let first : 0 ≡ k = omega (arith, l) in
        subst (λ (j : ℕ). IsRankDump reads says numbers folder count (get_or (dump ∷ []) j d)) first here;
  }

  pub dumps_both : (count : ℕ) (ranks more : List ℕ) (dumps others : List RankDump) → AreRankDumps reads says numbers folder count ranks dumps
      → AreRankDumps reads says numbers folder count more others → AreRankDumps reads says numbers folder count (ranks ++ more) (dumps ++ others)
  dumps_both count ranks more dumps others one two = record {
    these = map-append (λ (d : RankDump). d.rank) dumps others
        ∙ (ap (λ (rs : List ℕ). rs ++ map (λ (d : RankDump). d.rank) others) one.these ∙ ap (λ (rs : List ℕ). ranks ++ rs) two.these);
    each = All-append (IsRankDump reads says numbers folder count) dumps others one.each two.each;
  }

pub adds_dumps : (a b c : Gathering) (xs ys : List RankDump) → Adds a b (all_seen xs) (root_facts xs)
    → Adds b c (all_seen ys) (root_facts ys) → Adds a c (all_seen (xs ++ ys)) (root_facts (xs ++ ys))
adds_dumps a b c xs ys one two =
    subst (λ (s : List PathHeat). Adds a c s (root_facts (xs ++ ys))) (sym (flat_map-append rank_seen xs ys))
    (subst (λ (f : List Fact). Adds a c (all_seen xs ++ all_seen ys) f) (sym (flat_map-append rank_facts xs ys))
    (adds_both a b c (all_seen xs) (all_seen ys) (root_facts xs) (root_facts ys) one two))

pub adds_dump : (a b : Gathering) (dump : RankDump) → Adds a b (rank_seen dump) (rank_facts dump) → Adds a b (all_seen (dump ∷ [])) (root_facts (dump ∷ []))
adds_dump a b dump adds =
    subst (λ (s : List PathHeat). Adds a b s (root_facts (dump ∷ []))) (sym (append-nil (rank_seen dump)))
    (subst (Adds a b (rank_seen dump)) (sym (append-nil (rank_facts dump))) adds)

-- what is added where nothing was gathered
pub gathered : (a b : Gathering) (s : List PathHeat) (f : List Fact) → a.tree.seen ≡ [] → HasTold a [] → a.is_listed ≡ false
    → a.is_numbered ≡ false → Adds a b s f → HasGathered s f false false b
gathered a b s f seen told listed numbered adds = record {
  seen_is = adds.seen_more ∙ ap (λ (xs : List PathHeat). xs ++ s) seen;
  told = adds.told [] told;
  listed_is = adds.listed ∙ listed;
  numbered_is = adds.numbered ∙ numbered;
}

-- the first n + 1 ranks of a set
pub ranks_more : (ranks n : ℕ) → ranks_below ranks (n + 1) ≡ ranks_below ranks n ++ ranks_if ranks n
ranks_more ranks n =
    let e : filter (has_rank ranks) (map (λ (r : ℕ). r) (range_with_len 0 (n + 1)))
    ≡ filter (has_rank ranks) (map (λ (r : ℕ). r) (range_with_len 0 n)) ++ cond (has_rank ranks n) (n ∷ []) [] =
    filter_of_map_range_with_len_more (has_rank ranks) (λ (r : ℕ). r) 0 n n (omega arith) in
    ap (filter (has_rank ranks)) (sym (map-id (range_with_len 0 (n + 1))))
    ∙ (e ∙ ap (λ (rs : List ℕ). filter (has_rank ranks) rs ++ cond (has_rank ranks n) (n ∷ []) []) (map-id (range_with_len 0 n)))

-- the directories of what was gathered
pub snapshot_of : (g : Gathering) (snapshot : Snapshot) (seen : List PathHeat) (facts : List Fact) (listed numbered : Bool) (count : ℕ)
    (own : List OwnPin) (ranks : ℕ) → HasGathered seen facts listed numbered g
    → ((placed : List Node) × LieAsClaimed g.tree.nodes placed × All (λ said. is_true_of placed said ≡ true) g.hearsay.items
    × LieAt placed snapshot.directories.items)
    → All (HasSeen g.tree.seen count) snapshot.directories.items
    → ((i : ℕ) → numbers_at snapshot.directories.items i ≡ option_map (with_numbers g.is_numbered g.tree.seen) (path_pin_at g.tree.nodes i))
    → have_left g.is_numbered g.tree.seen g.tree.nodes ≡ false
    → ((i : ℕ) → whose_pin_at snapshot.directories.items i ≡ option_map (with_owner own ranks) (path_pin_at g.tree.nodes i))
    → All (λ s. HasDirectory snapshot.directories.items s.path) g.tree.seen → HasSpreadHeat g.tree.seen count snapshot
    → ((those : List Fact) → HasTold g those → BearsOut those g.is_listed g.tree.nodes snapshot)
    → ((those : List Fact) → HasTold g those → All (λ d. IsPathNamed g.tree.seen those d.path.items) snapshot.directories.items)
    → IsSnapshotOf seen facts listed numbered count own ranks snapshot
snapshot_of g snapshot seen facts listed numbered count own ranks all authority heat numbers here owner there spread told named = record {
  nodes = g.tree.nodes;
  placed = authority.0;
  told = all.told.told;
  claimed = authority.1;
  lie = authority.3;
  heat = subst (λ (s : List PathHeat). All (HasSeen s count) snapshot.directories.items) all.seen_is heat;
  there = subst (All (λ s. HasDirectory snapshot.directories.items s.path)) all.seen_is there;
  named = subst (λ (s : List PathHeat). All (λ d. IsPathNamed s facts d.path.items) snapshot.directories.items) all.seen_is (named facts all.told);
  spread = subst (λ (s : List PathHeat). HasSpreadHeat s count snapshot) all.seen_is spread;
  here = subst (λ (s : List PathHeat). have_left numbered s g.tree.nodes ≡ false) all.seen_is
      (subst (λ (b : Bool). have_left b g.tree.seen g.tree.nodes ≡ false) all.numbered_is here);
  numbers = λ i.
      subst (λ (s : List PathHeat). numbers_at snapshot.directories.items i ≡ option_map (with_numbers numbered s) (path_pin_at g.tree.nodes i)) all.seen_is
      (subst (λ (b : Bool). numbers_at snapshot.directories.items i ≡ option_map (with_numbers b g.tree.seen) (path_pin_at g.tree.nodes i))
      all.numbered_is (numbers i));
  owner = owner;
  borne_out = subst (λ (b : Bool). BearsOut facts b g.tree.nodes snapshot) all.listed_is (told facts all.told);
}
