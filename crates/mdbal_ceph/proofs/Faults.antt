-- From what is wrong with a file to why a folder is not read.
use Rattle.std.proofs.Common.{◌≡◌, ◌⊎◌, ◌∙◌, ◌<◌, ◌≤◌, ◌+◌, ◌&&◌, ◌++◌, ◌∷◌, [], ℕ, suc, All, Bool, List, Option, Some, None, Result, Ok}
use Rattle.std.proofs.Common.{Err, OnErr, append-nil, arith, codes, false, get_or, inl, inr, map, refl, subst, sym, true}
use Rattle.std.specs.List.{IsAmong, filter, flat_map, range_with_len}
use Rattle.std.proofs.lemmas.List.{get_or_default, get_or-map, length-map}
use Rattle.std.proofs.lemmas.List.Elements.{All-append, All-filter, All-map, filter_passes}
use Rattle.std.specs.Prelude.{string_bytes}
use Rattle.ceph_dumps.specs.Listing.{AreValuesListed}
use Rattle.ceph_dumps.specs.declared.listing.ListedDir.{ListedDir}
use Rattle.ceph_dumps.specs.declared.loads.FragmentHeat.{FragmentHeat}
use Rattle.ceph_dumps.specs.declared.subtrees.SubtreeRoot.{SubtreeRoot}
use Rattle.ceph_dumps.specs.declared.dump_error.DumpError.{DumpError}
use Rattle.ceph_snapshot.specs.declared.directory.Directory.{Directory}
use Rattle.ceph_snapshot.specs.declared.gathering.Gathering.{Gathering}
use Rattle.ceph_snapshot.specs.declared.snapshot_error.SnapshotError.{SnapshotError}
use Rattle.ceph_snapshot.specs.declared.snapshot_error.SnapshotError.TheVariants as doubt
use Rattle.ceph_snapshot.specs.Authority.{PathText, is_user_path}
use Rattle.ceph_snapshot.specs.Facts.{Fact, Root, Value, roots_in, values_in}
use Rattle.ceph_snapshot.specs.Growth.{IsClaimOrGrowth, IsGrowthError}
use Rattle.ceph_snapshot.specs.Heard.{ClaimsByFact, ClaimsFragment, HasTold, IsToldTwice}
use Rattle.ceph_snapshot.specs.Named.{AreTooManyNamed}
use Rattle.ceph_snapshot.specs.Sightings.{PathHeat, seen_in}
use Rattle.mds_types.specs.RankSet.{has_rank}
use Rattle.mdbal_ceph.specs.Collections.{Adds}
use Rattle.mdbal_ceph.specs.Causes.{AreRanksIn, AreTooManyIn, AreTooManyNumbers, DumpFile, IsClaimOf, IsElsewhere, IsFactIn, IsFileCause}
use Rattle.mdbal_ceph.specs.Causes.{IsFolderFault, IsGrowth, IsHeatIn, IsNamedBy, IsNeeded, IsNoBytes, IsRankIn, IsReadInto}
use Rattle.mdbal_ceph.specs.Causes.{IsReadWith, IsRefusedFile, IsSampleIn, IsToRead, IsTwiceClaimed, IsUnclaimedIn, IsUnread, dump_name}
use Rattle.mdbal_ceph.specs.Dumps.{AreInodes, AreRankDumps, AreSamples, DumpKind, DumpValue, IsLoadsFile, IsRankDump, IsRootsFile}
use Rattle.mdbal_ceph.specs.Dumps.{IsSampleCount, RankDump, all_seen, file_in, listed_facts, loads_file, rank_facts, rank_seen}
use Rattle.mdbal_ceph.specs.Dumps.{ranks_below, root_facts, subtrees_file}
use Rattle.mdbal_ceph.specs.Folder.{FileContent, IsInFile, IsInFileIfAny}
use Rattle.mdbal_ceph.specs.NoResults.{claim_error, doubt_error, growth_error}
use Rattle.mdbal_ceph.specs.NotMade.{AreTooManyToPlan, IsFoldingFault}
use Rattle.mdbal_ceph.specs.declared.no_result.FileFault.{FileFault}
use Rattle.mdbal_ceph.specs.declared.no_result.FileFault.TheVariants as fault
use Rattle.mdbal_ceph.specs.declared.no_result.NoResult.{NoResult}
use Rattle.mdbal_ceph.specs.declared.no_result.NoResult.TheVariants as why
use Rattle.mdbal_ceph.specs.declared.past.EarlierHour.{EarlierHour}

-- of an error, whichever it is
pub on_err : {T E : Type 0} (r : Result T E) (P : Type 0) → P → OnErr r P
on_err (Ok x) P p = tt
on_err (Err e) P p = p

-- what is wrong with a file is wrong in another way
pub named_weaker : (name : List ℕ) (P Q : FileFault → Type 0) (e : NoResult) → ((one : FileFault) → P one → Q one) → IsNamedBy name P e → IsNamedBy name Q e
named_weaker name P Q why.Memory more h = tt
named_weaker name P Q (why.File told one) more h = (h.0, more one h.1)
named_weaker name P Q other more h = absurd h

-- without inode numbers no directory is elsewhere
pub not_left : (numbered rest : Bool) → numbered ≡ false → (numbered && rest) ≡ true → ⊥
not_left numbered rest is h = absurd (let f : false ≡ true = subst (λ b. (b && rest) ≡ true) is h in cc)

-- an error of growth
pub growth_of : (Cause : Type 0) (e : SnapshotError) → IsGrowthError Cause e → IsGrowth Cause (growth_error e)
growth_of Cause doubt.Memory is = tt
growth_of Cause doubt.TooMany is = is
growth_of Cause other is = absurd is

-- an error of folding
pub folding_growth : (subvolumes : Bool) (collected : List Directory) (earlier : List EarlierHour) (Cause : Type 0) (e : SnapshotError)
    → (Cause → AreTooManyToPlan subvolumes collected earlier) → IsGrowthError Cause e → IsFoldingFault subvolumes collected earlier (growth_error e)
folding_growth subvolumes collected earlier Cause doubt.Memory so is = tt
folding_growth subvolumes collected earlier Cause doubt.TooMany so is = so is
folding_growth subvolumes collected earlier Cause other so is = absurd is

module _ (reads : List ℕ → FileContent → Type 0) (says : List ℕ → DumpValue → Type 0) (refuses : DumpKind → List ℕ → DumpError → Type 0) (folder : List ℕ) where
  pub growth_in : (Cause : Type 0) (e : NoResult) → (Cause → AreTooManyIn reads says refuses folder ⊎ AreTooManyNumbers reads says refuses folder)
      → IsGrowth Cause e → IsFolderFault reads says refuses folder e
  growth_in Cause why.Memory so h = tt
  growth_in Cause why.TooMany so h = so h
  growth_in Cause other so h = absurd h

  -- this is wrong with a file of the folder
  pub file_in_folder : (file : DumpFile) (name : List ℕ) (P : FileFault → Type 0) (e : NoResult) → IsToRead reads says refuses folder file
      → name ≡ dump_name folder file
      → ((one : FileFault) → P one → IsFileCause reads says refuses (dump_name folder file) file one) → IsNamedBy name P e
      → IsFolderFault reads says refuses folder e
  file_in_folder file name P why.Memory to_read is cause h = tt
  file_in_folder file name P (why.File told one) to_read is cause h = (file, to_read, h.0 ∙ is, cause one h.1)
  file_in_folder file name P other to_read is cause h = absurd h

  unread_cause : (file : DumpFile) (name : List ℕ) (one : FileFault) → IsUnread reads name one → IsFileCause reads says refuses name file one
  unread_cause file name (fault.Device error) h = h
  unread_cause file name other h = absurd h

  no_bytes_cause : (file : DumpFile) (name : List ℕ) (one : FileFault) → IsNeeded file → IsNoBytes reads name one → IsFileCause reads says refuses name file one
  no_bytes_cause file name (fault.Device error) needed h = h
  no_bytes_cause file name fault.Missing needed h = (needed, h)
  no_bytes_cause file name other needed h = absurd h

  -- it can't be read
  pub unread_in : (file : DumpFile) (name : List ℕ) (e : NoResult) → IsToRead reads says refuses folder file → name ≡ dump_name folder file
      → IsNamedBy name (IsUnread reads name) e → IsFolderFault reads says refuses folder e
  unread_in file name e to_read is h =
      file_in_folder file name (IsUnread reads name) e to_read is (λ one u. unread_cause file _ one (subst (λ n. IsUnread reads n one) is u)) h

  -- or it isn't there, and is needed
  pub no_bytes_in : (file : DumpFile) (name : List ℕ) (e : NoResult) → IsToRead reads says refuses folder file → IsNeeded file → name ≡ dump_name folder file
      → IsNamedBy name (IsNoBytes reads name) e → IsFolderFault reads says refuses folder e
  no_bytes_in file name e to_read needed is h =
      file_in_folder file name (IsNoBytes reads name) e to_read is (λ one u. no_bytes_cause file _ one needed (subst (λ n. IsNoBytes reads n one) is u)) h

  -- or its bytes are refused for this error
  pub refused_in : (file : DumpFile) (name : List ℕ) (e : NoResult) (error : DumpError) → IsToRead reads says refuses folder file → name ≡ dump_name folder file
      → IsInFile reads (IsRefusedFile refuses file) name error → IsNamedBy name (λ one. one ≡ fault.Refused error) e → IsFolderFault reads says refuses folder e
  refused_in file name e error to_read is bytes h =
      file_in_folder file name (λ one. one ≡ fault.Refused error) e to_read is
      (λ one u. subst (λ f. IsFileCause reads says refuses (dump_name folder file) file f) (sym u)
      (subst (λ n. IsInFile reads (IsRefusedFile refuses file) n error) is bytes)) h

  -- roots that aren't added, by claims or as there are too many
  pub claim_in : (Cause : Type 0) (e : SnapshotError) → IsClaimOrGrowth Cause e
      → (Cause → AreTooManyIn reads says refuses folder)
      → ((path : PathText) (one two : ℕ) → e ≡ doubt.TwoClaims path one two
      → IsTwiceClaimed reads says refuses folder (string_bytes path) one two)
      → IsFolderFault reads says refuses folder (claim_error e)
  claim_in Cause (doubt.TwoClaims path one two) is many twice = twice path one two refl
  claim_in Cause doubt.Memory is many twice = tt
  claim_in Cause doubt.TooMany is many twice = inl (many is)
  claim_in Cause doubt.Elsewhere is many twice = absurd is
  claim_in Cause (doubt.Unclaimed path by authority) is many twice = absurd is

  -- no snapshot, by all that was gathered
  pub doubt_in : (e : SnapshotError) → (e ≡ doubt.TooMany → ⊥) → ((path : PathText) (one two : ℕ) → e ≡ doubt.TwoClaims path one two → ⊥)
      → (e ≡ doubt.Elsewhere → IsElsewhere reads says refuses folder)
      → ((path : PathText) (by authority : ℕ) → e ≡ doubt.Unclaimed path by authority → IsUnclaimedIn reads says refuses folder path by authority)
      → IsFolderFault reads says refuses folder (doubt_error e)
  doubt_in doubt.Elsewhere many twice elsewhere unclaimed = elsewhere refl
  doubt_in (doubt.Unclaimed path by authority) many twice elsewhere unclaimed = unclaimed path by authority refl
  doubt_in doubt.Memory many twice elsewhere unclaimed = tt
  doubt_in doubt.TooMany many twice elsewhere unclaimed = absurd (many refl)
  doubt_in (doubt.TwoClaims path one two) many twice elsewhere unclaimed = absurd (twice path one two refl)

  -- a rank that claims a fragment by what was listed
  claim_of : (numbers : Option (List ListedDir)) (facts : List Fact) (first : ℕ) (fragment : List ℕ)
      → All (IsFactIn reads says refuses folder numbers) facts → ClaimsFragment facts first fragment
      → (one : SubtreeRoot) × IsClaimOf reads says refuses folder numbers first fragment one
  claim_of numbers facts first fragment listed claim =
      by claim.0 (subst (IsFactIn reads says refuses folder numbers) (sym claim.1.1.1) (listed claim.1.0 claim.0 claim.1.1.0)) claim.2
    where
      by : (f : Fact) → IsFactIn reads says refuses folder numbers f → ClaimsByFact first fragment f
          → (one : SubtreeRoot) × IsClaimOf reads says refuses folder numbers first fragment one
      by (Root rank root) here claims = (
        root,
        record {
          rank_in = subst (IsRankIn reads says refuses folder) claims.0 here.0;
          roots = here.1;
          roots_are = subst (λ r. IsRootsFile reads says numbers (subtrees_file folder r) here.1) claims.0 here.2;
          among = here.3;
          here = claims.1;
          named = claims.2;
        },
      )
      by (Value dir) here claims = absurd claims

  -- a claim of two ranks, by what the gathering says
  pub twice_claimed : (rank : ℕ) (numbers : Option (List ListedDir)) (roots others : List SubtreeRoot) (facts : List Fact) (path : PathText) (one two : ℕ)
      → IsInFileIfAny reads AreInodes (file_in folder (codes "inodes")) numbers → All (IsFactIn reads says refuses folder numbers) facts
      → IsRankIn reads says refuses folder rank
      → IsRootsFile reads says numbers (subtrees_file folder rank) roots → others ≡ roots
      → ((root : SubtreeRoot) × IsAmong others root × IsToldTwice facts root rank path one two)
      → IsTwiceClaimed reads says refuses folder (string_bytes path) one two
  twice_claimed rank numbers roots others facts path one two numbers_are listed there roots_are same twice =
      let told = twice.2 in
      let first = claim_of numbers facts one told.fragment listed told.first_of in
      record {
        numbers = numbers;
        numbers_are = numbers_are;
        fragment = told.fragment;
        one = first.0;
        first_claims = first.1;
        two = twice.0;
        second_claims = subst (λ r. IsClaimOf reads says refuses folder numbers r told.fragment twice.0) (sym told.second_of) (record {
          rank_in = there;
          roots = roots;
          roots_are = roots_are;
          among = subst (λ (those : List SubtreeRoot). IsAmong those twice.0) same twice.1;
          here = told.here;
          named = told.named;
        });
        path_is = told.path_of;
        other = λ is. told.other (is ∙ told.second_of);
      }

  -- the roots that were listed in the dumps of ranks
  pub roots_there : (numbers : Option (List ListedDir)) (rank : ℕ) (roots : List SubtreeRoot) → IsRankIn reads says refuses folder rank
      → IsRootsFile reads says numbers (subtrees_file folder rank) roots
      → All (IsFactIn reads says refuses folder numbers) (roots_in rank roots)
  roots_there numbers rank roots there roots_are =
      let P : Fact → Type 0 = IsFactIn reads says refuses folder numbers in
      let user : SubtreeRoot → Bool = λ root. is_user_path root.path.items in
      All-map P (Root rank) (filter user roots)
      (All-filter user (λ root. P (Root rank root)) roots (λ k d l. (there, roots, roots_are, (k, (l, get_or_default roots k d (get_or roots k d) l)))))

  -- the values that were listed over the mount
  values_there : (numbers : Option (List ListedDir)) (listing : List ListedDir) → ((dir : ListedDir) → IsAmong listing dir
      → IsFactIn reads says refuses folder numbers (Value dir)) → All (IsFactIn reads says refuses folder numbers) (values_in listing)
  values_there numbers listing so =
      let P : Fact → Type 0 = IsFactIn reads says refuses folder numbers in
      let user : ListedDir → Bool = λ dir. is_user_path dir.path.items in
      All-map P Value (filter user listing)
      (All-filter user (λ dir. P (Value dir)) listing (λ k d l. so (get_or listing k d) (k, (l, get_or_default listing k d (get_or listing k d) l))))

  pub numbers_there : (numbers : Option (List ListedDir)) → All (IsFactIn reads says refuses folder numbers) (listed_facts numbers)
  numbers_there None = λ k d l. absurd (omega (arith, l))
  numbers_there (Some those) = values_there (Some those) those (λ dir among. inl (those, refl, among))

  pub listing_there : (numbers : Option (List ListedDir)) (listing : List ListedDir)
      → IsInFile reads AreValuesListed (file_in folder (codes "dirs")) listing → All (IsFactIn reads says refuses folder numbers) (values_in listing)
  listing_there numbers listing are = values_there numbers listing (λ dir among. inr (listing, are, among))

  -- the heat that a rank has seen, by its samples
  pub heat_there : (numbers : Option (List ListedDir)) (rank sample : ℕ) (loads : List FragmentHeat) → IsRankIn reads says refuses folder rank
      → IsSampleIn reads says refuses folder sample → IsLoadsFile reads says numbers (loads_file folder rank sample) loads
      → All (IsHeatIn reads says refuses folder numbers) (seen_in rank loads)
  heat_there numbers rank sample loads there sample_in are k d l =
      let seen : List PathHeat = seen_in rank loads in
      record {
        rank = rank;
        rank_in = there;
        sample = sample;
        sample_in = sample_in;
        loads = loads;
        loads_are = are;
        among = (k, (l, get_or_default seen k d (get_or seen k d) l));
      }

  all_pieces : {X A : Type 0} (P : A → Type 0) (of : X → List A) (xs : List X) → All (λ x. All P (of x)) xs → All P (flat_map of xs)
  all_pieces P of [] each = λ k d l. absurd (omega (arith, l))
  all_pieces P of (x ∷ xs) each =
      All-append P (of x) (flat_map of xs) (each 0 x (omega arith)) (all_pieces P of xs (λ k d l. each (suc k) d (omega (arith, l))))

  pub samples_there : (numbers : Option (List ListedDir)) (rank count n : ℕ) (samples : List (List FragmentHeat)) → IsRankIn reads says refuses folder rank
      → IsSampleCount reads folder count → n ≤ count → AreSamples reads says numbers folder rank n samples
      → All (IsHeatIn reads says refuses folder numbers) (flat_map (seen_in rank) samples)
  samples_there numbers rank count n samples there count_is few are =
      let P : PathHeat → Type 0 = IsHeatIn reads says refuses folder numbers in
      all_pieces P (seen_in rank) samples
      (λ k d l.
      let inside : k < n = omega (arith, l, are.size) in
      let one : 1 ≤ k + 1 = omega arith in
      let last : k + 1 ≤ count = omega (arith, inside, few) in
      subst (λ (loads : List FragmentHeat). All P (seen_in rank loads)) (get_or_default samples k [] d l)
      (heat_there numbers rank (k + 1) (get_or samples k []) there (count, count_is, one, last) (are.each k inside)))

  dumps_heat : (numbers : Option (List ListedDir)) (count : ℕ) (dumps : List RankDump) → IsSampleCount reads folder count
      → All (λ (d : RankDump). IsRankIn reads says refuses folder d.rank) dumps
      → All (IsRankDump reads says numbers folder count) dumps → All (IsHeatIn reads says refuses folder numbers) (all_seen dumps)
  dumps_heat numbers count dumps count_is there each =
      all_pieces (IsHeatIn reads says refuses folder numbers) rank_seen dumps
      (λ k d l.
      let dump : RankDump = get_or dumps k d in
      let few : count ≤ count = omega arith in
      samples_there numbers dump.rank count count dump.samples (there k d l) count_is few (each k d l).samples)

  dumps_facts : (numbers : Option (List ListedDir)) (count : ℕ) (dumps : List RankDump)
      → All (λ (d : RankDump). IsRankIn reads says refuses folder d.rank) dumps
      → All (IsRankDump reads says numbers folder count) dumps → All (IsFactIn reads says refuses folder numbers) (root_facts dumps)
  dumps_facts numbers count dumps there each =
      all_pieces (IsFactIn reads says refuses folder numbers) rank_facts dumps
      (λ k d l. let dump : RankDump = get_or dumps k d in roots_there numbers dump.rank dump.roots (there k d l) (each k d l).roots)

  -- nothing yet
  pub read_none : (numbers : Option (List ListedDir)) (count : ℕ) (new : Gathering) → IsReadWith reads says refuses folder numbers count
      → new.tree.seen ≡ [] → HasTold new [] → IsReadInto reads says refuses folder numbers count new
  read_none numbers count new read none told = record {
    read = read;
    seen_in_files = subst (All (IsHeatIn reads says refuses folder numbers)) (sym none) (λ k d l. absurd (omega (arith, l)));
    facts = [];
    told = told;
    listed = λ k d l. absurd (omega (arith, l));
  }

  -- with more of what the files say
  pub read_adds : (numbers : Option (List ListedDir)) (count : ℕ) (old new : Gathering) (seen : List PathHeat) (facts : List Fact)
      → IsReadInto reads says refuses folder numbers count old → new.tree.seen ≡ old.tree.seen ++ seen
      → ((before : List Fact) → HasTold old before → HasTold new (before ++ facts))
      → All (IsHeatIn reads says refuses folder numbers) seen → All (IsFactIn reads says refuses folder numbers) facts
      → IsReadInto reads says refuses folder numbers count new
  read_adds numbers count old new seen facts was more told seen_there facts_there = record {
    read = was.read;
    seen_in_files = subst (All (IsHeatIn reads says refuses folder numbers)) (sym more)
        (All-append (IsHeatIn reads says refuses folder numbers) old.tree.seen seen was.seen_in_files seen_there);
    facts = was.facts ++ facts;
    told = told was.facts was.told;
    listed = All-append (IsFactIn reads says refuses folder numbers) was.facts facts was.listed facts_there;
  }

  -- with the dumps of more ranks
  pub read_more : (numbers : Option (List ListedDir)) (count ranks n : ℕ) (dumps : List RankDump) (old new : Gathering)
      → IsReadInto reads says refuses folder numbers count old
      → AreRanksIn reads says refuses folder ranks → AreRankDumps reads says numbers folder count (ranks_below ranks n) dumps
      → Adds old new (all_seen dumps) (root_facts dumps)
      → IsReadInto reads says refuses folder numbers count new
  read_more numbers count ranks n dumps old new was there are adds =
      let of_set : All (λ r. has_rank ranks r ≡ true) (map (λ (d : RankDump). d.rank) dumps) =
      subst (All (λ r. has_rank ranks r ≡ true)) (sym are.these) (filter_passes (has_rank ranks) (range_with_len 0 n)) in
      let in_set : All (λ (d : RankDump). IsRankIn reads says refuses folder d.rank) dumps =
      λ k d l.
      there (get_or dumps k d).rank
      (subst (λ r. has_rank ranks r ≡ true) (get_or-map (λ (d : RankDump). d.rank) dumps k d d.rank l)
      (of_set k d.rank (omega (arith, l, length-map dumps (λ (d : RankDump). d.rank))))) in
      read_adds numbers count old new (all_seen dumps) (root_facts dumps) was adds.seen_more adds.told
      (dumps_heat numbers count dumps was.read.count_is in_set are.each) (dumps_facts numbers count dumps in_set are.each)

  -- too many are named by what was gathered so far and by more of what the files say
  pub many_in : (numbers : Option (List ListedDir)) (count : ℕ) (old : Gathering) (seen : List PathHeat) (facts : List Fact)
      → (was : IsReadInto reads says refuses folder numbers count old)
      → All (IsHeatIn reads says refuses folder numbers) seen → All (IsFactIn reads says refuses folder numbers) facts
      → AreTooManyNamed (old.tree.seen ++ seen) (was.facts ++ facts) → AreTooManyIn reads says refuses folder
  many_in numbers count old seen facts was seen_there facts_there many = record {
    numbers = numbers;
    numbers_are = was.read.numbers_are;
    seen = old.tree.seen ++ seen;
    seen_in_files = All-append (IsHeatIn reads says refuses folder numbers) old.tree.seen seen was.seen_in_files seen_there;
    facts = was.facts ++ facts;
    listed = All-append (IsFactIn reads says refuses folder numbers) was.facts facts was.listed facts_there;
    many = many;
  }

  pub many_seen_in : (numbers : Option (List ListedDir)) (count : ℕ) (old : Gathering) (seen : List PathHeat)
      → (was : IsReadInto reads says refuses folder numbers count old) → All (IsHeatIn reads says refuses folder numbers) seen
      → AreTooManyNamed (old.tree.seen ++ seen) was.facts → AreTooManyIn reads says refuses folder
  many_seen_in numbers count old seen was seen_there many =
      many_in numbers count old seen [] was seen_there (λ k d l. absurd (omega (arith, l)))
      (subst (AreTooManyNamed (old.tree.seen ++ seen)) (sym (append-nil was.facts)) many)

  pub many_told_in : (numbers : Option (List ListedDir)) (count : ℕ) (old : Gathering) (facts : List Fact)
      → (was : IsReadInto reads says refuses folder numbers count old) → All (IsFactIn reads says refuses folder numbers) facts
      → AreTooManyNamed old.tree.seen (was.facts ++ facts) → AreTooManyIn reads says refuses folder
  many_told_in numbers count old facts was facts_there many =
      many_in numbers count old [] facts was (λ k d l. absurd (omega (arith, l))) facts_there
      (subst (λ (seen : List PathHeat). AreTooManyNamed seen (was.facts ++ facts)) (sym (append-nil old.tree.seen)) many)
