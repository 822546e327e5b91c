use Rattle.std.proofs.Common.{◌≡◌, ◌+◌, ◌<◌, ◌≤◌, ◌-◌, ◌∙◌, ◌&&◌, ℕ, List, Bool, arith, cond, false, length, not, ap, refl, sym, true}
use Rattle.std.specs.List.{count_by}
use Rattle.std.proofs.lemmas.List.Recursion.{is_count_by}
use Rattle.mds_types.specs.Sums.{count_below}
use Rattle.ceph_folding.specs.declared.coldest.Key.{Key}
use Rattle.ceph_snapshot.specs.declared.directory.Directory.{Directory}
use Rattle.ceph_snapshot.specs.Holding.{is_marked}
use Rattle.ceph_folding.specs.Keys.{goes, is_at_most, is_below, passes}
use Rattle.mds_types.proofs.SumsLemmas.{sum_below-same}
use Rattle.ceph_folding.proofs.HeatBelow.{coldest-gone}
use Rattle.ceph_folding.proofs.Keys.{count_both, gone-marked, one-more}
use Rattle.ceph_folding.proofs.coldest.coldest.Goals as goal

pub marks-requires : goal.marks-requires
marks-requires c =
    ap length c.deref-4.ensures.value ∙ (c.in_ok-stays.ensures.size ∙ sym (ap length c.deref-3.ensures.value ∙ c.in_ok-heats.ensures.size))

pub keys-requires : goal.keys-requires
keys-requires c =
    ap length c.deref-2.ensures.value ∙ (c.in_ok-stays.ensures.size ∙ sym (ap length c.deref.ensures.value ∙ c.in_ok-heats.ensures.size))

pub returns-clause-gone : goal.returns-clause-gone
returns-clause-gone c =
    let ds : List Directory = c.args.directories.now in
    let heats : List ℕ = c.in_ok-heats.heats.items in
    let stays : List Bool = c.in_ok-stays.stays.items in
    let marks : List Bool = c.in_ok-marks.field-0.items in
    let marked : (i : ℕ) → i < length heats → is_marked marks i
    ≡ goes heats stays c.in-Some.last i = rw (c.deref-3.ensures.value, c.deref-4.ensures.value) at c.in_ok-marks.ensures.marks in
    gone-marked ds heats stays marks c.in-Some.last c.in_ok-heats.ensures.size c.requires.first c.in_ok-stays.ensures.plain
    c.in_ok-stays.ensures.above c.in_ok-heats.ensures.rise marked
    (coldest-gone ds heats stays marks c.in-Some.last c.in_ok-heats.ensures.size c.in_ok-heats.ensures.heats c.in_ok-stays.ensures.needed marked)

pub returns-clause-left : goal.returns-clause-left
returns-clause-left c =
    let n : ℕ = length c.args.directories.now in
    let heats : List ℕ = c.in_ok-heats.heats.items in
    let stays : List Bool = c.in_ok-stays.stays.items in
    let last : Key = c.in-Some.last in
    let gone : List Bool = c.in_ok-marks.field-0.items in
    let size : length heats ≡ n = c.in_ok-heats.ensures.size in
    let both : count_below n (λ i. not (is_marked gone i)) + count_below n (goes heats stays last) ≡ n =
    count_both n (is_marked gone) (goes heats stays last)
    (λ i l. rw (c.deref-3.ensures.value, c.deref-4.ensures.value) at
    (c.in_ok-marks.ensures.marks i (let within : i < length c.deref-3.result.now =
    omega (arith, l, size, ap length c.deref-3.ensures.value) in within))) in
    let counted : (test : Key → Bool) → count_by test c.in_ok-keys.keys.items ≡ count_below (length heats) (passes heats stays test) =
    rw (c.deref.ensures.value, c.deref-2.ensures.value) at c.in_ok-keys.ensures in
    let many : n - c.args.limit ≤ count_by (λ key. is_at_most key last) c.in_ok-keys.keys.items = rw c.in-Some.is at c.in_ok-last.ensures.enough in
    let few : count_by (λ key. is_below key last) c.in_ok-keys.keys.items < n - c.args.limit = rw c.in-Some.is at c.in_ok-last.ensures.needed in
    let some : n - c.args.limit ≤ count_below n (goes heats stays last) =
    omega (arith, many, counted (λ key. is_at_most key last), ap (λ (m : ℕ). count_below m (goes heats stays last)) size) in
    let no_more : count_below n (goes heats stays last) ≤ n - c.args.limit =
    omega (arith, few, counted (λ key. is_below key last), one-more heats stays last, ap (λ (m : ℕ). count_below m (goes heats stays last)) size) in
    omega (arith, both, some, no_more, c.requires.more)

-- all that don't stay pass a test that all pass
both_true : (b : Bool) → (b && true) ≡ b
both_true true = refl
both_true false = refl

all_counted : (keys : List Key) → length keys ≡ count_by (λ (key : Key). true) keys
all_counted keys = is_count_by length (λ (key : Key). true) refl (λ (key : Key) (others : List Key). omega arith) keys

pub returns-in_default-clause-many : goal.returns-in_default-clause-many
returns-in_default-clause-many c =
    let n : ℕ = length c.args.directories.now in
    let heats : List ℕ = c.in_ok-heats.heats.items in
    let stays : List Bool = c.in_ok-stays.stays.items in
    let free : ℕ → Bool = λ i. not (is_marked stays i) in
    let size : length heats ≡ n = c.in_ok-heats.ensures.size in
    let counted : (test : Key → Bool) → count_by test c.in_ok-keys.keys.items ≡ count_below (length heats) (passes heats stays test) =
    rw (c.deref.ensures.value, c.deref-2.ensures.value) at c.in_ok-keys.ensures in
    let all : count_below n (passes heats stays (λ key. true)) ≡ count_below n free =
    sum_below-same n (λ i. cond (passes heats stays (λ key. true) i) 1 0) (λ i. cond (free i) 1 0)
    (λ i inside. ap (λ (b : Bool). cond b 1 0) (both_true (free i))) in
    let both : count_below n free + count_below n (is_marked stays) ≡ n = count_both n (is_marked stays) (is_marked stays) (λ i l. refl) in
    let few : length c.in_ok-keys.keys.items < n - c.args.limit = c.in_ok-last.ensures.few c.in_default.is in
    record {
      stays = is_marked stays;
      needed = c.in_ok-stays.ensures.needed;
      many = omega (
        arith,
        few,
        both,
        all,
        counted (λ key. true),
        all_counted c.in_ok-keys.keys.items,
        ap (λ (m : ℕ). count_below m (passes heats stays (λ key. true))) size,
        c.requires.more,
      );
    }
