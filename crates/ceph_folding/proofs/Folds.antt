-- Homes, new places, and what is added up.
use Rattle.std.proofs.Common.{◌≡◌, ◌≢◌, ◌∙◌, ℕ, zero, suc, ◌+◌, ◌<◌, ◌≤◌, ◌++◌, Bool, true, false, not, cond, eqb, List}
use Rattle.std.proofs.Common.{[], ◌∷◌, length, slice_get, slice_index, take, Option, Some, None, refl, ap, sym, subst, ⊎_elim, arith, add-zero, set}
use Rattle.std.specs.List.{sum_by}
use Rattle.std.specs.Option.{option_map, option_map_or}
use Rattle.std.proofs.lemmas.Bool.{cases_Bool, cases_eq, eq-eqb, ne_eqb}
use Rattle.std.proofs.lemmas.List.{get_or_append_left, get_or_push, get_or-set_other, get_or-set_same}
use Rattle.std.proofs.lemmas.List.Sums.{sum_by-cons}
use Rattle.mds_types.specs.Sums.{sum_below}
use Rattle.mds_types.proofs.SumsLemmas.{count_below-le, sum_below-fewer, sum_below-only, sum_below-pick}
use Rattle.mds_types.proofs.SumsLemmas.{sum_below-same, sum_below-swap, sum_below-zero, sum_below_more}
use Rattle.ceph_snapshot.specs.declared.directory.Directory.{Directory}
use Rattle.ceph_folding.specs.Folding.{HasLeft, IsFolded, IsHome, all_heat, all_inodes, all_writes, brought, kept_below, put_together, with_amounts}
use Rattle.ceph_snapshot.specs.Holding.{climb, heat_at, inodes_at, parent_at, writes_at, is_marked}
use Rattle.ceph_folding.proofs.Keys.{sum_front}

apart : {X : Type 0} (b : Bool) → b ≡ true → b ≡ false → X
apart b is_true is_false = cc

-- the root isn't gone
pub later : (gone : List Bool) (at : ℕ) → is_marked gone 0 ≡ false → is_marked gone at ≡ true → 0 < at
later gone zero root goes = apart (is_marked gone 0) goes root
later gone (suc n) root goes = omega arith

pub home_here : (ds : List Directory) (gone : ℕ → Bool) (i : ℕ) → gone i ≡ false → IsHome ds gone i i
home_here ds gone i kept = record { steps = 0; there = refl; kept = kept; nearer = λ n l. let none : ⊥ = omega (arith, l) in absurd none }

nearer_more : (ds : List Directory) (gone : ℕ → Bool) (i : ℕ) → gone i ≡ true → (steps : ℕ) → ((n : ℕ) → n < steps → gone (climb ds n (parent_at ds i)) ≡ true)
    → (n : ℕ) → n < suc steps → gone (climb ds n i) ≡ true
nearer_more ds gone i is steps nearer zero l = is
nearer_more ds gone i is steps nearer (suc n) l = nearer n (omega (arith, l))

pub home_above : (ds : List Directory) (gone : ℕ → Bool) (i home : ℕ) → gone i ≡ true → IsHome ds gone (parent_at ds i) home → IsHome ds gone i home
home_above ds gone i home is above = record {
  steps = suc above.steps;
  there = above.there;
  kept = above.kept;
  nearer = nearer_more ds gone i is above.steps above.nearer;
}

-- one more home that was found
pub homes_more : (ds : List Directory) (gone : ℕ → Bool) (homes : List ℕ) (home n : ℕ) → length homes ≡ n
    → ((i : ℕ) → i < n → IsHome ds gone i (slice_index homes i)) → IsHome ds gone n home
    → (i : ℕ) → i < n + 1 → IsHome ds gone i (slice_index (homes ++ home ∷ []) i)
homes_more ds gone homes home n size before here i l =
    ⊎_elim (λ (same : i ≡ n).
    subst (λ (k : ℕ). IsHome ds gone k (slice_index (homes ++ home ∷ []) k)) (sym same)
    (subst (λ (h : ℕ). IsHome ds gone n h) (sym (get_or_push homes home 0 n size)) here))
    (λ (other : i ≢ n).
    let inside : i < n = omega (arith, other, l) in
    subst (λ (h : ℕ). IsHome ds gone i h) (sym (get_or_append_left homes (home ∷ []) 0 i (omega (arith, inside, size)))) (before i inside))
    (cases_eq i n)

pub inside_more : (homes : List ℕ) (home n : ℕ) → length homes ≡ n → ((i : ℕ) → i < n → slice_index homes i < n) → home < n + 1
    → (i : ℕ) → i < n + 1 → slice_index (homes ++ home ∷ []) i < n + 1
inside_more homes home n size before here i l =
    ⊎_elim (λ (same : i ≡ n). let at : slice_index (homes ++ home ∷ []) i ≡ home = get_or_push homes home 0 i (size ∙ sym same) in omega (arith, at, here))
    (λ (other : i ≢ n).
    let inside : i < n = omega (arith, other, l) in
    let at : slice_index (homes ++ home ∷ []) i ≡ slice_index homes i = get_or_append_left homes (home ∷ []) 0 i (omega (arith, inside, size)) in
    omega (arith, at, before i inside))
    (cases_eq i n)

-- one more mark, of which something holds as of those before it
pub mark_more : (gone : List Bool) (one : Bool) (n : ℕ) (P : ℕ → Bool → Type 0) → length gone ≡ n → ((i : ℕ) → i < n → P i (is_marked gone i)) → P n one
    → (i : ℕ) → i < n + 1 → P i (is_marked (gone ++ one ∷ []) i)
mark_more gone one n P size before here i l =
    ⊎_elim (λ (same : i ≡ n).
    subst (λ (k : ℕ). P k (is_marked (gone ++ one ∷ []) k)) (sym same)
    (subst (λ (m : Bool). P n m) (sym (get_or_push gone one false n size)) here))
    (λ (other : i ≢ n).
    let inside : i < n = omega (arith, other, l) in
    subst (λ (m : Bool). P i m) (sym (get_or_append_left gone (one ∷ []) false i (omega (arith, inside, size)))) (before i inside))
    (cases_eq i n)

-- new places
pub kept_more : (gone : ℕ → Bool) (n : ℕ) → gone n ≡ false → kept_below gone (n + 1) ≡ kept_below gone n + 1
kept_more gone n kept = let next : n + 1 ≡ suc n = omega arith in rw (next, kept) refl

pub kept_same : (gone : ℕ → Bool) (n : ℕ) → gone n ≡ true → kept_below gone (n + 1) ≡ kept_below gone n
kept_same gone n is = let next : n + 1 ≡ suc n = omega arith in rw (next, is) (omega arith)

pub kept_le : (gone : ℕ → Bool) (m n : ℕ) → m ≤ n → kept_below gone m ≤ kept_below gone n
kept_le gone m n le = sum_below-fewer m n (λ i. cond (not (gone i)) 1 0) le

pub kept_lt : (gone : ℕ → Bool) (i n : ℕ) → i < n → gone i ≡ false → kept_below gone i < kept_below gone n
kept_lt gone i n l kept = omega (arith, kept_more gone i kept, kept_le gone (i + 1) n (let le : i + 1 ≤ n = omega (arith, l) in le))

-- one more directory that is kept is put to its place
pub put_more : (old before after : List Directory) (gone : List Bool) (parents heats writes inodes : List ℕ) (at kept : ℕ)
    → is_marked gone at ≡ false → kept ≡ kept_below (is_marked gone) at
    → ((i : ℕ) → i < at → is_marked gone i ≡ false → slice_get before (kept_below (is_marked gone) i) ≡ put_together old parents heats writes inodes i)
    → ((i : ℕ) → i < kept → slice_get after i ≡ slice_get before i)
    → slice_get after kept ≡ put_together old parents heats writes inodes at
    → (i : ℕ) → i < at + 1 → is_marked gone i ≡ false → slice_get after (kept_below (is_marked gone) i) ≡ put_together old parents heats writes inodes i
put_more old before after gone parents heats writes inodes at kept stays is put same here i l keeps =
    ⊎_elim (λ (last : i ≡ at).
    ap (λ (k : ℕ). slice_get after k) (ap (kept_below (is_marked gone)) last ∙ sym is) ∙ (here ∙ ap (put_together old parents heats writes inodes) (sym last)))
    (λ (other : i ≢ at).
    let inside : i < at = omega (arith, other, l) in
    same (kept_below (is_marked gone) i) (omega (arith, kept_lt (is_marked gone) i at inside keeps, is)) ∙ put i inside keeps)
    (cases_eq i at)

pub put_same : (old before : List Directory) (gone : List Bool) (parents heats writes inodes : List ℕ) (at : ℕ) → is_marked gone at ≡ true
    → ((i : ℕ) → i < at → is_marked gone i ≡ false → slice_get before (kept_below (is_marked gone) i) ≡ put_together old parents heats writes inodes i)
    → (i : ℕ) → i < at + 1 → is_marked gone i ≡ false → slice_get before (kept_below (is_marked gone) i) ≡ put_together old parents heats writes inodes i
put_same old before gone parents heats writes inodes at goes put i l keeps =
    ⊎_elim (λ (last : i ≡ at). apart (is_marked gone at) goes (sym (ap (is_marked gone) last) ∙ keeps))
    (λ (other : i ≢ at). put i (omega (arith, other, l)) keeps)
    (cases_eq i at)

slice_get_take : {X : Type 0} (xs : List X) (n i : ℕ) → i < n → slice_get (take n xs) i ≡ slice_get xs i
slice_get_take [] zero i l = refl
slice_get_take [] (suc n) i l = refl
slice_get_take (x ∷ xs) zero i l = let none : ⊥ = omega (arith, l) in absurd none
slice_get_take (x ∷ xs) (suc n) zero l = refl
slice_get_take (x ∷ xs) (suc n) (suc i) l = slice_get_take xs n i (omega (arith, l))

length_take : {X : Type 0} (xs : List X) (n : ℕ) → n ≤ length xs → length (take n xs) ≡ n
length_take [] zero le = refl
length_take [] (suc n) le = let none : ⊥ = omega (arith, le) in absurd none
length_take (x ∷ xs) zero le = refl
length_take (x ∷ xs) (suc n) le = ap suc (length_take xs n (omega (arith, le)))

take_front : {X : Type 0} (xs ys : List X) → take (length xs) (xs ++ ys) ≡ xs
take_front [] ys = refl
take_front (x ∷ xs) ys = ap (λ (zs : List _). x ∷ zs) (take_front xs ys)

-- a vector whose slice was written
pub handed_back : {X : Type 0} (xs ys : List X) (n : ℕ) → length xs ≡ n → take n (xs ++ ys) ≡ xs
handed_back xs ys n size = ap (λ (k : ℕ). take k (xs ++ ys)) (sym size) ∙ take_front xs ys

-- what is left once the places are closed up and cut
pub has_left : (ds closed left : List Directory) (gone : List Bool) (homes parents heats writes inodes : List ℕ) (kept : ℕ)
    → ((i : ℕ) → i < length ds → IsHome ds (is_marked gone) i (slice_index homes i))
    → ((i : ℕ) → i < length ds → slice_index homes i < length ds)
    → kept ≡ kept_below (is_marked gone) (length ds)
    → ((i : ℕ) → i < length ds → is_marked gone i ≡ false → slice_get closed (kept_below (is_marked gone) i) ≡ put_together ds parents heats writes inodes i)
    → ((i : ℕ) → i < length ds → slice_index parents i ≡ kept_below (is_marked gone) (slice_index homes (parent_at ds i)))
    → ((i : ℕ) → i < length ds → slice_index heats i ≡ brought (heat_at ds) (slice_index homes) (length ds) i)
    → ((i : ℕ) → i < length ds → slice_index writes i ≡ brought (writes_at ds) (slice_index homes) (length ds) i)
    → ((i : ℕ) → i < length ds → slice_index inodes i ≡ brought (inodes_at ds) (slice_index homes) (length ds) i)
    → length closed ≡ length ds → left ≡ take kept closed → HasLeft ds left (is_marked gone) (slice_index homes)
has_left ds closed left gone homes parents heats writes inodes kept nearest inside count closes ups warm wrote many all is = record {
  nearest = nearest;
  inside = inside;
  size = ap length is ∙ (length_take closed kept (omega (arith, all, count, count_below-le (length ds) (λ i. not (is_marked gone i)))) ∙ count);
  kept = λ i l keeps.
      let low : kept_below (is_marked gone) i < kept = omega (arith, kept_lt (is_marked gone) i (length ds) l keeps, count) in
      ap (λ (xs : List Directory). slice_get xs (kept_below (is_marked gone) i)) is
      ∙ (slice_get_take closed kept (kept_below (is_marked gone) i) low ∙ (closes i l keeps
      ∙ all_four (slice_get ds i) _ _ _ _ _ _ _ _ (ups i l) (warm i l) (wrote i l) (many i l)));
}
  where
    all_four : (o : Option Directory) (p q h k w v m n : ℕ) → p ≡ q → h ≡ k → w ≡ v → m ≡ n
        → option_map (with_amounts p h w m) o ≡ option_map (with_amounts q k v n) o
    all_four o p q h k w v m n up warm wrote many = rw (up, warm, wrote, many) refl

-- where each place is its own home, what comes there is its own
pub own_brought : (n i : ℕ) (f : ℕ → ℕ) → i < n → brought f (λ j. j) n i ≡ f i
own_brought n i f l =
    let own : eqb i i ≡ true = eq-eqb i i refl in
    let here : cond (eqb i i) (f i) 0 ≡ f i = rw own refl in
    sum_below-only n i (λ j. cond (eqb j i) (f j) 0) l (λ j lj other. rw (ne_eqb j i other) refl) ∙ here

-- nothing is gone
pub all_kept : (n : ℕ) → kept_below (λ i. false) n ≡ n
all_kept zero = refl
all_kept (suc n) = omega (arith, all_kept n)

same_amounts : (o : Option Directory) (parent heat writes inodes : ℕ) → parent ≡ option_map_or (λ (d : Directory). d.parent) o 0
    → heat ≡ option_map_or (λ (d : Directory). d.heat) o 0
    → writes ≡ option_map_or (λ (d : Directory). d.writes) o 0 → inodes ≡ option_map_or (λ (d : Directory). d.inodes) o 0
    → o ≡ option_map (with_amounts parent heat writes inodes) o
same_amounts None parent heat writes inodes up warm wrote many = refl
same_amounts (Some d) parent heat writes inodes up warm wrote many = rw (up, warm, wrote, many) refl

pub nothing_left : (ds : List Directory) → HasLeft ds ds (λ i. false) (λ i. i)
nothing_left ds = record {
  nearest = λ i l. home_here ds (λ i. false) i refl;
  inside = λ i l. l;
  size = sym (all_kept (length ds));
  kept = λ i l is. ap (λ (k : ℕ). slice_get ds k) (all_kept i) ∙ same_amounts (slice_get ds i) _ _ _ _ (all_kept (parent_at ds i))
      (own_brought (length ds) i (heat_at ds) l) (own_brought (length ds) i (writes_at ds) l) (own_brought (length ds) i (inodes_at ds) l);
}

pub nothing_folded : (ds : List Directory) → IsFolded ds ds
nothing_folded ds = (
  λ i. false,
  λ i. i,
  record { plain = λ i l is. apart false is refl; below = λ i some l is. apart false is refl; coldest = λ i is. apart false is refl },
  nothing_left ds,
)

-- sums over the directories that are left
sum_listed : (f : Directory → ℕ) (ds : List Directory) → sum_by f ds ≡ sum_below (length ds) (λ i. option_map_or f (slice_get ds i) 0)
sum_listed f [] = refl
sum_listed f (d ∷ ds) = sum_by-cons f d ds
    ∙ (ap (λ (k : ℕ). f d + k) (sum_listed f ds) ∙ sym (sum_front (length ds) (λ i. option_map_or f (slice_get (d ∷ ds) i) 0)))

sum_kept : (gone : ℕ → Bool) (g h : ℕ → ℕ) (n : ℕ) → ((i : ℕ) → i < n → gone i ≡ true → h i ≡ 0)
    → ((i : ℕ) → i < n → gone i ≡ false → g (kept_below gone i) ≡ h i)
    → sum_below (kept_below gone n) g ≡ sum_below n h
sum_kept gone g h zero none some = refl
sum_kept gone g h (suc n) none some =
    let before : sum_below (kept_below gone n) g ≡ sum_below n h = sum_kept gone g h n (λ i l. none i (omega (arith, l))) (λ i l. some i (omega (arith, l))) in
    ⊎_elim (λ (goes : gone n ≡ true).
    let nothing : h n ≡ 0 = none n (omega arith) goes in
    let same : kept_below gone (suc n) ≡ kept_below gone n = rw goes (omega arith) in
    rw same (omega (arith, before, nothing)))
    (λ (keeps : gone n ≡ false).
    let here : g (kept_below gone n) ≡ h n = some n (omega arith) keeps in
    let more : kept_below gone (suc n) ≡ suc (kept_below gone n) = rw keeps (omega arith) in
    rw more (omega (arith, before, here)))
    (cases_Bool (gone n))

-- each amount comes to one home
brought_all : (n : ℕ) (amount home : ℕ → ℕ) → ((i : ℕ) → i < n → home i < n) → sum_below n (brought amount home n) ≡ sum_below n amount
brought_all n amount home inside =
    sum_below-swap n n (λ there i. cond (eqb (home i) there) (amount i) 0)
    ∙ sum_below-same n (λ i. sum_below n (λ there. cond (eqb (home i) there) (amount i) 0)) amount
    (λ i l. sum_below-pick n (home i) (λ there. amount i) (inside i l))

there : (ds : List Directory) (i : ℕ) → i < length ds → (d : Directory) × (slice_get ds i ≡ Some d)
there [] i l = let none : ⊥ = omega (arith, l) in absurd none
there (d ∷ ds) zero l = (d, refl)
there (d ∷ ds) (suc i) l = there ds i (omega (arith, l))

-- each place has what came to it, which is all there was
total : (f : Directory → ℕ) (ds left : List Directory) (gone : ℕ → Bool) (home : ℕ → ℕ) → HasLeft ds left gone home
    → ((i : ℕ) → i < length ds → gone i ≡ false → option_map_or f (slice_get left (kept_below gone i)) 0
    ≡ brought (λ j. option_map_or f (slice_get ds j) 0) home (length ds) i)
    → sum_by f left ≡ sum_by f ds
total f ds left gone home has here =
    let amount : ℕ → ℕ = λ j. option_map_or f (slice_get ds j) 0 in
    sum_listed f left
    ∙ (ap (λ (m : ℕ). sum_below m (λ i. option_map_or f (slice_get left i) 0)) has.size
    ∙ (sum_kept gone (λ i. option_map_or f (slice_get left i) 0) (brought amount home (length ds)) (length ds)
    (λ i l goes. sum_below-zero (length ds) (λ j. cond (eqb (home j) i) (amount j) 0) (λ j lj.
    let apart : home j ≢ i = λ same. both_ways gone (home j) i same (has.nearest j lj).kept goes in rw (ne_eqb (home j) i apart) refl))
    here
    ∙ (brought_all (length ds) amount home has.inside ∙ sym (sum_listed f ds))))
  where
    both_ways : (gone : ℕ → Bool) (i j : ℕ) → i ≡ j → gone i ≡ false → gone j ≡ true → ⊥
    both_ways gone i j same keeps goes = apart (gone j) goes (sym (ap gone same) ∙ keeps)

pub same_heat : (ds left : List Directory) (gone : ℕ → Bool) (home : ℕ → ℕ) → HasLeft ds left gone home → all_heat left ≡ all_heat ds
same_heat ds left gone home has = total (λ d. d.heat) ds left gone home has (λ i l keeps.
    let at = there ds i l in
    ap (λ (o : Option Directory). option_map_or (λ (d : Directory). d.heat) o 0)
    (has.kept i l keeps ∙ ap (λ (o : Option Directory). option_map
    (with_amounts (kept_below gone (home (parent_at ds i))) (brought (heat_at ds) home (length ds) i)
    (brought (writes_at ds) home (length ds) i) (brought (inodes_at ds) home (length ds) i)) o) at.1))

pub same_writes : (ds left : List Directory) (gone : ℕ → Bool) (home : ℕ → ℕ) → HasLeft ds left gone home → all_writes left ≡ all_writes ds
same_writes ds left gone home has = total (λ d. d.writes) ds left gone home has (λ i l keeps.
    let at = there ds i l in
    ap (λ (o : Option Directory). option_map_or (λ (d : Directory). d.writes) o 0)
    (has.kept i l keeps ∙ ap (λ (o : Option Directory). option_map
    (with_amounts (kept_below gone (home (parent_at ds i))) (brought (heat_at ds) home (length ds) i)
    (brought (writes_at ds) home (length ds) i) (brought (inodes_at ds) home (length ds) i)) o) at.1))

pub same_inodes : (ds left : List Directory) (gone : ℕ → Bool) (home : ℕ → ℕ) → HasLeft ds left gone home → all_inodes left ≡ all_inodes ds
same_inodes ds left gone home has = total (λ d. d.inodes) ds left gone home has (λ i l keeps.
    let at = there ds i l in
    ap (λ (o : Option Directory). option_map_or (λ (d : Directory). d.inodes) o 0)
    (has.kept i l keeps ∙ ap (λ (o : Option Directory). option_map
    (with_amounts (kept_below gone (home (parent_at ds i))) (brought (heat_at ds) home (length ds) i)
    (brought (writes_at ds) home (length ds) i) (brought (inodes_at ds) home (length ds) i)) o) at.1))

-- what a directory has comes to its home
pub brought-more : (amount home : ℕ → ℕ) (sums : List ℕ) (n at sum : ℕ) → length sums ≡ n → home at < n → sum ≡ slice_index sums (home at) + amount at
    → ((there : ℕ) → there < n → slice_index sums there ≡ brought amount home at there)
    → (there : ℕ) → there < n → slice_index (set sums (home at) sum) there ≡ brought amount home (at + 1) there
brought-more amount home sums n at sum size inside is before there l =
    let came : ℕ → ℕ = λ i. cond (eqb (home i) there) (amount i) 0 in
    let more : sum_below (at + 1) came ≡ sum_below at came + came at = sum_below_more at came in
    ⊎_elim (λ (same : there ≡ home at).
    let own : eqb (home at) there ≡ true = eq-eqb (home at) there (sym same) in
    let added : came at ≡ amount at = rw own refl in
    ap (λ (k : ℕ). slice_index (set sums (home at) sum) k) same
    ∙ (get_or-set_same sums (home at) sum 0 (subst (λ (m : ℕ). home at < m) (sym size) inside)
    ∙ (is ∙ (ap (λ (k : ℕ). k + amount at) (ap (slice_index sums) (sym same) ∙ before there l)
    ∙ (ap (λ (k : ℕ). sum_below at came + k) (sym added) ∙ sym more)))))
    (λ (other : there ≢ home at).
    let away : eqb (home at) there ≡ false = ne_eqb (home at) there (λ same. other (sym same)) in
    let nothing : came at ≡ 0 = rw away refl in
    get_or-set_other sums (home at) there sum 0 other
    ∙ (before there l ∙ (sym (add-zero (sum_below at came)) ∙ (ap (λ (k : ℕ). sum_below at came + k) (sym nothing) ∙ sym more))))
    (cases_eq there (home at))

-- what comes to a home is the same where the amounts are
pub brought-alike : (one two home : ℕ → ℕ) (n there : ℕ) → ((i : ℕ) → i < n → one i ≡ two i) → brought one home n there ≡ brought two home n there
brought-alike one two home n there same =
    sum_below-same n (λ i. cond (eqb (home i) there) (one i) 0) (λ i. cond (eqb (home i) there) (two i) 0)
    (λ i l. ap (λ (k : ℕ). cond (eqb (home i) there) k 0) (same i l))
