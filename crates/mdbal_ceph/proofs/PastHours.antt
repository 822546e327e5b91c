-- Earlier hours have a heat for each directory that is planned.
use Rattle.std.proofs.Common.{◌≡◌, ◌∙◌, ℕ, suc, All, List, [], ◌∷◌, ap, inl, inr, length, map, refl, subst, sym}
use Rattle.std.specs.Prelude.{Vec}
use Rattle.std.specs.Global.{Global}
use Rattle.std.specs.Str.Parse.{digits_value}
use Rattle.std.proofs.lemmas.List.{length-map}
use Rattle.std.proofs.lemmas.List.Elements.{All-cons, All-head, All-nil, All-tail}
use Rattle.ceph_dumps.specs.HourRecord.{blank_words, line_at}
use Rattle.ceph_dumps.specs.OneForOne.{AreOneForOne}
use Rattle.ceph_dumps.specs.OwnList.{list_lines}
use Rattle.ceph_dumps.specs.declared.hour_record.HourRecord.{HourRecord}
use Rattle.ceph_folding.specs.Folding.{AreHeatsLeft, AreHoursFolded, AreHoursOf, kept_below}
use Rattle.ceph_snapshot.specs.declared.directory.Directory.{Directory}
use Rattle.mdbal_ceph.specs.Dumps.{DumpValue}
use Rattle.mdbal_ceph.specs.Folder.{FileContent}
use Rattle.mdbal_ceph.specs.Hours.{ArePastHours}
use Rattle.mdbal_ceph.specs.Past.{AreEarlier, IsRecordOf}
use Rattle.mdbal_ceph.specs.declared.hours.PastHour.{PastHour}
use Rattle.mdbal_ceph.specs.declared.past.EarlierHour.{EarlierHour}

-- what holds of each of one list holds, by what pairs say, of each of the other
pub all_through : {A B : Type 0} (R : A → B → Type 0) (P : A → Type 0) (Q : B → Type 0) → ((x : A) (y : B) → R x y → P x → Q y)
    → (xs : List A) (ys : List B) → AreOneForOne R xs ys
    → All P xs → All Q ys
all_through R P Q step [] [] same all = All-nil Q
all_through R P Q step [] (y ∷ ys) same all = absurd same
all_through R P Q step (x ∷ xs) [] same all = absurd same
all_through R P Q step (x ∷ xs) (y ∷ ys) same all =
    All-cons Q y ys (step x y same.0 (All-head P x xs all)) (all_through R P Q step xs ys same.1 (All-tail P x xs all))

-- as many
pub same_length : {A B : Type 0} (R : A → B → Type 0) (xs : List A) (ys : List B) → AreOneForOne R xs ys → length ys ≡ length xs
same_length R [] [] same = refl
same_length R [] (y ∷ ys) same = absurd same
same_length R (x ∷ xs) [] same = absurd same
same_length R (x ∷ xs) (y ∷ ys) same = ap suc (same_length R xs ys same.1)

-- once folded, each hour has a heat for each directory that is left
pub folded_sizes : (directories left : List Directory) (hours hours_left : List (Vec ℕ Global))
    → AreHoursFolded directories left hours hours_left → AreHoursOf (length directories) hours
    → AreHoursOf (length left) hours_left
folded_sizes directories left hours hours_left folded sizes =
    all_through (λ (hour one : Vec ℕ Global). AreHeatsLeft folded.0 folded.1 hour.items one.items)
    (λ (hour : Vec ℕ Global). length hour.items ≡ length directories)
    (λ (one : Vec ℕ Global). length one.items ≡ length left)
    (λ hour one heats size. heats.size ∙ (ap (kept_below folded.0) size ∙ sym folded.2.size)) hours hours_left folded.3 sizes

-- what holds of each that is made of one list holds of what is made of another, where that comes to the same
all_of_map : {A B X : Type 0} (f : A → X) (g : B → X) (P : X → Type 0) (xs : List A) (ys : List B) → map f xs ≡ map g ys
    → All (λ y. P (g y)) ys → All (λ x. P (f x)) xs
all_of_map f g P [] ys same all = All-nil (λ x. P (f x))
all_of_map f g P (x ∷ xs) [] same all = cc
all_of_map f g P (x ∷ xs) (y ∷ ys) same all =
    let first : f x ≡ g y = cc in
    let rest : map f xs ≡ map g ys = cc in
    All-cons (λ x. P (f x)) x xs (subst P (sym first) (All-head (λ y. P (g y)) y ys all)) (all_of_map f g P xs ys rest (All-tail (λ y. P (g y)) y ys all))

pub past_sizes : (n : ℕ) (earlier : List EarlierHour) (heats : List (Vec ℕ Global)) (past : List PastHour) → ArePastHours earlier heats past
    → AreHoursOf n heats
    → All (λ (hour : PastHour). length hour.heats.items ≡ n) past
past_sizes n earlier heats past are sizes =
    all_of_map (λ (hour : PastHour). hour.heats.items) (λ (hour : Vec ℕ Global). hour.items) (λ (xs : List ℕ). length xs ≡ n) past heats are.heats_are sizes

pub past_spreads : (earlier : List EarlierHour) (heats : List (Vec ℕ Global)) (past : List PastHour) → ArePastHours earlier heats past
    → All (λ (hour : EarlierHour). length hour.kept.spread.items ≡ 64) earlier → All (λ (hour : PastHour). length hour.spread.now ≡ 64) past
past_spreads earlier heats past are sizes =
    all_of_map (λ (hour : PastHour). hour.spread.now) (λ (hour : EarlierHour). hour.kept.spread.items) (λ (xs : List ℕ). length xs ≡ 64)
    past earlier are.spread sizes

-- a record has a heat by each of 64 ranks of what was spread
spread_size : (reads : List ℕ → FileContent → Type 0) (says : List ℕ → DumpValue → Type 0) (name : List ℕ) (kept : HourRecord)
    → IsRecordOf reads says name kept → length kept.spread.items ≡ 64
spread_size reads says name kept (inl file) = ap length file.2.1.spread
    ∙ (length-map (blank_words (line_at (list_lines file.0) 2)) (digits_value 10) ∙ file.2.1.third.ranks)
spread_size reads says name kept (inr folder) = ap length folder.hour.spread ∙ folder.ranks.is.spread

pub spreads : (reads : List ℕ → FileContent → Type 0) (says : List ℕ → DumpValue → Type 0) (names : List (List ℕ))
    (earlier : List EarlierHour) → AreEarlier reads says names earlier
    → All (λ (hour : EarlierHour). length hour.kept.spread.items ≡ 64) earlier
spreads reads says names earlier are = λ k d l. spread_size reads says _ _ (are.each k d l)
