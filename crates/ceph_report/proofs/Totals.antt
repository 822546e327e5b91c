-- A number for each rank, while what goes to one of them is added.
use Rattle.std.proofs.Common.{◌≡◌, ◌≢◌, ◌<◌, ◌+◌, ◌∙◌, ℕ, List, cond, eqb, get_or, length, length-set, min}
use Rattle.std.proofs.Common.{refl, set, slice_get, suc, Option, Some, None, is_some, ap, arith, sym, ⊎_elim}
use Rattle.std.specs.Option.{option_map_or}
use Rattle.std.proofs.lemmas.Bool.{cases_eq, eq-eqb, ne_eqb}
use Rattle.std.proofs.lemmas.List.{get_or-set_other, get_or-set_same}
use Rattle.ceph_snapshot.specs.declared.directory.Directory.{Directory}
use Rattle.ceph_snapshot.specs.declared.held.Held.{Held}
use Rattle.ceph_snapshot.specs.Holding.{held_at, inodes_at, most_heat, now_at}
use Rattle.ceph_plan.specs.declared.row.PinRow.{PinRow}
use Rattle.ceph_report.specs.Amounts.{AreAmounts, going_at, going_of, inodes_from, inodes_to}
use Rattle.ceph_report.specs.Moves.{brought_by, leaving_at}
use Rattle.ceph_report.specs.Staying.{followers, follows, has_policy_at}
use Rattle.ceph_report.specs.declared.moves.Brought.{Brought}

capped : (f x : ℕ) → min most_heat (min most_heat f + x) ≡ min most_heat (f + x)
capped f x = omega arith

-- x more at one of n places
pub sums_more : (xs : List ℕ) (f g : ℕ → ℕ) (n number x y : ℕ) → length xs ≡ n → ((r : ℕ) → r < n → get_or xs r 0 ≡ min most_heat (f r))
    → number < n → y ≡ min most_heat (get_or xs number 0 + x)
    → ((r : ℕ) → g r ≡ f r + cond (eqb number r) x 0) → (r : ℕ) → r < n → get_or (set xs number y) r 0 ≡ min most_heat (g r)
sums_more xs f g n number x y size are inside is more r l =
    ⊎_elim (λ (same : number ≡ r).
    let here : get_or (set xs number y) r 0 ≡ y = ap (λ (k : ℕ). get_or (set xs number y) k 0) (sym same)
    ∙ get_or-set_same xs number y 0 (omega (arith, inside, size)) in
    let grown : g r ≡ f r + x = more r ∙ (rw (eq-eqb number r same) refl) in
    let old : get_or xs number 0 ≡ min most_heat (f r) = ap (λ (k : ℕ). get_or xs k 0) same ∙ are r l in
    here ∙ (is ∙ (ap (λ (k : ℕ). min most_heat (k + x)) old ∙ (capped (f r) x ∙ ap (λ (k : ℕ). min most_heat k) (sym grown)))))
    (λ (other : number ≢ r).
    let kept : g r ≡ f r = more r ∙ (rw (ne_eqb number r other) (omega arith)) in
    get_or-set_other xs number r y 0 (λ e. other (sym e)) ∙ (are r l ∙ ap (λ (k : ℕ). min most_heat k) (sym kept)))
    (cases_eq number r)

-- x more at one rank
pub amounts_more : (xs : List ℕ) (f g : ℕ → ℕ) (number x y : ℕ) → AreAmounts xs f → number < 64 → y ≡ min most_heat (get_or xs number 0 + x)
    → ((r : ℕ) → g r ≡ f r + cond (eqb number r) x 0) → AreAmounts (set xs number y) g
amounts_more xs f g number x y are inside is more = record {
  size = length-set xs number y ∙ are.size;
  at = sums_more xs f g 64 number x y are.size are.at inside is more;
}

-- what one directory more adds
pub to_step : (directories : List Directory) (holds : List Held) (goals : List ℕ) (r at number more : ℕ) → number ≡ get_or goals at 0
    → more ≡ going_at directories holds goals at
    → inodes_to directories holds goals r (at + 1) ≡ inodes_to directories holds goals r at + cond (eqb number r) more 0
to_step directories holds goals r at number more is amount =
    let next : at + 1 ≡ suc at = omega arith in
    rw (next, is, amount) refl

pub from_step : (directories : List Directory) (holds : List Held) (goals : List ℕ) (r at number more : ℕ) → number ≡ now_at directories at
    → more ≡ going_at directories holds goals at
    → inodes_from directories holds goals r (at + 1) ≡ inodes_from directories holds goals r at + cond (eqb number r) more 0
from_step directories holds goals r at number more is amount =
    let next : at + 1 ≡ suc at = omega arith in
    rw (next, is, amount) refl

-- what a directory is at its place
pub now_is : (directories : List Directory) (at : ℕ) (directory : Directory) → slice_get directories at ≡ Some directory → directory.now ≡ now_at directories at
now_is directories at directory read = sym (ap (λ (found : Option Directory). option_map_or (λ (d : Directory). d.now) found 0) read)

inodes_is : (directories : List Directory) (at : ℕ) (directory : Directory) → slice_get directories at ≡ Some directory
    → directory.inodes ≡ inodes_at directories at
inodes_is directories at directory read = sym (ap (λ (found : Option Directory). option_map_or (λ (d : Directory). d.inodes) found 0) read)

pub going_is : (directories : List Directory) (holds : List Held) (goals : List ℕ) (at : ℕ) (directory : Directory) (hold : Held) (goal : ℕ)
    → slice_get directories at ≡ Some directory → hold ≡ held_at holds at
    → goal ≡ get_or goals at 0 → going_of directory.now hold goal directory.inodes ≡ going_at directories holds goals at
going_is directories holds goals at directory hold goal read held to =
    ap (λ (n : ℕ). going_of n hold goal directory.inodes) (now_is directories at directory read)
    ∙ (ap (λ (n : ℕ). going_of (now_at directories at) hold goal n) (inodes_is directories at directory read)
    ∙ (ap (λ (h : Held). going_of (now_at directories at) h goal (inodes_at directories at)) held
    ∙ ap (λ (g : ℕ). going_of (now_at directories at) (held_at holds at) g (inodes_at directories at)) to))

-- what one directory more adds to what a pin brings
pub brought_step : (what : Brought) (directories : List Directory) (holds : List Held) (rows : List PinRow) (leaders : List ℕ)
    (r at leader more : ℕ) → leader ≡ get_or leaders at 0
    → more ≡ leaving_at what directories holds rows at
    → brought_by what directories holds rows leaders (at + 1) r ≡ brought_by what directories holds rows leaders at r + cond (eqb leader r) more 0
brought_step what directories holds rows leaders r at leader more is amount =
    let next : at + 1 ≡ suc at = omega arith in
    rw (next, is, amount) refl

-- what one directory more adds to those that another leads
pub followers_step : (leaders : List ℕ) (r at leader more : ℕ) → leader ≡ get_or leaders at 0 → more ≡ follows leaders at
    → followers leaders (at + 1) r ≡ followers leaders at r + cond (eqb leader r) more 0
followers_step leaders r at leader more is amount =
    let next : at + 1 ≡ suc at = omega arith in
    rw (next, is, amount) refl

pub policy_is : (directories : List Directory) (at : ℕ) (directory : Directory) → slice_get directories at ≡ Some directory
    → is_some directory.policy ≡ has_policy_at directories at
policy_is directories at directory read = sym (ap (λ (found : Option Directory). is_some (option_map_or (λ (d : Directory). d.policy) found None)) read)
