-- Texts that grow line by line.
use Rattle.std.proofs.Common.{◌≡◌, ◌∙◌, ◌+◌, ◌≤◌, ℕ, suc, Bool, true, false, cond, List, ◌++◌, ap, sym, arith, append_assoc, append-nil}
use Rattle.mds_types.specs.Sums.{count_below}
use Rattle.ceph_report.specs.Text.{lines_below}

pub below_none : (line : ℕ → List ℕ) (old : List ℕ) → old ≡ old ++ lines_below line 0
unfolding lines_below
below_none line old = sym (append-nil old)

-- one more line
pub below_more : (line : ℕ → List ℕ) (old before after : List ℕ) (i : ℕ) → before ≡ old ++ lines_below line i → after ≡ before ++ line i
    → after ≡ old ++ lines_below line (i + 1)
unfolding lines_below
below_more line old before after i was more =
    let next : i + 1 ≡ suc i = omega arith in
    more ∙ (ap (λ (text : List ℕ). text ++ line i) was
    ∙ (append_assoc old (lines_below line i) (line i) ∙ ap (λ (n : ℕ). old ++ lines_below line n) (sym next)))

-- all lines, after a head
pub below_all : (line : ℕ → List ℕ) (old head before after : List ℕ) (i n : ℕ) → before ≡ old ++ head → after ≡ before ++ lines_below line i
    → i ≡ n → after ≡ old ++ (head ++ lines_below line n)
below_all line old head before after i n was more same =
    more ∙ (ap (λ (text : List ℕ). text ++ lines_below line i) was
    ∙ (append_assoc old head (lines_below line i) ∙ ap (λ (k : ℕ). old ++ (head ++ lines_below line k)) same))

-- all lines, and a foot
pub below_foot : (line : ℕ → List ℕ) (old before after foot : List ℕ) (i n : ℕ) → before ≡ old ++ lines_below line i → i ≡ n
    → after ≡ before ++ foot → after ≡ old ++ (lines_below line n ++ foot)
below_foot line old before after foot i n was same more =
    more ∙ (ap (λ (text : List ℕ). text ++ foot) was ∙ (append_assoc old (lines_below line i) foot ∙ ap (λ (k : ℕ). old ++ (lines_below line k ++ foot)) same))

pub below_same : (line : ℕ → List ℕ) (old after : List ℕ) (i n : ℕ) → after ≡ old ++ lines_below line i → i ≡ n → after ≡ old ++ lines_below line n
below_same line old after i n was same = was ∙ ap (λ (k : ℕ). old ++ lines_below line k) same

-- all lines, between a head and a foot
pub below_framed : (line : ℕ → List ℕ) (old head before middle after foot : List ℕ) (i n : ℕ) → before ≡ old ++ head
    → middle ≡ before ++ lines_below line i → i ≡ n → after ≡ middle ++ foot
    → after ≡ old ++ (head ++ (lines_below line n ++ foot))
below_framed line old head before middle after foot i n was more same last =
    below_foot line before middle after foot i n more same last
    ∙ (ap (λ (text : List ℕ). text ++ (lines_below line n ++ foot)) was ∙ append_assoc old head (lines_below line n ++ foot))

-- one more is counted, or not
pub counted : (p : ℕ → Bool) (i n before : ℕ) → before ≡ count_below i p → n ≡ before + cond (p i) 1 0 → n ≡ count_below (i + 1) p
counted p i n before was is =
    let next : i + 1 ≡ suc i = omega arith in
    rw next (is ∙ ap (λ (k : ℕ). k + cond (p i) 1 0) was)

pub few_more : (one : Bool) (i n before : ℕ) → before ≤ i → n ≡ before + cond one 1 0 → n ≤ i + 1
few_more true i n before few is = omega arith
few_more false i n before few is = omega arith
