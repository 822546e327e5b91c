use Rattle.std.proofs.Common.{◌≡◌, ◌∙◌, ◌<◌, ◌≤◌, ◌+◌, ◌++◌, ℕ, Bool, true, false, List, Option}
use Rattle.std.proofs.Common.{Some, None, ap, arith, drop, get_or, length, length-append, refl, subst, sym, ⊎_elim}
use Rattle.std.proofs.Math.Seq.{drop-append_seam}
use Rattle.std.proofs.lemmas.Bool.{both_ways, cases_lt, eqb-true}
use Rattle.std.proofs.lemmas.List.{get_or_append_left, get_or-append-add}
use Rattle.ceph_dumps.specs.Balancer.{IsInterval, flag_text, is_digit}
use Rattle.ceph_dumps.proofs.balancer.read_balancer.Goals as goal
use Rattle.ceph_dumps.proofs.balancer.read_balancer.Goals.{in_default-via-in-Some+else-not-is_empty, in_default-via-in_default}

-- a line begins after the interval
newline : (flag : Option Bool) → get_or (flag_text flag) 0 0 ≡ 10
newline None = refl
newline (Some true) = refl
newline (Some false) = refl

some_flag : (flag : Option Bool) → 0 < length (flag_text flag)
some_flag None = omega arith
some_flag (Some true) = omega arith
some_flag (Some false) = omega arith

-- so the digits that the text begins with are the interval
whole : (interval : List ℕ) (flag : Option Bool) (n : ℕ) → IsInterval interval → n ≤ length (interval ++ flag_text flag)
    → ((i : ℕ) → i < n → is_digit (get_or (interval ++ flag_text flag) i 0) ≡ true)
    → (n < length (interval ++ flag_text flag) → is_digit (get_or (interval ++ flag_text flag) n 0) ≡ false) → n ≡ length interval
whole interval flag n seconds inside digits end =
    let text : List ℕ = interval ++ flag_text flag in
    let long : length interval < length text = simp length-append (omega (arith, some_flag flag)) in
    let after : get_or text (length interval + 0) 0 ≡ 10 = get_or-append-add interval (flag_text flag) 0 0 ∙ newline flag in
    let there : get_or text (length interval) 0 ≡ 10 =
    ap (λ (k : ℕ). get_or text k 0) (let same : length interval ≡ length interval + 0 = omega arith in same) ∙ after in
    ⊎_elim (λ (short : n < length interval).
    absurd (both_ways (is_digit (get_or text n 0)) (end (omega (arith, short, long)))
    (ap is_digit (get_or_append_left interval (flag_text flag) 0 n short) ∙ seconds.digits n short)))
    (λ (rest : length interval ≤ n).
    ⊎_elim (λ (past : length interval < n).
    absurd (both_ways (is_digit (get_or text (length interval) 0)) (ap is_digit there) (digits (length interval) past)))
    (λ (low : n ≤ length interval). omega (arith, rest, low))
    (cases_lt (length interval) n))
    (cases_lt n (length interval))

pub returns-in_default-clause-refused : goal.returns-in_default-clause-refused
returns-in_default-clause-refused c = (
  refl,
  λ is_on is.
      let n : ℕ = c.digit_count.result in
      let h = c.split_at.ensures in
      let at : n ≡ length is.interval =
      whole is.interval is.flag n is.seconds (subst (λ (text : List ℕ). n ≤ length text) is.is c.digit_count.ensures.inside)
      (subst (λ (text : List ℕ). (i : ℕ) → i < n → is_digit (get_or text i 0) ≡ true) is.is c.digit_count.ensures.digits)
      (subst (λ (text : List ℕ). n < length text → is_digit (get_or text n 0) ≡ false) is.is c.digit_count.ensures.end) in
      let rest : c.split_at.result.1.now ≡ flag_text is.flag =
      h.back ∙ (ap (λ (k : ℕ). drop k c.args.bytes.now) at ∙ (ap (drop (length is.interval)) is.is ∙ drop-append_seam is.interval (flag_text is.flag))) in
      elim c.in_default.branch [
        | in_default-via-in-Some+else-not-is_empty w ↦
            omega (arith, eqb-true _ _ (sym w.is_empty.ensures ∙ w.if-not-is_empty.false), h.front_len, at, is.seconds.some)
        | in_default-via-in_default w ↦ w.in_default.ensures is.flag rest
      ],
)
