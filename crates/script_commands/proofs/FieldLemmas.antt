-- The fields of a line, taken one by one from the front, and how many of them a command looks at.
use Rattle.std.proofs.Common.{◌≡◌, ℕ, zero, suc, ◌-◌, ◌<◌, ◌≤◌, Bool, true, false, not, List}
use Rattle.std.proofs.Common.{[], ◌∷◌, length, take, drop, refl, sym, ap, ◌∙◌, subst, arith, one-add}
use Rattle.std.specs.Prelude.{filter}
use Rattle.std.specs.List.{slice_split, onto_first, position_or_len}
use Rattle.std.proofs.lemmas.List.{take_rest}
use Rattle.std.proofs.lemmas.List.Sums.{prefix_len-le-length}
use Rattle.script_commands.specs.Commands.{is_blank, is_empty, fields}

-- the parts between the elements that pass that aren't empty
abbrev fields_at : (ℕ → Bool) → List ℕ → List (List ℕ)
fields_at p line = filter (λ part. not (is_empty part)) (slice_split p line)

-- what is in front of the first field makes no difference
after_blanks : (p : ℕ → Bool) (line : List ℕ) → fields_at p (drop (position_or_len (λ b. not (p b)) line) line) ≡ fields_at p line
after_blanks p [] = refl
after_blanks p (b ∷ line) = elim (p b) as (λ v. p b ≡ v
    → fields_at p (drop (position_or_len (λ b. not (p b)) (b ∷ line)) (b ∷ line)) ≡ fields_at p (b ∷ line)) [
      | true ↦ λ e. rw (e, one-add) (after_blanks p line)
      | false ↦ λ e. rw (e, e) refl
    ] refl

-- without a byte of a field after the blanks there is no field
no_field : (p : ℕ → Bool) (line : List ℕ) → position_or_len p (drop (position_or_len (λ b. not (p b)) line) line) ≡ 0 → fields_at p line ≡ []
no_field p [] none = refl
no_field p (b ∷ line) none = elim (p b) as (λ v. p b ≡ v → fields_at p (b ∷ line) ≡ []) [
  | true ↦ λ e. rw e (no_field p line (rw (e, one-add) at none))
  | false ↦ λ e. absurd (let some = rw (e, e) at none in omega arith)
] refl

-- only blanks have no field
all_blank : (p : ℕ → Bool) (line : List ℕ) → position_or_len (λ b. not (p b)) line ≡ length line → fields_at p line ≡ []
all_blank p [] e = refl
all_blank p (b ∷ line) e = elim (p b) as (λ v. p b ≡ v → fields_at p (b ∷ line) ≡ []) [
  | true ↦ λ t. rw t (all_blank p line (let more = rw (t, one-add) at e in omega arith))
  | false ↦ λ f. absurd (let none = rw f at e in omega arith)
] refl

-- a byte that doesn't separate fields makes one
kept_byte : (b : ℕ) (parts : List (List ℕ)) → filter (λ part. not (is_empty part)) (onto_first b parts) ≡ [] → ⊥
kept_byte b [] e = cc
kept_byte b (part ∷ parts) e = cc

without_fields : (p : ℕ → Bool) (line : List ℕ) → fields_at p line ≡ [] → position_or_len (λ b. not (p b)) line ≡ length line
without_fields p [] e = refl
without_fields p (b ∷ line) e = elim (p b) as (λ v. p b ≡ v → position_or_len (λ b. not (p b)) (b ∷ line) ≡ length (b ∷ line)) [
  | true ↦ λ t. let more = without_fields p line (rw t at e) in rw (t, one-add) (ap suc more)
  | false ↦ λ f. absurd (kept_byte b (slice_split p line) (rw f at e))
] refl

pub blank_line : (line : List ℕ) → position_or_len (λ b. not (is_blank b)) line ≡ length line → fields line ≡ []
blank_line line e = all_blank is_blank line e

pub no_fields : (line : List ℕ) → fields line ≡ [] → position_or_len (λ b. not (is_blank b)) line ≡ length line
no_fields line e = without_fields is_blank line e

-- the first part, and the parts after it
first_part : (p : ℕ → Bool) (line : List ℕ) → (parts : List (List ℕ)) × (slice_split p line ≡ take (position_or_len p line) line ∷ parts)
    × (filter (λ part. not (is_empty part)) parts ≡ fields_at p (drop (position_or_len p line) line))
first_part p [] = ([], refl, refl)
first_part p (b ∷ line) = elim (p b) as (λ v. p b ≡ v
    → (parts : List (List ℕ)) × (slice_split p (b ∷ line) ≡ take (position_or_len p (b ∷ line)) (b ∷ line) ∷ parts)
    × (filter (λ part. not (is_empty part)) parts ≡ fields_at p (drop (position_or_len p (b ∷ line)) (b ∷ line)))) [
      | true ↦ λ e. (slice_split p line, rw e refl, rw (e, e) refl)
      | false ↦ λ e. let more = first_part p line in (more.0, rw (e, one-add, more.1) refl, rw (e, one-add) more.2)
    ] refl

-- a part that isn't empty is a field
kept : (n : ℕ) (line : List ℕ) (parts : List (List ℕ)) → 0 < n → n ≤ length line
    → filter (λ part. not (is_empty part)) (take n line ∷ parts) ≡ take n line ∷ filter (λ part. not (is_empty part)) parts
kept zero line parts some fits = absurd (omega arith)
kept (suc n) [] parts some fits = absurd (omega arith)
kept (suc n) (b ∷ line) parts some fits = refl

first_kept : (p : ℕ → Bool) (line : List ℕ) → 0 < position_or_len p line
    → fields_at p line ≡ take (position_or_len p line) line ∷ fields_at p (drop (position_or_len p line) line)
first_kept p line some =
    let more = first_part p line in
    ap (filter (λ part. not (is_empty part))) more.1 ∙ kept (position_or_len p line) line more.0 some
    (prefix_len-le-length (λ b. not (p b)) line) ∙ ap (λ (parts : List (List ℕ)). take (position_or_len p line) line ∷ parts) more.2

-- what `&xs[n..]` has
abbrev tail : ℕ → List ℕ → List ℕ
tail n xs = take (length xs - n) (drop n xs)

module _ (line : List ℕ) (n k : ℕ) (blanks : n ≡ position_or_len (λ b. not (is_blank b)) line) (bytes : k ≡ position_or_len is_blank (tail n line)) where
  behind : tail n line ≡ drop (position_or_len (λ b. not (is_blank b)) line) line
  behind = take_rest line n ∙ ap (λ (m : ℕ). drop m line) blanks

  pub no_field_left : k ≡ 0 → fields line ≡ []
  no_field_left none = no_field is_blank line (ap (position_or_len is_blank) (sym behind) ∙ sym bytes ∙ none)

  pub field_and_rest : 0 < k → fields line ≡ take k (tail n line) ∷ fields (tail k (tail n line))
  field_and_rest some =
      let first = first_kept is_blank (tail n line) (subst (λ (m : ℕ). 0 < m) bytes some) in
      sym (after_blanks is_blank line) ∙ ap (fields_at is_blank) (sym behind)
      ∙ subst (λ (m : ℕ). fields (tail n line) ≡ take m (tail n line) ∷ fields (drop m (tail n line))) (sym bytes) first
      ∙ ap (λ (rest : List ℕ). take k (tail n line) ∷ fields rest) (sym (take_rest (tail n line) k))
