-- What is written is read again, whatever comes after it.
use Rattle.std.proofs.Common.{◌≡◌, ◌∙◌, ℕ, suc, ◌-◌, ◌<◌, ◌≤◌, ◌^◌, ◌==◌, Bool, true, false, cond, List, []}
use Rattle.std.proofs.Common.{◌∷◌, ◌++◌, All, codes, length, refl, sym, ap, subst, arith, append_assoc, Option, Some, None}
use Rattle.std.specs.Prelude.{decimal, ℤ, nat_le, nat_lt, IfSome, is_some}
use Rattle.std.specs.Fmt.{digits, signed_decimal}
use Rattle.std.specs.Option.{option_and_then}
use Rattle.std.specs.List.{flat_map, after_first, before_first}
use Rattle.std.proofs.lemmas.Bool.{le-leb}
use Rattle.std.proofs.lemmas.List.Elements.{All-head, All-tail}
use Rattle.std.proofs.lemmas.Option.{none-some, some_pair_parts}
use Rattle.mds_types.specs.declared.cut_proof.CutProof.{CutProof}
use Rattle.mds_types.specs.declared.cut_proof.CutProof.TheVariants.{Zero, Heavy, Table}
use Rattle.mds_types.specs.declared.cut_proof.Row.{Row}
use Rattle.mds_types.specs.declared.problem.ProblemRow.{ProblemRow}
use Rattle.mds_types.specs.DualProof.{DualData}
use Rattle.mds_types.specs.Plan.{PlanData}
use Rattle.mds_types.specs.declared.problem.ProblemError.{ProblemError}
use Rattle.mds_types.specs.declared.problem.ProblemError.TheVariants.{TooMany, NoRanks, BadParent, TooHot}
use Rattle.mds_types.specs.Problem.{IsFirstFault, IsProblem, ProblemData, parent_at}
use Rattle.plan_text.specs.declared.certificate.Certificate.{Certificate}
use Rattle.plan_text.specs.declared.parser.Fault.{Fault}
use Rattle.plan_text.specs.declared.parser.Fault.TheVariants.{Memory, Expected}
use Rattle.plan_text.specs.Fields.{Read, ends_field, mask_in, name_in, signed_in, read_value, behind_word}
use Rattle.plan_text.specs.RowNames.{IsRowName}
use Rattle.plan_text.specs.Reading.{Fails, IsMemory, read_cell, read_cells, read_counted, read_cut, cut_of, read_dual, read_end}
use Rattle.plan_text.specs.Reading.{read_first, read_heavy, read_label, read_lines, read_mask, read_name, read_names, read_number, read_plan}
use Rattle.plan_text.specs.Reading.{read_price, read_rank, read_ranks, read_row, read_table, version_of, with_front}
use Rattle.plan_text.specs.Text.{cell_line, cut_lines, head_lines, line, mask_line, name_line, number_line, label_line}
use Rattle.plan_text.specs.Text.{whole_plan_lines, price_line, problem_lines, rank_line, row_line, table, text}
use Rattle.plan_text.specs.Writable.{FitsCell, FitsCut, FitsList, FitsPart, FitsPlan, FitsPrice, FitsProblem, FitsRank, FitsRow, IsWritable}
use Rattle.plan_text.proofs.FieldLemmas.{field_left, left, line_left, mask_again, number_left, signed_again, then_reads, value_left}
use Rattle.plan_text.proofs.LineSame.{IsField, hex_field, signed_field}
use Rattle.plan_text.proofs.NameLemmas.{row_name_again, row_name_field}

abbrev pub Again : {A : Type 0} → (A → Type 0) → (A → List ℕ) → (List ℕ → Read A) → Type 0
Again {A} fits written at = (x : A) (more : List ℕ) → fits x → at (written x ++ more) ≡ Some (x, more)

row_from : (text rest t u v more : List ℕ) (parent heat inodes now : ℕ) → behind_word (codes "row") text ≡ Some rest
    → read_number 32 rest ≡ Some (parent, t) → read_number 64 t ≡ Some (heat, u) → read_number 32 u ≡ Some (inodes, v)
    → read_number 6 v ≡ Some (now, more)
    → read_row text ≡ Some (record { parent = parent; heat = heat; inodes = inodes; now = now }, more)
unfolding read_row
row_from text rest t u v more parent heat inodes now w p h i n = rw (w, p, h, i, n) refl

row_again : Again FitsRow row_line read_row
row_again row more f =
    let heat = decimal row.heat ∷ decimal row.inodes ∷ decimal row.now ∷ [] in
    let inodes = decimal row.inodes ∷ decimal row.now ∷ [] in
    let now = decimal row.now ∷ [] in
    row_from _ _ _ _ _ _ _ _ _ _
    (line_left (codes "row") (decimal row.parent ∷ heat) more refl)
    (number_left (2 ^ 32 - 1) row.parent heat more (omega (arith, f.parent)) (omega arith))
    (number_left (2 ^ 64 - 1) row.heat inodes more (omega (arith, f.heat)) (omega arith))
    (number_left (2 ^ 32 - 1) row.inodes now more (omega (arith, f.inodes)) (omega arith))
    (number_left (2 ^ 6 - 1) row.now [] more (omega (arith, f.now)) (omega arith))

label_from : (text rest more : List ℕ) (part : ℕ) → behind_word (codes "part") text ≡ Some rest → read_number 32 rest ≡ Some (part, more)
    → read_label text ≡ Some (part, more)
unfolding read_label
label_from text rest more part w n = rw (w, n) refl

label_again : Again FitsPart label_line read_label
label_again part more f =
    label_from _ _ _ _ (line_left (codes "part") (decimal part ∷ []) more refl) (number_left (2 ^ 32 - 1) part [] more (omega (arith, f)) (omega arith))

rank_from : (text rest more : List ℕ) (rank : ℕ) → behind_word (codes "rank") text ≡ Some rest → read_number 6 rest ≡ Some (rank, more)
    → read_rank text ≡ Some (rank, more)
unfolding read_rank
rank_from text rest more rank w n = rw (w, n) refl

rank_again : Again FitsRank rank_line read_rank
rank_again rank more f =
    rank_from _ _ _ _ (line_left (codes "rank") (decimal rank ∷ []) more refl) (number_left (2 ^ 6 - 1) rank [] more (omega (arith, f)) (omega arith))

cell_from : (text word t u v more : List ℕ) (cuts rest price cut : ℕ) → behind_word (codes "cell") text ≡ Some word
    → read_number 32 word ≡ Some (cuts, t) → read_number 64 t ≡ Some (rest, u) → read_number 64 u ≡ Some (price, v)
    → read_number 1 v ≡ Some (cut, more)
    → read_cell text ≡ Some (record { rest = rest; price = price; cuts = cuts; cut = cut == 1 }, more)
unfolding read_cell
cell_from text word t u v more cuts rest price cut w c r p b = rw (w, c, r, p, b) refl

bit_small : (cut : Bool) → cond cut 1 0 ≤ 2 ^ 1 - 1
bit_small true = omega arith
bit_small false = omega arith

bit_read : (cut : Bool) → (cond cut 1 0 == 1) ≡ cut
bit_read true = refl
bit_read false = refl

cell_again : Again FitsCell cell_line read_cell
cell_again row more f =
    let bit : ℕ = cond row.cut 1 0 in
    let rest = decimal row.rest ∷ decimal row.price ∷ decimal bit ∷ [] in
    let price = decimal row.price ∷ decimal bit ∷ [] in
    let cut = decimal bit ∷ [] in
    cell_from _ _ _ _ _ _ _ _ _ _
    (line_left (codes "cell") (decimal row.cuts ∷ rest) more refl)
    (number_left (2 ^ 32 - 1) row.cuts rest more (omega (arith, f.cuts)) (omega arith))
    (number_left (2 ^ 64 - 1) row.rest price more (omega (arith, f.rest)) (omega arith))
    (number_left (2 ^ 64 - 1) row.price cut more (omega (arith, f.price)) (omega arith))
    (number_left (2 ^ 1 - 1) bit [] more (bit_small row.cut) (omega arith))
    ∙ ap (λ (b : Bool). Some (record { rest = row.rest; price = row.price; cuts = row.cuts; cut = b }, more)) (bit_read row.cut)

price_from : (text rest more : List ℕ) (price : ℤ) → behind_word (codes "price") text ≡ Some rest
    → read_value signed_in rest ≡ Some (price, more) → read_price text ≡ Some (price, more)
unfolding read_price
price_from text rest more price w n = rw (w, n) refl

price_again : Again FitsPrice price_line read_price
price_again price more f =
    price_from _ _ _ _ (line_left (codes "price") (signed_decimal price ∷ []) more refl)
    (value_left signed_in price (signed_decimal price) [] more (signed_field price f) (signed_again price f))

-- one line more, no line where there is to be one, and the end
pub lines_next : {A : Type 0} (one : List ℕ → Read A) (front : List A) (x : A) (n m : ℕ) (text more : List ℕ) → n ≡ suc m
    → one text ≡ Some (x, more) → with_front front (read_lines one n text) ≡ with_front (front ++ x ∷ []) (read_lines one m more)
lines_next {A} one front x n m bytes more count is =
    ap (λ (k : ℕ). with_front front (read_lines one k bytes)) count
    ∙ (ap (with_front front) (then_reads (one bytes) (x, more) _ (with_front (x ∷ []) (read_lines one m more)) is refl)
    ∙ in_front (read_lines one m more))
  where
    in_front : (r : Read (List A)) → with_front front (with_front (x ∷ []) r) ≡ with_front (front ++ x ∷ []) r
    in_front None = refl
    in_front (Some found) = ap (λ (xs : List A). Some (xs, found.1)) (sym (append_assoc front (x ∷ []) found.0))

pub lines_none : {A : Type 0} (one : List ℕ → Read A) (front : List A) (n m : ℕ) (text : List ℕ) → n ≡ suc m → one text ≡ None
    → with_front front (read_lines one n text) ≡ None
lines_none one front n m bytes count is =
    ap (λ (k : ℕ). with_front front (read_lines one k bytes)) count
    ∙ ap (λ r. with_front front (option_and_then (λ first. option_and_then (λ more. Some (first.0 ∷ more.0, more.1)) (read_lines one m first.1)) r)) is

counted_from : (name text rest more : List ℕ) (n : ℕ) → behind_word name text ≡ Some rest → read_number 64 rest ≡ Some (n, more)
    → read_counted name text ≡ Some (n, more)
unfolding read_counted
counted_from name bytes rest more n w e = rw (w, e) refl

counted_again : (name : List ℕ) → IsField name → Again (λ n. n < 2 ^ 64) (number_line name) (read_counted name)
counted_again name field n more f =
    counted_from name _ _ _ _ (line_left name (decimal n ∷ []) more field) (number_left (2 ^ 64 - 1) n [] more (omega arith) (omega arith))

table_from : {A : Type 0} (name : List ℕ) (at : List ℕ → Read A) (text rest more : List ℕ) (n : ℕ) (xs : List A)
    → read_counted name text ≡ Some (n, rest) → read_lines at n rest ≡ Some (xs, more) → read_table name at text ≡ Some (xs, more)
unfolding read_table
table_from name at bytes rest more n xs c e = rw c e

module _ {A : Type 0} (fits : A → Type 0) (written : A → List ℕ) (at : List ℕ → Read A) (one : Again fits written at) where
  pub lines_again : (xs : List A) (more : List ℕ) → All fits xs → read_lines at (length xs) (flat_map written xs ++ more) ≡ Some (xs, more)
  lines_again [] more f = refl
  lines_again (x ∷ xs) more f =
      let behind : List ℕ = flat_map written xs ++ more in
      let first : at (flat_map written (x ∷ xs) ++ more) ≡ Some (x, behind) = ap at (append_assoc (written x) (flat_map written xs) more)
      ∙ one x behind (All-head fits x xs f) in
      let others = lines_again xs more (All-tail fits x xs f) in
      rw first (rw others refl)

  pub table_again : (name : List ℕ) → IsField name → Again (FitsList fits) (table name written) (read_table name at)
  table_again name field xs more f =
      table_from name at (table name written xs ++ more) (flat_map written xs ++ more) more (length xs) xs
      (ap (read_counted name) (append_assoc (number_line name (length xs)) (flat_map written xs) more)
      ∙ counted_again name field (length xs) (flat_map written xs ++ more) f.short)
      (lines_again xs more f.all)

parts_again : Again (FitsList FitsPart) (table (codes "parts") label_line) (read_table (codes "parts") read_label)
parts_again = table_again FitsPart label_line read_label label_again (codes "parts") refl

rank_table_again : Again (FitsList FitsRank) (table (codes "ranks") rank_line) (read_table (codes "ranks") read_rank)
rank_table_again = table_again FitsRank rank_line read_rank rank_again (codes "ranks") refl

cells_table_again : Again (FitsList FitsCell) (table (codes "cells") cell_line) (read_table (codes "cells") read_cell)
cells_table_again = table_again FitsCell cell_line read_cell cell_again (codes "cells") refl

part_prices_again : Again (FitsList FitsPrice) (table (codes "part_prices") price_line) (read_table (codes "part_prices") read_price)
part_prices_again = table_again FitsPrice price_line read_price price_again (codes "part_prices") refl

rank_prices_again : Again (FitsList FitsPrice) (table (codes "rank_prices") price_line) (read_table (codes "rank_prices") read_price)
rank_prices_again = table_again FitsPrice price_line read_price price_again (codes "rank_prices") refl

rows_again : Again (FitsList FitsRow) (table (codes "rows") row_line) (read_table (codes "rows") read_row)
rows_again = table_again FitsRow row_line read_row row_again (codes "rows") refl

mask_from : (text rest more : List ℕ) (ranks : ℕ) → behind_word (codes "mask") text ≡ Some rest
    → read_value mask_in rest ≡ Some (ranks, more) → read_mask text ≡ Some (ranks, more)
unfolding read_mask
mask_from bytes rest more ranks w n = rw (w, n) refl

mask_field : (ranks : ℕ) → ranks < 2 ^ 64 → IsField (codes "0x" ++ digits 16 false ranks)
mask_field ranks f = hex_field ranks f

mask_line_again : Again (λ ranks. ranks < 2 ^ 64) mask_line read_mask
mask_line_again ranks more f =
    let field : List ℕ = codes "0x" ++ digits 16 false ranks in
    mask_from _ _ _ _ (line_left (codes "mask") (field ∷ []) more refl) (value_left mask_in ranks field [] more (mask_field ranks f) (mask_again ranks f))

ranks_from : (text more : List ℕ) (ranks : List ℕ) → read_table (codes "ranks") read_rank text ≡ Some (ranks, more)
    → nat_le (length ranks) 64 ≡ true → read_ranks text ≡ Some (ranks, more)
unfolding read_ranks
ranks_from bytes more ranks t few = rw (t, few) refl

heavy_from : (text more : List ℕ) (row : ℕ) → read_number 32 text ≡ Some (row, more) → read_heavy text ≡ Some (Heavy row, more)
unfolding read_heavy
heavy_from bytes more row n = rw n refl

cells_from : (text more : List ℕ) (rows : List Row) → read_table (codes "cells") read_cell text ≡ Some (rows, more) → read_cells text ≡ Some (Table rows, more)
unfolding read_cells
cells_from bytes more rows t = rw t refl

cut_from : (text rest kind more : List ℕ) (cut : Option (CutProof × List ℕ)) → behind_word (codes "cut") text ≡ Some rest
    → before_first ends_field rest ≡ kind → after_first ends_field rest ≡ more → cut_of kind more ≡ cut → read_cut text ≡ cut
unfolding read_cut
cut_from bytes rest kind more cut w k m c = rw (w, k, m) c

zero_of : (rest : List ℕ) → cut_of (codes "zero") rest ≡ Some (Zero, rest)
unfolding cut_of
zero_of rest = refl

heavy_of : (rest : List ℕ) → cut_of (codes "heavy") rest ≡ read_heavy rest
unfolding cut_of
heavy_of rest = refl

table_of : (rest : List ℕ) → cut_of (codes "table") rest ≡ read_cells rest
unfolding cut_of
table_of rest = refl

cut_again : Again FitsCut cut_lines read_cut
cut_again Zero more f =
    let kind = field_left (codes "zero") [] more refl in
    cut_from _ _ _ _ _ (line_left (codes "cut") (codes "zero" ∷ []) more refl) kind.0 kind.1 (zero_of more)
cut_again (Heavy row) more f =
    let kind = field_left (codes "heavy") (decimal row ∷ []) more refl in
    cut_from _ _ _ _ _ (line_left (codes "cut") (codes "heavy" ∷ decimal row ∷ []) more refl) kind.0 kind.1
    (heavy_of _ ∙ heavy_from _ _ _ (number_left (2 ^ 32 - 1) row [] more (omega (arith, f)) (omega arith)))
cut_again (Table rows) more f =
    let cells : List ℕ = table (codes "cells") cell_line rows in
    let kind = field_left (codes "table") [] (cells ++ more) refl in
    ap read_cut (append_assoc (line (codes "cut") (codes "table" ∷ [])) cells more)
    ∙ cut_from _ _ _ _ _ (line_left (codes "cut") (codes "table" ∷ []) (cells ++ more) refl) kind.0 kind.1
    (table_of _ ∙ cells_from _ _ _ (cells_table_again rows more f))

dual_from : (text t more : List ℕ) (parts ranks : List ℤ) → read_table (codes "part_prices") read_price text ≡ Some (parts, t)
    → read_table (codes "rank_prices") read_price t ≡ Some (ranks, more)
    → read_dual text ≡ Some (record { part_price = parts; rank_price = ranks }, more)
unfolding read_dual
dual_from bytes t more parts ranks p r = rw (p, r) refl

plan_from : (text a b c d e more : List ℕ) (part rank : List ℕ) (greatest moved : ℕ) (cut : CutProof) (dual : DualData)
    → read_table (codes "parts") read_label text ≡ Some (part, a) → read_ranks a ≡ Some (rank, b)
    → read_counted (codes "greatest") b ≡ Some (greatest, c) → read_counted (codes "moved") c ≡ Some (moved, d)
    → read_cut d ≡ Some (cut, e) → read_dual e ≡ Some (dual, more)
    → read_plan text ≡ Some (record { part = part; rank = rank; greatest = greatest; moved = moved; cut = cut; dual = dual }, more)
unfolding read_plan
plan_from bytes a b c d e more part rank greatest moved cut dual p r g m k u = rw (p, r, g, m, k, u) refl

-- seven parts of a text and what comes after them
seven : (a b c d e f g more : List ℕ) → ((a ++ b) ++ (c ++ d) ++ e ++ (f ++ g)) ++ more ≡ a ++ (b ++ (c ++ (d ++ (e ++ (f ++ (g ++ more))))))
seven a b c d e f g more = simp append_assoc

pub plan_again : Again FitsPlan whole_plan_lines read_plan
plan_again plan more f =
    let b : List ℕ = table (codes "ranks") rank_line plan.rank in
    let c : List ℕ = number_line (codes "greatest") plan.greatest in
    let d : List ℕ = number_line (codes "moved") plan.moved in
    let e : List ℕ = cut_lines plan.cut in
    let u : List ℕ = table (codes "part_prices") price_line plan.dual.part_price in
    let v : List ℕ = table (codes "rank_prices") price_line plan.dual.rank_price in
    ap read_plan (seven (table (codes "parts") label_line plan.part) b c d e u v more)
    ∙ plan_from _ _ _ _ _ _ _ _ _ _ _ _ _
    (parts_again plan.part (b ++ (c ++ (d ++ (e ++ (u ++ (v ++ more)))))) f.part)
    (ranks_from _ _ _ (rank_table_again plan.rank (c ++ (d ++ (e ++ (u ++ (v ++ more))))) f.rank) (le-leb (length plan.rank) 64 f.few))
    (counted_again (codes "greatest") refl plan.greatest (d ++ (e ++ (u ++ (v ++ more)))) f.greatest)
    (counted_again (codes "moved") refl plan.moved (e ++ (u ++ (v ++ more))) f.moved)
    (cut_again plan.cut (u ++ (v ++ more)) f.cut)
    (dual_from _ _ _ _ _ (part_prices_again plan.dual.part_price (v ++ more) f.part_price) (rank_prices_again plan.dual.rank_price more f.rank_price))

first_from : (text rest version more : List ℕ) (first : Option (Bool × List ℕ)) → behind_word (codes "certificate") text ≡ Some rest
    → before_first ends_field rest ≡ version → after_first ends_field rest ≡ more → version_of version more ≡ first
    → read_first text ≡ first
unfolding read_first
first_from bytes rest version more first w v m f = rw (w, v, m) f

version_1 : (rest : List ℕ) → version_of (codes "1") rest ≡ Some (false, rest)
unfolding version_of
version_1 rest = refl

version_2 : (rest : List ℕ) → version_of (codes "2") rest ≡ Some (true, rest)
unfolding version_of
version_2 rest = refl

first_again : (version : List ℕ) (is_named : Bool) (more : List ℕ) → IsField version → version_of version more ≡ Some (is_named, more)
    → read_first (line (codes "certificate") (version ∷ []) ++ more) ≡ Some (is_named, more)
first_again version is_named more field is =
    let own = field_left version [] more field in
    first_from _ _ _ _ _ (line_left (codes "certificate") (version ∷ []) more refl) own.0 own.1 is

-- the lines of the names
abbrev pub name_lines : Option (List (List ℕ)) → List ℕ
name_lines None = []
name_lines (Some names) = flat_map name_line names

head_first : (problem : ProblemData) (names : Option (List (List ℕ))) (more : List ℕ)
    → read_first (head_lines problem names ++ more) ≡ Some (is_some names, problem_lines problem ++ (name_lines names ++ more))
head_first problem None more =
    let first : List ℕ = line (codes "certificate") (codes "1" ∷ []) in
    ap read_first (append_assoc first (problem_lines problem) more)
    ∙ first_again (codes "1") false (problem_lines problem ++ more) refl (version_1 (problem_lines problem ++ more))
head_first problem (Some names) more =
    let first : List ℕ = line (codes "certificate") (codes "2" ∷ []) in
    let rest : List ℕ = problem_lines problem ++ flat_map name_line names in
    ap read_first (append_assoc first rest more)
    ∙ (first_again (codes "2") true (rest ++ more) refl (version_2 (rest ++ more))
    ∙ ap (λ (t : List ℕ). Some (true, t)) (append_assoc (problem_lines problem) (flat_map name_line names) more))

name_from : (text rest more name : List ℕ) → behind_word (codes "name") text ≡ Some rest → read_value name_in rest ≡ Some (name, more)
    → read_name text ≡ Some (name, more)
unfolding read_name
name_from bytes rest more name w n = rw w n

name_again : Again IsRowName name_line read_name
name_again name more f =
    name_from _ _ _ _ (line_left (codes "name") (name ∷ []) more refl) (value_left name_in name name [] more (row_name_field name f) (row_name_again name f))

-- the names of as many rows
pub names_again : (names : Option (List (List ℕ))) (rows : ℕ) (more : List ℕ) → IfSome names (λ ns. length ns ≡ rows)
    → IfSome names (λ ns. All IsRowName ns) → read_names (is_some names) rows (name_lines names ++ more) ≡ Some (names, more)
unfolding read_names
names_again None rows more size f = refl
names_again (Some names) rows more size f =
    let again : read_lines read_name rows (flat_map name_line names ++ more) ≡ Some (names, more) =
    subst (λ (n : ℕ). read_lines read_name n (flat_map name_line names ++ more) ≡ Some (names, more)) size
    (lines_again IsRowName name_line read_name name_again names more f) in
    rw again refl

end_from : (text more : List ℕ) → nat_lt 3 (length text) ≡ true → behind_word (codes "end") text ≡ Some more → read_end text ≡ Some more
unfolding read_end
end_from bytes more long w = rw long w

pub end_again : (more : List ℕ) → read_end (line (codes "end") [] ++ more) ≡ Some more
end_again more = end_from _ _ (le-leb 4 (length (line (codes "end") [] ++ more)) (omega arith)) (line_left (codes "end") [] more refl)

-- where something is read, only memory can fail
pub fails_memory : {B : Type 0} (fault : Fault) (read : Option B) (y : B) → Fails fault read → read ≡ Some y → IsMemory fault
fails_memory Memory read y h e = tt
fails_memory (Expected left expected) read y h e = absurd (none-some y (sym h ∙ e))

-- the text of a problem
module _ (bytes : List ℕ) (x : ProblemData) (more : List ℕ) (f : FitsProblem x) (e : bytes ≡ problem_lines x ++ more) where
  pub problem_mask : read_mask bytes ≡ Some (x.ranks, table (codes "rows") row_line x.rows ++ more)
  problem_mask =
      let behind : List ℕ = table (codes "rows") row_line x.rows in
      ap read_mask (e ∙ append_assoc (mask_line x.ranks) behind more) ∙ mask_line_again x.ranks (behind ++ more) f.ranks

  pub problem_rows : (ranks : ℕ) (rest : List ℕ) → Some (ranks, rest) ≡ read_mask bytes
      → (ranks ≡ x.ranks) × (read_table (codes "rows") read_row rest ≡ Some (x.rows, more))
  problem_rows ranks rest h =
      let same = some_pair_parts ranks x.ranks rest (table (codes "rows") row_line x.rows ++ more) (h ∙ problem_mask) in
      (same.0, ap (read_table (codes "rows") read_row) same.1 ∙ rows_again x.rows more f.rows)

abbrev problem_of : List ProblemRow → ℕ → ProblemData
problem_of rows ranks = record { rows = rows; ranks = ranks }

-- a problem has no fault
faultless : (x : ProblemData) (fault : ProblemError) → IsProblem x → IsFirstFault x.rows x.ranks fault → ⊥
faultless x TooMany is h = omega (arith, is.forest.few, h)
faultless x NoRanks is h = omega (arith, is.ranked, h.1)
faultless x (BadParent i) is h = h.2 ((λ first. ap (parent_at x.rows) first ∙ is.forest.root), λ later. is.forest.above i later h.0)
faultless x (TooHot i) is h = omega (arith, is.forest.cool i h.0, h.3)

-- rows and ranks that are those of a problem
module _ (x : ProblemData) (rows : List ProblemRow) (ranks : ℕ) where
  pub problem_is : rows ≡ x.rows → ranks ≡ x.ranks → record { rows = rows; ranks = ranks } ≡ x
  problem_is r s = ap (λ (ys : List ProblemRow). problem_of ys ranks) r ∙ ap (problem_of x.rows) s

  pub no_fault : (fault : ProblemError) → IsProblem x → rows ≡ x.rows → ranks ≡ x.ranks → IsFirstFault rows ranks fault → ⊥
  no_fault fault is r s h = faultless x fault is
      (subst (λ (ys : List ProblemRow). IsFirstFault ys x.ranks fault) r (subst (λ (n : ℕ). IsFirstFault rows n fault) s h))

three : (a b c more : List ℕ) → (a ++ b ++ c) ++ more ≡ a ++ (b ++ (c ++ more))
three a b c more = simp append_assoc

abbrev pub behind_plan : List ℕ → List ℕ
behind_plan more = line (codes "end") [] ++ more

abbrev pub behind_names : Certificate → List ℕ → List ℕ
behind_names c more = whole_plan_lines c.plan ++ behind_plan more

abbrev pub behind_problem : Certificate → List ℕ → List ℕ
behind_problem c more = name_lines c.names ++ behind_names c more

pub certificate_first : (bytes : List ℕ) (c : Certificate) (more : List ℕ) → bytes ≡ text c.problem c.names c.plan ++ more
    → read_first bytes ≡ Some (is_some c.names, problem_lines c.problem ++ behind_problem c more)
certificate_first bytes c more e =
    ap read_first (e ∙ three (head_lines c.problem c.names) (whole_plan_lines c.plan) (line (codes "end") []) more)
    ∙ head_first c.problem c.names (behind_names c more)

-- the names after a problem that is the certificate's
pub certificate_names : (c : Certificate) (rows : List ProblemRow) (is_named : Bool) (rest more : List ℕ) → IsWritable c
    → is_named ≡ is_some c.names → rows ≡ c.problem.rows → rest ≡ behind_problem c more
    → read_names is_named (length rows) rest ≡ Some (c.names, behind_names c more)
certificate_names c rows is_named rest more f named same e =
    rw (named, same, e) (names_again c.names (length c.problem.rows) (behind_names c more) f.named f.names)

abbrev certificate_of : ProblemData → Option (List (List ℕ)) → PlanData → Certificate
certificate_of problem names plan = record { problem = problem; names = names; plan = plan }

pub certificate_is : (c : Certificate) (problem : ProblemData) (names : Option (List (List ℕ))) (plan : PlanData) → problem ≡ c.problem
    → names ≡ c.names → plan ≡ c.plan → record { problem = problem; names = names; plan = plan } ≡ c
certificate_is c problem names plan p n q =
    ap (λ (x : ProblemData). certificate_of x names plan) p
    ∙ (ap (λ (x : Option (List (List ℕ))). certificate_of c.problem x plan) n ∙ ap (certificate_of c.problem c.names) q)
