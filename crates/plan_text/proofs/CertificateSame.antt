-- Bytes begin with the text of one certificate only.
use Rattle.std.proofs.Common.{◌≡◌, ◌∙◌, ℕ, ◌<◌, ◌^◌, Bool, true, false, cond, List, [], ◌∷◌}
use Rattle.std.proofs.Common.{◌++◌, All, codes, length, get_or, drop, refl, ap, sym, arith, append_assoc}
use Rattle.std.specs.Prelude.{decimal, ℤ, IfSome, Option, Some, None}
use Rattle.std.specs.Fmt.{digits, signed_decimal}
use Rattle.std.specs.List.{flat_map}
use Rattle.std.specs.Str.Parse.{digits_value}
use Rattle.std.proofs.lemmas.Fmt.{decimal_injective, signed_decimal_injective, digits_is_IsNumeral}
use Rattle.std.proofs.lemmas.List.{append_cancel_left}
use Rattle.std.proofs.lemmas.List.Elements.{All-head, All-tail}
use Rattle.mds_types.specs.declared.cut_proof.CutProof.{CutProof}
use Rattle.mds_types.specs.declared.cut_proof.CutProof.TheVariants.{Zero, Heavy, Table}
use Rattle.mds_types.specs.declared.cut_proof.Row.{Row}
use Rattle.mds_types.specs.declared.problem.ProblemRow.{ProblemRow}
use Rattle.mds_types.specs.Plan.{PlanData}
use Rattle.mds_types.specs.Problem.{ProblemData}
use Rattle.plan_text.specs.declared.certificate.Certificate.{Certificate}
use Rattle.plan_text.specs.RowNames.{IsRowName}
use Rattle.plan_text.specs.Text.{cell_line, cut_lines, dual_lines, head_lines, line, mask_line, name_line, number_line, label_line}
use Rattle.plan_text.specs.Text.{place_lines, whole_plan_lines, price_line, problem_lines, rank_line, row_line, sum_lines, table, text}
use Rattle.plan_text.specs.Writable.{FitsCell, FitsCut, FitsList, FitsPart, FitsPlan, FitsPrice, FitsProblem, FitsRank, FitsRow, IsWritable}
use Rattle.plan_text.proofs.LineSame.{IsField, decimal_field, differ, hex_field, line_same, signed_field}
use Rattle.plan_text.proofs.NameLemmas.{row_name_field}

-- what is written can be read in one way only, whatever comes after it
abbrev pub Reads : {A : Type 0} → (A → Type 0) → (A → List ℕ) → Type 0
Reads {A} fits spelled = (x y : A) (r s : List ℕ) → fits x → fits y → spelled x ++ r ≡ spelled y ++ s → (x ≡ y) × (r ≡ s)

nth : (fields more : List (List ℕ)) (i : ℕ) → fields ≡ more → get_or fields i [] ≡ get_or more i []
nth fields more i h = ap (λ (fs : List (List ℕ)). get_or fs i []) h

-- one text after another
seam : (a b c d r s : List ℕ) → (a ++ b) ++ r ≡ (c ++ d) ++ s → a ++ (b ++ r) ≡ c ++ (d ++ s)
seam a b c d r s h = sym (append_assoc a b r) ∙ (h ∙ append_assoc c d s)

number_same : (w : List ℕ) → IsField w → Reads (λ n. n < 2 ^ 64) (number_line w)
number_same w f m n r s p q h =
    let same = line_same w w (decimal m ∷ []) (decimal n ∷ []) r s f f (decimal_field m p, tt) (decimal_field n q, tt) h in
    (decimal_injective m n p q (nth _ _ 0 same.1), same.2)

part_same : Reads FitsPart label_line
part_same m n r s p q h = number_same (codes "part") refl m n r s (omega arith) (omega arith) h

rank_same : Reads FitsRank rank_line
rank_same m n r s p q h = number_same (codes "rank") refl m n r s (omega arith) (omega arith) h

price_same : Reads FitsPrice price_line
price_same m n r s p q h =
    let same = line_same (codes "price") (codes "price") (signed_decimal m ∷ []) (signed_decimal n ∷ []) r s refl refl
    (signed_field m p, tt) (signed_field n q, tt) h in
    (signed_decimal_injective m n p q (nth _ _ 0 same.1), same.2)

abbrev row_of : ℕ → ℕ → ℕ → ℕ → ProblemRow
row_of parent heat inodes now = record { parent = parent; heat = heat; inodes = inodes; now = now }

row_eq : (a b : ProblemRow) → a.parent ≡ b.parent → a.heat ≡ b.heat → a.inodes ≡ b.inodes → a.now ≡ b.now → a ≡ b
row_eq a b p h i n = ap (λ (x : ℕ). row_of x a.heat a.inodes a.now) p
    ∙ (ap (λ (x : ℕ). row_of b.parent x a.inodes a.now) h
    ∙ (ap (λ (x : ℕ). row_of b.parent b.heat x a.now) i ∙ ap (λ (x : ℕ). row_of b.parent b.heat b.inodes x) n))

abbrev row_fields : ProblemRow → List (List ℕ)
row_fields row = decimal row.parent ∷ decimal row.heat ∷ decimal row.inodes ∷ decimal row.now ∷ []

row_same : Reads FitsRow row_line
row_same a b r s p q h =
    let same = line_same (codes "row") (codes "row") (row_fields a) (row_fields b) r s refl refl (
      decimal_field a.parent (omega (arith, p.parent)),
      (decimal_field a.heat p.heat, (decimal_field a.inodes (omega (arith, p.inodes)), (decimal_field a.now (omega (arith, p.now)), tt))),
    ) (
      decimal_field b.parent (omega (arith, q.parent)),
      (decimal_field b.heat q.heat, (decimal_field b.inodes (omega (arith, q.inodes)), (decimal_field b.now (omega (arith, q.now)), tt))),
    )
    h in (
      row_eq a b
          (decimal_injective a.parent b.parent (omega (arith, p.parent)) (omega (arith, q.parent)) (nth _ _ 0 same.1))
          (decimal_injective a.heat b.heat p.heat q.heat (nth _ _ 1 same.1))
          (decimal_injective a.inodes b.inodes (omega (arith, p.inodes)) (omega (arith, q.inodes)) (nth _ _ 2 same.1))
          (decimal_injective a.now b.now (omega (arith, p.now)) (omega (arith, q.now)) (nth _ _ 3 same.1)),
      same.2,
    )

abbrev cell_of : ℕ → ℕ → ℕ → Bool → Row
cell_of cuts rest price cut = record { cuts = cuts; rest = rest; price = price; cut = cut }

cell_eq : (a b : Row) → a.cuts ≡ b.cuts → a.rest ≡ b.rest → a.price ≡ b.price → a.cut ≡ b.cut → a ≡ b
cell_eq a b c r p t = ap (λ (x : ℕ). cell_of x a.rest a.price a.cut) c
    ∙ (ap (λ (x : ℕ). cell_of b.cuts x a.price a.cut) r
    ∙ (ap (λ (x : ℕ). cell_of b.cuts b.rest x a.cut) p ∙ ap (λ (x : Bool). cell_of b.cuts b.rest b.price x) t))

abbrev bit : Bool → ℕ
bit cut = cond cut 1 0

bit_small : (cut : Bool) → bit cut < 2 ^ 64
bit_small true = omega arith
bit_small false = omega arith

bit_same : (a b : Bool) → bit a ≡ bit b → a ≡ b
bit_same true true h = refl
bit_same false false h = refl
bit_same true false h = absurd (omega arith)
bit_same false true h = absurd (omega arith)

abbrev cell_fields : Row → List (List ℕ)
cell_fields row = decimal row.cuts ∷ decimal row.rest ∷ decimal row.price ∷ decimal (bit row.cut) ∷ []

cell_same : Reads FitsCell cell_line
cell_same a b r s p q h =
    let same = line_same (codes "cell") (codes "cell") (cell_fields a) (cell_fields b) r s refl refl (
      decimal_field a.cuts (omega (arith, p.cuts)),
      (decimal_field a.rest p.rest, (decimal_field a.price p.price, (decimal_field (bit a.cut) (bit_small a.cut), tt))),
    ) (
      decimal_field b.cuts (omega (arith, q.cuts)),
      (decimal_field b.rest q.rest, (decimal_field b.price q.price, (decimal_field (bit b.cut) (bit_small b.cut), tt))),
    ) h in (
      cell_eq a b
          (decimal_injective a.cuts b.cuts (omega (arith, p.cuts)) (omega (arith, q.cuts)) (nth _ _ 0 same.1))
          (decimal_injective a.rest b.rest p.rest q.rest (nth _ _ 1 same.1))
          (decimal_injective a.price b.price p.price q.price (nth _ _ 2 same.1))
          (bit_same a.cut b.cut (decimal_injective (bit a.cut) (bit b.cut) (bit_small a.cut) (bit_small b.cut) (nth _ _ 3 same.1))),
      same.2,
    )

hex_same : (m n : ℕ) → m < 2 ^ 64 → n < 2 ^ 64 → digits 16 false m ≡ digits 16 false n → m ≡ n
hex_same m n p q h =
    let a = (digits_is_IsNumeral 16 false (omega arith) (omega arith) m (omega arith)).1 in
    let b = (digits_is_IsNumeral 16 false (omega arith) (omega arith) n (omega arith)).1 in
    sym a ∙ (ap (digits_value 16) h ∙ b)

mask_same : Reads (λ ranks. ranks < 2 ^ 64) mask_line
mask_same m n r s p q h =
    let same = line_same (codes "mask") (codes "mask") ((codes "0x" ++ digits 16 false m) ∷ []) ((codes "0x" ++ digits 16 false n) ∷ []) r s
    refl refl (hex_field m p, tt) (hex_field n q, tt) h in
    (hex_same m n p q (ap (drop 2) (nth _ _ 0 same.1)), same.2)

module _ {A : Type 0} (fits : A → Type 0) (line_of : A → List ℕ) (one : Reads fits line_of) where
  items_same : (xs ys : List A) (r s : List ℕ) → length xs ≡ length ys → All fits xs → All fits ys
      → flat_map line_of xs ++ r ≡ flat_map line_of ys ++ s → (xs ≡ ys) × (r ≡ s)
  items_same [] [] r s e f g h = (refl, h)
  items_same [] (y ∷ ys) r s e f g h = absurd (omega (arith, e))
  items_same (x ∷ xs) [] r s e f g h = absurd (omega (arith, e))
  items_same (x ∷ xs) (y ∷ ys) r s e f g h =
      let first = one x y (flat_map line_of xs ++ r) (flat_map line_of ys ++ s) (All-head fits x xs f) (All-head fits y ys g)
      (seam (line_of x) (flat_map line_of xs) (line_of y) (flat_map line_of ys) r s h) in
      let more = items_same xs ys r s (omega (arith, e)) (All-tail fits x xs f) (All-tail fits y ys g) first.1 in
      (cc (first.0, more.0), more.1)

  table_same : (name : List ℕ) → IsField name → Reads (FitsList fits) (table name line_of)
  table_same name field xs ys r s p q h =
      let count = number_same name field (length xs) (length ys) (flat_map line_of xs ++ r) (flat_map line_of ys ++ s) p.short q.short
      (seam (number_line name (length xs)) (flat_map line_of xs) (number_line name (length ys)) (flat_map line_of ys) r s h) in
      items_same xs ys r s count.0 p.all q.all count.1

-- two parts of a text, one after the other
both : {A B : Type 0} (fa : A → Type 0) (fb : B → Type 0) (f : A → List ℕ) (g : B → List ℕ) → Reads fa f → Reads fb g
    → (x y : A) (u v : B) (r s : List ℕ) → fa x → fa y → fb u → fb v → (f x ++ g u) ++ r ≡ (f y ++ g v) ++ s → (x ≡ y) × (u ≡ v) × (r ≡ s)
both fa fb f g one two x y u v r s p q k l h =
    let first = one x y (g u ++ r) (g v ++ s) p q (seam (f x) (g u) (f y) (g v) r s h) in
    let second = two u v r s k l first.1 in
    (first.0, second.0, second.1)

parts_same : Reads (FitsList FitsPart) (table (codes "parts") label_line)
parts_same = table_same FitsPart label_line part_same (codes "parts") refl

ranks_same : Reads (FitsList FitsRank) (table (codes "ranks") rank_line)
ranks_same = table_same FitsRank rank_line rank_same (codes "ranks") refl

part_prices_same : Reads (FitsList FitsPrice) (table (codes "part_prices") price_line)
part_prices_same = table_same FitsPrice price_line price_same (codes "part_prices") refl

rank_prices_same : Reads (FitsList FitsPrice) (table (codes "rank_prices") price_line)
rank_prices_same = table_same FitsPrice price_line price_same (codes "rank_prices") refl

abbrev the_problem : List ProblemRow → ℕ → ProblemData
the_problem rows ranks = record { rows = rows; ranks = ranks }

problem_eq : (a b : ProblemData) → a.rows ≡ b.rows → a.ranks ≡ b.ranks → a ≡ b
problem_eq a b rows ranks = ap (λ (x : List ProblemRow). the_problem x a.ranks) rows ∙ ap (λ (x : ℕ). the_problem b.rows x) ranks

problem_same : Reads FitsProblem problem_lines
problem_same a b r s p q h =
    let same = both (λ (n : ℕ). n < 2 ^ 64) (FitsList FitsRow) mask_line (table (codes "rows") row_line) mask_same
    (table_same FitsRow row_line row_same (codes "rows") refl)
    a.ranks b.ranks a.rows b.rows r s p.ranks q.ranks p.rows q.rows h in
    (problem_eq a b same.1 same.0, same.2)

cut_same : Reads FitsCut cut_lines
cut_same Zero Zero r s p q h =
    (refl, (line_same (codes "cut") (codes "cut") (codes "zero" ∷ []) (codes "zero" ∷ []) r s refl refl (refl, tt) (refl, tt) h).2)
cut_same (Heavy m) (Heavy n) r s p q h =
    let same = line_same (codes "cut") (codes "cut") (codes "heavy" ∷ decimal m ∷ []) (codes "heavy" ∷ decimal n ∷ []) r s refl refl
    (refl, (decimal_field m (omega arith), tt)) (refl, (decimal_field n (omega arith), tt)) h in
    (ap Heavy (decimal_injective m n (omega arith) (omega arith) (nth _ _ 1 same.1)), same.2)
cut_same (Table xs) (Table ys) r s p q h =
    let first = line_same (codes "cut") (codes "cut") (codes "table" ∷ []) (codes "table" ∷ []) (table (codes "cells") cell_line xs ++ r)
    (table (codes "cells") cell_line ys ++ s) refl refl (refl, tt) (refl, tt)
    (seam (line (codes "cut") (codes "table" ∷ [])) (table (codes "cells") cell_line xs) (line (codes "cut") (codes "table" ∷ []))
    (table (codes "cells") cell_line ys) r s h) in
    let same = table_same FitsCell cell_line cell_same (codes "cells") refl xs ys r s p q first.2 in
    (ap Table same.0, same.1)
cut_same Zero (Heavy n) r s p q h = absurd (differ 104 122 (omega arith) (sym (ap (λ (t : List ℕ). get_or t 4 0) h)))
cut_same Zero (Table ys) r s p q h = absurd (differ 116 122 (omega arith) (sym (ap (λ (t : List ℕ). get_or t 4 0) h)))
cut_same (Heavy m) Zero r s p q h = absurd (differ 104 122 (omega arith) (ap (λ (t : List ℕ). get_or t 4 0) h))
cut_same (Heavy m) (Table ys) r s p q h = absurd (differ 104 116 (omega arith) (ap (λ (t : List ℕ). get_or t 4 0) h))
cut_same (Table xs) Zero r s p q h = absurd (differ 116 122 (omega arith) (ap (λ (t : List ℕ). get_or t 4 0) h))
cut_same (Table xs) (Heavy n) r s p q h = absurd (differ 104 116 (omega arith) (sym (ap (λ (t : List ℕ). get_or t 4 0) h)))

plan_of : List ℕ → List ℕ → ℕ → ℕ → CutProof → List ℤ → List ℤ → PlanData
plan_of part rank greatest moved cut parts ranks =
    record { part = part; rank = rank; greatest = greatest; moved = moved; cut = cut; dual = record { part_price = parts; rank_price = ranks } }

plan_eq : (a b : PlanData) → a.part ≡ b.part → a.rank ≡ b.rank → a.greatest ≡ b.greatest → a.moved ≡ b.moved → a.cut ≡ b.cut
    → a.dual.part_price ≡ b.dual.part_price → a.dual.rank_price ≡ b.dual.rank_price → a ≡ b
unfolding plan_of
plan_eq a b part rank greatest moved cut parts ranks =
    ap (λ (x : List ℕ). plan_of x a.rank a.greatest a.moved a.cut a.dual.part_price a.dual.rank_price) part
    ∙ (ap (λ (x : List ℕ). plan_of b.part x a.greatest a.moved a.cut a.dual.part_price a.dual.rank_price) rank
    ∙ (ap (λ (x : ℕ). plan_of b.part b.rank x a.moved a.cut a.dual.part_price a.dual.rank_price) greatest
    ∙ (ap (λ (x : ℕ). plan_of b.part b.rank b.greatest x a.cut a.dual.part_price a.dual.rank_price) moved
    ∙ (ap (λ (x : CutProof). plan_of b.part b.rank b.greatest b.moved x a.dual.part_price a.dual.rank_price) cut
    ∙ (ap (λ (x : List ℤ). plan_of b.part b.rank b.greatest b.moved b.cut x a.dual.rank_price) parts
    ∙ ap (λ (x : List ℤ). plan_of b.part b.rank b.greatest b.moved b.cut b.dual.part_price x) ranks)))))

plan_same : Reads FitsPlan whole_plan_lines
plan_same a b r s p q h =
    let pa : List ℕ = place_lines a.part a.rank in
    let pb : List ℕ = place_lines b.part b.rank in
    let sa : List ℕ = sum_lines a.greatest a.moved in
    let sb : List ℕ = sum_lines b.greatest b.moved in
    let ca : List ℕ = cut_lines a.cut in
    let cb : List ℕ = cut_lines b.cut in
    let da : List ℕ = dual_lines a.dual in
    let db : List ℕ = dual_lines b.dual in
    let all : pa ++ (sa ++ (ca ++ (da ++ r))) ≡ pb ++ (sb ++ (cb ++ (db ++ s))) =
    seam pa sa pb sb (ca ++ (da ++ r)) (cb ++ (db ++ s))
    (seam (pa ++ sa) ca (pb ++ sb) cb (da ++ r) (db ++ s) (seam (pa ++ sa ++ ca) da (pb ++ sb ++ cb) db r s h)) in
    let places = both (FitsList FitsPart) (FitsList FitsRank) (table (codes "parts") label_line) (table (codes "ranks") rank_line) parts_same ranks_same
    a.part b.part a.rank b.rank (sa ++ (ca ++ (da ++ r))) (sb ++ (cb ++ (db ++ s))) p.part q.part p.rank q.rank all in
    let sums = both (λ (n : ℕ). n < 2 ^ 64) (λ (n : ℕ). n < 2 ^ 64) (number_line (codes "greatest")) (number_line (codes "moved"))
    (number_same (codes "greatest") refl) (number_same (codes "moved") refl)
    a.greatest b.greatest a.moved b.moved (ca ++ (da ++ r)) (cb ++ (db ++ s)) p.greatest q.greatest p.moved q.moved places.2 in
    let cut = cut_same a.cut b.cut (da ++ r) (db ++ s) p.cut q.cut sums.2 in
    let dual = both (FitsList FitsPrice) (FitsList FitsPrice) (table (codes "part_prices") price_line)
    (table (codes "rank_prices") price_line) part_prices_same rank_prices_same
    a.dual.part_price b.dual.part_price a.dual.rank_price b.dual.rank_price r s p.part_price q.part_price p.rank_price q.rank_price cut.1 in
    (plan_eq a b places.0 places.1 sums.0 sums.1 cut.0 dual.0 dual.1, dual.2)

name_same : Reads IsRowName name_line
name_same m n r s p q h =
    let same = line_same (codes "name") (codes "name") (m ∷ []) (n ∷ []) r s refl refl (row_name_field m p, tt) (row_name_field n q, tt) h in
    (nth _ _ 0 same.1, same.2)

abbrev Fits : ProblemData → Option (List (List ℕ)) → Type 0
Fits problem names = FitsProblem problem × IfSome names (λ ns. length ns ≡ length problem.rows) × IfSome names (λ ns. All IsRowName ns)

-- the lines down to those of the plan
head_same : (a b : ProblemData) (m n : Option (List (List ℕ))) (r s : List ℕ) → Fits a m → Fits b n
    → head_lines a m ++ r ≡ head_lines b n ++ s → (a ≡ b) × (m ≡ n) × (r ≡ s)
head_same a b None None r s p q h =
    let first : List ℕ = line (codes "certificate") (codes "1" ∷ []) in
    let all : first ++ (problem_lines a ++ r) ≡ first ++ (problem_lines b ++ s) = seam first (problem_lines a) first (problem_lines b) r s h in
    let problem = problem_same a b r s p.0 q.0 (append_cancel_left first (problem_lines a ++ r) (problem_lines b ++ s) all) in
    (problem.0, refl, problem.1)
head_same a b (Some m) (Some n) r s p q h =
    let first : List ℕ = line (codes "certificate") (codes "2" ∷ []) in
    let ma : List ℕ = flat_map name_line m in
    let nb : List ℕ = flat_map name_line n in
    let all : first ++ ((problem_lines a ++ ma) ++ r) ≡ first
    ++ ((problem_lines b ++ nb) ++ s) = seam first (problem_lines a ++ ma) first (problem_lines b ++ nb) r s h in
    let rest : (problem_lines a ++ ma) ++ r ≡ (problem_lines b ++ nb)
    ++ s = append_cancel_left first ((problem_lines a ++ ma) ++ r) ((problem_lines b ++ nb) ++ s) all in
    let problem = problem_same a b (ma ++ r) (nb ++ s) p.0 q.0 (seam (problem_lines a) ma (problem_lines b) nb r s rest) in
    let size : length m ≡ length n = p.1 ∙ (ap (λ (x : ProblemData). length x.rows) problem.0 ∙ sym q.1) in
    let names = items_same IsRowName name_line name_same m n r s size p.2 q.2 problem.1 in
    (problem.0, ap Some names.0, names.1)
head_same a b None (Some n) r s p q h = absurd (differ 49 50 (omega arith) (ap (λ (t : List ℕ). get_or t 12 0) h))
head_same a b (Some m) None r s p q h = absurd (differ 49 50 (omega arith) (sym (ap (λ (t : List ℕ). get_or t 12 0) h)))

abbrev the_certificate : ProblemData → Option (List (List ℕ)) → PlanData → Certificate
the_certificate problem names plan = record { problem = problem; names = names; plan = plan }

certificate_eq : (a b : Certificate) → a.problem ≡ b.problem → a.names ≡ b.names → a.plan ≡ b.plan → a ≡ b
certificate_eq a b problem names plan =
    ap (λ (x : ProblemData). the_certificate x a.names a.plan) problem
    ∙ (ap (λ (x : Option (List (List ℕ))). the_certificate b.problem x a.plan) names
    ∙ ap (λ (x : PlanData). the_certificate b.problem b.names x) plan)

abbrev own_text : Certificate → List ℕ
own_text c = text c.problem c.names c.plan

-- a certificate's text, whatever comes after it
pub certificate_same : Reads IsWritable own_text
certificate_same a b r s p q h =
    let last : List ℕ = line (codes "end") [] in
    let ha : List ℕ = head_lines a.problem a.names in
    let hb : List ℕ = head_lines b.problem b.names in
    let la : List ℕ = whole_plan_lines a.plan in
    let lb : List ℕ = whole_plan_lines b.plan in
    let all : ha ++ (la ++ (last ++ r)) ≡ hb ++ (lb ++ (last ++ s)) =
    seam ha la hb lb (last ++ r) (last ++ s) (seam (ha ++ la) last (hb ++ lb) last r s h) in
    let head = head_same a.problem b.problem a.names b.names (la ++ (last ++ r)) (lb ++ (last ++ s)) (p.problem, p.named, p.names)
    (q.problem, q.named, q.names) all in
    let plan = plan_same a.plan b.plan (last ++ r) (last ++ s) p.plan q.plan head.2 in
    (certificate_eq a b head.0 head.1 plan.0, append_cancel_left last r s plan.1)
