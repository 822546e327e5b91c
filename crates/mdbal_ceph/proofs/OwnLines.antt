-- The list of this program's pins, as it is written and read back.
use Rattle.std.proofs.Common.{◌≡◌, ◌≢◌, ◌↔◌, ◌∙◌, ◌==◌, ◌<◌, ◌^◌, ◌++◌, ◌∷◌, ℕ, zero, suc, false}
use Rattle.std.proofs.Common.{List, [], All, Option, Some, None, ap, append_assoc, arith, drop, length, refl, subst, sym, take}
use Rattle.std.specs.Prelude.{codes, decimal, map, slice_get, slice_index}
use Rattle.std.specs.Int.{IsInRange}
use Rattle.std.specs.List.{flat_map}
use Rattle.std.specs.Str.Parse.{IsNumeral, digits_value, without_leading_plus}
use Rattle.std.proofs.Math.Seq.{take-append_seam, drop-append_seam}
use Rattle.std.proofs.lemmas.Bool.Decides.{nat_tests}
use Rattle.std.proofs.lemmas.Fmt.{decimal_is_IsNumeral, digits_value-decimal}
use Rattle.std.proofs.lemmas.List.Elements.{All-append, All-cons, All-head, All-nil, All-tail}
use Rattle.std.proofs.lemmas.List.Splits.{slice_split_at}
use Rattle.std.proofs.lemmas.Str.Parse.{not_in_digits, numerals_by_value, tells_digits, without_leading_plus_none}
use Rattle.ceph_dumps.specs.OwnList.{ArePinsOfList, IsNumberText, IsPinLine, RankPath, behind_digits, digit_count}
use Rattle.ceph_dumps.specs.OwnList.{line_pins, line_rank_path, list_lines, name_byte, named_bytes, rank_path}
use Rattle.ceph_dumps.specs.declared.own_list.OwnPin.{OwnPin}
use Rattle.ceph_dumps.proofs.Names.{decimal_digits, digits_counted, named_path, no_newline_in_digits, no_newline_in_name}
use Rattle.ceph_pins.specs.OwnList.{own_line, own_lines, pin_line_of}
use Rattle.ceph_snapshot.specs.declared.directory.Directory.{Directory}
use Rattle.mdbal_ceph.specs.OwnListPins.{IsListable, own_list_pin, pins_down_from}

-- the line of a pin, without its newline
abbrev line_text : ℕ → List ℕ → List ℕ
line_text rank path = decimal rank ++ 32 ∷ flat_map name_byte path

-- the line of a pin is cut at its newline
line_cut : (rank : ℕ) (path rest : List ℕ) → rank < 2 ^ 64 → list_lines (own_line rank path ++ rest) ≡ line_text rank path ∷ list_lines rest
line_cut rank path rest small =
    let name : List ℕ = flat_map name_byte path in
    let shape : own_line rank path ++ rest ≡ line_text rank path ++ 10 ∷ rest =
    ap (λ (text : List ℕ). text ++ codes "\n" ++ rest) (append_assoc (decimal rank) (codes " ") name) ∙ append_assoc (line_text rank path) (codes "\n") rest in
    ap list_lines shape
    ∙ slice_split_at (λ byte. byte == 10) (line_text rank path) 10 rest
    (All-append (λ c. (c == 10) ≡ false) (decimal rank) (32 ∷ name) (no_newline_in_digits (decimal rank) (decimal_digits rank small))
    (All-cons (λ c. (c == 10) ≡ false) 32 name refl (no_newline_in_name path)))
    refl

-- what lies behind the digits of a line
behind_read : (rank : ℕ) (path : List ℕ) → rank < 2 ^ 64 → behind_digits (line_text rank path) ≡ 32 ∷ flat_map name_byte path
behind_read rank path small =
    ap (λ (n : ℕ). drop n (line_text rank path)) (digits_counted (decimal rank) (flat_map name_byte path) (decimal_digits rank small))
    ∙ drop-append_seam (decimal rank) (32 ∷ flat_map name_byte path)

-- the rank of a line
rank_read : (rank : ℕ) (path : List ℕ) → rank < 2 ^ 64 → digits_value 10 (take (digit_count (line_text rank path)) (line_text rank path)) ≡ rank
rank_read rank path small =
    ap (λ (n : ℕ). digits_value 10 (take n (line_text rank path))) (digits_counted (decimal rank) (flat_map name_byte path) (decimal_digits rank small))
    ∙ (ap (digits_value 10) (take-append_seam (decimal rank) (32 ∷ flat_map name_byte path))
    ∙ digits_value-decimal (numerals_by_value _ tells_digits) rank small)

-- a list with an element in it isn't empty
not_empty : (xs ys : List ℕ) (y : ℕ) → (length (xs ++ y ∷ ys) == 0) ≡ false
not_empty [] ys y = grind (arith, nat_tests)
not_empty (x ∷ xs) ys y = grind (arith, nat_tests)

-- the pin of a line
line_read : (pin : RankPath) → IsListable pin → line_pins (line_text pin.0 pin.1) ≡ pin ∷ []
line_read (rank, []) fine = absurd (omega (arith, fine.1))
line_read (rank, c ∷ cs) fine =
    let slash : c ≡ 47 = fine.1 in
    let path : line_rank_path (line_text rank (47 ∷ cs)) ≡ (rank, 47 ∷ cs) =
    ap (λ (n : ℕ). (n, 47 ∷ named_bytes 0 (drop 2 (behind_digits (line_text rank (47 ∷ cs)))))) (rank_read rank (47 ∷ cs) fine.0)
    ∙ ap (λ (text : List ℕ). (rank, 47 ∷ named_bytes 0 (drop 2 text))) (behind_read rank (47 ∷ cs) fine.0)
    ∙ ap (λ (name : List ℕ). (rank, 47 ∷ name)) (named_path cs) in
    rw slash (rw (not_empty (decimal rank) (flat_map name_byte (47 ∷ cs)) 32) (ap (λ (pin : RankPath). pin ∷ []) path))

-- the digits of a line are those of the rank
digits_read : (rank : ℕ) (path : List ℕ) → rank < 2 ^ 64 → take (digit_count (line_text rank path)) (line_text rank path) ≡ decimal rank
digits_read rank path small =
    ap (λ (n : ℕ). take n (line_text rank path)) (digits_counted (decimal rank) (flat_map name_byte path) (decimal_digits rank small))
    ∙ take-append_seam (decimal rank) (32 ∷ flat_map name_byte path)

-- no plus stands before them
rank_fits : (rank : ℕ) → rank < 2 ^ 64 → IsNumberText (decimal rank)
rank_fits rank small =
    let is : IsNumeral 10 (decimal rank) × (digits_value 10 (decimal rank) ≡ rank) = decimal_is_IsNumeral rank small in
    let none : slice_index (decimal rank) 0 ≢ 43 = not_in_digits (numerals_by_value _ tells_digits) (decimal rank) 43 is.0.1
    (λ (digit : IsInRange 48 57 43). omega (arith, digit)) 0 is.0.0 in
    let bare : without_leading_plus (decimal rank) ≡ decimal rank = without_leading_plus_none (decimal rank) none in
    record {
      numeral = subst (IsNumeral 10) (sym bare) is.0;
      fits = subst (λ (n : ℕ). n < 2 ^ 64) (sym (ap (digits_value 10) bare ∙ is.1)) small;
    }

-- a line has digits, a blank and a slash
line_fine : (pin : RankPath) → IsListable pin → IsPinLine (line_text pin.0 pin.1)
line_fine (rank, []) fine = absurd (omega (arith, fine.1))
line_fine (rank, c ∷ cs) fine =
    let slash : c ≡ 47 = fine.1 in
    rw slash (λ _. record {
      rank = subst IsNumberText (sym (digits_read rank (47 ∷ cs) fine.0)) (rank_fits rank fine.0);
      blank = ap (λ (text : List ℕ). slice_index text 0) (behind_read rank (47 ∷ cs) fine.0);
      slash = ap (λ (text : List ℕ). slice_index text 1) (behind_read rank (47 ∷ cs) fine.0);
    })

-- the text of some pins
abbrev lines_of : List RankPath → List ℕ
lines_of pins = flat_map (λ (pin : RankPath). own_line pin.0 pin.1) pins

-- one more directory
line_of_listed : (pin : Option ℕ) (directory : Option Directory) (text : List ℕ) (others : List RankPath) → text ≡ lines_of others
    → pin_line_of pin directory ++ text ≡ lines_of (own_list_pin pin directory ++ others)
line_of_listed (Some rank) (Some directory) text others is = ap (λ (rest : List ℕ). own_line rank directory.path.items ++ rest) is
line_of_listed (Some rank) None text others is = is
line_of_listed None directory text others is = is

-- the lines of the directories are those of their pins
lines_of_listed : (directories : List Directory) (pins : ℕ → Option ℕ) (n : ℕ) → own_lines directories pins n ≡ lines_of (pins_down_from directories pins n)
lines_of_listed directories pins zero = refl
lines_of_listed directories pins (suc n) =
    line_of_listed (pins n) (slice_get directories n) (own_lines directories pins n) (pins_down_from directories pins n) (lines_of_listed directories pins n)

-- the pins of some lines
lines_back : (pins : List RankPath) → All IsListable pins → flat_map line_pins (list_lines (lines_of pins)) ≡ pins
lines_back [] fine = refl
lines_back (pin ∷ pins) fine =
    let one : IsListable pin = All-head IsListable pin pins fine in
    ap (flat_map line_pins) (line_cut pin.0 pin.1 (lines_of pins) one.0)
    ∙ (ap (λ (those : List RankPath). those ++ flat_map line_pins (list_lines (lines_of pins))) (line_read pin one)
    ∙ ap (λ (those : List RankPath). pin ∷ those) (lines_back pins (All-tail IsListable pin pins fine)))

-- each line has digits, a blank and a slash, or is the empty one at the end
lines_fine : (pins : List RankPath) → All IsListable pins → All IsPinLine (list_lines (lines_of pins))
lines_fine [] fine = All-cons IsPinLine [] [] (λ some. absurd (some refl)) (All-nil IsPinLine)
lines_fine (pin ∷ pins) fine =
    let one : IsListable pin = All-head IsListable pin pins fine in
    rw (line_cut pin.0 pin.1 (lines_of pins) one.0)
    (All-cons IsPinLine (line_text pin.0 pin.1) (list_lines (lines_of pins)) (line_fine pin one) (lines_fine pins (All-tail IsListable pin pins fine)))

-- what is read of the lines is exactly the pins
pub own_lines_back : (directories : List Directory) (pins : ℕ → Option ℕ) (n : ℕ) (found : List OwnPin) → All IsListable (pins_down_from directories pins n)
    → ArePinsOfList (own_lines directories pins n) found ↔ map rank_path found ≡ pins_down_from directories pins n
own_lines_back directories pins n found fine =
    let listed : List RankPath = pins_down_from directories pins n in
    let same : own_lines directories pins n ≡ lines_of listed = lines_of_listed directories pins n in
    rw same (
      λ are. are.each ∙ lines_back listed fine,
      λ is. record { lines = lines_fine listed fine; each = is ∙ sym (lines_back listed fine) },
    )
