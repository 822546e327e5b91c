-- The record of an hour, as it is written and read back.
use Rattle.std.proofs.Common.{◌≡◌, ◌↔◌, ◌∙◌, ◌==◌, ◌<◌, ◌^◌, ◌++◌, ◌∷◌, ℕ, List, [], All}
use Rattle.std.proofs.Common.{false, ap, append-nil, append_assoc, arith, drop, length, refl, subst, sym, take}
use Rattle.std.specs.Prelude.{codes, decimal, map, slice_index, string_bytes}
use Rattle.std.specs.List.{flat_map, slice_split}
use Rattle.std.specs.Str.Parse.{IsNumeral, digits_value}
use Rattle.std.proofs.Math.Seq.{drop-append_seam, take-append_seam}
use Rattle.std.proofs.lemmas.Bool.Decides.{nat_tests}
use Rattle.std.proofs.lemmas.Fmt.{decimal_is_IsNumeral, length-decimal-le}
use Rattle.std.proofs.lemmas.List.{length-map}
use Rattle.std.proofs.lemmas.List.Elements.{All-append, All-cons, All-head, All-nil, All-tail}
use Rattle.std.proofs.lemmas.List.Splits.{slice_split_at, slice_split_none}
use Rattle.ceph_dumps.specs.Complete.{IsWord, line_of}
use Rattle.ceph_dumps.specs.HourRecord.{AreLinesOf, HeatPath, HourData, IsHeatLine, IsHeatText, IsHourOf}
use Rattle.ceph_dumps.specs.HourRecord.{IsWritableHour, blank_words, version_line, heat_line, hour_data, hour_text}
use Rattle.ceph_dumps.specs.HourRecord.{line_heat, line_heats, number_behind, spread_of, numbers_text}
use Rattle.ceph_dumps.specs.OwnList.{behind_digits, digit_count, list_lines, name_byte, named_bytes}
use Rattle.ceph_dumps.specs.declared.hour_record.HourRecord.{HourRecord}
use Rattle.ceph_dumps.proofs.Names.{decimal_digits, digits_counted, named_path, no_blank_in_digits, no_newline_in_digits, no_newline_in_name}
use Rattle.ceph_dumps.proofs.Words.{no_newline_in_word, words_same}

-- a number of 64 bits, in digits
number_text : (number : ℕ) → number < 2 ^ 64 → IsHeatText (decimal number)
number_text number small =
    let is : IsNumeral 10 (decimal number) × (digits_value 10 (decimal number) ≡ number) = decimal_is_IsNumeral number small in
    record {
      numeral = is.0;
      short = length-decimal-le 20 number (omega arith) (omega (arith, small)) small;
      fits = subst (λ (n : ℕ). n < 2 ^ 64) (sym is.1) small;
    }

number_value : (number : ℕ) → number < 2 ^ 64 → digits_value 10 (decimal number) ≡ number
number_value number small = (decimal_is_IsNumeral number small).1

-- the line of a directory, without its newline
abbrev line_text : HeatPath → List ℕ
line_text past = decimal past.0 ++ 32 ∷ flat_map name_byte past.1

line_cut : (past : HeatPath) (rest : List ℕ) → past.0 < 2 ^ 64 → list_lines (heat_line past ++ rest) ≡ line_text past ∷ list_lines rest
line_cut past rest small =
    let name : List ℕ = flat_map name_byte past.1 in
    let shape : heat_line past ++ rest ≡ line_text past ++ 10 ∷ rest =
    ap (λ (text : List ℕ). text ++ codes "\n" ++ rest) (append_assoc (decimal past.0) (codes " ") name) ∙ append_assoc (line_text past) (codes "\n") rest in
    ap list_lines shape
    ∙ slice_split_at (λ byte. byte == 10) (line_text past) 10 rest
    (All-append (λ c. (c == 10) ≡ false) (decimal past.0) (32 ∷ name) (no_newline_in_digits (decimal past.0) (decimal_digits past.0 small))
    (All-cons (λ c. (c == 10) ≡ false) 32 name refl (no_newline_in_name past.1)))
    refl

-- what lies on both sides of the first blank
front_read : (past : HeatPath) → past.0 < 2 ^ 64 → take (digit_count (line_text past)) (line_text past) ≡ decimal past.0
front_read past small =
    ap (λ (n : ℕ). take n (line_text past)) (digits_counted (decimal past.0) (flat_map name_byte past.1) (decimal_digits past.0 small))
    ∙ take-append_seam (decimal past.0) (32 ∷ flat_map name_byte past.1)

behind_read : (past : HeatPath) → past.0 < 2 ^ 64 → behind_digits (line_text past) ≡ 32 ∷ flat_map name_byte past.1
behind_read past small =
    ap (λ (n : ℕ). drop n (line_text past)) (digits_counted (decimal past.0) (flat_map name_byte past.1) (decimal_digits past.0 small))
    ∙ drop-append_seam (decimal past.0) (32 ∷ flat_map name_byte past.1)

not_empty : (xs ys : List ℕ) (y : ℕ) → (length (xs ++ y ∷ ys) == 0) ≡ false
not_empty [] ys y = grind (arith, nat_tests)
not_empty (x ∷ xs) ys y = grind (arith, nat_tests)

line_read : (past : HeatPath) → past.0 < 2 ^ 64 → line_heats (line_text past) ≡ past ∷ []
line_read (heat, path) small =
    let is : line_heat (line_text (heat, path)) ≡ (heat, path) =
    ap (λ (digits : List ℕ). (digits_value 10 digits, named_bytes 0 (drop 1 (behind_digits (line_text (heat, path)))))) (front_read (heat, path) small)
    ∙ (ap (λ (n : ℕ). (n, named_bytes 0 (drop 1 (behind_digits (line_text (heat, path)))))) (number_value heat small)
    ∙ (ap (λ (text : List ℕ). (heat, named_bytes 0 (drop 1 text))) (behind_read (heat, path) small)
    ∙ ap (λ (name : List ℕ). (heat, name)) (named_path path))) in
    rw (not_empty (decimal heat) (flat_map name_byte path) 32) (ap (λ (one : HeatPath). one ∷ []) is)

line_fine : (past : HeatPath) → past.0 < 2 ^ 64 → IsHeatLine (line_text past)
line_fine past small = λ some. (
  subst IsHeatText (sym (front_read past small)) (number_text past.0 small),
  ap (λ (text : List ℕ). slice_index text 0) (behind_read past small),
)

abbrev IsSmall : HeatPath → Type 0
IsSmall past = past.0 < 2 ^ 64

-- the lines of directories
lines_back : (heats : List HeatPath) → All IsSmall heats → flat_map line_heats (list_lines (flat_map heat_line heats)) ≡ heats
lines_back [] fine = refl
lines_back (past ∷ heats) fine =
    let one : IsSmall past = All-head IsSmall past heats fine in
    ap (flat_map line_heats) (line_cut past (flat_map heat_line heats) one)
    ∙ (ap (λ (those : List HeatPath). those ++ flat_map line_heats (list_lines (flat_map heat_line heats))) (line_read past one)
    ∙ ap (λ (those : List HeatPath). past ∷ those) (lines_back heats (All-tail IsSmall past heats fine)))

lines_fine : (heats : List HeatPath) → All IsSmall heats → All IsHeatLine (list_lines (flat_map heat_line heats))
lines_fine [] fine = All-cons IsHeatLine [] [] (λ some. absurd (some refl)) (All-nil IsHeatLine)
lines_fine (past ∷ heats) fine =
    let one : IsSmall past = All-head IsSmall past heats fine in
    subst (All IsHeatLine) (sym (line_cut past (flat_map heat_line heats) one))
    (All-cons IsHeatLine (line_text past) (list_lines (flat_map heat_line heats)) (line_fine past one) (lines_fine heats (All-tail IsSmall past heats fine)))

-- the words of the third line are its numbers
words_split : (word : List ℕ) (heats : List ℕ) → All (λ c. (c == 32) ≡ false) word → All (λ heat. heat < 2 ^ 64) heats
    → slice_split (λ c. c == 32) (word ++ flat_map number_behind heats) ≡ word ∷ map decimal heats
words_split word [] free fine =
    ap (slice_split (λ c. c == 32)) (append-nil word) ∙ slice_split_none (λ c. c == 32) word free
words_split word (heat ∷ heats) free fine =
    let one : heat < 2 ^ 64 = All-head (λ h. h < 2 ^ 64) heat heats fine in
    slice_split_at (λ c. c == 32) word 32 (decimal heat ++ flat_map number_behind heats) free refl
    ∙ ap (λ (those : List (List ℕ)). word ∷ those)
    (words_split (decimal heat) heats (no_blank_in_digits (decimal heat) (decimal_digits heat one))
    (All-tail (λ h. h < 2 ^ 64) heat heats fine))

spread_words : (spread : List ℕ) → 0 < length spread → All (λ heat. heat < 2 ^ 64) spread → blank_words (numbers_text spread) ≡ map decimal spread
spread_words [] some fine = absurd (omega (arith, some))
spread_words (heat ∷ heats) some fine =
    let one : heat < 2 ^ 64 = All-head (λ h. h < 2 ^ 64) heat heats fine in
    words_split (decimal heat) heats (no_blank_in_digits (decimal heat) (decimal_digits heat one)) (All-tail (λ h. h < 2 ^ 64) heat heats fine)

values_back : (spread : List ℕ) → All (λ heat. heat < 2 ^ 64) spread → map (digits_value 10) (map decimal spread) ≡ spread
values_back [] fine = refl
values_back (heat ∷ heats) fine =
    ap (λ (n : ℕ). n ∷ map (digits_value 10) (map decimal heats)) (number_value heat (All-head (λ h. h < 2 ^ 64) heat heats fine))
    ∙ ap (λ (those : List ℕ). heat ∷ those) (values_back heats (All-tail (λ h. h < 2 ^ 64) heat heats fine))

texts_fine : (spread : List ℕ) → All (λ heat. heat < 2 ^ 64) spread → All IsHeatText (map decimal spread)
texts_fine [] fine = All-nil IsHeatText
texts_fine (heat ∷ heats) fine =
    All-cons IsHeatText (decimal heat) (map decimal heats) (number_text heat (All-head (λ h. h < 2 ^ 64) heat heats fine))
    (texts_fine heats (All-tail (λ h. h < 2 ^ 64) heat heats fine))

no_newline_behind : (heats : List ℕ) → All (λ heat. heat < 2 ^ 64) heats → All (λ c. (c == 10) ≡ false) (flat_map number_behind heats)
no_newline_behind [] fine = All-nil _
no_newline_behind (heat ∷ heats) fine =
    let one : heat < 2 ^ 64 = All-head (λ h. h < 2 ^ 64) heat heats fine in
    All-append (λ c. (c == 10) ≡ false) (number_behind heat) (flat_map number_behind heats)
    (All-cons (λ c. (c == 10) ≡ false) 32 (decimal heat) refl (no_newline_in_digits (decimal heat) (decimal_digits heat one)))
    (no_newline_behind heats (All-tail (λ h. h < 2 ^ 64) heat heats fine))

no_newline_in_spread : (spread : List ℕ) → All (λ heat. heat < 2 ^ 64) spread → All (λ c. (c == 10) ≡ false) (numbers_text spread)
no_newline_in_spread [] fine = All-nil _
no_newline_in_spread (heat ∷ heats) fine =
    let one : heat < 2 ^ 64 = All-head (λ h. h < 2 ^ 64) heat heats fine in
    All-append (λ c. (c == 10) ≡ false) (decimal heat) (flat_map number_behind heats) (no_newline_in_digits (decimal heat) (decimal_digits heat one))
    (no_newline_behind heats (All-tail (λ h. h < 2 ^ 64) heat heats fine))

-- the lines of the text
abbrev texts : HourData → List (List ℕ)
texts hour = version_line ∷ (hour.name ++ 32 ∷ hour.fsid) ∷ numbers_text hour.spread ∷ list_lines (flat_map heat_line hour.heats)

first_cut : (rest : List ℕ) → list_lines (version_line ++ codes "\n" ++ rest) ≡ version_line ∷ list_lines rest
first_cut rest = refl

text_lines : (hour : HourData) → IsWritableHour hour → list_lines (hour_text hour) ≡ texts hour
text_lines hour fine =
    let head : List ℕ = version_line ++ codes "\n" in
    let line : List ℕ = line_of hour.name hour.fsid in
    let spread : List ℕ = numbers_text hour.spread in
    let below : List ℕ = flat_map heat_line hour.heats in
    let third : List ℕ = spread ++ 10 ∷ below in
    let second : List ℕ = hour.name ++ 32 ∷ hour.fsid in
    let parts : hour_text hour ≡ head ++ (line ++ third) =
    append_assoc (head ++ line ++ spread) (codes "\n") below ∙ (append_assoc (head ++ line) spread (10 ∷ below) ∙ append_assoc head line third) in
    let shape : line ++ third ≡ second ++ 10 ∷ third =
    append_assoc hour.name (32 ∷ (hour.fsid ++ 10 ∷ [])) third
    ∙ (ap (λ (text : List ℕ). hour.name ++ 32 ∷ text) (append_assoc hour.fsid (10 ∷ []) third)
    ∙ sym (append_assoc hour.name (32 ∷ hour.fsid) (10 ∷ third))) in
    ap list_lines parts
    ∙ (first_cut (line ++ third)
    ∙ ap (λ (those : List (List ℕ)). version_line ∷ those) (ap list_lines shape
    ∙ (slice_split_at (λ byte. byte == 10) second 10 third
    (All-append (λ c. (c == 10) ≡ false) hour.name (32 ∷ hour.fsid) (no_newline_in_word hour.name fine.name)
    (All-cons (λ c. (c == 10) ≡ false) 32 hour.fsid refl (no_newline_in_word hour.fsid fine.fsid))) refl
    ∙ ap (λ (those : List (List ℕ)). second ∷ those)
    (slice_split_at (λ byte. byte == 10) spread 10 below (no_newline_in_spread hour.spread fine.spread) refl))))

-- the last line has a newline
ends : (front : List ℕ) (heats : List HeatPath) → (f : List ℕ) × (front ++ codes "\n" ++ flat_map heat_line heats ≡ f ++ codes "\n")
ends front [] = (front, append-nil (front ++ codes "\n"))
ends front (past ∷ heats) =
    let line : List ℕ = decimal past.0 ++ codes " " ++ flat_map name_byte past.1 in
    let more : (f : List ℕ) × (front ++ codes "\n" ++ line ++ codes "\n" ++ flat_map heat_line heats ≡ f ++ codes "\n") =
    ends (front ++ codes "\n" ++ line) heats in (
      more.0,
      sym (append_assoc (front ++ codes "\n") (line ++ codes "\n") (flat_map heat_line heats))
          ∙ (ap (λ (text : List ℕ). text ++ flat_map heat_line heats) (sym (append_assoc (front ++ codes "\n") line (codes "\n"))) ∙ more.1),
    )

same_hour : (a b c d : List ℕ) (s t : List ℕ) (h k : List HeatPath) → a ≡ b → c ≡ d → s ≡ t → h ≡ k
    → ◌≡◌ {A = HourData} (record { name = a; fsid = c; spread = s; heats = h }) (record { name = b; fsid = d; spread = t; heats = k })
same_hour a b c d s t h k one two three four = rw (one, two, three, four) refl

-- what is read of a text is exactly what it was written for
pub hour_back : (hour found : HourRecord) → IsWritableHour (hour_data hour) → IsHourOf (hour_text (hour_data hour)) found ↔ (hour_data found ≡ hour_data hour)
hour_back hour found fine =
    let told : HourData = hour_data hour in
    let lines : list_lines (hour_text told) ≡ texts told = text_lines told fine in
    let some : 0 < length told.spread = omega (arith, fine.ranks) in
    let words : blank_words (numbers_text told.spread) ≡ map decimal told.spread = spread_words told.spread some fine.spread in
    let values : spread_of (numbers_text told.spread) ≡ told.spread = ap (map (digits_value 10)) words ∙ values_back told.spread fine.spread in (
      λ is.
          let are : AreLinesOf (texts told) found = subst (λ (those : List (List ℕ)). AreLinesOf those found) lines is.1 in
          let names : (string_bytes found.file_system.name ≡ told.name) × (string_bytes found.file_system.fsid ≡ told.fsid) =
          words_same (told.name ++ 32 ∷ told.fsid) (string_bytes found.file_system.name) (string_bytes found.file_system.fsid) told.name told.fsid are.second
          (record { whole = refl; name_is = fine.name; fsid_is = fine.fsid }) in
          same_hour _ _ _ _ _ _ _ _ names.0 names.1 (are.spread ∙ values) (are.heats ∙ lines_back told.heats fine.heats),
      λ same. (
        ends (version_line ++ codes "\n" ++ line_of told.name told.fsid ++ numbers_text told.spread) told.heats,
        subst (λ (those : List (List ℕ)). AreLinesOf those found) (sym lines) (record {
          first = refl;
          second = record {
            whole = sym (ap (λ (d : HourData). d.name ++ 32 ∷ d.fsid) same);
            name_is = subst IsWord (sym (ap (λ (d : HourData). d.name) same)) fine.name;
            fsid_is = subst IsWord (sym (ap (λ (d : HourData). d.fsid) same)) fine.fsid;
          };
          third = record {
            ranks = ap length words ∙ (length-map told.spread decimal ∙ fine.ranks);
            numbers = subst (All IsHeatText) (sym words) (texts_fine told.spread fine.spread);
          };
          spread = ap (λ (d : HourData). d.spread) same ∙ sym values;
          others = lines_fine told.heats fine.heats;
          heats = ap (λ (d : HourData). d.heats) same ∙ sym (lines_back told.heats fine.heats);
        }),
      ),
    )
