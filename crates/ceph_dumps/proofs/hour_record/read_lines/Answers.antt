use Rattle.std.proofs.Common.{◌≡◌, ◌∙◌, All, Bor, ℕ, IsErrOf, List, ap, drop, map, rules, subst, sym}
use Rattle.std.specs.Prelude.{string_bytes}
use Rattle.std.specs.List.{flat_map}
use Rattle.std.proofs.lemmas.List.{drop-map, drop_min}
use Rattle.ceph_dumps.specs.Complete.{AreTwoWords}
use Rattle.ceph_dumps.specs.HourRecord.{IsHeatLine, IsSpreadLine, line_at, line_heats, spread_of}
use Rattle.ceph_dumps.specs.declared.dump_error.DumpError.TheVariants.{Hour}
use Rattle.ceph_dumps.proofs.Lines.{heat_line_at}
use Rattle.ceph_dumps.proofs.hour_record.read_lines.Goals as goal

abbrev now : Bor (List ℕ) → List ℕ
now line = line.now

rest_is : (ls rest : List (Bor (List ℕ))) → rest ≡ drop 3 ls → map now rest ≡ drop 3 (map now ls)
rest_is ls rest is = ap (map now) is ∙ sym (drop-map now 3 ls)

pub returns-in_err-read_heats-clause-refused : goal.returns-in_err-read_heats-clause-refused
returns-in_err-read_heats-clause-refused c = λ number is line.
    let ls : List (Bor (List ℕ)) = c.args.lines.now in
    let refused : IsErrOf c.read_heats.result (Hour number) = search rules in
    let told = c.read_heats.ensures.refused number refused in
    let rest : c.split_at.result.1.now ≡ drop 3 ls = c.split_at.ensures.back ∙ (ap (λ (n : ℕ). drop n ls) c.min.ensures ∙ drop_min 3 ls) in
    told.2 (subst (λ (those : List (List ℕ)). IsHeatLine (line_at those told.0)) (sym (rest_is ls c.split_at.result.1.now rest))
    (heat_line_at (map now ls) told.0 number told.1 line))

pub returns-clause-hour : goal.returns-clause-hour
returns-clause-hour c =
    let ls : List (Bor (List ℕ)) = c.args.lines.now in
    let rest : c.split_at.result.1.now ≡ drop 3 ls = c.split_at.ensures.back ∙ (ap (λ (n : ℕ). drop n ls) c.min.ensures ∙ drop_min 3 ls) in
    let those : map now c.split_at.result.1.now ≡ drop 3 (map now ls) = rest_is ls c.split_at.result.1.now rest in
    record {
      first = search rules;
      second = subst (λ (line : List ℕ). AreTwoWords line (string_bytes c.in_ok-read_file_system.field-0.name)
          (string_bytes c.in_ok-read_file_system.field-0.fsid)) c.line_at-2.ensures c.in_ok-read_file_system.ensures.words;
      third = subst IsSpreadLine c.line_at-3.ensures c.in_ok-read_spread.ensures.line;
      spread = c.in_ok-read_spread.ensures.heats ∙ ap spread_of c.line_at-3.ensures;
      others = subst (All IsHeatLine) those c.in_ok-read_heats.ensures.lines;
      heats = c.in_ok-read_heats.ensures.heats ∙ ap (flat_map line_heats) those;
    }
