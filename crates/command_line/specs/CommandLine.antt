-- The command line of `mdbal`, as a command of `clap`, and what its words name.
use Rattle.std.specs.Prelude.{ℕ, Bool, List, Some, pos, codes, Option, option_map, unwrap_or, true, false}
use Rattle.std.specs.Option.{option_map_or}
use Rattle.std.specs.Str.{bytes_eq}
use Rattle.std.specs.Str.Parse.{digits_value, without_leading_plus}
use Rattle.clap.specs.Words.{App, Rule, Text, first_of, matches_of, new_app, new_rule, one_of, with_rule}
use Rattle.clap.specs.declared.builder.action.ArgAction.TheVariants.{SetTrue}
use Rattle.clap.specs.declared.builder.value_parser.ValueParser.TheVariants as parser
use Rattle.mds_types.specs.declared.limits.TheConstants.{DIR_LIMIT}

-- `--limit N`, a number from 1 to the most directory numbers of a tree
abbrev pub limit_rule : Rule
limit_rule = record (new_rule (codes "limit")) {
  long = Some (codes "limit");
  value_names = 1;
  parser = Some (parser.Signed (pos 1) (pos DIR_LIMIT));
}

-- `--strict`, with no value
abbrev pub strict_rule : Rule
strict_rule = record (new_rule (codes "strict")) {
  long = Some (codes "strict");
  action = Some SetTrue;
  parser = Some parser.Bool;
}

-- `--proofs FILE`
abbrev pub proofs_rule : Rule
proofs_rule = record (new_rule (codes "proofs")) {
  long = Some (codes "proofs");
  value_names = 1;
}

-- `--quiet`, with no value
abbrev pub quiet_rule : Rule
quiet_rule = record (new_rule (codes "quiet")) {
  long = Some (codes "quiet");
  action = Some SetTrue;
  parser = Some parser.Bool;
}

-- the program, which has a version
abbrev pub versioned : App
versioned = let app = new_app (codes "mdbal") in record app { top = record app.top { has_version = true } }

-- `mdbal [--limit N] [--strict] [--proofs FILE] [--quiet]`, which has a version
abbrev pub mdbal : App
mdbal = with_rule (with_rule (with_rule (with_rule versioned limit_rule) strict_rule) proofs_rule) quiet_rule

-- the number of a text of decimal digits
abbrev pub number_of : Text → ℕ
number_of text = digits_value 10 (without_leading_plus text)

-- the limit that the words name, or the most where they name none
abbrev pub limit_of : List Text → ℕ
limit_of words = unwrap_or (option_map number_of (one_of (codes "limit") (matches_of mdbal words))) DIR_LIMIT

-- the words have `--strict`
abbrev pub is_strict : List Text → Bool
is_strict words =
    option_map_or (λ text. bytes_eq text (codes "true")) (one_of (codes "strict") (matches_of mdbal words)) false

-- the words have `--quiet`
abbrev pub is_quiet : List Text → Bool
is_quiet words =
    option_map_or (λ text. bytes_eq text (codes "true")) (one_of (codes "quiet") (matches_of mdbal words)) false

-- the file that `--proofs` names
abbrev pub proofs_of : List Text → Option Text
proofs_of words = first_of (codes "proofs") (matches_of mdbal words)
