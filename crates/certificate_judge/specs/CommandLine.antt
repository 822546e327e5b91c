-- The command line of `mdbal_check`, as a command of `clap`, and what its words name.
use Rattle.std.specs.Prelude.{List, Some, None, codes, Option, true, if◌then◌else◌}
use Rattle.std.specs.Str.{bytes_eq}
use Rattle.clap.specs.Words.{App, Rule, Text, first_of, matches_of, new_app, new_rule, with_rule}

-- `FILE`
abbrev pub file_rule : Rule
file_rule = record (new_rule (codes "file")) { value_names = 1 }

-- the program, which has a version
abbrev pub checker_app : App
checker_app = let app = new_app (codes "mdbal_check") in record app { top = record app.top { has_version = true } }

-- `mdbal_check [FILE]`, which has a version
abbrev pub mdbal_check : App
mdbal_check = with_rule checker_app file_rule

-- no file where the name is a dash
abbrev pub unless_dash : Option Text → Option Text
unless_dash None = None
unless_dash (Some name) = if bytes_eq name (codes "-") then None else Some name

-- the file that the words name, or none for standard input
abbrev pub file_of : List Text → Option Text
file_of words = unless_dash (first_of (codes "file") (matches_of mdbal_check words))
