-- What an error says of a broken dump.
use Rattle.std.specs.Prelude.{⊤, ℕ, List, string_bytes}
use Rattle.ceph_dumps.specs.declared.dump_error.DumpError.{DumpError}
use Rattle.ceph_dumps.specs.declared.dump_error.DumpError.TheVariants.{Json}
use Rattle.ceph_dumps.specs.KeyPath.{IsPlaceOf}

-- where the text of a dump isn't what it should be, line, column and path are those of one byte of it
abbrev pub IsToldOf : List ℕ → DumpError → Type 0
IsToldOf text (Json line column path reason) = IsPlaceOf text line column (string_bytes path)
IsToldOf text _ = ⊤
