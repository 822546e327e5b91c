-- A problem that was opened, as the writer keeps it.
use Rattle.std.specs.Prelude.{◌≡◌, length, IfSome, Option}
use Rattle.board_certificates.specs.Certificates.{PosedData}
use Rattle.board_certificates.specs.declared.opened.Posed.{Posed}

abbrev pub posed_of : Posed → PosedData
posed_of p = record { problem = p.problem.now; names = p.names }

-- each row has a name
abbrev pub IsSized : Option PosedData → Type 0
IsSized last = IfSome last (λ p. length p.names ≡ length p.problem.rows)
