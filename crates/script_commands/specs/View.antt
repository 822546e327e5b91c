-- What the code's commands say, without where memory holds their paths.
use Rattle.std.specs.Prelude.{map}
use Rattle.script_commands.specs.Commands as line
use Rattle.script_commands.specs.declared.command.Command.{Command}
use Rattle.script_commands.specs.declared.command.Command.TheVariants as made
use Rattle.script_commands.specs.declared.line.Asked.{Asked}
use Rattle.script_commands.specs.declared.line.Asked.TheVariants as found

abbrev pub view : Command → line.Command
view (made.Ranks n) = line.Ranks n.number
view (made.Mask text) = line.Mask text.now
view (made.MakeDir path n) = line.MakeDir path.now n
view (made.RemoveDir path) = line.RemoveDir path.now
view (made.Pin path value) = line.Pin path.now value
view (made.Load path n kind) = line.Load path.now n kind
view (made.Weight read write) = line.Weight read write
view made.Go = line.Go
view made.Tick = line.Tick
view (made.Cost paths) = line.Cost (map (λ p. p.now) paths.items)
view made.Plan = line.Plan
view made.Move = line.Move
view made.Traffic = line.Traffic
view (made.Stop rank) = line.Stop rank
view (made.Restart rank) = line.Restart rank
view (made.Fail rank round) = line.Fail rank round
view made.Stat = line.Stat
view (made.Start export) = line.Start export.from export.to (map (λ p. p.now) export.paths.items)
view (made.Begin rank path) = line.Begin rank path.now
view (made.Step step) = line.Step step
view (made.Export export) = line.Export export
view (made.Journal rank) = line.Journal rank

abbrev pub asked_view : Asked → line.Asked
asked_view found.Nothing = line.Nothing
asked_view found.Syntax = line.Syntax
asked_view (found.Asks c) = line.Asks (view c)
