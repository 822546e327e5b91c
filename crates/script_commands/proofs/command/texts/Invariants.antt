use Rattle.std.proofs.Common.{◌≡◌, map, take}
use Rattle.script_commands.proofs.command.texts.Given as goal

-- the fields so far, as texts
abbrev pub invariant-loop-field : goal.invariant-loop-field
invariant-loop-field l = map (λ path. path.now) l.paths.items ≡ map (λ field. field.now) (take l.field-index l.rest)
