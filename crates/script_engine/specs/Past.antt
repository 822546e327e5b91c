-- The bytes that went through a device.
use Rattle.std.specs.Prelude.{ℕ, List, [], ◌∷◌, ◌++◌}
use Rattle.script_engine.specs.declared.past.Past.{Past, Start, Then'}

abbrev pub bytes_of : Past → List ℕ
bytes_of Start = []
bytes_of (Then' _ before byte) = bytes_of before ++ byte ∷ []
