-- How the refusals of a tree are printed.
use Rattle.std.specs.Prelude.{ℕ, List}
use Rattle.mds_types.specs.declared.refusal.Refusal.{Refusal}
use Rattle.mds_types.specs.declared.refusal.Refusal.TheVariants as refusal
use Rattle.mds_types.specs.Refusal.{name}
use Rattle.dirtree.specs.declared.tree_error.TreeError as error

abbrev pub refusal_of : error.TreeError → Refusal
refusal_of error.TheVariants.Memory = refusal.Memory
refusal_of error.TheVariants.NoDir = refusal.NoDir
refusal_of error.TheVariants.Exists = refusal.Exists
refusal_of error.TheVariants.BadName = refusal.BadName
refusal_of error.TheVariants.NotEmpty = refusal.NotEmpty
refusal_of error.TheVariants.IsRoot = refusal.IsRoot
refusal_of error.TheVariants.TreeFull = refusal.TreeFull

-- the number and the name
abbrev pub words : error.TreeError → List ℕ
words e = name (refusal_of e)
