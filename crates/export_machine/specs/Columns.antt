-- The table of directories as lists, one for each of its columns.
use Rattle.std.specs.Prelude.{ℕ, Bool, nat_lt, List, Option, map, Vec, vec_len, vec_capacity}
use Rattle.export_machine.specs.declared.dir_table.DirRow.{DirRow}

-- there is room for one more
abbrev pub has_spare : {T A : Type 0} → Vec T A → Bool
has_spare v = nat_lt (vec_len v) (vec_capacity v)

-- by directory
pub record DirColumns : Type 0 where
  pub parents : List (Option ℕ)  -- its parent, while it is there
  pub named : List (Option ℕ)  -- the rank that the map names for it
  pub owners : List (Option ℕ)  -- its authority
  pub opened : List (Option ℕ)  -- the open export that it is in
  pub running : List ℕ  -- how many requests run on it
  pub children : List ℕ  -- how many children it has
  pub spare : Bool  -- whether there is room for one more directory

abbrev pub columns_of : {A : Type 0} → Vec DirRow A → DirColumns
columns_of v = record {
  parents = map (λ row. row.parent) v.items;
  named = map (λ row. row.named) v.items;
  owners = map (λ row. row.owner) v.items;
  opened = map (λ row. row.opened) v.items;
  running = map (λ row. row.running) v.items;
  children = map (λ row. row.children) v.items;
  spare = has_spare v;
}
