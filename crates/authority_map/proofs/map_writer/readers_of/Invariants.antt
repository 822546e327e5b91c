use Rattle.std.proofs.Common.{◌≡◌, ◌≤◌, All, vec_len, vec_capacity}
use Rattle.authority_map.proofs.map_writer.readers_of.Given as goal

abbrev pub invariant-loop-made : goal.invariant-loop-made
invariant-loop-made g l = (vec_len l.list ≡ l.made) × (l.readers ≤ vec_capacity l.list) × All (λ reader. reader ≡ l.start) l.list.items
