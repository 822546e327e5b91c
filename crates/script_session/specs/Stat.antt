-- What the command `stat` prints.
use Rattle.std.specs.Prelude.{ℕ, ◌+◌, List, [], ◌∷◌, ◌++◌, length, map, codes, decimal}
use Rattle.std.specs.Prelude.{slice_index, Option, Some, None}
use Rattle.authority_map.specs.Operations.{rank_after}
use Rattle.heat_ledger.specs.Rows.{at, entry}
use Rattle.mds_types.specs.declared.kind.Kind.{Kind}
use Rattle.mds_types.specs.declared.kind.Kind.TheVariants.{Read, Write}
use Rattle.mds_types.specs.RankSet.{rank_count}
use Rattle.dirtree.specs.Path.{path_of}
use Rattle.dir_pins.specs.Pins.{nearest_pin}
use Rattle.mds_board.specs.State.{usable}
use Rattle.script_board.specs.Board.{BoardData}
use Rattle.script_board.specs.Stat.{directories}

-- a rank, if there is one
abbrev pub rank_text : Option ℕ → List ℕ
rank_text None = codes "-"
rank_text (Some rank) = decimal rank

-- the line on the cluster
abbrev pub cluster_line : BoardData → List ℕ
cluster_line b =
    codes "stat ranks " ++ decimal b.world.state.pins.active
    ++ codes " usable " ++ decimal (rank_count (usable b.world.state))
    ++ codes " directories " ++ decimal (length (directories b.world.state.directories.entries)) ++ 10 ∷ []

-- the hits of a kind on a directory that were deposited
abbrev pub deposited_hits : BoardData → ℕ → Kind → ℕ
deposited_hits b d kind = at b.world.state.counted (entry d kind)

-- the line on a directory: the pin that holds there, the rank in the published map, the hits, and those that are writes
abbrev pub dir_line : BoardData → ℕ → List ℕ
dir_line b d =
    codes "dir " ++ decimal d ++ codes " " ++ path_of b.world.state.directories.entries d
    ++ codes " pin " ++ rank_text (nearest_pin b.world.state.directories.entries b.world.state.pins.own d)
    ++ codes " rank " ++ rank_text (rank_after b.world.published d)
    ++ codes " heat " ++ decimal (slice_index b.world.state.heats.heats d)
    ++ codes " hits " ++ decimal (deposited_hits b d Read + deposited_hits b d Write)
    ++ codes " writes " ++ decimal (deposited_hits b d Write) ++ 10 ∷ []

-- the line on the cluster, and then a line a directory
abbrev pub stat_lines : BoardData → List (List ℕ)
stat_lines b = cluster_line b ∷ map (dir_line b) (directories b.world.state.directories.entries)
