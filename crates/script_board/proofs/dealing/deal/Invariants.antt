use Rattle.std.proofs.Common.{map, take}
use Rattle.std.specs.Prelude.{filter}
use Rattle.dirtree.specs.Tree.{is_there}
use Rattle.script_board.specs.Serve.{IsDealt}
use Rattle.script_board.proofs.dealing.deal.Given as goal

-- the requests so far are dealt
abbrev pub invariant-loop-load : goal.invariant-loop-load
invariant-loop-load g l = IsDealt l.board l.ranks (filter (λ x. is_there l.board.state.directories.entries x.dir) (take l.load-index l.loads))
    (map (λ s. s.items) l.dealt.scripts.items) l.dealt.seats.items
