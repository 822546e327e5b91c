use Rattle.rank_threads.proofs.turns.Rounds.take_all.Given as goal

-- so many rounds have begun
abbrev pub invariant-loop-round : goal.invariant-loop-round
invariant-loop-round g l = g.B.Breaks.HasBegun l.round l.breaks
