-- Why a line is faulty, in the words that are printed.
use Rattle.std.specs.Prelude.{ℕ, List, ◌++◌, codes}
use Rattle.mds_types.specs.declared.refusal.Refusal.{Refusal}
use Rattle.mds_types.specs.declared.refusal.Refusal.TheVariants as refusal
use Rattle.mds_types.specs.Refusal as refusal_words
use Rattle.mds_board.specs.Refused.{refusal_of}
use Rattle.script_board.specs.declared.fault.Fault.{Fault}
use Rattle.script_board.specs.declared.fault.Fault.TheVariants.{Syntax, NoRanks, RanksAgain, Memory, Mask}
use Rattle.script_board.specs.declared.fault.Fault.TheVariants.{Refused, ShareFull, NoThread, Pinned}

-- a numbered refusal, with its value where there is one
abbrev pub refused : Refusal → List ℕ
refused r = codes "refused " ++ refusal_words.words r

abbrev pub words : Fault → List ℕ
words Syntax = codes "syntax"
words NoRanks = codes "no ranks"
words RanksAgain = codes "ranks again"
words Memory = refused refusal.Memory
words Mask = refused refusal.BadMask
words (Refused error) = refused (refusal_of error)
words ShareFull = refused refusal.ShareFull
words NoThread = refused refusal.NoThread
words Pinned = refused refusal.Pinned
