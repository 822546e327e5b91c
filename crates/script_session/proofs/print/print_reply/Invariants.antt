use Rattle.std.proofs.Common.{◌≡◌, ◌++◌, ℕ, List, string_bytes, take}
use Rattle.std.specs.Io.KnownBytes.{Appends}
use Rattle.script_session.specs.Printed.{joined}
use Rattle.script_session.specs.Reply.{reply_lines}
use Rattle.script_session.proofs.print.print_reply.Given as goal

-- the lines so far are written, but for those in the chunk
abbrev pub invariant-loop-index : goal.invariant-loop-index
invariant-loop-index g l = record {
  front : List ℕ;
  written : Appends (g.W.Write.contents l.initial.writer) (g.W.Write.contents l.writer) front;
  whole : front ++ string_bytes l.page.chunk ≡ joined (take l.index (reply_lines l.initial.board l.reply));
  same : l.board ≡ l.initial.board;
}
