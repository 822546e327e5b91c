use Rattle.std.proofs.Common.{◌≡◌, ◌++◌, ◌+◌, ◌<◌, ℕ, [], List, ap, append-nil, append_assoc, arith, get_or, length, rules, string_bytes, subst, sym, take, ◌∙◌}
use Rattle.std.specs.Io.KnownBytes.{Appends}
use Rattle.std.proofs.KnownBytes.{Appends-trans}
use Rattle.script_board.specs.Board.{BoardData}
use Rattle.script_session.specs.Printed.{joined}
use Rattle.script_session.specs.Reply.{reply_lines}
use Rattle.script_session.proofs.LineLemmas.{joined_more, lines_front}
use Rattle.script_session.proofs.print.print_reply.Goals as goal
use Rattle.script_session.proofs.print.print_reply.Goals.{then-len-ge-CHUNK_SIZE+in_ok-write_whole, else-len-ge-CHUNK_SIZE}

pub returns-in_err-write_whole-in-Err-clause-write : goal.returns-in_err-write_whole-in-Err-clause-write
returns-in_err-write_whole-in-Err-clause-write g c = λ failed.
    let inv = c.loop-index.invariant in
    let lines : List (List ℕ) = reply_lines c.args.board.now c.args.reply.now in
    lines_front (g.W.Write.contents c.args.writer.now) (g.W.Write.contents c.loop-index.writer) (g.W.Write.contents c.write_whole.new.writer)
    inv.front c.as_bytes.result.now lines c.loop-index.index inv.written c.in_err-write_whole-in-Err.ensures.err
    (ap (λ (t : List ℕ). inv.front ++ t) (c.as_bytes.ensures.value ∙ c.in-Err.ensures.unchanged) ∙ inv.whole)

pub returns-in-Err-clause-memory : goal.returns-in-Err-clause-memory
returns-in-Err-clause-memory g c = λ failed.
    let inv = c.loop-index.invariant in
    let i : ℕ = c.loop-index.index in
    let lines : List (List ℕ) = reply_lines c.args.board.now c.args.reply.now in
    let first = g.W.Write.contents c.args.writer.now in
    let last = g.W.Write.contents c.write_whole.new.writer in
    let count : c.line_count-index-end.result ≡ length lines = c.line_count-index-end.ensures c.args.board.now c.requires in (
      i,
      omega (arith, count, c.loop-index-test.true),
      subst (λ (t : List ℕ). Appends first last t) (ap (λ (t : List ℕ). inv.front ++ t) (c.as_bytes.ensures.value ∙ c.in-Err.ensures.unchanged) ∙ inv.whole)
          (Appends-trans first (g.W.Write.contents c.loop-index.writer) last inv.front c.as_bytes.result.now inv.written c.in_ok-write_whole-in-Err.ensures.ok),
    )

pub returns-in_err-write_whole-clause-write : goal.returns-in_err-write_whole-clause-write
returns-in_err-write_whole-clause-write g c = λ failed.
    let inv = c.loop-index.invariant in
    let i : ℕ = c.loop-index.index in
    let lines : List (List ℕ) = reply_lines c.args.board.now c.args.reply.now in
    let count : c.line_count-index-end.result ≡ length lines = c.line_count-index-end.ensures c.args.board.now c.requires in
    let inside : i < length lines = omega (arith, count, c.loop-index-test.true) in
    let line : string_bytes c.push_line.new.page.chunk ≡ string_bytes c.loop-index.page.chunk ++ get_or lines i [] = c.in-Ok.ensures.more
    ∙ ap (λ (b : BoardData). string_bytes c.loop-index.page.chunk ++ get_or (reply_lines b c.args.reply.now) i []) inv.same in
    lines_front (g.W.Write.contents c.args.writer.now) (g.W.Write.contents c.loop-index.writer)
    (g.W.Write.contents c.write_whole-then-len-ge-CHUNK_SIZE.new.writer)
    inv.front c.as_bytes-then-len-ge-CHUNK_SIZE.result.now lines (i + 1) inv.written c.in_err-write_whole.ensures.err
    (ap (λ (t : List ℕ). inv.front ++ t) (c.as_bytes-then-len-ge-CHUNK_SIZE.ensures.value ∙ line)
    ∙ sym (append_assoc inv.front (string_bytes c.loop-index.page.chunk) (get_or lines i []))
    ∙ ap (λ (t : List ℕ). t ++ get_or lines i []) inv.whole ∙ sym (joined_more lines i inside))

pub loop-index-preserved : goal.loop-index-preserved
loop-index-preserved g c =
    let inv = c.loop-index.invariant in
    let i : ℕ = c.loop-index.index in
    let lines : List (List ℕ) = reply_lines c.args.board.now c.args.reply.now in
    let first = g.W.Write.contents c.args.writer.now in
    let count : c.line_count-index-end.result ≡ length lines = c.line_count-index-end.ensures c.args.board.now c.requires in
    let inside : i < length lines = omega (arith, count, c.loop-index-test.true) in
    let line : string_bytes c.push_line.new.page.chunk ≡ string_bytes c.loop-index.page.chunk ++ get_or lines i [] = c.in-Ok.ensures.more
    ∙ ap (λ (b : BoardData). string_bytes c.loop-index.page.chunk ++ get_or (reply_lines b c.args.reply.now) i []) inv.same in
    let whole : inv.front ++ string_bytes c.push_line.new.page.chunk
    ≡ joined (take (i + 1) lines) = ap (λ (t : List ℕ). inv.front ++ t) line
    ∙ sym (append_assoc inv.front (string_bytes c.loop-index.page.chunk) (get_or lines i []))
    ∙ ap (λ (t : List ℕ). t ++ get_or lines i []) inv.whole ∙ sym (joined_more lines i inside) in
    elim c.if-len-ge-CHUNK_SIZE.branch [
      | then-len-ge-CHUNK_SIZE+in_ok-write_whole w ↦
          let last = g.W.Write.contents w.write_whole-then-len-ge-CHUNK_SIZE.new.writer in
          let written = Appends-trans first (g.W.Write.contents c.loop-index.writer) last inv.front
          w.as_bytes-then-len-ge-CHUNK_SIZE.result.now inv.written w.in_ok-write_whole.ensures.ok in
          let none : string_bytes w.clear-then-len-ge-CHUNK_SIZE.new.self ≡ [] = search rules in
          record {
            front = inv.front ++ string_bytes c.push_line.new.page.chunk;
            written = rw w.writer-is (subst (λ (t : List ℕ). Appends first last (inv.front ++ t)) w.as_bytes-then-len-ge-CHUNK_SIZE.ensures.value written);
            whole = rw w.page-is (ap (λ (t : List ℕ). (inv.front ++ string_bytes c.push_line.new.page.chunk) ++ t) none
                ∙ append-nil (inv.front ++ string_bytes c.push_line.new.page.chunk) ∙ whole);
            same = c.push_line.ensures.same ∙ inv.same;
          }
      | else-len-ge-CHUNK_SIZE w ↦ record {
        front = inv.front;
        written = rw w.writer-is inv.written;
        whole = rw w.page-is whole;
        same = c.push_line.ensures.same ∙ inv.same;
      }
    ]

pub returns-in_err-write_whole-2-clause-write : goal.returns-in_err-write_whole-2-clause-write
returns-in_err-write_whole-2-clause-write g c = λ failed.
    let inv = c.loop-index.invariant in
    let lines : List (List ℕ) = reply_lines c.args.board.now c.args.reply.now in
    lines_front (g.W.Write.contents c.args.writer.now) (g.W.Write.contents c.loop-index.writer) (g.W.Write.contents c.write_whole-2.new.writer)
    inv.front c.as_bytes-2.result.now lines c.loop-index.index inv.written c.in_err-write_whole-2.ensures.err
    (ap (λ (t : List ℕ). inv.front ++ t) c.as_bytes-2.ensures.value ∙ inv.whole)
