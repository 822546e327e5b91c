use Rattle.std.proofs.Common.{◌≢◌, ◌∙◌, ap, get_or}
use Rattle.std.proofs.lemmas.List.Elements.{All-get_or}
use Rattle.ceph_dumps.specs.KeyPath.{place_after}
use Rattle.ceph_dumps.proofs.WordsOver.{behind_more, turned}
use Rattle.ceph_dumps.proofs.bare_words.is_quoted_behind.Goals as goal

pub loop-byte-preserved : goal.loop-byte-preserved
loop-byte-preserved c = λ none.
    let l = c.loop-byte in
    let text = c.args.text.now in
    let byte = get_or text l.byte-index 0 in
    behind_more _ text l.byte-index c.loop-byte-test.true
    ∙ ap (λ place. place_after place byte) (l.invariant none)
    ∙ turned l.is_quoted byte (All-get_or (λ b. b ≢ 92) text l.byte-index 0 c.loop-byte-test.true none)
