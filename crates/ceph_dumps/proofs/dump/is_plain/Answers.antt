use Rattle.std.proofs.Common.{◌≤◌, ◌<◌, ◌∙◌, All, ap, arith}
use Rattle.std.proofs.lemmas.Bool.{not-true}
use Rattle.std.proofs.lemmas.List.Elements.{All-weaker}
use Rattle.ceph_dumps.specs.DumpText.{HasNoWord, written_over}
use Rattle.ceph_dumps.specs.declared.bare_words.Place.TheVariants.{Bare}
use Rattle.ceph_dumps.proofs.Narrow.{wide-plain}
use Rattle.ceph_dumps.proofs.PlainText.{stays}
use Rattle.ceph_dumps.proofs.dump.is_plain.Goals as goal

pub returns-then-greatest-lt128 : goal.returns-then-greatest-lt128
returns-then-greatest-lt128 c = λ none.
    let small : All (λ byte. byte < 128) c.args.bytes.now =
    All-weaker (λ byte. byte ≤ c.greatest.result) (λ byte. byte < 128) (λ byte within. omega (arith, c.if-greatest-lt128.true))
    c.args.bytes.now c.greatest.ensures in
    let has_none : HasNoWord c.args.bytes.now = c.may_have_words.ensures (not-true c.may_have_words.result none) in
    ap (λ text. written_over 0 Bare text) (wide-plain c.args.bytes.now small) ∙ stays c.args.bytes.now Bare has_none
