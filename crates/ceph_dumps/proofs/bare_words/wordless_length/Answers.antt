use Rattle.std.proofs.Common.{◌≡◌, ◌≢◌, ◌∙◌, ℕ, List, Option, None, Some, arith, is_some, refl, sym, take, false}
use Rattle.std.proofs.lemmas.List.Elements.{All-from_get_or}
use Rattle.memchr.specs.Find.{IsFirstByte, is_byte}
use Rattle.ceph_dumps.specs.DumpText.{HasNoBackslash}
use Rattle.ceph_dumps.proofs.PlainText.{wordless_piece}
use Rattle.ceph_dumps.proofs.bare_words.wordless_length.Goals as goal

no_backslash : (text : List ℕ) (found : Option ℕ) → IsFirstByte (is_byte 92) text found → is_some found ≡ false → HasNoBackslash text
no_backslash text (Some at) is none = absurd (cc)
no_backslash text None is none =
    All-from_get_or (λ byte. byte ≢ 92) text 0 (λ i inside. λ same. is i (omega arith) inside (rw same refl))

pub returns : goal.returns
returns c =
    wordless_piece c.args.text.now 4096 (omega (arith, c.if-text.false)) (c.may_have_words.ensures c.if-may_have_words.false)
    (no_backslash (take 4099 c.args.text.now) c.memchr.result c.memchr.ensures (sym c.is_some.ensures ∙ c.if-is_some.false))
