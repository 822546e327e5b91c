use Rattle.std.proofs.Common.{◌≡◌, ◌<◌, ◌∙◌, IsUtf8, List, ℕ, ap, arith, get_or, option_and_then, subst, sym}
use Rattle.std.proofs.lemmas.Result.{IfErr-weaker}
use Rattle.json.specs.Json.{document}
use Rattle.ceph_dumps.specs.DumpText.{dump_text}
use Rattle.ceph_dumps.proofs.DumpUtf8.{dump_utf8}
use Rattle.ceph_dumps.proofs.dump.read_bytes.Goals as goal

pub returns-then-is_plain-clause-none : goal.returns-then-is_plain-clause-none
returns-then-is_plain-clause-none g c =
    let bytes : List ℕ = c.args.bytes.now in
    let plain : dump_text bytes ≡ bytes = c.is_plain.ensures c.if-is_plain.true in
    let small : (i : ℕ) → get_or bytes i 0 < 256 = λ i. omega (arith, c.type_inv.bytes i) in
    IfErr-weaker c.read_text.result _ _
    (λ error none other.
    ap (λ (text : List ℕ). option_and_then g.T.Dump.said (document text)) plain ∙ none other (subst IsUtf8 plain (dump_utf8 bytes small)))
    c.read_text.ensures.none

pub returns-clause-none : goal.returns-clause-none
returns-clause-none g c =
    let bytes : List ℕ = c.args.bytes.now in
    let is : c.as_slice.result.now ≡ dump_text bytes = c.as_slice.ensures.value ∙ c.in_ok-text.ensures in
    let small : (i : ℕ) → get_or bytes i 0 < 256 = λ i. omega (arith, c.type_inv.bytes i) in
    IfErr-weaker c.read_text-2.result _ _
    (λ error none other.
    ap (λ (text : List ℕ). option_and_then g.T.Dump.said (document text)) (sym is) ∙ none other (subst IsUtf8 (sym is) (dump_utf8 bytes small)))
    c.read_text-2.ensures.none
