use Rattle.std.proofs.Common.{◌∙◌, ◌≡◌, ◌≤◌, ◌<◌, ◌++◌, ◌+◌, ℕ, List, All, Result, Ok, Err, OnOk, is_ok, if◌then◌else◌, ap, arith, get_or, length, sym, take}
use Rattle.std.proofs.lemmas.List.{flat_map_more, take_all, take_more}
use Rattle.std.proofs.lemmas.List.Elements.{All-weaker}
use Rattle.ceph_dumps.specs.WideBytes.{wide, wide_byte}
use Rattle.ceph_dumps.proofs.Narrow.{wide-plain}
use Rattle.ceph_dumps.proofs.wide_bytes.push_piece.Goals as goal

appended : {T E : Type 0} (r : Result T E) (old new piece text : List ℕ) → text ≡ piece → new ≡ (if is_ok r then old ++ piece else old)
    → OnOk r (new ≡ old ++ text)
appended (Ok x) old new piece text same is = is ∙ ap (λ (bytes : List ℕ). old ++ bytes) (sym same)
appended (Err e) old new piece text same is = tt

pub returns-then-greatest-lt128 : goal.returns-then-greatest-lt128
returns-then-greatest-lt128 c =
    let small : All (λ byte. byte < 128) c.args.piece.now =
    All-weaker (λ byte. byte ≤ c.greatest.result) (λ byte. byte < 128) (λ byte within. omega (arith, c.if-greatest-lt128.true))
    c.args.piece.now c.greatest.ensures in
    appended c.extend_from_slice.result c.args.text.now.items c.extend_from_slice.new.self.items c.args.piece.now (wide c.args.piece.now)
    (wide-plain c.args.piece.now small) c.extend_from_slice.ensures.items

-- one byte more is added as a character
more : (bytes old so_far new : List ℕ) (i : ℕ) → i < length bytes → so_far ≡ old ++ wide (take i bytes)
    → new ≡ so_far ++ wide_byte (get_or bytes i 0) → new ≡ old ++ wide (take (i + 1) bytes)
more bytes old so_far new i lt before is =
    is
    ∙ ap (λ (text : List ℕ). text ++ wide_byte (get_or bytes i 0)) before
    ∙ flat_map_more wide_byte old (take i bytes) (get_or bytes i 0)
    ∙ ap (λ (some : List ℕ). old ++ wide some) (sym (take_more bytes i 0 lt))

pub loop-byte-preserved : goal.loop-byte-preserved
loop-byte-preserved c =
    more c.args.piece.now c.args.text.now.items c.loop-byte.text.items c.push_wide.new.text.items c.loop-byte.byte-index
    c.loop-byte-test.true c.loop-byte.invariant c.in_ok-push_wide.ensures

pub returns : goal.returns
returns c =
    c.loop-byte.invariant
    ∙ ap (λ (some : List ℕ). c.args.text.now.items ++ wide some) (take_all c.loop-byte.byte-index c.args.piece.now c.loop-byte-test.false)
