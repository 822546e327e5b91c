use Rattle.std.proofs.Common.{◌∙◌, ◌≤◌, ◌<◌, All, None, arith, ap, sym}
use Rattle.std.proofs.lemmas.Result.{IfOk-weaker}
use Rattle.std.proofs.lemmas.List.Elements.{All-weaker}
use Rattle.ceph_dumps.specs.WideBytes.{narrow_behind}
use Rattle.ceph_dumps.proofs.Narrow.{narrow-end, narrow-plain, narrow-wide}
use Rattle.ceph_dumps.proofs.wide_bytes.narrowed.Goals as goal

pub returns : goal.returns
returns c =
    let read = narrow-end c.loop-byte.bytes.items c.args.text.now c.loop-byte.lead c.loop-byte.byte-index c.loop-byte.invariant (omega arith) in
    record {
      is = read;
      back = λ bytes all same. read ∙ ap (λ text. narrow_behind None text) same ∙ narrow-wide bytes all;
    }

pub returns-then-greatest-lt128 : goal.returns-then-greatest-lt128
returns-then-greatest-lt128 c =
    let small : All (λ byte. byte < 128) c.args.text.now =
    All-weaker (λ byte. byte ≤ c.greatest.result) (λ byte. byte < 128) (λ byte within. omega (arith, c.if-greatest-lt128.true))
    c.args.text.now c.greatest.ensures in
    record {
      is = IfOk-weaker c.from_slice.result _ _ (λ found same. same ∙ sym (narrow-plain c.args.text.now small)) c.from_slice.ensures.items;
      back = IfOk-weaker c.from_slice.result _ _
          (λ found same bytes all is.
          same
          ∙ sym (narrow-plain c.args.text.now small)
          ∙ ap (λ text. narrow_behind None text) is
          ∙ narrow-wide bytes all)
          c.from_slice.ensures.items;
    }
