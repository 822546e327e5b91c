use Rattle.std.proofs.Common.{◌≡◌, ◌∙◌, ◌∷◌, [], ◌++◌, List, ℕ, Global, Vec, ap, arith, get_or, take}
use Rattle.std.specs.List.{flat_map}
use Rattle.std.proofs.lemmas.List.{take_all}
use Rattle.ceph_plan.specs.Words.{escaped}
use Rattle.ceph_plan.proofs.Quoting.{escaped-other, escaped-quote, quoted-more, word-for}
use Rattle.ceph_plan.proofs.quote.quoted.Goals as goal
use Rattle.ceph_plan.proofs.quote.quoted.Goals.{then-byte-eq39+in_ok-extend_from_slice, else-byte-eq39+in_ok-push-2}

pub returns : goal.returns
returns c =
    let all : take c.loop-byte.byte-index c.args.bytes.now ≡ c.args.bytes.now = take_all c.loop-byte.byte-index c.args.bytes.now (omega arith) in
    let whole : c.push-2.new.self.items ≡ (39 ∷ flat_map escaped c.args.bytes.now) ++ 39 ∷ [] =
    c.in_ok-push-3.ensures.items
    ∙ ap (λ (w : List ℕ). w ++ 39 ∷ []) (c.loop-byte.invariant ∙ ap (λ (xs : List ℕ). 39 ∷ flat_map escaped xs) all) in
    record {
      word = whole;
      read = word-for c.args.bytes.now c.push-2.new.self.items c.requires whole;
    }

pub loop-byte-preserved : goal.loop-byte-preserved
loop-byte-preserved c =
    let bytes : List ℕ = c.args.bytes.now in
    let i : ℕ = c.loop-byte.byte-index in
    let word : List ℕ = c.loop-byte.word.items in
    elim c.if-byte-eq39.branch [
      | then-byte-eq39+in_ok-extend_from_slice w ↦
          quoted-more bytes word c.if-byte-eq39.word.items i c.loop-byte-test.true c.loop-byte.invariant
          (ap (λ (word : Vec ℕ Global). word.items) w.word-is
          ∙ (w.in_ok-extend_from_slice.ensures.items ∙ ap (λ (more : List ℕ). word ++ more) (escaped-quote (get_or bytes i 0) w.if-byte-eq39.true)))
      | else-byte-eq39+in_ok-push-2 w ↦
          quoted-more bytes word c.if-byte-eq39.word.items i c.loop-byte-test.true c.loop-byte.invariant
          (ap (λ (word : Vec ℕ Global). word.items) w.word-is
          ∙ (w.in_ok-push-2.ensures.items ∙ ap (λ (more : List ℕ). word ++ more) (escaped-other (get_or bytes i 0) w.if-byte-eq39.false)))
    ]
