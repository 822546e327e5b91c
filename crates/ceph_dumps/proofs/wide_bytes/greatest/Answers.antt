use Rattle.std.proofs.Common.{◌≤◌, ◌<◌, ◌≡◌, ◌+◌, ℕ, List, All, arith, get_or, length, max, refl, subst, take}
use Rattle.std.proofs.Math.Nat.{le-max_left, le-max_right}
use Rattle.std.proofs.lemmas.List.{take_all}
use Rattle.std.proofs.lemmas.List.Elements.{All-more, All-weaker}
use Rattle.ceph_dumps.proofs.wide_bytes.greatest.Goals as goal

-- one more byte, where the greatest so far and it are within another number
more : (bytes : List ℕ) (i m n : ℕ) (b : ℕ) → i < length bytes → b ≡ get_or bytes i 0 → All (λ byte. byte ≤ m) (take i bytes) → n ≡ max b m
    → All (λ byte. byte ≤ n) (take (i + 1) bytes)
more bytes i m n b lt at all is =
    let left : b ≤ max b m = le-max_left b m in
    let right : m ≤ max b m = le-max_right b m in
    All-more (λ byte. byte ≤ n) bytes i 0 lt
    (All-weaker (λ byte. byte ≤ m) (λ byte. byte ≤ n) (λ byte within. omega arith) (take i bytes) all)
    (omega arith)

pub loop-byte-preserved : goal.loop-byte-preserved
loop-byte-preserved c =
    more c.args.bytes.now c.loop-byte.byte-index c.loop-byte.greatest c.max-greatest.result _ c.loop-byte-test.true refl
    c.loop-byte.invariant c.max-greatest.ensures

pub returns : goal.returns
returns c =
    subst (λ (bytes : List ℕ). All (λ byte. byte ≤ c.loop-byte.greatest) bytes)
    (take_all c.loop-byte.byte-index c.args.bytes.now c.loop-byte-test.false)
    c.loop-byte.invariant
