-- What is known of the devices of a run: in proofs, the bytes that went through them.
use Rattle.std.specs.Prelude.{ℕ, Bool, List}

-- a reader, the bytes that it gave so far, how often it was read, whether it came to its end: whether a read that
-- had room gave nothing, and whether a read has failed
pub record Reading (R : Type 0) : Type 0 where
  pub reader : R
  pub given : List ℕ
  pub reads : ℕ
  pub ended : Bool
  pub failed : Bool
