-- What a share and the book of all shares count, and what their tokens know of it.
use Rattle.std.specs.Prelude.{◌≡◌, ℕ, zero, suc, ◌+◌, ◌*◌, ◌≤◌, Bool, true, false, List, [], ◌∷◌, length, sum_by}
use Rattle.heat_ledger.specs.declared.tally.TokenState.{TokenState}
use Rattle.mds_types.specs.declared.kind.Kind.TheVariants.{Read}
use Rattle.heat_ledger.specs.Counts.{CountsData}
use Rattle.heat_ledger.specs.Rows.{at, entry, sums, differences, IsZero}
use Rattle.heat_ledger.specs.Tally.{most, all_parts}

-- what a share has counted: by entry all hits and those that the book doesn't know yet, by directory begun requests
pub record ShareData : Type 0 where
  pub weight : ℕ
  pub hits : List ℕ
  pub pending : List ℕ
  pub begun : List ℕ

-- what the book of these shares has counted: deposited hits by entry, and begun requests by directory
pub record BookData : Type 0 where
  pub is_open : Bool
  pub shares : ℕ
  pub counted : List ℕ
  pub begun : List ℕ

-- no hit is pending
abbrev pub IsClean : ShareData → Type 0
IsClean share = IsZero share.pending

-- the weights of these shares together
abbrev pub weight_of : List ShareData → ℕ
weight_of shares = sum_by (λ share. share.weight) shares

-- the hits at an entry that these shares have counted
abbrev pub hits_of : List ShareData → ℕ → ℕ
hits_of shares e = sum_by (λ share. at share.hits e) shares

-- the hits at an entry that these shares haven't deposited
abbrev pub pending_of : List ShareData → ℕ → ℕ
pending_of shares e = sum_by (λ share. at share.pending e) shares

-- the requests on a directory that these shares have begun
abbrev pub begun_of : List ShareData → ℕ → ℕ
begun_of shares dir = sum_by (λ share. at share.begun dir) shares

-- the place of an entry's hits among a token's amounts
abbrev pub hit_slot : ℕ → ℕ
hit_slot e = e + e

-- the place of an entry's begun requests: those of a directory are at its entry for reads
abbrev pub begun_slot : ℕ → ℕ
begun_slot e = e + e + 1

-- the counts of a row, at the places for hits
abbrev pub spread : List ℕ → List ℕ
spread [] = []
spread (x ∷ xs) = x ∷ 0 ∷ spread xs

-- deposited hits and begun requests, each at its place
abbrev pub laid_out : CountsData → List ℕ
laid_out counts = sums (spread (differences counts.hits counts.pending)) (0 ∷ spread counts.begun)

-- 1 only at this place
abbrev pub unit : ℕ → List ℕ
unit zero = 1 ∷ []
unit (suc k) = 0 ∷ unit k

-- What was deposited, and what is pending, are the hits. A share's hits rest on its weight. All counts are by entry.
pub record IsShare (limit : ℕ) (state : TokenState) (weight : ℕ) (counts : CountsData) : Type 0 where
  pub holds : state.has_totals ≡ false
  pub weighs : state.parts ≡ weight
  pub some : 1 ≤ weight
  pub light : weight ≤ all_parts
  pub known : (e : ℕ) → at state.amounts (hit_slot e) + at counts.pending e ≡ at counts.hits e
  pub begins : (e : ℕ) → at state.amounts (begun_slot e) ≡ at counts.begun e
  pub room : (e : ℕ) → at counts.hits e ≤ weight * most
  pub as_hits : length counts.hits ≡ limit
  pub as_pending : length counts.pending ≡ limit
  pub as_begun : length counts.begun ≡ limit

-- a token of a share has what the share deposited, and what it began
pub record IsShareToken (state : TokenState) (share : ShareData) : Type 0 where
  pub holds : state.has_totals ≡ false
  pub weighs : state.parts ≡ share.weight
  pub known : (e : ℕ) → at state.amounts (hit_slot e) + at share.pending e ≡ at share.hits e
  pub begins : (dir : ℕ) → at state.amounts (begun_slot (entry dir Read)) ≡ at share.begun dir

-- What the book counted is what all shares deposited. All counts are by entry.
pub record IsBook (limit : ℕ) (state : TokenState) (shares : ℕ) (counted begun : List ℕ) : Type 0 where
  pub has_totals : state.has_totals ≡ true
  pub all_out : state.amounts ≡ []
  pub parts : state.parts + shares ≡ all_parts
  pub some : 1 ≤ shares
  pub known : (e : ℕ) → at state.totals (hit_slot e) ≡ at counted e
  pub begins : (e : ℕ) → at state.totals (begun_slot e) ≡ at begun e
  pub as_counted : length counted ≡ limit
  pub as_begun : length begun ≡ limit

-- how many of the shares are used up
abbrev pub closed_parts : Bool → ℕ → ℕ
closed_parts true shares = 0
closed_parts false shares = shares

-- the parts of the shares that are used up
pub record IsClosedPart (state : TokenState) (is_open : Bool) (shares : ℕ) : Type 0 where
  pub holds : state.has_totals ≡ false
  pub parts : state.parts ≡ closed_parts is_open shares
