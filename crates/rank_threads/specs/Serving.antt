-- How requests are answered, and what they count in the share of their rank.
use Rattle.std.specs.Prelude.{◌≡◌, ◌⊎◌, ℕ, ◌+◌, ◌^◌, ◌<◌, ◌≤◌, ◌==◌, if◌then◌else◌, List, [], ◌∷◌, Option, Some, None}
use Rattle.std.specs.List.{AllZip}
use Rattle.heat_ledger.specs.declared.hit_error.HitError.TheVariants.{NoDir, ShareFull}
use Rattle.heat_ledger.specs.Ledger.{ShareData, IsClean}
use Rattle.heat_ledger.specs.Rows.{at, entry, raised_by}
use Rattle.mds_types.specs.declared.kind.Kind.{Kind}
use Rattle.rank_threads.specs.declared.work.Work.{Work}
use Rattle.rank_threads.specs.declared.work.WorkAnswer.{WorkAnswer}
use Rattle.rank_threads.specs.declared.work.WorkError.{WorkError}
use Rattle.rank_threads.specs.declared.work.WorkError.TheVariants.{Board, Share, NoThread}

-- A request that began has all its hits, or fewer and the refusal of a hit. One that didn't has none, and another
-- refusal.
abbrev pub IsOutcome : ℕ → ℕ → Option ℕ → Option WorkError → Type 0
IsOutcome wanted hits (Some ticket) None = hits ≡ wanted
IsOutcome wanted hits (Some ticket) (Some (Share e)) = hits < wanted
IsOutcome wanted hits None (Some (Board e)) = hits ≡ 0
IsOutcome wanted hits None (Some NoThread) = hits ≡ 0
IsOutcome _ _ _ _ = ⊥

-- the answer is one that the request can have
abbrev pub Fits : Work → WorkAnswer → Type 0
Fits work answer = IsOutcome work.hits answer.hits answer.ticket answer.refused

-- the answer where there is no thread
abbrev pub no_thread : WorkAnswer
no_thread = record { ticket = None; hits = 0; refused = Some NoThread }

-- 1 for a ticket
abbrev pub one_if : Option ℕ → ℕ
one_if None = 0
one_if (Some ticket) = 1

-- a number that counts only where these are the same
abbrev pub if_same : ℕ → ℕ → ℕ → ℕ
if_same one other n = if one == other then n else 0

-- the hits at an entry, of a directory and a kind, that the answers to these requests name
abbrev pub hits_on : ℕ → List Work → List WorkAnswer → ℕ
hits_on e (w ∷ works) (a ∷ answers) = if_same (entry w.dir w.kind) e a.hits + hits_on e works answers
hits_on _ _ _ = 0

-- the requests on a directory that began, by their answers
abbrev pub begun_on : ℕ → List Work → List WorkAnswer → ℕ
begun_on d (w ∷ works) (a ∷ answers) = if_same w.dir d (one_if a.ticket) + begun_on d works answers
begun_on _ _ _ = 0

-- the share, with n hits more at an entry
abbrev pub after_hits : ShareData → ℕ → ℕ → ShareData
after_hits share e n = record share { hits = raised_by share.hits e n; pending = raised_by share.pending e n }

-- On each directory below the limit a share counts what the answers name, the hits of each kind by themselves.
pub record Counted (limit : ℕ) (old : ShareData) (works : List Work) (answers : List WorkAnswer)
    (new : ShareData) : Type 0 where
  pub weight : new.weight ≡ old.weight
  pub hits : (e : ℕ) → e < limit + limit → at new.hits e ≡ at old.hits e + hits_on e works answers
  pub pending : (e : ℕ) → e < limit + limit → at new.pending e ≡ at old.pending e + hits_on e works answers
  pub begun : (d : ℕ) → d < limit → at new.begun d ≡ at old.begun d + begun_on d works answers

-- A hit is refused beyond the limit of directories, and where the share has counted 2^56 hits of its kind on its
-- directory.
abbrev pub IsShort : ℕ → ShareData → ℕ → Kind → Option WorkError → Type 0
IsShort limit share dir kind (Some (Share NoDir)) = limit ≤ dir
IsShort limit share dir kind (Some (Share ShareFull)) = (dir < limit) × (2 ^ 56 ≤ at share.hits (entry dir kind))
IsShort _ _ _ _ _ = Unit {0}

-- Where a request has fewer hits than it asked for, there was no room for more.
abbrev pub AreShort : ℕ → ShareData → List Work → List WorkAnswer → Type 0
AreShort limit share works answers = AllZip (λ w a. IsShort limit share w.dir w.kind a.refused) works answers

-- Each request has an answer, in order, and the share counts what these name.
pub record IsServed (limit : ℕ) (old : ShareData) (works : List Work) (answers : List WorkAnswer)
    (new : ShareData) : Type 0 where
  pub fits : AllZip Fits works answers
  pub short : AreShort limit new works answers
  pub counted : Counted limit old works answers new

-- The share was cleared of its pending hits by a deposit, or is as it was.
abbrev pub IsDeposited : ShareData → ShareData → Type 0
IsDeposited old new =
    ((new.hits ≡ old.hits) × (new.begun ≡ old.begun) × (new.weight ≡ old.weight)) × (IsClean new ⊎ (new ≡ old))

-- What a phase makes of a rank's share: each request has an answer, in order; on each directory below the limit the
-- hits of each kind and the begun requests rise by what these name; and the hits are deposited, or pending.
pub record IsReturned (limit : ℕ) (old : ShareData) (works : List Work) (answers : List WorkAnswer)
    (new : ShareData) : Type 0 where
  pub fits : AllZip Fits works answers
  pub short : AreShort limit new works answers
  pub weight : new.weight ≡ old.weight
  pub hits : (e : ℕ) → e < limit + limit → at new.hits e ≡ at old.hits e + hits_on e works answers
  pub begun : (d : ℕ) → d < limit → at new.begun d ≡ at old.begun d + begun_on d works answers
  pub pending : IsClean new
      ⊎ ((e : ℕ) → e < limit + limit → at new.pending e ≡ at old.pending e + hits_on e works answers)

-- the same of the shares of all ranks, in their order
abbrev pub AreReturned : ℕ → List ShareData → List (List Work) → List (List WorkAnswer) → List ShareData → Type 0
AreReturned limit [] [] [] [] = Unit {0}
AreReturned limit (s ∷ shares) (w ∷ scripts) (a ∷ answers) (t ∷ after) =
    IsReturned limit s w a t × AreReturned limit shares scripts answers after
AreReturned _ _ _ _ _ = ⊥
