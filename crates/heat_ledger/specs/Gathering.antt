-- What the book's token is while it has the shares' amounts.
use Rattle.std.specs.Prelude.{◌≡◌, ℕ, ◌+◌, ◌*◌, ◌≤◌, true, List}
use Rattle.heat_ledger.specs.declared.tally.TokenState.{TokenState}
use Rattle.heat_ledger.specs.Rows.{at, entry}
use Rattle.mds_types.specs.declared.kind.Kind.TheVariants.{Read}
use Rattle.heat_ledger.specs.Tally.{most, all_parts}
use Rattle.heat_ledger.specs.Ledger.{ShareData, weight_of, hits_of, pending_of, begun_of, hit_slot, begun_slot}

-- an authority that had some parts and no amounts has taken back all of these shares except the rest
pub record IsGathered (parts : ℕ) (state : TokenState) (all rest : List ShareData) : Type 0 where
  pub weights : state.parts + weight_of rest ≡ parts + weight_of all
  pub hits : (e : ℕ) → at state.amounts (hit_slot e) + hits_of rest e ≡ hits_of all e
  pub begun : (dir : ℕ) → at state.amounts (begun_slot (entry dir Read)) + begun_of rest dir ≡ begun_of all dir
  pub backed : (k : ℕ) → at state.amounts k + parts * most ≤ state.parts * most

-- an authority has what it had, and its totals are what it has with all that these shares have, if those are all
pub record IsAudited (old new : TokenState) (shares : List ShareData) : Type 0 where
  pub has_totals : new.has_totals ≡ true
  pub parts : new.parts ≡ old.parts
  pub amounts : (k : ℕ) → at new.amounts k ≡ at old.amounts k
  pub totals : (k : ℕ) → at new.totals k ≡ at old.totals k
  pub hits : old.parts + weight_of shares ≡ all_parts → (e : ℕ)
      → at old.amounts (hit_slot e) + hits_of shares e ≡ at old.totals (hit_slot e) + pending_of shares e
  pub begun : old.parts + weight_of shares ≡ all_parts → (dir : ℕ)
      → at old.amounts (begun_slot (entry dir Read)) + begun_of shares dir ≡ at old.totals (begun_slot (entry dir Read))
