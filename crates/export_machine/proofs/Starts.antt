-- The tables of a new cluster.
use Rattle.std.proofs.Common.{◌≡◌, ℕ, zero, suc, ◌+◌, ◌≤◌, Bool, true, false, ◌&&◌, not, eqb, cond, []}
use Rattle.std.proofs.Common.{◌∷◌, length, get_or, set, Some, None, refl, sym, ap, ◌∙◌, inl, inr, ◌⊎◌, arith}
use Rattle.std.proofs.lemmas.Bool.{false≢true}
use Rattle.export_protocol.specs.Cluster.{World}
use Rattle.export_protocol.specs.Authority.{IsAuthority, authority, open_export, is_present, named_of, runs_on}
use Rattle.export_protocol.specs.Step.{start, running_on}
use Rattle.export_protocol.specs.Promises.{IsBetweenLogAndNotify}
use Rattle.export_machine.specs.declared.records.Records.{Records}
use Rattle.export_protocol.specs.Authority.{order_in}
use Rattle.export_protocol.specs.Step.{repeats}
use Rattle.export_machine.specs.Kept.{IsIndexed, IsKept, world_of, indexes_of, first_indexes}
use Rattle.export_protocol.proofs.Safe.{Safe}
use Rattle.export_protocol.proofs.Theorem.{start_safe, safe_named, safe_gone}
use Rattle.export_protocol.proofs.Authorities.{authority_found, no_authority}
use Rattle.export_protocol.proofs.Walks.{authority_near}
use Rattle.export_machine.proofs.ByRank.{start_filed}
use Rattle.export_protocol.specs.declared.journal.JournalEntry.{JournalEntry}
use Rattle.export_machine.proofs.Listed.{start_listed, no_drops}
use Rattle.export_machine.proofs.Counts.{counted}
use Rattle.std.specs.Prelude.{replicate}

module _ (limit ranks : ℕ) (some : 1 ≤ ranks) where
  first_rank : (r : ℕ) → Some 0 ≡ Some r → r ≡ 0
  first_rank r e = cc

  root_authority : (s : Safe (start limit ranks)) → (r : ℕ) → named_of (start limit ranks) 0 ≡ Some r
      → IsAuthority (start limit ranks) r 0 ⊎ IsBetweenLogAndNotify (start limit ranks) r 0 → authority (start limit ranks) 0 ≡ Some 0
  unfolding start
  root_authority s r e (inl a) = authority_found (start limit ranks) s r 0 a (authority_near (start limit ranks) s r 0 a) ∙ ap Some (first_rank r e)
  root_authority s r e (inr b) = absurd (cc (b.1))

  root_there : is_present (start limit ranks) 0 ≡ true
  unfolding start
  root_there = refl

  not_there : (d : ℕ) → is_present (start limit ranks) (suc d) ≡ false
  unfolding start
  not_there d = refl

  owners : (d : ℕ) → get_or (Some 0 ∷ []) d None ≡ authority (start limit ranks) d
  owners zero = (let m = safe_named (start limit ranks) (start_safe limit ranks some) 0 root_there in
      sym (root_authority (start_safe limit ranks some) m.0 m.1 m.2))
  owners (suc d) = sym (no_authority (start limit ranks) (start_safe limit ranks some) (suc d)
      (safe_gone (start limit ranks) (start_safe limit ranks some) (suc d) (not_there d)).1)

  no_child : (b : Bool) → 0 ≡ cond {A = ℕ} (b && not b) 1 0 + 0
  no_child true = refl
  no_child false = refl

  opened : (d : ℕ) → get_or (None ∷ []) d None ≡ open_export (start limit ranks) d
  unfolding start open_export
  opened zero = refl
  opened (suc d) = refl

  pub start_indexed : IsIndexed (start limit ranks)
      (record {
        owners = Some 0 ∷ [];
        opened = None ∷ [];
        running = 0 ∷ [];
        children = 0 ∷ [];
        marks = false ∷ [];
        tickets_at = replicate ranks [];
        open_at = replicate ranks [];
        dropped = [];
      })
  unfolding start
  start_indexed = record {
    owners = owners;
    opened = opened;
    running = running;
    children = children;
    owner_places = refl;
    opened_places = refl;
    running_places = refl;
    children_places = refl;
    unmarked = refl;
    requests = start_filed ranks;
    listed = start_listed ranks (set (replicate ranks []) 0 (JournalEntry.Made 0 ∷ [])) (no_drops ranks);
    dropped_places = refl;
  }
    where
      running : (d : ℕ) → get_or {A = ℕ} (0 ∷ []) d 0 ≡ running_on (start limit ranks) (d ∷ [])
      running zero = sym (counted (runs_on (0 ∷ [])) [])
      running (suc d) = sym (counted (runs_on (suc d ∷ [])) [])

      children : (d : ℕ) → get_or {A = ℕ} (0 ∷ []) d 0 ≡ cond {A = ℕ} (eqb 0 d && not (eqb 0 d)) 1 0 + 0
      children zero = no_child (eqb 0 0)
      children (suc d) = no_child (eqb 0 (suc d))

-- what is kept of a new cluster
pub start_kept : (r : Records) (limit ranks : ℕ) → 1 ≤ limit → limit ≤ 65536 → 1 ≤ ranks → ranks ≤ 64 → world_of r ≡ start limit ranks
    → indexes_of r ≡ first_indexes ranks → IsKept r
unfolding start
start_kept r limit ranks some_dirs few_dirs some_ranks few_ranks w i = record {
  reached = ∣ (limit, ranks, [], some_ranks, sym w) ∣₁;
  indexed = rw (w, i) (start_indexed limit ranks some_ranks);
  distinct = λ x h. false≢true (ap (λ (v : World). repeats (order_in v.orders x).dirs) (sym w) ∙ h);
  sent = bound (λ (v : World). length v.sent) (λ (v : World). v.events) (omega arith);
  tickets = bound (λ (v : World). length v.tickets) (λ (v : World). v.events) (omega arith);
  counted = bound (λ (v : World). v.events) (λ (v : World). 1048576) (omega arith);
  within = bound (λ (v : World). length v.parents) (λ (v : World). v.limit) some_dirs;
  few_dirs = bound (λ (v : World). v.limit) (λ (v : World). 65536) few_dirs;
  few_ranks = bound (λ (v : World). v.ranks) (λ (v : World). 64) few_ranks;
}
  where
    bound : (f g : World → ℕ) → f (start limit ranks) ≤ g (start limit ranks) → f (world_of r) ≤ g (world_of r)
    bound f g h = (let a : f (world_of r) ≡ f (start limit ranks) = ap f w in let b : g (world_of r) ≡ g (start limit ranks) = ap g w in omega arith)
