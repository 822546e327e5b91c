-- What holds after every list of events.
use Rattle.std.specs.Prelude.{◌≡◌, ℕ, true, false, List, Option, Some, None, suc, ◌⊎◌, ◌↔◌}
use Rattle.export_protocol.specs.Roots.{AreOwners, nearest}
use Rattle.export_protocol.specs.declared.journal.JournalEntry.{JournalEntry}
use Rattle.export_protocol.specs.declared.event.Request.{Request}
use Rattle.export_protocol.specs.Cluster.{World}
use Rattle.export_protocol.specs.Authority.{is_inside, from_of, named_of, is_present, request_of}
use Rattle.export_protocol.specs.Authority.{has, IsAuthority, authority, serves, is_stopped}
use Rattle.export_protocol.specs.declared.event.Event.{Event}
use Rattle.export_protocol.specs.Step.{step}

-- r is the one authority of d
abbrev pub IsTheAuthority : World → ℕ → ℕ → Type 0
IsTheAuthority w r d = IsAuthority w r d × ((s : ℕ) → IsAuthority w s d → s ≡ r)

-- each directory that was made and isn't gone has exactly one authority
abbrev pub OneAuthority : World → Type 0
OneAuthority w = (d : ℕ) → is_present w d ≡ true → (r : ℕ) × IsTheAuthority w r d

-- who serves a directory is its authority
abbrev pub ServedByAuthority : World → Type 0
ServedByAuthority w = (r d : ℕ) → serves w r d ≡ true → IsTheAuthority w r d

-- each running request is at its directory's authority
abbrev pub RequestsAtAuthority : World → Type 0
RequestsAtAuthority w = (t : ℕ) (q : Request) → request_of w t ≡ Some q → IsTheAuthority w q.rank q.dir

-- an event changes the authority of no directory on which a request runs
abbrev pub KeepsAuthority : World → Event → Type 0
KeepsAuthority w e =
    (t : ℕ) (q : Request) → request_of w t ≡ Some q → (r : ℕ)
    → IsAuthority w r q.dir ↔ IsAuthority (step w e).1 r q.dir

-- r exports d, has logged that and hasn't yet notified
abbrev pub IsBetweenLogAndNotify : World → ℕ → ℕ → Type 0
IsBetweenLogAndNotify w r d =
    (x : ℕ) × (is_inside w x d ≡ true) × (from_of w x ≡ r) × (has w r (JournalEntry.Exported x) ≡ true)
    × (has w r (JournalEntry.Notified x) ≡ false)

-- the map names the authority of each directory or, between log and notify, the exporter
abbrev pub MapNamed : World → Type 0
MapNamed w =
    (d : ℕ) → is_present w d ≡ true
    → (r : ℕ) × (named_of w d ≡ Some r) × (IsAuthority w r d ⊎ IsBetweenLogAndNotify w r d)

-- what isn't there is named nowhere and has no authority
abbrev pub NoneForGone : World → Type 0
NoneForGone w = (d : ℕ) → is_present w d ≡ false → (named_of w d ≡ None) × ((r : ℕ) → IsAuthority w r d → ⊥)

-- no request runs at a stopped rank
abbrev pub NoneAtStopped : World → Type 0
NoneAtStopped w = (t : ℕ) (q : Request) → request_of w t ≡ Some q → is_stopped w q.rank ≡ false

-- what holds of every cluster at any time
pub record Promised (w : World) : Type 0 where
  pub authority : OneAuthority w
  pub served : ServedByAuthority w
  pub requests : RequestsAtAuthority w
  pub kept : (e : Event) → KeepsAuthority w e
  pub named : MapNamed w
  pub gone : NoneForGone w
  pub ended : NoneAtStopped w

-- the owner that is nearest on the walk up is the authority
abbrev pub NearestOwns : World → Type 0
NearestOwns w =
    (owners : List (Option ℕ)) → AreOwners w owners → (d : ℕ) → nearest w.parents owners (suc d) d ≡ authority w d
