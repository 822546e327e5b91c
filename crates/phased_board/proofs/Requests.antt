-- Changes of requests are of three forms.
use Rattle.std.proofs.Common.{◌≡◌, ℕ, true, List}
use Rattle.export_protocol.specs.declared.event.Event.TheVariants.{Begin, End}
use Rattle.heat_ledger.specs.declared.dir_hits.DirHits.{DirHits}
use Rattle.mds_board.specs.declared.change.Change.{Change}
use Rattle.mds_board.specs.declared.change.Change.TheVariants.{Deposit, Step}
use Rattle.phased_board.specs.Going.{is_of_requests}

-- what holds of each request that begins, of each end and of each deposit holds of each change of requests
pub by_requests : (P : Change → Type 0) → ((r d : ℕ) → P (Step (Begin r d))) → ((t : ℕ) → P (Step (End t))) → ((hits : List DirHits) → P (Deposit hits))
    → (c : Change) → is_of_requests c ≡ true → P c
by_requests P begin end deposit (Step (Begin r d)) is = begin r d
by_requests P begin end deposit (Step (End t)) is = end t
by_requests P begin end deposit (Deposit hits) is = deposit hits
by_requests P begin end deposit _ is = absurd (cc)
