-- Counts that are kept at places, for the entries that have one.
use Rattle.std.specs.Prelude.{◌≡◌, ◌≢◌, ℕ, zero, suc, ◌+◌, ◌^◌, ◌<◌, ◌≤◌, List, [], ◌∷◌, length, map}
use Rattle.std.specs.Prelude.{slice_index_or, vec_capacity}
use Rattle.heat_ledger.specs.Rows.{at, padded}
use Rattle.heat_ledger.specs.Counts.{CountsData}
use Rattle.heat_ledger.specs.Touched.{IsTracked}
use Rattle.heat_ledger.specs.declared.places.EntryCounts.{EntryCounts}
use Rattle.heat_ledger.specs.declared.places.KeptCounts.{KeptCounts}

-- how many entries have a place
abbrev pub placed : List ℕ → ℕ
placed [] = 0
placed (zero ∷ places) = placed places
placed (suc place ∷ places) = 1 + placed places

-- nothing is counted of an entry
abbrev pub no_count : EntryCounts
no_count = record { hits = 0; pending = 0; begun = 0 }

-- the counts at a place
abbrev pub kept_at : List EntryCounts → ℕ → EntryCounts
kept_at kept place = slice_index_or kept place no_count

-- one of the counts of each entry below a limit
abbrev pub column : (EntryCounts → ℕ) → ℕ → List EntryCounts → List ℕ → List ℕ
column count limit kept places = padded limit (map (λ place. count (kept_at kept place)) places)

-- the counts of each entry
abbrev pub all_counts : ℕ → List EntryCounts → List ℕ → CountsData
all_counts limit kept places = record {
  hits = column (λ counts. counts.hits) limit kept places;
  pending = column (λ counts. counts.pending) limit kept places;
  begun = column (λ counts. counts.begun) limit kept places;
}

abbrev pub data_of : KeptCounts → CountsData
data_of kept = all_counts kept.limit kept.counts.items kept.places.items

-- place 0 has no count, and each other place is one entry's
pub record IsPlaced (kept : List EntryCounts) (places : List ℕ) : Type 0 where
  pub none : kept_at kept 0 ≡ no_count
  pub size : length kept ≡ 1 + placed places
  pub inside : (e : ℕ) → at places e < length kept
  pub apart : (d e : ℕ) → d ≢ e → at places d ≡ at places e → at places d ≡ 0

-- the counts are at places, those that have one are listed, and there is room for a place for each entry
pub record AreKeptCounts (kept : KeptCounts) : Type 0 where
  pub counts : IsPlaced kept.counts.items kept.places.items
  pub entries : IsTracked kept.places.items kept.entries.items
  pub small : kept.limit < 2 ^ 32
  pub few : length kept.places.items ≤ kept.limit
  pub places_room : kept.limit ≤ vec_capacity kept.places
  pub entries_room : kept.limit ≤ vec_capacity kept.entries
  pub counts_room : kept.limit < vec_capacity kept.counts

-- each entry has the same counts at its new place as at its old one
abbrev pub AreSameCounts : KeptCounts → KeptCounts → Type 0
AreSameCounts old new = (e : ℕ)
    → kept_at new.counts.items (at new.places.items e) ≡ kept_at old.counts.items (at old.places.items e)
