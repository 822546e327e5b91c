-- What a share counts by entry.
use Rattle.std.specs.Prelude.{◌≡◌, ◌<◌, ◌≤◌, ◌^◌, ℕ, ◌+◌, List, length, replicate}
use Rattle.heat_ledger.specs.Rows.{at, sums, raised_by}
use Rattle.heat_ledger.specs.declared.places.EntryCounts.{EntryCounts}

-- for each entry below a limit: the hits, those of them that the book doesn't know yet, and the begun requests
pub record CountsData : Type 0 where
  pub hits : List ℕ
  pub pending : List ℕ
  pub begun : List ℕ

-- nothing is counted
abbrev pub no_counts : ℕ → CountsData
no_counts limit = record { hits = replicate limit 0; pending = replicate limit 0; begun = replicate limit 0 }

-- the counts of an entry, which are 0 past the limit
abbrev pub counts_of : CountsData → ℕ → EntryCounts
counts_of counts e = record { hits = at counts.hits e; pending = at counts.pending e; begun = at counts.begun e }

-- the counts, with these more of one entry
abbrev pub with_more : CountsData → ℕ → EntryCounts → CountsData
with_more counts e more = record {
  hits = raised_by counts.hits e more.hits;
  pending = raised_by counts.pending e more.pending;
  begun = raised_by counts.begun e more.begun;
}

-- two lists of counts, added entry by entry
abbrev pub sum_counts : CountsData → CountsData → CountsData
sum_counts v w = record { hits = sums v.hits w.hits; pending = sums v.pending w.pending; begun = sums v.begun w.begun }

-- two counts of an entry together
abbrev pub both_counts : EntryCounts → EntryCounts → EntryCounts
both_counts x y = record { hits = x.hits + y.hits; pending = x.pending + y.pending; begun = x.begun + y.begun }

-- each count that rises by the second is a number of 64 bits then
pub record DoFit (x y : EntryCounts) : Type 0 where
  pub hits : 1 ≤ y.hits → x.hits + y.hits < 2 ^ 64
  pub pending : 1 ≤ y.pending → x.pending + y.pending < 2 ^ 64
  pub begun : 1 ≤ y.begun → x.begun + y.begun < 2 ^ 64

-- the lists have the same lengths
pub record AreAsLong (v w : CountsData) : Type 0 where
  pub hits : length v.hits ≡ length w.hits
  pub pending : length v.pending ≡ length w.pending
  pub begun : length v.begun ≡ length w.begun
