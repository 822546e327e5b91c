-- Rows of counts, one for each entry below a limit. A directory has two entries: one for reads, one for writes.
use Rattle.std.specs.Prelude.{◌≡◌, ℕ, ◌+◌, ◌-◌, List, [], ◌∷◌, ◌++◌, length, replicate}
use Rattle.std.specs.Prelude.{slice_index_or, slice_set, filter, nat_lt}
use Rattle.mds_types.specs.declared.kind.Kind.{Kind}
use Rattle.mds_types.specs.declared.kind.Kind.TheVariants.{Read, Write}
use Rattle.heat_ledger.specs.declared.dir_hits.DirHits.{DirHits}

-- the entry of a directory for hits of this kind
abbrev pub entry : ℕ → Kind → ℕ
entry dir Read = dir + dir
entry dir Write = dir + dir + 1

-- the count of an entry, and 0 past the limit
abbrev pub at : List ℕ → ℕ → ℕ
at counts e = slice_index_or counts e 0

-- two rows, added entry by entry
abbrev pub sums : List ℕ → List ℕ → List ℕ
sums [] ys = ys
sums (x ∷ xs) [] = x ∷ xs
sums (x ∷ xs) (y ∷ ys) = (x + y) ∷ sums xs ys

-- one row less another, entry by entry
abbrev pub differences : List ℕ → List ℕ → List ℕ
differences [] ys = []
differences (x ∷ xs) [] = x ∷ xs
differences (x ∷ xs) (y ∷ ys) = (x - y) ∷ differences xs ys

-- the row with one more at this entry
abbrev pub raised : List ℕ → ℕ → List ℕ
raised counts dir = slice_set counts dir (at counts dir + 1)

-- the row with this many more at this entry
abbrev pub raised_by : List ℕ → ℕ → ℕ → List ℕ
raised_by counts dir more = slice_set counts dir (at counts dir + more)

-- the counts that are kept, and 0 for each further entry below the limit
abbrev pub padded : ℕ → List ℕ → List ℕ
padded limit counts = counts ++ replicate (limit - length counts) 0

-- no entry has a count
abbrev pub IsZero : List ℕ → Type 0
IsZero counts = (dir : ℕ) → at counts dir ≡ 0

-- the counts of every second entry, which are those of one kind
abbrev pub evens : List ℕ → List ℕ
evens [] = []
evens (x ∷ []) = x ∷ []
evens (x ∷ y ∷ xs) = x ∷ evens xs

-- a directory, with its reads and its writes
abbrev pub dir_row : List ℕ → ℕ → DirHits
dir_row counts dir = record { dir = dir; reads = at counts (entry dir Read); writes = at counts (entry dir Write) }

-- each directory from this number on, with its reads and its writes
abbrev pub numbered : ℕ → List ℕ → List DirHits
numbered dir [] = []
numbered dir (x ∷ []) = []
numbered dir (x ∷ y ∷ xs) = record { dir = dir; reads = x; writes = y } ∷ numbered (dir + 1) xs

-- the directories that have a count, rising, each with its reads and its writes
abbrev pub counted_rows : List ℕ → List DirHits
counted_rows counts = filter (λ row. nat_lt 0 (row.reads + row.writes)) (numbered 0 counts)

-- the counts, with one directory's row added
abbrev pub with_row : List ℕ → DirHits → List ℕ
with_row counts row = raised_by (raised_by counts (entry row.dir Read) row.reads) (entry row.dir Write) row.writes
