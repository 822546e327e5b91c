-- Runs of neighbouring directories that have the same cell.
use Rattle.std.specs.Prelude.{◌≡◌, ◌≢◌, ℕ, ◌+◌, ◌-◌, ◌*◌, ◌/◌, ◌<◌, ◌≤◌, List, length, slice_index, vec_capacity}
use Rattle.authority_map.specs.declared.runs.Runs.{Runs}

-- the directory is in this run, which goes on until the next one starts
pub record IsIn (starts : List ℕ) (run dir : ℕ) : Type 0 where
  pub there : run < length starts
  pub from : slice_index starts run ≤ dir
  pub until : run + 1 < length starts → dir < slice_index starts (run + 1)

-- the directory is in one of `count` runs from this one on
pub record IsAmong (starts : List ℕ) (run count dir : ℕ) : Type 0 where
  pub some : 1 ≤ count
  pub within : run + count ≤ length starts
  pub from : slice_index starts run ≤ dir
  pub until : run + count < length starts → dir < slice_index starts (run + count)

-- there is a run that starts at directory 0, and each other one starts after the one before
pub record AreStarts (starts : List ℕ) : Type 0 where
  pub some : 1 ≤ length starts
  pub first : slice_index starts 0 ≡ 0
  pub rising : (run : ℕ) → run + 1 < length starts → slice_index starts run < slice_index starts (run + 1)

-- runs that start below the limit, each with a cell
pub record AreRuns (limit : ℕ) (starts cells : List ℕ) : Type 0 where
  pub order : AreStarts starts
  pub sized : length cells ≡ length starts
  pub below : (run : ℕ) → run < length starts → slice_index starts run < limit
  pub small : (run : ℕ) → slice_index cells run ≤ 64

-- the run that has this directory starts at it
abbrev pub StartsAt : List ℕ → ℕ → Type 0
StartsAt starts dir = (run : ℕ) → IsIn starts run dir → slice_index starts run ≡ dir

-- Each directory's cell is that of its run. Neighbouring runs differ, except
-- those that start at one of two directories.
pub record HasCells (limit : ℕ) (starts cells : List ℕ) (cell : ℕ → ℕ) (this that : ℕ) : Type 0 where
  pub each : (run dir : ℕ) → dir < limit → IsIn starts run dir → slice_index cells run ≡ cell dir
  pub apart : (run : ℕ) → run + 1 < length starts → slice_index starts (run + 1) ≢ this
      → slice_index starts (run + 1) ≢ that → slice_index cells run ≢ slice_index cells (run + 1)

-- For each block of 256 neighbouring directories that has some below the limit, and for one block more, the run of the
-- block's first directory.
pub record IsIndex (limit : ℕ) (starts index : List ℕ) : Type 0 where
  pub sized : length index ≡ limit / 256 + 2
  pub each : (block : ℕ) → block < length index → IsIn starts (slice_index index block) (256 * block)

-- there is room for a run for each directory
pub record HasRunRoom (limit : ℕ) (runs : Runs) : Type 0 where
  pub starts : limit ≤ vec_capacity runs.starts
  pub cells : limit ≤ vec_capacity runs.cells

-- the runs of the directories below the limit, with their index and room for more
pub record IsRunTable (limit : ℕ) (runs : Runs) (index : List ℕ) : Type 0 where
  pub shape : AreRuns limit runs.starts.items runs.cells.items
  pub indexed : IsIndex limit runs.starts.items index
  pub room : HasRunRoom limit runs

-- the runs' cells are these
abbrev pub Hold : ℕ → Runs → (ℕ → ℕ) → ℕ → ℕ → Type 0
Hold limit runs cell this that = HasCells limit runs.starts.items runs.cells.items cell this that

-- a run gets this start, one directory later or sooner: the directory goes to the run before, or comes from it
pub record IsMove (limit : ℕ) (starts : List ℕ) (run start dir : ℕ) : Type 0 where
  pub some : 1 ≤ run
  pub there : run < length starts
  pub after : slice_index starts (run - 1) < start
  pub before : run + 1 < length starts → start < slice_index starts (run + 1)
  pub below : start < limit
  pub both : slice_index starts run + start ≡ dir + dir + 1
  pub least : dir ≤ start
  pub most : start ≤ dir + 1

-- the numbers from this place on are each one more than they were, and the others as they were
pub record IsOneMore (first : ℕ) (old new : List ℕ) : Type 0 where
  pub sized : length new ≡ length old
  pub before : (k : ℕ) → k < first → slice_index new k ≡ slice_index old k
  pub after : (k : ℕ) → first ≤ k → k < length old → slice_index new k ≡ slice_index old k + 1

-- all runs start before this directory
abbrev pub AreBefore : ℕ → List ℕ → Type 0
AreBefore dir starts = (run : ℕ) → run < length starts → slice_index starts run < dir

-- The first `count` directories have the cells of their runs, and no two neighbouring runs are alike.
pub record HasFirst (count : ℕ) (starts cells : List ℕ) (cell : ℕ → ℕ) : Type 0 where
  pub each : (run dir : ℕ) → dir < count → IsIn starts run dir → slice_index cells run ≡ cell dir
  pub apart : (run : ℕ) → run + 1 < length starts → slice_index cells run ≢ slice_index cells (run + 1)

-- these are the runs of the first `count` directories, with room for more
pub record AreFirstRuns (limit count : ℕ) (made : Runs) : Type 0 where
  pub shape : AreRuns limit made.starts.items made.cells.items
  pub room : HasRunRoom limit made
  pub before : AreBefore count made.starts.items

-- the cells of the runs so far are these
abbrev pub HoldFirst : ℕ → Runs → (ℕ → ℕ) → Type 0
HoldFirst count made cell = HasFirst count made.starts.items made.cells.items cell

-- the first `count` of these directories come before this one, and no other does
pub record ComeBefore (dirs : List ℕ) (count dir : ℕ) : Type 0 where
  pub within : count ≤ length dirs
  pub before : (k : ℕ) → k < count → slice_index dirs k < dir
  pub after : (k : ℕ) → count ≤ k → k < length dirs → dir ≤ slice_index dirs k
