-- Heats of directories, in accesses, and what deposits and ticks make of them.
use Rattle.std.specs.Prelude.{◌≡◌, ◌≤◌, ℕ, ◌+◌, ◌-◌, ◌/◌, ◌^◌, min, List, All, length, map, replicate, slice_set}
use Rattle.heat_decay.specs.declared.touch.Touch.{Touch}

-- a heat for each number below the limit, after `ticks` ticks, and how each was left by the last call that touched it
pub record Heats : Type 0 where
  pub limit : ℕ
  pub ticks : ℕ
  pub heats : List ℕ
  pub kept : List Touch

-- the heat after this many more accesses
abbrev pub after_deposit : ℕ → ℕ → ℕ
after_deposit heat accesses = min (2 ^ 40) (heat + accesses)

-- the heat after a tick
abbrev pub after_tick : ℕ → ℕ
after_tick heat = heat / 2

-- no directory has heat, and this many ticks were made
abbrev pub all_cold : ℕ → ℕ → Heats
all_cold limit ticks = record {
  limit = limit;
  ticks = ticks;
  heats = replicate limit 0;
  kept = replicate limit (record { heat = 0; tick = ticks });
}

-- a directory gets this heat at the present tick
abbrev pub touched : Heats → ℕ → ℕ → Heats
touched h dir heat = record h {
  heats = slice_set h.heats dir heat;
  kept = slice_set h.kept dir (record { heat = heat; tick = h.ticks });
}

-- what is left of a touch, halved once for each tick since
abbrev pub cooled : ℕ → Touch → ℕ
cooled ticks touch = touch.heat / 2 ^ (ticks - touch.tick)

-- the heats that touches leave
abbrev pub heats_of : ℕ → ℕ → List Touch → Heats
heats_of limit ticks kept = record { limit = limit; ticks = ticks; heats = map (cooled ticks) kept; kept = kept }

-- what is kept: a touch for each number, none of them later than now, none above the greatest heat
pub record AreKept (limit now : ℕ) (kept : List Touch) : Type 0 where
  pub size : length kept ≡ limit
  pub cool : All (λ touch. touch.heat ≤ 2 ^ 40) kept
  pub past : All (λ touch. touch.tick ≤ now) kept
  pub counted : now ≤ 2 ^ 40
