-- What holds of the owners and the map, by the phase of each export. No world is in it: the reads are variables.
use Rattle.std.proofs.Common.{◌≡◌, ◌≢◌, ℕ, Bool, true, false, Option, Some, None, ◌⊎◌, arith}
use Rattle.export_protocol.specs.declared.event.Request.{Request}

-- Early: requests may still run. Held: none may. Moving: logged and not yet notified. Told: notified and not yet
-- imported. Over: aborted or imported.
pub data Phase : Type 0 where
  Early : Phase
  Held : Phase
  Moving : Phase
  Told : Phase
  Over : Phase

abbrev pub is_moving : Phase → Bool
is_moving Moving = true
is_moving Told = true
is_moving _ = false

abbrev pub is_over : Phase → Bool
is_over Over = true
is_over _ = false

-- whom the map names for the directories of an export
abbrev pub place : ℕ → ℕ → Phase → ℕ
place from to Told = to
place from to _ = from

pub record Owning (inside : ℕ → ℕ → Bool) (from to : ℕ → ℕ) (phase : ℕ → Phase) (owns : ℕ → ℕ → Bool) (named : ℕ → Option ℕ) : Type 0 where
  -- who owns a directory is named
  pub owner_named : (r d : ℕ) → owns r d ≡ true → named d ≡ Some r
  -- who is named owns, unless the directory moves
  pub named_owns : (r d : ℕ) → named d ≡ Some r → owns r d ≡ false → (x : ℕ) × (inside x d ≡ true) × (is_moving (phase x) ≡ true)
  -- nobody owns a directory that moves
  pub moving : (x r d : ℕ) → inside x d ≡ true → is_moving (phase x) ≡ true → owns r d ≡ false
  -- the map names the exporter or, once that has notified, the importer
  pub placed : (x d : ℕ) → inside x d ≡ true → is_over (phase x) ≡ false → named d ≡ Some (place (from x) (to x) (phase x))
  -- a directory is in one open export at most
  pub one_export : (x y d : ℕ) → inside x d ≡ true → inside y d ≡ true → is_over (phase x) ≡ false → is_over (phase y) ≡ false → x ≡ y

-- a request is at the owner, and no open export of its directory is past freezing
pub record Running (inside : ℕ → ℕ → Bool) (phase : ℕ → Phase) (owns : ℕ → ℕ → Bool) (request : ℕ → Option Request) : Type 0 where
  pub stands : (t : ℕ) (q : Request) → request t ≡ Some q → owns q.rank q.dir ≡ true
  pub early : (t : ℕ) (q : Request) (x : ℕ) → request t ≡ Some q → inside x q.dir ≡ true → is_over (phase x) ≡ false → phase x ≡ Early

-- Nothing changes that these speak of.
module _ (inside : ℕ → ℕ → Bool) (from to : ℕ → ℕ) (phase phase' : ℕ → Phase) (owns owns' : ℕ → ℕ → Bool) (named : ℕ → Option ℕ)
    (request : ℕ → Option Request)
    (old : Owning inside from to phase owns named) (ran : Running inside phase owns request)
    (phases : (y : ℕ) → phase' y ≡ phase y) (owners : (r d : ℕ) → owns' r d ≡ owns r d) where
  pub same_owning : Owning inside from to phase' owns' named
  same_owning = record {
    owner_named = λ r d h. grind (arith, old.owner_named);
    named_owns = λ r d h k. grind (arith, old.named_owns);
    moving = λ y r d h k. grind (arith, old.moving);
    placed = λ y d h k. grind (arith, old.placed);
    one_export = λ y z d h k l m. grind (arith, old.one_export);
  }

  pub same_running : Running inside phase' owns' request
  same_running = record {
    stands = λ t q h. grind (arith, ran.stands);
    early = λ t q y h k l. grind (arith, ran.early);
  }

-- One export's phase changes, and neither owners nor the map.
module _ (inside : ℕ → ℕ → Bool) (from to : ℕ → ℕ) (phase phase' : ℕ → Phase) (owns : ℕ → ℕ → Bool) (named : ℕ → Option ℕ)
    (request : ℕ → Option Request) (x : ℕ)
    (old : Owning inside from to phase owns named) (ran : Running inside phase owns request)
    (others : (y : ℕ) → y ≢ x → phase' y ≡ phase y) where
  -- requests have ended
  pub held_owning : phase x ≡ Early → phase' x ≡ Held → Owning inside from to phase' owns named
  held_owning was is = record {
    owner_named = old.owner_named;
    named_owns = λ r d h k. grind (arith, old.named_owns);
    moving = λ y r d h k. grind (arith, old.moving);
    placed = λ y d h k. grind (arith, old.placed);
    one_export = λ y z d h k l m. grind (arith, old.one_export);
  }

  pub held_running : phase x ≡ Early → phase' x ≡ Held → ((t : ℕ) (q : Request) → request t ≡ Some q → inside x q.dir ≡ false)
      → Running inside phase' owns request
  held_running was is ended = record {
    stands = ran.stands;
    early = λ t q y h k l. grind (arith, ran.early, ended);
  }

  -- an abort
  pub abort_owning : is_moving (phase x) ≡ false → phase' x ≡ Over → Owning inside from to phase' owns named
  abort_owning was is = record {
    owner_named = old.owner_named;
    named_owns = λ r d h k. grind (arith, old.named_owns);
    moving = λ y r d h k. grind (arith, old.moving);
    placed = λ y d h k. grind (arith, old.placed);
    one_export = λ y z d h k l m. grind (arith, old.one_export);
  }

  pub abort_running : phase' x ≡ Over → Running inside phase' owns request
  abort_running is = record {
    stands = ran.stands;
    early = λ t q y h k l. grind (arith, ran.early);
  }

-- The exporter logs.
module _ (inside : ℕ → ℕ → Bool) (from to : ℕ → ℕ) (phase phase' : ℕ → Phase) (owns owns' : ℕ → ℕ → Bool) (named : ℕ → Option ℕ)
    (request : ℕ → Option Request) (x : ℕ)
    (old : Owning inside from to phase owns named) (ran : Running inside phase owns request)
    (was : phase x ≡ Held) (is : phase' x ≡ Moving) (others : (y : ℕ) → y ≢ x → phase' y ≡ phase y)
    (lost : (d : ℕ) → inside x d ≡ true → owns' (from x) d ≡ false)
    (elsewhere : (r d : ℕ) → r ≢ from x → owns' r d ≡ owns r d)
    (outside : (r d : ℕ) → inside x d ≡ false → owns' r d ≡ owns r d) where
  pub log_owning : Owning inside from to phase' owns' named
  log_owning = record {
    owner_named = λ r d h. grind (arith, old.owner_named);
    named_owns = λ r d h k. grind (arith, old.named_owns);
    moving = λ y r d h k. grind (arith, old.moving, old.owner_named, old.placed);
    placed = λ y d h k. grind (arith, old.placed);
    one_export = λ y z d h k l m. grind (arith, old.one_export);
  }

  pub log_running : Running inside phase' owns' request
  log_running = record {
    stands = λ t q h. grind (arith, ran.stands, ran.early);
    early = λ t q y h k l. grind (arith, ran.early);
  }

-- The exporter notifies.
module _ (inside : ℕ → ℕ → Bool) (from to : ℕ → ℕ) (phase phase' : ℕ → Phase) (owns : ℕ → ℕ → Bool) (named named' : ℕ → Option ℕ)
    (request : ℕ → Option Request) (x : ℕ)
    (old : Owning inside from to phase owns named) (ran : Running inside phase owns request)
    (was : phase x ≡ Moving) (is : phase' x ≡ Told) (others : (y : ℕ) → y ≢ x → phase' y ≡ phase y)
    (told : (d : ℕ) → inside x d ≡ true → named' d ≡ Some (to x))
    (outside : (d : ℕ) → inside x d ≡ false → named' d ≡ named d) where
  pub notify_owning : Owning inside from to phase' owns named'
  notify_owning = record {
    owner_named = λ r d h. grind (arith, old.owner_named, old.moving);
    named_owns = λ r d h k. grind (arith, old.named_owns);
    moving = λ y r d h k. grind (arith, old.moving);
    placed = λ y d h k. grind (arith, old.placed, old.one_export);
    one_export = λ y z d h k l m. grind (arith, old.one_export);
  }

  pub notify_running : Running inside phase' owns request
  notify_running = record {
    stands = ran.stands;
    early = λ t q y h k l. grind (arith, ran.early);
  }

-- The importer imports.
module _ (inside : ℕ → ℕ → Bool) (from to : ℕ → ℕ) (phase phase' : ℕ → Phase) (owns owns' : ℕ → ℕ → Bool) (named : ℕ → Option ℕ)
    (request : ℕ → Option Request) (x : ℕ)
    (old : Owning inside from to phase owns named) (ran : Running inside phase owns request)
    (was : phase x ≡ Told) (is : phase' x ≡ Over) (others : (y : ℕ) → y ≢ x → phase' y ≡ phase y)
    (won : (d : ℕ) → inside x d ≡ true → owns' (to x) d ≡ true)
    (elsewhere : (r d : ℕ) → r ≢ to x → owns' r d ≡ owns r d)
    (outside : (r d : ℕ) → inside x d ≡ false → owns' r d ≡ owns r d) where
  pub import_owning : Owning inside from to phase' owns' named
  import_owning = record {
    owner_named = λ r d h. grind (arith, old.owner_named, old.placed);
    named_owns = λ r d h k. grind (arith, old.named_owns, old.placed);
    moving = λ y r d h k. grind (arith, old.moving, old.one_export);
    placed = λ y d h k. grind (arith, old.placed);
    one_export = λ y z d h k l m. grind (arith, old.one_export);
  }

  pub import_running : Running inside phase' owns' request
  import_running = record {
    stands = λ t q h. grind (arith, ran.stands, old.moving);
    early = λ t q y h k l. grind (arith, ran.early);
  }

-- An export begins.
module _ (inside inside' : ℕ → ℕ → Bool) (from to from' to' : ℕ → ℕ) (phase phase' : ℕ → Phase) (owns : ℕ → ℕ → Bool) (named : ℕ → Option ℕ)
    (request : ℕ → Option Request) (x : ℕ)
    (old : Owning inside from to phase owns named) (ran : Running inside phase owns request)
    (is : phase' x ≡ Early) (others : (y : ℕ) → y ≢ x → phase' y ≡ phase y)
    (froms : (y : ℕ) → y ≢ x → from' y ≡ from y) (tos : (y : ℕ) → y ≢ x → to' y ≡ to y)
    (insides : (y d : ℕ) → y ≢ x → inside' y d ≡ inside y d)
    (owned : (d : ℕ) → inside' x d ≡ true → owns (from' x) d ≡ true)
    (free : (y d : ℕ) → inside' x d ≡ true → inside y d ≡ true → is_over (phase y) ≡ true)
    (unused : (d : ℕ) → inside x d ≡ false) where
  pub start_owning : Owning inside' from' to' phase' owns named
  start_owning = record {
    owner_named = old.owner_named;
    named_owns = λ r d h k. grind (arith, old.named_owns);
    moving = λ y r d h k. grind (arith, old.moving);
    placed = λ y d h k. grind (arith, old.placed, old.owner_named);
    one_export = λ y z d h k l m. grind (arith, old.one_export);
  }

  pub start_running : Running inside' phase' owns request
  start_running = record {
    stands = ran.stands;
    early = λ t q y h k l. grind (arith, ran.early);
  }

-- A directory is made, at rank a.
module _ (inside : ℕ → ℕ → Bool) (from to : ℕ → ℕ) (phase : ℕ → Phase) (owns owns' : ℕ → ℕ → Bool) (named named' : ℕ → Option ℕ)
    (request : ℕ → Option Request) (a c : ℕ)
    (old : Owning inside from to phase owns named) (ran : Running inside phase owns request)
    (was : named c ≡ None) (is : named' c ≡ Some a) (others : (d : ℕ) → d ≢ c → named' d ≡ named d)
    (won : owns' a c ≡ true) (elsewhere : (r d : ℕ) → r ≢ a → owns' r d ≡ owns r d) (rest : (r d : ℕ) → d ≢ c → owns' r d ≡ owns r d) where
  pub made_owning : Owning inside from to phase owns' named'
  made_owning = record {
    owner_named = λ r d h. grind (arith, old.owner_named);
    named_owns = λ r d h k. grind (arith, old.named_owns);
    moving = λ y r d h k. grind (arith, old.moving, old.placed);
    placed = λ y d h k. grind (arith, old.placed);
    one_export = old.one_export;
  }

  pub made_running : Running inside phase owns' request
  made_running = record {
    stands = λ t q h. grind (arith, ran.stands, old.owner_named);
    early = ran.early;
  }

-- A directory goes, at rank a.
module _ (inside : ℕ → ℕ → Bool) (from to : ℕ → ℕ) (phase : ℕ → Phase) (owns owns' : ℕ → ℕ → Bool) (named named' : ℕ → Option ℕ)
    (request : ℕ → Option Request) (a c : ℕ)
    (old : Owning inside from to phase owns named) (ran : Running inside phase owns request)
    (free : (y : ℕ) → inside y c ≡ true → is_over (phase y) ≡ true)
    (ended : (t : ℕ) (q : Request) → request t ≡ Some q → q.dir ≢ c)
    (was : named c ≡ Some a) (is : named' c ≡ None) (others : (d : ℕ) → d ≢ c → named' d ≡ named d)
    (lost : owns' a c ≡ false) (elsewhere : (r d : ℕ) → r ≢ a → owns' r d ≡ owns r d) (rest : (r d : ℕ) → d ≢ c → owns' r d ≡ owns r d) where
  pub gone_owning : Owning inside from to phase owns' named'
  gone_owning = record {
    owner_named = λ r d h. grind (arith, old.owner_named);
    named_owns = λ r d h k. grind (arith, old.named_owns);
    moving = λ y r d h k. grind (arith, old.moving, old.placed);
    placed = λ y d h k. grind (arith, old.placed);
    one_export = old.one_export;
  }

  pub gone_running : Running inside phase owns' request
  gone_running = record {
    stands = λ t q h. grind (arith, ran.stands);
    early = ran.early;
  }

-- Exports that don't move are aborted, and requests end.
module _ (inside : ℕ → ℕ → Bool) (from to : ℕ → ℕ) (phase phase' : ℕ → Phase) (owns : ℕ → ℕ → Bool) (named : ℕ → Option ℕ)
    (request request' : ℕ → Option Request)
    (old : Owning inside from to phase owns named) (ran : Running inside phase owns request)
    (phases : (y : ℕ) → (phase' y ≡ phase y) ⊎ ((is_moving (phase y) ≡ false) × (phase' y ≡ Over)))
    (still : (t : ℕ) (q : Request) → request' t ≡ Some q → request t ≡ Some q) where
  pub halted_owning : Owning inside from to phase' owns named
  halted_owning = record {
    owner_named = old.owner_named;
    named_owns = λ r d h k. (let m : (x : ℕ) × (inside x d ≡ true) × (is_moving (phase x) ≡ true) = old.named_owns r d h k in
        (m.0, m.1, grind (arith, phases m.0, m.2)));
    moving = λ y r d h k. grind (arith, old.moving, phases y);
    placed = λ y d h k. grind (arith, old.placed, phases y);
    one_export = λ y z d h k l m. grind (arith, old.one_export, phases y, phases z);
  }

  pub halted_running : Running inside phase' owns request'
  halted_running = record {
    stands = λ t q h. grind (arith, ran.stands, still);
    early = λ t q y h k l. grind (arith, ran.early, still, phases y);
  }
