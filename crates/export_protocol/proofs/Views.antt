-- What each change of a world leaves to be read.
use Rattle.std.proofs.Common.{◌≡◌, ◌≢◌, ℕ, zero, suc, ◌+◌, ◌<◌, ◌≤◌, Bool, false, ◌&&◌, ◌||◌, eqb, List}
use Rattle.std.proofs.Common.{[], ◌∷◌, ◌++◌, length, get_or, Some, refl, sym, ap, ◌∙◌, inl, inr, ◌⊎◌, arith}
use Rattle.std.specs.List.{slice_get}
use Rattle.export_protocol.specs.declared.journal.JournalEntry.{JournalEntry}
use Rattle.export_protocol.specs.Cluster.{World}
use Rattle.mds_types.specs.declared.order.Order.{Order}
use Rattle.export_protocol.specs.Authority.{journal_of, is_same, has_entry, has, owned_after, owned_by, owns}
use Rattle.export_protocol.specs.Step.{journals, map_at}
use Rattle.std.proofs.lemmas.List.{get_or-set_same, get_or-set_other, get_or_past}
use Rattle.std.proofs.lemmas.Bool.{cases_lt, cases_eq}

-- lists

pub push_same : {A : Type 0} (xs : List A) (a d : A) → get_or (xs ++ a ∷ []) (length xs) d ≡ a
push_same [] a d = refl
push_same (x ∷ xs) a d = push_same xs a d

pub push_other : {A : Type 0} (xs : List A) (a d : A) (k : ℕ) → k ≢ length xs → get_or (xs ++ a ∷ []) k d ≡ get_or xs k d
push_other [] a d zero n = absurd (n refl)
push_other [] a d (suc k) n = refl
push_other (x ∷ xs) a d zero n = refl
push_other (x ∷ xs) a d (suc k) n = push_other xs a d k (λ e. n (ap suc e))

pub push_get : {A : Type 0} (xs : List A) (a : A) (k : ℕ) (m : A) → slice_get (xs ++ a ∷ []) k ≡ Some m → (slice_get xs k ≡ Some m) ⊎ (m ≡ a)
push_get [] a zero m e = inr (cc)
push_get [] a (suc k) m e = inl e
push_get (x ∷ xs) a zero m e = inl e
push_get (x ∷ xs) a (suc k) m e = push_get xs a k m e

pub length_push : {A : Type 0} (xs : List A) (a : A) → length (xs ++ a ∷ []) ≡ length xs + 1
length_push [] a = refl
length_push (x ∷ xs) a = ap suc (length_push xs a) ∙ omega arith

pub map_at_get : {A B : Type 0} (f : ℕ → A → B) (xs : List A) (k : ℕ) (a : A) (b : B) → k < length xs → get_or (map_at f xs) k b ≡ f k (get_or xs k a)
map_at_get f [] k a b h = absurd (omega arith)
map_at_get f (x ∷ xs) zero a b h = refl
map_at_get f (x ∷ xs) (suc k) a b h = map_at_get (λ j. f (suc j)) xs k a b (omega arith)

pub map_at_past : {A B : Type 0} (f : ℕ → A → B) (xs : List A) (k : ℕ) (b : B) → length xs ≤ k → get_or (map_at f xs) k b ≡ b
map_at_past f [] k b h = refl
map_at_past f (x ∷ xs) zero b h = absurd (omega arith)
map_at_past f (x ∷ xs) (suc k) b h = map_at_past (λ j. f (suc j)) xs k b (omega arith)

pub map_at_length : {A B : Type 0} (f : ℕ → A → B) (xs : List A) → length (map_at f xs) ≡ length xs
map_at_length f [] = refl
map_at_length f (x ∷ xs) = ap suc (map_at_length (λ j. f (suc j)) xs)

-- states

pub not_past : {A : Type 0} (xs : List A) (k : ℕ) (d a : A) → get_or xs k d ≡ a → a ≢ d → k < length xs
not_past xs k d a e n = elim (cases_lt k (length xs)) [ inl h ↦ h | inr h ↦ absurd (n (sym e ∙ get_or_past xs k d h)) ]

-- journals

pub has_push : (journal : List JournalEntry) (e f : JournalEntry) → has_entry (journal ++ e ∷ []) f ≡ (has_entry journal f || is_same e f)
has_push [] e f = or_false (is_same e f)
  where
    or_false : (b : Bool) → (b || false) ≡ (false || b)
    or_false b = grind arith
has_push (g ∷ journal) e f = ap (λ b. is_same g f || b) (has_push journal e f) ∙ or_assoc (is_same g f) (has_entry journal f) (is_same e f)
  where
    or_assoc : (a b c : Bool) → (a || (b || c)) ≡ ((a || b) || c)
    or_assoc a b c = grind arith

pub owned_push : (orders : List Order) (d : ℕ) (owned : Bool) (journal : List JournalEntry) (e : JournalEntry) →
    owned_by orders d owned (journal ++ e ∷ []) ≡ owned_after orders d (owned_by orders d owned journal) e
owned_push orders d owned [] e = refl
owned_push orders d owned (f ∷ journal) e = owned_push orders d (owned_after orders d owned f) journal e

module _ (w : World) (r : ℕ) (e : JournalEntry) (near : r < length w.journals) where
  pub journal_at : journal_of (journals w r e) r ≡ journal_of w r ++ e ∷ []
  journal_at = get_or-set_same w.journals r (journal_of w r ++ e ∷ []) [] near

  pub journal_other : (s : ℕ) → s ≢ r → journal_of (journals w r e) s ≡ journal_of w s
  journal_other s n = get_or-set_other w.journals r s (journal_of w r ++ e ∷ []) [] n

  pub has_adds : (s : ℕ) (f : JournalEntry) → has (journals w r e) s f ≡ (has w s f || (eqb s r && is_same e f))
  has_adds s f = elim (cases_eq s r) [
    | inl i ↦ rw (i, journal_at, has_push (journal_of w r) e f) (here (has w r f) r (is_same e f))
    | inr n ↦ rw (journal_other s n) (there (has w s f) s r (is_same e f) n)
  ]
    where
      here : (h : Bool) (x : ℕ) (b : Bool) → (h || b) ≡ (h || (eqb x x && b))
      here h x b = grind arith

      there : (h : Bool) (x y : ℕ) (b : Bool) → x ≢ y → h ≡ (h || (eqb x y && b))
      there h x y b m = grind arith

  pub owns_at : (d : ℕ) → owns (journals w r e) r d ≡ owned_after w.orders d (owns w r d) e
  owns_at d = rw journal_at (owned_push w.orders d false (journal_of w r) e)

  pub owns_other : (s d : ℕ) → s ≢ r → owns (journals w r e) s d ≡ owns w s d
  owns_other s d n = rw (journal_other s n) refl
