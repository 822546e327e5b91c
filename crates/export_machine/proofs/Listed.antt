-- How the exports that are listed by rank follow each event.
use Rattle.std.proofs.Common.{◌≡◌, ◌≢◌, ℕ, zero, suc, ◌+◌, ◌<◌, ◌≤◌, Bool, true, false, ◌&&◌, ◌||◌, not, eqb, cond, List}
use Rattle.std.proofs.Common.{[], ◌∷◌, ◌++◌, length, get_or, set, take, Vec, refl, sym, ap, ◌∙◌, inl, inr, ◌⊎◌, arith}
use Rattle.std.specs.Prelude.{replicate, nat_lt}
use Rattle.std.proofs.lemmas.Bool.{cases_lt, cases_eq, cases_Bool, or_left, or_right}
use Rattle.std.proofs.lemmas.List.{get_or-set_same, get_or-set_other, get_or_past, length-set, take_all}
use Rattle.export_protocol.specs.declared.exporter.ExporterState.{ExporterState}
use Rattle.export_protocol.specs.declared.importer.ImporterState.{ImporterState}
use Rattle.export_protocol.specs.declared.journal.JournalEntry.{JournalEntry}
use Rattle.export_protocol.specs.declared.exporter.ExporterState.TheVariants.{Aborted}
use Rattle.export_protocol.specs.declared.importer.ImporterState.TheVariants.{Unknown, Dropped}
use Rattle.export_protocol.specs.Cluster.{World}
use Rattle.mds_types.specs.declared.order.Order.{Order}
use Rattle.export_protocol.specs.Authority.{is_among, order_in, no_order, has, has_entry, is_same}
use Rattle.export_protocol.specs.Step.{map_at, is_before_log, journals, importer_to}
use Rattle.export_machine.specs.Columns.{has_spare}
use Rattle.export_machine.specs.Kept.{AreListed, is_passing, is_open_at, has_dropped, has_place}
use Rattle.export_protocol.proofs.Lists.{among_push, take_next}
use Rattle.export_protocol.proofs.Lookups.{itself}
use Rattle.export_protocol.proofs.Marks.{map_at_same, unchanged}
use Rattle.export_protocol.proofs.Halting.{same_here}
use Rattle.export_protocol.proofs.Views.{has_adds}

-- what is listed stays so

-- one export more in a rank's list
pub pushed : (ls : List (List ℕ)) (r x s y : ℕ) → r < length ls → is_among (get_or ls s []) y ≡ true
    → is_among (get_or (set ls r (get_or ls r [] ++ x ∷ [])) s []) y ≡ true
pushed ls r x s y near h = elim (cases_eq s r) [
  | inl e ↦
      rw (e, get_or-set_same ls r (get_or ls r [] ++ x ∷ []) [] near, among_push (get_or ls r []) x y)
      (or_left (is_among (get_or ls r []) y) (eqb x y) (ap (λ k. is_among (get_or ls k []) y) (sym e) ∙ h))
  | inr n ↦ ap (λ l. is_among l y) (get_or-set_other ls r s (get_or ls r [] ++ x ∷ []) [] n) ∙ h
]

pub pushed_here : (ls : List (List ℕ)) (r x : ℕ) → r < length ls → is_among (get_or (set ls r (get_or ls r [] ++ x ∷ [])) r []) x ≡ true
pushed_here ls r x near =
    rw (get_or-set_same ls r (get_or ls r [] ++ x ∷ []) [] near, among_push (get_or ls r []) x x) (or_right (is_among (get_or ls r []) x) (eqb x x) (itself x))

-- states that no stop changes where it changed none before

pub set_before : (xs : List ExporterState) (x : ℕ) (s : ExporterState) → (is_before_log s ≡ true → is_before_log (get_or xs x Aborted) ≡ true) →
    (y : ℕ) → is_before_log (get_or (set xs x s) y Aborted) ≡ true → is_before_log (get_or xs y Aborted) ≡ true
set_before xs x s f y h = elim (cases_eq y x) [
  | inr n ↦ ap is_before_log (sym (get_or-set_other xs x y s Aborted n)) ∙ h
  | inl e ↦ ap (λ k. is_before_log (get_or xs k Aborted)) e ∙ elim (cases_lt x (length xs)) [
    | inl m ↦ f (ap is_before_log (sym (get_or-set_same xs x s Aborted m)) ∙ (ap (λ k. is_before_log (get_or (set xs x s) k Aborted)) (sym e) ∙ h))
    | inr m ↦ absurd (differ (ap is_before_log (sym (get_or_past (set xs x s) x Aborted (rw (length-set xs x s) m)))
        ∙ (ap (λ k. is_before_log (get_or (set xs x s) k Aborted)) (sym e) ∙ h)))
  ]
]
  where
    differ : false ≡ true → ⊥
    differ e = cc

pub set_passing : (xs : List ImporterState) (x : ℕ) (s : ImporterState) → (is_passing s ≡ true → is_passing (get_or xs x Unknown) ≡ true) →
    (y : ℕ) → is_passing (get_or (set xs x s) y Unknown) ≡ true → is_passing (get_or xs y Unknown) ≡ true
set_passing xs x s f y h = elim (cases_eq y x) [
  | inr n ↦ ap is_passing (sym (get_or-set_other xs x y s Unknown n)) ∙ h
  | inl e ↦ ap (λ k. is_passing (get_or xs k Unknown)) e ∙ elim (cases_lt x (length xs)) [
    | inl m ↦ f (ap is_passing (sym (get_or-set_same xs x s Unknown m)) ∙ (ap (λ k. is_passing (get_or (set xs x s) k Unknown)) (sym e) ∙ h))
    | inr m ↦ absurd (differ (ap is_passing (sym (get_or_past (set xs x s) x Unknown (rw (length-set xs x s) m)))
        ∙ (ap (λ k. is_passing (get_or (set xs x s) k Unknown)) (sym e) ∙ h)))
  ]
]
  where
    differ : false ≡ true → ⊥
    differ e = cc

-- an entry that drops nothing
pub entry_drops_none : (w : World) (r : ℕ) (e : JournalEntry) → r < length w.journals → ((y : ℕ) → is_same e (JournalEntry.Dropped y) ≡ false) →
    (x : ℕ) → has_dropped w.orders (journals w r e).journals x ≡ has_dropped w.orders w.journals x
entry_drops_none w r e near h x =
    has_adds w r e near (order_in w.orders x).to (JournalEntry.Dropped x)
    ∙ none (has w (order_in w.orders x).to (JournalEntry.Dropped x)) (eqb (order_in w.orders x).to r)
    (is_same e (JournalEntry.Dropped x)) (h x)
  where
    none : (a b c : Bool) → c ≡ false → (a || (b && c)) ≡ a
    none a b c k = grind arith

module _ (ranks : ℕ) (os : List Order) (es : List ExporterState) (is : List ImporterState) (js : List (List JournalEntry))
    (ls : List (List ℕ)) (ns : List Bool) (l : AreListed ranks os es is js ls ns) where
  -- an exporter's state changes
  pub exporter_listed : (x : ℕ) (s : ExporterState) → (is_before_log s ≡ true → is_before_log (get_or es x Aborted) ≡ true)
      → AreListed ranks os (set es x s) is js ls ns
  exporter_listed x s f = record { exports = λ y h. l.exports y (set_before es x s f y h); imports = l.imports; tells = l.tells; ranked = l.ranked }

  -- an importer's state changes
  pub importer_listed : (x : ℕ) (s : ImporterState) → (is_passing s ≡ true → is_passing (get_or is x Unknown) ≡ true)
      → AreListed ranks os es (set is x s) js ls ns
  importer_listed x s f = record { exports = l.exports; imports = λ y h k. l.imports y (set_passing is x s f y h) k; tells = l.tells; ranked = l.ranked }

  -- an entry drops nothing
  pub entry_listed : (ks : List (List JournalEntry)) → ((x : ℕ) → has_dropped os ks x ≡ has_dropped os js x) → AreListed ranks os es is ks ls ns
  entry_listed ks h = record { exports = l.exports; imports = λ x p k. l.imports x p (sym (h x) ∙ k); tells = λ x. l.tells x ∙ sym (h x); ranked = l.ranked }

  -- the importer hears of an export
  pub heard_listed : (x : ℕ) (s : ImporterState) → (order_in os x).to < length ls
      → AreListed ranks os es (set is x s) js (set ls (order_in os x).to (get_or ls (order_in os x).to [] ++ x ∷ [])) ns
  heard_listed x s near = record {
    exports = λ y h. pushed ls (order_in os x).to x (order_in os y).from y near (l.exports y h);
    imports = λ y h k. elim (cases_eq y x) [
      | inl e ↦ rw e (pushed_here ls (order_in os x).to x near)
      | inr n ↦ pushed ls (order_in os x).to x (order_in os y).to y near (l.imports y (ap is_passing (sym (get_or-set_other is x y s Unknown n)) ∙ h) k)
    ];
    tells = l.tells;
    ranked = length-set ls (order_in os x).to (get_or ls (order_in os x).to [] ++ x ∷ []) ∙ l.ranked;
  }

-- an import is dropped that had started
module _ (w : World) (ls : List (List ℕ)) (ns : List Bool) (l : AreListed w.ranks w.orders w.exporters w.importers w.journals ls ns) (x : ℕ)
    (places : length ns ≡ length w.orders) (there : x < length w.orders)
    (near : (order_in w.orders x).to < length w.journals) where
  abbrev told : List (List JournalEntry)
  told = (journals (importer_to w x Dropped) (order_in w.orders x).to (JournalEntry.Dropped x)).journals

  adds_here : has_dropped w.orders told x ≡ true
  adds_here = has_adds (importer_to w x Dropped) (order_in w.orders x).to (JournalEntry.Dropped x) near (order_in w.orders x).to (JournalEntry.Dropped x)
      ∙ rw (itself (order_in w.orders x).to, itself x) (top (has w (order_in w.orders x).to (JournalEntry.Dropped x)))
    where
      top : (b : Bool) → (b || (true && true)) ≡ true
      top b = grind arith

  adds_other : (y : ℕ) → y ≢ x → has_dropped w.orders told y ≡ has_dropped w.orders w.journals y
  adds_other y n = has_adds (importer_to w x Dropped) (order_in w.orders x).to (JournalEntry.Dropped x) near (order_in w.orders y).to (JournalEntry.Dropped y)
      ∙ none (has w (order_in w.orders y).to (JournalEntry.Dropped y)) (eqb (order_in w.orders y).to (order_in w.orders x).to) (eqb x y) (unequal n)
    where
      none : (a b c : Bool) → c ≡ false → (a || (b && c)) ≡ a
      none a b c h = grind arith

      unequal : y ≢ x → eqb x y ≡ false
      unequal m = grind arith

  pub dropped_listed : AreListed w.ranks w.orders w.exporters (importer_to w x Dropped).importers told ls (set ns x true)
  dropped_listed = record {
    exports = l.exports;
    imports = λ y h k. elim (cases_eq y x) [
      | inl e ↦ absurd (differ (sym adds_here ∙ (ap (λ z. has_dropped w.orders told z) (sym e) ∙ k)))
      | inr n ↦ l.imports y (ap is_passing (sym (get_or-set_other w.importers x y Dropped Unknown n)) ∙ h) (sym (adds_other y n) ∙ k)
    ];
    tells = λ y. elim (cases_eq y x) [
      | inl e ↦ rw e (get_or-set_same ns x true false (rw places there) ∙ sym adds_here)
      | inr n ↦ get_or-set_other ns x y true false n ∙ (l.tells y ∙ sym (adds_other y n))
    ];
    ranked = l.ranked;
  }
    where
      differ : true ≡ false → ⊥
      differ e = cc

-- a new cluster's

pub no_drops : (ranks x : ℕ) → has_dropped [] (set (replicate ranks []) 0 (JournalEntry.Made 0 ∷ [])) x ≡ false
no_drops ranks x = ap (λ (o : Order). has_entry (get_or (set (replicate ranks []) 0 (JournalEntry.Made 0 ∷ [])) o.to [])
    (JournalEntry.Dropped x)) (get_or_past [] x no_order (omega arith)) ∙ go ranks
  where
    go : (n : ℕ) → has_entry (get_or (set (replicate n []) 0 (JournalEntry.Made 0 ∷ [])) 0 []) (JournalEntry.Dropped x) ≡ false
    go zero = refl
    go (suc n) = refl

pub start_listed : (ranks : ℕ) (js : List (List JournalEntry)) → ((x : ℕ) → has_dropped [] js x ≡ false) → AreListed ranks [] [] [] js (replicate ranks []) []
start_listed ranks js none = record {
  exports = λ x h. absurd (differ (ap is_before_log (sym (get_or_past [] x Aborted (omega arith))) ∙ h));
  imports = λ x h k. absurd (differ (ap is_passing (sym (get_or_past [] x Unknown (omega arith))) ∙ h));
  tells = λ x. get_or_past [] x false (omega arith) ∙ sym (none x);
  ranked = many ranks;
}
  where
    differ : false ≡ true → ⊥
    differ e = cc

    many : (n : ℕ) → length (replicate {A = List ℕ} n []) ≡ n
    many zero = refl
    many (suc n) = ap suc (many n)

-- exports whose states the journal holds go

pub before_near : (es : List ExporterState) (x : ℕ) → is_before_log (get_or es x Aborted) ≡ true → x < length es
before_near es x h = elim (cases_lt x (length es)) [ inl m ↦ m | inr m ↦ absurd (differ (ap is_before_log (sym (get_or_past es x Aborted m)) ∙ h)) ]
  where
    differ : false ≡ true → ⊥
    differ e = cc

pub passing_near : (is : List ImporterState) (x : ℕ) → is_passing (get_or is x Unknown) ≡ true → x < length is
passing_near is x h = elim (cases_lt x (length is)) [ inl m ↦ m | inr m ↦ absurd (differ (ap is_passing (sym (get_or_past is x Unknown m)) ∙ h)) ]
  where
    differ : false ≡ true → ⊥
    differ e = cc

module _ (ranks : ℕ) (os : List Order) (es : List ExporterState) (is : List ImporterState) (js : List (List JournalEntry))
    (ls : List (List ℕ)) (ns : List Bool) (l : AreListed ranks os es is js ls ns)
    (exporting : length es ≡ length os) (importing : length is ≡ length os) (rank : ℕ) (kept : List ℕ) (near : rank < length ls)
    (keeps : (x : ℕ) → is_open_at rank os es is ns x ≡ true → is_among (get_or ls rank []) x ≡ true → is_among kept x ≡ true) where
  stays : (x s : ℕ) → is_among (get_or ls s []) x ≡ true → (s ≡ rank → is_open_at rank os es is ns x ≡ true)
      → is_among (get_or (set ls rank kept) s []) x ≡ true
  stays x s h o = elim (cases_eq s rank) [
    | inl e ↦ rw (e, get_or-set_same ls rank kept [] near) (keeps x (o e) (ap (λ k. is_among (get_or ls k []) x) (sym e) ∙ h))
    | inr n ↦ ap (λ k. is_among k x) (get_or-set_other ls rank s kept [] n) ∙ h
  ]

  pub kept_listed : AreListed ranks os es is js (set ls rank kept) ns
  kept_listed = record {
    exports = λ x h. stays x (order_in os x).from (l.exports x h)
        (λ e. first (nat_lt x (length os)) (eqb (order_in os x).from rank) (is_before_log (get_or es x Aborted))
        (eqb (order_in os x).to rank) (is_passing (get_or is x Unknown)) (get_or ns x false)
        (there x (omega (arith, before_near es x h))) (rw e (itself rank)) h);
    imports = λ x h k. stays x (order_in os x).to (l.imports x h k)
        (λ e. second (nat_lt x (length os)) (eqb (order_in os x).from rank) (is_before_log (get_or es x Aborted))
        (eqb (order_in os x).to rank) (is_passing (get_or is x Unknown)) (get_or ns x false)
        (there x (omega (arith, passing_near is x h))) (rw e (itself rank)) h (l.tells x ∙ k));
    tells = l.tells;
    ranked = length-set ls rank kept ∙ l.ranked;
  }
    where
      there : (x : ℕ) → x < length os → nat_lt x (length os) ≡ true
      there x h = grind arith

      first : (n a b c d e : Bool) → n ≡ true → a ≡ true → b ≡ true → (n && ((a && b) || (c && d && not e))) ≡ true
      first n a b c d e j h k = grind arith

      second : (n a b c d e : Bool) → n ≡ true → c ≡ true → d ≡ true → e ≡ false → (n && ((a && b) || (c && d && not e))) ≡ true
      second n a b c d e j h k m = grind arith

-- a table that is changed at the places of a list

abbrev pub changed_among : {A : Type 0} → (ℕ → A → A) → List ℕ → List A → List A
changed_among g places xs = map_at (λ k a. cond (is_among places k) (g k a) a) xs

pub set_own : {A : Type 0} (xs : List A) (k : ℕ) (d : A) → set xs k (get_or xs k d) ≡ xs
set_own [] zero d = refl
set_own [] (suc k) d = refl
set_own (x ∷ xs) zero d = refl
set_own (x ∷ xs) (suc k) d = ap (λ ys. x ∷ ys) (set_own xs k d)

set_change : {A : Type 0} (g : ℕ → A → A) → ((k : ℕ) (a : A) → g k (g k a) ≡ g k a) → (test : ℕ → Bool) (xs : List A) (n : ℕ) (d : A) →
    set (map_at (λ k a. cond (test k) (g k a) a) xs) n (g n (get_or (map_at (λ k a. cond (test k) (g k a) a) xs) n d))
    ≡ map_at (λ k a. cond (test k || eqb n k) (g k a) a) xs
set_change g twice test [] zero d = refl
set_change g twice test [] (suc n) d = refl
set_change {A = A} g twice test (x ∷ xs) zero d =
    rw (here (test 0)) (ap (λ ys. cond (test 0 || eqb 0 0) (g 0 x) x ∷ ys)
    (map_at_same (λ k a. cond (test (suc k)) (g (suc k) a) a) (λ k a. cond (test (suc k) || eqb 0 (suc k)) (g (suc k) a) a)
    (λ k a. ap (λ b. cond b (g (suc k) a) a) (there (test (suc k)) k)) xs))
  where
    here : (b : Bool) → g 0 (cond b (g 0 x) x) ≡ cond (b || eqb 0 0) (g 0 x) x
    here true = twice 0 x
    here false = refl

    there : (b : Bool) (k : ℕ) → b ≡ (b || eqb 0 (suc k))
    there b k = grind arith
set_change g twice test (x ∷ xs) (suc n) d =
    rw (← first (test 0)) (ap (λ ys. cond (test 0) (g 0 x) x ∷ ys) (set_change (λ k. g (suc k)) (λ k. twice (suc k)) (λ k. test (suc k)) xs n d
    ∙ map_at_same (λ k a. cond (test (suc k) || eqb n k) (g (suc k) a) a) (λ k a. cond (test (suc k) || eqb (suc n) (suc k)) (g (suc k) a) a)
    (λ k a. ap (λ b. cond b (g (suc k) a) a) (next (test (suc k)) k)) xs))
  where
    first : (b : Bool) → b ≡ (b || eqb (suc n) 0)
    first b = grind arith

    next : (b : Bool) (k : ℕ) → (b || eqb n k) ≡ (b || eqb (suc n) (suc k))
    next b k = ap (λ c. b || c) (same (eqb n k) refl)
      where
        same : (c : Bool) → eqb n k ≡ c → eqb n k ≡ eqb (suc n) (suc k)
        same c e = grind arith

pub change_among_none : {A : Type 0} (g : ℕ → A → A) (xs : List A) → xs ≡ changed_among g [] xs
change_among_none g xs = sym (unchanged xs)

pub change_among_next : {A : Type 0} (g : ℕ → A → A) → ((k : ℕ) (a : A) → g k (g k a) ≡ g k a)
    → (places : List ℕ) (i n : ℕ) (xs ys : List A) (v d : A) → i < length places → n ≡ get_or places i n →
    ys ≡ changed_among g (take i places) xs → v ≡ g n (get_or ys n d) → set ys n v ≡ changed_among g (take (i + 1) places) xs
change_among_next g twice places i n xs ys v d l e s h =
    ap (set ys n) h
    ∙ (ap (λ us. set us n (g n (get_or us n d))) s
    ∙ (set_change g twice (is_among (take i places)) xs n d
    ∙ map_at_same _ _ (λ k a. ap (λ b. cond b (g k a) a) (sym (ap (λ zs. is_among zs k) (take_next places i n l e) ∙ among_push (take i places) n k))) xs))

-- where each place that changes is in the list
pub change_among_all : {A : Type 0} (g : ℕ → A → A) (places : List ℕ) (i : ℕ) (xs : List A) (d : A) → length places ≤ i
    → ((k : ℕ) → is_among places k ≡ false → g k (get_or xs k d) ≡ get_or xs k d) →
    changed_among g (take i places) xs ≡ map_at g xs
change_among_all g places i xs d past rest = ap (λ l. changed_among g l xs) (take_all i places past)
    ∙ same_here _ _ xs d (λ k l. go k (cases_Bool (is_among places k)))
  where
    go : (k : ℕ) → (is_among places k ≡ true) ⊎ (is_among places k ≡ false)
        → cond (is_among places k) (g k (get_or xs k d)) (get_or xs k d) ≡ g k (get_or xs k d)
    go k (inl t) = rw t refl
    go k (inr f) = rw f (sym (rest k f))

-- where one list keeps its place, so does each
pub set_places : {T A : Type 0} (ls : List (Vec T A)) (k : ℕ) (v d : Vec T A) → k < length ls → d ≡ get_or ls k d → (has_spare d ≡ true → has_spare v ≡ true) →
    (other : ℕ) → has_place ls other ≡ true → has_place (set ls k v) other ≡ true
set_places [] k v d near e f other h = absurd (omega arith)
set_places (l ∷ ls) zero v d near e f zero h = f (ap (λ x. has_spare x) e ∙ h)
set_places (l ∷ ls) zero v d near e f (suc other) h = h
set_places (l ∷ ls) (suc k) v d near e f zero h = h
set_places (l ∷ ls) (suc k) v d near e f (suc other) h = set_places ls k v d (omega arith) e f other h
