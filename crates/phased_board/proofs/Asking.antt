-- The states of orders while a board goes on.
use Rattle.std.proofs.Common.{◌≡◌, ◌≤◌, ◌<◌, ◌+◌, ℕ, zero, suc, Bool, true, false, cond, take, List, []}
use Rattle.std.proofs.Common.{◌∷◌, ◌++◌, length, Some, slice_get, get_or, refl, sym, ap, ◌∙◌, subst, arith, append-nil, append_assoc}
use mathlib.Core.List.{IsPrefix}
use Rattle.mds_board.specs.declared.entry.Entry.{Entry}
use Rattle.std.proofs.Math.ListN.{set}
use Rattle.std.proofs.lemmas.List.Sums.{sum_by-append, sum_by-set}
use Rattle.std.specs.List.{count_by}
use Rattle.phased_board.specs.Asked.{ones}
use Rattle.mds_types.specs.declared.order.Order.{Order}
use Rattle.mds_board.specs.History.{World}
use Rattle.phased_board.specs.declared.standing.Standing.{Standing}
use Rattle.phased_board.specs.declared.standing.Standing.TheVariants.{Waiting, Started, Refused}
use Rattle.phased_board.specs.Asked.{AreAsked, IsAsked}
use Rattle.mds_board.specs.declared.board_error.BoardError.{BoardError}
use Rattle.mds_board.specs.declared.change.Change.{Change}
use Rattle.phased_board.specs.Going.{WentOnBy, WentOnWithStops, added}
use Rattle.phased_board.specs.Moments.{IsMet}
use Rattle.export_protocol.specs.declared.event.Event.TheVariants.{Start}
use Rattle.mds_board.specs.declared.change.Change.TheVariants.{Step}
use Rattle.mds_board.specs.Steps.{IsDue}
use Rattle.phased_board.specs.Outcomes.{IsRefused, IsStarted}
use Rattle.phased_board.specs.Pairs.{AreEach}
use Rattle.phased_board.proofs.Going.{all_parts}
use Rattle.phased_board.proofs.Ordering.{get_first, get_last, no_fewer, orders_stay}

pub each_maps : {A B : Type 0} (R S : A → B → Type 0) → ((a : A) (b : B) → R a b → S a b) → (xs : List A) (ys : List B) → AreEach R xs ys → AreEach S xs ys
each_maps R S f [] [] h = tt
each_maps R S f (a ∷ xs) (b ∷ ys) h = (f a b h.0, each_maps R S f xs ys h.1)
each_maps R S f [] (b ∷ ys) h = absurd h
each_maps R S f (a ∷ xs) [] h = absurd h

pub each_set : {A B : Type 0} (R S : A → B → Type 0) → ((a : A) (b : B) → R a b → S a b) → (xs : List A) (ys : List B) (k : ℕ) (b d : B) → k < length ys
    → ((a : A) → R a (get_or ys k d) → S a b) → AreEach R xs ys → AreEach S xs (set ys k b)
each_set R S f [] [] k b d l g h = absurd (omega arith)
each_set R S f (a ∷ xs) (c ∷ ys) zero b d l g h = (g a h.0, each_maps R S f xs ys h.1)
each_set R S f (a ∷ xs) (c ∷ ys) (suc k) b d l g h = (f a c h.0, each_set R S f xs ys k b d (omega arith) g h.1)
each_set R S f [] (c ∷ ys) k b d l g h = absurd h
each_set R S f (a ∷ xs) [] k b d l g h = absurd h

-- Boards on the way.

pub follows : (xs ys zs : List Entry) → IsPrefix xs ys → IsPrefix ys zs → IsPrefix xs zs
follows xs ys zs p q = (p.0 ++ q.0, sym (append_assoc xs p.0 q.0) ∙ (ap (λ (l : List Entry). l ++ q.0) p.1 ∙ q.1))

pub met_later : (first : World) (log longer : List Entry) (change : Change) (e : BoardError) → IsPrefix log longer
    → IsMet first log change e → IsMet first longer change e
met_later first log longer change e more h = record {
  board = h.board;
  stops = h.stops;
  went = h.went;
  due = h.due;
  kept = follows h.board.history log longer h.kept more;
}

-- The history goes on, and so do the exports.
pub record Grows (now new : World) : Type 0 where
  pub history : IsPrefix now.history new.history
  pub more : List Order
  pub orders : new.state.cluster.orders ≡ now.state.cluster.orders ++ more

pub went_grows : (r x : Bool) (stops : List ℕ) (now new : World) → WentOnWithStops r x stops now new → Grows now new
went_grows r x stops now new h =
    let more = orders_stay r x stops now new h in record { history = (added now new, sym (all_parts r x stops now new h)); more = more.0; orders = more.1 }

asked_grows : (first now new : World) → Grows now new → (order : Order) (standing : Standing) → IsAsked first now order standing
    → IsAsked first new order standing
asked_grows first now new h order (Waiting waiting) is = is
asked_grows first now new h order (Started x) is =
    (is.0, ap (λ (os : List Order). slice_get os x) h.orders ∙ get_first now.state.cluster.orders h.more x order is.1)
asked_grows first now new h order (Refused error) is = met_later first now.history new.history _ error h.history is

pub all_grow : (first now new : World) (orders : List Order) (standings : List Standing) → Grows now new
    → AreAsked first now orders standings → AreAsked first new orders standings
all_grow first now new orders standings h all = each_maps (IsAsked first now) (IsAsked first new) (asked_grows first now new h) orders standings all

pub each_long : {A B : Type 0} (R : A → B → Type 0) (xs : List A) (ys : List B) → AreEach R xs ys → length xs ≡ length ys
each_long R [] [] h = refl
each_long R (a ∷ xs) (b ∷ ys) h = ap suc (each_long R xs ys h.1)
each_long R [] (b ∷ ys) h = absurd h
each_long R (a ∷ xs) [] h = absurd h

pub each_snoc : {A B : Type 0} (R : A → B → Type 0) (xs : List A) (ys : List B) (a : A) (b : B) → R a b → AreEach R xs ys
    → AreEach R (xs ++ a ∷ []) (ys ++ b ∷ [])
each_snoc R [] [] a b r h = (r, tt)
each_snoc R (x ∷ xs) (y ∷ ys) a b r h = (h.0, each_snoc R xs ys a b r h.1)
each_snoc R [] (y ∷ ys) a b r h = absurd h
each_snoc R (x ∷ xs) [] a b r h = absurd h

-- what holds of the first elements, and of the next one
pub each_next : {A B C : Type 0} (R : A → B → Type 0) (S : A → C → Type 0) (xs : List A) (ys : List B) (i : ℕ) (d : B) (c : C) (zs : List C) → AreEach R xs ys
    → i < length ys → ((a : A) → R a (get_or ys i d) → S a c) → AreEach S (take i xs) zs → AreEach S (take (suc i) xs) (zs ++ c ∷ [])
each_next R S [] [] i d c zs h n f t = absurd (omega arith)
each_next R S (a ∷ xs) (b ∷ ys) zero d c [] h n f t = (f a h.0, tt)
each_next R S (a ∷ xs) (b ∷ ys) zero d c (z ∷ zs) h n f t = absurd t
each_next R S (a ∷ xs) (b ∷ ys) (suc i) d c [] h n f t = absurd t
each_next R S (a ∷ xs) (b ∷ ys) (suc i) d c (z ∷ zs) h n f t = (t.0, each_next R S xs ys i d c zs h.1 (omega arith) f t.1)
each_next R S [] (b ∷ ys) i d c zs h n f t = absurd h
each_next R S (a ∷ xs) [] i d c zs h n f t = absurd h

-- an order that has just been refused
pub newly_refused : (stops : List ℕ) (first now : World) (order waiting : Order) (e : BoardError) → WentOnWithStops true true stops first now → waiting ≡ order
    → IsDue now.state (Step (Start waiting.from waiting.to waiting.dirs)) e → IsRefused first now order e
newly_refused stops first now order waiting e h is due = record {
  board = now;
  stops = stops;
  went = h;
  due = subst (λ (o : Order). IsDue now.state (Step (Start o.from o.to o.dirs)) e) is due;
  kept = ([], append-nil now.history);
}

-- an order that has just been started
pub newly_started : (stops : List ℕ) (first now new : World) (order waiting : Order) (x : ℕ) → WentOnWithStops true true stops first now
    → waiting ≡ order → x ≡ length now.state.cluster.orders
    → new.state.cluster.orders ≡ now.state.cluster.orders ++ waiting ∷ [] → IsStarted first new order x
newly_started stops first now new order waiting x h is e more = (
  subst (λ n. length first.state.cluster.orders ≤ n) (sym e) (no_fewer true true stops first now h),
  ap (λ (os : List Order). slice_get os x) more
      ∙ (ap (λ n. slice_get (now.state.cluster.orders ++ waiting ∷ []) n) e ∙ (get_last now.state.cluster.orders waiting ∙ ap (λ (o : Order). Some o) is)),
)

later : (first now : World) (o : Order) (s : Standing) (x : ℕ) → IsAsked first now o s → s ≡ Started x → length first.state.cluster.orders ≤ x
later first now o s x h is = let started : IsStarted first now o x = subst (λ (t : Standing). IsAsked first now o t) is h in started.0

-- an order's export was started in the phase
pub begun_later : (first now : World) (orders : List Order) (standings : List Standing) (k x : ℕ) (d : Standing) → k < length standings
    → AreAsked first now orders standings → get_or standings k d ≡ Started x → length first.state.cluster.orders ≤ x
begun_later first now (o ∷ orders) (s ∷ standings) zero x d near h is = later first now o s x h.0 is
begun_later first now (o ∷ orders) (s ∷ standings) (suc k) x d near h is = begun_later first now orders standings k x d (omega arith) h.1 is
begun_later first now [] [] k x d near h is = absurd (omega arith)
begun_later first now [] (s ∷ standings) k x d near h is = absurd h
begun_later first now (o ∷ orders) [] k x d near h is = absurd h

-- an order that is in another state
pub one_changed : (first now new : World) (orders : List Order) (standings : List Standing) (k : ℕ) (s d : Standing)
    → WentOnBy false true now new → k < length standings
    → ((order : Order) → IsAsked first now order (get_or standings k d) → IsAsked first new order s) → AreAsked first now orders standings
    → AreAsked first new orders (set standings k s)
one_changed first now new orders standings k s d h near f all =
    each_set (IsAsked first now) (IsAsked first new) (asked_grows first now new (went_grows false true [] now new h)) orders standings k s d near f all

-- counts

pub count_snoc : {A : Type 0} (p : A → Bool) (xs : List A) (x : A) → count_by p (xs ++ x ∷ []) ≡ count_by p xs + ones (p x)
count_snoc p xs x = let e = sum_by-append (λ y. cond (p y) 1 0) xs (x ∷ []) in omega (arith, e)

pub count_set : {A : Type 0} (p : A → Bool) (xs : List A) (i : ℕ) (x d : A) → i < length xs
    → count_by p (set xs i x) + ones (p (get_or xs i d)) ≡ count_by p xs + ones (p x)
count_set p xs i x d h = sum_by-set (λ y. cond (p y) 1 0) xs i x d h
