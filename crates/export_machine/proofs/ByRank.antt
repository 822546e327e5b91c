-- How the tickets that are kept by rank follow requests that begin and end.
use Rattle.std.proofs.Common.{◌≡◌, ◌≢◌, ℕ, zero, suc, ◌+◌, ◌<◌, ◌≤◌, Bool, true, false, ◌||◌, eqb, cond, List, [], ◌∷◌, ◌++◌}
use Rattle.std.proofs.Common.{length, get_or, set, take, map, Vec, Global, Option, Some, None, refl, sym, ap, ◌∙◌, subst, inl, inr, arith}
use Rattle.std.specs.Prelude.{filter, is_some, replicate}
use Rattle.std.proofs.lemmas.Bool.{cases_lt, cases_eq, eqb-true, or_left, or_right, or_cases}
use Rattle.std.proofs.lemmas.List.{get_or-set_same, get_or-set_other, get_or_past, length-set, take_all, map-set, get_or-map}
use Rattle.export_protocol.specs.declared.event.Request.{Request}
use Rattle.export_protocol.specs.Authority.{is_among}
use Rattle.export_protocol.specs.Step.{map_at, ends_at}
use Rattle.export_machine.specs.Kept.{AreByRank}
use Rattle.export_protocol.proofs.Events.{set_none}
use Rattle.export_protocol.proofs.Lists.{among_push, take_next}
use Rattle.export_protocol.proofs.Lookups.{itself}
use Rattle.export_protocol.proofs.Marks.{map_at_same, unchanged}
use Rattle.export_protocol.proofs.Halting.{same_here}
use Rattle.export_protocol.proofs.Tidy.{ended_elsewhere}
use Rattle.export_protocol.proofs.Views.{push_same, push_other, map_at_get, map_at_past}

same_request : (p q : Request) → Some p ≡ Some q → p ≡ q
same_request p q e = cc

none_runs : (q : Request) → None ≡ Some q → ⊥
none_runs q e = cc

-- a request begins
pub begin_filed : (ranks : ℕ) (ts : List (Option Request)) (ls : List (List ℕ)) (q : Request) → AreByRank ranks ts ls → q.rank < length ls →
    AreByRank ranks (ts ++ Some q ∷ []) (set ls q.rank (get_or ls q.rank [] ++ length ts ∷ []))
begin_filed ranks ts ls q by near = record { filed = filed; ranked = length-set ls q.rank (get_or ls q.rank [] ++ length ts ∷ []) ∙ by.ranked }
  where
    here : get_or (set ls q.rank (get_or ls q.rank [] ++ length ts ∷ [])) q.rank [] ≡ get_or ls q.rank [] ++ length ts ∷ []
    here = get_or-set_same ls q.rank (get_or ls q.rank [] ++ length ts ∷ []) [] near

    newest : is_among (get_or ls q.rank [] ++ length ts ∷ []) (length ts) ≡ true
    newest = among_push (get_or ls q.rank []) (length ts) (length ts)
        ∙ or_right (is_among (get_or ls q.rank []) (length ts)) (eqb (length ts) (length ts)) (itself (length ts))

    filed : (t : ℕ) (p : Request) → get_or (ts ++ Some q ∷ []) t None ≡ Some p
        → is_among (get_or (set ls q.rank (get_or ls q.rank [] ++ length ts ∷ [])) p.rank []) t ≡ true
    filed t p h = elim (cases_eq t (length ts)) [
      | inl e ↦
          (let same : q ≡ p = same_request q p (sym (push_same ts (Some q) None) ∙ (ap (λ k. get_or (ts ++ Some q ∷ []) k None) (sym e) ∙ h)) in
          subst (λ (r : Request). is_among (get_or (set ls q.rank (get_or ls q.rank [] ++ length ts ∷ [])) r.rank []) t ≡ true) same (rw (here, e) newest))
      | inr n ↦
          (let was : is_among (get_or ls p.rank []) t ≡ true = by.filed t p (sym (push_other ts (Some q) None t n) ∙ h) in
          elim (cases_eq p.rank q.rank) [
            | inl s ↦
                (let old : is_among (get_or ls q.rank []) t ≡ true = ap (λ r. is_among (get_or ls r []) t) (sym s) ∙ was in
                ap (λ r. is_among (get_or (set ls q.rank (get_or ls q.rank [] ++ length ts ∷ [])) r []) t) s
                ∙ (ap (λ l. is_among l t) here
                ∙ (among_push (get_or ls q.rank []) (length ts) t ∙ or_left (is_among (get_or ls q.rank []) t) (eqb (length ts) t) old)))
            | inr m ↦ ap (λ l. is_among l t) (get_or-set_other ls q.rank p.rank (get_or ls q.rank [] ++ length ts ∷ []) [] m) ∙ was
          ])
    ]

-- a request ends
pub end_filed : (ranks : ℕ) (ts : List (Option Request)) (ls : List (List ℕ)) (t : ℕ) → AreByRank ranks ts ls → AreByRank ranks (set ts t None) ls
end_filed ranks ts ls t by = record { filed = filed; ranked = by.ranked }
  where
    filed : (k : ℕ) (p : Request) → get_or (set ts t None) k None ≡ Some p → is_among (get_or ls p.rank []) k ≡ true
    filed k p h = elim (cases_eq k t) [
      | inl e ↦ absurd (none_runs p (sym (set_none ts t) ∙ (ap (λ j. get_or (set ts t None) j None) (sym e) ∙ h)))
      | inr n ↦ by.filed k p (sym (get_or-set_other ts t k None None n) ∙ h)
    ]

-- the tickets of requests that ended go

pub among_filter : (test : ℕ → Bool) (xs : List ℕ) (t : ℕ) → is_among xs t ≡ true → test t ≡ true → is_among (filter test xs) t ≡ true
among_filter test [] t h k = h
among_filter test (x ∷ xs) t h k = elim (or_cases (eqb x t) (is_among xs t) h) [
  | inl e ↦ first (eqb-true x t e)
  | inr i ↦ later (test x) (among_filter test xs t i k)
]
  where
    first : x ≡ t → is_among (cond (test x) (x ∷ filter test xs) (filter test xs)) t ≡ true
    first e = rw (e, k) (or_left (eqb t t) (is_among (filter test xs) t) (itself t))

    later : (b : Bool) → is_among (filter test xs) t ≡ true → is_among (cond b (x ∷ filter test xs) (filter test xs)) t ≡ true
    later true i = or_right (eqb x t) (is_among (filter test xs) t) i
    later false i = i

pub kept_filed : (ranks : ℕ) (ts : List (Option Request)) (ls : List (List ℕ)) (rank : ℕ) → AreByRank ranks ts ls → rank < length ls →
    AreByRank ranks ts (set ls rank (filter (λ t. is_some (get_or ts t None)) (get_or ls rank [])))
kept_filed ranks ts ls rank by near = record {
  filed = filed;
  ranked = length-set ls rank (filter (λ t. is_some (get_or ts t None)) (get_or ls rank [])) ∙ by.ranked;
}
  where
    kept : List ℕ
    kept = filter (λ t. is_some (get_or ts t None)) (get_or ls rank [])

    filed : (t : ℕ) (p : Request) → get_or ts t None ≡ Some p
        → is_among (get_or (set ls rank (filter (λ k. is_some (get_or ts k None)) (get_or ls rank []))) p.rank []) t ≡ true
    filed t p h = elim (cases_eq p.rank rank) [
      | inl s ↦
          (let old : is_among (get_or ls rank []) t ≡ true = ap (λ r. is_among (get_or ls r []) t) (sym s) ∙ by.filed t p h in
          ap (λ r. is_among (get_or (set ls rank (filter (λ k. is_some (get_or ts k None)) (get_or ls rank []))) r []) t) s
          ∙ (ap (λ l. is_among l t) (get_or-set_same ls rank (filter (λ k. is_some (get_or ts k None)) (get_or ls rank [])) [] near)
          ∙ among_filter (λ k. is_some (get_or ts k None)) (get_or ls rank []) t old (ap is_some h)))
      | inr m ↦ ap (λ l. is_among l t) (get_or-set_other ls rank p.rank (filter (λ k. is_some (get_or ts k None)) (get_or ls rank [])) [] m) ∙ by.filed t p h
    ]

-- a rank stops

ended : (rank : ℕ) (ts : List (Option Request)) (t : ℕ) (p : Request)
    → get_or (map_at (λ k request. ends_at rank request) ts) t None ≡ Some p → (get_or ts t None ≡ Some p) × (p.rank ≢ rank)
ended rank ts t p h = elim (cases_lt t (length ts)) [
  | inl l ↦ ended_elsewhere rank (get_or ts t None) p (sym (map_at_get (λ k request. ends_at rank request) ts t None None l) ∙ h)
  | inr l ↦ absurd (none_runs p (sym (map_at_past (λ k request. ends_at rank request) ts t None l) ∙ h))
]

pub stop_filed : (ranks : ℕ) (ts : List (Option Request)) (ls : List (List ℕ)) (rank : ℕ) → AreByRank ranks (map_at (λ t request. ends_at rank request) ts) ls →
    AreByRank ranks (map_at (λ t request. ends_at rank request) ts) (set ls rank [])
stop_filed ranks ts ls rank by = record {
  filed = λ t p h. ap (λ l. is_among l t) (get_or-set_other ls rank p.rank [] [] (ended rank ts t p h).1) ∙ by.filed t p h;
  ranked = length-set ls rank [] ∙ by.ranked;
}

-- ends the requests of a list of tickets, one after the other

ends_twice : (rank : ℕ) (o : Option Request) → ends_at rank (ends_at rank o) ≡ ends_at rank o
ends_twice rank None = refl
ends_twice rank (Some q) = go (eqb q.rank rank) refl
  where
    go : (b : Bool) → eqb q.rank rank ≡ b → ends_at rank (cond b None (Some q)) ≡ cond b None (Some q)
    go true e = refl
    go false e = rw e refl

abbrev pub ended_among : ℕ → List ℕ → List (Option Request) → List (Option Request)
ended_among rank tickets ts = map_at (λ t request. cond (is_among tickets t) (ends_at rank request) request) ts

set_end : (rank : ℕ) (test : ℕ → Bool) (ts : List (Option Request)) (d : ℕ) →
    set (map_at (λ k request. cond (test k) (ends_at rank request) request) ts) d
    (ends_at rank (get_or (map_at (λ k request. cond (test k) (ends_at rank request) request) ts) d None))
    ≡ map_at (λ k request. cond (test k || eqb d k) (ends_at rank request) request) ts
set_end rank test [] zero = refl
set_end rank test [] (suc d) = refl
set_end rank test (x ∷ xs) zero =
    rw (here (test 0) x) (ap (λ ys. cond (test 0 || eqb 0 0) (ends_at rank x) x ∷ ys)
    (map_at_same (λ k request. cond (test (suc k)) (ends_at rank request) request)
    (λ k request. cond (test (suc k) || eqb 0 (suc k)) (ends_at rank request) request)
    (λ k a. ap (λ b. cond b (ends_at rank a) a) (there (test (suc k)) k)) xs))
  where
    here : (b : Bool) (o : Option Request) → ends_at rank (cond b (ends_at rank o) o) ≡ cond (b || eqb 0 0) (ends_at rank o) o
    here true o = ends_twice rank o
    here false o = refl

    there : (b : Bool) (k : ℕ) → b ≡ (b || eqb 0 (suc k))
    there b k = grind arith
set_end rank test (x ∷ xs) (suc d) =
    rw (← first (test 0)) (ap (λ ys. cond (test 0) (ends_at rank x) x ∷ ys) (set_end rank (λ k. test (suc k)) xs d
    ∙ map_at_same (λ k request. cond (test (suc k) || eqb d k) (ends_at rank request) request)
    (λ k request. cond (test (suc k) || eqb (suc d) (suc k)) (ends_at rank request) request)
    (λ k a. ap (λ b. cond b (ends_at rank a) a) (next (test (suc k)) k)) xs))
  where
    first : (b : Bool) → b ≡ (b || eqb (suc d) 0)
    first b = grind arith

    next : (b : Bool) (k : ℕ) → (b || eqb d k) ≡ (b || eqb (suc d) (suc k))
    next b k = ap (λ c. b || c) (same (eqb d k) refl)
      where
        same : (c : Bool) → eqb d k ≡ c → eqb d k ≡ eqb (suc d) (suc k)
        same c e = grind arith

pub ends_none : (rank : ℕ) (ts : List (Option Request)) → ts ≡ ended_among rank [] ts
ends_none rank ts = sym (unchanged ts)

pub ends_next : (rank : ℕ) (tickets : List ℕ) (i t : ℕ) (ts old : List (Option Request)) → i < length tickets → t ≡ get_or tickets i t
    → ts ≡ ended_among rank (take i tickets) old →
    set ts t (ends_at rank (get_or ts t None)) ≡ ended_among rank (take (i + 1) tickets) old
ends_next rank tickets i t ts old l e s =
    ap (λ us. set us t (ends_at rank (get_or us t None))) s
    ∙ (set_end rank (is_among (take i tickets)) old t
    ∙ map_at_same _ _ (λ k a. ap (λ b. cond b (ends_at rank a) a)
    (sym (ap (λ zs. is_among zs k) (take_next tickets i t l e) ∙ among_push (take i tickets) t k))) old)

-- then all requests of the rank have ended, as each of their tickets is in the list
pub ends_all : (ranks rank : ℕ) (ts : List (Option Request)) (ls : List (List ℕ)) (i : ℕ) → AreByRank ranks ts ls → length (get_or ls rank []) ≤ i →
    ended_among rank (take i (get_or ls rank [])) ts ≡ map_at (λ t request. ends_at rank request) ts
ends_all ranks rank ts ls i by past =
    ap (λ l. ended_among rank l ts) (take_all i (get_or ls rank []) past)
    ∙ same_here _ _ ts None (λ t l. each t (get_or ts t None) refl)
  where
    each : (t : ℕ) (o : Option Request) → get_or ts t None ≡ o → cond (is_among (get_or ls rank []) t) (ends_at rank o) o ≡ ends_at rank o
    each t None h = none (is_among (get_or ls rank []) t)
      where
        none : (b : Bool) → cond {A = Option Request} b None None ≡ None
        none true = refl
        none false = refl
    each t (Some q) h = go (eqb q.rank rank) refl
      where
        go : (b : Bool) → eqb q.rank rank ≡ b → cond (is_among (get_or ls rank []) t) (cond b None (Some q)) (Some q) ≡ cond b None (Some q)
        go true e = (let i : is_among (get_or ls rank []) t ≡ true = ap (λ r. is_among (get_or ls r []) t) (sym (eqb-true q.rank rank e))
            ∙ by.filed t q h in rw i refl)
        go false e = either (is_among (get_or ls rank []) t)
          where
            either : (b : Bool) → cond b (Some q) (Some q) ≡ Some q
            either true = refl
            either false = refl

pub ended_was : (rank : ℕ) (tickets : List ℕ) (ts : List (Option Request)) (t : ℕ) (q : Request)
    → get_or (ended_among rank tickets ts) t None ≡ Some q → get_or ts t None ≡ Some q
ended_was rank tickets ts t q h = elim (cases_lt t (length ts)) [
  | inl l ↦ go (is_among tickets t) (sym (map_at_get (λ k request. cond (is_among tickets k) (ends_at rank request) request) ts t None None l) ∙ h)
  | inr l ↦ absurd (none_runs q (sym (map_at_past (λ k request. cond (is_among tickets k) (ends_at rank request) request) ts t None l) ∙ h))
]
  where
    go : (b : Bool) → cond b (ends_at rank (get_or ts t None)) (get_or ts t None) ≡ Some q → get_or ts t None ≡ Some q
    go true k = (ended_elsewhere rank (get_or ts t None) q k).0
    go false k = k

-- a running request's rank has a list
pub filed_rank : (ranks : ℕ) (ts : List (Option Request)) (ls : List (List ℕ)) → AreByRank ranks ts ls → (t : ℕ) (q : Request)
    → get_or ts t None ≡ Some q → q.rank < length ls
filed_rank ranks ts ls by t q h = elim (cases_lt q.rank (length ls)) [
  | inl l ↦ l
  | inr l ↦ absurd (differ (sym (ap (λ l. is_among l t) (get_or_past ls q.rank [] l)) ∙ by.filed t q h))
]
  where
    differ : false ≡ true → ⊥
    differ e = cc

-- the list of a rank, in the code's lists

abbrev items_of : Vec ℕ Global → List ℕ
items_of list = list.items

pub list_here : (js : List (Vec ℕ Global)) (k n : ℕ) (v : Vec ℕ Global) → k ≡ n → n < length js → v ≡ get_or js k v
    → get_or (map (λ l. l.items) js) n [] ≡ v.items
list_here js k n v same near e = get_or-map items_of js n v [] near ∙ (ap (λ m. items_of (get_or js m v)) (sym same) ∙ ap items_of (sym e))

pub list_set : (f : List ℕ → List ℕ) (js : List (Vec ℕ Global)) (k n : ℕ) (v d : Vec ℕ Global) → k ≡ n → n < length js → d ≡ get_or js k d
    → v.items ≡ f d.items →
    map (λ l. l.items) (set js k v) ≡ set (map (λ l. l.items) js) n (f (get_or (map (λ l. l.items) js) n []))
list_set f js k n v d same near e h =
    map-set items_of js k v
    ∙ (ap (λ m. set (map items_of js) m v.items) same ∙ ap (λ xs. set (map items_of js) n xs) (h ∙ ap f (sym (list_here js k n d same near e))))

-- a new cluster's
pub start_filed : (ranks : ℕ) → AreByRank ranks [] (replicate ranks [])
start_filed ranks = record { filed = λ t q h. absurd (none_runs q h); ranked = many ranks }
  where
    many : (n : ℕ) → length (replicate {A = List ℕ} n []) ≡ n
    many zero = refl
    many (suc n) = ap suc (many n)
