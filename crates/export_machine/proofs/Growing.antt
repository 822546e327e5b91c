-- How the tables by directory follow a directory that is made or removed, and an export that starts.
use Rattle.std.proofs.Common.{◌≡◌, ◌≢◌, ℕ, zero, suc, ◌+◌, ◌-◌, ◌<◌, ◌≤◌, Bool, true, false, ◌&&◌, not, eqb, cond}
use Rattle.std.proofs.Common.{List, [], ◌∷◌, ◌++◌, length, get_or, set, Some, None, refl, sym, ap, ◌∙◌, inl, inr, arith}
use Rattle.std.specs.Prelude.{replicate}
use Rattle.std.proofs.lemmas.Bool.{cases_lt, cases_eq, ne_eqb}
use Rattle.std.proofs.lemmas.List.{get_or-set_same, get_or-set_other, get_or_past, length-set}
use Rattle.export_protocol.specs.declared.journal.JournalEntry.{JournalEntry}
use Rattle.export_protocol.specs.declared.event.Request.{Request}
use Rattle.export_protocol.specs.Cluster.{World}
use Rattle.export_protocol.specs.Authority.{authority, open_export, owns, request_of}
use Rattle.export_protocol.specs.Step.{journals, is_child, not_yet, running_on}
use Rattle.export_protocol.specs.View.{IsReached}
use Rattle.export_machine.specs.Kept.{Indexes, IsIndexed, count_at, children_of}
use Rattle.export_protocol.proofs.Views.{push_same, push_other, length_push}
use Rattle.export_protocol.proofs.Safe.{Safe}
use Rattle.export_protocol.proofs.Lookups.{itself, authority_is, no_open, free_owner}
use Rattle.export_protocol.proofs.Events.{no_requests, elsewhere_dir}
use Rattle.export_machine.proofs.Owners.{made_authority, made_others_authority, gone_authority, gone_others_authority}
use Rattle.export_protocol.proofs.Found.{options_by}
use Rattle.export_machine.proofs.Listed.{entry_listed, entry_drops_none}
use Rattle.export_machine.proofs.Indexing.{entry_open}
use Rattle.export_protocol.proofs.Tidy.{by_tidy}

pub replicate_push : {A : Type 0} (n : ℕ) (a : A) → replicate n a ++ a ∷ [] ≡ replicate (suc n) a
replicate_push zero a = refl
replicate_push (suc n) a = ap (λ xs. a ∷ xs) (replicate_push n a)

-- children

count_push : {A : Type 0} (test : ℕ → A → Bool) (xs : List A) (a : A) → count_at test (xs ++ a ∷ []) ≡ count_at test xs + cond (test (length xs) a) 1 0
count_push test [] a = plain (cond (test 0 a) 1 0)
  where
    plain : (n : ℕ) → n + 0 ≡ 0 + n
    plain n = omega arith
count_push test (x ∷ xs) a = rw (count_push (λ k. test (suc k)) xs a)
    (assoc (cond (test 0 x) 1 0) (count_at (λ k. test (suc k)) xs) (cond (test (suc (length xs)) a) 1 0))
  where
    assoc : (l m n : ℕ) → l + (m + n) ≡ (l + m) + n
    assoc l m n = omega arith

count_set : {A : Type 0} (test : ℕ → A → Bool) (xs : List A) (k : ℕ) (a b d : A) → k < length xs → get_or xs k d ≡ a → test k b ≡ false →
    count_at test (set xs k b) + cond (test k a) 1 0 ≡ count_at test xs
count_set test [] k a b d h e f = absurd (omega arith)
count_set test (x ∷ xs) zero a b d h e f = rw (e, f) (flip (count_at (λ k. test (suc k)) xs) (cond (test 0 a) 1 0))
  where
    flip : (m n : ℕ) → (0 + m) + n ≡ n + m
    flip m n = omega arith
count_set test (x ∷ xs) (suc k) a b d h e f =
    more (cond (test 0 x) 1 0) (count_at (λ j. test (suc j)) (set xs k b)) (cond (test (suc k) a) 1 0) (count_at (λ j. test (suc j)) xs)
    (count_set (λ j. test (suc j)) xs k a b d (omega arith) e f)
  where
    more : (l m n o : ℕ) → m + n ≡ o → (l + m) + n ≡ l + o
    more l m n o i = omega arith

pub count_within : {A : Type 0} (test : ℕ → A → Bool) (xs : List A) → count_at test xs ≤ length xs
count_within test [] = omega arith
count_within test (x ∷ xs) = within (test 0 x) (count_at (λ k. test (suc k)) xs) (length xs) (count_within (λ k. test (suc k)) xs)
  where
    within : (b : Bool) (m n : ℕ) → m ≤ n → cond b 1 0 + m ≤ suc n
    within true m n h = omega arith
    within false m n h = omega arith

counts_one : (b : Bool) → b ≡ true → cond {A = ℕ} b 1 0 ≡ 1
counts_one b h = rw h refl

counts_none : (b : Bool) → b ≡ false → cond {A = ℕ} b 1 0 ≡ 0
counts_none b h = rw h refl

both : (a b : Bool) → a ≡ true → b ≡ false → (a && not b) ≡ true
both a b h k = grind arith

unlike : (a b : Bool) → a ≡ false → (a && not b) ≡ false
unlike a b h = grind arith

plus_none : (m n : ℕ) → n ≡ 0 → m + n ≡ m
plus_none m n h = omega arith

plus_one : (m n : ℕ) → n ≡ 1 → m + n ≡ m + 1
plus_one m n h = omega arith

-- a directory is made

module _ (w : World) (a p : ℕ) (near : a < length w.journals) where
  abbrev pub grown : World
  grown = record (journals w a (JournalEntry.Made (length w.parents))) { parents = w.parents ++ Some p ∷ []; named = w.named ++ Some a ∷ [] }

  grown_open : (d : ℕ) → open_export grown d ≡ open_export w d
  unfolding open_export
  grown_open d = entry_open w a (JournalEntry.Made (length w.parents)) near (λ y. refl) d

  child_of : (d : ℕ) → d ≡ p → p < length w.parents → children_of grown d ≡ children_of w p + 1
  child_of d e l =
      rw e (count_push (is_child p) w.parents (Some p)
      ∙ plus_one (children_of w p) (cond (eqb p p && not (eqb (length w.parents) p)) 1 0)
      (counts_one (eqb p p && not (eqb (length w.parents) p))
      (both (eqb p p) (eqb (length w.parents) p) (itself p) (ne_eqb (length w.parents) p (λ k. absurd (omega arith))))))

  no_child_of : (d : ℕ) → d ≢ p → children_of grown d ≡ children_of w d
  no_child_of d n = count_push (is_child d) w.parents (Some p)
      ∙ plus_none (children_of w d) (cond (eqb p d && not (eqb (length w.parents) d)) 1 0)
      (counts_none (eqb p d && not (eqb (length w.parents) d)) (unlike (eqb p d) (eqb (length w.parents) d) (ne_eqb p d (λ k. n (sym k)))))

  pub made_indexed : IsReached w → (i : Indexes) → IsIndexed w i → p < length w.parents →
      IsIndexed grown (record {
        owners = i.owners ++ Some a ∷ [];
        opened = i.opened ++ None ∷ [];
        running = i.running ++ 0 ∷ [];
        children = set (i.children ++ 0 ∷ []) p (get_or (i.children ++ 0 ∷ []) p 0 + 1);
        marks = i.marks ++ false ∷ [];
        tickets_at = i.tickets_at;
        open_at = i.open_at;
        dropped = i.dropped;
      })
  made_indexed reached i is l = record {
    owners = λ d. options_by w reached (get_or (i.owners ++ Some a ∷ []) d None) (authority grown d) (λ safe. owner safe d);
    opened = λ d. opened d ∙ sym (grown_open d);
    running = λ d. running d;
    children = λ d. children d;
    owner_places = longer i.owners w.parents (Some a) (Some p) is.owner_places;
    opened_places = longer i.opened w.parents None (Some p) is.opened_places;
    running_places = longer i.running w.parents 0 (Some p) is.running_places;
    children_places = length-set (i.children ++ 0 ∷ []) p (get_or (i.children ++ 0 ∷ []) p 0 + 1) ∙ longer i.children w.parents 0 (Some p) is.children_places;
    unmarked = ap (λ ms. ms ++ false ∷ []) is.unmarked
        ∙ (replicate_push (length w.parents) false ∙ ap (λ n. replicate n false)
        (sym (length_push w.parents (Some p) ∙ succ (length w.parents))));
    requests = is.requests;
    listed = entry_listed w.ranks w.orders w.exporters w.importers w.journals i.open_at i.dropped is.listed
        (journals w a (JournalEntry.Made (length w.parents))).journals
        (entry_drops_none w a (JournalEntry.Made (length w.parents)) near (λ y. refl));
    dropped_places = is.dropped_places;
  }
    where
      succ : (n : ℕ) → n + 1 ≡ suc n
      succ n = omega arith

      longer : {A B : Type 0} (xs : List A) (ys : List B) (c : A) (e : B) → length xs ≡ length ys → length (xs ++ c ∷ []) ≡ length (ys ++ e ∷ [])
      longer xs ys c e k = length_push xs c ∙ (ap (λ n. n + 1) k ∙ sym (length_push ys e))

      owner : Safe w → (d : ℕ) → get_or (i.owners ++ Some a ∷ []) d None ≡ authority grown d
      owner safe d = elim (cases_eq d (length w.parents)) [
        | inl e ↦ rw (e, made_authority w safe a p near, ← is.owner_places) (push_same i.owners (Some a) None)
        | inr n ↦ push_other i.owners (Some a) None d (rw is.owner_places n) ∙ (is.owners d ∙ sym (made_others_authority w safe a p near d n))
      ]

      opened : (d : ℕ) → get_or (i.opened ++ None ∷ []) d None ≡ open_export w d
      opened d = elim (cases_eq d (length i.opened)) [
        | inl e ↦ rw e (push_same i.opened None None ∙ (sym (get_or_past i.opened (length i.opened) None (omega arith)) ∙ is.opened (length i.opened)))
        | inr n ↦ push_other i.opened None None d n ∙ is.opened d
      ]

      running : (d : ℕ) → get_or (i.running ++ 0 ∷ []) d 0 ≡ running_on w (d ∷ [])
      running d = elim (cases_eq d (length i.running)) [
        | inl e ↦ rw e (push_same i.running 0 0 ∙ (sym (get_or_past i.running (length i.running) 0 (omega arith)) ∙ is.running (length i.running)))
        | inr n ↦ push_other i.running 0 0 d n ∙ is.running d
      ]

      pushed : (d : ℕ) → get_or (i.children ++ 0 ∷ []) d 0 ≡ children_of w d
      pushed d = elim (cases_eq d (length i.children)) [
        | inl e ↦ rw e (push_same i.children 0 0 ∙ (sym (get_or_past i.children (length i.children) 0 (omega arith)) ∙ is.children (length i.children)))
        | inr n ↦ push_other i.children 0 0 d n ∙ is.children d
      ]

      place : p < length (i.children ++ 0 ∷ [])
      place = omega (arith, length_push i.children 0, is.children_places)

      children : (d : ℕ) → get_or (set (i.children ++ 0 ∷ []) p (get_or (i.children ++ 0 ∷ []) p 0 + 1)) d 0 ≡ children_of grown d
      children d = elim (cases_eq d p) [
        | inl e ↦
            (let s : get_or (set (i.children ++ 0 ∷ []) p (get_or (i.children ++ 0 ∷ []) p 0 + 1)) p 0
            ≡ get_or (i.children ++ 0 ∷ []) p 0 + 1 = get_or-set_same (i.children ++ 0 ∷ []) p (get_or (i.children ++ 0 ∷ []) p 0 + 1) 0
            place in
            ap (λ c. get_or (set (i.children ++ 0 ∷ []) p (get_or (i.children ++ 0 ∷ []) p 0 + 1)) c 0) e
            ∙ (s ∙ (ap (λ m. m + 1) (pushed p) ∙ sym (child_of d e l))))
        | inr n ↦ get_or-set_other (i.children ++ 0 ∷ []) p d (get_or (i.children ++ 0 ∷ []) p 0 + 1) 0 n ∙ (pushed d ∙ sym (no_child_of d n))
      ]

pub children_are : (w : World) (i : Indexes) (p : ℕ) → IsIndexed w i → p < length w.parents → get_or (i.children ++ 0 ∷ []) p 0 ≡ children_of w p
children_are w i p is l = push_other i.children 0 0 p (λ e. absurd (omega (arith, is.children_places))) ∙ is.children p

-- a directory is removed

pub parent_below : (w : World) → IsReached w → (d p : ℕ) → get_or w.parents d None ≡ Some p → d ≢ 0 → p < d
parent_below w h d p e n = elim (cases_lt p d) [ inl l ↦ l | inr m ↦ absurd (by_tidy w h (λ t. (let l : p < d = t.smaller d p e n in absurd (omega arith)))) ]

module _ (w : World) (a d p : ℕ) (near : a < length w.journals) (there : d < length w.parents) (parent : get_or w.parents d None ≡ Some p) (less : p < d) where
  abbrev pub shrunk : World
  shrunk = record (journals w a (JournalEntry.Gone d)) { parents = set w.parents d None; named = set w.named d None }

  shrunk_open : (e : ℕ) → open_export shrunk e ≡ open_export w e
  unfolding open_export
  shrunk_open e = entry_open w a (JournalEntry.Gone d) near (λ y. refl) e

  pub fewer : (e : ℕ) → children_of shrunk e + cond {A = ℕ} (eqb p e && not (eqb d e)) 1 0 ≡ children_of w e
  fewer e = count_set (is_child e) w.parents d (Some p) None None there parent refl

  one_fewer : children_of w p - 1 ≡ children_of shrunk p
  one_fewer = less_one (children_of shrunk p) (cond (eqb p p && not (eqb d p)) 1 0) (children_of w p) (fewer p)
      (counts_one (eqb p p && not (eqb d p)) (both (eqb p p) (eqb d p) (itself p) (ne_eqb d p (λ k. absurd (omega arith)))))
    where
      less_one : (m n k : ℕ) → m + n ≡ k → n ≡ 1 → k - 1 ≡ m
      less_one m n k e f = omega arith

  pub some_child : 1 ≤ children_of w p
  some_child = least (children_of shrunk p) (cond (eqb p p && not (eqb d p)) 1 0) (children_of w p) (fewer p)
      (counts_one (eqb p p && not (eqb d p)) (both (eqb p p) (eqb d p) (itself p) (ne_eqb d p (λ k. absurd (omega arith)))))
    where
      least : (m n k : ℕ) → m + n ≡ k → n ≡ 1 → 1 ≤ k
      least m n k e f = omega arith

  as_many : (e : ℕ) → e ≢ p → children_of w e ≡ children_of shrunk e
  as_many e n = same (children_of shrunk e) (cond (eqb p e && not (eqb d e)) 1 0) (children_of w e) (fewer e)
      (counts_none (eqb p e && not (eqb d e)) (unlike (eqb p e) (eqb d e) (ne_eqb p e (λ k. n (sym k)))))
    where
      same : (m k l : ℕ) → m + k ≡ l → k ≡ 0 → l ≡ m
      same m k l e f = omega arith

  pub gone_indexed : IsReached w → (i : Indexes) → IsIndexed w i → authority w d ≡ Some a → open_export w d ≡ None → not_yet (running_on w (d ∷ [])) ≡ None →
      IsIndexed shrunk (record i { owners = set i.owners d None; children = set i.children p (get_or i.children p 0 - 1) })
  gone_indexed reached i is auth closed idle = record {
    owners = λ e. options_by w reached (get_or (set i.owners d None) e None) (authority shrunk e) (λ safe. owner safe e);
    opened = λ e. is.opened e ∙ sym (shrunk_open e);
    running = is.running;
    children = children;
    owner_places = length-set i.owners d None ∙ (is.owner_places ∙ sym (length-set w.parents d None));
    opened_places = is.opened_places ∙ sym (length-set w.parents d None);
    running_places = is.running_places ∙ sym (length-set w.parents d None);
    children_places = length-set i.children p (get_or i.children p 0 - 1) ∙ (is.children_places ∙ sym (length-set w.parents d None));
    unmarked = is.unmarked ∙ ap (λ n. replicate n false) (sym (length-set w.parents d None));
    requests = is.requests;
    listed = entry_listed w.ranks w.orders w.exporters w.importers w.journals i.open_at i.dropped is.listed
        (journals w a (JournalEntry.Gone d)).journals (entry_drops_none w a (JournalEntry.Gone d) near (λ y. refl));
    dropped_places = is.dropped_places;
  }
    where
      ended : (t : ℕ) (q : Request) → request_of w t ≡ Some q → q.dir ≢ d
      ended t q k = elsewhere_dir d q.dir (no_requests w (d ∷ []) idle t q k)

      owned : Safe w → owns w a d ≡ true
      owned safe = free_owner w safe a d (authority_is w d a auth).1 (no_open w safe d closed)

      owner : Safe w → (e : ℕ) → get_or (set i.owners d None) e None ≡ authority shrunk e
      owner safe e = elim (cases_eq e d) [
        | inl s ↦ rw (s, gone_authority w safe a d near (owned safe) (no_open w safe d closed) ended)
            (get_or-set_same i.owners d None None (rw is.owner_places there))
        | inr n ↦ get_or-set_other i.owners d e None None n
            ∙ (is.owners e ∙ sym (gone_others_authority w safe a d near (owned safe) (no_open w safe d closed) ended e n))
      ]

      place : p < length i.children
      place = omega (arith, is.children_places)

      children : (e : ℕ) → get_or (set i.children p (get_or i.children p 0 - 1)) e 0 ≡ children_of shrunk e
      children e = elim (cases_eq e p) [
        | inl s ↦
            rw (s, get_or-set_same i.children p (get_or i.children p 0 - 1) 0 place, is.children p) one_fewer
        | inr n ↦ get_or-set_other i.children p e (get_or i.children p 0 - 1) 0 n ∙ (is.children e ∙ as_many e n)
      ]
