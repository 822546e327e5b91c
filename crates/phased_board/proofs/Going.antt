-- A board goes on by requests, and by exports.
use Rattle.std.proofs.Common.{◌≡◌, ◌≤◌, ℕ, inl, inr, Bool, true, false, List, [], ◌∷◌, ◌++◌, length, take, drop}
use Rattle.std.proofs.Common.{get_or, Result, Ok, Err, All, MatchBool, refl, sym, ap, ◌∙◌, subst, arith, append-nil, append_assoc}
use Rattle.std.proofs.lemmas.List.{take-append-drop}
use Rattle.std.proofs.lemmas.List.Elements.{All-nil, All-append}
use Rattle.std.specs.List.{Contains}
use mathlib.Core.List.{IsPrefix}
use Rattle.authority_map.specs.Operations.{Operation}
use Rattle.export_protocol.specs.declared.event.Event.TheVariants.{Abort, Stop}
use Rattle.export_protocol.specs.declared.event.Event.{Event}
use Rattle.mds_board.specs.declared.board_error.BoardError.{BoardError}
use Rattle.mds_board.specs.declared.change.Answer.{Answer}
use Rattle.mds_board.specs.declared.change.Change.{Change}
use Rattle.mds_board.specs.declared.change.Change.TheVariants.{Step}
use Rattle.mds_board.specs.State.{State, next}
use Rattle.mds_board.proofs.Mapping.{after_step}
use Rattle.mds_board.specs.Steps.{is_inner}
use Rattle.mds_board.specs.declared.entry.Entry.{Entry}
use Rattle.mds_board.specs.History.{World, IsAnswer, IsReplay, after, entry_of, recorded}
use Rattle.phased_board.specs.Going.{IsOfKind, IsOfPhase, IsPublished, KeepsRest, WentOnBy, WentOnWithStops, added, is_of_requests}
use Rattle.phased_board.proofs.ByKind.{by_exports, by_stops, head_has, kind_wider, none_named, one_has, tail_have}
use Rattle.phased_board.proofs.Ordering.{no_fewer}

-- lists

drop_all : (es : List Entry) → drop (length es) es ≡ []
drop_all [] = refl
drop_all (e ∷ es) = drop_all es

take_all : (es : List Entry) → take (length es) es ≡ es
take_all [] = refl
take_all (e ∷ es) = ap (λ (l : List Entry). e ∷ l) (take_all es)

take_longer : (old es more : List Entry) → take (length old) es ≡ old → take (length old) (es ++ more) ≡ old
take_longer [] es more h = refl
take_longer (o ∷ old) [] more h = absurd (cc)
take_longer (o ∷ old) (e ∷ es) more h =
    let tail : take (length old) es ≡ old = cc in
    let head : e ≡ o = cc in
    rw (take_longer old es more tail, head) refl

drop_longer : (old es more : List Entry) → take (length old) es ≡ old → drop (length old) (es ++ more) ≡ drop (length old) es ++ more
drop_longer [] es more h = refl
drop_longer (o ∷ old) [] more h = absurd (cc)
drop_longer (o ∷ old) (e ∷ es) more h = drop_longer old es more (cc)

-- replays

after_both : (s : State) (xs ys : List Entry) → after s (xs ++ ys) ≡ after (after s xs) ys
after_both s [] ys = refl
after_both s (e ∷ xs) ys = after_both (next s e.change) xs ys

replay_after : (s : State) (es : List Entry) (t : State) → IsReplay s es t → t ≡ after s es
replay_after s [] t h = h
replay_after s (e ∷ es) t h = replay_after (next s e.change) es t h.3

replay_both : (s : State) (xs : List Entry) (t : State) (ys : List Entry) (u : State) → IsReplay s xs t → IsReplay t ys u → IsReplay s (xs ++ ys) u
replay_both s [] t ys u h k = subst (λ v. IsReplay v ys u) h k
replay_both s (e ∷ xs) t ys u h k = (h.0, h.1, h.2, replay_both (next s e.change) xs t ys u h.3 k)

-- what is published

kept_published : (x : Bool) (old between : World) (first more : List Entry) (now : List Operation) → IsPublished x old first between.published
    → now ≡ between.published → IsPublished x old (first ++ more) now
kept_published x old between first more now (inl h) same = inl (same ∙ h)
kept_published x old between first more now (inr p) same =
    inr (p.0, p.1, p.2 ++ more, ap (λ m. m ++ more) p.3 ∙ append_assoc p.1 p.2 more, same ∙ p.4)

published_both : (x : Bool) (old between : World) (first more : List Entry) (now : List Operation) → IsReplay old.state first between.state
    → IsPublished x old first between.published → IsPublished x between more now → IsPublished x old (first ++ more) now
published_both x old between first more now replay before (inl same) = kept_published x old between first more now before same
published_both x old between first more now replay before (inr p) =
    inr (
      p.0,
      first ++ p.1,
      p.2,
      ap (λ m. first ++ m) p.3 ∙ sym (append_assoc first p.1 p.2),
      p.4 ∙ (ap (λ s. (after s p.1).map) (replay_after old.state first between.state replay)
          ∙ ap (λ (s : State). s.map) (sym (after_both old.state first p.1))),
    )

-- going on

pub all_parts : (r x : Bool) (stops : List ℕ) (old new : World) → WentOnWithStops r x stops old new → new.history ≡ old.history ++ added old new
all_parts r x stops old new h = sym (take-append-drop (length old.history) new.history) ∙ ap (λ (l : List Entry). l ++ added old new) h.kept

pub parts_of : (r x : Bool) (old new : World) → WentOnBy r x old new → new.history ≡ old.history ++ added old new
parts_of r x old new h = all_parts r x [] old new h

pub stays : (r x : Bool) (stops : List ℕ) (w : World) → WentOnWithStops r x stops w w
stays r x stops w = record {
  kept = take_all w.history;
  alone = rw (drop_all w.history) (All-nil (λ (e : Entry). IsOfKind r x stops (length w.state.cluster.orders) e.change));
  replay = rw (drop_all w.history) refl;
  same_book = (refl, refl);
  same_map = inl refl;
}

-- by these entries more
went_more : (r x : Bool) (stops : List ℕ) (first old new : World) (more : List Entry) → WentOnWithStops r x stops first old
    → new.history ≡ old.history ++ more → IsReplay old.state more new.state
    → All (λ (e : Entry). IsOfKind r x stops (length first.state.cluster.orders) e.change) more → (new.is_open ≡ old.is_open) × (new.shares ≡ old.shares)
    → IsPublished x old more new.published → WentOnWithStops r x stops first new
went_more r x stops first old new more h is replay kinds book map =
    let beyond : added first new ≡ added first old ++ more =
    ap (λ (l : List Entry). drop (length first.history) l) is ∙ drop_longer first.history old.history more h.kept in record {
      kept = ap (λ (l : List Entry). take (length first.history) l) is ∙ take_longer first.history old.history more h.kept;
      alone = rw beyond (All-append (λ (e : Entry). IsOfKind r x stops (length first.state.cluster.orders) e.change) (added first old) more h.alone kinds);
      replay = rw beyond (replay_both first.state (added first old) old.state more new.state h.replay replay);
      same_book = (book.0 ∙ h.same_book.0, book.1 ∙ h.same_book.1);
      same_map = subst (λ (es : List Entry). IsPublished x first es new.published) (sym beyond)
          (published_both x first old (added first old) more new.published h.replay h.same_map map);
    }

phase_earlier : (n more : ℕ) (c : Change) → n ≤ more → IsOfPhase more c → IsOfPhase n c
phase_earlier n more (Step (Abort x)) less is = omega arith
phase_earlier n more _ less is = is

pub joins : (r x : Bool) (stops : List ℕ) (old between new : World) → WentOnWithStops r x stops old between
    → WentOnWithStops r x stops between new → WentOnWithStops r x stops old new
joins r x stops old between new h k =
    let less = no_fewer r x stops old between h in
    let n : ℕ = length old.state.cluster.orders in
    went_more r x stops old between new (added between new) h (all_parts r x stops between new k) k.replay
    (λ i d l.
    kind_wider r x r x stops stops (length between.state.cluster.orders) n (get_or (added between new) i d).change (λ is. is) (λ is. is) (λ rank is. is)
    (phase_earlier n (length between.state.cluster.orders) (get_or (added between new) i d).change less) (k.alone i d l))
    k.same_book k.same_map

published_wider : (x wide : Bool) (old : World) (more : List Entry) (now : List Operation) → (x ≡ true → wide ≡ true)
    → IsPublished x old more now → IsPublished wide old more now
published_wider x wide old more now f (inl same) = inl same
published_wider x wide old more now f (inr p) = inr (f p.0, p.1, p.2, p.3, p.4)

-- with changes of more kinds
pub wider : (r x wide_r wide_x : Bool) (stops wide : List ℕ) (old new : World) → (r ≡ true → wide_r ≡ true) → (x ≡ true → wide_x ≡ true)
    → ((rank : ℕ) → Contains stops rank → Contains wide rank) → WentOnWithStops r x stops old new → WentOnWithStops wide_r wide_x wide old new
wider r x wide_r wide_x stops wide old new requests exports ranks h =
    let n : ℕ = length old.state.cluster.orders in record {
      kept = h.kept;
      alone = λ i d l. kind_wider r x wide_r wide_x stops wide n n (get_or (added old new) i d).change requests exports ranks (λ is. is) (h.alone i d l);
      replay = h.replay;
      same_book = h.same_book;
      same_map = published_wider x wide_x old (added old new) new.published exports h.same_map;
    }

pub went_any : (r x : Bool) (stops : List ℕ) (old new : World) → WentOnWithStops r x stops old new → WentOnWithStops true true stops old new
went_any r x stops old new h = wider r x true true stops stops old new (λ is. refl) (λ is. refl) (λ rank is. is) h

-- an answered change
pub answered : (r x : Bool) (stops : List ℕ) (first old new : World) (c : Change) (reply : Result Answer BoardError) → WentOnWithStops r x stops first old
    → IsOfKind r x stops (length first.state.cluster.orders) c → IsAnswer old c reply new → WentOnWithStops r x stops first new
answered r x stops first old new c (Ok reply) h is a =
    subst (λ (w : World). WentOnWithStops r x stops first w) (sym a.3)
    (went_more r x stops first old (recorded old c) (entry_of old.state c ∷ []) h refl (a.0, a.1, refl, refl)
    (one_has (λ (e : Entry). IsOfKind r x stops (length first.state.cluster.orders) e.change) (entry_of old.state c) is) (refl, refl) (inl refl))
answered r x stops first old new c (Err error) h is a = subst (λ (w : World). WentOnWithStops r x stops first w) (sym a.1) h

-- a change adds no other entry than its own

pub adds_none : (before : ℕ) (w : World) → All (λ (e : Entry). IsOfPhase before e.change) (added w w)
adds_none before w = rw (drop_all w.history) (All-nil (λ (e : Entry). IsOfPhase before e.change))

pub answer_adds : (before : ℕ) (old new : World) (c : Change) (reply : Result Answer BoardError) → IsOfPhase before c → IsAnswer old c reply new
    → All (λ (e : Entry). IsOfPhase before e.change) (added old new)
answer_adds before old new c (Ok reply) is a =
    let one : added old (recorded old c) ≡ entry_of old.state c ∷ [] =
    drop_longer old.history old.history (entry_of old.state c ∷ []) (take_all old.history)
    ∙ ap (λ (l : List Entry). l ++ entry_of old.state c ∷ []) (drop_all old.history) in
    subst (λ (w : World). All (λ (e : Entry). IsOfPhase before e.change) (added old w)) (sym a.3)
    (subst (λ (l : List Entry). All (λ (e : Entry). IsOfPhase before e.change) l) (sym one)
    (one_has (λ (e : Entry). IsOfPhase before e.change) (entry_of old.state c) is))
answer_adds before old new c (Err error) is a =
    subst (λ (w : World). All (λ (e : Entry). IsOfPhase before e.change) (added old w)) (sym a.1) (adds_none before old)

-- an answer makes the history no shorter
pub longer : (old new : World) (c : Change) (reply : Result Answer BoardError) → IsAnswer old c reply new → IsPrefix old.history new.history
longer old new c (Ok reply) a = (entry_of old.state c ∷ [], sym (ap (λ (w : World). w.history) a.3))
longer old new c (Err e) a = ([], append-nil old.history ∙ sym (ap (λ (w : World). w.history) a.1))

-- the map is published, or memory was refused
pub map_published : (r x done : Bool) (stops : List ℕ) (first old new : World) → x ≡ true → WentOnWithStops r x stops first old
    → MatchBool done (new ≡ record old { published = old.state.map }) (new ≡ old)
    → WentOnWithStops r x stops first new
map_published r x true stops first old new exports h is =
    subst (λ (w : World). WentOnWithStops r x stops first w) (sym is)
    (went_more r x stops first old (record old { published = old.state.map }) [] h (sym (append-nil old.history)) refl
    (All-nil (λ (e : Entry). IsOfKind r x stops (length first.state.cluster.orders) e.change)) (refl, refl) (inr (exports, [], [], refl, refl)))
map_published r x false stops first old new exports h is = subst (λ (w : World). WentOnWithStops r x stops first w) (sym is) h

pub publish_kept : (done : Bool) (old new : World) → MatchBool done (new ≡ record old { published = old.state.map }) (new ≡ old) → new.history ≡ old.history
publish_kept true old new h = ap (λ (w : World). w.history) h
publish_kept false old new h = ap (λ (w : World). w.history) h

pub publish_same : (done : Bool) (old new : World) → MatchBool done (new ≡ record old { published = old.state.map }) (new ≡ old)
    → new.state.cluster ≡ old.state.cluster
publish_same true old new h = ap (λ (w : World). w.state.cluster) h
publish_same false old new h = ap (λ (w : World). w.state.cluster) h

-- what stays where there are only exports

none_change : (s : State) → KeepsRest s s
none_change s = record { directories = refl; pins = refl; heats = refl; weights = refl; mask = refl; counted = refl; begun = refl; in_force = refl }

both_keep : (s t u : State) → KeepsRest s t → KeepsRest t u → KeepsRest s u
both_keep s t u h k = record {
  directories = k.directories ∙ h.directories;
  pins = k.pins ∙ h.pins;
  heats = k.heats ∙ h.heats;
  weights = k.weights ∙ h.weights;
  mask = k.mask ∙ h.mask;
  counted = k.counted ∙ h.counted;
  begun = k.begun ∙ h.begun;
  in_force = k.in_force ∙ h.in_force;
}

step_keeps : (s : State) (e : Event) → is_inner e ≡ true → KeepsRest s (next s (Step e))
step_keeps s e inner =
    subst (λ t. KeepsRest s t) (sym (after_step s e inner))
    (record { directories = refl; pins = refl; heats = refl; weights = refl; mask = refl; counted = refl; begun = refl; in_force = refl })

exports_keep : (stops : List ℕ) (n : ℕ) (s : State) (c : Change) → IsOfKind false true stops n c → KeepsRest s (next s c)
exports_keep stops n s c (inl h) = let no = h.0 in absurd (cc)
exports_keep stops n s c (inr (inl h)) = by_exports (λ (d : Change). KeepsRest s (next s d)) n (λ e inner is. step_keeps s e inner) c h.1
exports_keep stops n s c (inr (inr h)) = by_stops (λ (d : Change). KeepsRest s (next s d)) stops (λ rank is. step_keeps s (Stop rank) refl) c h

replay_keeps : (stops : List ℕ) (n : ℕ) (s : State) (es : List Entry) (t : State)
    → All (λ (e : Entry). IsOfKind false true stops n e.change) es → IsReplay s es t → KeepsRest s t
replay_keeps stops n s [] t kinds h = subst (λ u. KeepsRest s u) (sym h) (none_change s)
replay_keeps stops n s (e ∷ es) t kinds h =
    both_keep s (next s e.change) t (exports_keep stops n s e.change (head_has (λ (it : Entry). IsOfKind false true stops n it.change) e es kinds))
    (replay_keeps stops n (next s e.change) es t (tail_have (λ (it : Entry). IsOfKind false true stops n it.change) e es kinds) h.3)

pub all_keep : (stops : List ℕ) (old new : World) → WentOnWithStops false true stops old new → KeepsRest old.state new.state
all_keep stops old new h = replay_keeps stops (length old.state.cluster.orders) old.state (added old new) new.state h.alone h.replay

pub keeps : (old new : World) → WentOnBy false true old new → KeepsRest old.state new.state
keeps old new h = all_keep [] old new h

-- where there are only requests

only_requests : (n : ℕ) (c : Change) → IsOfKind true false [] n c → is_of_requests c ≡ true
only_requests n c (inl h) = h.1
only_requests n c (inr (inl h)) = let no = h.0 in absurd (cc)
only_requests n c (inr (inr h)) = by_stops (λ (d : Change). is_of_requests d ≡ true) [] (λ rank is. absurd (none_named rank is)) c h

pub of_requests : (old new : World) → WentOnBy true false old new → All (λ (e : Entry). is_of_requests e.change ≡ true) (added old new)
of_requests old new h = λ i d l. only_requests (length old.state.cluster.orders) (get_or (added old new) i d).change (h.alone i d l)

none_published : (old : World) (more : List Entry) (now : List Operation) → IsPublished false old more now → now ≡ old.published
none_published old more now (inl same) = same
none_published old more now (inr p) = let no = p.0 in absurd (cc)

pub none_public : (stops : List ℕ) (old new : World) → WentOnWithStops true false stops old new → new.published ≡ old.published
none_public stops old new h = none_published old (added old new) new.published h.same_map

pub unpublished : (old new : World) → WentOnBy true false old new → new.published ≡ old.published
unpublished old new h = none_public [] old new h
