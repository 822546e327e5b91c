-- Certificates that are written one after another.
use Rattle.std.proofs.Common.{◌≡◌, ◌∙◌, ℕ, ◌+◌, ◌<◌, ◌≤◌, List, [], ◌∷◌, ◌++◌, All, Option}
use Rattle.std.proofs.Common.{Some, length, drop, get_or, None, refl, sym, ap, append_assoc, append-nil, subst}
use Rattle.std.proofs.KnownBytes.{Appends-nil, Appends-trans}
use Rattle.std.proofs.lemmas.List.{drop_all, drop_more}
use Rattle.std.proofs.lemmas.List.Concat.{flat_map-append}
use Rattle.std.specs.Io.KnownBytes.{Appends}
use Rattle.board_certificates.specs.Certificates.{PosedData, certified_by, certificates, opened}
use Rattle.std.specs.Borrow.{Bor}
use Rattle.std.specs.Option.{option_map}
use Rattle.board_certificates.specs.declared.opened.Posed.{Posed}
use Rattle.board_certificates.specs.Posed.{IsSized, posed_of}
use Rattle.board_certificates.specs.Replayed.{IsReplayed}
use Rattle.board_certificates.specs.declared.replay.Replay.{Replay}
use Rattle.board_certificates.proofs.ReplayLemmas.{sized}
use Rattle.mds_board.specs.State.{State, next, refusal}
use Rattle.mds_board.specs.History.{IsReplay}
use Rattle.mds_board.specs.declared.change.Change.{Change}
use Rattle.mds_board.specs.declared.change.Change.TheVariants.{Adopt}
use Rattle.mds_board.specs.declared.entry.Entry.{Entry}
use Rattle.mds_types.specs.Plan.{PlanData}
use Rattle.plan_text.specs.Text.{text, texts}
use Rattle.plan_text.specs.Writable.{IsWritable}
use Rattle.std.proofs.lemmas.List.Elements.{All-append, All-nil}
use Rattle.plan_text.specs.declared.certificate.Certificate.{Certificate}
use Rattle.script_engine.proofs.KnownLemmas.{front_after, front_wider}
use Rattle.script_engine.specs.Known.{AppendsFront}

-- the text of a plan that is adopted
pub one : (last : Option PosedData) (change : Change) (p : PosedData) (plan : PlanData) → last ≡ Some p → change ≡ Adopt plan
    → texts (certified_by last change) ≡ text p.problem (Some p.names) plan
one last change p plan l c = rw (l, c) (append-nil (text p.problem (Some p.names) plan))

texts_parted : (cs ds : List Certificate) → texts (cs ++ ds) ≡ texts cs ++ texts ds
texts_parted cs ds = flat_map-append (λ (c : Certificate). text c.problem c.names c.plan) cs ds

-- what was written, and what is left to write
pub record IsPartly (first now : Option (List ℕ)) (all rest : List ℕ) : Type 0 where
  pub written : List ℕ
  pub appended : Appends first now written
  pub parted : all ≡ written ++ rest

pub begins : (first : Option (List ℕ)) (all : List ℕ) → IsPartly first first all all
begins first all = record { written = []; appended = Appends-nil first; parted = refl }

module _ (s : State) (first mid last : Option (List ℕ)) (all : List ℕ) (posed : Option PosedData) (e : Entry) (es : List Entry) where
  next_texts : texts (certificates s posed (e ∷ es)) ≡ texts (certified_by posed e.change) ++ texts (certificates (next s e.change) (opened s posed e.reply) es)
  next_texts = texts_parted (certified_by posed e.change) (certificates (next s e.change) (opened s posed e.reply) es)

  -- one more entry's certificate is written
  more : IsPartly first mid all (texts (certificates s posed (e ∷ es))) → Appends mid last (texts (certified_by posed e.change))
      → IsPartly first last all (texts (certificates (next s e.change) (opened s posed e.reply) es))
  more before one = record {
    written = before.written ++ texts (certified_by posed e.change);
    appended = Appends-trans first mid last before.written (texts (certified_by posed e.change)) before.appended one;
    parted = before.parted ∙ (ap (λ (t : List ℕ). before.written ++ t) next_texts ∙ sym (append_assoc before.written (texts (certified_by posed e.change)) _));
  }

  -- a beginning of one more entry's certificate is written
  front : IsPartly first mid all (texts (certificates s posed (e ∷ es))) → AppendsFront mid last (texts (certified_by posed e.change))
      → AppendsFront first last all
  front before one =
      subst (λ (t : List ℕ). AppendsFront first last t)
      (sym (before.parted ∙ (ap (λ (t : List ℕ). before.written ++ t) next_texts ∙ sym (append_assoc before.written (texts (certified_by posed e.change)) _))))
      (front_wider first last (before.written ++ texts (certified_by posed e.change)) (texts (certificates (next s e.change) (opened s posed e.reply) es))
      (front_after first mid last before.written (texts (certified_by posed e.change)) before.appended one))

-- what was written is a beginning
partly_front : (first now : Option (List ℕ)) (all rest : List ℕ) → IsPartly first now all rest → AppendsFront first now all
partly_front first now all rest h = (h.written, rest, h.parted, h.appended)

-- how far the writer is: before the entry of this number
pub record IsAt (entries : List Entry) (i : ℕ) (cs : List Certificate) (all : List ℕ) (first now : Option (List ℕ)) (r : Replay)
    (last : Option PosedData) : Type 0 where
  pub state : State
  pub replayed : IsReplayed state r
  pub sized : IsSized last
  pub ahead : (t : State) × IsReplay state (drop i entries) t
  pub partly : IsPartly first now all (texts (certificates state last (drop i entries)))
  pub writable : All IsWritable (certificates state last (drop i entries)) → All IsWritable cs

module _ (entries : List Entry) (i : ℕ) (cs : List Certificate) (all : List ℕ) (first mid : Option (List ℕ)) (r : Replay)
    (last : Option PosedData) (e : Entry) (inside : i < length entries) (item : get_or entries i e ≡ e)
    (at : IsAt entries i cs all first mid r last) where
  entry_next : drop i entries ≡ e ∷ drop (i + 1) entries
  entry_next = drop_more entries i e inside ∙ ap (λ (f : Entry). f ∷ drop (i + 1) entries) item

  replay : IsReplay at.state (e ∷ drop (i + 1) entries) at.ahead.0
  replay = subst (λ (es : List Entry). IsReplay at.state es at.ahead.0) entry_next at.ahead.1

  partly_at : IsPartly first mid all (texts (certificates at.state last (e ∷ drop (i + 1) entries)))
  partly_at = subst (λ (es : List Entry). IsPartly first mid all (texts (certificates at.state last es))) entry_next at.partly

  pub allowed : refusal at.state e.change ≡ None
  allowed = replay.0

  pub at_front : (now : Option (List ℕ)) → AppendsFront mid now (texts (certified_by last e.change)) → AppendsFront first now all
  at_front now one = front at.state first mid now all last e (drop (i + 1) entries) partly_at one

  -- the certificate of the next entry is written
  pub written_at : (now : Option (List ℕ)) → Appends mid now (texts (certified_by last e.change)) → AppendsFront first now all
  written_at now one = partly_front first now all _ (more at.state first mid now all last e (drop (i + 1) entries) partly_at one)

  pub at_next : (now : Option (List ℕ)) (after : Replay) (posed : Option PosedData) → Appends mid now (texts (certified_by last e.change))
      → All IsWritable (certified_by last e.change) → posed ≡ opened at.state last e.reply → IsReplayed (next at.state e.change) after
      → IsAt entries (i + 1) cs all first now after posed
  at_next now after posed one fits is replayed = rw is (record {
    state = next at.state e.change;
    replayed = replayed;
    sized = sized at.state e.change last e.reply replay.2 at.sized;
    ahead = (at.ahead.0, replay.3);
    partly = more at.state first mid now all last e (drop (i + 1) entries) partly_at one;
    writable = λ rest.
        at.writable (subst (λ (es : List Entry). All IsWritable (certificates at.state last es)) (sym entry_next)
        (All-append IsWritable (certified_by last e.change)
        (certificates (next at.state e.change) (opened at.state last e.reply) (drop (i + 1) entries)) fits rest));
  })

-- all is written
pub all_writable : (entries : List Entry) (i : ℕ) (cs : List Certificate) (all : List ℕ) (first now : Option (List ℕ)) (r : Replay)
    (last : Option PosedData) → length entries ≤ i → IsAt entries i cs all first now r last → All IsWritable cs
all_writable entries i cs all first now r last past at =
    at.writable (subst (λ (es : List Entry). All IsWritable (certificates at.state last es)) (sym (drop_all i entries past)) (All-nil IsWritable))

pub done : (entries : List Entry) (i : ℕ) (cs : List Certificate) (all : List ℕ) (first now : Option (List ℕ)) (r : Replay)
    (last : Option PosedData) → length entries ≤ i → IsAt entries i cs all first now r last → Appends first now all
done entries i cs all first now r last past at =
    let before = at.partly in
    subst (λ (t : List ℕ). Appends first now t)
    (sym (before.parted ∙ (ap (λ (es : List Entry). before.written ++ texts (certificates at.state last es)) (drop_all i entries past)
    ∙ append-nil before.written)))
    before.appended

-- the problem that was opened last, as it is lent
pub lent : (x : Option (Bor Posed)) (last : Option Posed) → option_map (λ p. p.now) x ≡ last → option_map (λ p. posed_of p.now) x ≡ option_map posed_of last
lent None last is = ap (option_map posed_of) is
lent (Some p) last is = ap (option_map posed_of) is
