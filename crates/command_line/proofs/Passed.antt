-- A text that a parse found for an argument passed that argument's parser.
use Rattle.std.proofs.Common.{◌≡◌, ◌∙◌, ap, ℕ, Bool, true, false, List, [], ◌∷◌, length, Option, Some, None, refl, sym, subst, inl, inr, arith, ◌<◌}
use Rattle.std.specs.List.{All, slice_index_or}
use Rattle.std.specs.Str.{bytes_eq}
use Rattle.std.specs.Prelude.{option_map, slice_get, unwrap_or}
use Rattle.std.specs.Borrow.{Bor}
use Rattle.std.proofs.lemmas.List.Elements.{All-get_or}
use Rattle.std.proofs.lemmas.Slice.Eq.{bytes_eq-Decides}
use Rattle.clap.specs.Facts.{Entry, EntryPasses, HasReading, PassesArg, args_of, groups_of, parser_of, parser_of_value}
use Rattle.clap.specs.Built.{IsAuto, IsParsedFrom, NamesNoGroup, SameRules}
use Rattle.clap.specs.Matches.{found_of, matched_of, one_text}
use Rattle.clap.specs.Values.{Accepts, read_as, reading_of}
use Rattle.clap.specs.Words.{Text}
use Rattle.clap.specs.declared.builder.arg.Arg.{Arg}
use Rattle.clap.specs.declared.builder.command.Command.{Command}
use Rattle.clap.specs.declared.builder.command.Command.TheViews.{out-Command}
use Rattle.clap.specs.declared.builder.value_parser.Reading.{Reading}
use Rattle.clap.specs.declared.builder.value_parser.ValueParser.{ValueParser}
use Rattle.clap.specs.declared.parser.matches.ArgMatches.{ArgMatches}
use Rattle.clap.specs.declared.parser.matches.MatchedArg.{MatchedArg}
use Rattle.clap.proofs.CallerLemmas.{entry_by_id, same_rules_by_id}

-- the one argument of a command with its name, at place k, which building doesn't add
pub record IsOwn (c : Command) (k : ℕ) (a : Arg) : Type 0 where
  pub below : k < length (args_of c)
  pub is : slice_index_or (args_of c) k a ≡ a
  pub alone : (j : ℕ) (e : Arg) → j < length (args_of c) → bytes_eq (slice_index_or (args_of c) j e).id.now a.id.now ≡ true → j ≡ k
  pub named : a.id.now ≡ [] → ⊥
  pub not_added : IsAuto a → ⊥

-- the first of these values, with what holds of each
first_value_read : (P : Bor Text → Type 0) (how : Reading) (vs : List (Bor Text)) (t : Text) → All P vs
    → option_map (λ s. read_as how s.now) (slice_get vs 0) ≡ Some t → (v : Bor Text) × (t ≡ read_as how v.now) × P v
first_value_read P how [] t all is = cc
first_value_read P how (v ∷ vs) t all is =
    (v, sym (ap (λ (o : Option Text). unwrap_or o t) is), All-get_or P (v ∷ vs) 0 v (omega arith) all)

-- the argument of the built command with the name is as the caller gave it
same_by_name : (c : Command) (m : ArgMatches) (p : IsParsedFrom c m) (k : ℕ) (a : Arg) → IsOwn c k a
    → (j : ℕ) (x : Arg) → j < length (args_of p.built) → slice_index_or (args_of p.built) j x ≡ x → bytes_eq x.id.now a.id.now ≡ true
    → SameRules a x
same_by_name c m p k a own j x below at same =
    subst (λ (y : Arg). SameRules y x) own.is (same_rules_by_id c m p k a own.below
    (λ i e lt h. own.alone i e lt (subst (λ (y : Arg). bytes_eq (slice_index_or (args_of c) i e).id.now y.id.now ≡ true) own.is h))
    (λ auto. own.not_added (subst IsAuto own.is auto))
    j x below at (subst (λ (y : Arg). bytes_eq x.id.now y.id.now ≡ true) (sym own.is) same))

accepted_by : (a x : Arg) (q : ValueParser) (raw : Text) → SameRules a x → a.value_parser ≡ Some q
    → Accepts x.ignore_case (parser_of x) raw → Accepts a.ignore_case q raw
accepted_by a x q raw same parser passed =
    let is_q : parser_of x ≡ q = ap parser_of_value (same.parser q parser) in
    subst (λ (b : Bool). Accepts b q raw) same.ignore_case (subst (λ (w : ValueParser). Accepts x.ignore_case w raw) is_q passed)

read_by : (a x : Arg) (q : ValueParser) (how : Reading) → SameRules a x → a.value_parser ≡ Some q → reading_of (parser_of x) ≡ how → how ≡ reading_of q
read_by a x q how same parser is = sym is ∙ ap (λ (o : Option ValueParser). reading_of (parser_of_value o)) (same.parser q parser)

-- the values of an entry that is no group's passed, and are read as the argument says
entry_of_argument : (b : Command) (id : Text) (e : Entry) → groups_of b ≡ [] → (id ≡ [] → ⊥) → e.0.now ≡ id → EntryPasses b e
    → All (λ v. PassesArg b id v.now) e.1.vals.items × HasReading b id e.1.reading
entry_of_argument b id e no_groups named key pass =
    let no_group : e.1.is_group ≡ true → ⊥ = λ g. elim (pass.3 g) [
      | inl empty ↦ named (sym key ∙ empty)
      | inr lots ↦
          let bad : 0 < 0 = rw no_groups at lots in
          absurd (omega arith)
    ] in (
      elim pass.0 [
        | inl g ↦ absurd (no_group g)
        | inr values ↦ subst (λ (w : Text). All (λ v. PassesArg b w v.now) e.1.vals.items) key values
      ],
      elim pass.4 [
        | inl g ↦ absurd (no_group g)
        | inr reading ↦ subst (λ (w : Text). HasReading b w e.1.reading) key reading
      ],
    )

pub text_passed : (c : Command) (m : ArgMatches) (p : IsParsedFrom c m) → (out-Command c).has_globals ≡ false → NamesNoGroup c → groups_of c ≡ []
    → (k : ℕ) (a : Arg) → IsOwn c k a → (q : ValueParser) → a.value_parser ≡ Some q
    → (t : Text) → one_text (found_of m) a.id.now ≡ Some t
    → (raw : Text) × (t ≡ read_as (reading_of q) raw) × Accepts a.ignore_case q raw
text_passed c m p globals no_groups none k a own q parser t found = go (matched_of (found_of m) a.id.now) refl
  where
    step : (x : MatchedArg) (e : Entry) → e.1 ≡ x → e.0.now ≡ a.id.now → EntryPasses p.built e
        → option_map (λ s. read_as x.reading s.now) (slice_get x.vals.items 0) ≡ Some t
        → (raw : Text) × (t ≡ read_as (reading_of q) raw) × Accepts a.ignore_case q raw
    step x e same key pass is =
        let groups : groups_of p.built ≡ [] = (p.from.same_groups no_groups).1 ∙ none in
        let facts = entry_of_argument p.built a.id.now e groups own.named key pass in
        let is_e : option_map (λ s. read_as e.1.reading s.now) (slice_get e.1.vals.items 0) ≡ Some t =
        subst (λ (y : MatchedArg). option_map (λ s. read_as y.reading s.now) (slice_get y.vals.items 0) ≡ Some t) (sym same) is in
        let first = first_value_read (λ v. PassesArg p.built a.id.now v.now) e.1.reading e.1.vals.items t facts.0 is_e in
        let by = first.2 in
        let how = facts.1 in
        let reading : e.1.reading ≡ reading_of q =
        read_by a how.1 q e.1.reading (same_by_name c m p k a own how.0 how.1 how.2 how.3 how.4.0) parser how.4.1 in
        let passed : Accepts a.ignore_case q first.0.now =
        accepted_by a by.1 q first.0.now (same_by_name c m p k a own by.0 by.1 by.2 by.3 by.4.0) parser by.4.1 in
        (first.0.now, first.1 ∙ ap (λ (r : Reading). read_as r first.0.now) reading, passed)

    go : (o : Option MatchedArg) → matched_of (found_of m) a.id.now ≡ o
        → (raw : Text) × (t ≡ read_as (reading_of q) raw) × Accepts a.ignore_case q raw
    go None is =
        let bad : None ≡ Some t = rw is at found in
        cc
    go (Some x) is =
        let parsed = p.parsed (p.from.globals ∙ globals) in
        let got = entry_by_id (EntryPasses p.built) (found_of m).entries.items a.id.now x parsed.values is in
        step x got.0 got.1 ((bytes_eq-Decides got.0.0.now a.id.now).0 got.2) got.3 (rw is at found)
