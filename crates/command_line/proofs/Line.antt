-- The program's command, and what a parse of it found.
use Rattle.std.proofs.Common.{◌≡◌, ◌∙◌, ap, ℕ, Bool, true, false, List, [], ◌∷◌, length, Option, Some, None}
use Rattle.std.proofs.Common.{refl, sym, subst, inl, inr, arith, codes, map, ◌&&◌, ◌||◌, ◌<◌, zero, suc}
use Rattle.std.proofs.lemmas.Bool.Decides.{nat_tests}
use Rattle.std.specs.List.{slice_index_or}
use Rattle.std.specs.Str.{bytes_eq}
use Rattle.std.specs.Prelude.{pos, not, option_map, unwrap_or, Result, Ok, ◌≤◌}
use Rattle.std.specs.Option.{option_map_or}
use Rattle.std.specs.Str.Parse.{ParsesUnsigned}
use Rattle.std.proofs.lemmas.Slice.Eq.{bytes_eq-Decides}
use Rattle.std.proofs.lemmas.List.Elements.{All-nil, All-cons}
use Rattle.clap.specs.Facts.{args_of, groups_of}
use Rattle.clap.specs.Built.{IsParsedFrom, NamesNoGroup}
use Rattle.clap.specs.Lexer.{without_minus}
use Rattle.clap.specs.Matches.{ReadsOne, found_of, one_text}
use Rattle.clap.specs.Simple.{App}
use Rattle.clap.specs.Values.{IsSignedIn}
use Rattle.clap.specs.Walk.{is_empty}
use Rattle.clap.specs.Words.{Rule, Text, app_of, is_simple_and_free, rule_of}
use Rattle.clap.specs.Simple.{is_simple}
use Rattle.clap.specs.declared.builder.arg.Arg.{Arg}
use Rattle.clap.specs.declared.builder.command.Command.{Command}
use Rattle.clap.specs.declared.builder.command.Command.TheViews.{out-Command}
use Rattle.clap.specs.declared.parser.matches.ArgMatches.{ArgMatches}
use Rattle.clap.specs.declared.builder.value_parser.ValueParser.TheVariants as parser
use Rattle.clap.specs.Kinds.{HasKind, IsAmong, Kinds}
use Rattle.clap.specs.Values.{kind_of}
use Rattle.clap.specs.declared.error.Error.{Error}
use Rattle.clap.specs.declared.error.kind.ErrorKind.{ErrorKind}
use Rattle.clap.specs.declared.error.kind.ErrorKind.TheVariants as kind
use Rattle.command_line.specs.Outcome.{Explains, StandsFor}
use Rattle.command_line.specs.declared.options_error.OptionsError.{OptionsError}
use Rattle.command_line.specs.declared.options_error.OptionsError.TheVariants.{Help, Memory, Refused, Version}
use Rattle.clap.proofs.CallerReads.{signed_reads}
use Rattle.clap.proofs.OnLiterals.{clap_on_literals}
use Rattle.command_line.specs.CommandLine.{limit_rule, mdbal, number_of, proofs_rule, quiet_rule, strict_rule}
use Rattle.command_line.proofs.Passed.{IsOwn, text_passed}

pub is_plain_line : is_simple_and_free mdbal ≡ true
unfolding clap_on_literals
is_plain_line = refl

pub is_simple_line : is_simple mdbal ≡ true
unfolding clap_on_literals
is_simple_line = refl

both_true : (a b : Bool) → (a && b) ≡ true → (a ≡ true) × (b ≡ true)
both_true true b h = (refl, h)
both_true false b h = cc

none_of : {X : Type 0} (xs : List X) → is_empty xs ≡ true → xs ≡ []
none_of [] h = refl
none_of (x ∷ xs) h =
    let zero : length (x ∷ xs) ≡ 0 = grind (arith, nat_tests) in
    absurd (omega arith)

-- four things of which a list is made
record HasFour {X Y : Type 0} (f : X → Y) (q r s t : Y) (xs : List X) : Type 0 where
  first : X
  second : X
  third : X
  fourth : X
  are : xs ≡ first ∷ second ∷ third ∷ fourth ∷ []
  first_is : f first ≡ q
  second_is : f second ≡ r
  third_is : f third ≡ s
  fourth_is : f fourth ≡ t

four_of : (X Y : Type 0) (f : X → Y) (q r s t : Y) (xs : List X) → map f xs ≡ q ∷ r ∷ s ∷ t ∷ [] → HasFour f q r s t xs
four_of X Y f q r s t [] h = cc
four_of X Y f q r s t (a ∷ []) h = cc
four_of X Y f q r s t (a ∷ b ∷ []) h = cc
four_of X Y f q r s t (a ∷ b ∷ d ∷ []) h = cc
four_of X Y f q r s t (a ∷ b ∷ d ∷ e ∷ []) h = record {
  first = a;
  second = b;
  third = d;
  fourth = e;
  are = refl;
  first_is = ap (λ (ys : List Y). slice_index_or ys 0 q) h;
  second_is = ap (λ (ys : List Y). slice_index_or ys 1 q) h;
  third_is = ap (λ (ys : List Y). slice_index_or ys 2 q) h;
  fourth_is = ap (λ (ys : List Y). slice_index_or ys 3 q) h;
}
four_of X Y f q r s t (a ∷ b ∷ d ∷ e ∷ x ∷ xs) h = cc

-- the four arguments
abbrev IsLine : List Arg → Type 0
IsLine = HasFour rule_of limit_rule strict_rule proofs_rule quiet_rule

line_of : (xs : List Arg) → map rule_of xs ≡ limit_rule ∷ strict_rule ∷ proofs_rule ∷ quiet_rule ∷ [] → IsLine xs
line_of = four_of Arg Rule rule_of limit_rule strict_rule proofs_rule quiet_rule

no_groups_of : (a : Arg) (r : Rule) → rule_of a ≡ r → r.is_simple ≡ true → a.groups.items ≡ []
no_groups_of a r h simple =
    let all = ap (λ (x : Rule). x.is_simple) h ∙ simple in
    none_of a.groups.items (both_true _ _ (both_true _ _ (both_true _ _ all).1).1).0

-- a name is at only one of the four places
alone : (a b d e : Arg) → a.id.now ≡ codes "limit" → b.id.now ≡ codes "strict" → d.id.now ≡ codes "proofs" → e.id.now ≡ codes "quiet"
    → (j : ℕ) (x : Arg) → j < 4
    → (bytes_eq (slice_index_or (a ∷ b ∷ d ∷ e ∷ []) j x).id.now (codes "limit") ≡ true → j ≡ 0)
    × (bytes_eq (slice_index_or (a ∷ b ∷ d ∷ e ∷ []) j x).id.now (codes "strict") ≡ true → j ≡ 1)
    × (bytes_eq (slice_index_or (a ∷ b ∷ d ∷ e ∷ []) j x).id.now (codes "quiet") ≡ true → j ≡ 3)
alone a b d e is_a is_b is_d is_e zero x lt = (
  λ h. refl,
  λ h.
      let bad : false ≡ true = subst (λ (t : Text). bytes_eq t (codes "strict") ≡ true) is_a h in
      cc,
  λ h.
      let bad : false ≡ true = subst (λ (t : Text). bytes_eq t (codes "quiet") ≡ true) is_a h in
      cc,
)
alone a b d e is_a is_b is_d is_e (suc zero) x lt = (
  λ h.
      let bad : false ≡ true = subst (λ (t : Text). bytes_eq t (codes "limit") ≡ true) is_b h in
      cc,
  λ h. refl,
  λ h.
      let bad : false ≡ true = subst (λ (t : Text). bytes_eq t (codes "quiet") ≡ true) is_b h in
      cc,
)
alone a b d e is_a is_b is_d is_e (suc (suc zero)) x lt = (
  λ h.
      let bad : false ≡ true = subst (λ (t : Text). bytes_eq t (codes "limit") ≡ true) is_d h in
      cc,
  λ h.
      let bad : false ≡ true = subst (λ (t : Text). bytes_eq t (codes "strict") ≡ true) is_d h in
      cc,
  λ h.
      let bad : false ≡ true = subst (λ (t : Text). bytes_eq t (codes "quiet") ≡ true) is_d h in
      cc,
)
alone a b d e is_a is_b is_d is_e (suc (suc (suc zero))) x lt = (
  λ h.
      let bad : false ≡ true = subst (λ (t : Text). bytes_eq t (codes "limit") ≡ true) is_e h in
      cc,
  λ h.
      let bad : false ≡ true = subst (λ (t : Text). bytes_eq t (codes "strict") ≡ true) is_e h in
      cc,
  λ h. refl,
)
alone a b d e is_a is_b is_d is_e (suc (suc (suc (suc j)))) x lt = absurd (omega arith)

-- a name that begins with another letter is neither empty nor that of the flag for help or the version
first_letter : (t u : Text) → t ≡ u → slice_index_or t 0 0 ≡ slice_index_or u 0 0
first_letter t u h = ap (λ (v : Text). slice_index_or v 0 0) h

limit_own : (c : Command) (l : IsLine (args_of c)) → IsOwn c 0 l.first
limit_own c l =
    let is_limit : l.first.id.now ≡ codes "limit" = ap (λ (r : Rule). r.id) l.first_is in
    let is_strict : l.second.id.now ≡ codes "strict" = ap (λ (r : Rule). r.id) l.second_is in
    let is_proofs : l.third.id.now ≡ codes "proofs" = ap (λ (r : Rule). r.id) l.third_is in
    let is_quiet : l.fourth.id.now ≡ codes "quiet" = ap (λ (r : Rule). r.id) l.fourth_is in
    record {
      below = rw l.are (omega arith);
      is = rw l.are refl;
      alone = λ j e lt h. (alone l.first l.second l.third l.fourth is_limit is_strict is_proofs is_quiet j e (rw l.are at lt)).0
          (subst (λ (t : Text). bytes_eq (slice_index_or (l.first ∷ l.second ∷ l.third ∷ l.fourth ∷ []) j e).id.now t ≡ true) is_limit (rw l.are at h));
      named = λ h.
          let bad : 108 ≡ 0 = first_letter (codes "limit") [] (sym is_limit ∙ h) in
          absurd (omega arith);
      not_added = λ auto. elim auto [
        | inl h ↦
            let bad : 108 ≡ 104 = first_letter (codes "limit") (codes "help") (sym is_limit ∙ h) in
            absurd (omega arith)
        | inr h ↦
            let bad : 108 ≡ 118 = first_letter (codes "limit") (codes "version") (sym is_limit ∙ h) in
            absurd (omega arith)
      ];
    }

strict_own : (c : Command) (l : IsLine (args_of c)) → IsOwn c 1 l.second
strict_own c l =
    let is_limit : l.first.id.now ≡ codes "limit" = ap (λ (r : Rule). r.id) l.first_is in
    let is_strict : l.second.id.now ≡ codes "strict" = ap (λ (r : Rule). r.id) l.second_is in
    let is_proofs : l.third.id.now ≡ codes "proofs" = ap (λ (r : Rule). r.id) l.third_is in
    let is_quiet : l.fourth.id.now ≡ codes "quiet" = ap (λ (r : Rule). r.id) l.fourth_is in
    record {
      below = rw l.are (omega arith);
      is = rw l.are refl;
      alone = λ j e lt h. (alone l.first l.second l.third l.fourth is_limit is_strict is_proofs is_quiet j e (rw l.are at lt)).1
          (subst (λ (t : Text). bytes_eq (slice_index_or (l.first ∷ l.second ∷ l.third ∷ l.fourth ∷ []) j e).id.now t ≡ true) is_strict (rw l.are at h));
      named = λ h.
          let bad : 115 ≡ 0 = first_letter (codes "strict") [] (sym is_strict ∙ h) in
          absurd (omega arith);
      not_added = λ auto. elim auto [
        | inl h ↦
            let bad : 115 ≡ 104 = first_letter (codes "strict") (codes "help") (sym is_strict ∙ h) in
            absurd (omega arith)
        | inr h ↦
            let bad : 115 ≡ 118 = first_letter (codes "strict") (codes "version") (sym is_strict ∙ h) in
            absurd (omega arith)
      ];
    }

quiet_own : (c : Command) (l : IsLine (args_of c)) → IsOwn c 3 l.fourth
quiet_own c l =
    let is_limit : l.first.id.now ≡ codes "limit" = ap (λ (r : Rule). r.id) l.first_is in
    let is_strict : l.second.id.now ≡ codes "strict" = ap (λ (r : Rule). r.id) l.second_is in
    let is_proofs : l.third.id.now ≡ codes "proofs" = ap (λ (r : Rule). r.id) l.third_is in
    let is_quiet : l.fourth.id.now ≡ codes "quiet" = ap (λ (r : Rule). r.id) l.fourth_is in
    record {
      below = rw l.are (omega arith);
      is = rw l.are refl;
      alone = λ j e lt h. (alone l.first l.second l.third l.fourth is_limit is_strict is_proofs is_quiet j e (rw l.are at lt)).2
          (subst (λ (t : Text). bytes_eq (slice_index_or (l.first ∷ l.second ∷ l.third ∷ l.fourth ∷ []) j e).id.now t ≡ true) is_quiet (rw l.are at h));
      named = λ h.
          let bad : 113 ≡ 0 = first_letter (codes "quiet") [] (sym is_quiet ∙ h) in
          absurd (omega arith);
      not_added = λ auto. elim auto [
        | inl h ↦
            let bad : 113 ≡ 104 = first_letter (codes "quiet") (codes "help") (sym is_quiet ∙ h) in
            absurd (omega arith)
        | inr h ↦
            let bad : 113 ≡ 118 = first_letter (codes "quiet") (codes "version") (sym is_quiet ∙ h) in
            absurd (omega arith)
      ];
    }

not_true : (b : Bool) → not b ≡ true → b ≡ false
not_true true h = cc
not_true false h = refl

-- no argument is global, and there is no group
record IsLoose (c : Command) : Type 0 where
  globals : (out-Command c).has_globals ≡ false
  unnamed : NamesNoGroup c
  groups : groups_of c ≡ []

abbrev Unnamed : Arg → Type 0
Unnamed a = a.groups.items ≡ []

loose : (c : Command) → app_of c ≡ mdbal → (l : IsLine (args_of c)) → IsLoose c
loose c is l =
    let plain = ap (λ (x : App). x.top.is_plain) is in
    let first = both_true _ _ plain in
    let third = both_true _ _ (both_true _ _ first.1).1 in
    record {
      globals = not_true _ third.0;
      unnamed = rw l.are (All-cons Unnamed l.first (l.second ∷ l.third ∷ l.fourth ∷ []) (no_groups_of l.first limit_rule l.first_is refl)
          (All-cons Unnamed l.second (l.third ∷ l.fourth ∷ []) (no_groups_of l.second strict_rule l.second_is refl)
          (All-cons Unnamed l.third (l.fourth ∷ []) (no_groups_of l.third proofs_rule l.third_is refl)
          (All-cons Unnamed l.fourth [] (no_groups_of l.fourth quiet_rule l.fourth_is refl) (All-nil Unnamed)))));
      groups = none_of (groups_of c) first.0;
    }

pub limit_text : (c : Command) (m : ArgMatches) → app_of c ≡ mdbal → IsParsedFrom c m
    → (t : Text) → one_text (found_of m) (codes "limit") ≡ Some t
    → (raw : Text) × (t ≡ without_minus raw) × IsSignedIn (pos 1) (pos 65536) raw
limit_text c m is p t found =
    let l = line_of (args_of c) (ap (λ (x : App). x.top.rules) is) in
    let id : l.first.id.now ≡ codes "limit" = ap (λ (r : Rule). r.id) l.first_is in
    let k = loose c is l in
    text_passed c m p k.globals k.unnamed k.groups 0 l.first (limit_own c l) (parser.Signed (pos 1) (pos 65536))
    (ap (λ (r : Rule). r.parser) l.first_is) t (rw id found)

pub strict_text : (c : Command) (m : ArgMatches) → app_of c ≡ mdbal → IsParsedFrom c m
    → (t : Text) → one_text (found_of m) (codes "strict") ≡ Some t
    → (bytes_eq t (codes "true") || bytes_eq t (codes "false")) ≡ true
strict_text c m is p t found =
    let l = line_of (args_of c) (ap (λ (x : App). x.top.rules) is) in
    let id : l.second.id.now ≡ codes "strict" = ap (λ (r : Rule). r.id) l.second_is in
    let k = loose c is l in
    let got = text_passed c m p k.globals k.unnamed k.groups 1 l.second (strict_own c l) parser.Bool
    (ap (λ (r : Rule). r.parser) l.second_is) t (rw id found) in
    rw got.1 got.2

pub quiet_text : (c : Command) (m : ArgMatches) → app_of c ≡ mdbal → IsParsedFrom c m
    → (t : Text) → one_text (found_of m) (codes "quiet") ≡ Some t
    → (bytes_eq t (codes "true") || bytes_eq t (codes "false")) ≡ true
quiet_text c m is p t found =
    let l = line_of (args_of c) (ap (λ (x : App). x.top.rules) is) in
    let id : l.fourth.id.now ≡ codes "quiet" = ap (λ (r : Rule). r.id) l.fourth_is in
    let k = loose c is l in
    let got = text_passed c m p k.globals k.unnamed k.groups 3 l.fourth (quiet_own c l) parser.Bool
    (ap (λ (r : Rule). r.parser) l.fourth_is) t (rw id found) in
    rw got.1 got.2

-- the number that is read of the limit's text, or the most where there is none
pub limit_given : (E : Type 0) (G : List ℕ → Result ℕ E → Type 0) (o : Option Text) (r : Option ℕ)
    → ((t : Text) → o ≡ Some t → (raw : Text) × (t ≡ without_minus raw) × IsSignedIn (pos 1) (pos 65536) raw)
    → (o ≡ None → r ≡ None) → ((t : Text) → o ≡ Some t → ReadsOne G t r)
    → ((u : List ℕ) (x : Result ℕ E) → G u x → ParsesUnsigned 32 10 u x)
    → (unwrap_or r 65536 ≡ unwrap_or (option_map number_of o) 65536) × (1 ≤ unwrap_or r 65536) × (unwrap_or r 65536 ≤ 65536)
limit_given E G None r passed none some only = rw (none refl) (refl, omega arith, omega arith)
limit_given E G (Some t) r passed none some only =
    let raw = passed t refl in
    let read : ReadsOne G (without_minus raw.0) r = subst (λ (u : Text). ReadsOne G u r) raw.1 (some t refl) in
    let n = signed_reads E G 32 1 65536 raw.0 r read only (omega arith) raw.2 in
    let read_n : ReadsOne G t (Some n.0) = subst (λ (x : Option ℕ). ReadsOne G t x) n.1 (some t refl) in
    let value : n.0 ≡ number_of t = (only t (Ok n.0) read_n).1 in
    rw n.1 (value, n.2, n.3)

-- the flag's value, as its text says
pub strict_given : (o : Option Text) (r : Bool) → ((t : Text) → o ≡ Some t → (bytes_eq t (codes "true") || bytes_eq t (codes "false")) ≡ true)
    → (o ≡ None → r ≡ false) → (o ≡ Some (codes "true") → r ≡ true) → (o ≡ Some (codes "false") → r ≡ false)
    → r ≡ option_map_or (λ text. bytes_eq text (codes "true")) o false
strict_given None r passed none set unset = none refl
strict_given (Some t) r passed none set unset = go (bytes_eq t (codes "true")) refl
  where
    go : (b : Bool) → bytes_eq t (codes "true") ≡ b → r ≡ bytes_eq t (codes "true")
    go true is = set (ap (λ (u : Text). Some u) ((bytes_eq-Decides t (codes "true")).0 is)) ∙ sym is
    go false is =
        let other : bytes_eq t (codes "false") ≡ true = rw is at (passed t refl) in
        unset (ap (λ (u : Text). Some u) ((bytes_eq-Decides t (codes "false")).0 other)) ∙ sym is

pub explained : (error : Error) (e : OptionsError) (kinds : Kinds) → StandsFor error e → HasKind kinds error → Explains kinds e
explained error Memory kinds s h = tt
explained error (Help given) kinds s (inl memory) =
    let bad : kind.OutOfMemory ≡ kind.DisplayHelp = sym memory ∙ s.1 in
    cc
explained error (Help given) kinds s (inr among) = (ap kind_of s.0 ∙ s.1, subst (λ (k : ErrorKind). IsAmong k kinds) s.1 among)
explained error (Version given) kinds s (inl memory) =
    let bad : kind.OutOfMemory ≡ kind.DisplayVersion = sym memory ∙ s.1 in
    cc
explained error (Version given) kinds s (inr among) = (ap kind_of s.0 ∙ s.1, subst (λ (k : ErrorKind). IsAmong k kinds) s.1 among)
explained error (Refused given) kinds s (inl memory) = absurd (s.1 memory)
explained error (Refused given) kinds s (inr among) = rw s.0 (s.2, s.3, s.1, among)
