-- How a run ends.
use Rattle.std.proofs.Common.{◌≡◌, ◌≢◌, ◌≤◌, ℕ, Bool, true, false, not, ◌&&◌, List, [], ◌∷◌, ◌++◌}
use Rattle.std.proofs.Common.{length, take, refl, Option, Some, None, IfSome, sym, ap, subst, ◌∙◌, append_assoc, append-nil}
use Rattle.std.specs.Io.KnownBytes.{Appends, Consumes, IsAtEnd, Keeps}
use Rattle.std.proofs.KnownBytes.{Appends-trans, Consumes-kept, Consumes-trans, Consumes-whole}
use Rattle.std.specs.List.{AllByRecursion}
use Rattle.script_engine.specs.Known.{AppendsFront}
use Rattle.script_engine.specs.Lines.{lines_of, whole_lines, IsLine, ended}
use Rattle.script_engine.specs.Answers.{Answer, Takes, Run}
use Rattle.script_engine.specs.Progress.{Stands, Broken, Ends, Cut}
use Rattle.script_engine.specs.Runs.{AcceptsUpTo, AnswersAll, AnswersSome, AnswersWhole, Gives}
use Rattle.script_engine.specs.Devices.{Reading}
use Rattle.script_engine.specs.declared.progress.Progress.{Progress}
use Rattle.script_engine.proofs.LineLemmas.{lines_of_ended, lines_of_line, whole_lines_ended, no_whole_line}
use Rattle.script_engine.proofs.KnownLemmas.{front_after}
use Rattle.script_engine.proofs.RunLemmas.{run_over, all_accepted_push}
use Rattle.script_engine.proofs.ProgressLemmas.{one_more, one_text}

lines_all : (bytes : List ℕ) (lines : List (List ℕ)) (rest : List ℕ) → bytes ≡ ended lines ++ rest → AllByRecursion IsLine lines → rest ≡ []
    → lines_of bytes ≡ lines
lines_all bytes lines rest e all none = ap lines_of e ∙ lines_of_ended lines rest all ∙ ap (λ (r : List ℕ). lines ++ lines_of r) none ∙ append-nil lines

lines_last : (bytes : List ℕ) (lines : List (List ℕ)) (rest : List ℕ) → bytes ≡ ended lines ++ rest → AllByRecursion IsLine lines
    → IsLine rest → rest ≢ [] → lines_of bytes ≡ lines ++ rest ∷ []
lines_last bytes lines rest e all is some = ap lines_of e ∙ lines_of_ended lines rest all
    ∙ ap (λ (ls : List (List ℕ)). lines ++ ls) (lines_of_line rest is some)

lines_whole : (bytes : List ℕ) (lines : List (List ℕ)) (rest : List ℕ) → bytes ≡ ended lines ++ rest → AllByRecursion IsLine lines
    → IsLine rest → whole_lines bytes ≡ lines
lines_whole bytes lines rest e all is = ap whole_lines e ∙ whole_lines_ended lines rest all
    ∙ ap (λ (ls : List (List ℕ)). lines ++ ls) (no_whole_line rest is) ∙ append-nil lines

went_well : (s a : Bool) → s ≡ true → (s && not a) ≡ false → a ≡ true
went_well true true is e = refl
went_well true false is e = cc
went_well false a is e = cc

pub is_strict : (s a : Bool) → (s && not a) ≡ true → s ≡ true
is_strict true a e = refl
is_strict false a e = cc

pub still_strict : (s : Bool) → s ≡ true → (s && not false) ≡ false → ⊥
still_strict true is e = cc
still_strict false is e = cc

module _ {S : Type 0} (answers : S → ℕ → List ℕ → Answer → S → Type 0) (strict : Bool) (start : S) where
  -- no line has begun at the end of the input
  pub ends_clean : (bytes text : List ℕ) (now : S) (p : Progress) (s : Stands answers strict start bytes text now p) → s.rest ≡ []
      → Ends answers strict start bytes text [] now p.accepted
  ends_clean bytes text now p s none = record {
    replies = s.replies;
    run = subst (λ (ls : List (List ℕ)). Run answers strict start 1 ls s.replies now) (sym (lines_all bytes s.lines s.rest s.split s.are_lines none)) s.run;
    good = s.good;
    written = append-nil text ∙ s.written;
  }

  -- a last line is answered that no newline ends
  pub ends_last : (bytes text : List ℕ) (now new : S) (p : Progress) (accepted : Bool) (a : Answer)
      (s : Stands answers strict start bytes text now p) → (strict && not p.accepted) ≡ false → s.rest ≢ []
      → Takes answers now p.number s.rest a new → accepted ≡ (p.accepted && a.accepted)
      → Ends answers strict start bytes text a.text new accepted
  ends_last bytes text now new p accepted a s going some takes good = record {
    replies = s.replies ++ a ∷ [];
    run = subst (λ (ls : List (List ℕ)). Run answers strict start 1 ls (s.replies ++ a ∷ []) new)
        (sym (lines_last bytes s.lines s.rest s.split s.are_lines s.is_line some))
        (one_more answers strict start bytes text s.rest now new p a s going takes);
    good = good ∙ ap (λ (v : Bool). v && a.accepted) s.good ∙ sym (all_accepted_push s.replies a);
    written = one_text answers strict start bytes text now p a s;
  }

  pub cut_last : (bytes text : List ℕ) (now new : S) (p : Progress) (a : Answer) (s : Stands answers strict start bytes text now p)
      → (strict && not p.accepted) ≡ false → s.rest ≢ [] → Takes answers now p.number s.rest a new
      → Cut answers strict start bytes text a.text
  cut_last bytes text now new p a s going some takes = record {
    lines = s.lines ++ s.rest ∷ [];
    unread = [];
    replies = s.replies ++ a ∷ [];
    now = new;
    split = lines_last bytes s.lines s.rest s.split s.are_lines s.is_line some ∙ sym (append-nil (s.lines ++ s.rest ∷ []));
    run = one_more answers strict start bytes text s.rest now new p a s going takes;
    written = one_text answers strict start bytes text now p a s;
  }

  pub cut_broken : (bytes text tail : List ℕ) → Broken answers strict start bytes text tail → Cut answers strict start bytes text tail
  cut_broken bytes text tail b = record {
    lines = b.lines;
    unread = lines_of b.rest;
    replies = b.replies;
    now = b.now;
    split = ap lines_of b.split ∙ lines_of_ended b.lines b.rest b.are_lines;
    run = b.run;
    written = b.written;
  }

  -- all lines are answered at the end of the input
  pub all_at_end : (u v w : Option (List ℕ)) (bytes text more : List ℕ) (new : S) (accepted : Bool)
      → Ends answers strict start bytes text more new accepted → Appends u v text → Appends v w more
      → AnswersAll answers strict start (lines_of bytes) new accepted u w
  all_at_end u v w bytes text more new accepted e first second =
      (e.replies, e.run, e.good, subst (λ (t : List ℕ). Appends u w t) e.written (Appends-trans u v w text more first second))

  -- all input was read
  pub done_at_end : (a b u v w : Option (List ℕ)) (bytes text more : List ℕ) (new : S) (accepted : Bool)
      → Ends answers strict start bytes text more new accepted → Consumes a b bytes → IsAtEnd b → Appends u v text → Appends v w more
      → IfSome a (λ input. AnswersAll answers strict start (lines_of input) new accepted u w)
  done_at_end a b u v w bytes text more new accepted e consumed over first second =
      Consumes-whole a b bytes (λ input. AnswersAll answers strict start (lines_of input) new accepted u w) consumed over
      (all_at_end u v w bytes text more new accepted e first second)

  -- a strict run ends before all input was read
  pub done_early : (a b u w : Option (List ℕ)) (bytes text : List ℕ) (now : S) (p : Progress) → Stands answers strict start bytes text now p
      → (strict && not p.accepted) ≡ true → p.accepted ≡ false → Consumes a b bytes → Appends u w text
      → IfSome a (λ input. AnswersAll answers strict start (lines_of input) now false u w)
  done_early None b u w bytes text now p s over bad consumed written = tt
  done_early (Some input) None u w bytes text now p s over bad consumed written = absurd consumed
  done_early (Some input) (Some left) u w bytes text now p s over bad consumed written =
      let cut : lines_of input ≡ s.lines ++ lines_of (s.rest ++ left) =
      ap lines_of (consumed ∙ ap (λ (t : List ℕ). t ++ left) s.split ∙ append_assoc (ended s.lines) s.rest left)
      ∙ lines_of_ended s.lines (s.rest ++ left) s.are_lines in (
        s.replies,
        subst (λ (ls : List (List ℕ)). Run answers strict start 1 ls s.replies now) (sym cut)
            (run_over answers strict start now 1 s.lines (lines_of (s.rest ++ left)) s.replies s.run
            (ap (λ (v : Bool). strict && not v) (sym s.good) ∙ over)),
        sym bad ∙ s.good,
        subst (λ (t : List ℕ). Appends u w t) s.written written,
      )

  -- all lines that came are answered up to the one with which a strict run ends
  pub all_early : (u w : Option (List ℕ)) (bytes text : List ℕ) (now : S) (p : Progress) → Stands answers strict start bytes text now p
      → (strict && not p.accepted) ≡ true → p.accepted ≡ false → Appends u w text
      → AnswersAll answers strict start (lines_of bytes) now false u w
  all_early u w bytes text now p s over bad written =
      let cut : lines_of bytes ≡ s.lines ++ lines_of s.rest = ap lines_of s.split ∙ lines_of_ended s.lines s.rest s.are_lines in (
        s.replies,
        subst (λ (ls : List (List ℕ)). Run answers strict start 1 ls s.replies now) (sym cut)
            (run_over answers strict start now 1 s.lines (lines_of s.rest) s.replies s.run
            (ap (λ (v : Bool). strict && not v) (sym s.good) ∙ over)),
        sym bad ∙ s.good,
        subst (λ (t : List ℕ). Appends u w t) s.written written,
      )

  -- the lines that are whole are answered
  pub whole_so_far : (u w : Option (List ℕ)) (bytes text : List ℕ) (now : S) (p : Progress) → Stands answers strict start bytes text now p
      → Appends u w text → AnswersWhole answers strict start bytes now u w
  whole_so_far u w bytes text now p s written = (
    s.replies,
    subst (λ (ls : List (List ℕ)). Run answers strict start 1 ls s.replies now)
        (sym (lines_whole bytes s.lines s.rest s.split s.are_lines s.is_line)) s.run,
    subst (λ (t : List ℕ). Appends u w t) s.written written,
  )

  -- all lines were accepted before the last piece came
  pub stopped : (bytes last text : List ℕ) (now : S) (p : Progress) → Stands answers strict start bytes text now p → strict ≡ true
      → (strict && not p.accepted) ≡ false → length last ≤ 16384 → AcceptsUpTo answers strict start bytes last
  stopped bytes last text now p s is going few = (
    few,
    (
      s.replies,
      now,
      subst (λ (ls : List (List ℕ)). Run answers strict start 1 ls s.replies now)
          (sym (lines_whole bytes s.lines s.rest s.split s.are_lines s.is_line)) s.run,
      sym s.good ∙ went_well strict p.accepted is going,
    ),
  )

  -- a write failed
  pub some_answered : (u v w : Option (List ℕ)) (bytes text tail : List ℕ) → Cut answers strict start bytes text tail → Appends u v text
      → AppendsFront v w tail → AnswersSome answers strict start bytes u w
  some_answered u v w bytes text tail c first part =
      (c.lines, c.unread, c.replies, c.now, c.split, c.run, subst (λ (t : List ℕ). AppendsFront u w t) c.written (front_after u v w text tail first part))

-- the reader gave these bytes, and then nothing
module _ {R : Type 0} (remaining : R → Option (List ℕ)) (a b c : Reading R) (bytes : List ℕ) where
  pub gives_more : (more : List ℕ) → Gives remaining a b bytes → Gives remaining b c more → Gives remaining a c (bytes ++ more)
  gives_more more before now = (
    Consumes-trans (remaining a.reader) (remaining b.reader) (remaining c.reader) bytes more before.0 now.0,
    now.1 ∙ ap (λ (t : List ℕ). t ++ more) before.1 ∙ append_assoc a.given bytes more,
  )

  pub gives_none : Gives remaining a b bytes → Keeps (remaining b.reader) (remaining c.reader) → c.given ≡ b.given → Gives remaining a c bytes
  gives_none before kept same = (Consumes-kept (remaining a.reader) (remaining b.reader) (remaining c.reader) bytes before.0 kept, same ∙ before.1)

  pub gives_last : (buffer : List ℕ) (n : ℕ) → Gives remaining a b bytes → Gives remaining b c (take n buffer) → n ≡ 0 → Gives remaining a c bytes
  gives_last buffer n before now none =
      subst (λ (t : List ℕ). Gives remaining a c t) (append-nil bytes) (gives_more [] before (subst (λ (k : ℕ). Gives remaining b c (take k buffer)) none now))
