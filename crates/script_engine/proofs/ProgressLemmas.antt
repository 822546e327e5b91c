-- What a byte does to how far a run has come.
use Rattle.std.proofs.Common.{◌≡◌, ◌≢◌, ℕ, suc, ◌+◌, ◌-◌, Bool, true, false, not, ◌&&◌, List, [], ◌∷◌, ◌++◌, ◌<◌}
use Rattle.std.proofs.Common.{get_or, take, drop, length, refl, sym, ap, subst, ◌∙◌, append_assoc, append-nil, arith, length-append, length-drop, take_all}
use Rattle.std.proofs.lemmas.Bool.{true≢false}
use Rattle.script_engine.specs.Lines.{IsLine, ended}
use Rattle.script_engine.specs.Answers.{Answer, Takes, Run, text_of}
use Rattle.script_engine.specs.Progress.{Holds, Stands, Broken}
use Rattle.script_engine.specs.declared.progress.Progress.{Progress}
use Rattle.script_engine.proofs.LineLemmas.{ended_push, is_line_append, all_push, cut_at}
use Rattle.script_engine.proofs.RunLemmas.{text_of_push, all_accepted_push, run_push, run_over}

both : (v : Bool) → v ≡ true → v ≡ false → ⊥
both v p q = true≢false (sym p ∙ q)

pub over_from : (s a : Bool) → s ≡ true → a ≡ false → (s && not a) ≡ true
over_from s a p q = ap (λ (v : Bool). v && not a) p ∙ ap not q

pub going_strict : (s a : Bool) → a ≡ true → (s && not a) ≡ false
going_strict true a q = ap not q
going_strict false a q = refl

pub going_lax : (s a : Bool) → s ≡ false → (s && not a) ≡ false
going_lax s a p = ap (λ (v : Bool). v && not a) p

-- what follows some bytes leaves some
some_more : (rest part : List ℕ) → rest ≢ [] → (rest ++ part) ≢ []
some_more [] part some e = some refl
some_more (b ∷ rest) part some e = cc

-- bytes after the rest
split_rest : (bytes front rest part : List ℕ) → bytes ≡ front ++ rest → bytes ++ part ≡ front ++ (rest ++ part)
split_rest bytes front rest part e = ap (λ (t : List ℕ). t ++ part) e ∙ append_assoc front rest part

-- a newline makes the rest and what follows it a line
split_line : (bytes : List ℕ) (lines : List (List ℕ)) (rest part : List ℕ) → bytes ≡ ended lines ++ rest
    → bytes ++ (part ++ 10 ∷ []) ≡ ended (lines ++ (rest ++ part) ∷ []) ++ []
split_line bytes lines rest part e =
    split_rest bytes (ended lines) rest (part ++ 10 ∷ []) e
    ∙ ap (λ (t : List ℕ). ended lines ++ t) (sym (append_assoc rest part (10 ∷ [])))
    ∙ sym (append-nil (ended (lines ++ (rest ++ part) ∷ [])) ∙ ended_push lines (rest ++ part))

module _ {S : Type 0} (answers : S → ℕ → List ℕ → Answer → S → Type 0) (strict : Bool) (start : S) where
  -- nothing was read
  pub begins : (p : Progress) → p.line.items ≡ [] → p.has_room ≡ true → p.number ≡ 1 → p.accepted ≡ true → Stands answers strict start [] [] start p
  unfolding Run
  begins p empty room one good = record {
    lines = [];
    rest = [];
    replies = [];
    split = refl;
    are_lines = tt;
    is_line = tt;
    run = refl;
    written = refl;
    good = good;
    open_line = λ e. record { kept = λ r. empty; lost = λ r. absurd (both _ room r) };
    numbered = λ e. one;
  }

  -- bytes without a newline
  pub adds : (bytes text : List ℕ) (now : S) (p q : Progress) (part : List ℕ) (s : Stands answers strict start bytes text now p)
      → IsLine part → q.accepted ≡ p.accepted → q.number ≡ p.number
      → ((strict && not p.accepted) ≡ false → Holds (s.rest ++ part) q.line.items q.has_room)
      → Stands answers strict start (bytes ++ part) text now q
  adds bytes text now p q part s line same count holds =
      let back : (strict && not q.accepted) ≡ (strict && not p.accepted) = ap (λ (v : Bool). strict && not v) same in
      record {
        lines = s.lines;
        rest = s.rest ++ part;
        replies = s.replies;
        split = split_rest bytes (ended s.lines) s.rest part s.split;
        are_lines = s.are_lines;
        is_line = is_line_append s.rest part s.is_line line;
        run = s.run;
        written = s.written;
        good = same ∙ s.good;
        open_line = λ e. holds (sym back ∙ e);
        numbered = λ e. count ∙ s.numbered (sym back ∙ e);
      }

  -- a line's end, after the end of a strict run
  pub stays : (bytes text : List ℕ) (now : S) (p : Progress) (part : List ℕ) → Stands answers strict start bytes text now p
      → (strict && not p.accepted) ≡ true → IsLine part → Stands answers strict start (bytes ++ (part ++ 10 ∷ [])) (text ++ []) now p
  stays bytes text now p part s over line = record {
    lines = s.lines ++ (s.rest ++ part) ∷ [];
    rest = [];
    replies = s.replies;
    split = split_line bytes s.lines s.rest part s.split;
    are_lines = all_push s.lines (s.rest ++ part) s.are_lines (is_line_append s.rest part s.is_line line);
    is_line = tt;
    run = run_over answers strict start now 1 s.lines ((s.rest ++ part) ∷ []) s.replies s.run (ap (λ (v : Bool). strict && not v) (sym s.good) ∙ over);
    written = append-nil text ∙ s.written;
    good = s.good;
    open_line = λ e. absurd (both _ over e);
    numbered = λ e. absurd (both _ over e);
  }

  pub one_more : (bytes text line : List ℕ) (now new : S) (p : Progress) (a : Answer) (s : Stands answers strict start bytes text now p)
      → (strict && not p.accepted) ≡ false → Takes answers now p.number line a new
      → Run answers strict start 1 (s.lines ++ line ∷ []) (s.replies ++ a ∷ []) new
  one_more bytes text line now new p a s going takes =
      run_push answers strict start now new 1 p.number s.lines s.replies line a s.run
      (ap (λ (v : Bool). strict && not v) (sym s.good) ∙ going) (s.numbered going) takes

  pub one_text : (bytes text : List ℕ) (now : S) (p : Progress) (a : Answer) (s : Stands answers strict start bytes text now p)
      → text ++ a.text ≡ text_of (s.replies ++ a ∷ [])
  one_text bytes text now p a s = ap (λ (t : List ℕ). t ++ a.text) s.written ∙ sym (text_of_push s.replies a)

  -- a line's end, while lines are answered
  pub ends : (bytes text part : List ℕ) (now new : S) (p q : Progress) (a : Answer) (s : Stands answers strict start bytes text now p)
      → (strict && not p.accepted) ≡ false → IsLine part → Takes answers now p.number (s.rest ++ part) a new
      → q.accepted ≡ (p.accepted && a.accepted) → q.line.items ≡ [] → q.has_room ≡ true → q.number ≡ p.number + 1
      → Stands answers strict start (bytes ++ (part ++ 10 ∷ [])) (text ++ a.text) new q
  ends bytes text part now new p q a s going line takes good empty room count = record {
    lines = s.lines ++ (s.rest ++ part) ∷ [];
    rest = [];
    replies = s.replies ++ a ∷ [];
    split = split_line bytes s.lines s.rest part s.split;
    are_lines = all_push s.lines (s.rest ++ part) s.are_lines (is_line_append s.rest part s.is_line line);
    is_line = tt;
    run = one_more bytes text (s.rest ++ part) now new p a s going takes;
    written = one_text bytes text now p a s;
    good = good ∙ ap (λ (v : Bool). v && a.accepted) s.good ∙ sym (all_accepted_push s.replies a);
    open_line = λ e. record { kept = λ r. empty; lost = λ r. absurd (both _ room r) };
    numbered = λ e. omega (arith, s.numbered going, count, length-append s.lines ((s.rest ++ part) ∷ []));
  }

  -- the same, where a write of the answer failed
  pub breaks : (bytes text part : List ℕ) (now new : S) (p : Progress) (a : Answer) (s : Stands answers strict start bytes text now p)
      → (strict && not p.accepted) ≡ false → IsLine part → Takes answers now p.number (s.rest ++ part) a new
      → Broken answers strict start (bytes ++ (part ++ 10 ∷ [])) text a.text
  breaks bytes text part now new p a s going line takes = record {
    lines = s.lines ++ (s.rest ++ part) ∷ [];
    rest = [];
    replies = s.replies ++ a ∷ [];
    now = new;
    split = split_line bytes s.lines s.rest part s.split;
    are_lines = all_push s.lines (s.rest ++ part) s.are_lines (is_line_append s.rest part s.is_line line);
    run = one_more bytes text (s.rest ++ part) now new p a s going takes;
    written = one_text bytes text now p a s;
  }

  pub moved : (bytes more text words : List ℕ) (now : S) (p : Progress) → bytes ≡ more → text ≡ words
      → Stands answers strict start bytes text now p → Stands answers strict start more words now p
  moved bytes more text words now p e f s = subst (λ (t : List ℕ). Stands answers strict start more t now p) f
      (subst (λ (b : List ℕ). Stands answers strict start b text now p) e s)

  -- bytes that come after a write that failed change nothing
  pub broken_more : (bytes more text tail : List ℕ) → Broken answers strict start bytes text tail → Broken answers strict start (bytes ++ more) text tail
  broken_more bytes more text tail b = record {
    lines = b.lines;
    rest = b.rest ++ more;
    replies = b.replies;
    now = b.now;
    split = ap (λ (t : List ℕ). t ++ more) b.split ∙ append_assoc (ended b.lines) b.rest more;
    are_lines = b.are_lines;
    run = b.run;
    written = b.written;
  }

  -- a text that was written goes before
  pub broken_after : (bytes text between tail : List ℕ) → Broken answers strict start bytes (text ++ between) tail
      → Broken answers strict start bytes text (between ++ tail)
  broken_after bytes text between tail b = record {
    lines = b.lines;
    rest = b.rest;
    replies = b.replies;
    now = b.now;
    split = b.split;
    are_lines = b.are_lines;
    run = b.run;
    written = sym (append_assoc text between tail) ∙ b.written;
  }

-- a piece, line by line: what was read, the line's last bytes with the newline, and what is left
pub piece_line : (bytes read line : List ℕ) → (bytes ++ read) ++ (line ++ 10 ∷ []) ≡ bytes ++ (read ++ (line ++ 10 ∷ []))
piece_line bytes read line = append_assoc bytes read (line ++ 10 ∷ [])

pub piece_left : (read rest piece : List ℕ) (n : ℕ) → n < length rest → get_or rest n 0 ≡ 10 → read ++ rest ≡ piece
    → (read ++ (take n rest ++ 10 ∷ [])) ++ drop (n + 1) rest ≡ piece
piece_left read rest piece n inside is e =
    let next : suc n ≡ n + 1 = omega arith in
    subst (λ (m : ℕ). (read ++ (take n rest ++ 10 ∷ [])) ++ drop m rest ≡ piece) next
    (append_assoc read (take n rest ++ 10 ∷ []) (drop (suc n) rest)
    ∙ ap (λ (t : List ℕ). read ++ t) (append_assoc (take n rest) (10 ∷ []) (drop (suc n) rest) ∙ sym (cut_at rest n inside is))
    ∙ e)

-- a slice up to the end is all that is left
pub whole_rest : (xs : List ℕ) (n : ℕ) → take (length xs - n) (drop n xs) ≡ drop n xs
whole_rest xs n = take_all _ _ (omega (arith, length-drop n xs))

-- the same for all bytes of the piece
pub piece_whole : (bytes read line left piece : List ℕ) → (read ++ line) ++ left ≡ piece → ((bytes ++ read) ++ line) ++ left ≡ bytes ++ piece
piece_whole bytes read line left piece e =
    ap (λ (t : List ℕ). t ++ left) (append_assoc bytes read line) ∙ append_assoc bytes (read ++ line) left ∙ ap (λ (t : List ℕ). bytes ++ t) e

-- and after bytes of a line that found none before
pub holds_over : (rest buffer part : List ℕ) (now : Bool) → now ≡ false → Holds rest buffer now → Holds (rest ++ part) buffer now
holds_over rest buffer part now f h = record { kept = λ r. absurd (both now r f); lost = λ r. some_more rest part (h.lost f) }

-- the line that ends with these bytes
pub holds_line : (rest buffer part : List ℕ) (room : Bool) → Holds rest buffer room → room ≡ true → buffer ++ part ≡ rest ++ part
holds_line rest buffer part room h r = ap (λ (t : List ℕ). t ++ part) (h.kept r)

-- the line whose last bytes were put into the buffer
pub line_held : (line buffer after part : List ℕ) (was now : Bool) → (now ≡ true → (was ≡ true) × (after ≡ buffer ++ part))
    → (was ≡ true → buffer ++ part ≡ line) → now ≡ true → after ≡ line
line_held line buffer after part was now held same room = (held room).1 ∙ same (held room).0
