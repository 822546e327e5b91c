-- Sessions that differ at most in how much of the map is published answer alike.
use Rattle.std.proofs.Common.{◌≡◌, ◌==◌, ℕ, ◌+◌, Bool, true, false, not, ◌&&◌, cond, List, [], ◌∷◌, ◌++◌, length}
use Rattle.std.proofs.Common.{take, Option, Some, None, Result, Ok, Err, refl, sym, ap, subst, ◌∙◌, inl, inr}
use Rattle.std.specs.List.{list_all}
use Rattle.std.specs.Prelude.{option_map, MatchBool}
use Rattle.std.proofs.lemmas.Bool.{and_parts}
use Rattle.authority_map.specs.Operations.{Operation}
use Rattle.mds_board.specs.declared.board_error.BoardError.{BoardError}
use Rattle.mds_board.specs.declared.change.Change.{Change}
use Rattle.mds_board.specs.declared.change.Change.TheVariants as change
use Rattle.mds_board.specs.State.{refusal}
use Rattle.tree_parts.specs.declared.division.Part.{Part}
use Rattle.export_protocol.specs.declared.event.Event.{Event}
use Rattle.export_protocol.specs.declared.event.Event.TheVariants as event
use Rattle.export_protocol.specs.declared.event.Reply.{Reply}
use Rattle.tree_parts.specs.Parts.{parts}
use Rattle.mds_types.specs.Mask.{mask_bits}
use Rattle.script_engine.specs.Answers.{Answer, Run, Takes, played, text_of}
use Rattle.script_commands.specs.Commands as line
use Rattle.script_commands.specs.Commands.{Asked, Command, asked}
use Rattle.script_board.specs.declared.fault.Fault.{Fault}
use Rattle.script_board.specs.Board.{BoardData, publish}
use Rattle.script_board.specs.Commands.{◌>>=◌, changed, find, last_slash, make_below, masked, parent_path, replanned}
use Rattle.script_board.specs.Cost.{cost, top, tops}
use Rattle.script_board.specs.Fault.{unless}
use Rattle.script_board.specs.Looks.{export_facts, journal_entries, refused_step}
use Rattle.export_protocol.specs.Step.{no_rank}
use Rattle.script_board.specs.Steps.{begin_at, find_all, start, take_step, with_request}
use Rattle.script_session.specs.Printed.{Printed, joined, only_lines}
use Rattle.script_session.specs.Does.{Changes, Meaning, Moves, Plans, Prints, Reports, Serves, Steps, Traffics, costed, is_function, meaning}
use Rattle.script_session.specs.Outcome.{LineOutcome, Outcome, answer_to, held, is_determined, line_outcome}
use Rattle.script_session.specs.Outcome.{outcome, outcome_at, printed, replied, silent, told}
use Rattle.script_session.specs.Looks.{entry_line, fact_line, listed}
use Rattle.script_session.specs.Steps.{event_of, step_line}
use Rattle.script_session.specs.Session.{IsTold, SessionData, answers, beginning, at_beginning, done_answer, fault_answer, published, settled}
use Rattle.script_session.specs.Visible.{NoneSaysMemory, SaysMemory, ignores_map, is_visible, tells_all}
use Rattle.script_session.proofs.OutcomeLemmas.{done_line, fault_line}

-- the board with other operations published
abbrev pub shifted : BoardData → List Operation → BoardData
shifted b ops = record b { world = record b.world { published = ops } }

-- the boards differ at most in how much of the map is published
abbrev LikeBoards : BoardData → BoardData → Type 0
LikeBoards b c = (ops : List Operation) × (c ≡ shifted b ops)

abbrev LikeResult : Result BoardData Fault → Result BoardData Fault → Type 0
LikeResult (Ok b) (Ok c) = LikeBoards b c
LikeResult (Err e) (Err f) = f ≡ e
LikeResult (Ok b) (Err f) = ⊥
LikeResult (Err e) (Ok c) = ⊥

abbrev LikeOutcome : Outcome → Outcome → Type 0
LikeOutcome (Ok x) (Ok y) = (y.0 ≡ x.0) × LikeBoards x.1 y.1
LikeOutcome (Err e) (Err f) = f ≡ e
LikeOutcome (Ok x) (Err f) = ⊥
LikeOutcome (Err e) (Ok y) = ⊥

like_silent : (r s : Result BoardData Fault) → LikeResult r s → LikeOutcome (silent r) (silent s)
like_silent (Ok b) (Ok c) l = (refl, l)
like_silent (Err e) (Err f) l = l
like_silent (Ok b) (Err f) l = absurd l
like_silent (Err e) (Ok c) l = absurd l

like_unless : (r : Option BoardError) (x y : BoardData) → LikeBoards x y → LikeResult (unless r x) (unless r y)
like_unless None x y l = l
like_unless (Some e) x y l = refl

like_bound : (r : Result ℕ Fault) (f g : ℕ → Result BoardData Fault) → ((d : ℕ) → LikeResult (f d) (g d)) → LikeResult (r >>= f) (r >>= g)
like_bound (Ok d) f g l = l d
like_bound (Err e) f g l = refl

-- a reply and the board after it
abbrev Stepped : Type 0
Stepped = Reply × BoardData

abbrev LikeStepped : Result Stepped Fault → Result Stepped Fault → Type 0
LikeStepped (Ok x) (Ok y) = (y.0 ≡ x.0) × LikeBoards x.1 y.1
LikeStepped (Err e) (Err f) = f ≡ e
LikeStepped (Ok x) (Err f) = ⊥
LikeStepped (Err e) (Ok y) = ⊥

like_replied : (r s : Result Stepped Fault) → LikeStepped r s → LikeOutcome (replied r) (replied s)
like_replied (Ok x) (Ok y) l = (ap (λ (told : Reply). only_lines (step_line told ∷ [])) l.0, l.1)
like_replied (Err e) (Err f) l = l
like_replied (Ok x) (Err f) l = absurd l
like_replied (Err e) (Ok y) l = absurd l

like_taken : (r : Option BoardError) (x y : Stepped) → y.0 ≡ x.0 → LikeBoards x.1 y.1 → LikeStepped (unless r x) (unless r y)
like_taken None x y same l = (same, l)
like_taken (Some e) x y same l = refl

step_bound : {A : Type 0} (r : Result A Fault) (f g : A → Result Stepped Fault) → ((x : A) → LikeStepped (f x) (g x)) → LikeStepped (r >>= f) (r >>= g)
step_bound (Ok x) f g l = l x
step_bound (Err e) f g l = refl

abbrev counted : ℕ → ℕ → Stepped → Result Stepped Fault
counted rank d done = Ok (done.0, with_request done.1 rank d)

like_counted : (rank d : ℕ) (r s : Result Stepped Fault) → LikeStepped r s → LikeStepped (r >>= counted rank d) (s >>= counted rank d)
like_counted rank d (Ok x) (Ok y) l = (l.0, (l.1.0, ap (λ (c : BoardData). with_request c rank d) l.1.1))
like_counted rank d (Err e) (Err f) l = l
like_counted rank d (Ok x) (Err f) l = absurd l
like_counted rank d (Err e) (Ok y) l = absurd l

module _ (b : BoardData) (ops : List Operation) where
  like_step : (e : Event) → LikeStepped (take_step b e) (take_step (shifted b ops) e)
  like_step e = like_taken (refusal b.world.state (change.Step e)) _ _ refl (ops, refl)

  same_dirs : (paths : List (List ℕ)) → find_all (shifted b ops) paths ≡ find_all b paths
  same_dirs [] = refl
  same_dirs (path ∷ paths) = ap (λ (r : Result (List ℕ) Fault). find b path >>= λ d. r >>= λ more. Ok (d ∷ more)) (same_dirs paths)

  like_start : (from to : ℕ) (paths : List (List ℕ)) → LikeStepped (start b from to paths) (start (shifted b ops) from to paths)
  like_start from to paths =
      subst (λ (r : Result (List ℕ) Fault). LikeStepped (start b from to paths)
      (r >>= λ dirs. take_step (shifted b ops) (event.Start from to dirs))) (sym (same_dirs paths))
      (step_bound (find_all b paths) _ _ (λ dirs. like_step (event.Start from to dirs)))

  like_begin : (rank : ℕ) (path : List ℕ) → LikeStepped (begin_at b rank path) (begin_at (shifted b ops) rank path)
  like_begin rank path = step_bound (find b path) _ _ (λ d. like_counted rank d _ _ (like_step (event.Begin rank d)))

  like_changed : (c : Change) → LikeResult (changed b c) (changed (shifted b ops) c)
  like_changed c = like_unless (refusal b.world.state c) _ _ (ops, refl)

  like_replanned : (c : Change) → LikeResult (replanned b c) (replanned (shifted b ops) c)
  like_replanned c = like_unless (refusal b.world.state c) _ _ (ops, refl)

  like_made : (inodes : ℕ) (s : Option (List ℕ × List ℕ)) → LikeResult (make_below b s inodes) (make_below (shifted b ops) s inodes)
  like_made inodes None = refl
  like_made inodes (Some parts) = like_bound (find b (parent_path parts.0)) _ _ (λ parent. like_replanned (change.Make parent parts.1 inodes))

  like_masked : (m : Option ℕ) → LikeResult (masked b m) (masked (shifted b ops) m)
  like_masked None = refl
  like_masked (Some bits) = like_replanned (change.Mask bits)

  same_tops : (paths : List (List ℕ)) → tops (shifted b ops) paths ≡ tops b paths
  same_tops [] = refl
  same_tops (path ∷ paths) = ap (λ (r : Result (List ℕ) Fault). top b path >>= λ d. r >>= λ found. Ok (d ∷ found)) (same_tops paths)

  like_printed : (r : Result (List (List ℕ)) Fault) → LikeOutcome (printed b r) (printed (shifted b ops) r)
  like_printed (Ok lines) = (refl, (ops, refl))
  like_printed (Err e) = refl

  like_costed : (r : Result (List Part) Fault) → LikeOutcome (printed b (costed b r)) (printed (shifted b ops) (costed (shifted b ops) r))
  like_costed (Ok found) = (refl, (ops, refl))
  like_costed (Err e) = refl

  like_cost : (paths : List (List ℕ)) → LikeOutcome (printed b (costed b (cost b paths)))
      (printed (shifted b ops) (costed (shifted b ops) (cost (shifted b ops) paths)))
  like_cost paths =
      subst (λ (r : Result (List ℕ) Fault). LikeOutcome (printed b (costed b (cost b paths)))
      (printed (shifted b ops) (costed (shifted b ops) (r
      >>= λ ts. Ok (parts b.world.state.directories.entries b.world.state.pins.own b.world.state.heats.heats ts)))))
      (sym (same_tops paths)) (like_costed (cost b paths))

  like_on_board : (c : Command) → ignores_map (meaning c) ≡ true → LikeOutcome (outcome b (meaning c)) (outcome (shifted b ops) (meaning c))
  like_on_board (line.Ranks n) sure = refl
  like_on_board (line.Mask text) sure = like_silent _ _ (like_masked (mask_bits text))
  like_on_board (line.MakeDir path inodes) sure = like_silent _ _ (like_made inodes (last_slash path))
  like_on_board (line.RemoveDir path) sure = like_silent _ _ (like_bound (find b path) _ _ (λ d. like_replanned (change.Remove d)))
  like_on_board (line.Pin path value) sure = like_silent _ _ (like_bound (find b path) _ _ (λ d. like_replanned (change.Pin d value)))
  like_on_board (line.Load path hits kind) sure = like_silent _ _ (like_bound (find b path) _ _ (λ d. (ops, refl)))
  like_on_board (line.Weight read write) sure = like_silent _ _ (like_changed _)
  like_on_board line.Go sure = cc
  like_on_board line.Tick sure = like_silent _ _ (like_changed change.Tick)
  like_on_board (line.Cost paths) sure = like_cost paths
  like_on_board line.Plan sure = cc
  like_on_board line.Move sure = cc
  like_on_board line.Traffic sure = cc
  like_on_board (line.Stop rank) sure = like_silent _ _ (like_changed _)
  like_on_board (line.Fail rank round) sure = like_silent _ _ (like_unless (refused_step (no_rank b.world.state.cluster rank)) _ _ (ops, refl))
  like_on_board (line.Restart rank) sure = like_silent _ _ (like_changed _)
  like_on_board line.Stat sure = cc
  like_on_board (line.Start from to paths) sure = like_replied _ _ (like_start from to paths)
  like_on_board (line.Begin rank path) sure = like_replied _ _ (like_begin rank path)
  like_on_board (line.Step step) sure = like_replied _ _ (like_step (event_of step))
  like_on_board (line.Export x) sure = like_printed (listed (fact_line b) (export_facts b x))
  like_on_board (line.Journal rank) sure = like_printed (listed (entry_line b rank) (journal_entries b rank))

-- the sessions differ at most in how much of the map is published
abbrev LikeBoard : Option BoardData → Option BoardData → Type 0
LikeBoard None None = Unit {0}
LikeBoard (Some b) (Some c) = LikeBoards b c
LikeBoard None (Some c) = ⊥
LikeBoard (Some b) None = ⊥

pub record LikeSessions (s t : SessionData) : Type 0 where
  pub limit : t.limit ≡ s.limit
  pub board : LikeBoard s.board t.board

abbrev LikeLine : LineOutcome → LineOutcome → Type 0
LikeLine (Ok x) (Ok y) = (y.0 ≡ x.0) × LikeSessions x.1 y.1
LikeLine (Err e) (Err f) = f ≡ e
LikeLine (Ok x) (Err f) = ⊥
LikeLine (Err e) (Ok y) = ⊥

like_held : (s t : SessionData) (r q : Outcome) → t.limit ≡ s.limit → LikeOutcome r q → LikeLine (held s r) (held t q)
like_held s t (Ok x) (Ok y) same l = (l.0, record { limit = same; board = l.1 })
like_held s t (Err e) (Err f) same l = l
like_held s t (Ok x) (Err f) same l = absurd l
like_held s t (Err e) (Ok y) same l = absurd l

itself : (b : BoardData) → LikeBoards b b
itself b = (b.world.published, refl)

like_begun : (r : Result BoardData Fault) → LikeOutcome (silent r) (silent r)
like_begun (Ok b) = (refl, itself b)
like_begun (Err e) = refl

like_outcome : (m n : ℕ) (o u : Option BoardData) (c : Command) → n ≡ m → LikeBoard o u → tells_all (line.Asks c) ≡ true
    → LikeOutcome (outcome_at m o c) (outcome_at n u c)
like_outcome m n None None c same l sure = subst (λ (k : ℕ). LikeOutcome (outcome_at m None c) (outcome_at k None c)) (sym same) (like_begun (at_beginning m c))
like_outcome m n (Some b) (Some d) c same l sure =
    subst (λ (x : BoardData). LikeOutcome (outcome b (meaning c)) (outcome x (meaning c))) (sym l.1) (like_on_board b l.0 c sure)
like_outcome m n None (Some d) c same l sure = absurd l
like_outcome m n (Some b) None c same l sure = absurd l

like_asked : (s t : SessionData) (what : Asked) → LikeSessions s t → tells_all what ≡ true → LikeLine (line_outcome s what) (line_outcome t what)
like_asked s t line.Nothing l sure = (refl, l)
like_asked s t line.Syntax l sure = refl
like_asked s t (line.Asks c) l sure = like_held s t _ _ l.limit (like_outcome s.limit t.limit s.board t.board c l.limit l.board sure)

-- a published map has the operations that were pending
published_like : (b c : BoardData) → LikeBoards b c → LikeBoards (publish b) c
published_like b c l = (l.0, l.1)

like_publish : (b c : BoardData) → LikeBoards b c → LikeBoards b (publish c)
like_publish b c l = (b.world.state.map, ap publish l.1)

on_left : (o u : Option BoardData) → LikeBoard o u → LikeBoard (option_map publish o) u
on_left None None l = tt
on_left (Some b) (Some c) l = published_like b c l
on_left None (Some c) l = absurd l
on_left (Some b) None l = absurd l

on_right : (o u : Option BoardData) → LikeBoard o u → LikeBoard o (option_map publish u)
on_right None None l = tt
on_right (Some b) (Some c) l = like_publish b c l
on_right None (Some c) l = absurd l
on_right (Some b) None l = absurd l

settled_right : (x : Bool) (s t : SessionData) → LikeSessions s t → LikeSessions s (cond x (published t) t)
settled_right true s t l = record { limit = l.limit; board = on_right s.board t.board l.board }
settled_right false s t l = l

settled_both : (x : Bool) (s t : SessionData) → LikeSessions s t → LikeSessions (cond x (published s) s) (cond x (published t) t)
settled_both true s t l = record { limit = l.limit; board = on_left s.board (option_map publish t.board) (on_right s.board t.board l.board) }
settled_both false s t l = l

-- the answer, and what it leads to, are alike
abbrev AnswersAlike : Answer → SessionData → Answer × SessionData → Type 0
AnswersAlike a new b = (a.text ≡ b.0.text) × (a.accepted ≡ b.0.accepted) × LikeSessions new b.1

alike_done : (t new : SessionData) (n : ℕ) (p : Printed) (ample : Bool) (mid : SessionData) (a : Answer) (q : LineOutcome)
    → LikeLine (Ok (p, mid)) q → IsTold n p ample mid a new → (SaysMemory n a → ⊥) → AnswersAlike a new (told t n q)
alike_done t new n p ample mid a (Err f) l is quiet = absurd l
alike_done t new n p ample mid a (Ok y) l (inl (inl is)) quiet = (
  ap (λ (x : Answer). x.text) is.0 ∙ ap (λ (x : Printed). (done_answer n x true).text) (sym l.0),
  ap (λ (x : Answer). x.accepted) is.0 ∙ ap (λ (x : Printed). (done_answer n x true).accepted) (sym l.0),
  subst (λ (s : SessionData). LikeSessions s (settled y.0 y.1)) (sym is.1)
      (subst (λ (x : Printed). LikeSessions (settled p mid) (settled x y.1)) (sym l.0) (settled_both (length p.refused == 0) mid y.1 l.1)),
)
alike_done t new n p ample mid a (Ok y) l (inl (inr is)) quiet = (
  ap (λ (x : Answer). x.text) is.0 ∙ ap (λ (x : Printed). (done_answer n x true).text) (sym l.0),
  ap (λ (x : Answer). x.accepted) is.0 ∙ ap (λ (x : Printed). (done_answer n x true).accepted) (sym l.0),
  subst (λ (s : SessionData). LikeSessions s (settled y.0 y.1)) (sym is.1) (settled_right (length y.0.refused == 0) mid y.1 l.1),
)
alike_done t new n p ample mid a (Ok y) l (inr cut) quiet = absurd (quiet (joined (take cut.0 p.lines), ap (λ (x : Answer). x.text) cut.2))

alike_fault : (s t new : SessionData) (n : ℕ) (fault : Fault) (a : Answer) (q : LineOutcome) → LikeLine (Err fault) q → LikeSessions s t
    → a ≡ fault_answer n fault → new ≡ s → AnswersAlike a new (told t n q)
alike_fault s t new n fault a (Ok y) l like is same = absurd l
alike_fault s t new n fault a (Err f) l like is same = (
  ap (λ (x : Answer). x.text) is ∙ ap (λ (e : Fault). (fault_answer n e).text) (sym l),
  ap (λ (x : Answer). x.accepted) is,
  subst (λ (x : SessionData). LikeSessions x t) (sym same) like,
)

apart_is_function : (m : Meaning) → ignores_map m ≡ true → is_function m ≡ true
apart_is_function (Changes change) sure = refl
apart_is_function (Prints print) sure = refl
apart_is_function (Reports report) sure = refl
apart_is_function (Steps step) sure = refl
apart_is_function Serves sure = sure
apart_is_function Plans sure = sure
apart_is_function Moves sure = sure
apart_is_function Traffics sure = sure

determined_when_told : (what : Asked) → tells_all what ≡ true → is_determined what ≡ true
determined_when_told line.Nothing sure = refl
determined_when_told line.Syntax sure = refl
determined_when_told (line.Asks c) sure = apart_is_function (meaning c) sure

alike : (s t new : SessionData) (n : ℕ) (bytes : List ℕ) (a : Answer) → is_visible bytes ≡ true → LikeSessions s t
    → Takes answers s n bytes a new → (SaysMemory n a → ⊥) → AnswersAlike a new (answer_to t n bytes)
alike s t new n bytes a sure like (inl (inl (p, ample, mid, done, is))) quiet =
    let what : Asked = asked bytes in
    let outcome_is : line_outcome s what ≡ Ok (p, mid) = done_line s what p ample mid (determined_when_told what sure) done in
    alike_done t new n p ample mid a (line_outcome t what)
    (subst (λ (o : LineOutcome). LikeLine o (line_outcome t what)) outcome_is (like_asked s t what like sure)) is quiet
alike s t new n bytes a sure like (inl (inr (inl (fault, stands, is, same)))) quiet =
    let what : Asked = asked bytes in
    let outcome_is : line_outcome s what ≡ Err fault = fault_line s what fault (determined_when_told what sure) stands in
    alike_fault s t new n fault a (line_outcome t what)
    (subst (λ (o : LineOutcome). LikeLine o (line_outcome t what)) outcome_is (like_asked s t what like sure)) like is same
alike s t new n bytes a sure like (inl (inr (inr (none, is, same)))) quiet = absurd (quiet ([], ap (λ (x : Answer). x.text) is))
alike s t new n bytes a sure like (inr (is, same)) quiet = absurd (quiet ([], ap (λ (x : Answer). x.text) is))

-- one answer, and those after it
one_more : (x : Bool) (a b : Answer) (rest others : List Answer) (y z : SessionData) → a.text ≡ b.text → (x ≡ true → rest ≡ [])
    → (x ≡ false → text_of rest ≡ text_of others)
    → a.text ++ text_of rest ≡ text_of (let both : List Answer × SessionData = cond x (b ∷ [], y) (b ∷ others, z) in both).0
one_more true a b rest others y z same none same_rest = ap (λ (t : List ℕ). t ++ text_of rest) same
    ∙ ap (λ (rs : List Answer). b.text ++ text_of rs) (none refl)
one_more false a b rest others y z same none same_rest = ap (λ (t : List ℕ). t ++ text_of rest) same ∙ ap (λ (t : List ℕ). b.text ++ t) (same_rest refl)

pub visible : (strict : Bool) (n : ℕ) (lines : List (List ℕ)) (replies : List Answer) (s new t : SessionData)
    → list_all is_visible lines ≡ true → LikeSessions s t → Run answers strict s n lines replies new → NoneSaysMemory n replies
    → text_of replies ≡ text_of (played answer_to strict t n lines).0
unfolding Run
visible strict n [] [] s new t all like run quiet = refl
visible strict n [] (a ∷ rest) s new t all like run quiet = absurd run
visible strict n (line ∷ lines) [] s new t all like run quiet = absurd run
visible strict n (line ∷ lines) (a ∷ rest) s new t all like (mid, takes, on) quiet =
    let sure = and_parts (is_visible line) (list_all is_visible lines) all in
    let one : AnswersAlike a mid (answer_to t n line) = alike s t mid n line a sure.0 like takes quiet.0 in
    let b : Answer × SessionData = answer_to t n line in
    let others : List Answer × SessionData = played answer_to strict b.1 (n + 1) lines in
    let same : (strict && not a.accepted) ≡ (strict && not b.0.accepted) = ap (λ (v : Bool). strict && not v) one.1 in
    one_more (strict && not b.0.accepted) a b.0 rest others.0 b.1 others.1 one.0
    (λ over. (subst (λ (v : Bool). MatchBool v ((rest ≡ []) × (new ≡ mid)) (Run answers strict mid (n + 1) lines rest new)) (same ∙ over) on).0)
    (λ going. visible strict (n + 1) lines rest mid new b.1 sure.1 one.2
    (subst (λ (v : Bool). MatchBool v ((rest ≡ []) × (new ≡ mid)) (Run answers strict mid (n + 1) lines rest new)) (same ∙ going) on)
    quiet.1)

-- a session is like itself at the beginning
pub like_beginning : (limit : ℕ) → LikeSessions (beginning limit) (beginning limit)
like_beginning limit = record { limit = refl; board = tt }
