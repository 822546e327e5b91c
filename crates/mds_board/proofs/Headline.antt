-- What a replay says of plans and of the cluster.
use Rattle.std.proofs.Common.{◌≡◌, ℕ, zero, suc, Bool, true, false, List, [], ◌∷◌, ◌++◌, Option}
use Rattle.std.proofs.Common.{Some, None, All, refl, sym, ap, ◌∙◌, append_assoc, append-nil, arith, length, subst}
use Rattle.std.specs.Prelude.{◌<◌}
use Rattle.std.proofs.lemmas.Bool.{false≢true}
use Rattle.std.proofs.lemmas.List.{length-map}
use Rattle.std.proofs.lemmas.List.Elements.{All-append}
use Rattle.mds_types.specs.declared.plan.Plan.{Plan}
use Rattle.mds_types.specs.declared.problem.ProblemRow.{ProblemRow}
use Rattle.mds_types.specs.Placing.{IsPlacing, moved, moved_at}
use Rattle.mds_types.specs.Problem.{ProblemData}
use Rattle.mds_types.specs.Certificate.{IsBest, IsCertified, plan_label, plan_rank}
use Rattle.mds_types.specs.RankSet.{has_rank, rank_count}
use Rattle.mds_types.proofs.SumsLemmas.{sum_below-same}
use Rattle.dirtree.specs.Tree.{Entry as DirEntry, IsTree, is_there, parent_of, root}
use Rattle.dirtree.proofs.TreeFacts.{made_tree, removed_tree}
use Rattle.tree_parts.specs.DirDivision.{row_label}
use Rattle.tree_parts.specs.ProblemRows.{problem_rows, row_of}
use Rattle.tree_parts.proofs.DirDivisions.{moves_agree, no_cooler, placed_rows}
use Rattle.export_protocol.specs.Cluster.{World as Cluster}
use Rattle.export_protocol.specs.declared.event.Event.{Event}
use Rattle.export_protocol.specs.declared.event.Event.TheVariants.{Made, Gone}
use Rattle.export_protocol.specs.Entries.{logs_export}
use Rattle.export_protocol.specs.Step as machine
use Rattle.mds_board.specs.declared.change.Answer.{Answer}
use Rattle.mds_board.specs.declared.change.Answer.TheVariants as answer
use Rattle.mds_board.specs.declared.change.Change.{Change}
use Rattle.mds_board.specs.declared.change.Change.TheVariants.{Make, Remove, Mask, Deposit, Tick, Step, Open, Adopt}
use Rattle.mds_board.specs.declared.change.Change.TheVariants as change
use Rattle.mds_board.specs.State.{State, Opened, start, refusal, happens, next, first_of, marked}
use Rattle.mds_board.specs.State.{marked_if, problem_of, after_event, usable, authorities, adopt_cause, dirs_of, unless_changed}
use Rattle.mds_board.specs.Steps.{IsBestForOpen}
use Rattle.mds_board.proofs.Accepted.{may_make, may_remove, may_step, no_cause}
use Rattle.mds_board.specs.declared.entry.Entry.{Entry}
use Rattle.mds_board.specs.History.{IsReplay, after}
use Rattle.mds_board.specs.Promises.{AdoptsBest, AdoptsCoolest, IsCheapest, OpensDirectories, leaves_problem, cluster_event, cluster_events}

-- the first entries and the rest of a replay

-- how a replay goes on after some entries
replay_split : (s : State) (before : List Entry) (e : Entry) (more : List Entry) (t : State) → IsReplay s (before ++ e ∷ more) t
    → IsReplay s before (after s before) × IsReplay (after s before) (e ∷ more) t
replay_split s [] e more t r = (refl, r)
replay_split s (f ∷ before) e more t r =
    let rest = replay_split (next s f.change) before e more t r.3 in
    ((r.0, r.1, r.2, rest.0), rest.1)

-- where a problem is open, the last opening answered it, and unless it has changed, nothing that it was made of was set since
abbrev IsOpenedIn : List Entry → Option Opened → Type 0
IsOpenedIn before None = Unit {0}
IsOpenedIn before (Some o) =
    (earlier between : List Entry) × (before ≡ earlier ++ record { change = Open; reply = answer.Problem o.problem } ∷ between)
    × (o.changed ≡ None → All (λ e. leaves_problem e.change ≡ true) between)

one_more : (between : List Entry) (e : Entry) → leaves_problem e.change ≡ true → All (λ (f : Entry). leaves_problem f.change ≡ true) between
    → All (λ (f : Entry). leaves_problem f.change ≡ true) (between ++ e ∷ [])
one_more between e h all = All-append (λ (f : Entry). leaves_problem f.change ≡ true) between (e ∷ []) all alone
  where
    alone : All (λ (f : Entry). leaves_problem f.change ≡ true) (e ∷ [])
    alone zero d near = h
    alone (suc k) d near = absurd (omega (arith, near))

longer : (before earlier between : List Entry) (e opening : Entry) → before ≡ earlier ++ opening ∷ between
    → before ++ e ∷ [] ≡ earlier ++ opening ∷ (between ++ e ∷ [])
longer before earlier between e opening is = ap (λ (es : List Entry). es ++ e ∷ []) is ∙ append_assoc earlier (opening ∷ between) (e ∷ [])

still_opened : (before : List Entry) (o : Option Opened) (e : Entry) → leaves_problem e.change ≡ true → IsOpenedIn before o → IsOpenedIn (before ++ e ∷ []) o
still_opened before None e leaves h = tt
still_opened before (Some o) e leaves h = (
  h.0,
  h.1 ++ e ∷ [],
  longer before h.0 h.1 e (record { change = Open; reply = answer.Problem o.problem }) h.2,
  λ same. one_more h.1 e leaves (h.3 same),
)

never_unmarked : (changed : Option ℕ) (event : ℕ) → first_of changed event ≡ None → ⊥
never_unmarked None event is = cc
never_unmarked (Some earlier) event is = cc

marked_opened : (before : List Entry) (o : Option Opened) (event : ℕ) (e : Entry) → IsOpenedIn before o → IsOpenedIn (before ++ e ∷ []) (marked o event)
marked_opened before None event e h = tt
marked_opened before (Some o) event e h = (
  h.0,
  h.1 ++ e ∷ [],
  longer before h.0 h.1 e (record { change = Open; reply = answer.Problem o.problem }) h.2,
  λ same. absurd (never_unmarked o.changed event same),
)

marked_if_opened : (before : List Entry) (b : Bool) (o : Option Opened) (event : ℕ) (e : Entry) → leaves_problem e.change ≡ true → IsOpenedIn before o
    → IsOpenedIn (before ++ e ∷ []) (marked_if b o event)
marked_if_opened before true o event e leaves h = marked_opened before o event e h
marked_if_opened before false o event e leaves h = still_opened before o e leaves h

opened_next : (before : List Entry) (s : State) (c : Change) (reply : Answer) → reply ≡ (happens s c).reply → IsOpenedIn before s.opened
    → IsOpenedIn (before ++ record { change = c; reply = reply } ∷ []) (next s c).opened
unfolding happens
opened_next before s (Make parent name inodes) reply is h =
    marked_opened before s.opened s.events (record { change = Make parent name inodes; reply = reply }) h
opened_next before s (Remove d) reply is h = marked_opened before s.opened s.events (record { change = Remove d; reply = reply }) h
opened_next before s (change.Pin d value) reply is h =
    marked_opened before s.opened s.events (record { change = change.Pin d value; reply = reply }) h
opened_next before s (Mask bits) reply is h = marked_opened before s.opened s.events (record { change = Mask bits; reply = reply }) h
opened_next before s (change.Weights read write) reply is h =
    still_opened before s.opened (record { change = change.Weights read write; reply = reply }) refl h
opened_next before s (Deposit hits) reply is h = still_opened before s.opened (record { change = Deposit hits; reply = reply }) refl h
opened_next before s Tick reply is h = still_opened before s.opened (record { change = Tick; reply = reply }) refl h
opened_next before s (Step e) reply is h =
    marked_if_opened before (logs_export s.cluster e) s.opened s.events (record { change = Step e; reply = reply }) refl h
opened_next before s Open reply is h = (
  before,
  [],
  ap (λ (r : Answer). before ++ record { change = Open; reply = r } ∷ []) is,
  λ same k d near. absurd (omega (arith, near)),
)
opened_next before s (Adopt plan) reply is h = tt

opened_after : (before : List Entry) (s : State) (es : List Entry) (t : State) → IsReplay s es t → IsOpenedIn before s.opened
    → IsOpenedIn (before ++ es) t.opened
opened_after before s [] t r h = rw (r, append-nil before) h
opened_after before s (e ∷ es) t r h =
    subst (λ (all : List Entry). IsOpenedIn all t.opened) (append_assoc before (e ∷ []) es)
    (opened_after (before ++ e ∷ []) (next s e.change) es t r.3 (opened_next before s e.change e.reply r.2 h))

-- Each adopted plan is best.

best_open : (before : List Entry) (o : Option Opened) (plan : Plan) → IsOpenedIn before o → adopt_cause o ≡ None → IsBestForOpen o plan
    → (earlier between : List Entry) × (problem : ProblemData)
    × (before ≡ earlier ++ record { change = Open; reply = answer.Problem problem } ∷ between)
    × All (λ (e : Entry). leaves_problem e.change ≡ true) between × IsBest problem plan × IsCertified problem plan
best_open before None plan h may best = absurd best
best_open before (Some o) plan h may best = (h.0, h.1, o.problem, h.2, h.3 (same o.changed may), best.0, best.1)
  where
    same : (changed : Option ℕ) → unless_changed changed ≡ None → changed ≡ None
    same None is = refl
    same (Some event) is = absurd (cc)

pub adopts_best : (limit active : ℕ) (history : List Entry) (t : State) → IsReplay (start limit active) history t → AdoptsBest history
adopts_best limit active history t r before more plan reply is =
    let parts = replay_split (start limit active) before (record { change = Adopt plan; reply = reply }) more t
    (subst (λ es. IsReplay (start limit active) es t) is r) in
    let s = after (start limit active) before in
    best_open before s.opened plan (opened_after [] (start limit active) before s parts.0 tt) (no_cause s (Adopt plan) parts.1.0) parts.1.1

-- the tree stays one

only_root : (e : DirEntry) (d : ℕ) → is_there (Some e ∷ []) d ≡ true → d ≡ 0
only_root e zero there = refl
only_root e (suc d) there = absurd (false≢true there)

first_tree : IsTree (Some root ∷ [])
first_tree = record {
  rooted = refl;
  above = λ d some there. let is = only_root root d there in absurd (omega (arith, some, is));
  parents = up;
  named = λ d some there. let is = only_root root d there in absurd (omega (arith, some, is));
  unique = λ c d some more there here same alike. only_root root c there ∙ sym (only_root root d here);
}
  where
    up : (d : ℕ) → is_there (Some root ∷ []) d ≡ true → is_there (Some root ∷ []) (parent_of (Some root ∷ []) d) ≡ true
    up zero there = refl
    up (suc d) there = absurd (false≢true there)

tree_next : (s : State) (c : Change) → IsTree s.directories.entries → refusal s c ≡ None → IsTree (next s c).directories.entries
unfolding happens
tree_next s (Make parent name inodes) tree h = made_tree s.directories parent name inodes tree (may_make s parent name inodes h).0
tree_next s (Remove d) tree h = removed_tree s.directories d tree (may_remove s d h).0
tree_next s (change.Pin d value) tree h = tree
tree_next s (Mask bits) tree h = tree
tree_next s (change.Weights read write) tree h = tree
tree_next s (Deposit hits) tree h = tree
tree_next s Tick tree h = tree
tree_next s (Step e) tree h = tree
tree_next s Open tree h = tree
tree_next s (Adopt plan) tree h = tree

tree_after : (s : State) (es : List Entry) (t : State) → IsReplay s es t → IsTree s.directories.entries → IsTree t.directories.entries
tree_after s [] t r tree = subst (λ (u : State). IsTree u.directories.entries) (sym r) tree
tree_after s (e ∷ es) t r tree = tree_after (next s e.change) es t r.3 (tree_next s e.change tree r.0)

-- A best plan places the directories best.
cheapest : (s : State) (plan : Plan) → IsTree s.directories.entries → IsBest (problem_of s) plan → IsCheapest s plan
cheapest s plan tree best label same =
    let rows : List ProblemRow = problem_rows s.directories.entries s.pins.own s.heats.heats (authorities s) in
    let size : length rows ≡ length (dirs_of s) = length-map (dirs_of s) (row_of s.directories.entries s.heats.heats (authorities s) (dirs_of s)) in
    let by_dirs : ℕ → ℕ = row_label s.directories.entries s.pins.own label in
    let alike : (i : ℕ) → i < length rows → by_dirs i ≡ plan_label plan i = λ i l. same i (omega (arith, size, l)) in
    let cost : (rank : ℕ → ℕ) → moved rows by_dirs rank ≡ moved rows (plan_label plan) rank = λ rank.
    sum_below-same (length rows) _ _ (λ i l. ap (λ (p : ℕ). moved_at rows i (rank p)) (alike i l)) in
    let in_dirs = λ (rank : ℕ → ℕ). moves_agree s.directories.entries s.pins.own s.heats.heats (authorities s) tree (usable s) label rank in (
      sym (in_dirs (plan_rank plan)) ∙ (cost (plan_rank plan) ∙ best.moved_is),
      λ rank is.
          (let placed : IsPlacing rows (usable s) by_dirs rank =
          placed_rows s.directories.entries s.pins.own s.heats.heats (authorities s) tree (usable s) label rank is in
          let as_planned : IsPlacing rows (usable s) (plan_label plan) rank = record {
            usable = λ i l. subst (λ p. has_rank (usable s) (rank p) ≡ true) (alike i l) (placed.usable i l);
            distinct = λ i j l m one.
                sym (alike i l) ∙ (placed.distinct i j l m (ap rank (alike i l) ∙ (one ∙ sym (ap rank (alike j m)))) ∙ alike j m);
          } in
          omega (arith, best.cheapest rank as_planned, cost rank, in_dirs rank)),
    )

opened_reply : (s : State) → (happens s Open).reply ≡ answer.Problem (problem_of s)
unfolding happens
opened_reply s = refl

-- Each problem is that of the directories at its opening.
pub opens_directories : (limit active : ℕ) (history : List Entry) (t : State) → IsReplay (start limit active) history t
    → OpensDirectories (start limit active) history
opens_directories limit active history t r earlier more reply is =
    let parts = replay_split (start limit active) earlier (record { change = Open; reply = reply }) more t
    (subst (λ es. IsReplay (start limit active) es t) is r) in
    let s = after (start limit active) earlier in
    let tree : IsTree s.directories.entries = tree_after (start limit active) earlier s parts.0 first_tree in (
      parts.1.2 ∙ opened_reply s,
      tree,
      λ plan best. (
        λ label is. no_cooler s.directories.entries s.pins.own s.heats.heats (authorities s) tree (rank_count (usable s)) label plan.greatest best.least is,
        cheapest s plan tree best,
      ),
    )

-- Each adopted plan divides the directories as they were at the opening of its problem.

same_problem : (p q : ProblemData) → (let r : Answer = answer.Problem p in r) ≡ answer.Problem q → p ≡ q
same_problem p q is = cc

pub adopts_coolest : (first : State) (history : List Entry) → OpensDirectories first history → AdoptsBest history → AdoptsCoolest first history
adopts_coolest first history opens adopts before more plan reply is =
    let a = adopts before more plan reply is in
    let adoption : Entry = record { change = Adopt plan; reply = reply } in
    let opening : Entry = record { change = Open; reply = answer.Problem a.2 } in
    let o = opens a.0 (a.1 ++ adoption ∷ more) (answer.Problem a.2)
    (is ∙ (ap (λ (es : List Entry). es ++ adoption ∷ more) a.3 ∙ append_assoc a.0 (opening ∷ a.1) (adoption ∷ more))) in
    let asked = same_problem a.2 (problem_of (after first a.0)) o.0 in
    let best = o.2 plan (subst (λ (q : ProblemData). IsBest q plan) asked a.5) in (
      a.0,
      a.1,
      (
        a.3 ∙ ap (λ (r : Answer). a.0 ++ record { change = Open; reply = r } ∷ a.1) o.0,
        a.4,
        best.0,
        best.1,
      ),
    )

-- The cluster is the machine's after the history's events.

stepped : (w : Cluster) (e : Event) → machine.refusal w e ≡ None → after_event w e ≡ (machine.step w e).1
unfolding machine.step
stepped w e h = rw h refl

ran : (s : State) (c : Change) → refusal s c ≡ None → (next s c).cluster ≡ machine.run s.cluster (cluster_event c)
unfolding happens
ran s (Make parent name inodes) h = stepped s.cluster (Made parent) (may_make s parent name inodes h).1
ran s (Remove d) h = stepped s.cluster (Gone d) (may_remove s d h).1
ran s (change.Pin d value) h = refl
ran s (Mask bits) h = refl
ran s (change.Weights read write) h = refl
ran s (Deposit hits) h = refl
ran s Tick h = refl
ran s (Step e) h = stepped s.cluster e (may_step s e h)
ran s Open h = refl
ran s (Adopt plan) h = refl

run_more : (w : Cluster) (es fs : List Event) → machine.run w (es ++ fs) ≡ machine.run (machine.run w es) fs
run_more w [] fs = refl
run_more w (e ∷ es) fs = run_more (machine.step w e).1 es fs

pub cluster_ran : (s : State) (history : List Entry) (t : State) → IsReplay s history t → t.cluster ≡ machine.run s.cluster (cluster_events history)
cluster_ran s [] t h = ap (λ (u : State). u.cluster) h
cluster_ran s (e ∷ es) t h =
    cluster_ran (next s e.change) es t h.3
    ∙ (ap (λ w. machine.run w (cluster_events es)) (ran s e.change h.0)
    ∙ sym (run_more s.cluster (cluster_event e.change) (cluster_events es)))
