-- The plan that was just adopted is the one in force, and the tops of its parts are there.
use Rattle.std.proofs.Common.{◌≡◌, ℕ, zero, suc, ◌<◌, ◌+◌, Bool, true, false, cond, List, [], ◌∷◌}
use Rattle.std.proofs.Common.{◌++◌, length, refl, sym, ap, ◌∙◌, arith, All, Option, Some, None, length-append, subst}
use Rattle.std.specs.Option.{option_and_then}
use Rattle.std.specs.Prelude.{filter, is_none, slice_get, slice_index}
use Rattle.std.proofs.lemmas.List.{length-map}
use Rattle.std.proofs.lemmas.List.Elements.{All-append, All-cons, All-map, All-nil, All-weaker}
use Rattle.std.proofs.lemmas.Bool.{and_parts}
use Rattle.mds_types.specs.declared.plan.Plan.{Plan}
use Rattle.mds_types.specs.declared.problem.ProblemRow.{ProblemRow}
use Rattle.mds_types.specs.Certificate.{plan_label}
use Rattle.dirtree.specs.Tree.{Entry, is_there}
use Rattle.dir_pins.specs.Pins.{below, is_unpinned, nearest_pin, unpinned}
use Rattle.tree_parts.specs.declared.plan_parts.PlanPart.{PlanPart}
use Rattle.tree_parts.specs.PlanParts.{is_part_top, part_of_top, plan_parts}
use Rattle.tree_parts.specs.ProblemRows.{row_of}
use Rattle.mds_board.specs.declared.change.Change.TheVariants.{Open, Adopt}
use Rattle.mds_board.specs.State.{Force, State, authorities, dirs_of, happens, next, problem_of, start}
use Rattle.mds_board.specs.declared.entry.Entry.{Entry as Kept}
use Rattle.mds_board.specs.History.{IsReplay, World, entry_of, recorded}
use Rattle.mds_board.specs.InForce.{adopted, plan_in_force}
use Rattle.script_board.specs.Board.{BoardData}
use Rattle.script_board.specs.Plan.{IsPlanned}
use Rattle.script_board.proofs.CostLemmas.{passing}

-- events are numbered by the entries
pub numbered : (s : State) (es : List Kept) (t : State) → IsReplay s es t → t.events ≡ s.events + length es
numbered s [] t h = let none : s.events ≡ s.events + 0 = omega arith in ap (λ (u : State). u.events) h ∙ none
numbered s (e ∷ es) t h = let more : s.events + 1 + length es ≡ s.events + suc (length es) = omega arith in numbered (next s e.change) es t h.3 ∙ more

get_end : (history : List Kept) (a b : Kept) → slice_get ((history ++ a ∷ []) ++ b ∷ []) (length history + 1) ≡ Some b
get_end [] a b = refl
get_end (x ∷ history) a b = let more : suc (length history) + 1 ≡ suc (length history + 1) = omega arith in
    ap (slice_get (((x ∷ history) ++ a ∷ []) ++ b ∷ [])) more ∙ get_end history a b

told_of : (w : World) (plan : Plan) → w.state.events ≡ length w.history → plan_in_force (recorded (recorded w Open) (Adopt plan)) ≡ Some plan
unfolding happens
told_of w plan same =
    let all : List Kept = (w.history ++ entry_of w.state Open ∷ []) ++ entry_of (next w.state Open) (Adopt plan) ∷ [] in
    ap (option_and_then (λ (e : Kept). adopted e.change))
    (ap (λ (n : ℕ). slice_get all (n + 1)) same ∙ get_end w.history (entry_of w.state Open) (entry_of (next w.state Open) (Adopt plan)))

counted_of : (w : World) (plan : Plan) (limit active : ℕ)
    → IsReplay (start limit active) (recorded (recorded w Open) (Adopt plan)).history (recorded (recorded w Open) (Adopt plan)).state
    → w.state.events ≡ length w.history
unfolding happens
counted_of w plan limit active replay =
    let one : List Kept = entry_of w.state Open ∷ [] in
    let two : List Kept = entry_of (next w.state Open) (Adopt plan) ∷ [] in
    let first : length ((w.history ++ one) ++ two) ≡ length (w.history ++ one) + length two = length-append (w.history ++ one) two in
    let second : length (w.history ++ one) ≡ length w.history + length one = length-append w.history one in
    let all : w.state.events + 1 + 1 ≡ 0 + length ((w.history ++ one) ++ two) =
    numbered (start limit active) ((w.history ++ one) ++ two) (recorded (recorded w Open) (Adopt plan)).state replay in
    omega (arith, first, second, all)

-- the plan in force is the one that was just adopted
pub told_plan : (old now : BoardData) (plan : Plan) (limit active : ℕ) → IsPlanned old plan now
    → IsReplay (start limit active) now.world.history now.world.state → plan_in_force now.world ≡ Some plan
told_plan old now plan limit active is replay =
    let same : now.world ≡ recorded (recorded old.world Open) (Adopt plan) = ap (λ (b : BoardData). b.world) is.adopted in
    ap plan_in_force same ∙ told_of old.world plan
    (counted_of old.world plan limit active (subst (λ (w : World). IsReplay (start limit active) w.history w.state) same replay))

force_of : (w : World) (plan : Plan) → (event : ℕ)
    × ((recorded (recorded w Open) (Adopt plan)).state.in_force
    ≡ Some (record { problem = problem_of w.state; dirs = dirs_of w.state; event = event }))
unfolding happens
force_of w plan = (w.state.events + 1, refl)

-- with its problem
pub told_force : (old now : BoardData) (plan : Plan) → IsPlanned old plan now
    → (event : ℕ) × (now.world.state.in_force
    ≡ Some (record { problem = problem_of old.world.state; dirs = dirs_of old.world.state; event = event }))
told_force old now plan is =
    let force = force_of old.world plan in
    (force.0, ap (λ (b : BoardData). b.world.state.in_force) is.adopted ∙ force.1)

entries_of : (w : World) (plan : Plan) → (recorded (recorded w Open) (Adopt plan)).state.directories.entries ≡ w.state.directories.entries
unfolding happens
entries_of w plan = refl

-- and the tree is as it was
pub same_entries : (old now : BoardData) (plan : Plan) → IsPlanned old plan now → now.world.state.directories.entries ≡ old.world.state.directories.entries
same_entries old now plan is = ap (λ (b : BoardData). b.world.state.directories.entries) is.adopted ∙ entries_of old.world plan

pub length-rows : (s : State) → length (problem_of s).rows ≡ length (dirs_of s)
length-rows s = length-map (dirs_of s) (row_of s.directories.entries s.heats.heats (authorities s) (dirs_of s))

kept : (P : ℕ → Type 0) (test : ℕ → Bool) (xs : List ℕ) → All P xs → All P (filter test xs)
kept P test [] all = all
kept P test (x ∷ xs) all = elim (test x) as (λ v. All P (cond v (x ∷ filter test xs) (filter test xs))) [
  | true ↦ All-cons P x (filter test xs) (all 0 0 (omega arith)) (kept P test xs (λ k d h. all (suc k) d (omega arith)))
  | false ↦ kept P test xs (λ k d h. all (suc k) d (omega arith))
]

all_below : (n : ℕ) → All (λ i. i < n) (below n)
all_below zero = All-nil (λ i. i < zero)
all_below (suc n) = All-append (λ i. i < suc n) (below n) (n ∷ [])
    (All-weaker (λ i. i < n) (λ i. i < suc n) (λ i h. omega arith) (below n) (all_below n))
    (All-cons (λ i. i < suc n) n [] (omega arith) (All-nil (λ i. i < suc n)))

unpinned_there : (entries : List (Option Entry)) (own : List (Option ℕ)) → All (λ d. is_there entries d ≡ true) (unpinned entries own)
unpinned_there entries own = All-weaker (λ d. is_unpinned entries own d ≡ true) (λ d. is_there entries d ≡ true)
    (λ d is. (and_parts (is_there entries d) (is_none (nearest_pin entries own d)) is).0)
    (unpinned entries own) (passing (is_unpinned entries own) (below (length entries)))

-- the tops of a plan's parts are directories
pub tops_there : (s : State) (plan : Plan) → All (λ (part : PlanPart). is_there s.directories.entries part.top ≡ true)
    (plan_parts (problem_of s).rows (dirs_of s) plan)
tops_there s plan =
    let rows = (problem_of s).rows in
    let count = length-rows s in
    let tops : List ℕ = filter (is_part_top rows (plan_label plan)) (below (length rows)) in
    All-map (λ (part : PlanPart). is_there s.directories.entries part.top ≡ true) (part_of_top rows (dirs_of s) plan) tops
    (All-weaker (λ i. i < length rows) (λ i. is_there s.directories.entries (slice_index (dirs_of s) i) ≡ true)
    (λ i h. unpinned_there s.directories.entries s.pins.own i 0 (omega (arith, h, count)))
    tops (kept (λ i. i < length rows) (is_part_top rows (plan_label plan)) (below (length rows)) (all_below (length rows))))

pub only_force : {x y : Force} → Some x ≡ Some y → x ≡ y
only_force same = cc

pub some_force : {x : Force} (o : Option Force) → o ≡ Some x → o ≡ None → ⊥
some_force o some none = cc

-- the parts of any plan for the problem in force have their tops in the tree
pub tops_in_force : (old now : BoardData) (made plan : Plan) (rows : List ProblemRow) (dirs : List ℕ) (parts : List PlanPart) → IsPlanned old made now
    → rows ≡ (problem_of old.world.state).rows → dirs ≡ dirs_of old.world.state → parts ≡ plan_parts rows dirs plan
    → All (λ (part : PlanPart). is_there now.world.state.directories.entries part.top ≡ true) parts
tops_in_force old now made plan rows dirs parts is problem below found =
    subst (λ (es : List (Option Entry)). All (λ (part : PlanPart). is_there es part.top ≡ true) parts) (sym (same_entries old now made is))
    (subst (λ (ps : List PlanPart). All (λ (part : PlanPart). is_there old.world.state.directories.entries part.top ≡ true) ps)
    (sym (found ∙ rw (problem, below) refl)) (tops_there old.world.state plan))
