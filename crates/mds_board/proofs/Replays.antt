-- A history goes on by an accepted change.
use Rattle.std.proofs.Common.{◌≡◌, ◌≤◌, ℕ, List, [], ◌∷◌, ◌++◌, Ok, None, refl, sym, ap, ◌∙◌, subst, arith, length-append, append_assoc}
use Rattle.mds_types.specs.declared.order.Order.{Order}
use Rattle.mds_types.specs.declared.plan.Plan.{Plan}
use Rattle.mds_types.specs.Problem.{ProblemData}
use Rattle.mds_types.specs.Certificate.{IsBest, IsCertified}
use Rattle.export_protocol.specs.declared.event.Event.TheVariants.{End}
use Rattle.export_protocol.specs.declared.event.Reply.TheVariants.{Changed}
use Rattle.export_protocol.specs.Step as machine
use Rattle.mds_board.specs.declared.change.Answer.{Answer}
use Rattle.mds_board.specs.declared.change.Answer.TheVariants as answer
use Rattle.mds_board.specs.declared.change.Change.{Change}
use Rattle.mds_board.specs.declared.change.Change.TheVariants.{Make, Remove, Mask, Deposit, Tick, Step, Open, Adopt}
use Rattle.mds_board.specs.declared.change.Change.TheVariants as change
use Rattle.mds_board.specs.State.{State, start, refusal, happens, next, problem_of, dirs_of, plan_orders}
use Rattle.mds_board.specs.Steps.{Present, IsAllowed, IsBalance, IsStep}
use Rattle.mds_board.proofs.Accepted.{has_place}
use Rattle.mds_board.specs.declared.entry.Entry.{Entry}
use Rattle.mds_board.specs.History.{recorded, IsReplay, IsHistory, entry_of, world_of}

replay_more : (old : State) (es : List Entry) (new : State) (c : Change) → IsReplay old es new → refusal new c ≡ None → IsAllowed new c
    → IsReplay old (es ++ entry_of new c ∷ []) (next new c)
replay_more old [] new c same allowed best =
    (subst (λ s. refusal s c ≡ None) same allowed, subst (λ s. IsAllowed s c) same best, ap (λ s. (happens s c).reply) same, ap (λ s. next s c) same)
replay_more old (e ∷ es) new c h allowed best = (h.0, h.1, h.2, replay_more (next old e.change) es new c h.3 allowed best)

-- no change moves the limit of directories, or the number of active ranks
limits_stay : (s : State) (c : Change) → ((next s c).directories.limit ≡ s.directories.limit) × ((next s c).pins.active ≡ s.pins.active)
unfolding happens
limits_stay s (Make parent name inodes) = (refl, refl)
limits_stay s (Remove d) = (refl, refl)
limits_stay s (change.Pin d value) = (refl, refl)
limits_stay s (Mask bits) = (refl, refl)
limits_stay s (change.Weights read write) = (refl, refl)
limits_stay s (Deposit hits) = (refl, refl)
limits_stay s Tick = (refl, refl)
limits_stay s (Step e) = (refl, refl)
limits_stay s Open = (refl, refl)
limits_stay s (Adopt plan) = (refl, refl)

-- an accepted change keeps the state the replay of the history
goes_on : (s : State) (history : List Entry) (c : Change) → IsHistory s history → refusal s c ≡ None → IsAllowed s c
    → IsHistory (next s c) (history ++ entry_of s c ∷ [])
goes_on s history c h allowed best =
    let room = has_place s c allowed in
    let e = length-append history (entry_of s c ∷ []) in
    let n = h.numbered in
    let from : IsReplay (start s.directories.limit s.pins.active) (history ++ entry_of s c ∷ []) (next s c) =
    replay_more (start s.directories.limit s.pins.active) history s c h.replay allowed best in
    record {
      some_dir = subst (λ l. 1 ≤ l) (sym (limits_stay s c).0) h.some_dir;
      some_rank = subst (λ a. 1 ≤ a) (sym (limits_stay s c).1) h.some_rank;
      few = omega arith;
      numbered = omega arith;
      replay = subst (λ l. IsReplay (start l (next s c).pins.active) (history ++ entry_of s c ∷ []) (next s c)) (sym (limits_stay s c).0)
          (subst (λ a. IsReplay (start s.directories.limit a) (history ++ entry_of s c ∷ []) (next s c)) (sym (limits_stay s c).1) from);
    }

-- the same, from what a change of the state says and what was kept
pub keeps : (old new : Present) (history kept : List Entry) (c : Change) (reply : Answer) → IsHistory old.state history
    → IsStep old c (Ok reply) new → kept ≡ history ++ record { change = c; reply = reply } ∷ [] → IsHistory new.state kept
keeps old new history kept c reply h step is =
    let on = goes_on old.state history c h step.0 step.1 in
    let said : IsHistory (next old.state c) (history ++ record { change = c; reply = reply } ∷ []) =
    subst (λ (r : Answer). IsHistory (next old.state c) (history ++ record { change = c; reply = r } ∷ [])) (sym step.2) on in
    let held : IsHistory (next old.state c) kept = subst (λ es. IsHistory (next old.state c) es) (sym is) said in
    subst (λ (p : Present). IsHistory p.state kept) (sym step.3) held

-- the entries of a balance: a problem is opened, and its plan adopted with its orders
balance_entries : (also : ProblemData → Plan → Type 0) (old new : Present) (history kept : List Entry) (problem : ProblemData) (plan : Plan)
    (orders : List Order) → IsBalance also old problem plan orders new
    → kept ≡ history ++ record { change = Open; reply = answer.Problem problem } ∷ record { change = Adopt plan; reply = answer.Orders orders } ∷ []
    → kept ≡ (history ++ entry_of old.state Open ∷ []) ++ entry_of (next old.state Open) (Adopt plan) ∷ []
unfolding happens
balance_entries also old new history kept problem plan orders b is =
    is
    ∙ (ap (λ (q : ProblemData). history ++ record { change = Open; reply = answer.Problem q } ∷
    record { change = Adopt plan; reply = answer.Orders orders } ∷ []) b.1
    ∙ (ap (λ (os : List Order). history ++ entry_of old.state Open ∷ record { change = Adopt plan; reply = answer.Orders os } ∷ []) b.4
    ∙ sym (append_assoc history (entry_of old.state Open ∷ []) (entry_of (next old.state Open) (Adopt plan) ∷ []))))

allowed : (s : State) (plan : Plan) → IsBest (problem_of s) plan × IsCertified (problem_of s) plan → IsAllowed (next s Open) (Adopt plan)
unfolding happens
allowed s plan h = h

-- the same for a problem that is opened and its plan that is adopted
pub balance_keeps : (also : ProblemData → Plan → Type 0) (old new : Present) (history kept : List Entry) (problem : ProblemData)
    (plan : Plan) (orders : List Order) → IsHistory old.state history
    → IsBalance also old problem plan orders new
    → kept ≡ history ++ record { change = Open; reply = answer.Problem problem } ∷ record { change = Adopt plan; reply = answer.Orders orders } ∷ []
    → IsHistory new.state kept
balance_keeps also old new history kept problem plan orders h b is =
    let s = old.state in
    let first = goes_on s history Open h b.0 tt in
    let second = goes_on (next s Open) (history ++ entry_of s Open ∷ []) (Adopt plan) first b.2 (allowed s plan (b.3, b.6)) in
    let all : IsHistory (next (next s Open) (Adopt plan)) kept =
    subst (λ es. IsHistory (next (next s Open) (Adopt plan)) es) (sym (balance_entries also old new history kept problem plan orders b is)) second in
    subst (λ (p : Present). IsHistory p.state kept) (sym b.5) all

pub balance_recorded : (also : ProblemData → Plan → Type 0) (old new : Present) (history kept : List Entry) (problem : ProblemData)
    (plan : Plan) (orders : List Order) → IsBalance also old problem plan orders new
    → kept ≡ history ++ record { change = Open; reply = answer.Problem problem } ∷ record { change = Adopt plan; reply = answer.Orders orders } ∷ []
    → world_of new kept ≡ recorded (recorded (world_of old history) Open) (Adopt plan)
balance_recorded also old new history kept problem plan orders b is =
    rw (b.5, balance_entries also old new history kept problem plan orders b is) refl

-- the reply of the adoption is the plan's orders in the state before the opening
pub balance_reply : (s : State) (plan : Plan) → (happens (next s Open) (Adopt plan)).reply ≡ answer.Orders (plan_orders s (dirs_of s) plan)
unfolding happens
balance_reply s plan = refl

-- there is nothing to name where a request ends
pub end_changes : (s : State) (ticket : ℕ) → (happens s (Step (End ticket))).reply ≡ answer.Reply Changed
unfolding happens machine.happens
end_changes s ticket = refl
