-- The plans of a history's certificates are best.
use Rattle.std.proofs.Common.{◌≡◌, Bool, true, false, ℕ, List, [], ◌∷◌, All, Option, Some, None, refl, sym, subst}
use Rattle.std.proofs.lemmas.List.Elements.{All-append, All-cons, All-nil}
use Rattle.std.specs.Option.{option_map}
use Rattle.board_certificates.specs.Certificates.{PosedData, certified_by, certificates, opened}
use Rattle.mds_board.specs.declared.change.Answer.{Answer}
use Rattle.mds_board.specs.declared.change.Change.{Change}
use Rattle.mds_board.specs.declared.change.Change.TheVariants.{Make, Remove, Mask, Deposit, Tick, Step, Open, Adopt}
use Rattle.mds_board.specs.declared.change.Change.TheVariants as change
use Rattle.mds_board.specs.State.{State, Opened, happens, marked, marked_if, next}
use Rattle.mds_board.specs.Steps.{IsAllowed, IsBestForOpen}
use Rattle.mds_board.specs.declared.entry.Entry.{Entry}
use Rattle.mds_board.specs.History.{IsReplay}
use Rattle.mds_types.specs.Certificate.{IsBest, IsCertified}
use Rattle.mds_types.specs.Problem.{ProblemData}
use Rattle.mds_types.specs.declared.plan.Plan.{Plan}
use Rattle.plan_text.specs.declared.certificate.Certificate.{Certificate}

abbrev HasBest : Certificate → Type 0
HasBest c = IsBest c.problem c.plan × IsCertified c.problem c.plan

-- where a problem is open, it is the one that was opened last
abbrev Agrees : Option Opened → Option PosedData → Type 0
Agrees None last = Unit {0}
Agrees (Some o) last = option_map (λ p. p.problem) last ≡ Some o.problem

marked_agrees : (o : Option Opened) (e : ℕ) (last : Option PosedData) → Agrees o last → Agrees (marked o e) last
marked_agrees None e last h = h
marked_agrees (Some o) e last h = h

marked_if_agrees : (b : Bool) (o : Option Opened) (e : ℕ) (last : Option PosedData) → Agrees o last → Agrees (marked_if b o e) last
marked_if_agrees true o e last h = marked_agrees o e last h
marked_if_agrees false o e last h = h

agrees_next : (s : State) (last : Option PosedData) (c : Change) → Agrees s.opened last → Agrees (next s c).opened (opened s last (happens s c).reply)
unfolding happens
agrees_next s last (Make parent name inodes) h = marked_agrees s.opened s.events last h
agrees_next s last (Remove d) h = marked_agrees s.opened s.events last h
agrees_next s last (change.Pin d value) h = marked_agrees s.opened s.events last h
agrees_next s last (Mask bits) h = marked_agrees s.opened s.events last h
agrees_next s last (change.Weights read write) h = h
agrees_next s last (Deposit hits) h = h
agrees_next s last Tick h = h
agrees_next s last (Step e) h = marked_if_agrees _ s.opened s.events last h
agrees_next s last Open h = refl
agrees_next s last (Adopt plan) h = tt

best_now : (o : Option Opened) (last : Option PosedData) (plan : Plan) → Agrees o last → IsBestForOpen o plan → All HasBest (certified_by last (Adopt plan))
best_now None last plan h best = absurd best
best_now (Some o) None plan h best = absurd (cc)
best_now (Some o) (Some p) plan h best =
    let same : o.problem ≡ p.problem = cc in
    All-cons HasBest (record { problem = p.problem; names = Some p.names; plan = plan }) []
    (subst (λ (q : ProblemData). IsBest q plan × IsCertified q plan) same best) (All-nil HasBest)

best_adopted : (s : State) (last : Option PosedData) (c : Change) → Agrees s.opened last → IsAllowed s c → All HasBest (certified_by last c)
best_adopted s None (Adopt plan) h best = best_now s.opened None plan h best
best_adopted s (Some p) (Adopt plan) h best = best_now s.opened (Some p) plan h best
best_adopted s None c h best = All-nil HasBest
best_adopted s (Some p) (Make parent name inodes) h best = All-nil HasBest
best_adopted s (Some p) (Remove d) h best = All-nil HasBest
best_adopted s (Some p) (change.Pin d value) h best = All-nil HasBest
best_adopted s (Some p) (Mask bits) h best = All-nil HasBest
best_adopted s (Some p) (change.Weights read write) h best = All-nil HasBest
best_adopted s (Some p) (Deposit hits) h best = All-nil HasBest
best_adopted s (Some p) Tick h best = All-nil HasBest
best_adopted s (Some p) (Step e) h best = All-nil HasBest
best_adopted s (Some p) Open h best = All-nil HasBest

pub all_best : (s : State) (last : Option PosedData) (history : List Entry) (t : State) → Agrees s.opened last → IsReplay s history t
    → All HasBest (certificates s last history)
all_best s last [] t h r = All-nil HasBest
all_best s last (e ∷ es) t h r =
    All-append HasBest (certified_by last e.change) _ (best_adopted s last e.change h r.1)
    (all_best (next s e.change) (opened s last e.reply) es t
    (subst (λ (reply : Answer). Agrees (next s e.change).opened (opened s last reply)) (sym r.2) (agrees_next s last e.change h)) r.3)
