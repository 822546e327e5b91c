use Rattle.std.proofs.Common.{◌≡◌, ◌≢◌, ℕ, Bool, true, false, not, eqb, Option, Some, None, sym, ap, ◌∙◌, arith}
use Rattle.std.proofs.lemmas.Bool.{eqb-true}
use Rattle.std.specs.Option.{is_some}
use Rattle.export_protocol.specs.Authority.{authority, serves, frozen_by}
use Rattle.export_protocol.specs.Cluster.{World}
use Rattle.export_protocol.specs.View.{IsReached}
use Rattle.export_protocol.proofs.Found.{found_serving, found_not_serving, found_elsewhere}
use Rattle.export_machine.proofs.cluster.Cluster.serves.Goals as goal

other : (a b : ℕ) → eqb a b ≡ false → Some a ≢ Some b
other a b e k = differ (cc)
  where
    differ : a ≡ b → ⊥
    differ i = grind arith

by_frozen : (w : World) → IsReached w → (r d : ℕ) (b : Bool) (o : Option ℕ) → authority w d ≡ Some r → frozen_by w r d ≡ o
    → is_some o ≡ not b → b ≡ serves w r d
by_frozen w h r d true None a f e = found_serving w h r d a f
by_frozen w h r d false None a f e = absurd (cc)
by_frozen w h r d true (Some x) a f e = absurd (cc)
by_frozen w h r d false (Some x) a f e = found_not_serving w h r d x f

pub returns-then-eq : goal.returns-then-eq
returns-then-eq c =
    let s : c.in-Some.authority ≡ c.args.rank = eqb-true c.in-Some.authority c.args.rank (sym c.eq.ensures ∙ c.if-eq.true) in
    let b : authority c.args.self.now.world c.args.dir ≡ Some c.args.rank = sym c.authority.ensures ∙ (c.in-Some.is ∙ ap Some s) in
    by_frozen c.args.self.now.world c.reached.ensures.reached c.args.rank c.args.dir c.is_none.result c.frozen_by.result b
    (sym (c.frozen_by.ensures c.args.rank b)) c.is_none.ensures

pub returns-else-eq : goal.returns-else-eq
returns-else-eq c =
    let n : Some c.in-Some.authority ≢ Some c.args.rank = other c.in-Some.authority c.args.rank (sym c.eq.ensures ∙ c.if-eq.false) in
    c.if-eq.false ∙ found_elsewhere c.args.self.now.world c.reached.ensures.reached c.args.rank c.args.dir
    (λ e. n (sym c.in-Some.is ∙ (c.authority.ensures ∙ e)))

pub returns-in-None : goal.returns-in-None
returns-in-None c = found_elsewhere c.args.self.now.world c.reached.ensures.reached c.args.rank c.args.dir
    (λ e. differ (sym c.in-None.is ∙ (c.authority.ensures ∙ e)))
  where
    differ : None ≡ Some c.args.rank → ⊥
    differ e = cc
