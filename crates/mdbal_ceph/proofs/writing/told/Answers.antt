use Rattle.std.proofs.Common.{◌≡◌, ◌∙◌, ℕ, List, Option, ap, subst, sym}
use Rattle.std.proofs.lemmas.Result.{IfOk-weaker}
use Rattle.ceph_pins.specs.Back.{inverted}
use Rattle.ceph_plan.specs.declared.row.PinChange.{PinChange}
use Rattle.ceph_report.specs.Json.{json}
use Rattle.ceph_report.specs.Moves.{AreMoves}
use Rattle.ceph_report.specs.Roots.{AreRoots}
use Rattle.ceph_report.specs.Staying.{AreStays}
use Rattle.ceph_report.specs.declared.facts.Facts.{Facts}
use Rattle.ceph_report.specs.declared.moves.Move.{Move}
use Rattle.ceph_report.specs.declared.roots.Roots.{Roots}
use Rattle.ceph_report.specs.declared.staying.Stay.{Stay}
use Rattle.mdbal_ceph.specs.Writing.{AreFacts, standing_count}
use Rattle.mdbal_ceph.specs.declared.outcome.Outcome.{Outcome}
use Rattle.mdbal_ceph.proofs.writing.told.Goals as goal

pub returns-then-is_json : goal.returns-then-is_json
returns-then-is_json c =
    let o : Outcome = c.args.outcome.now in
    let facts : Facts = c.facts_of-facts.result in
    let standing : c.in_ok-standing.standing ≡ standing_count o = rw (c.deref.ensures.value, c.deref-2.ensures.value) at c.in_ok-standing.ensures in
    let moved : AreMoves o.directories.items o.decision.holds.items o.decision.proposal.rows.items o.decision.proposal.changes.items c.in_ok-moves.moves.items =
    rw (c.deref-3.ensures.value, c.deref-4.ensures.value, c.deref-5.ensures.value, c.deref-6.ensures.value) at c.in_ok-moves.ensures in
    let rooted : AreRoots o.directories.items o.decision.proposal.rows.items o.decision.proposal.changes.items o.decision.goals.items c.in_ok-roots.roots =
    rw (c.deref-7.ensures.value, c.deref-8.ensures.value, c.deref-9.ensures.value, c.deref-10.ensures.value) at c.in_ok-roots.ensures in
    let undone : c.in_ok-back.back.items ≡ inverted o.decision.proposal.rows.items c.changes_of-changes.result.now =
    rw (c.deref-then-is_json.ensures.value) at c.in_ok-back.ensures.inverted in
    IfOk-weaker c.make_json.result _ _
    (λ text e. record {
      facts = facts;
      of = subst (λ (n : ℕ). AreFacts o c.args.is_idle n facts) standing c.facts_of-facts.ensures.facts;
      moves = subst (λ (ms : List Move). AreMoves o.directories.items o.decision.holds.items o.decision.proposal.rows.items
          o.decision.proposal.changes.items ms) (sym (c.facts_of-facts.ensures.moves ∙ c.deref-11.ensures.value)) moved;
      roots = subst (λ (rs : Roots). AreRoots o.directories.items o.decision.proposal.rows.items o.decision.proposal.changes.items
          o.decision.goals.items rs) (sym c.facts_of-facts.ensures.roots) rooted;
      stays = subst (λ (ss : List (Option Stay)). AreStays o.directories.items ss) (sym c.facts_of-facts.ensures.stays) c.requires;
      told = rw (c.if-is_json.true)
          (e ∙ ap (λ (changes : List PinChange). json facts c.changes_of-changes.result.now changes c.args.is_proposed)
          (c.deref-then-is_json-2.ensures.value ∙ undone)
          ∙ ap (λ (changes : List PinChange). json facts changes (inverted o.decision.proposal.rows.items changes) c.args.is_proposed)
          c.changes_of-changes.ensures);
    })
    c.make_json.ensures

pub returns : goal.returns
returns c =
    let o : Outcome = c.args.outcome.now in
    let facts : Facts = c.facts_of-facts.result in
    let standing : c.in_ok-standing.standing ≡ standing_count o = rw (c.deref.ensures.value, c.deref-2.ensures.value) at c.in_ok-standing.ensures in
    let moved : AreMoves o.directories.items o.decision.holds.items o.decision.proposal.rows.items o.decision.proposal.changes.items c.in_ok-moves.moves.items =
    rw (c.deref-3.ensures.value, c.deref-4.ensures.value, c.deref-5.ensures.value, c.deref-6.ensures.value) at c.in_ok-moves.ensures in
    let rooted : AreRoots o.directories.items o.decision.proposal.rows.items o.decision.proposal.changes.items o.decision.goals.items c.in_ok-roots.roots =
    rw (c.deref-7.ensures.value, c.deref-8.ensures.value, c.deref-9.ensures.value, c.deref-10.ensures.value) at c.in_ok-roots.ensures in
    IfOk-weaker c.make_report.result _ _
    (λ text e. record {
      facts = facts;
      of = subst (λ (n : ℕ). AreFacts o c.args.is_idle n facts) standing c.facts_of-facts.ensures.facts;
      moves = subst (λ (ms : List Move). AreMoves o.directories.items o.decision.holds.items o.decision.proposal.rows.items
          o.decision.proposal.changes.items ms) (sym (c.facts_of-facts.ensures.moves ∙ c.deref-11.ensures.value)) moved;
      roots = subst (λ (rs : Roots). AreRoots o.directories.items o.decision.proposal.rows.items o.decision.proposal.changes.items
          o.decision.goals.items rs) (sym c.facts_of-facts.ensures.roots) rooted;
      stays = subst (λ (ss : List (Option Stay)). AreStays o.directories.items ss) (sym c.facts_of-facts.ensures.stays) c.requires;
      told = rw (c.if-is_json.false) e;
    })
    c.make_report.ensures
