use Rattle.std.proofs.Common.{rules, ◌≡◌, ◌∙◌, ℕ, List, subst, sym, take, true}
use Rattle.std.proofs.lemmas.Option.{none-some}
use Rattle.ceph_snapshot.specs.Authority.{is_user_path}
use Rattle.ceph_snapshot.specs.Named.{AreTooManyPaths, IsOldOr, IsUpFrom}
use Rattle.ceph_snapshot.specs.Names.{IsAtOrAbove}
use Rattle.ceph_snapshot.specs.Sightings.{IsNumberOf, TreeData}
use Rattle.std.proofs.lemmas.Result.{err_from_is_err_and}
use Rattle.ceph_snapshot.proofs.Growth.{growth_for}
use Rattle.ceph_snapshot.proofs.Named.{many_both, old_both, old_same, up_both, up_to_slash}
use Rattle.ceph_snapshot.proofs.Numbers.{at_number, begins_with_slash}
use Rattle.ceph_snapshot.proofs.Parents.{parent_at_slash, parent_longer}
use Rattle.ceph_snapshot.proofs.Told.{still_both}
use Rattle.ceph_snapshot.proofs.tree.Tree.number.Goals as goal
use Rattle.ceph_snapshot.proofs.tree.Tree.number.Goals.{then-path-end-eq47+in_ok-number, else-path-end-eq47}

pub returns-in-Some-clause-path : goal.returns-in-Some-clause-path
returns-in-Some-clause-path c =
    let t = c.self.inside in
    subst (λ (v : TreeData). IsNumberOf v.nodes c.args.path.now c.in-Some.number) c.self.view_is
    (at_number t.names t.nodes.items t.sightings.items c.args.path.now c.in-Some.number c.self.invariant (sym c.number.ensures ∙ c.in-Some.is))

pub nearest-from-requires : goal.nearest-from-requires
nearest-from-requires c =
    let t = c.self.inside in
    begins_with_slash t.names t.nodes.items t.sightings.items c.args.path.now c.self.invariant (search rules)
    (λ is. none-some 0 (sym c.in_default.is ∙ (c.number.ensures ∙ is)))

pub loop-end-preserved : goal.loop-end-preserved
loop-end-preserved c =
    let path : List ℕ = c.args.path.now in
    let end : ℕ = c.loop-end.end in
    elim c.if-path-end-eq47.branch [
      | then-path-end-eq47+in_ok-number w ↦ record {
        seen = rw (w.self-is) (w.number_below.ensures.seen ∙ c.loop-end.invariant.seen);
        kept = rw (w.self-is) (still_both c.args.self.now.nodes c.loop-end.self.nodes w.number_below.new.self.nodes
            c.loop-end.invariant.kept w.in_ok-number.ensures.kept);
        only = rw (w.self-is) (old_both c.args.self.now.nodes c.loop-end.self.nodes w.number_below.new.self.nodes
            (λ other. IsAtOrAbove other path) (λ other. IsAtOrAbove other (take end path)) (λ other. IsAtOrAbove other path)
            (λ other up. up)
            (λ other up. up_both other (take end path) path up (up_to_slash path end c.loop-end-test.true w.if-path-end-eq47.true))
            c.loop-end.invariant.only w.in_ok-number.ensures.only);
        above = rw (w.self-is, w.number-is)
            (parent_at_slash w.number_below.new.self.nodes path end w.in_ok-number.number c.loop-end-test.true w.if-path-end-eq47.true
            w.in_ok-number.ensures.path);
      }
      | else-path-end-eq47 w ↦ record {
        seen = rw (w.self-is) c.loop-end.invariant.seen;
        kept = rw (w.self-is) c.loop-end.invariant.kept;
        only = rw (w.self-is) c.loop-end.invariant.only;
        above = rw (w.self-is, w.number-is)
            (parent_longer c.loop-end.self.nodes path end c.loop-end.number c.loop-end-test.true w.if-path-end-eq47.false
            c.loop-end.invariant.above);
      }
    ]

pub returns-clause-kept : goal.returns-clause-kept
returns-clause-kept c = still_both c.args.self.now.nodes c.loop-end.self.nodes c.number_below-2.new.self.nodes c.loop-end.invariant.kept
    c.in_ok-number_below.ensures.kept

pub returns-in-Some-clause-only : goal.returns-in-Some-clause-only
returns-in-Some-clause-only c = old_same c.args.self.now.nodes (IsUpFrom c.args.path.now)

pub returns-clause-only : goal.returns-clause-only
returns-clause-only c =
    let path : List ℕ = c.args.path.now in
    let user : is_user_path path ≡ true = search rules in
    old_both c.args.self.now.nodes c.loop-end.self.nodes c.number_below-2.new.self.nodes (λ other. IsAtOrAbove other path)
    (λ other. IsAtOrAbove other path) (IsUpFrom path) (λ other up. (user, up)) (λ other up. (user, up)) c.loop-end.invariant.only
    c.in_ok-number_below.ensures.only

pub returns-in_err-number_below-clause-many : goal.returns-in_err-number_below-clause-many
returns-in_err-number_below-clause-many c =
    let path : List ℕ = c.args.path.now in
    let user : is_user_path path ≡ true = search rules in
    let Up : List ℕ → Type 0 = λ other. IsAtOrAbove other path in
    let e = err_from_is_err_and c.from_residual-in_err-number_below.result c.from_residual-in_err-number_below.ensures.1 in
    rw (e.1, e.2)
    (growth_for (AreTooManyPaths (IsOldOr c.loop-end.self.nodes Up)) (AreTooManyPaths (IsOldOr c.args.self.now.nodes (IsUpFrom path)))
    c.in_err-number_below.field-0.0
    (many_both c.args.self.now.nodes c.loop-end.self.nodes Up Up (IsUpFrom path) (λ other up. (user, up)) (λ other up. (user, up)) c.loop-end.invariant.only)
    c.in_err-number_below.ensures.many)

pub returns-in_err-number-clause-many : goal.returns-in_err-number-clause-many
returns-in_err-number-clause-many c =
    let path : List ℕ = c.args.path.now in
    let end : ℕ = c.loop-end.end in
    let user : is_user_path path ≡ true = search rules in
    let Up : List ℕ → Type 0 = λ other. IsAtOrAbove other path in
    let Here : List ℕ → Type 0 = λ other. IsAtOrAbove other (take end path) in
    let e = err_from_is_err_and c.from_residual.result c.from_residual.ensures.1 in
    rw (e.1, e.2)
    (growth_for (AreTooManyPaths (IsOldOr c.loop-end.self.nodes Here)) (AreTooManyPaths (IsOldOr c.args.self.now.nodes (IsUpFrom path)))
    c.in_err-number.field-0.0
    (many_both c.args.self.now.nodes c.loop-end.self.nodes Up Here (IsUpFrom path) (λ other up. (user, up))
    (λ other up. (user, up_both other (take end path) path up (up_to_slash path end c.loop-end-test.true c.if-path-end-eq47.true)))
    c.loop-end.invariant.only)
    c.in_err-number.ensures.many)
