use Rattle.std.proofs.Common.{◌≡◌, ◌≢◌, ◌∙◌, ◌<◌, ◌++◌, ◌∷◌, [], ℕ, List, IsErrOf, ap, arith, get_or, length, rules, subst, sym, take, ⊎_elim}
use Rattle.std.proofs.lemmas.Bool.{cases_eq}
use Rattle.std.proofs.lemmas.List.{get_or_read, take_all}
use Rattle.std.proofs.lemmas.Result.{err_from_is_err_and}
use Rattle.ceph_dumps.specs.declared.subtrees.SubtreeRoot.{SubtreeRoot}
use Rattle.ceph_snapshot.specs.Authority.{IsClaim, is_user_path}
use Rattle.ceph_snapshot.specs.Facts.{Fact, Root, roots_in}
use Rattle.ceph_snapshot.specs.Heard.{HasTold}
use Rattle.ceph_snapshot.specs.declared.snapshot_error.SnapshotError.TheVariants.{TwoClaims}
use Rattle.ceph_snapshot.proofs.Heard.{claims_before}
use Rattle.ceph_snapshot.specs.Named.{AreTooManyNamed}
use Rattle.ceph_snapshot.proofs.Growth.{claim_for}
use Rattle.ceph_snapshot.proofs.Named.{many_told}
use Rattle.ceph_snapshot.proofs.Told.{filtered_more}
use Rattle.ceph_snapshot.proofs.gathering.Gathering.add_subtrees.Goals as goal

pub returns-in_err-add_subtree-clause-twice : goal.returns-in_err-add_subtree-clause-twice
returns-in_err-add_subtree-clause-twice c = λ facts before path first second is.
    let roots : List SubtreeRoot = c.args.roots.now in
    let at : ℕ = c.loop-root.root-index in
    let so_far : List SubtreeRoot = take at roots in
    let twice : IsErrOf c.add_subtree.result (TwoClaims path first second) = search rules in
    let inside : at < length roots = omega (arith, c.loop-root-test.true) in
    let told = c.add_subtree.ensures.twice (facts ++ roots_in c.args.rank so_far) (c.loop-root.invariant.told facts before) path first second twice in (
      c.root-item.result,
      (at, (inside, c.root-item.is)),
      record {
        here = told.here;
        fragment = told.fragment;
        named = told.named;
        first_of = claims_before facts c.args.rank so_far first told.fragment told.other told.first_of;
        other = told.other;
        second_of = told.second_of;
        path_of = told.path_of;
      },
    )

pub loop-root-preserved : goal.loop-root-preserved
loop-root-preserved c =
    let roots : List SubtreeRoot = c.args.roots.now in
    let at : ℕ = c.loop-root.root-index in
    let inside : at < length roots = omega (arith, c.loop-root-test.true) in
    record {
      claimed = λ k d l fragment claim.
          ⊎_elim
          (λ (same : k ≡ at).
          let is : get_or roots k d ≡ c.root-item.result = ap (λ (j : ℕ). get_or roots j d) same
          ∙ sym (get_or_read roots at c.root-item.result inside c.root-item.is d) in
          c.in_ok-add_subtree.ensures.claimed fragment (subst (λ (root : SubtreeRoot). IsClaim root fragment) is claim))
          (λ (other : k ≢ at). c.in_ok-add_subtree.ensures.kept fragment c.args.rank
          (c.loop-root.invariant.claimed k d (omega (arith, other, l)) fragment claim))
          (cases_eq k at);
      kept = λ fragment other before. c.in_ok-add_subtree.ensures.kept fragment other (c.loop-root.invariant.kept fragment other before);
      seen = c.add_subtree.ensures.seen ∙ c.loop-root.invariant.seen;
      told = λ facts before.
          subst (HasTold c.add_subtree.new.self)
          (filtered_more (Root c.args.rank) (λ root. is_user_path root.path.items) facts roots at c.root-item.result inside c.root-item.is)
          (c.in_ok-add_subtree.ensures.told (facts ++ roots_in c.args.rank (take at roots)) (c.loop-root.invariant.told facts before));
      listed = c.add_subtree.ensures.listed ∙ c.loop-root.invariant.listed;
      numbered = c.add_subtree.ensures.numbered ∙ c.loop-root.invariant.numbered;
    }

pub returns-clause-claimed : goal.returns-clause-claimed
returns-clause-claimed c = λ k d l fragment claim.
    c.loop-root.invariant.claimed k d (omega (arith, l, c.loop-root-test.false, c.loop-root.auto.root-index-end)) fragment claim

pub returns-clause-told : goal.returns-clause-told
returns-clause-told c =
    subst (λ (those : List SubtreeRoot). (facts : List Fact) → HasTold c.args.self.now facts → HasTold c.loop-root.self (facts ++ roots_in c.args.rank those))
    (take_all c.loop-root.root-index c.args.roots.now c.loop-root-test.false) c.loop-root.invariant.told

pub returns-in_err-add_subtree-clause-many : goal.returns-in_err-add_subtree-clause-many
returns-in_err-add_subtree-clause-many c = λ facts before.
    let roots : List SubtreeRoot = c.args.roots.now in
    let rank : ℕ = c.args.rank in
    let at : ℕ = c.loop-root.root-index in
    let one : SubtreeRoot = c.root-item.result in
    let inside : at < length roots = omega (arith, c.loop-root-test.true) in
    let so_far : List Fact = facts ++ roots_in rank (take at roots) in
    let e = err_from_is_err_and c.from_residual.result c.from_residual.ensures.1 in
    rw (e.1, e.2)
    (claim_for (AreTooManyNamed c.loop-root.self.tree.seen (so_far ++ roots_in rank (one ∷ [])))
    (AreTooManyNamed c.args.self.now.tree.seen (facts ++ roots_in rank roots)) c.in_err-add_subtree.field-0.0
    (many_told (Root rank) (λ root. is_user_path root.path.items) c.args.self.now.tree.seen c.loop-root.self.tree.seen facts roots at one inside
    c.root-item.is c.loop-root.invariant.seen)
    (c.in_err-add_subtree.ensures.many so_far (c.loop-root.invariant.told facts before)))
