use Rattle.std.proofs.Common.{◌∙◌, ◌<◌, ◌++◌, ◌∷◌, [], List, arith, length, take, subst}
use Rattle.std.proofs.lemmas.List.{take_all}
use Rattle.std.proofs.lemmas.Result.{err_from_is_err_and}
use Rattle.ceph_dumps.specs.declared.listing.ListedDir.{ListedDir}
use Rattle.ceph_snapshot.specs.Authority.{is_user_path}
use Rattle.ceph_snapshot.specs.Facts.{Fact, Value, values_in}
use Rattle.ceph_snapshot.specs.Heard.{HasTold}
use Rattle.ceph_snapshot.specs.Named.{AreTooManyNamed}
use Rattle.ceph_snapshot.proofs.Growth.{growth_for}
use Rattle.ceph_snapshot.proofs.Named.{many_told}
use Rattle.ceph_snapshot.proofs.Told.{filtered_more}
use Rattle.ceph_snapshot.proofs.gathering.Gathering.add_values.Goals as goal

pub loop-listed-preserved : goal.loop-listed-preserved
loop-listed-preserved c =
    let listing : List ListedDir = c.args.listing.now in
    let at = c.loop-listed.listed-index in
    let inside : at < length listing = omega (arith, c.loop-listed-test.true) in
    record {
      claims = c.add_value.ensures.claims ∙ c.loop-listed.invariant.claims;
      seen = c.add_value.ensures.seen ∙ c.loop-listed.invariant.seen;
      told = λ facts before.
          subst (HasTold c.add_value.new.self)
          (filtered_more Value (λ dir. is_user_path dir.path.items) facts listing at c.listed-item.result inside c.listed-item.is)
          (c.in_ok-add_value.ensures.told (facts ++ values_in (take at listing)) (c.loop-listed.invariant.told facts before));
      listed = c.add_value.ensures.listed ∙ c.loop-listed.invariant.listed;
      numbered = c.add_value.ensures.numbered ∙ c.loop-listed.invariant.numbered;
    }

pub returns-clause-told : goal.returns-clause-told
returns-clause-told c =
    subst (λ (those : List ListedDir). (facts : List Fact) → HasTold c.args.self.now facts → HasTold c.loop-listed.self (facts ++ values_in those))
    (take_all c.loop-listed.listed-index c.args.listing.now c.loop-listed-test.false) c.loop-listed.invariant.told

pub returns-in_err-add_value-clause-many : goal.returns-in_err-add_value-clause-many
returns-in_err-add_value-clause-many c = λ facts before.
    let listing : List ListedDir = c.args.listing.now in
    let at = c.loop-listed.listed-index in
    let one : ListedDir = c.listed-item.result in
    let inside : at < length listing = omega (arith, c.loop-listed-test.true) in
    let so_far : List Fact = facts ++ values_in (take at listing) in
    let e = err_from_is_err_and c.from_residual.result c.from_residual.ensures.1 in
    rw (e.1, e.2)
    (growth_for (AreTooManyNamed c.loop-listed.self.tree.seen (so_far ++ values_in (one ∷ [])))
    (AreTooManyNamed c.args.self.now.tree.seen (facts ++ values_in listing)) c.in_err-add_value.field-0.0
    (many_told Value (λ dir. is_user_path dir.path.items) c.args.self.now.tree.seen c.loop-listed.self.tree.seen facts listing at one inside
    c.listed-item.is c.loop-listed.invariant.seen)
    (c.in_err-add_value.ensures.many so_far (c.loop-listed.invariant.told facts before)))
