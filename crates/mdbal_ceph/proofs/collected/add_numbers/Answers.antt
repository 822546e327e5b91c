use Rattle.std.proofs.Common.{◌≡◌, ◌∙◌, ◌++◌, List, None, Option, Some, append-nil, false, is_some, rules, subst, sym}
use Rattle.ceph_dumps.specs.declared.listing.ListedDir.{ListedDir}
use Rattle.ceph_snapshot.specs.Growth.{IsGrowthError}
use Rattle.ceph_snapshot.specs.Heard.{HasTold}
use Rattle.ceph_snapshot.specs.Named.{AreTooManyNamed}
use Rattle.ceph_snapshot.specs.Sightings.{PathHeat}
use Rattle.mdbal_ceph.specs.Collections.{HasGathered}
use Rattle.mdbal_ceph.specs.Dumps.{listed_facts}
use Rattle.std.proofs.lemmas.Result.{err_from_is_err_and}
use Rattle.mdbal_ceph.proofs.Faults.{growth_of}
use Rattle.mdbal_ceph.proofs.collected.add_numbers.Goals as goal

pub returns-clause-added : goal.returns-clause-added
returns-clause-added g c = λ seen facts was.
    let is : c.args.source.now.mounted ≡ Some c.listing.result.now = search rules in
    subst (λ (listed : Option (List ListedDir)). HasGathered seen (facts ++ listed_facts listed) false (is_some listed) c.add_numbers.new.self) (sym is)
    (record {
      seen_is = c.add_numbers.ensures.seen ∙ was.seen_is;
      told = c.in_ok-add_numbers.ensures.told facts was.told;
      listed_is = c.add_numbers.ensures.listed ∙ was.listed_is;
      numbered_is = c.in_ok-add_numbers.ensures.numbered;
    })

pub returns-clause-told : goal.returns-clause-told
returns-clause-told g c = λ facts was.
    let is : c.args.source.now.mounted ≡ Some c.listing.result.now = search rules in
    subst (λ (listed : Option (List ListedDir)). HasTold c.add_numbers.new.self (facts ++ listed_facts listed)) (sym is)
    (c.in_ok-add_numbers.ensures.told facts was)

pub returns-in_default-clause-told : goal.returns-in_default-clause-told
returns-in_default-clause-told g c = λ facts was.
    let is : c.args.source.now.mounted ≡ None = search rules in
    subst (λ (listed : Option (List ListedDir)). HasTold c.args.gathering.now (facts ++ listed_facts listed)) (sym is)
    (subst (HasTold c.args.gathering.now) (sym (append-nil facts)) was)

pub returns-in_err-add_numbers-clause-failed : goal.returns-in_err-add_numbers-clause-failed
returns-in_err-add_numbers-clause-failed g c = λ facts was.
    let seen : List PathHeat = c.args.gathering.now.tree.seen in
    let is : c.args.source.now.mounted ≡ Some c.listing.result.now = search rules in
    let many : Type 0 = AreTooManyNamed seen (facts ++ listed_facts c.args.source.now.mounted) in
    let e = err_from_is_err_and c.from_residual.result c.from_residual.ensures.1 in
    rw (e.1, e.2)
    (growth_of many _
    (subst (λ (listed : Option (List ListedDir)). IsGrowthError (AreTooManyNamed seen (facts ++ listed_facts listed)) c.in_err-add_numbers.field-0.0) (sym is)
    (c.in_err-add_numbers.ensures.many facts was)))
