use Rattle.std.proofs.Common.{◌∙◌, ◌++◌, [], All, List, None, Some, append-nil, arith, false, inl, is_some, subst, sym}
use Rattle.ceph_dumps.specs.declared.listing.ListedDir.{ListedDir}
use Rattle.ceph_snapshot.specs.Facts.{Fact, values_in}
use Rattle.ceph_snapshot.specs.Growth.{IsGrowthError}
use Rattle.ceph_snapshot.specs.Heard.{HasTold}
use Rattle.ceph_snapshot.specs.Named.{AreTooManyNamed}
use Rattle.ceph_snapshot.specs.Sightings.{PathHeat}
use Rattle.mdbal_ceph.specs.Causes.{IsHeatIn, IsReadInto}
use Rattle.mdbal_ceph.specs.Collections.{HasGathered}
use Rattle.mdbal_ceph.specs.Dumps.{listed_facts}
use Rattle.std.proofs.lemmas.Result.{err_from_is_err_and}
use Rattle.mdbal_ceph.proofs.Faults.{growth_in, growth_of, listing_there, many_told_in, numbers_there, read_adds}
use Rattle.mdbal_ceph.proofs.collected.add_listing.Goals as goal

pub returns-clause-added : goal.returns-clause-added
returns-clause-added g c = λ seen facts was.
    let numbers = c.in_ok-add_numbers.ensures.added seen facts was in
    let before : List Fact = facts ++ listed_facts c.args.source.now.mounted in (
      Some c.in-Some.listing.items,
      rw c.in-Some.is at c.in_ok-listing.ensures.listing,
      record {
        seen_is = c.add_listing.ensures.seen ∙ numbers.seen_is;
        told = subst (λ (those : List ListedDir). HasTold c.add_listing.new.self (before ++ values_in those)) c.as_slice.ensures.value
            (c.in_ok-add_listing.ensures.told before numbers.told);
        listed_is = c.in_ok-add_listing.ensures.listed;
        numbered_is = c.add_listing.ensures.numbered ∙ numbers.numbered_is;
      },
    )

pub returns-in_default-clause-added : goal.returns-in_default-clause-added
returns-in_default-clause-added g c = λ seen facts was.
    let before : List Fact = facts ++ listed_facts c.args.source.now.mounted in (
      None,
      rw c.in_default.is at c.in_ok-listing.ensures.listing,
      subst (λ (told : List Fact). HasGathered seen told false (is_some c.args.source.now.mounted) c.add_numbers.new.gathering) (sym (append-nil before))
          (c.in_ok-add_numbers.ensures.added seen facts was),
    )

pub returns-in_err-add_numbers-clause-failed : goal.returns-in_err-add_numbers-clause-failed
returns-in_err-add_numbers-clause-failed g c = λ read.
    let reads = g.F.Folder.reads c.args.source.now.files.now in
    let says = g.D.DumpReader.says in
    let refuses = g.D.DumpReader.refuses in
    let folder = c.args.source.now.folder.now in
    let numbers = c.args.source.now.mounted in
    let many : Type 0 = AreTooManyNamed c.args.gathering.now.tree.seen (read.facts ++ listed_facts numbers) in
    let e = err_from_is_err_and c.from_residual.result c.from_residual.ensures.1 in
    rw (e.1, e.2)
    (growth_in reads says refuses folder many _
    (λ so. inl (many_told_in reads says refuses folder numbers c.args.source.now.samples c.args.gathering.now (listed_facts numbers) read
    (numbers_there reads says refuses folder numbers) so))
    (c.in_err-add_numbers.ensures.failed read.facts read.told))

pub returns-in_err-listing-clause-failed : goal.returns-in_err-listing-clause-failed
returns-in_err-listing-clause-failed g c = λ read.
    let e = err_from_is_err_and c.from_residual-in_err-listing.result c.from_residual-in_err-listing.ensures.1 in
    rw (e.1, e.2) c.in_err-listing.ensures.failed

pub returns-in_err-add_listing-clause-failed : goal.returns-in_err-add_listing-clause-failed
returns-in_err-add_listing-clause-failed g c = λ read.
    let reads = g.F.Folder.reads c.args.source.now.files.now in
    let says = g.D.DumpReader.says in
    let refuses = g.D.DumpReader.refuses in
    let folder = c.args.source.now.folder.now in
    let numbers = c.args.source.now.mounted in
    let count = c.args.source.now.samples in
    let listing : List ListedDir = c.in-Some.listing.items in
    let seen : List PathHeat = c.add_numbers.new.gathering.tree.seen in
    let none : All (IsHeatIn reads says refuses folder numbers) [] = λ k d l. absurd (omega (arith, l)) in
    let numbered : IsReadInto reads says refuses folder numbers count c.add_numbers.new.gathering =
    read_adds reads says refuses folder numbers count c.args.gathering.now c.add_numbers.new.gathering [] (listed_facts numbers) read
    (c.add_numbers.ensures.seen ∙ sym (append-nil c.args.gathering.now.tree.seen)) c.in_ok-add_numbers.ensures.told none
    (numbers_there reads says refuses folder numbers) in
    let many : Type 0 = AreTooManyNamed seen (numbered.facts ++ values_in listing) in
    let is : IsGrowthError many c.in_err-add_listing.field-0.0 =
    subst (λ (those : List ListedDir). IsGrowthError (AreTooManyNamed seen (numbered.facts ++ values_in those)) c.in_err-add_listing.field-0.0)
    c.as_slice.ensures.value (c.in_err-add_listing.ensures.many numbered.facts numbered.told) in
    let e = err_from_is_err_and c.from_residual-in_err-add_listing.result c.from_residual-in_err-add_listing.ensures.1 in
    rw (e.1, e.2)
    (growth_in reads says refuses folder many _
    (λ so. inl (many_told_in reads says refuses folder numbers count c.add_numbers.new.gathering (values_in listing) numbered
    (listing_there reads says refuses folder numbers listing (rw c.in-Some.is at c.in_ok-listing.ensures.listing)) so))
    (growth_of many _ is))
