use Rattle.std.proofs.Common.{All, Err, List, ap, inl, inr, is_some, refl, rules, subst}
use Rattle.std.proofs.lemmas.Result.{err_from_is_err_and}
use Rattle.ceph_dumps.specs.declared.own_list.OwnPin.{OwnPin}
use Rattle.mdbal_ceph.specs.Collections.{HasOwner, IsSnapshotOf}
use Rattle.mdbal_ceph.proofs.Faults.{doubt_in}
use Rattle.mdbal_ceph.specs.Dumps.{AreRanksOf, Dumps, all_facts, all_seen, root_facts}
use Rattle.mdbal_ceph.proofs.Gathered.{snapshot_of}
use Rattle.mdbal_ceph.proofs.Ours.{owners}
use Rattle.mdbal_ceph.proofs.collected.read_collected.Goals as goal

pub returns-clause-collected : goal.returns-clause-collected
returns-clause-collected g c =
    let ranks = rw (c.in_ok-source.ensures.files, c.in_ok-source.ensures.folder) at c.in_ok-gathering.ensures.gathered in
    let listing = rw (c.in_ok-source.ensures.files, c.in_ok-source.ensures.folder) at
    (c.in_ok-add_listing.ensures.added (all_seen ranks.0) (root_facts ranks.0) ranks.2) in
    let found = c.in-Ok.ensures in
    let dumps : Dumps = record {
      cluster = c.in_ok-cluster.cluster;
      count = c.in_ok-source.source.samples;
      ranks = ranks.0;
      numbers = c.in_ok-source.source.mounted;
      listing = listing.0;
    } in
    record {
      dumps = dumps;
      dumps_of = record {
        ranks = record {
          cluster = c.in_ok-cluster.ensures.cluster;
          count = c.in_ok-source.ensures.count;
          numbers = c.in_ok-source.ensures.numbers;
          ranks = ranks.1;
        };
        listing = listing.1;
      };
      file_system = c.in_ok-file_system.ensures.of;
      cluster = refl;
      balancer = c.in_ok-balances.ensures.balancer;
      samples = refl;
      own_of = c.in_ok-own.ensures.own;
      is = found.snapshot;
      directories =
          subst (λ (own : List OwnPin). IsSnapshotOf (all_seen ranks.0) (all_facts dumps) (is_some listing.0)
          (is_some c.in_ok-source.source.mounted) c.in_ok-source.source.samples own c.in_ok-cluster.cluster.ranks c.in-Ok.snapshot)
          c.listed.ensures
          (snapshot_of c.add_listing.new.gathering c.in-Ok.snapshot (all_seen ranks.0) (all_facts dumps) (is_some listing.0)
          (is_some c.in_ok-source.source.mounted) c.in_ok-source.source.samples c.listed.result.now
          c.in_ok-cluster.cluster.ranks listing.2 found.authority found.seen found.numbers (found.here (search rules)) found.owner
          found.there found.spread found.told found.named);
    }

pub returns-clause-ours : goal.returns-clause-ours
returns-clause-ours g c =
    subst (λ (pins : List OwnPin). All (HasOwner pins c.in_ok-cluster.cluster.ranks) c.in-Ok.snapshot.directories.items) c.listed.ensures
    (owners c.listed.result.now c.in_ok-cluster.cluster.ranks c.in-Ok.snapshot.directories.items c.add_listing.new.gathering.tree.nodes c.in-Ok.ensures.owner)

pub returns-in_err-file_system-clause-failed : goal.returns-in_err-file_system-clause-failed
returns-in_err-file_system-clause-failed g c =
    let e = err_from_is_err_and c.from_residual.result c.from_residual.ensures.1 in
    rw (e.1, e.2) (inl c.in_err-file_system.ensures.failed)

pub returns-in_err-cluster-clause-failed : goal.returns-in_err-cluster-clause-failed
returns-in_err-cluster-clause-failed g c =
    let e = err_from_is_err_and c.from_residual-in_err-cluster.result c.from_residual-in_err-cluster.ensures.1 in
    rw (e.1, e.2) (inl c.in_err-cluster.ensures.failed)

pub returns-in_err-balances-clause-failed : goal.returns-in_err-balances-clause-failed
returns-in_err-balances-clause-failed g c =
    let e = err_from_is_err_and c.from_residual-in_err-balances.result c.from_residual-in_err-balances.ensures.1 in
    rw (e.1, e.2) (inl c.in_err-balances.ensures.failed)

pub returns-in_err-source-clause-failed : goal.returns-in_err-source-clause-failed
returns-in_err-source-clause-failed g c =
    let e = err_from_is_err_and c.from_residual-in_err-source.result c.from_residual-in_err-source.ensures.1 in
    rw (e.1, e.2) (inl c.in_err-source.ensures.failed)

pub returns-in_err-gathering-clause-failed : goal.returns-in_err-gathering-clause-failed
returns-in_err-gathering-clause-failed g c =
    let e = err_from_is_err_and c.from_residual-in_err-gathering.result c.from_residual-in_err-gathering.ensures.1 in
    rw (e.1, e.2) (inl ((rw (c.in_ok-source.ensures.files, c.in_ok-source.ensures.folder) at c.in_err-gathering.ensures.failed)
    (record { numbers_are = c.in_ok-source.ensures.numbers; count_is = c.in_ok-source.ensures.count })
    (λ rank has. (c.in_ok-cluster.cluster, c.in_ok-cluster.ensures.cluster, has))))

pub returns-in_err-add_listing-clause-failed : goal.returns-in_err-add_listing-clause-failed
returns-in_err-add_listing-clause-failed g c =
    let e = err_from_is_err_and c.from_residual-in_err-add_listing.result c.from_residual-in_err-add_listing.ensures.1 in
    let read = rw (c.in_ok-source.ensures.files, c.in_ok-source.ensures.folder) at c.in_ok-gathering.ensures.read in
    let failed = rw (c.in_ok-source.ensures.files, c.in_ok-source.ensures.folder) at c.in_err-add_listing.ensures.failed in
    rw (e.1, e.2) (inl (failed (read (record { numbers_are = c.in_ok-source.ensures.numbers; count_is = c.in_ok-source.ensures.count })
    (λ rank has. (c.in_ok-cluster.cluster, c.in_ok-cluster.ensures.cluster, has)))))

pub returns-in_err-own-clause-failed : goal.returns-in_err-own-clause-failed
returns-in_err-own-clause-failed g c =
    let e = err_from_is_err_and c.from_residual-in_err-own.result c.from_residual-in_err-own.ensures.1 in
    rw (e.1, e.2) (inr c.in_err-own.ensures.failed)

pub returns-in-Err-clause-failed : goal.returns-in-Err-clause-failed
returns-in-Err-clause-failed g c =
    let reads = g.F.Folder.reads c.args.inputs.now.files.now in
    let folder = c.args.folder.now in
    let ranks = rw (c.in_ok-source.ensures.files, c.in_ok-source.ensures.folder) at c.in_ok-gathering.ensures.gathered in
    let listing = rw (c.in_ok-source.ensures.files, c.in_ok-source.ensures.folder) at
    (c.in_ok-add_listing.ensures.added (all_seen ranks.0) (root_facts ranks.0) ranks.2) in
    let dumps : Dumps = record {
      cluster = c.in_ok-cluster.cluster;
      count = c.in_ok-source.source.samples;
      ranks = ranks.0;
      numbers = c.in_ok-source.source.mounted;
      listing = listing.0;
    } in
    let ranks_of : AreRanksOf reads g.D.DumpReader.says folder dumps = record {
      cluster = c.in_ok-cluster.ensures.cluster;
      count = c.in_ok-source.ensures.count;
      numbers = c.in_ok-source.ensures.numbers;
      ranks = ranks.1;
    } in
    rw c.doubt_error.ensures
    (inl (doubt_in reads g.D.DumpReader.says g.D.DumpReader.refuses folder c.in-Err.error (λ is. c.in-Err.ensures.many (ap Err is))
    (λ path one two is. c.in-Err.ensures.twice path one two (ap Err is))
    (λ is. record {
      dumps = dumps;
      dumps_of = record { ranks = ranks_of; listing = listing.1 };
      nodes = c.add_listing.new.gathering.tree.nodes;
      told = listing.2.told.told;
      left = rw (listing.2.seen_is, listing.2.numbered_is) at (c.in-Err.ensures.elsewhere (ap Err is));
    })
    (λ path by authority is.
    let u = c.in-Err.ensures.unclaimed path by authority (ap Err is) in
    record {
      facts = all_facts dumps;
      facts_are = record { dumps = dumps; ranks = ranks_of; are = inr (record { ranks = ranks_of; listing = listing.1 }, refl) };
      nodes = c.add_listing.new.gathering.tree.nodes;
      told = listing.2.told.told;
      placed = u.0;
      claimed = u.1;
      hearsay = c.add_listing.new.gathering.hearsay.items;
      heard = listing.2.told.heard;
      is = u.2;
    })))
