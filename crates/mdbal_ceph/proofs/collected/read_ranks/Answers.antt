use Rattle.std.proofs.Common.{[], Err, None, ap, false, inl, refl, rules}
use Rattle.std.proofs.lemmas.Result.{err_from_is_err_and}
use Rattle.mdbal_ceph.specs.Dumps.{Dumps, all_seen, root_facts}
use Rattle.mdbal_ceph.proofs.Faults.{doubt_in, not_left}
use Rattle.mdbal_ceph.proofs.Gathered.{snapshot_of}
use Rattle.mdbal_ceph.proofs.collected.read_ranks.Goals as goal

pub returns-in-Ok-clause-ranks : goal.returns-in-Ok-clause-ranks
returns-in-Ok-clause-ranks g c =
    let ranks = rw (c.in_ok-source.ensures.files, c.in_ok-source.ensures.folder) at c.in_ok-gathering.ensures.gathered in
    let found = c.in-Ok.ensures in
    record {
      dumps = record {
        cluster = c.in_ok-ranks.field-0;
        count = c.in_ok-source.source.samples;
        ranks = ranks.0;
        numbers = c.in_ok-source.source.mounted;
        listing = None;
      };
      dumps_of = record {
        cluster = c.in_ok-ranks.ensures.cluster;
        count = c.in_ok-source.ensures.count;
        numbers = c.in_ok-source.ensures.numbers;
        ranks = ranks.1;
      };
      is = found.snapshot;
      directories = snapshot_of c.in_ok-gathering.gathering c.in-Ok.snapshot (all_seen ranks.0) (root_facts ranks.0) false false
          c.in_ok-source.source.samples [] c.in_ok-ranks.field-0.ranks ranks.2
          found.authority found.seen found.numbers (found.here (search rules)) found.owner found.there found.spread found.told found.named;
    }

pub returns-in_err-gathering-clause-failed : goal.returns-in_err-gathering-clause-failed
returns-in_err-gathering-clause-failed g c =
    let e = err_from_is_err_and c.from_residual-in_err-gathering.result c.from_residual-in_err-gathering.ensures.1 in
    let failed = rw (c.in_ok-source.ensures.files, c.in_ok-source.ensures.folder) at c.in_err-gathering.ensures.failed in
    rw (e.1, e.2)
    (failed (record { numbers_are = c.in_ok-source.ensures.numbers; count_is = c.in_ok-source.ensures.count })
    (λ rank has. (c.in_ok-ranks.field-0, c.in_ok-ranks.ensures.cluster, has)))

pub returns-clause-failed : goal.returns-clause-failed
returns-clause-failed g c =
    let reads = g.F.Folder.reads c.args.inputs.now.files.now in
    let folder = c.args.folder.now in
    let ranks = rw (c.in_ok-source.ensures.files, c.in_ok-source.ensures.folder) at c.in_ok-gathering.ensures.gathered in
    let dumps : Dumps = record {
      cluster = c.in_ok-ranks.field-0;
      count = c.in_ok-source.source.samples;
      ranks = ranks.0;
      numbers = c.in_ok-source.source.mounted;
      listing = None;
    } in
    rw c.doubt_error.ensures
    (doubt_in reads g.D.DumpReader.says g.D.DumpReader.refuses folder c.in-Err.error (λ is. c.in-Err.ensures.many (ap Err is))
    (λ path one two is. c.in-Err.ensures.twice path one two (ap Err is))
    (λ is. absurd (not_left c.in_ok-gathering.gathering.is_numbered _ ranks.2.numbered_is (c.in-Err.ensures.elsewhere (ap Err is))))
    (λ path by authority is.
    let u = c.in-Err.ensures.unclaimed path by authority (ap Err is) in
    record {
      facts = root_facts ranks.0;
      facts_are = record {
        dumps = dumps;
        ranks = record {
          cluster = c.in_ok-ranks.ensures.cluster;
          count = c.in_ok-source.ensures.count;
          numbers = c.in_ok-source.ensures.numbers;
          ranks = ranks.1;
        };
        are = inl refl;
      };
      nodes = c.in_ok-gathering.gathering.tree.nodes;
      told = ranks.2.told.told;
      placed = u.0;
      claimed = u.1;
      hearsay = c.in_ok-gathering.gathering.hearsay.items;
      heard = ranks.2.told.heard;
      is = u.2;
    }))
