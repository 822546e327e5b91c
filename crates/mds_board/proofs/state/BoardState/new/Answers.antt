use Rattle.std.proofs.Common.{None, refl, arith}
use Rattle.std.proofs.lemmas.List.{length-replicate}
use Rattle.export_protocol.specs.Step as machine
use Rattle.mds_board.proofs.Fitting.{none_begun}
use Rattle.mds_board.proofs.Mapping.{first_mapped}
use Rattle.mds_board.proofs.state.BoardState.new.Goals as goal

pub invariant_of-state : goal.invariant_of-state
unfolding machine.start
invariant_of-state g c =
    let tree = c.in-Ok.ensures.tree in
    let pins = c.in-Ok.ensures.pins in
    let heat = c.in-Ok.ensures.heat in
    let cluster = c.in-Ok.ensures.cluster in
    let root = c.in-Ok-publish_root.ensures.published in (
      record {
        few_ticks = rw heat (omega arith);
        pins_limit = rw (pins, tree) (length-replicate c.args.limit None);
        heats_limit = rw (heat, tree) refl;
        parents = rw (cluster, tree) refl;
        cluster_limit = rw (cluster, tree) refl;
        ranks = rw (cluster, pins) refl;
        few_begun = λ d. rw c.in-Ok-open.ensures.book (none_begun c.args.limit d);
        mapped = λ d. rw (root.0, root.1, cluster) (first_mapped c.args.limit c.args.active d);
      },
      rw tree c.requires.limit,
    )
