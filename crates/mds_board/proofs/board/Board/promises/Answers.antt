use Rattle.std.proofs.Common.{subst}
use Rattle.export_protocol.specs.Promises.{OneAuthority, Promised}
use Rattle.mds_board.specs.History.{World}
use Rattle.mds_board.specs.Promises.{AdoptsBest, AdoptsCoolest, IsKept}
use Rattle.mds_board.specs.State.{start}
use Rattle.mds_board.proofs.Begun.{begun_in}
use Rattle.mds_board.proofs.Headline.{adopts_best, adopts_coolest, cluster_ran, opens_directories}
use Rattle.mds_board.proofs.board.Board.promises.Goals as goal

pub returns-clause-kept : goal.returns-clause-kept
returns-clause-kept g c =
    subst (λ (w : World). IsKept w) c.self.view_is
    (record {
      replay = c.self.invariant.replay;
      problems = opens_directories _ _ _ _ c.self.invariant.replay;
      plans = adopts_best _ _ _ _ c.self.invariant.replay;
      cluster = cluster_ran _ _ _ c.self.invariant.replay;
      promised = subst (λ w. Promised w) c.cluster.ensures c.promised.ensures;
      begun = begun_in _ _ _ _ c.self.invariant.some_dir c.self.invariant.some_rank c.self.invariant.replay;
      fitting = c.fits.ensures.fitting;
      published = c.fits.ensures.published;
    })

pub returns-clause-best : goal.returns-clause-best
returns-clause-best g c =
    subst (λ (w : World). AdoptsBest w.history) c.self.view_is (adopts_best _ _ _ _ c.self.invariant.replay)

pub returns-clause-coolest : goal.returns-clause-coolest
returns-clause-coolest g c =
    subst (λ (w : World). AdoptsCoolest (start w.state.directories.limit w.state.pins.active) w.history) c.self.view_is
    (adopts_coolest _ _ (opens_directories _ _ _ _ c.self.invariant.replay) (adopts_best _ _ _ _ c.self.invariant.replay))

pub returns-clause-authority : goal.returns-clause-authority
returns-clause-authority g c =
    subst (λ (w : World). OneAuthority w.state.cluster) c.self.view_is
    (subst (λ w. OneAuthority w) c.cluster.ensures c.promised.ensures.authority)
