use Rattle.rank_threads.proofs.Stops.{met_now, told_now}
use Rattle.rank_threads.proofs.stopping.Stopping.stop.Goals as goal

pub returns-clause-told : goal.returns-clause-told
returns-clause-told g c =
    told_now g.K.Phase.before c.stop-stopped.new.known.seen c.args.rank c.stop-stopped.result c.refusal_told-self.result
    c.stop-stopped.ensures.stopped c.stop-stopped.ensures.refused c.refusal_told-self.ensures.next

pub returns-clause-met : goal.returns-clause-met
returns-clause-met g c =
    met_now g.K.Phase.before c.stop-stopped.new.known.seen c.args.rank c.args.self.now.told c.stop-stopped.result c.refusal_told-self.result
    c.refusal_told-self.ensures.either c.stop-stopped.ensures.refused
