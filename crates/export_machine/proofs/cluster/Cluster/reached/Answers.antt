use Rattle.std.proofs.Common.{◌≤◌, length, subst}
use Rattle.export_protocol.specs.View.{IsReached}
use Rattle.export_machine.specs.Kept.{State}
use Rattle.export_machine.proofs.cluster.Cluster.reached.Goals as goal

pub returns-clause-reached : goal.returns-clause-reached
returns-clause-reached c = subst (λ (s : State). IsReached s.world) c.self.view_is c.self.invariant.reached

pub returns-clause-few_events : goal.returns-clause-few_events
returns-clause-few_events c = subst (λ (s : State). s.world.events ≤ 1048576) c.self.view_is c.self.invariant.counted

pub returns-clause-numbers : goal.returns-clause-numbers
returns-clause-numbers c = subst (λ (s : State). length s.world.parents ≤ s.world.limit) c.self.view_is c.self.invariant.within

pub returns-clause-few_dirs : goal.returns-clause-few_dirs
returns-clause-few_dirs c = subst (λ (s : State). s.world.limit ≤ 65536) c.self.view_is c.self.invariant.few_dirs

pub returns-clause-few_ranks : goal.returns-clause-few_ranks
returns-clause-few_ranks c = subst (λ (s : State). s.world.ranks ≤ 64) c.self.view_is c.self.invariant.few_ranks
