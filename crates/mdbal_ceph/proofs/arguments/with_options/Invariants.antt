use Rattle.std.proofs.Common.{◌≡◌, take}
use Rattle.clap.specs.Words.{app_of}
use Rattle.mdbal_ceph.specs.CommandLine.{with_options}
use Rattle.mdbal_ceph.proofs.arguments.with_options.Given as goal

abbrev pub invariant-loop-at : goal.invariant-loop-at
invariant-loop-at l = app_of l.command ≡ with_options (app_of l.initial.command) (take l.at l.options)
