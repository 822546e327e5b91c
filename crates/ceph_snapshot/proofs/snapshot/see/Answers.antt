use Rattle.std.proofs.Common.{◌≡◌, ◌<◌, ◌≤◌, List, Some, arith, length, refl, slice_get, ⊎_elim}
use Rattle.std.proofs.lemmas.Bool.{cases_lt, false≢true}
use Rattle.std.proofs.lemmas.Option.{slice_get_read}
use Rattle.ceph_snapshot.specs.declared.tree.Node.{Node}
use Rattle.ceph_snapshot.specs.Sightings.{position_of}
use Rattle.ceph_snapshot.proofs.Placing.{set-same}
use Rattle.ceph_snapshot.proofs.Sighted.{account_past, account_set}
use Rattle.ceph_snapshot.proofs.snapshot.see.Goals as goal

pub returns-in-Some-clause-account : goal.returns-in-Some-clause-account
returns-in-Some-clause-account c =
    let nodes : List Node = c.args.nodes.now.items in
    let inside : c.args.seen.directory < length nodes = omega (arith, c.in-Some.ensures.variant.0 refl, c.args.nodes.now.ok.0) in
    let read : slice_get nodes c.args.seen.directory ≡ Some c.in-Some.node.now =
    slice_get_read nodes (length nodes) c.args.seen.directory c.in-Some.node.now refl inside c.in-Some.ensures.value in
    account_set nodes c.args.seen c.in-Some.node.now c.sight.new.node inside read c.sight.ensures.account

pub returns-in-Some-clause-place : goal.returns-in-Some-clause-place
returns-in-Some-clause-place c =
    let nodes : List Node = c.args.nodes.now.items in
    let inside : c.args.seen.directory < length nodes = omega (arith, c.in-Some.ensures.variant.0 refl, c.args.nodes.now.ok.0) in
    let read : slice_get nodes c.args.seen.directory ≡ Some c.in-Some.node.now =
    slice_get_read nodes (length nodes) c.args.seen.directory c.in-Some.node.now refl inside c.in-Some.ensures.value in
    set-same (λ (n : Node). position_of n.directory) nodes c.args.seen.directory c.in-Some.node.now c.sight.new.node inside read c.sight.ensures.place

pub returns-in-None-clause-account : goal.returns-in-None-clause-account
returns-in-None-clause-account c =
    let nodes : List Node = c.args.nodes.now.items in
    let past : length nodes ≤ c.args.seen.directory =
    ⊎_elim (λ (l : c.args.seen.directory < length nodes). absurd
    (false≢true (c.in-None.ensures.variant.1 (omega (arith, l, c.args.nodes.now.ok.0)))))
    (λ (far : length nodes ≤ c.args.seen.directory). far) (cases_lt c.args.seen.directory (length nodes)) in
    account_past nodes c.args.seen past
