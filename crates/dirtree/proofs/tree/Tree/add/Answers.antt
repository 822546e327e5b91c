use Rattle.std.proofs.Common.{◌≡◌, refl, arith, length}
use Rattle.std.proofs.lemmas.List.{get_or_read}
use Rattle.dirtree.specs.declared.node.Node.{Node}
use Rattle.dirtree.specs.Keeps.{chain_of, head_at}
use Rattle.dirtree.proofs.Made.{sound_made}
use Rattle.dirtree.proofs.tree.Tree.add.Goals as goal

pub invariant_of-self : goal.invariant_of-self
invariant_of-self c = rw c.in_err-reserve.ensures.items c.self.invariant

pub invariant_of-self-2 : goal.invariant_of-self-2
invariant_of-self-2 c =
    let n : Node = record { name = c.in_ok-new.field-0; parent = c.number-2.result; inodes = c.args.inodes; children = 0; next = c.index.result.now } in
    let count : c.len-number.result ≡ length c.self.inside.nodes.items = omega (arith, c.len-number.ensures, c.self.inside.nodes.ok.0) in
    let leads : c.index.result.now ≡ head_at c.self.inside.heads.items c.chain-chain.result =
    get_or_read c.self.inside.heads.items _ _ (omega (arith, c.self.invariant.wide, c.chain-chain.ensures.below)) c.index.ensures 0 in
    let chain : c.chain-chain.result ≡ chain_of c.self.inside.hasher c.args.parent c.args.name.now = rw c.number.ensures at c.chain-chain.ensures.value in
    sound_made c.self.inside.limit c.self.inside.hasher c.self.inside.nodes.items c.reserve.new.self.items c.count_child.new.nodes.items
    c.push_reserved.new.self.items c.self.inside.heads.items n
    c.args.self.now c.args.parent c.number-3.result c.chain-chain.result c.len-number.result c.args.name.now
    c.self.invariant c.self.view_is c.requires c.number-2.ensures c.in_ok-new.ensures.same refl leads chain c.chain-chain.ensures.below
    count c.in_ok-reserve.ensures.items c.number-3.ensures c.count_child.ensures.entries c.count_child.ensures.children
    c.count_child.ensures.nexts c.push_reserved.ensures.items
