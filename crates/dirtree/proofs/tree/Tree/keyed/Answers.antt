use Rattle.std.proofs.Common.{[], ◌∷◌, Some, ◌≡◌, replicate, ◌∙◌, List, ℕ, length, ap, refl}
use Rattle.std.proofs.lemmas.List.{length-replicate}
use Rattle.dirtree.specs.declared.node.Node.{Node}
use Rattle.dirtree.specs.Tree.{Entry, root}
use Rattle.dirtree.specs.Keeps.{entry_of, head_at}
use Rattle.dirtree.proofs.Rooted.{sound_root, zero_at}
use Rattle.dirtree.proofs.tree.Tree.keyed.Goals as goal

rooted : (n : Node) → n.parent ≡ 0 → n.inodes ≡ 1 → n.name ≡ [] → entry_of n ≡ root
rooted n parent inodes name = rw (parent, inodes, name) refl

pub invariant_of-result : goal.invariant_of-result
invariant_of-result c =
    let n : Node = record { name = c.empty.result; parent = 0; inodes = 1; children = 0; next = 0 } in
    let zeros : c.in_ok-vec.field-0.items ≡ replicate 131072 0 = c.in_ok-vec.ensures.items_if_clones_equal (λ y same. same) in
    rw (c.in_ok-push.ensures.items, c.new-nodes.ensures.items)
    (sound_root c.args.limit c.hasher.result n c.in_ok-vec.field-0.items c.requires.low c.requires.high (rooted n refl refl c.empty.ensures) refl
    (ap (λ (hs : List ℕ). length hs) zeros ∙ length-replicate {A = ℕ} 131072 0)
    (λ chain. ap (λ (hs : List ℕ). head_at hs chain) zeros ∙ zero_at 131072 chain))

pub returns : goal.returns
returns c =
    let n : Node = record { name = c.empty.result; parent = 0; inodes = 1; children = 0; next = 0 } in
    rw (c.in_ok-push.ensures.items, c.new-nodes.ensures.items)
    (ap (λ (e : Entry). record { limit = c.args.limit; entries = Some e ∷ [] }) (rooted n refl refl c.empty.ensures))
