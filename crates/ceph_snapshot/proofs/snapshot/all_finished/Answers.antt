use Rattle.std.proofs.Common.{◌≡◌, ◌∙◌, ◌++◌, ◌∷◌, [], ℕ, List, ap, map, refl}
use Rattle.std.specs.HashMap.{get_by}
use Rattle.std.specs.Option.{option_or}
use Rattle.std.specs.Str.{bytes_eq}
use Rattle.ceph_snapshot.specs.declared.directory.Directory.{Directory}
use Rattle.ceph_snapshot.specs.declared.tree.Node.{Node}
use Rattle.ceph_snapshot.specs.Doubts.{numbers_with, with_listed}
use Rattle.ceph_snapshot.specs.Gathered.{Listed, PathNumber, WhosePin, listed_of, listed_rank, numbers_of, path_pin, whose_pin, with_owner}
use Rattle.ceph_snapshot.specs.Sightings.{Position, Account, mean_account, position_of, account_of}
use Rattle.ceph_snapshot.proofs.Owners.{mapped_more}
use Rattle.ceph_snapshot.proofs.snapshot.all_finished.Goals as goal

pub loop-node-preserved : goal.loop-node-preserved
loop-node-preserved c =
    let node : Node = c.in-Some.node in
    let path : List ℕ = node.directory.path.items in
    let rank : c.copied-rank.result ≡ listed_rank c.args.own.now path =
    c.copied-rank.ensures ∙ c.get.ensures.value
    ∙ (ap (λ (p : List ℕ). get_by (λ key. bytes_eq p key.items) c.in_ok-listed.listed) c.as_slice.ensures.value ∙ c.in_ok-listed.ensures path) in
    let whose : whose_pin c.finished.result ≡ with_owner c.args.own.now c.args.ranks (path_pin node) =
    rw (c.finished.ensures.path, c.finished.ensures.pin, c.finished.ensures.idle, c.finished.ensures.earlier, rank) refl in
    let inode : c.finished.result.inode ≡ option_or node.directory.inode node.listed = ap (λ (t : Account). t.1.1.1) c.finished.ensures.account in
    let numbers : numbers_of c.finished.result ≡ numbers_with c.args.is_numbered node = rw (c.finished.ensures.path, inode, c.finished.ensures.doubtful) refl in
    let places : position_of c.finished.result ≡ position_of node.directory =
    rw (c.finished.ensures.now, c.finished.ensures.spread, c.finished.ensures.parent) refl in
    let more : (C : Type 0) (f : Directory → C) (g : Node → C) → map f c.loop-node.directories.items ≡ map g c.loop-node.yielded → f c.finished.result ≡ g node
    → map f c.push.new.self.items ≡ map g (c.loop-node.yielded ++ node ∷ []) =
    λ C f g before one. mapped_more f g c.loop-node.directories.items c.push.new.self.items c.loop-node.yielded c.finished.result node
    c.in_ok-push.ensures.items before one in
    record {
      owner = more WhosePin whose_pin (λ (n : Node). with_owner c.args.own.now c.args.ranks (path_pin n)) c.loop-node.invariant.owner whose;
      account = more Account account_of (λ (n : Node). with_listed n.listed (mean_account c.args.samples (account_of n.directory)))
          c.loop-node.invariant.account c.finished.ensures.account;
      numbers = more PathNumber numbers_of (numbers_with c.args.is_numbered) c.loop-node.invariant.numbers numbers;
      place = more Position position_of (λ (n : Node). position_of n.directory) c.loop-node.invariant.place places;
      listed = more Listed listed_of (λ (n : Node). listed_of n.directory) c.loop-node.invariant.listed c.finished.ensures.listed;
    }
