use Rattle.std.proofs.Common.{rules, ◌≡◌, ◌∙◌, ◌++◌, ◌∷◌, [], Bool, List, ap, cond, pos, subst, sym}
use Rattle.ceph_snapshot.specs.declared.gathering.Hearsay.{Hearsay}
use Rattle.ceph_snapshot.specs.declared.tree.Node.{Node}
use Rattle.ceph_snapshot.specs.Heard.{AreHeardAt, HeardRank, authority_heard, heard_in_root}
use Rattle.ceph_snapshot.proofs.Heard.{heard_push}
use Rattle.ceph_snapshot.proofs.gathering.Gathering.hear.Goals as goal

pub returns-clause-heard : goal.returns-clause-heard
returns-clause-heard c = λ heard was.
    let nodes : List Node = c.args.self.now.tree.nodes in
    let before : List Hearsay = c.args.self.now.hearsay.items in
    let path = c.args.root.now.path.items in
    let said : Hearsay = record { directory = c.args.directory; by = c.args.rank; authority = c.in-Ok.authority } in
    let one : HeardRank = record { path = path; by = c.args.rank; authority = c.in-Ok.authority } in
    let authority : c.args.root.now.authority ≡ pos c.in-Ok.authority = search rules in
    let more : heard_in_root c.args.rank c.args.root.now ≡ one ∷ [] =
    ap (λ (b : Bool). cond b [] (authority_heard path c.args.rank c.args.root.now.authority)) c.if-root.false
    ∙ ap (authority_heard path c.args.rank) authority in
    subst (λ (hs : List Hearsay). AreHeardAt nodes hs (heard ++ heard_in_root c.args.rank c.args.root.now)) (sym c.in_ok-push.ensures.items)
    (subst (λ (those : List HeardRank). AreHeardAt nodes (before ++ said ∷ []) (heard ++ those)) (sym more)
    (heard_push nodes before said heard path c.requires was))
