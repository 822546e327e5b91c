use Rattle.std.proofs.Common.{◌∙◌, ◌<◌, ◌++◌, ◌∷◌, [], List, ap, append_assoc, arith, cond, length, refl, sym, take}
use Rattle.ceph_dumps.specs.declared.loads.FragmentHeat.{FragmentHeat}
use Rattle.ceph_snapshot.specs.Authority.{is_user_path}
use Rattle.ceph_snapshot.specs.Sightings.{PathHeat, of_fragment, seen_in}
use Rattle.std.proofs.lemmas.Result.{err_from_is_err_and}
use Rattle.ceph_snapshot.specs.Named.{AreTooManyNamed, AreTooManyPaths, IsOldOr, IsUpFrom}
use Rattle.ceph_snapshot.proofs.Growth.{growth_for}
use Rattle.ceph_snapshot.proofs.Named.{many_seen, named_heat}
use Rattle.ceph_snapshot.proofs.Numbers.{seen_more}
use Rattle.ceph_snapshot.proofs.Heard.{still_has}
use Rattle.ceph_snapshot.proofs.gathering.Gathering.add_loads.Goals as goal

pub loop-fragment-preserved : goal.loop-fragment-preserved
loop-fragment-preserved c =
    let loads : List FragmentHeat = c.args.loads.now in
    let at = c.loop-fragment.fragment-index in
    let one : FragmentHeat = c.fragment-item.result in
    let before : List PathHeat = seen_in c.args.rank (take at loads) in
    let more : List PathHeat = cond (is_user_path one.path.items) (of_fragment c.args.rank one ∷ []) [] in
    let inside : at < length loads = omega (arith, c.loop-fragment-test.true) in
    record {
      seen = c.in_ok-see.ensures.seen
          ∙ (ap (λ (hs : List PathHeat). hs ++ more) c.loop-fragment.invariant.seen
          ∙ (append_assoc c.args.self.now.tree.seen before more
          ∙ ap (λ (hs : List PathHeat). c.args.self.now.tree.seen ++ hs) (sym (seen_more c.args.rank loads at one inside (sym c.fragment-item.is)))));
      told = λ facts was.
          still_has c.loop-fragment.self (record (c.loop-fragment.self) { tree = c.see.new.self }) c.in_ok-see.ensures.kept refl refl refl
          (λ those. named_heat c.loop-fragment.self.tree c.see.new.self (of_fragment c.args.rank one) more those (λ user. rw user refl)
          c.in_ok-see.ensures.seen c.in_ok-see.ensures.only)
          facts (c.loop-fragment.invariant.told facts was);
      listed = c.loop-fragment.invariant.listed;
      numbered = c.loop-fragment.invariant.numbered;
    }

pub returns-in_err-see-clause-many : goal.returns-in_err-see-clause-many
returns-in_err-see-clause-many c = λ facts was.
    let loads : List FragmentHeat = c.args.loads.now in
    let at = c.loop-fragment.fragment-index in
    let one : FragmentHeat = c.fragment-item.result in
    let inside : at < length loads = omega (arith, c.loop-fragment-test.true) in
    let e = err_from_is_err_and c.from_residual.result c.from_residual.ensures.1 in
    rw (e.1, e.2)
    (growth_for (AreTooManyPaths (IsOldOr c.loop-fragment.self.tree.nodes (IsUpFrom one.path.items)))
    (AreTooManyNamed (c.args.self.now.tree.seen ++ seen_in c.args.rank loads) facts) c.in_err-see.field-0.0
    (many_seen c.loop-fragment.self.tree.nodes c.args.rank c.args.self.now.tree.seen c.loop-fragment.self.tree.seen facts loads at one inside
    c.fragment-item.is c.loop-fragment.invariant.seen (c.loop-fragment.invariant.told facts was).named)
    c.in_err-see.ensures.many)
