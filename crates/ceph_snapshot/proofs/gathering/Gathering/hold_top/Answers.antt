use Rattle.std.proofs.Common.{rules, ◌≡◌, ◌⊎◌, ◌∙◌, ◌++◌, ◌∷◌, [], ℕ, Bool, List, ap, cond, subst, sym, true}
use Rattle.ceph_snapshot.specs.declared.tree.Node.{Node}
use Rattle.ceph_snapshot.specs.Authority.{is_user_path}
use Rattle.ceph_snapshot.specs.Heard.{AreNumbersOf, LiesInTop, top_of_path, tops_in_root}
use Rattle.std.proofs.lemmas.Result.{err_from_is_err_and}
use Rattle.ceph_snapshot.specs.Named.{AreTooManyPaths, IsOldOr, IsUpFrom}
use Rattle.ceph_snapshot.specs.Names.{IsAtOrAbove}
use Rattle.ceph_snapshot.specs.Sightings.{IsNumberOf}
use Rattle.ceph_snapshot.proofs.Heard.{number_push, numbers_kept_of}
use Rattle.ceph_snapshot.proofs.Growth.{growth_for}
use Rattle.ceph_snapshot.proofs.Named.{many_both, old_both, old_same, up_both, up_to_top}
use Rattle.ceph_snapshot.proofs.gathering.Gathering.hold_top.Goals as goal

pub returns-clause-tops : goal.returns-clause-tops
returns-clause-tops c = λ tops was.
    let new : List Node = c.number.new.self.nodes in
    let before : List ℕ = c.args.self.now.tops.items in
    let number : ℕ = c.in-Some.number in
    let top : List ℕ = top_of_path c.args.root.now.path.items in
    let spread : c.args.root.now.is_spread ≡ true = search rules in
    let path : c.top_of-top.result.now ≡ top = c.top_of-top.ensures.top ∙ ap top_of_path c.as_slice.ensures.value in
    let at : IsNumberOf new top number = subst (λ (p : List ℕ). IsNumberOf new p number) path (rw c.in-Some.is at c.in_ok-number.ensures.path) in
    let kept : AreNumbersOf new before tops = numbers_kept_of c.args.self.now.tree.nodes new before tops c.in_ok-number.ensures.kept.numbers was in
    let more : tops_in_root c.args.root.now ≡ top ∷ [] = ap (λ (b : Bool). cond b (top ∷ []) []) spread in
    subst (λ (is : List ℕ). AreNumbersOf new is (tops ++ tops_in_root c.args.root.now)) (sym c.in_ok-push.ensures.items)
    (subst (λ (those : List (List ℕ)). AreNumbersOf new (before ++ number ∷ []) (tops ++ those)) (sym more) (number_push new before number tops top at kept))

pub returns-then-not-root-clause-only : goal.returns-then-not-root-clause-only
returns-then-not-root-clause-only c = old_same c.args.self.now.tree.nodes (IsUpFrom c.args.root.now.path.items)

-- what is at or above the directory just below the root is at or above the path
up_from : (path top given : List ℕ) → given ≡ path → is_user_path path ≡ true → top ≡ top_of_path given
    → (is_user_path given ≡ true → (given ≡ []) ⊎ LiesInTop given top)
    → (other : List ℕ) → IsUpFrom top other → IsUpFrom path other
up_from path top given same user is lies other up = (
  user,
  up_both other top path up.1 (subst (IsAtOrAbove top) same (up_to_top given top is (lies (subst (λ (p : List ℕ). is_user_path p ≡ true) (sym same) user)))),
)

pub returns-in_default-clause-only : goal.returns-in_default-clause-only
returns-in_default-clause-only c =
    let path : List ℕ = c.args.root.now.path.items in
    let top : List ℕ = c.top_of-top.result.now in
    old_both c.args.self.now.tree.nodes c.args.self.now.tree.nodes c.number.new.self.nodes (IsUpFrom path) (IsUpFrom top) (IsUpFrom path)
    (λ other up. up)
    (up_from path top c.as_slice.result.now c.as_slice.ensures.value c.requires c.top_of-top.ensures.top c.top_of-top.ensures.lies)
    (old_same c.args.self.now.tree.nodes (IsUpFrom path)) c.in_ok-number.ensures.only

pub returns-clause-only : goal.returns-clause-only
returns-clause-only c =
    let path : List ℕ = c.args.root.now.path.items in
    let top : List ℕ = c.top_of-top.result.now in
    old_both c.args.self.now.tree.nodes c.args.self.now.tree.nodes c.number.new.self.nodes (IsUpFrom path) (IsUpFrom top) (IsUpFrom path)
    (λ other up. up)
    (up_from path top c.as_slice.result.now c.as_slice.ensures.value c.requires c.top_of-top.ensures.top c.top_of-top.ensures.lies)
    (old_same c.args.self.now.tree.nodes (IsUpFrom path)) c.in_ok-number.ensures.only

pub returns-in_err-number-clause-many : goal.returns-in_err-number-clause-many
returns-in_err-number-clause-many c =
    let nodes : List Node = c.args.self.now.tree.nodes in
    let path : List ℕ = c.args.root.now.path.items in
    let top : List ℕ = c.top_of-top.result.now in
    let e = err_from_is_err_and c.from_residual.result c.from_residual.ensures.1 in
    rw (e.1, e.2)
    (growth_for (AreTooManyPaths (IsOldOr nodes (IsUpFrom top))) (AreTooManyPaths (IsOldOr nodes (IsUpFrom path))) c.in_err-number.field-0.0
    (many_both nodes nodes (IsUpFrom path) (IsUpFrom top) (IsUpFrom path) (λ other up. up)
    (up_from path top c.as_slice.result.now c.as_slice.ensures.value c.requires c.top_of-top.ensures.top c.top_of-top.ensures.lies)
    (old_same nodes (IsUpFrom path)))
    c.in_err-number.ensures.many)
