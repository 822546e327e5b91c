use Rattle.std.proofs.Common.{◌≡◌, ℕ, List, Some, Vec, arith, false, length, refl, subst, sym}
use Rattle.std.specs.Global.{Global}
use Rattle.std.specs.List.{slice_get}
use Rattle.std.proofs.lemmas.Bool.{both_ways}
use Rattle.std.proofs.lemmas.List.{length-map}
use Rattle.std.proofs.lemmas.Option.{slice_get_read}
use Rattle.ceph_dumps.specs.PathList.{path_bytes}
use Rattle.ceph_pins.specs.Left.{IsLeftBy}
use Rattle.ceph_pins.proofs.LeftPaths.{listed_at, none_leaves, not_left}
use Rattle.ceph_pins.proofs.left.is_left.Goals as goal

pub loop-at-preserved : goal.loop-at-preserved
loop-at-preserved c =
    let list : List (Vec ℕ Global) = c.args.list.now in
    let one : Vec ℕ Global = c.index-list-at.result in
    let there : slice_get list c.loop-at.at ≡ Some one = slice_get_read list (length list) c.loop-at.at one refl c.loop-at-test.true c.index-list-at.is in
    none_leaves (path_bytes list) c.args.path.now c.loop-at.at one.items (listed_at list c.loop-at.at one there)
    (λ by. both_ways c.is_left_by.result c.if-is_left_by.false
    (c.is_left_by.ensures.1 (subst (λ (p : List ℕ). IsLeftBy p c.args.path.now) (sym c.deref.ensures.value) by)))
    c.loop-at.invariant

pub returns : goal.returns
returns c = (
  λ no. absurd (both_ways false refl no),
  λ left. absurd (not_left (path_bytes c.args.list.now) c.args.path.now c.loop-at.at
      (omega (arith, c.loop-at-test.false, length-map c.args.list.now (λ (p : Vec ℕ Global). p.items))) c.loop-at.invariant left),
)
