use Rattle.std.proofs.Common.{◌≡◌, ◌∙◌, ◌<◌, ◌+◌, ◌/◌, ℕ, Bool, List, ap, arith, cond, length, slice_index}
use Rattle.mds_types.specs.declared.problem.ProblemRow.{ProblemRow}
use Rattle.ceph_plan.specs.MadeHours.{free_children, half_load, is_free_child}
use Rattle.ceph_plan.proofs.made.made_hour.Goals as goal

pub returns : goal.returns
returns c =
    let rows : List ProblemRow = c.args.rows.now in
    let free : List Bool = c.args.free.now in
    let now : List ℕ = c.args.now.now.heats.items in
    let pinned : List ℕ = c.args.now.now.pinned.items in
    let d : ℕ = c.args.parent in
    let more : c.half_of.result / c.args.children ≡ half_load now pinned / free_children rows free d =
    ap (λ (x : ℕ). x / c.args.children) c.half_of.ensures ∙ ap (λ (x : ℕ). half_load now pinned / x) c.requires.children in
    record {
      size = c.in_ok-heats.ensures.size;
      heats = λ i l.
          c.in_ok-heats.ensures.heats i l
          ∙ (ap (λ (xs : List ℕ). slice_index xs i / 2 + cond (is_free_child rows free d i) (c.half_of.result / c.args.children) 0) c.deref.ensures.value
          ∙ ap (λ (x : ℕ). slice_index now i / 2 + cond (is_free_child rows free d i) x 0) more);
      pinned_size = c.in_ok-pinned.ensures.size ∙ (ap length c.deref-2.ensures.value ∙ c.requires.hour.held.size);
      pinned = λ r small.
          let inside : r < length c.deref-2.result.now = omega (arith, small, ap length c.deref-2.ensures.value, c.requires.hour.held.size) in
          c.in_ok-pinned.ensures.half r inside ∙ ap (λ (xs : List ℕ). slice_index xs r / 2) c.deref-2.ensures.value;
    }
