use Rattle.std.proofs.Common.{◌≡◌, Bool, ◌<◌, ◌+◌, ◌++◌, ◌∷◌, [], ℕ, List, Some, length, slice_get, ap, sym, ◌∙◌, refl, subst, arith}
use Rattle.std.proofs.lemmas.Grind.{common_steps}
use Rattle.std.proofs.lemmas.List.{length_push}
use Rattle.std.proofs.lemmas.Option.{slice_get_read}
use Rattle.ceph_snapshot.specs.declared.directory.Directory.{Directory}
use Rattle.ceph_snapshot.specs.declared.held.Held.{Held}
use Rattle.ceph_snapshot.specs.Holding.{AreParentsFirst, IsHeld, held_at, hold_below, parent_at}
use Rattle.ceph_snapshot.proofs.Holders.{all_more, held_more, read_parent, read_step, root_held}
use Rattle.ceph_snapshot.proofs.held.holds.Goals as goal
use Rattle.ceph_snapshot.proofs.held.holds.Goals.{then-at-eq0, else-at-eq0+in-Some, else-at-eq0+in-None}

pub loop-at-preserved : goal.loop-at-preserved
loop-at-preserved c =
    let ds : List Directory = c.args.directories.now in
    let items : List Held = c.loop-at.found.items in
    let at : ℕ = c.loop-at.at in
    let hold : Held = c.if-at-eq0.hold in
    let pushed : c.push.new.self.items ≡ items ++ hold ∷ [] = c.in_ok-push.ensures.items in
    let inside : at < length ds = omega arith in
    let read : slice_get ds at ≡ Some c.index-directories-at.result =
    slice_get_read ds (length ds) at c.index-directories-at.result refl inside c.index-directories-at.is in
    let here : AreParentsFirst ds → IsHeld ds at hold = λ first. elim c.if-at-eq0.branch [
      | then-at-eq0 w ↦
          let is : at ≡ 0 = w.if-at-eq0.true in
          subst (λ (k : ℕ). IsHeld ds k hold) (sym is) (subst (λ (h : Held). IsHeld ds 0 h) (sym w.hold-is) (root_held ds first.root))
      | else-at-eq0+in-Some w ↦
          let later : 0 < at = omega (arith, w.if-at-eq0.false) in
          let parent : parent_at ds at ≡ c.index-directories-at.result.parent = read_parent ds at c.index-directories-at.result read in
          let up : parent_at ds at < at = first.above at later inside in
          let above : held_at items c.index-directories-at.result.parent
          ≡ w.in-Some.above.now = grind (arith, common_steps, w.deref.ensures.value, w.in-Some.ensures.lookup) in
          held_more ds at w.in-Some.above.now hold later
          (subst (λ (h : Held). IsHeld ds (parent_at ds at) h) (ap (λ (k : ℕ). held_at items k) parent ∙ above)
          (c.loop-at.invariant.held first (parent_at ds at) up))
          (w.hold-is ∙ (w.next_hold.ensures
          ∙ (ap (λ (fixed : Bool). hold_below c.index-directories-at.result.pin fixed c.index-directories-at.result.now
          w.in-Some.above.now) w.is_fixed.ensures ∙ read_step ds at c.index-directories-at.result w.in-Some.above.now read)))
      | else-at-eq0+in-None w ↦
          let later : 0 < at = omega (arith, w.if-at-eq0.false) in
          let parent : parent_at ds at ≡ c.index-directories-at.result.parent = read_parent ds at c.index-directories-at.result read in
          let up : parent_at ds at < at = first.above at later inside in
          let none : ⊥ = grind (arith, common_steps, w.deref.ensures.value, w.in-None.ensures.lookup, c.loop-at.invariant.size) in
          absurd none
    ] in
    record {
      size = ap length pushed ∙ (length_push items hold ∙ ap (λ (n : ℕ). n + 1) c.loop-at.invariant.size);
      held = λ first. subst (λ (hs : List Held). (i : ℕ) → i < at + 1 → IsHeld ds i (held_at hs i)) (sym pushed)
          (all_more ds items hold at c.loop-at.invariant.size (c.loop-at.invariant.held first) (here first));
    }
