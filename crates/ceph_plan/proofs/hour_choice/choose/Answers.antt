use Rattle.std.proofs.Common.{◌≡◌, ◌∙◌, ◌<◌, ◌↔◌, ℕ, Bool, List, ap, arith, false, get_or, length, slice_index, subst, sym, true}
use Rattle.ceph_plan.specs.declared.hours.Hour.{Hour}
use Rattle.ceph_plan.specs.ChosenHours.{AreBounds, AreMarked, MayBeChosen, load_in_hour}
use Rattle.ceph_plan.proofs.Choosing.{all-chosen, kept-known}
use Rattle.ceph_plan.proofs.hour_choice.choose.Goals as goal

pub spread-requires-clause-can : goal.spread-requires-clause-can
spread-requires-clause-can c =
    let ranks : ℕ = c.args.ranks in
    let hours : List Hour = c.args.hours.now in
    let loads : List ℕ = c.in_ok-loads.loads.items in
    let kept : List Bool = c.in_ok-kept.kept.items in
    record {
      zero = c.requires.zero;
      hours_are = c.requires.hours.are;
      own_size = c.requires.own;
      some = c.requires.hours.some;
      bounds_size = ap length c.deref-3.ensures.value ∙ c.in_ok-bounds.ensures.size;
      bounds_are = subst (λ (xs : List ℕ). AreBounds ranks hours (slice_index xs)) (sym c.deref-3.ensures.value) c.in_ok-bounds.ensures.bounds;
      kept_size = ap length c.deref-4.ensures.value ∙ (c.in_ok-kept.ensures.size ∙ (ap length c.deref.ensures.value ∙ c.in_ok-loads.ensures.size));
      kept_are = subst (λ (xs : List Bool). (h : ℕ) → h < length hours
          → get_or xs h false ≡ true ↔ MayBeChosen (length hours) (load_in_hour ranks hours) h) (sym c.deref-4.ensures.value)
          (kept-known ranks hours loads kept c.in_ok-loads.ensures.size c.in_ok-loads.ensures.loads
          (subst (λ (xs : List ℕ). (h : ℕ) → h < length xs → get_or kept h false ≡ true ↔ MayBeChosen (length xs) (slice_index xs) h)
          c.deref.ensures.value c.in_ok-kept.ensures.kept));
    }

pub returns-then-len-most-clause-chosen : goal.returns-then-len-most-clause-chosen
returns-then-len-most-clause-chosen c =
    let ranks : ℕ = c.args.ranks in
    let hours : List Hour = c.args.hours.now in
    let loads : List ℕ = c.in_ok-loads.loads.items in
    let kept : List Bool = c.in_ok-kept.kept.items in
    all-chosen ranks hours c.args.rows.now c.args.wanted c.args.own.now c.args.most kept c.in_ok-all.all.items
    (subst (λ (xs : List Bool). AreMarked xs c.in_ok-all.all.items) c.deref-2.ensures.value c.in_ok-all.ensures)
    (c.in_ok-kept.ensures.size ∙ (ap length c.deref.ensures.value ∙ c.in_ok-loads.ensures.size)) c.requires.hours.some
    (kept-known ranks hours loads kept c.in_ok-loads.ensures.size c.in_ok-loads.ensures.loads
    (subst (λ (xs : List ℕ). (h : ℕ) → h < length xs → get_or kept h false ≡ true ↔ MayBeChosen (length xs) (slice_index xs) h)
    c.deref.ensures.value c.in_ok-kept.ensures.kept))
    (omega (arith, c.if-len-most.true, c.len.ensures))
