use Rattle.std.proofs.Common.{rules, ◌≡◌, ◌<◌, ◌≤◌, ◌∙◌, length, arith, refl, ap, All, take, [], ◌∷◌, ◌++◌, ⊎_elim}
use Rattle.std.specs.Vec.{with_items}
use Rattle.std.proofs.lemmas.List.{with_items_is}
use Rattle.std.proofs.lemmas.Bool.{cases_lt}
use Rattle.std.proofs.lemmas.List.Elements.{All-push}
use Rattle.residual_cut.specs.declared.child.Child.{Child}
use Rattle.residual_cut.proofs.HottestLemmas.{met_cool, met_kept, met_short}
use Rattle.residual_cut.proofs.hottest.meet.Goals as goal

pub returns-then-is_cool : goal.returns-then-is_cool
returns-then-is_cool c =
    let cool = c.is_cool.ensures.cool c.if-is_cool.true in
    met_cool c.args.hottest.now c.args.child c.args.most cool.0 cool.1 c.requires

pub returns-else-len-most : goal.returns-else-len-most
returns-else-len-most c =
    let hot : c.args.hottest.now.floor ≤ c.args.child.rest =
    ⊎_elim
    (λ (short : length c.args.hottest.now.children.items < c.args.most).
    ⊎_elim (λ (warm : 0 < c.args.hottest.now.floor). absurd (omega (arith, c.requires.full warm)))
    (λ (none : c.args.hottest.now.floor ≤ 0). omega arith)
    (cases_lt 0 c.args.hottest.now.floor))
    (λ (long : c.args.most ≤ length c.args.hottest.now.children.items).
    omega (arith, c.is_cool.ensures.wanted c.if-is_cool.false long))
    (cases_lt (length c.args.hottest.now.children.items) c.args.most) in
    met_kept c.args.hottest.now (record { children = c.push.new.self; floor = c.args.hottest.now.floor }) c.args.child c.args.most
    c.in_ok-push.ensures.items refl hot c.requires

pub returns-then-len-most : goal.returns-then-len-most
returns-then-len-most c =
    let hot : c.args.hottest.now.floor ≤ c.args.child.rest =
    ⊎_elim
    (λ (short : length c.args.hottest.now.children.items < c.args.most).
    ⊎_elim (λ (warm : 0 < c.args.hottest.now.floor). absurd (omega (arith, c.requires.full warm)))
    (λ (none : c.args.hottest.now.floor ≤ 0). omega arith)
    (cases_lt 0 c.args.hottest.now.floor))
    (λ (long : c.args.most ≤ length c.args.hottest.now.children.items).
    omega (arith, c.is_cool.ensures.wanted c.if-is_cool.false long))
    (cases_lt (length c.args.hottest.now.children.items) c.args.most) in
    let old = c.args.hottest.now in
    let moved = c.put_hottest_first-hottest.new.children in
    let full : c.deref_mut.result.now ≡ old.children.items ++ c.args.child ∷ [] = c.deref_mut.ensures.value ∙ c.in_ok-push.ensures.items in
    let back : (with_items c.push.new.self c.put_hottest_first-hottest.new.children).items ≡ moved =
    with_items_is c.push.new.self c.put_hottest_first-hottest.new.children (search rules) in
    let above : All (λ (y : Child). old.floor ≤ y.rest) c.deref_mut.result.now =
    rw full (All-push (λ (y : Child). old.floor ≤ y.rest) old.children.items c.args.child c.requires.above hot) in
    met_short old (record { children = c.truncate.new.self; floor = c.put_hottest_first-hottest.result }) c.args.child c.args.most moved
    (rw (← full) c.put_hottest_first-hottest.ensures.permutation)
    (c.truncate.ensures.items ∙ ap (take c.args.most) back)
    (omega (arith, c.put_hottest_first-hottest.ensures.size, c.deref_mut.ensures.len, c.if-len-most.true, c.requires.some))
    c.put_hottest_first-hottest.ensures.hottest c.put_hottest_first-hottest.ensures.others
    (c.put_hottest_first-hottest.ensures.among old.floor above) c.requires.some
