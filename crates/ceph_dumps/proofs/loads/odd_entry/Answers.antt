use Rattle.std.proofs.Common.{◌≡◌, ◌∙◌, ◌<◌, All, ap, arith, refl, false, length, subst, sym, take_all, true}
use Rattle.std.proofs.lemmas.List.Elements.{All-more}
use Rattle.ceph_dumps.specs.declared.loads.FragmentHeat.{FragmentHeat}
use Rattle.ceph_dumps.specs.Paths.{is_clean_path}
use Rattle.ceph_dumps.specs.Loads.{fragment_data}
use Rattle.ceph_dumps.proofs.Clean.{one_fails}
use Rattle.ceph_dumps.proofs.loads.odd_entry.Goals as goal

pub loop-at-preserved : goal.loop-at-preserved
loop-at-preserved c =
    let clean : FragmentHeat → Type 0 = λ one. is_clean_path one.path.items ≡ true in
    let one : FragmentHeat = c.index-fragments-at.result in
    let inside : c.loop-at.at < length c.args.fragments.now = omega (arith, c.loop-at-test.true) in
    let here : is_clean_path one.path.items ≡ true = sym (c.is_clean_path.ensures ∙ ap is_clean_path c.as_slice.ensures.value) ∙ c.if-not-is_clean_path.false in
    All-more clean c.args.fragments.now c.loop-at.at one inside c.loop-at.invariant (subst clean c.index-fragments-at.is here)

pub returns-then-not-is_clean_path-clause-odd : goal.returns-then-not-is_clean_path-clause-odd
returns-then-not-is_clean_path-clause-odd c = λ _.
    let one : FragmentHeat = c.index-fragments-at.result in
    let inside : c.loop-at.at < length c.args.fragments.now = omega (arith, c.loop-at-test.true) in
    let odd : is_clean_path one.path.items ≡ false =
    sym (c.is_clean_path.ensures ∙ ap is_clean_path c.as_slice.ensures.value) ∙ c.if-not-is_clean_path.true in
    rw (one_fails fragment_data (λ said. is_clean_path said.path) c.args.fragments.now c.loop-at.at one inside
    (subst (λ (it : FragmentHeat). is_clean_path it.path.items ≡ false) c.index-fragments-at.is odd)) refl

pub returns-clause-clean : goal.returns-clause-clean
returns-clause-clean c = λ _.
    let clean : FragmentHeat → Type 0 = λ one. is_clean_path one.path.items ≡ true in
    subst (All clean) (take_all c.loop-at.at c.args.fragments.now (omega (arith, c.loop-at-test.false))) c.loop-at.invariant
