use Rattle.std.proofs.Common.{◌≡◌, ◌∙◌, ◌<◌, All, ap, arith, refl, false, length, subst, sym, take_all, true}
use Rattle.std.proofs.lemmas.List.Elements.{All-more}
use Rattle.ceph_dumps.specs.declared.subtrees.SubtreeRoot.{SubtreeRoot}
use Rattle.ceph_dumps.specs.Paths.{is_clean_path}
use Rattle.ceph_dumps.specs.Subtrees.{root_data}
use Rattle.ceph_dumps.proofs.Clean.{one_fails}
use Rattle.ceph_dumps.proofs.subtrees.odd_entry.Goals as goal

pub loop-at-preserved : goal.loop-at-preserved
loop-at-preserved c =
    let clean : SubtreeRoot → Type 0 = λ one. is_clean_path one.path.items ≡ true in
    let one : SubtreeRoot = c.index-roots-at.result in
    let inside : c.loop-at.at < length c.args.roots.now = omega (arith, c.loop-at-test.true) in
    let here : is_clean_path one.path.items ≡ true = sym (c.is_clean_path.ensures ∙ ap is_clean_path c.as_slice.ensures.value) ∙ c.if-not-is_clean_path.false in
    All-more clean c.args.roots.now c.loop-at.at one inside c.loop-at.invariant (subst clean c.index-roots-at.is here)

pub returns-then-not-is_clean_path-clause-odd : goal.returns-then-not-is_clean_path-clause-odd
returns-then-not-is_clean_path-clause-odd c = λ _.
    let one : SubtreeRoot = c.index-roots-at.result in
    let inside : c.loop-at.at < length c.args.roots.now = omega (arith, c.loop-at-test.true) in
    let odd : is_clean_path one.path.items ≡ false =
    sym (c.is_clean_path.ensures ∙ ap is_clean_path c.as_slice.ensures.value) ∙ c.if-not-is_clean_path.true in
    rw (one_fails root_data (λ said. is_clean_path said.path) c.args.roots.now c.loop-at.at one inside
    (subst (λ (it : SubtreeRoot). is_clean_path it.path.items ≡ false) c.index-roots-at.is odd)) refl

pub returns-clause-clean : goal.returns-clause-clean
returns-clause-clean c = λ _.
    let clean : SubtreeRoot → Type 0 = λ one. is_clean_path one.path.items ≡ true in
    subst (All clean) (take_all c.loop-at.at c.args.roots.now (omega (arith, c.loop-at-test.false))) c.loop-at.invariant
