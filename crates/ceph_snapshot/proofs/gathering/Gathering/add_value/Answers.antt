use Rattle.std.proofs.Common.{rules, ◌≡◌, ◌∙◌, ◌++◌, ◌∷◌, [], ℕ, List, true, false, append-nil, refl}
use Rattle.std.proofs.lemmas.Result.{err_from_is_err_and}
use Rattle.ceph_snapshot.specs.Authority.{is_user_path}
use Rattle.ceph_snapshot.specs.Facts.{Fact, Value, values_in}
use Rattle.ceph_snapshot.specs.Named.{AreOldOr, AreTooManyNamed, AreTooManyPaths, IsPathNamed, IsOldOr, IsUpFrom}
use Rattle.ceph_snapshot.proofs.Heard.{still_has, told_value}
use Rattle.ceph_snapshot.proofs.Growth.{growth_for}
use Rattle.ceph_snapshot.proofs.Named.{many_weaker, named_by_fact, named_fact, named_same}
use Rattle.ceph_snapshot.proofs.gathering.Gathering.add_value.Goals as goal

pub returns-in_default-clause-told : goal.returns-in_default-clause-told
returns-in_default-clause-told c = λ facts before.
    let user : is_user_path c.args.listed.now.path.items ≡ false = search rules in
    rw (user, append-nil) (still_has c.args.self.now (record (c.args.self.now) { tree = c.number.new.self }) c.in_ok-number.ensures.kept
    refl refl refl
    (named_same c.args.self.now.tree c.number.new.self c.args.listed.now.path.items c.number.ensures.seen user
    (rw c.as_slice.ensures.value at c.in_ok-number.ensures.only))
    facts before)

pub returns-clause-told : goal.returns-clause-told
returns-clause-told c = λ facts before.
    let user : is_user_path c.args.listed.now.path.items ≡ true = search rules in
    let f : Fact = Value c.args.listed.now in
    let all = told_value c.args.self.now c.add_value.new.self.nodes facts c.args.listed.now
    (c.add_value.ensures.told facts (c.in_ok-number.ensures.kept.told facts before.told))
    (λ path i h. c.add_value.ensures.numbers path i (c.in_ok-number.ensures.kept.numbers path i h)) before in
    let first : AreOldOr c.args.self.now.tree.nodes (IsUpFrom c.args.listed.now.path.items) c.number.new.self.nodes =
    rw c.as_slice.ensures.value at c.in_ok-number.ensures.only in
    let only : AreOldOr c.args.self.now.tree.nodes (IsUpFrom c.args.listed.now.path.items) c.add_value.new.self.nodes =
    λ path i at. first path i (c.add_value.ensures.only path i at) in
    rw user (record {
      told = all.0;
      heard = all.1;
      tops = all.2;
      claims = all.3;
      only = all.4;
      named = named_fact c.args.self.now.tree c.add_value.new.self f facts (c.add_value.ensures.seen ∙ c.number.ensures.seen) only before.named;
    })

pub returns-in_err-number-clause-many : goal.returns-in_err-number-clause-many
returns-in_err-number-clause-many c = λ facts before.
    let old = c.args.self.now.tree in
    let f : Fact = Value c.args.listed.now in
    let more : List Fact = values_in (c.args.listed.now ∷ []) in
    let Up : List ℕ → Type 0 = IsUpFrom c.args.listed.now.path.items in
    let e = err_from_is_err_and c.from_residual.result c.from_residual.ensures.1 in
    rw (e.1, e.2)
    (growth_for (AreTooManyPaths (IsOldOr old.nodes Up)) (AreTooManyNamed old.seen (facts ++ more)) c.in_err-number.field-0.0
    (many_weaker (IsOldOr old.nodes Up) (IsPathNamed old.seen (facts ++ more))
    (named_by_fact old.nodes old.seen facts more f (λ user. rw user refl) before.named))
    (rw c.as_slice.ensures.value at c.in_err-number.ensures.many))
