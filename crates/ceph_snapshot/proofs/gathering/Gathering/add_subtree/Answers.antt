use Rattle.std.proofs.Common.{rules, ◌≡◌, ◌∙◌, ◌++◌, ◌∷◌, [], ℕ, All, IsErrOf, List, Some, true, false, ap, append-nil, refl, subst, sym, ⊎_elim}
use Rattle.std.proofs.lemmas.List.Elements.{All-append}
use Rattle.std.proofs.lemmas.Result.{err_from_is_err_and}
use Rattle.ceph_snapshot.specs.declared.gathering.Gathering.{Gathering}
use Rattle.ceph_snapshot.specs.declared.names.Names.{Names}
use Rattle.ceph_snapshot.specs.declared.snapshot_error.SnapshotError.TheVariants.{TwoClaims}
use Rattle.ceph_snapshot.specs.declared.tree.Node.{Node}
use Rattle.ceph_snapshot.specs.Authority.{is_user_path}
use Rattle.ceph_snapshot.specs.Facts.{Fact, KeepNumbers, Root, StillTold, roots_in}
use Rattle.ceph_snapshot.specs.Heard.{AreClaimsIn, AreHeardAt, AreNumbersOf, IsNotedIn, heard_in}
use Rattle.ceph_snapshot.specs.Heard.{heard_in_fact, heard_in_root, tops_in, tops_in_fact, tops_in_root}
use Rattle.ceph_snapshot.specs.Named.{AreOldOr, AreTooManyNamed, AreTooManyPaths, IsPathNamed, IsOldOr, IsUpFrom}
use Rattle.ceph_snapshot.specs.Sightings.{IsNumberOf, TreeData}
use Rattle.ceph_snapshot.proofs.Heard.{all_single, claims_kept, claims_last, claims_more, heard_kept}
use Rattle.ceph_snapshot.proofs.Heard.{heard_same, numbers_kept_of, numbers_same_of, piece, still_has}
use Rattle.ceph_snapshot.proofs.Growth.{claim_for, claim_growth, growth_for}
use Rattle.ceph_snapshot.proofs.Named.{many_both, many_weaker, named_by_fact, named_fact, named_same, old_both}
use Rattle.ceph_snapshot.proofs.gathering.Gathering.add_subtree.Goals as goal

pub returns-in_default-clause-told : goal.returns-in_default-clause-told
returns-in_default-clause-told c = λ facts before.
    let user : is_user_path c.args.root.now.path.items ≡ false = search rules in
    rw (user, append-nil) (still_has c.args.self.now (record (c.args.self.now) { tree = c.number.new.self }) c.in_ok-directory.ensures.kept
    refl refl refl
    (named_same c.args.self.now.tree c.number.new.self c.args.root.now.path.items c.number.ensures.seen user
    (rw c.as_slice.ensures.value at c.in_ok-directory.ensures.only))
    facts before)

pub hear-requires : goal.hear-requires
hear-requires c =
    let path : List ℕ = c.args.root.now.path.items in
    let number : IsNumberOf c.number.new.self.nodes path c.in-Some.directory = search rules in
    subst (λ (t : TreeData). IsNumberOf t.nodes path c.in-Some.directory) (sym c.claim.ensures.tree) number

pub hold_top-requires : goal.hold_top-requires
hold_top-requires c = search rules

pub add_root-requires : goal.add_root-requires
add_root-requires c =
    let path : List ℕ = c.args.root.now.path.items in
    let number : IsNumberOf c.number.new.self.nodes path c.in-Some.directory = search rules in
    let same : c.hear.new.self.tree ≡ c.number.new.self = c.hear.ensures.tree ∙ c.claim.ensures.tree in
    c.in_ok-hold_top.ensures.told.numbers path c.in-Some.directory (subst (λ (t : TreeData). IsNumberOf t.nodes path c.in-Some.directory) (sym same) number)

pub returns-in_err-claim-clause-twice : goal.returns-in_err-claim-clause-twice
returns-in_err-claim-clause-twice c = λ facts before path one two is.
    let twice : IsErrOf c.claim.result (TwoClaims path one two) = search rules in
    let claimed = c.claim.ensures.twice path one two twice in
    record {
      here = claimed.here;
      fragment = claimed.fragment;
      named = claimed.named;
      first_of = before.only one claimed.fragment claimed.first_of;
      other = claimed.other;
      second_of = claimed.second_of;
      path_of = claimed.path_of;
    }

pub returns-clause-told : goal.returns-clause-told
returns-clause-told c = λ facts before.
    let root = c.args.root.now in
    let f : Fact = Root c.args.rank root in
    let user : is_user_path root.path.items ≡ true = search rules in
    let n0 : List Node = c.args.self.now.tree.nodes in
    let n1 : List Node = c.number.new.self.nodes in
    let n2 : List Node = c.hold_top.new.self.tree.nodes in
    let n3 : List Node = c.add_root.new.self.nodes in
    let heard : Gathering = c.hear.new.self in
    let names : Names = c.claim.new.self.fragments in
    let first : StillTold n0 n1 = c.in_ok-directory.ensures.kept in
    let same : heard.tree ≡ c.number.new.self = c.hear.ensures.tree ∙ c.claim.ensures.tree in
    let second : StillTold n1 n2 = subst (λ (t : TreeData). StillTold t.nodes n2) same c.in_ok-hold_top.ensures.told in
    let third : KeepNumbers n2 n3 = c.add_root.ensures.numbers in
    let told1 : AreHeardAt c.claim.new.self.tree.nodes c.claim.new.self.hearsay.items (heard_in facts) =
    heard_same n1 c.claim.new.self.tree.nodes c.args.self.now.hearsay.items c.claim.new.self.hearsay.items (heard_in facts)
    (ap (λ (t : TreeData). t.nodes) (sym c.claim.ensures.tree))
    (ap (λ h. h.items) (sym c.claim.ensures.hearsay)) (heard_kept n0 n1 c.args.self.now.hearsay.items (heard_in facts) first.numbers before.heard) in
    let told2 : AreHeardAt n1 c.hold_top.new.self.hearsay.items (heard_in facts ++ heard_in_root c.args.rank root) =
    heard_same heard.tree.nodes n1 heard.hearsay.items c.hold_top.new.self.hearsay.items (heard_in facts ++ heard_in_root c.args.rank root)
    (ap (λ (t : TreeData). t.nodes) same)
    (ap (λ h. h.items) (sym c.hold_top.ensures.hearsay)) (c.in_ok-hear.ensures.heard (heard_in facts) told1) in
    let told3 : AreHeardAt n3 c.hold_top.new.self.hearsay.items (heard_in facts ++ heard_in_root c.args.rank root) =
    heard_kept n2 n3 c.hold_top.new.self.hearsay.items _ third (heard_kept n1 n2 c.hold_top.new.self.hearsay.items _ second.numbers told2) in
    let tops1 : AreNumbersOf heard.tree.nodes heard.tops.items (tops_in facts) =
    numbers_same_of n1 heard.tree.nodes c.args.self.now.tops.items heard.tops.items (tops_in facts)
    (ap (λ (t : TreeData). t.nodes) (sym same)) (ap (λ h. h.items) (sym (c.hear.ensures.tops ∙ c.claim.ensures.tops)))
    (numbers_kept_of n0 n1 c.args.self.now.tops.items (tops_in facts) first.numbers before.tops) in
    let tops3 : AreNumbersOf n3 c.hold_top.new.self.tops.items (tops_in facts ++ tops_in_root root) =
    numbers_kept_of n2 n3 c.hold_top.new.self.tops.items _ third (c.in_ok-hold_top.ensures.tops (tops_in facts) tops1) in
    let claims : All (IsNotedIn names) (facts ++ f ∷ []) =
    All-append (IsNotedIn names) facts (f ∷ []) (claims_kept c.args.self.now.fragments names facts c.in_ok-claim.ensures.kept before.claims)
    (all_single (IsNotedIn names) f (λ rank fragment claim. c.in_ok-claim.ensures.claimed fragment claim.1 claim.2 ∙ ap (λ (n : ℕ). Some n) claim.0)) in
    let only : AreClaimsIn names (facts ++ f ∷ []) = λ who fragment is.
    ⊎_elim (λ was. claims_more facts (f ∷ []) who fragment (before.only who fragment was)) (λ by. claims_last facts f who fragment by)
    (c.in_ok-claim.ensures.only who fragment is) in
    let Up : List ℕ → Type 0 = IsUpFrom root.path.items in
    let later : AreOldOr n1 Up n2 = subst (λ (t : TreeData). AreOldOr t.nodes Up n2) same c.in_ok-hold_top.ensures.only in
    let earlier : AreOldOr n0 Up n1 = rw c.as_slice.ensures.value at c.in_ok-directory.ensures.only in
    let all : AreOldOr n0 Up n3 = λ path i at.
    old_both n0 n1 n2 Up Up Up (λ p up. up) (λ p up. up) earlier later path i (c.add_root.ensures.only path i at) in
    let seen : c.add_root.new.self.seen ≡ c.args.self.now.tree.seen = c.add_root.ensures.seen
    ∙ (c.hold_top.ensures.seen ∙ (ap (λ (t : TreeData). t.seen) same ∙ c.number.ensures.seen)) in
    rw user (record {
      told = c.add_root.ensures.told facts (second.told facts (first.told facts before.told));
      heard = subst (AreHeardAt n3 c.hold_top.new.self.hearsay.items) (sym (piece heard_in_fact facts f)) told3;
      tops = subst (AreNumbersOf n3 c.hold_top.new.self.tops.items) (sym (piece tops_in_fact facts f)) tops3;
      claims = subst (λ (those : Names). All (IsNotedIn those) (facts ++ f ∷ [])) (sym (c.hold_top.ensures.claims ∙ c.hear.ensures.claims)) claims;
      only = subst (λ (those : Names). AreClaimsIn those (facts ++ f ∷ [])) (sym (c.hold_top.ensures.claims ∙ c.hear.ensures.claims)) only;
      named = named_fact c.args.self.now.tree c.add_root.new.self f facts seen all before.named;
    })

pub returns-in_err-directory-clause-many : goal.returns-in_err-directory-clause-many
returns-in_err-directory-clause-many c = λ facts before.
    let old = c.args.self.now.tree in
    let root = c.args.root.now in
    let more : List Fact = roots_in c.args.rank (root ∷ []) in
    let Up : List ℕ → Type 0 = IsUpFrom root.path.items in
    let e = err_from_is_err_and c.from_residual.result c.from_residual.ensures.1 in
    rw (e.1, e.2)
    (claim_growth (AreTooManyNamed old.seen (facts ++ more)) c.in_err-directory.field-0.0
    (growth_for (AreTooManyPaths (IsOldOr old.nodes Up)) (AreTooManyNamed old.seen (facts ++ more)) c.in_err-directory.field-0.0
    (many_weaker (IsOldOr old.nodes Up) (IsPathNamed old.seen (facts ++ more))
    (named_by_fact old.nodes old.seen facts more (Root c.args.rank root) (λ user. rw user refl) before.named))
    (rw c.as_slice.ensures.value at c.in_err-directory.ensures.many)))

pub returns-in_err-claim-clause-many : goal.returns-in_err-claim-clause-many
returns-in_err-claim-clause-many c = λ facts before.
    let cause = AreTooManyNamed c.args.self.now.tree.seen (facts ++ roots_in c.args.rank (c.args.root.now ∷ [])) in
    let e = err_from_is_err_and c.from_residual-in_err-claim.result c.from_residual-in_err-claim.ensures.1 in
    rw (e.1, e.2) (claim_for ⊥ cause c.in_err-claim.field-0.0 (λ none. absurd none) c.in_err-claim.ensures.failed)

pub returns-in_err-hold_top-clause-many : goal.returns-in_err-hold_top-clause-many
returns-in_err-hold_top-clause-many c = λ facts before.
    let old = c.args.self.now.tree in
    let root = c.args.root.now in
    let n1 : List Node = c.number.new.self.nodes in
    let more : List Fact = roots_in c.args.rank (root ∷ []) in
    let Up : List ℕ → Type 0 = IsUpFrom root.path.items in
    let same : c.hear.new.self.tree ≡ c.number.new.self = c.hear.ensures.tree ∙ c.claim.ensures.tree in
    let e = err_from_is_err_and c.from_residual-in_err-hold_top.result c.from_residual-in_err-hold_top.ensures.1 in
    rw (e.1, e.2)
    (claim_growth (AreTooManyNamed old.seen (facts ++ more)) c.in_err-hold_top.field-0.0
    (growth_for (AreTooManyPaths (IsOldOr c.hear.new.self.tree.nodes Up)) (AreTooManyNamed old.seen (facts ++ more)) c.in_err-hold_top.field-0.0
    (λ many.
    many_weaker (IsOldOr old.nodes Up) (IsPathNamed old.seen (facts ++ more))
    (named_by_fact old.nodes old.seen facts more (Root c.args.rank root) (λ user. rw user refl) before.named)
    (many_both old.nodes n1 Up Up Up (λ p up. up) (λ p up. up) (rw c.as_slice.ensures.value at c.in_ok-directory.ensures.only)
    (subst (λ (t : TreeData). AreTooManyPaths (IsOldOr t.nodes Up)) same many)))
    c.in_err-hold_top.ensures.many))
