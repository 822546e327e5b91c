use Rattle.std.proofs.Common.{◌≡◌, ◌∙◌, ◌-◌, ◌∷◌, ◌++◌, [], Bor, Global, List, ℕ, Option, None, Some, ap, arith, false, length, option_map, rules, sym, true}
use Rattle.std.proofs.lemmas.Result.{err_from_is_err_and}
use Rattle.json.specs.Json.{members, read_key, value}
use Rattle.json.specs.declared.value.Value.{Value}
use Rattle.json.proofs.Grammar.{left_none, members_fail, members_no_key, read_key-shorter}
use Rattle.ceph_dumps.proofs.Keeping.{all_passed, behind, keep_turn, nothing_behind, pass_turn}
use Rattle.ceph_dumps.proofs.items.read_kept.Goals as goal

pub loop-found-init : goal.loop-found-init
loop-found-init g c = (
  length c.args.reader.now,
  omega arith,
  nothing_behind Global g.T.Item.kept (members (value c.args.depth) (length c.args.reader.now) c.args.reader.now)
      ∙ ap (λ found. behind g.T.Item.kept found (members (value c.args.depth) (length c.args.reader.now) c.args.reader.now)) (sym c.new-found.ensures.items),
  omega arith,
)

pub returns-in_err-key-clause-none : goal.returns-in_err-key-clause-none
returns-in_err-key-clause-none g c =
    let e = err_from_is_err_and c.from_residual.result c.from_residual.ensures.1 in
    let l = c.loop-found in
    rw e.1 (λ other.
    l.invariant.2
    ∙ ap (behind g.T.Item.kept l.found.items)
    (members_no_key (value c.args.depth) l.invariant.0 l.reader (c.in_err-key.ensures.none (λ memory. other (e.2 ∙ memory)))))

pub returns-in_err-value-clause-none : goal.returns-in_err-value-clause-none
returns-in_err-value-clause-none g c =
    let e = err_from_is_err_and c.from_residual-in_err-value.result c.from_residual-in_err-value.ensures.1 in
    let l = c.loop-found in
    let s = c.next_key.new.reader in
    let key = c.in-Some.key.now in
    let comes : read_key l.reader ≡ Some (Some key, s) = grind (arith, c.in_ok-key.ensures.is, c.in-Some.is) in
    rw e.1 (λ other.
    l.invariant.2
    ∙ ap (behind g.T.Item.kept l.found.items)
    (members_fail (value c.args.depth) l.invariant.0 key l.reader s comes (c.in_err-value.ensures.none (λ memory. other (e.2 ∙ memory)))))

pub returns-in_err-skip-clause-none : goal.returns-in_err-skip-clause-none
returns-in_err-skip-clause-none g c =
    let e = err_from_is_err_and c.from_residual-in_err-skip.result c.from_residual-in_err-skip.ensures.1 in
    let l = c.loop-found in
    let s = c.next_key.new.reader in
    let key = c.in-Some.key.now in
    let comes : read_key l.reader ≡ Some (Some key, s) = grind (arith, c.in_ok-key.ensures.is, c.in-Some.is) in
    rw e.1 (λ other.
    l.invariant.2
    ∙ ap (behind g.T.Item.kept l.found.items)
    (members_fail (value c.args.depth) l.invariant.0 key l.reader s comes
    (left_none (value c.args.depth s) (c.in_err-skip.ensures.none (λ memory. other (e.2 ∙ memory))))))

pub loop-found-preserved-in-Continue-branch-4 : goal.loop-found-preserved-in-Continue-branch-4
loop-found-preserved-in-Continue-branch-4 g c =
    let l = c.loop-found in
    let n = l.invariant.0 in
    let p = value c.args.depth in
    let kept = g.T.Item.kept in
    let s = c.next_key.new.reader in
    let r = c.read_value.new.reader in
    let m : Bor (List ℕ) × Value Global = (c.in-Some.key, c.in_ok-value.value) in
    let comes : read_key l.reader ≡ Some (Some m.0.now, s) = grind (arith, c.in_ok-key.ensures.is, c.in-Some.is) in
    let is : kept m.0.now ≡ true = sym c.keeps.ensures ∙ c.if-keeps.true in
    let shorter = read_key-shorter l.reader (Some m.0.now) s comes in
    let less = c.in_ok-value.ensures.less in
    let pushed : c.push.new.self.items ≡ l.found.items ++ m ∷ [] = search rules in (
      n - 1,
      omega (arith, l.invariant.1, shorter, less),
      l.invariant.2
          ∙ keep_turn kept l.found.items p n l.reader m s r (omega (arith, l.invariant.1, shorter)) comes is c.in_ok-value.ensures.is
          ∙ ap (λ found. behind kept found (members p (n - 1) r)) (sym pushed),
      omega (arith, l.invariant.3, shorter, less),
    )

pub loop-found-preserved : goal.loop-found-preserved
loop-found-preserved g c =
    let l = c.loop-found in
    let n = l.invariant.0 in
    let p = value c.args.depth in
    let kept = g.T.Item.kept in
    let s = c.next_key.new.reader in
    let r = c.skip.new.reader in
    let key = c.in-Some.key.now in
    let comes : read_key l.reader ≡ Some (Some key, s) = grind (arith, c.in_ok-key.ensures.is, c.in-Some.is) in
    let not : kept key ≡ false = sym c.keeps.ensures ∙ c.if-keeps.false in
    let shorter = read_key-shorter l.reader (Some key) s comes in
    let less = c.in_ok-skip.ensures.less in (
      n - 1,
      omega (arith, l.invariant.1, shorter, less),
      l.invariant.2
          ∙ pass_turn kept l.found.items p n l.reader key s r (omega (arith, l.invariant.1, shorter)) comes not c.in_ok-skip.ensures.is,
      omega (arith, l.invariant.3, shorter, less),
    )

pub returns-clause-is : goal.returns-clause-is
returns-clause-is g c =
    let l = c.loop-found in
    let s = c.next_key.new.reader in
    let comes : read_key l.reader ≡ Some (None, s) = c.in_ok-key.ensures.is
    ∙ ap (λ (o : Option (Bor (List ℕ))). Some (option_map (λ text. text.now) o, s)) c.in_default.is in
    l.invariant.2 ∙ all_passed g.T.Item.kept l.found.items (value c.args.depth) l.invariant.0 l.reader s l.invariant.1 comes
