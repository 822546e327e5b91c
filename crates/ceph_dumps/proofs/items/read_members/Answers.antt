use Rattle.std.proofs.Common.{◌≡◌, ◌∙◌, ◌-◌, Bor, List, ℕ, Option, None, Some, ap, arith, bytes_eq, false, map, option_map, sym, true}
use Rattle.std.proofs.lemmas.Result.{err_from_is_err_and}
use Rattle.json.specs.Json.{members, read_key, value}
use Rattle.json.proofs.Grammar.{read_key-shorter}
use Rattle.ceph_dumps.specs.Members.{list_of}
use Rattle.ceph_dumps.specs.Reading.{said_of}
use Rattle.ceph_dumps.proofs.Saying.{key_refused, list_refused, list_turn, members_behind, members_over}
use Rattle.ceph_dumps.proofs.Saying.{none_found, skip_refused, skip_turn, some_found, twice_found}
use Rattle.ceph_dumps.proofs.items.read_members.Goals as goal

pub returns-in_err-key-clause-none : goal.returns-in_err-key-clause-none
returns-in_err-key-clause-none g c =
    let e = err_from_is_err_and c.from_residual.result c.from_residual.ensures.1 in
    let l = c.loop-found in
    let n = l.invariant.0 in
    let p = value c.args.depth in
    let said = list_of g.T.Item.said in
    let name = c.args.name.now in
    let found = option_map (λ list. map g.T.Item.shown list.items) l.found in
    rw e.1 (λ other.
    l.invariant.2 ∙ key_refused said name p n l.reader found (c.in_err-key.ensures.none (λ memory. other (e.2 ∙ memory))))

pub loop-found-preserved-in_ok-skip : goal.loop-found-preserved-in_ok-skip
loop-found-preserved-in_ok-skip g c =
    let l = c.loop-found in
    let n = l.invariant.0 in
    let p = value c.args.depth in
    let said = list_of g.T.Item.said in
    let name = c.args.name.now in
    let found = option_map (λ list. map g.T.Item.shown list.items) l.found in
    let s = c.next_key.new.reader in
    let r = c.skip.new.reader in
    let key = c.in-Some.key.now in
    let comes : read_key l.reader ≡ Some (Some key, s) = grind (arith, c.in_ok-key.ensures.is, c.in-Some.is) in
    let other : bytes_eq key name ≡ false = grind (arith, c.ne.ensures, c.if-ne.true) in
    let shorter = read_key-shorter l.reader (Some key) s comes in
    let less = c.in_ok-skip.ensures.less in (
      n - 1,
      omega (arith, l.invariant.1, shorter, less),
      l.invariant.2 ∙ skip_turn said name p n key l.reader s comes found r (omega (arith, l.invariant.1, shorter)) other c.in_ok-skip.ensures.is,
    )

pub returns-in_err-skip-clause-none : goal.returns-in_err-skip-clause-none
returns-in_err-skip-clause-none g c =
    let e = err_from_is_err_and c.from_residual-in_err-skip.result c.from_residual-in_err-skip.ensures.1 in
    let l = c.loop-found in
    let n = l.invariant.0 in
    let p = value c.args.depth in
    let said = list_of g.T.Item.said in
    let name = c.args.name.now in
    let found = option_map (λ list. map g.T.Item.shown list.items) l.found in
    let s = c.next_key.new.reader in
    let key = c.in-Some.key.now in
    let comes : read_key l.reader ≡ Some (Some key, s) = grind (arith, c.in_ok-key.ensures.is, c.in-Some.is) in
    rw e.1 (λ other.
    l.invariant.2 ∙ skip_refused said name p n key l.reader s comes found (c.in_err-skip.ensures.none (λ memory. other (e.2 ∙ memory))))

pub returns-then-is_some-clause-none : goal.returns-then-is_some-clause-none
returns-then-is_some-clause-none g c = λ _.
    let l = c.loop-found in
    let n = l.invariant.0 in
    let p = value c.args.depth in
    let said = list_of g.T.Item.said in
    let name = c.args.name.now in
    let s = c.next_key.new.reader in
    let key = c.in-Some.key.now in
    let comes : read_key l.reader ≡ Some (Some key, s) = grind (arith, c.in_ok-key.ensures.is, c.in-Some.is) in
    let same : bytes_eq key name ≡ true = grind (arith, c.ne.ensures, c.if-ne.false) in
    let shorter = read_key-shorter l.reader (Some key) s comes in
    l.invariant.2
    ∙ twice_found said name p n key l.reader s comes (option_map (λ list. map g.T.Item.shown list.items) l.found)
    (some_found (λ list. map g.T.Item.shown list.items) l.found (sym c.is_some.ensures ∙ c.if-is_some.true))
    (omega (arith, l.invariant.1, shorter)) same

pub returns-in_err-read_list-clause-none : goal.returns-in_err-read_list-clause-none
returns-in_err-read_list-clause-none g c =
    let e = err_from_is_err_and c.from_residual-in_err-read_list.result c.from_residual-in_err-read_list.ensures.1 in
    let l = c.loop-found in
    let n = l.invariant.0 in
    let p = value c.args.depth in
    let said = list_of g.T.Item.said in
    let name = c.args.name.now in
    let s = c.next_key.new.reader in
    let key = c.in-Some.key.now in
    let comes : read_key l.reader ≡ Some (Some key, s) = grind (arith, c.in_ok-key.ensures.is, c.in-Some.is) in
    let same : bytes_eq key name ≡ true = grind (arith, c.ne.ensures, c.if-ne.false) in
    let shorter = read_key-shorter l.reader (Some key) s comes in
    let none = none_found (λ list. map g.T.Item.shown list.items) l.found (sym c.is_some.ensures ∙ c.if-is_some.false) in
    rw e.1 (λ other.
    l.invariant.2
    ∙ ap (λ found. said_of (members_behind said name found) (members p n l.reader)) none
    ∙ list_refused said name p n key l.reader s comes (omega (arith, l.invariant.1, shorter)) same
    (c.in_err-read_list.ensures.none (λ memory. other (e.2 ∙ memory))))

pub loop-found-preserved : goal.loop-found-preserved
loop-found-preserved g c =
    let l = c.loop-found in
    let n = l.invariant.0 in
    let p = value c.args.depth in
    let said = list_of g.T.Item.said in
    let name = c.args.name.now in
    let s = c.next_key.new.reader in
    let key = c.in-Some.key.now in
    let comes : read_key l.reader ≡ Some (Some key, s) = grind (arith, c.in_ok-key.ensures.is, c.in-Some.is) in
    let same : bytes_eq key name ≡ true = grind (arith, c.ne.ensures, c.if-ne.false) in
    let shorter = read_key-shorter l.reader (Some key) s comes in
    let none = none_found (λ list. map g.T.Item.shown list.items) l.found (sym c.is_some.ensures ∙ c.if-is_some.false) in
    let done = c.in_ok-read_list in
    let r = c.read_list.new.reader in
    let less = done.ensures.less in (
      n - 1,
      omega (arith, l.invariant.1, shorter, less),
      l.invariant.2
          ∙ ap (λ found. said_of (members_behind said name found) (members p n l.reader)) none
          ∙ list_turn said name p n key l.reader s comes (map g.T.Item.shown done.field-0.items) r (omega (arith, l.invariant.1, shorter)) same done.ensures.is,
    )

pub returns-clause-is : goal.returns-clause-is
returns-clause-is g c =
    let l = c.loop-found in
    let s = c.next_key.new.reader in
    let found = option_map (λ list. map g.T.Item.shown list.items) l.found in
    let comes : read_key l.reader ≡ Some (None, s) = c.in_ok-key.ensures.is
    ∙ ap (λ (o : Option (Bor (List ℕ))). Some (option_map (λ text. text.now) o, s)) c.in_default.is in
    l.invariant.2 ∙ members_over (list_of g.T.Item.said) c.args.name.now (value c.args.depth) l.invariant.0 l.reader s found l.invariant.1 comes
