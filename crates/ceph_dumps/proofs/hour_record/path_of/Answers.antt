use Rattle.std.proofs.Common.{◌≡◌, ◌∙◌, ℕ, List, subst, sym}
use Rattle.std.specs.Prelude.{IfOk}
use Rattle.ceph_dumps.proofs.Names.{named_plain}
use Rattle.ceph_dumps.proofs.hour_record.path_of.Goals as goal

pub returns-then-not-has_backslash : goal.returns-then-not-has_backslash
returns-then-not-has_backslash c =
    subst (λ (bytes : List ℕ). IfOk c.from_slice.result (λ path. path.items ≡ bytes))
    (sym (named_plain c.args.name.now (sym c.has_backslash.ensures ∙ c.if-not-has_backslash.true)))
    c.from_slice.ensures.items
