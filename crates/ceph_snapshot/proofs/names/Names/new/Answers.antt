use Rattle.std.proofs.Common.{◌∙◌, [], ℕ, Global, List, Option, Some, Vec, ap, cond}
use Rattle.std.specs.HashMap.{get_by}
use Rattle.std.specs.Map.{lookup}
use Rattle.std.specs.Str.{bytes_eq}
use Rattle.ceph_snapshot.proofs.Lookups.{inserted}
use Rattle.ceph_snapshot.proofs.names.Names.new.Goals as goal

pub returns : goal.returns
returns c = λ path.
    inserted c.new-numbers.result c.insert.new.self c.new.result.items (Some 0) c.in_ok-insert.ensures.updates path
    ∙ (ap (λ (bs : List ℕ). cond (bytes_eq bs path) (Some 0) (get_by (λ (k : Vec ℕ Global). bytes_eq path k.items) c.new-numbers.result)) c.new.ensures.items
    ∙ ap (λ (o : Option ℕ). cond (bytes_eq [] path) (Some 0) o) (ap (lookup (λ (k : Vec ℕ Global). bytes_eq path k.items)) c.new-numbers.ensures.empty))
