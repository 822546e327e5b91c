use Rattle.std.proofs.Common.{rules, ◌≡◌, ◌∙◌, ◌&&◌, ◌||◌, is_some, length, nat_lt, sym, true}
use Rattle.std.proofs.lemmas.Bool.{false≢true}
use Rattle.mdbal_ceph.proofs.settings.fitting.Goals as goal

pub returns-then-has_needless_past-clause-wrong : goal.returns-then-has_needless_past-clause-wrong
returns-then-has_needless_past-clause-wrong c = λ same.
    let settings = c.in-Ok.settings in
    let needless : ((is_some settings.check || settings.paths0) && nat_lt 0 (length settings.past.earlier.items)) ≡ true = search rules in
    record {
      right = c.in-Ok.ensures.right same;
      settings = settings;
      read = c.in-Ok.ensures.read same;
      unfit = λ fit. absurd (false≢true (sym fit ∙ needless));
    }
