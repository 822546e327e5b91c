use Rattle.std.proofs.Common.{◌∙◌, ◌++◌, ℕ, List, ap, append_assoc, string_bytes, codes}
use Rattle.std.proofs.lemmas.Result.{on_ok_weaker}
use Rattle.plan_text.specs.Text.{price_line, table}
use Rattle.plan_text.proofs.writer.push_prices.Goals as goal

pub returns : goal.returns
returns c =
    let parts : List ℕ = table (codes "part_prices") price_line c.args.part_price.now in
    let ranks : List ℕ = table (codes "rank_prices") price_line c.args.rank_price.now in
    on_ok_weaker c.push_table-2.result
    (λ d. d ∙ (ap (λ (t : List ℕ). t ++ ranks) c.in_ok-push_table.ensures ∙ append_assoc (string_bytes c.args.out.now) parts ranks))
    c.push_table-2.ensures
