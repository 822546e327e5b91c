use Rattle.std.proofs.Common.{◌≡◌, ◌+◌, ◌-◌, ◌/◌, ℕ, get_or, ap, arith, rules}
use Rattle.std.proofs.lemmas.List.{get_or_read}
use Rattle.authority_map.proofs.Unions.{runs_united, cells_united, index_some, index_united}
use Rattle.authority_map.proofs.runs.unite.Goals as goal

pub returns-clause-cells : goal.returns-clause-cells
returns-clause-cells c cell this has =
    let starts = c.args.runs.now.starts.items in
    let cells = c.args.runs.now.cells.items in
    rw (c.remove-start.ensures.items, c.remove-cell.ensures.items)
    (cells_united c.args.limit starts cells c.args.run c.requires.table.shape c.requires.some c.requires.there c.requires.alike cell
    this has)

pub index_one_fewer-requires : goal.index_one_fewer-requires
index_one_fewer-requires c =
    let starts = c.args.runs.now.starts.items in
    let read : c.remove-start.result ≡ get_or starts c.args.run 0 =
    get_or_read starts c.args.run c.remove-start.result c.requires.there c.remove-start.ensures.value 0 in
    index_some c.args.limit starts c.args.runs.now.cells.items c.args.run c.requires.table.shape c.requires.some c.requires.there
    c.requires.alike c.args.index.now.items ((c.remove-start.result + 256 - 1) / 256)
    (omega (arith, ap (λ (n : ℕ). (n + 255) / 256) read)) c.requires.table.indexed

pub returns-clause-table : goal.returns-clause-table
returns-clause-table c =
    let starts = c.args.runs.now.starts.items in
    let cells = c.args.runs.now.cells.items in
    let read : c.remove-start.result ≡ get_or starts c.args.run 0 =
    get_or_read starts c.args.run c.remove-start.result c.requires.there c.remove-start.ensures.value 0 in
    record {
      shape = rw (c.remove-start.ensures.items, c.remove-cell.ensures.items)
          (runs_united c.args.limit starts cells c.args.run c.requires.table.shape c.requires.some c.requires.there c.requires.alike);
      indexed = rw c.remove-start.ensures.items
          (index_united c.args.limit starts cells c.args.run c.requires.table.shape c.requires.some c.requires.there c.requires.alike
          c.args.index.now.items c.index_one_fewer.new.index.items ((c.remove-start.result + 256 - 1) / 256)
          (omega (arith, ap (λ (n : ℕ). (n + 255) / 256) read)) c.requires.table.indexed c.index_one_fewer.ensures);
      room = search rules;
    }
