use Rattle.std.proofs.Common.{◌≡◌, [], ◌∷◌, ◌++◌, rules}
use Rattle.authority_map.proofs.WriterLemmas.{all_new}
use Rattle.authority_map.proofs.map_writer.readers_of.Goals as goal

pub loop-made-preserved : goal.loop-made-preserved
loop-made-preserved g c =
    let inv = c.loop-made.invariant in
    let order : c.push_reserved.new.self.items ≡ c.loop-made.list.items ++ c.over.result ∷ [] = search rules in (
      search rules,
      search rules,
      all_new c.args.start.now c.loop-made.list.items c.push_reserved.new.self.items c.over.result order inv.2 (search rules),
    )
