use Rattle.std.proofs.Common.{◌≡◌, ◌<◌, ℕ, List, [], ◌∷◌, ◌++◌, length, get_or, set, map, Vec, Global, sym, ap, ◌∙◌}
use Rattle.std.proofs.lemmas.List.{map-set, get_or-map}
use Rattle.export_machine.proofs.changes.enter.Goals as goal

abbrev items_of : {T : Type 0} → Vec T Global → List T
items_of list = list.items

entered : {T : Type 0} (js : List (Vec T Global)) (f : ℕ) (v d : Vec T Global) (entry : T) → f < length js → d ≡ get_or js f d →
    v.items ≡ d.items ++ entry ∷ [] → map items_of (set js f v) ≡ set (map items_of js) f (get_or (map items_of js) f [] ++ entry ∷ [])
entered js f v d entry near e h =
    sym (rw (map-set items_of js f v) (ap (λ l. set (map items_of js) f l)
    (ap (λ l. l ++ entry ∷ []) (get_or-map items_of js f d [] near ∙ ap items_of (sym e)) ∙ sym h)))

pub returns : goal.returns
returns g c =
    let near : c.number.result < length c.args.lists.now.items = rw c.number.ensures.value c.requires.near in
    record {
      entered = rw (← c.number.ensures.value)
          (entered c.args.lists.now.items c.number.result c.push_reserved.new.self c.index_mut.result.now c.args.entry near
          c.index_mut.ensures.value c.push_reserved.ensures.items);
    }
