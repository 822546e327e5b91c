-- The columns of the table of directories where one row is written.
use Rattle.std.proofs.Common.{◌≡◌, ℕ, zero, suc, ◌<◌, List, [], ◌∷◌, length, get_or, set, map, Option, None, Vec, refl, sym, ap, ◌∙◌, arith}
use Rattle.std.specs.Vec.{with_item}
use Rattle.std.proofs.lemmas.List.{map-set, get_or-map, length-map}
use Rattle.export_machine.specs.declared.dir_table.DirRow.{DirRow}
use Rattle.export_machine.specs.Columns.{DirColumns, columns_of}

-- what is written is what was there
pub set_same : {R A : Type 0} (f : R → A) (rows : List R) (i : ℕ) (row : R) → row ≡ get_or rows i row → set (map f rows) i (f row) ≡ map f rows
set_same f [] zero row h = refl
set_same f [] (suc i) row h = refl
set_same f (r ∷ rows) zero row h = ap (λ a. f a ∷ map f rows) h
set_same f (r ∷ rows) (suc i) row h = ap (λ xs. f r ∷ xs) (set_same f rows i row h)

module _ {A : Type 0} (v : Vec DirRow A) (t : DirColumns) (is : columns_of v ≡ t) (i d : ℕ) (number : i ≡ d) (row : DirRow)
    (here : row ≡ get_or v.items i row) where
  own : {B : Type 0} (f : DirRow → B) → set (map f v.items) i (f row) ≡ map f v.items
  own f = set_same f v.items i row here

  written : (new : DirRow) → columns_of (with_item v i new) ≡ record {
    parents = set (columns_of v).parents i new.parent;
    named = set (columns_of v).named i new.named;
    owners = set (columns_of v).owners i new.owner;
    opened = set (columns_of v).opened i new.opened;
    running = set (columns_of v).running i new.running;
    children = set (columns_of v).children i new.children;
    spare = (columns_of v).spare;
  }
  written new = rw (
    map-set (λ r. r.parent) v.items i new,
    map-set (λ r. r.named) v.items i new,
    map-set (λ r. r.owner) v.items i new,
    map-set (λ r. r.opened) v.items i new,
    map-set (λ r. r.running) v.items i new,
    map-set (λ r. r.children) v.items i new,
  ) refl

  pub named_set : (o : Option ℕ) → columns_of (with_item v i (record row { named = o })) ≡ record t { named = set t.named d o }
  named_set o = written (record row { named = o })
      ∙ (rw (own (λ r. r.parent), own (λ r. r.owner), own (λ r. r.opened), own (λ r. r.running), own (λ r. r.children)) refl
      ∙ (ap (λ (u : DirColumns). record u { named = set u.named i o }) is ∙ ap (λ k. record t { named = set t.named k o }) number))

  pub owner_set : (o : Option ℕ) → columns_of (with_item v i (record row { owner = o })) ≡ record t { owners = set t.owners d o }
  owner_set o = written (record row { owner = o })
      ∙ (rw (own (λ r. r.parent), own (λ r. r.named), own (λ r. r.opened), own (λ r. r.running), own (λ r. r.children)) refl
      ∙ (ap (λ (u : DirColumns). record u { owners = set u.owners i o }) is ∙ ap (λ k. record t { owners = set t.owners k o }) number))

  pub opened_set : (o : Option ℕ) → columns_of (with_item v i (record row { opened = o })) ≡ record t { opened = set t.opened d o }
  opened_set o = written (record row { opened = o })
      ∙ (rw (own (λ r. r.parent), own (λ r. r.named), own (λ r. r.owner), own (λ r. r.running), own (λ r. r.children)) refl
      ∙ (ap (λ (u : DirColumns). record u { opened = set u.opened i o }) is ∙ ap (λ k. record t { opened = set t.opened k o }) number))

  running_set : (n : ℕ) → columns_of (with_item v i (record row { running = n })) ≡ record t { running = set t.running d n }
  running_set n = written (record row { running = n })
      ∙ (rw (own (λ r. r.parent), own (λ r. r.named), own (λ r. r.owner), own (λ r. r.opened), own (λ r. r.children)) refl
      ∙ (ap (λ (u : DirColumns). record u { running = set u.running i n }) is ∙ ap (λ k. record t { running = set t.running k n }) number))

  children_set : (n : ℕ) → columns_of (with_item v i (record row { children = n })) ≡ record t { children = set t.children d n }
  children_set n = written (record row { children = n })
      ∙ (rw (own (λ r. r.parent), own (λ r. r.named), own (λ r. r.owner), own (λ r. r.opened), own (λ r. r.running)) refl
      ∙ (ap (λ (u : DirColumns). record u { children = set u.children i n }) is ∙ ap (λ k. record t { children = set t.children k n }) number))

  pub gone : columns_of (with_item v i (record row { parent = None; named = None; owner = None }))
      ≡ record t { parents = set t.parents d None; named = set t.named d None; owners = set t.owners d None }
  gone = written (record row { parent = None; named = None; owner = None })
      ∙ (rw (own (λ r. r.opened), own (λ r. r.running), own (λ r. r.children)) refl
      ∙ (ap (λ (u : DirColumns). record u { parents = set u.parents i None; named = set u.named i None; owners = set u.owners i None }) is
      ∙ ap (λ k. record t { parents = set t.parents k None; named = set t.named k None; owners = set t.owners k None }) number))

  -- a number of the row, read in its column
  read : (f : DirRow → ℕ) (column : DirColumns → List ℕ) → column (columns_of v) ≡ map f v.items → d < length (column t) → f row ≡ get_or (column t) d 0
  read f column e near =
      let long : length (column t) ≡ length v.items = ap (λ (u : DirColumns). length (column u)) (sym is) ∙ (ap length e ∙ length-map v.items f) in
      ap f here ∙ (sym (get_or-map f v.items i row 0 (omega (arith, long)))
      ∙ (ap (λ xs. get_or xs i 0) (sym e) ∙ (ap (λ (u : DirColumns). get_or (column u) i 0) is ∙ ap (λ k. get_or (column t) k 0) number)))

  pub running_written : (change : ℕ → ℕ) → d < length t.running →
      columns_of (with_item v i (record row { running = change row.running })) ≡ record t { running = set t.running d (change (get_or t.running d 0)) }
  running_written change near = running_set (change row.running)
      ∙ ap (λ n. record t { running = set t.running d (change n) }) (read (λ r. r.running) (λ u. u.running) refl near)

  pub children_written : (change : ℕ → ℕ) → d < length t.children →
      columns_of (with_item v i (record row { children = change row.children })) ≡ record t { children = set t.children d (change (get_or t.children d 0)) }
  children_written change near = children_set (change row.children)
      ∙ ap (λ n. record t { children = set t.children d (change n) }) (read (λ r. r.children) (λ u. u.children) refl near)
