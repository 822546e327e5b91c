use Rattle.std.proofs.Common.{◌≡◌, ◌<◌, ◌≤◌, ◌+◌, ℕ, zero, suc, true, ltb, List, [], ◌∷◌, length, set, Some, Vec, Global, refl, ap, ◌∙◌, arith}
use Rattle.std.proofs.lemmas.Bool.{ltb-true}
use Rattle.std.specs.List.{slice_get}
use Rattle.std.proofs.Math.Seq.{map-set_same}
use Rattle.export_machine.specs.Kept.{is_spare}
use Rattle.std.specs.Vec.{vec_len, vec_capacity}
use Rattle.export_protocol.proofs.Accepted.{item_at}
use Rattle.export_machine.proofs.Bounds.{on_ok}
use Rattle.export_machine.proofs.Listed.{set_places}
use Rattle.export_machine.proofs.applying.grow_list.Goals as goal

abbrev items_of : {T : Type 0} → Vec T Global → List T
items_of list = list.items

set_here : {A : Type 0} (xs : List A) (k : ℕ) (a : A) → k < length xs → slice_get (set xs k a) k ≡ Some a
set_here [] k a h = absurd (omega arith)
set_here (x ∷ xs) zero a h = refl
set_here (x ∷ xs) (suc k) a h = set_here xs k a (omega arith)

less : (m n : ℕ) → m + 1 ≤ n → ltb m n ≡ true
less m n h = grind arith

pub returns-clause-entries : goal.returns-clause-entries
returns-clause-entries g c =
    map-set_same items_of c.args.lists.now.items c.args.index c.reserve.new.self c.index_mut.result.now
    (c.reserve.ensures.items ∙ ap items_of c.index_mut.ensures.value)

pub returns-clause-room : goal.returns-clause-room
returns-clause-room g c =
    let near : c.args.index < length c.args.lists.now.items = c.requires.near in
    let e : slice_get (set c.args.lists.now.items c.args.index c.reserve.new.self) c.args.index
    ≡ Some c.reserve.new.self = set_here c.args.lists.now.items c.args.index c.reserve.new.self near in
    on_ok c.reserve.result (λ h. rw e (less (vec_len c.reserve.new.self) (vec_capacity c.reserve.new.self) (omega (arith, h)))) c.reserve.ensures.ok

pub returns-clause-ready : goal.returns-clause-ready
returns-clause-ready g c = λ h.
    (let near : c.args.index < length c.args.lists.now.items = c.requires.near in
    let e = item_at c.args.lists.now.items c.args.index c.index_mut.result.now near c.index_mut.ensures.value in
    let s : is_spare (slice_get c.args.lists.now.items c.args.index) ≡ true = h in
    let l = ltb-true _ _ (rw e at s) in
    c.reserve.ensures.succeeds (omega arith))

spare_kept : (old new old_room new_room : ℕ) → new ≡ old → old_room ≤ new_room → ltb old old_room ≡ true → ltb new new_room ≡ true
spare_kept old new old_room new_room e h k = grind arith

pub returns-clause-spare : goal.returns-clause-spare
returns-clause-spare g c = set_places c.args.lists.now.items c.args.index c.reserve.new.self c.index_mut.result.now c.requires.near c.index_mut.ensures.value
    (spare_kept (vec_len c.index_mut.result.now) (vec_len c.reserve.new.self) (vec_capacity c.index_mut.result.now)
    (vec_capacity c.reserve.new.self) (omega arith) (omega arith))
