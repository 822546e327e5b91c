use Rattle.std.proofs.Common.{◌≡◌, ◌∙◌, ◌<◌, ℕ, List, Option, Some, None, ap, arith, cond, length, sym, take}
use Rattle.std.specs.HashMap.{get_by}
use Rattle.std.specs.Str.{bytes_eq}
use Rattle.std.proofs.lemmas.List.Sums.{fold_more}
use Rattle.ceph_dumps.specs.declared.own_list.OwnPin.{OwnPin}
use Rattle.ceph_snapshot.specs.Gathered.{listed_rank, rank_named}
use Rattle.ceph_snapshot.proofs.Lookups.{inserted}
use Rattle.ceph_snapshot.proofs.snapshot.listed_ranks.Goals as goal

pub loop-pin-preserved : goal.loop-pin-preserved
loop-pin-preserved c = λ path.
    let own : List OwnPin = c.args.own.now in
    let at : ℕ = c.loop-pin.pin-index in
    let pin : OwnPin = c.pin-item.result in
    let inside : at < length own = omega (arith, c.loop-pin-test.true) in
    let key : c.in_ok-from_slice.field-0.items ≡ pin.path.items = c.in_ok-from_slice.ensures.items ∙ c.deref.ensures.value in
    inserted c.loop-pin.ranks c.insert.new.self c.in_ok-from_slice.field-0.items (Some pin.rank) c.in_ok-insert.ensures.updates path
    ∙ (ap (λ (bs : List ℕ). cond (bytes_eq bs path) (Some pin.rank) (get_by (λ key. bytes_eq path key.items) c.loop-pin.ranks)) key
    ∙ (ap (λ (before : Option ℕ). rank_named path before pin) (c.loop-pin.invariant path)
    ∙ (ap (λ (one : OwnPin). rank_named path (listed_rank (take at own) path) one) c.pin-item.is
    ∙ sym (fold_more (rank_named path) None own at pin inside))))
