use Rattle.std.proofs.Common.{◌≡◌, ◌∙◌, ◌==◌, ◌||◌, refl, rules, sym, tests, true}
use Rattle.std.proofs.lemmas.Iterator.{YieldsList-from_slice}
use Rattle.std.proofs.lemmas.Iterator.Search.{all_from_yields_List}
use Rattle.ceph_dumps.specs.Listing.{IsShareText, is_zero}
use Rattle.ceph_dumps.proofs.listing.policy_of.Goals as goal

pub returns-then-is_zero : goal.returns-then-is_zero
returns-then-is_zero c =
    let found : c.all-is_zero.result ≡ is_zero c.args.number.now =
    all_from_yields_List (λ k. (k == 48) || (k == 46)) _ _ _ c.all-is_zero.ensures.ran
    (YieldsList-from_slice c.args.number.now c.iter.ensures.rest) (λ x r q k. search (rules, tests)) in
    let zero : is_zero c.args.number.now ≡ true = sym found ∙ c.if-is_zero.true in
    let share : IsShareText c.args.number.now = search rules in
    rw zero (share, refl)
