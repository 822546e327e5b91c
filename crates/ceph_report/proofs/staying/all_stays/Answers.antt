use Rattle.std.proofs.Common.{◌≡◌, ◌∙◌, ◌+◌, ◌<◌, ◌++◌, ◌∷◌, [], ℕ, List, Option, None, ap, arith, below_more, get_or, length, sym, subst}
use Rattle.std.proofs.lemmas.List.{get_or_append_left, get_or_push, length_push}
use Rattle.ceph_snapshot.specs.declared.directory.Directory.{Directory}
use Rattle.ceph_report.specs.Staying.{stay_at}
use Rattle.ceph_report.specs.declared.staying.Stay.{Stay}
use Rattle.ceph_report.proofs.staying.all_stays.Goals as goal

pub loop-at-preserved : goal.loop-at-preserved
loop-at-preserved c =
    let ds : List Directory = c.args.directories.now in
    let leaders : List ℕ = c.args.leaders.now in
    let items : List (Option Stay) = c.loop-at.stays.items in
    let at : ℕ = c.loop-at.at in
    let one : Option Stay = c.stay_at.result in
    let size : length items ≡ at = c.loop-at.invariant.size in
    let pushed : c.push.new.self.items ≡ items ++ one ∷ [] = c.in_ok-push.ensures.items in
    subst (λ (xs : List (Option Stay)). record {
      size : length xs ≡ at + 1;
      at : (i : ℕ) → i < at + 1 → get_or xs i None ≡ stay_at ds leaders i;
    }) (sym pushed) (record {
      size = length_push items one ∙ ap (λ (n : ℕ). n + 1) size;
      at = below_more (λ (i : ℕ). get_or (items ++ one ∷ []) i None ≡ stay_at ds leaders i) at
          (λ i before. get_or_append_left items (one ∷ []) None i (omega (arith, before, size)) ∙ c.loop-at.invariant.at i before)
          (get_or_push items one None at size ∙ c.stay_at.ensures);
    })
