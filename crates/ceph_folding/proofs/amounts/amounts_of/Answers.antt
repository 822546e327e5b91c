use Rattle.std.proofs.Common.{◌≡◌, ◌<◌, ◌+◌, ◌++◌, ◌∷◌, [], ◌∙◌, ℕ, List, Option, Some, length, slice_get, slice_index, ap, refl, sym, subst}
use Rattle.std.specs.Option.{option_map_or}
use Rattle.std.proofs.lemmas.List.{length_push}
use Rattle.std.proofs.lemmas.Option.{slice_get_read}
use Rattle.ceph_snapshot.specs.declared.directory.Directory.{Directory}
use Rattle.ceph_folding.specs.Amounts.{amount_at, amount_of}
use Rattle.ceph_snapshot.proofs.Adding.{values_more}
use Rattle.ceph_folding.proofs.amounts.amounts_of.Goals as goal

pub loop-directory-preserved : goal.loop-directory-preserved
loop-directory-preserved c =
    let ds : List Directory = c.args.directories.now in
    let amounts : List ℕ = c.loop-directory.amounts.items in
    let at : ℕ = c.loop-directory.directory-index in
    let one : Directory = c.directory-item.result in
    let pushed : c.push.new.self.items ≡ amounts ++ c.of.result ∷ [] = c.in_ok-push.ensures.items in
    let read : slice_get ds at ≡ Some one = slice_get_read ds (length ds) at one refl c.loop-directory-test.true c.directory-item.is in
    let here : c.of.result ≡ amount_at c.args.amount ds at = c.of.ensures
    ∙ sym (ap (λ (o : Option Directory). option_map_or (amount_of c.args.amount) o 0) read) in
    record {
      size = ap length pushed ∙ (length_push amounts c.of.result ∙ ap (λ (n : ℕ). n + 1) c.loop-directory.invariant.size);
      amounts = subst (λ (xs : List ℕ). (i : ℕ) → i < at + 1 → slice_index xs i ≡ amount_at c.args.amount ds i) (sym pushed)
          (values_more 0 (amount_at c.args.amount ds) amounts c.of.result at c.loop-directory.invariant.size c.loop-directory.invariant.amounts here);
    }
