use Rattle.std.proofs.Common.{◌∙◌, [], ℕ, Bor, List, Option, ap, map}
use Rattle.std.specs.Prelude.{codes}
use Rattle.std.specs.Option.{unwrap_or}
use Rattle.std.proofs.lemmas.Result.{IfOk-weaker}
use Rattle.clap.specs.Words.{found_of}
use Rattle.clap.proofs.WalkLemmas.{raw_values-rows}
use Rattle.mdbal_ceph.proofs.matched.folders_of.Goals as goal

pub returns-in-Some : goal.returns-in-Some
returns-in-Some c =
    let named = ap (λ (texts : Option (List (List ℕ))). unwrap_or texts [])
    (c.in-Some.ensures ∙ raw_values-rows (found_of c.args.matches.now) (codes "folder")) in
    IfOk-weaker c.from_slice.result _ _
    (λ folders is. ap (map (λ (text : Bor (List ℕ)). text.now)) is ∙ named) c.from_slice.ensures.items

pub returns-in-None : goal.returns-in-None
returns-in-None c =
    let named = ap (λ (texts : Option (List (List ℕ))). unwrap_or texts [])
    (c.in-None.ensures ∙ raw_values-rows (found_of c.args.matches.now) (codes "folder")) in
    ap (map (λ (text : Bor (List ℕ)). text.now)) c.new.ensures.items ∙ named
