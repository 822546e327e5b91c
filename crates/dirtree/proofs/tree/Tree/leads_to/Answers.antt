use Rattle.std.proofs.Common.{◌≡◌, ◌<◌, List, [], ◌∷◌, Option, sym, ◌∙◌, arith, true, false}
use Rattle.std.proofs.lemmas.Bool.{false≢true}
use Rattle.std.proofs.lemmas.Grind.{common_steps}
use Rattle.std.proofs.lemmas.Slice.Eq.{bytes_eq-Decides}
use Rattle.dirtree.specs.Tree.{Entry, is_there}
use Rattle.dirtree.proofs.PathRoundTrip.{path_leads}
use Rattle.dirtree.proofs.WaysDown.{leads_root, leads_down}
use Rattle.dirtree.proofs.tree.Tree.leads_to.Goals as goal

pub returns-then-not-contains-clause-leads : goal.returns-then-not-contains-clause-leads
returns-then-not-contains-clause-leads c =
    let gone : is_there c.args.self.now.entries c.args.dir ≡ false = grind (arith, common_steps) in (
      λ no. absurd (false≢true no),
      λ h. absurd (false≢true (sym gone
          ∙ ((path_leads c.args.self.now.entries c.args.path.now c.args.dir c.numbers.ensures.tree).0 h).0)),
    )

pub returns-then-eq-clause-leads : goal.returns-then-eq-clause-leads
returns-then-eq-clause-leads c =
    let root : c.args.dir ≡ 0 = grind (arith, common_steps, c.if-eq.ensures) in
    let leads = leads_root c.args.self.now.entries c.args.path.now c.numbers.ensures.tree in
    let slash = bytes_eq-Decides c.args.path.now (47 ∷ []) in
    rw root (λ h. leads.1 (slash.0 (sym c.eq-then-eq.ensures ∙ h)), λ h. c.eq-then-eq.ensures ∙ slash.1 (leads.0 h))

pub returns-clause-leads : goal.returns-clause-leads
returns-clause-leads c =
    let es : List (Option Entry) = c.args.self.now.entries in
    let there : is_there es c.args.dir ≡ true = grind (arith, common_steps) in
    let some : 0 < c.args.dir = grind (arith, common_steps, c.if-eq.ensures) in
    let leads = leads_down es c.args.path.now c.args.dir c.numbers.ensures.tree some there in
    let down = c.is_way_down.ensures in
    (λ h. leads.1 (sym c.as_bytes.ensures.value ∙ down.0 h), λ h. down.1 (c.as_bytes.ensures.value ∙ leads.0 h))
