use Rattle.std.proofs.Common.{◌≡◌, ◌∙◌, ◌++◌, ◌∷◌, [], Bor, List, Option, ℕ, ap, codes, drop, false, refl, rules, subst, sym, take, true}
use Rattle.std.specs.Prelude.{option_map}
use Rattle.std.proofs.lemmas.Bool.{false_from_ne_true}
use Rattle.std.proofs.lemmas.List.{take-append-drop}
use Rattle.std.proofs.lemmas.Slice.Eq.{bytes_eq-Decides}
use Rattle.ceph_dumps.specs.declared.listing.ListedDir.{ListedDir}
use Rattle.ceph_dumps.specs.Listing.{IsListedAs, NamedLine, is_gap, is_name_line, is_said, line_below}
use Rattle.ceph_dumps.specs.OneForOne.{AreOneForOne}
use Rattle.ceph_dumps.proofs.Records.{one_more}
use Rattle.ceph_dumps.proofs.listing.add_line.Goals as goal

name_line : (line : List ℕ) → is_name_line line ≡ true → line ≡ codes "# file: " ++ drop 8 line
name_line line is = sym (take-append-drop 8 line) ∙ ap (λ (front : List ℕ). front ++ drop 8 line) ((bytes_eq-Decides (take 8 line) (codes "# file: ")).0 is)

no_name : (line : List ℕ) → ((rest : List ℕ) → line ≡ codes "# file: " ++ rest → ⊥) → is_name_line line ≡ false
no_name line none = false_from_ne_true (is_name_line line) (λ yes. none (drop 8 line) (name_line line yes))

said_line : (line : List ℕ) → is_name_line line ≡ false → is_gap line ≡ false → is_said line ≡ true
said_line line name gap = rw (name, gap) refl

pub returns-clause-lines : goal.returns-clause-lines
returns-clause-lines c = λ lines was.
    let line : List ℕ = c.args.line.now in
    let above : Option (List ℕ) = option_map (λ (here : Bor (List ℕ)). here.now) c.args.name in
    let dir : ListedDir = c.in_ok-listed.field-0 in
    let no_gap : is_gap line ≡ false = search rules in
    let below : line_below above line ≡ (above, line) ∷ [] = rw (said_line line (no_name line c.in_default.ensures) no_gap) refl in
    let pushed : c.push.new.self.items ≡ c.args.found.now.items ++ dir ∷ [] = c.in_ok-push.ensures.items in
    subst (λ (more : List NamedLine). AreOneForOne IsListedAs (lines ++ more) c.push.new.self.items) (sym below)
    (subst (AreOneForOne IsListedAs (lines ++ (above, line) ∷ [])) (sym pushed)
    (one_more IsListedAs lines c.args.found.now.items (above, line) dir was c.in_ok-listed.ensures.is))
