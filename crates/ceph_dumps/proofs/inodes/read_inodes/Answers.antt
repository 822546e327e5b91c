use Rattle.std.proofs.Common.{◌≡◌, ◌∙◌, ◌++◌, ◌∷◌, [], ℕ, IsErrOf, List, ap, append_assoc, arith, false, rules, subst, sym}
use Rattle.std.specs.List.{flat_map}
use Rattle.std.proofs.lemmas.List.{flat_map_more}
use Rattle.std.proofs.lemmas.List.Elements.{All-push}
use Rattle.ceph_dumps.specs.declared.dump_error.DumpError.TheVariants.{Record}
use Rattle.ceph_dumps.specs.Inodes.{IsInodeRecord, has_nul, with_nul}
use Rattle.ceph_dumps.specs.OneForOne.{AreOneForOne}
use Rattle.ceph_dumps.proofs.Records.{first_nul, one_more}
use Rattle.ceph_dumps.proofs.inodes.read_inodes.Goals as goal

pub returns-in_err-read_record-clause-refused : goal.returns-in_err-read_record-clause-refused
returns-in_err-read_record-clause-refused c = λ number is.
    let text : List ℕ = c.in-Some.text.now in
    let refused : IsErrOf c.read_record.result (Record number) = search rules in
    let broken = c.read_record.ensures.refused number refused in
    let whole : c.loop-rest.rest.now ≡ with_nul text ++ c.in-Some.behind.now = search rules in
    let single : has_nul text ≡ false = search rules in
    record {
      rest = c.loop-rest.rest.now;
      found = c.loop-rest.found.items;
      before = c.loop-rest.invariant;
      counted = omega (arith, broken.0);
      none = λ other after dir parts free told.
          let same : other ≡ text = first_nul other text after c.in-Some.behind.now free single (sym parts ∙ whole) in
          broken.1 dir (subst (λ (t : List ℕ). IsInodeRecord t dir) same told);
    }

pub loop-rest-preserved : goal.loop-rest-preserved
loop-rest-preserved c =
    let text : List ℕ = c.in-Some.text.now in
    let before = c.loop-rest.invariant in
    let parts : c.loop-rest.rest.now ≡ with_nul text ++ c.in-Some.behind.now = search rules in
    let free : has_nul text ≡ false = search rules in
    record {
      texts = before.texts ++ text ∷ [];
      whole = before.whole
          ∙ (ap (λ (rest : List ℕ). flat_map with_nul before.texts ++ rest) parts
          ∙ (sym (append_assoc (flat_map with_nul before.texts) (with_nul text) c.in-Some.behind.now)
          ∙ ap (λ (front : List ℕ). front ++ c.in-Some.behind.now) (flat_map_more with_nul [] before.texts text)));
      single = All-push (λ (one : List ℕ). has_nul one ≡ false) before.texts text before.single free;
      each = subst (AreOneForOne IsInodeRecord (before.texts ++ text ∷ [])) (sym c.in_ok-push.ensures.items)
          (one_more IsInodeRecord before.texts c.loop-rest.found.items text c.in_ok-read_record.field-0 before.each c.in_ok-read_record.ensures.is);
    }
