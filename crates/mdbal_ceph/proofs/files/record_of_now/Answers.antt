use Rattle.std.proofs.Common.{◌≡◌, ◌∙◌, [], Bor, List, None, Option, Some, Vec, Global, ap, false, refl, true, ℕ}
use Rattle.std.specs.Prelude.{is_some, not}
use Rattle.std.specs.Option.{option_map}
use Rattle.std.proofs.lemmas.Bool.{both_ways}
use Rattle.mdbal_ceph.specs.Options.{IsRecordText}
use Rattle.mdbal_ceph.specs.declared.collected.Collected.{Collected}
use Rattle.mdbal_ceph.proofs.files.record_of_now.Goals as goal

-- of a record that is asked for, whatever its file's name
asked : (name : Option (Bor (List ℕ))) (collected : Collected) (text : Vec ℕ Global) → is_some name ≡ true → IsRecordText (Some []) collected (Some text)
    → IsRecordText (option_map (λ (one : Bor (List ℕ)). one.now) name) collected (Some text)
asked None collected text some is = absurd (both_ways false refl some)
asked (Some one) collected text some is = is

pub returns : goal.returns
returns c =
    asked c.args.settings.now.record_to c.args.collected.now c.in_ok-write_hour.field-0 (c.is_none.ensures ∙ ap not c.if-is_none.false)
    (c.in_ok-kept.kept, c.in_ok-file_system.file_system, c.in_ok-file_system.ensures, c.in_ok-kept.ensures, c.in_ok-write_hour.ensures)
