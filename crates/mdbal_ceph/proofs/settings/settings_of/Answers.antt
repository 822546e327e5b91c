use Rattle.std.proofs.Common.{◌≡◌, List, [], map, subst}
use Rattle.std.proofs.lemmas.Result.{err_from_is_err_and}
use Rattle.clap.specs.Words.{Row, Text, fault_of, matches_of}
use Rattle.mdbal_ceph.specs.CommandLine.{GivesNoSettings, GivesNone, mdbal_ceph}
use Rattle.mdbal_ceph.specs.Options.{AreRead}
use Rattle.mdbal_ceph.specs.WrongValues.{AreRight}
use Rattle.mdbal_ceph.specs.declared.settings.Refused.{Refused}
use Rattle.mdbal_ceph.specs.declared.settings.Refused.TheVariants.{ManyFolders, Value, Words}
use Rattle.mdbal_ceph.proofs.settings.settings_of.Goals as goal

-- what `clap` found gives no settings, and so the words give none
none_settings : (words : List Text) (refused : Refused) → fault_of mdbal_ceph words ≡ [] → GivesNone (matches_of mdbal_ceph words) refused
    → GivesNoSettings words refused
none_settings words (Words error) accepted none = absurd none
none_settings words (Value wrong) accepted none = (accepted, none)
none_settings words ManyFolders accepted none = (accepted, none)

pub returns-in_err-settings-clause-refused : goal.returns-in_err-settings-clause-refused
returns-in_err-settings-clause-refused g c =
    let refused = c.in_err-settings.field-0.0 in
    let e = err_from_is_err_and c.from_residual.result c.from_residual.ensures.1 in
    rw (e.1, e.2)
    (none_settings (map g.S.AsStr.text c.args.words.now) refused c.in-Ok.ensures.accepted
    (subst (λ (rows : List Row). GivesNone rows refused) c.in-Ok.ensures.found
    (c.in_err-settings.ensures.wrong c.in-Ok-folders_of.ensures)))

pub returns-clause-settings : goal.returns-clause-settings
returns-clause-settings g c =
    let settings = c.in_ok-settings.settings in
    let read = c.in_ok-settings.ensures.settings c.in-Ok-folders_of.ensures in
    let right = c.in_ok-settings.ensures.right c.in-Ok-folders_of.ensures in (
      subst (λ (rows : List Row). AreRead rows settings) c.in-Ok.ensures.found read.0,
      read.1,
      subst AreRight c.in-Ok.ensures.found right,
    )
