use Rattle.std.proofs.Common.{◌≡◌, ◌∙◌, ap, false, rules, sym, true}
use Rattle.std.proofs.lemmas.Bool.{both_ways}
use Rattle.ceph_dumps.specs.Inodes.{IsNumberAndName, rooted}
use Rattle.ceph_dumps.specs.Paths.{is_clean_path}
use Rattle.ceph_dumps.proofs.Records.{same_name}
use Rattle.ceph_dumps.proofs.inodes.read_record.Goals as goal

pub returns-in_default-clause-refused : goal.returns-in_default-clause-refused
returns-in_default-clause-refused c = λ other is. (cc, λ dir told. c.in_default.ensures told.number told.name told.words)

pub returns-then-not-is_clean_path-clause-refused : goal.returns-then-not-is_clean_path-clause-refused
returns-then-not-is_clean_path-clause-refused c = λ other is. (
  cc,
  λ dir told.
      let named : IsNumberAndName c.args.text.now c.in-Some.inode c.in-Some.name.now = search rules in
      let name : told.name ≡ c.in-Some.name.now = same_name c.args.text.now told.name c.in-Some.name.now told.number c.in-Some.inode told.words named in
      let path : dir.path.items ≡ c.in_ok-path.path.items = told.path ∙ (ap rooted name ∙ sym c.in_ok-path.ensures) in
      let clean : is_clean_path c.in_ok-path.path.items ≡ true = ap is_clean_path (sym path) ∙ told.clean in
      let odd : is_clean_path c.in_ok-path.path.items ≡ false =
      sym (c.is_clean_path.ensures ∙ ap is_clean_path c.as_slice.ensures.value) ∙ c.if-not-is_clean_path.true in
      both_ways (is_clean_path c.in_ok-path.path.items) odd clean,
)
