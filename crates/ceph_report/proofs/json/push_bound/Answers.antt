use Rattle.std.proofs.Common.{◌∙◌, append_assoc}
use Rattle.std.proofs.lemmas.Result.{on_ok_weaker}
use Rattle.ceph_report.specs.Json.{bound_members}
use Rattle.ceph_report.proofs.json.push_bound.Goals as goal

pub returns : goal.returns
unfolding bound_members
returns c = on_ok_weaker c.push_path_value.result (λ e. e
    ∙ simp (
      append_assoc,
      c.in_ok-push_text-3.ensures,
      c.in_ok-push_text-2.ensures,
      c.in_ok-push_text.ensures,
      c.term_name.ensures,
      c.bound_term.ensures,
      c.deref.ensures.value,
    )) c.push_path_value.ensures
