use Rattle.std.proofs.Common.{inl, inr}
use Rattle.std.proofs.lemmas.Result.{err_from_is_err_and}
use Rattle.mdbal_ceph.proofs.PastHours.{spreads}
use Rattle.mdbal_ceph.proofs.files.carry_out.Goals as goal

pub planned-requires-clause-snapshot : goal.planned-requires-clause-snapshot
planned-requires-clause-snapshot g c = c.in_ok-collected.ensures.collected.is

pub planned-requires-clause-spread : goal.planned-requires-clause-spread
planned-requires-clause-spread g c =
    rw c.deref-2.ensures.value
    (spreads (g.F.Folder.reads c.args.inputs.now.files.now) g.D.DumpReader.says _ c.in_ok-earlier.earlier.items c.in_ok-earlier.ensures.hours)

pub returns-clause-written : goal.returns-clause-written
returns-clause-written g c = record {
  collected = c.in_ok-collected.collected;
  outcome = c.in_ok-outcome.outcome;
  leave = c.in_ok-leave.leave.items;
  read = c.in_ok-collected.ensures.collected;
  left = c.in_ok-leave.ensures.leave;
  ours = c.in_ok-collected.ensures.ours;
  ranks = c.in_ok-outcome.ensures.ranks;
  earlier = c.in_ok-earlier.earlier.items;
  earlier_are = rw c.deref.ensures.value at c.in_ok-earlier.ensures.hours;
  same = rw c.deref-2.ensures.value at c.in_ok-outcome.ensures.same;
  of = rw (c.deref-2.ensures.value, c.deref-3.ensures.value) at c.in_ok-outcome.ensures.outcome;
  there = c.in_ok-outcome.ensures.there;
  active = c.in_ok-outcome.ensures.active;
  size = c.in_ok-outcome.ensures.size;
  samples = c.in_ok-outcome.ensures.samples;
  balances = c.in_ok-outcome.ensures.balances;
  file_system = c.in_ok-outcome.ensures.file_system;
  hour_record = rw c.in_ok-output.ensures.hour_record c.in_ok-hour_record.ensures;
  written = c.in_ok-output.ensures.written;
}

pub returns-in_err-earlier-clause-failed : goal.returns-in_err-earlier-clause-failed
returns-in_err-earlier-clause-failed g c =
    let e = err_from_is_err_and c.from_residual.result c.from_residual.ensures.1 in
    rw (e.1, e.2) (inl (inl (rw c.deref.ensures.value at c.in_err-earlier.ensures.failed)))

pub returns-in_err-collected-clause-failed : goal.returns-in_err-collected-clause-failed
returns-in_err-collected-clause-failed g c =
    let e = err_from_is_err_and c.from_residual-in_err-collected.result c.from_residual-in_err-collected.ensures.1 in
    rw (e.1, e.2) (inl (inr (inl c.in_err-collected.ensures.failed)))

pub returns-in_err-leave-clause-failed : goal.returns-in_err-leave-clause-failed
returns-in_err-leave-clause-failed g c =
    let e = err_from_is_err_and c.from_residual-in_err-leave.result c.from_residual-in_err-leave.ensures.1 in
    rw (e.1, e.2) (inl (inr (inr c.in_err-leave.ensures.failed)))

pub returns-in_err-hour_record-clause-failed : goal.returns-in_err-hour_record-clause-failed
returns-in_err-hour_record-clause-failed g c =
    let e = err_from_is_err_and c.from_residual-in_err-hour_record.result c.from_residual-in_err-hour_record.ensures.1 in
    rw (e.1, e.2) (inl (inr (inl (inl tt))))

pub returns-in_err-outcome-clause-failed : goal.returns-in_err-outcome-clause-failed
returns-in_err-outcome-clause-failed g c =
    let e = err_from_is_err_and c.from_residual-in_err-outcome.result c.from_residual-in_err-outcome.ensures.1 in
    rw (e.1, e.2) (inr (record {
      collected = c.in_ok-collected.collected;
      earlier = c.in_ok-earlier.earlier.items;
      leave = c.in_ok-leave.leave.items;
      read = record {
        read = c.in_ok-collected.ensures.collected;
        left = c.in_ok-leave.ensures.leave;
        earlier_are = rw c.deref.ensures.value at c.in_ok-earlier.ensures.hours;
      };
      why_not = inl (rw (c.deref-2.ensures.value, c.deref-3.ensures.value) at c.in_err-outcome.ensures.failed);
    }))

pub returns-in_err-output-clause-failed : goal.returns-in_err-output-clause-failed
returns-in_err-output-clause-failed g c =
    let e = err_from_is_err_and c.from_residual-in_err-output.result c.from_residual-in_err-output.ensures.1 in
    rw (e.1, e.2) (inr (record {
      collected = c.in_ok-collected.collected;
      earlier = c.in_ok-earlier.earlier.items;
      leave = c.in_ok-leave.leave.items;
      read = record {
        read = c.in_ok-collected.ensures.collected;
        left = c.in_ok-leave.ensures.leave;
        earlier_are = rw c.deref.ensures.value at c.in_ok-earlier.ensures.hours;
      };
      why_not = inr (
        c.in_ok-outcome.outcome,
        rw (c.deref-2.ensures.value, c.deref-3.ensures.value) at c.in_ok-outcome.ensures.outcome,
        c.in_err-output.ensures.failed,
      );
    }))
