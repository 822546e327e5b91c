use Rattle.std.proofs.Common.{List}
use Rattle.std.specs.Option.{option_map}
use Rattle.mdbal_ceph.specs.Exit.{FileWrite, text_files}
use Rattle.std.proofs.lemmas.Result.{err_from_is_err_and}
use Rattle.mdbal_ceph.proofs.Written.{cut_after, cut_before, writes_both}
use Rattle.mdbal_ceph.proofs.outputs.write_texts.Goals as goal

pub returns-clause-whole : goal.returns-clause-whole
returns-clause-whole g c =
    let written = g.O.OutputFiles.written in
    let record_of : List FileWrite = text_files (option_map (λ name. name.now) c.args.settings.now.record_to) c.args.output.now.hour_record in
    let svg : List FileWrite = text_files (option_map (λ name. name.now) c.args.settings.now.svg) c.args.output.now.picture in
    writes_both (written c.args.outputs.now) (written c.write_text.new.outputs) (written c.write_text-2.new.outputs) record_of svg
    c.in_ok-write_text.ensures.whole c.in_ok-write_text-2.ensures.whole

pub returns-in_err-write_text-clause-cut : goal.returns-in_err-write_text-clause-cut
returns-in_err-write_text-clause-cut g c =
    let written = g.O.OutputFiles.written in
    let record_of : List FileWrite = text_files (option_map (λ name. name.now) c.args.settings.now.record_to) c.args.output.now.hour_record in
    let svg : List FileWrite = text_files (option_map (λ name. name.now) c.args.settings.now.svg) c.args.output.now.picture in
    let e = err_from_is_err_and c.from_residual.result c.from_residual.ensures.1 in
    rw (e.1, e.2) (cut_before (written c.args.outputs.now) (written c.write_text.new.outputs) record_of svg _ c.in_err-write_text.ensures.cut)

pub returns-in_err-write_text-2-clause-cut : goal.returns-in_err-write_text-2-clause-cut
returns-in_err-write_text-2-clause-cut g c =
    let written = g.O.OutputFiles.written in
    let record_of : List FileWrite = text_files (option_map (λ name. name.now) c.args.settings.now.record_to) c.args.output.now.hour_record in
    let svg : List FileWrite = text_files (option_map (λ name. name.now) c.args.settings.now.svg) c.args.output.now.picture in
    let e = err_from_is_err_and c.from_residual-in_err-write_text-2.result c.from_residual-in_err-write_text-2.ensures.1 in
    rw (e.1, e.2) (cut_after (written c.args.outputs.now) (written c.write_text.new.outputs) (written c.write_text-2.new.outputs) record_of
    svg _ c.in_ok-write_text.ensures.whole c.in_err-write_text-2.ensures.cut)
