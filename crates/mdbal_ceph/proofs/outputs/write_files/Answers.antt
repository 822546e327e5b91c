use Rattle.std.proofs.Common.{List, ◌++◌}
use Rattle.std.specs.Option.{option_map}
use Rattle.mdbal_ceph.specs.Exit.{FileWrite, pins_files, shown_files, text_files}
use Rattle.std.proofs.lemmas.Result.{err_from_is_err_and}
use Rattle.mdbal_ceph.proofs.Written.{cut_after, cut_before, writes_both}
use Rattle.mdbal_ceph.proofs.outputs.write_files.Goals as goal

pub returns-clause-whole : goal.returns-clause-whole
returns-clause-whole g c =
    let written = g.O.OutputFiles.written in
    let svg : List FileWrite = shown_files c.args.settings.now c.args.output.now in
    let script : List FileWrite = text_files (option_map (λ name. name.now) c.args.settings.now.script) c.args.output.now.script in
    let pins : List FileWrite = pins_files (option_map (λ name. name.now) c.args.settings.now.pins) c.args.output.now.pins in
    writes_both (written c.args.outputs.now) (written c.write_text.new.outputs) (written c.write_pins.new.outputs) (svg ++ script) pins
    (writes_both (written c.args.outputs.now) (written c.write_texts.new.outputs) (written c.write_text.new.outputs) svg script
    c.in_ok-write_texts.ensures.whole c.in_ok-write_text.ensures.whole)
    c.in_ok-write_pins.ensures.whole

pub returns-in_err-write_texts-clause-cut : goal.returns-in_err-write_texts-clause-cut
returns-in_err-write_texts-clause-cut g c =
    let written = g.O.OutputFiles.written in
    let svg : List FileWrite = shown_files c.args.settings.now c.args.output.now in
    let script : List FileWrite = text_files (option_map (λ name. name.now) c.args.settings.now.script) c.args.output.now.script in
    let pins : List FileWrite = pins_files (option_map (λ name. name.now) c.args.settings.now.pins) c.args.output.now.pins in
    let e = err_from_is_err_and c.from_residual.result c.from_residual.ensures.1 in
    rw (e.1, e.2) (cut_before (written c.args.outputs.now) (written c.write_texts.new.outputs) (svg ++ script) pins _
    (cut_before (written c.args.outputs.now) (written c.write_texts.new.outputs) svg script _ c.in_err-write_texts.ensures.cut))

pub returns-in_err-write_text-clause-cut : goal.returns-in_err-write_text-clause-cut
returns-in_err-write_text-clause-cut g c =
    let written = g.O.OutputFiles.written in
    let svg : List FileWrite = shown_files c.args.settings.now c.args.output.now in
    let script : List FileWrite = text_files (option_map (λ name. name.now) c.args.settings.now.script) c.args.output.now.script in
    let pins : List FileWrite = pins_files (option_map (λ name. name.now) c.args.settings.now.pins) c.args.output.now.pins in
    let e = err_from_is_err_and c.from_residual-in_err-write_text.result c.from_residual-in_err-write_text.ensures.1 in
    rw (e.1, e.2) (cut_before (written c.args.outputs.now) (written c.write_text.new.outputs) (svg ++ script) pins _
    (cut_after (written c.args.outputs.now) (written c.write_texts.new.outputs) (written c.write_text.new.outputs) svg script _
    c.in_ok-write_texts.ensures.whole c.in_err-write_text.ensures.cut))

pub returns-in_err-write_pins-clause-cut : goal.returns-in_err-write_pins-clause-cut
returns-in_err-write_pins-clause-cut g c =
    let written = g.O.OutputFiles.written in
    let svg : List FileWrite = shown_files c.args.settings.now c.args.output.now in
    let script : List FileWrite = text_files (option_map (λ name. name.now) c.args.settings.now.script) c.args.output.now.script in
    let pins : List FileWrite = pins_files (option_map (λ name. name.now) c.args.settings.now.pins) c.args.output.now.pins in
    let e = err_from_is_err_and c.from_residual-in_err-write_pins.result c.from_residual-in_err-write_pins.ensures.1 in
    rw (e.1, e.2) (cut_after (written c.args.outputs.now) (written c.write_text.new.outputs) (written c.write_pins.new.outputs) (svg ++ script) pins _
    (writes_both (written c.args.outputs.now) (written c.write_texts.new.outputs) (written c.write_text.new.outputs) svg script
    c.in_ok-write_texts.ensures.whole c.in_ok-write_text.ensures.whole)
    c.in_err-write_pins.ensures.cut)
