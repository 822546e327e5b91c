use Rattle.std.proofs.Common.{◌++◌, ◌∷◌, [], ℕ, List, Option, codes}
use Rattle.mdbal_ceph.specs.Exit.{FileWrite, Whole, Writes}
use Rattle.std.proofs.lemmas.Result.{err_from_is_err_and}
use Rattle.mdbal_ceph.specs.declared.no_result.NoResult.TheVariants as why
use Rattle.mdbal_ceph.proofs.Written.{cut_before, cut_fourth, cut_none, cut_second, cut_third, writes_four}
use Rattle.mdbal_ceph.proofs.outputs.write_pin_files.Goals as goal

pub returns-in_err-own-clause-cut : goal.returns-in_err-own-clause-cut
returns-in_err-own-clause-cut g c =
    let e = err_from_is_err_and c.from_residual.result c.from_residual.ensures.1 in
    rw (e.1, e.2) (cut_none (g.O.OutputFiles.written c.args.outputs.now) _ _ _)

pub returns-in_err-plan-clause-cut : goal.returns-in_err-plan-clause-cut
returns-in_err-plan-clause-cut g c =
    let e = err_from_is_err_and c.from_residual-in_err-plan.result c.from_residual-in_err-plan.ensures.1 in
    rw (e.1, e.2) (cut_none (g.O.OutputFiles.written c.args.outputs.now) _ _ _)

pub returns-in_err-back-clause-cut : goal.returns-in_err-back-clause-cut
returns-in_err-back-clause-cut g c =
    let e = err_from_is_err_and c.from_residual-in_err-back.result c.from_residual-in_err-back.ensures.1 in
    rw (e.1, e.2) (cut_none (g.O.OutputFiles.written c.args.outputs.now) _ _ _)

pub returns-in_err-write_file-clause-cut : goal.returns-in_err-write_file-clause-cut
returns-in_err-write_file-clause-cut g c =
    let written = g.O.OutputFiles.written in
    let name : List ℕ = c.args.name.now in
    let own : FileWrite = Whole (name ++ codes ".own") c.args.pins.now.own.items in
    let plan : FileWrite = Whole (name ++ codes ".plan") c.args.pins.now.plan.items in
    let back : FileWrite = Whole (name ++ codes ".back") c.args.pins.now.back.items in
    let script : FileWrite = Whole name c.args.pins.now.script.items in
    let a : Option (List FileWrite) = written c.args.outputs.now in
    let b : Option (List FileWrite) = written c.write_file.new.outputs in
    let cut = rw (c.as_str.ensures.value, c.in_ok-own.ensures, c.as_slice.ensures.value) at c.in_err-write_file.ensures.cut in
    let e = err_from_is_err_and c.from_residual-in_err-write_file.result c.from_residual-in_err-write_file.ensures.1 in
    rw (e.1, e.2) (cut_before a b (own ∷ []) (plan ∷ back ∷ script ∷ []) _ cut)

pub returns-in_err-write_file-2-clause-cut : goal.returns-in_err-write_file-2-clause-cut
returns-in_err-write_file-2-clause-cut g c =
    let written = g.O.OutputFiles.written in
    let name : List ℕ = c.args.name.now in
    let own : FileWrite = Whole (name ++ codes ".own") c.args.pins.now.own.items in
    let plan : FileWrite = Whole (name ++ codes ".plan") c.args.pins.now.plan.items in
    let back : FileWrite = Whole (name ++ codes ".back") c.args.pins.now.back.items in
    let script : FileWrite = Whole name c.args.pins.now.script.items in
    let a : Option (List FileWrite) = written c.args.outputs.now in
    let b : Option (List FileWrite) = written c.write_file.new.outputs in
    let c2 : Option (List FileWrite) = written c.write_file-2.new.outputs in
    let first : Writes a b (own ∷ []) = rw (c.as_str.ensures.value, c.in_ok-own.ensures, c.as_slice.ensures.value) at c.in_ok-write_file.ensures.whole in
    let cut = rw (c.as_str-2.ensures.value, c.in_ok-plan.ensures, c.as_slice-2.ensures.value) at c.in_err-write_file-2.ensures.cut in
    let e = err_from_is_err_and c.from_residual-in_err-write_file-2.result c.from_residual-in_err-write_file-2.ensures.1 in
    rw (e.1, e.2) (cut_second a b c2 c2 c2 own plan back script _ first (back ∷ script ∷ []) cut)

pub returns-in_err-write_file-3-clause-cut : goal.returns-in_err-write_file-3-clause-cut
returns-in_err-write_file-3-clause-cut g c =
    let written = g.O.OutputFiles.written in
    let name : List ℕ = c.args.name.now in
    let own : FileWrite = Whole (name ++ codes ".own") c.args.pins.now.own.items in
    let plan : FileWrite = Whole (name ++ codes ".plan") c.args.pins.now.plan.items in
    let back : FileWrite = Whole (name ++ codes ".back") c.args.pins.now.back.items in
    let script : FileWrite = Whole name c.args.pins.now.script.items in
    let a : Option (List FileWrite) = written c.args.outputs.now in
    let b : Option (List FileWrite) = written c.write_file.new.outputs in
    let c2 : Option (List FileWrite) = written c.write_file-2.new.outputs in
    let d : Option (List FileWrite) = written c.write_file-3.new.outputs in
    let first : Writes a b (own ∷ []) = rw (c.as_str.ensures.value, c.in_ok-own.ensures, c.as_slice.ensures.value) at c.in_ok-write_file.ensures.whole in
    let second : Writes b c2 (plan ∷ []) = rw (c.as_str-2.ensures.value, c.in_ok-plan.ensures, c.as_slice-2.ensures.value) at
    c.in_ok-write_file-2.ensures.whole in
    let cut = rw (c.as_str-3.ensures.value, c.in_ok-back.ensures, c.as_slice-3.ensures.value) at c.in_err-write_file-3.ensures.cut in
    let e = err_from_is_err_and c.from_residual-in_err-write_file-3.result c.from_residual-in_err-write_file-3.ensures.1 in
    rw (e.1, e.2) (cut_third a b c2 d d own plan back script _ first second (script ∷ []) cut)

pub returns-in_err-write_file-4-clause-cut : goal.returns-in_err-write_file-4-clause-cut
returns-in_err-write_file-4-clause-cut g c =
    let written = g.O.OutputFiles.written in
    let name : List ℕ = c.args.name.now in
    let own : FileWrite = Whole (name ++ codes ".own") c.args.pins.now.own.items in
    let plan : FileWrite = Whole (name ++ codes ".plan") c.args.pins.now.plan.items in
    let back : FileWrite = Whole (name ++ codes ".back") c.args.pins.now.back.items in
    let script : FileWrite = Whole name c.args.pins.now.script.items in
    let a : Option (List FileWrite) = written c.args.outputs.now in
    let b : Option (List FileWrite) = written c.write_file.new.outputs in
    let c2 : Option (List FileWrite) = written c.write_file-2.new.outputs in
    let d : Option (List FileWrite) = written c.write_file-3.new.outputs in
    let e : Option (List FileWrite) = written c.write_file-4.new.outputs in
    let first : Writes a b (own ∷ []) = rw (c.as_str.ensures.value, c.in_ok-own.ensures, c.as_slice.ensures.value) at c.in_ok-write_file.ensures.whole in
    let second : Writes b c2 (plan ∷ []) = rw (c.as_str-2.ensures.value, c.in_ok-plan.ensures, c.as_slice-2.ensures.value) at
    c.in_ok-write_file-2.ensures.whole in
    let third : Writes c2 d (back ∷ []) = rw (c.as_str-3.ensures.value, c.in_ok-back.ensures, c.as_slice-3.ensures.value) at
    c.in_ok-write_file-3.ensures.whole in
    let cut = rw c.as_slice-4.ensures.value at c.in_err-write_file-4.ensures.cut in
    let was = err_from_is_err_and c.from_residual-in_err-write_file-4.result c.from_residual-in_err-write_file-4.ensures.1 in
    rw (was.1, was.2) (cut_fourth a b c2 d e own plan back script _ first second third cut)

pub returns-clause-whole : goal.returns-clause-whole
returns-clause-whole g c =
    let written = g.O.OutputFiles.written in
    let name : List ℕ = c.args.name.now in
    let own : FileWrite = Whole (name ++ codes ".own") c.args.pins.now.own.items in
    let plan : FileWrite = Whole (name ++ codes ".plan") c.args.pins.now.plan.items in
    let back : FileWrite = Whole (name ++ codes ".back") c.args.pins.now.back.items in
    let script : FileWrite = Whole name c.args.pins.now.script.items in
    let a : Option (List FileWrite) = written c.args.outputs.now in
    let b : Option (List FileWrite) = written c.write_file.new.outputs in
    let c2 : Option (List FileWrite) = written c.write_file-2.new.outputs in
    let d : Option (List FileWrite) = written c.write_file-3.new.outputs in
    let e : Option (List FileWrite) = written c.write_file-4.new.outputs in
    let first : Writes a b (own ∷ []) = rw (c.as_str.ensures.value, c.in_ok-own.ensures, c.as_slice.ensures.value) at c.in_ok-write_file.ensures.whole in
    let second : Writes b c2 (plan ∷ []) = rw (c.as_str-2.ensures.value, c.in_ok-plan.ensures, c.as_slice-2.ensures.value) at
    c.in_ok-write_file-2.ensures.whole in
    let third : Writes c2 d (back ∷ []) = rw (c.as_str-3.ensures.value, c.in_ok-back.ensures, c.as_slice-3.ensures.value) at
    c.in_ok-write_file-3.ensures.whole in
    let fourth : Writes d e (script ∷ []) = rw c.as_slice-4.ensures.value at c.in_ok-write_file-4.ensures.whole in
    writes_four a b c2 d e own plan back script why.Memory first second third fourth
