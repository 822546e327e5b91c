use Rattle.std.proofs.Common.{◌≡◌, ◌∙◌, ◌+◌, ◌-◌, ◌/◌, ◌<◌, ◌≤◌, ℕ, List, [], ◌∷◌, ◌++◌, suc, take, length, sym, ap, subst, rules, arith}
use Rattle.std.proofs.Math.Seq.{take-suc}
use Rattle.std.proofs.lemmas.List.{take_all}
use Rattle.heat_ledger.specs.declared.places.EntryCounts.{EntryCounts}
use Rattle.heat_ledger.specs.Rows.{at}
use Rattle.heat_ledger.specs.Touched.{times}
use Rattle.heat_ledger.proofs.Pairs.{named, named_read, named_write, named_again, named_tracked}
use Rattle.heat_ledger.proofs.counts.dirs_of.Goals as goal
use Rattle.heat_ledger.proofs.counts.dirs_of.Goals.{then-not-is_write+in_ok-push, then-not-is_write-via-then-not-is_write}
use Rattle.heat_ledger.proofs.counts.dirs_of.Goals.{then-not-is_write-via-else-not-is_write+then-of-eq0, else-not-is_write+else-of-eq0}

pub loop-entry-preserved : goal.loop-entry-preserved
loop-entry-preserved c d =
    let counts = c.args.counts.now.pending in
    let all = c.args.entries.now in
    let i = c.loop-entry.entry-index in
    let dirs = c.loop-entry.dirs.items in
    let was = c.loop-entry.invariant in
    let e = at all i in
    let h = e / 2 in
    let inside : i < length all = search rules in
    let more : take (i + 1) all ≡ take i all ++ e ∷ [] =
    (let next : i + 1 ≡ suc i = omega arith in ap (λ (n : ℕ). take n all) next ∙ take-suc all i 0 inside) in
    rw more (elim c.if-not-is_write.branch [
      | then-not-is_write+in_ok-push w ↦ rw (w.dirs-is, w.in_ok-push.ensures.items) (elim w.then-not-is_write.branch [
        | then-not-is_write-via-then-not-is_write w' ↦ named_read counts (take i all) dirs h e (omega (arith, w'.if-not-is_write.true)) was d
        | then-not-is_write-via-else-not-is_write+then-of-eq0 w' ↦
            let before : e - 1 ≡ h + h = omega (arith, w'.if-not-is_write.false) in
            named_write counts (take i all) dirs h e (omega (arith, w'.if-not-is_write.false))
            (ap (at counts) (sym before) ∙ sym (ap (λ (x : EntryCounts). x.pending) w'.of.ensures) ∙ w'.if-of-eq0.true) was d
      ])
      | else-not-is_write+else-of-eq0 w ↦
          let before : e - 1 ≡ h + h = omega (arith, w.if-not-is_write.false) in
          let some : 1 ≤ at counts (h + h) = omega (arith, ap (λ (x : EntryCounts). x.pending) w.of.ensures, ap (at counts) before, w.if-of-eq0.false) in
          rw w.dirs-is (named_again counts (take i all) dirs h e (omega (arith, w.if-not-is_write.false)) some was d)
    ])

pub returns : goal.returns
returns c =
    let all : take c.loop-entry.entry-index c.args.entries.now
    ≡ c.args.entries.now = take_all c.loop-entry.entry-index c.args.entries.now c.loop-entry-test.false in
    let was = subst (λ (es : List ℕ). (d : ℕ) → times c.loop-entry.dirs.items d ≡ named c.args.counts.now.pending es d) all c.loop-entry.invariant in
    named_tracked c.args.counts.now.pending c.args.entries.now c.loop-entry.dirs.items c.requires.0 c.requires.1 was
