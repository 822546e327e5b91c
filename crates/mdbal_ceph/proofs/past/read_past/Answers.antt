use Rattle.std.proofs.Common.{◌≡◌, ◌∙◌, ◌<◌, ◌+◌, ◌∷◌, ◌++◌, [], ℕ, Bor, List, ap, inl, length, map, slice_index_or, subst, sym, take}
use Rattle.std.proofs.lemmas.List.{get_or_default, length-map, map-append, take_more}
use Rattle.std.proofs.lemmas.Result.{err_from_is_err_and}
use Rattle.std.specs.List.{IsAmong}
use Rattle.std.proofs.lemmas.List.Elements.{All-push}
use Rattle.ceph_dumps.specs.declared.hour_record.HourRecord.{HourRecord}
use Rattle.mdbal_ceph.specs.Dumps.{DumpValue}
use Rattle.mdbal_ceph.specs.Folder.{FileContent}
use Rattle.mdbal_ceph.specs.Past.{AreEarlier, IsRecordOf}
use Rattle.mdbal_ceph.specs.declared.past.EarlierHour.{EarlierHour}
use Rattle.mdbal_ceph.proofs.past.read_past.Goals as goal

-- one more name
names_more : (names : List (Bor (List ℕ))) (at : ℕ) (other : Bor (List ℕ)) → at < length names
    → map (λ (name : Bor (List ℕ)). name.now) (take (at + 1) names) ≡ map (λ (name : Bor (List ℕ)). name.now) (take at names)
    ++ (slice_index_or names at other).now ∷ []
names_more names at other inside =
    ap (map (λ (name : Bor (List ℕ)). name.now)) (take_more names at other inside)
    ∙ map-append (λ (name : Bor (List ℕ)). name.now) (take at names) (slice_index_or names at other ∷ [])

-- one more earlier hour
hour_more : (reads : List ℕ → FileContent → Type 0) (says : List ℕ → DumpValue → Type 0) (names : List (List ℕ))
    (earlier : List EarlierHour) (hour : EarlierHour)
    → AreEarlier reads says names earlier → IsRecordOf reads says hour.name.now hour.kept
    → AreEarlier reads says (names ++ hour.name.now ∷ []) (earlier ++ hour ∷ [])
hour_more reads says names earlier hour was here =
    record {
      these =
          map-append (λ (one : EarlierHour). one.name.now) earlier (hour ∷ [])
          ∙ ap (λ (those : List (List ℕ)). those ++ hour.name.now ∷ []) was.these;
      each = All-push (λ (one : EarlierHour). IsRecordOf reads says one.name.now one.kept) earlier hour was.each here;
    }

-- the hour of the next name
next_more : (reads : List ℕ → FileContent → Type 0) (says : List ℕ → DumpValue → Type 0) (names : List (Bor (List ℕ))) (at : ℕ)
    (other : Bor (List ℕ)) (earlier after : List EarlierHour)
    (kept : HourRecord) → at < length names → AreEarlier reads says (map (λ (name : Bor (List ℕ)). name.now) (take at names)) earlier
    → IsRecordOf reads says (slice_index_or names at other).now kept → after ≡ earlier ++ record { name = slice_index_or names at other; kept = kept } ∷ []
    → AreEarlier reads says (map (λ (name : Bor (List ℕ)). name.now) (take (at + 1) names)) after
next_more reads says names at other earlier after kept inside was here is =
    let hour : EarlierHour = record { name = slice_index_or names at other; kept = kept } in
    let all : List (List ℕ) = map (λ (name : Bor (List ℕ)). name.now) (take (at + 1) names) in
    subst (AreEarlier reads says all) (sym is)
    (subst (λ (those : List (List ℕ)). AreEarlier reads says those (earlier ++ hour ∷ [])) (sym (names_more names at other inside))
    (hour_more reads says (map (λ (name : Bor (List ℕ)). name.now) (take at names)) earlier hour was here))

pub loop-at-preserved : goal.loop-at-preserved
loop-at-preserved g c =
    let reads : List ℕ → FileContent → Type 0 = g.F.Folder.reads c.args.inputs.now.files.now in
    let says : List ℕ → DumpValue → Type 0 = g.D.DumpReader.says in
    next_more reads says c.args.names.now c.loop-at.at _ c.loop-at.found.items c.push.new.self.items c.in_ok-kept.kept
    c.loop-at-test.true c.loop-at.invariant c.in_ok-kept.ensures.hour c.in_ok-push.ensures.items

-- a name that is read is among them
among_names : (names : List (Bor (List ℕ))) (at : ℕ) → at < length names
    → IsAmong (map (λ (name : Bor (List ℕ)). name.now) names) (slice_index_or (map (λ (name : Bor (List ℕ)). name.now) names) at [])
among_names names at inside =
    let all : List (List ℕ) = map (λ (name : Bor (List ℕ)). name.now) names in
    let within : at < length all = subst (λ (n : ℕ). at < n) (sym {A = ℕ} (length-map names (λ (name : Bor (List ℕ)). name.now))) inside in
    (at, (within, get_or_default all at [] (slice_index_or all at []) within))

pub returns-in_err-push-clause-failed : goal.returns-in_err-push-clause-failed
returns-in_err-push-clause-failed g c =
    let all : List (List ℕ) = map (λ (name : Bor (List ℕ)). name.now) c.args.names.now in
    let e = err_from_is_err_and c.from_residual-in_err-push.result c.from_residual-in_err-push.ensures.1 in
    rw (e.1, e.2) (slice_index_or all c.loop-at.at [], among_names c.args.names.now c.loop-at.at c.loop-at-test.true, inl tt)
