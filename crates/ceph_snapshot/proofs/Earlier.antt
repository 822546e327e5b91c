-- The heat of an earlier hour, with one more entry before the others.
use Rattle.std.proofs.Common.{◌≡◌, ◌∙◌, ◌<◌, ◌+◌, ◌∷◌, ℕ, Bool, true, false, List, Option, Some, ap, cond, drop, get_or, length, refl, sym}
use Rattle.std.specs.Option.{unwrap_or}
use Rattle.std.specs.Str.{bytes_eq}
use Rattle.std.proofs.lemmas.List.{drop_more}
use Rattle.ceph_dumps.specs.declared.hour_record.PastHeat.{PastHeat}
use Rattle.ceph_snapshot.specs.Hours.{heat_then}

picked : (b : Bool) (heat : ℕ) (old : Option ℕ) → unwrap_or (cond b (Some heat) old) 0 ≡ cond b heat (unwrap_or old 0)
picked true heat old = refl
picked false heat old = refl

pub then_more : (past : List PastHeat) (n : ℕ) (entry : PastHeat) (path : List ℕ) (old new : Option ℕ) → n < length past → entry ≡ get_or past n entry
    → new ≡ cond (bytes_eq entry.path.items path) (Some entry.heat) old → unwrap_or old 0 ≡ heat_then (drop (n + 1) past) path
    → unwrap_or new 0 ≡ heat_then (drop n past) path
then_more past n entry path old new inside is now before =
    let whole : drop n past ≡ entry ∷ drop (n + 1) past = drop_more past n entry inside ∙ ap (λ (one : PastHeat). one ∷ drop (n + 1) past) (sym is) in
    ap (λ (found : Option ℕ). unwrap_or found 0) now
    ∙ (picked (bytes_eq entry.path.items path) entry.heat old
    ∙ (ap (λ (heat : ℕ). cond (bytes_eq entry.path.items path) entry.heat heat) before
    ∙ sym (ap (λ (entries : List PastHeat). heat_then entries path) whole)))
