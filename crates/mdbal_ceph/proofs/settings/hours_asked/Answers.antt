use Rattle.std.proofs.Common.{◌≡◌, ◌≢◌, ◌∷◌, ◌∙◌, ◌++◌, ◌==◌, [], Bool, List, ℕ, All, Bor, ap, arith, false, length, map, refl, rules, sym}
use Rattle.std.specs.Prelude.{codes}
use Rattle.std.proofs.lemmas.Bool.{false≢true}
use Rattle.std.proofs.lemmas.Grind.{common_steps}
use Rattle.std.proofs.lemmas.List.Elements.{All-cons, All-nil, All-push}
use Rattle.std.proofs.lemmas.Result.{err_from_is_err_and}
use Rattle.clap.specs.Words.{Row, found_of, rows_of}
use Rattle.mdbal_ceph.specs.Options.{folders_named}
use Rattle.mdbal_ceph.specs.WrongValues.{IsRight}
use Rattle.mdbal_ceph.specs.declared.wrong_value.ValueOption.TheVariants.{Hours, Made}
use Rattle.mdbal_ceph.specs.declared.wrong_value.WrongValue.TheVariants.{EmptyFolder, NoFolder, Of}
use Rattle.mdbal_ceph.proofs.WrongValues.{first_at, folders_split, given_or, last_named, right_or, some_named}
use Rattle.mdbal_ceph.proofs.settings.hours_asked.Goals as goal

-- a test for an empty name fails
not_empty : (name : List ℕ) {is : Bool} → is ≡ false → is ≡ (length name == 0) → name ≢ []
not_empty name fails is none = absurd (false≢true (sym fails ∙ (is ∙ ap (λ (name : List ℕ). length name == 0) none)))

-- there are folders, and the last has a name
folders_right : (rows : List Row) (earlier : List (List ℕ)) (last : List ℕ) → folders_named rows ≡ earlier ++ last ∷ [] → last ≢ []
    → All (IsRight rows) (NoFolder ∷ EmptyFolder ∷ [])
folders_right rows earlier last is named =
    All-cons (IsRight rows) NoFolder (EmptyFolder ∷ []) (some_named (folders_named rows) earlier last is)
    (All-cons (IsRight rows) EmptyFolder [] (λ none. named (sym (last_named (folders_named rows) earlier last is) ∙ none)) (All-nil (IsRight rows)))

pub returns-in_default-clause-wrong : goal.returns-in_default-clause-wrong
returns-in_default-clause-wrong c = λ same.
    let rows = rows_of (found_of c.args.matches.now) in
    let none : c.args.folders.items ≡ [] = search rules in
    first_at rows [] NoFolder NoFolder (EmptyFolder ∷ Of Hours ∷ Of Made ∷ []) refl (All-nil (IsRight rows))
    (sym same ∙ ap (map (λ (text : Bor (List ℕ)). text.now)) none)

pub returns-then-is_empty-clause-wrong : goal.returns-then-is_empty-clause-wrong
returns-then-is_empty-clause-wrong c = λ same.
    let rows = rows_of (found_of c.args.matches.now) in
    let earlier = map (λ (text : Bor (List ℕ)). text.now) c.pop.new.self.items in
    let named = folders_split (folders_named rows) c.args.folders.items c.pop.new.self.items c.in-Some.folder same c.in-Some.ensures.items in
    let some = some_named (folders_named rows) earlier c.in-Some.folder.now named in
    let empty : c.in-Some.folder.now ≡ [] = grind (arith, common_steps) in
    first_at rows (NoFolder ∷ []) EmptyFolder EmptyFolder (Of Hours ∷ Of Made ∷ []) refl
    (All-cons (IsRight rows) NoFolder [] some (All-nil (IsRight rows)))
    (some, last_named (folders_named rows) earlier c.in-Some.folder.now named ∙ empty)

pub returns-in_err-hours-clause-wrong : goal.returns-in_err-hours-clause-wrong
returns-in_err-hours-clause-wrong c = λ same.
    let rows = rows_of (found_of c.args.matches.now) in
    let earlier = map (λ (text : Bor (List ℕ)). text.now) c.pop.new.self.items in
    let named = folders_split (folders_named rows) c.args.folders.items c.pop.new.self.items c.in-Some.folder same c.in-Some.ensures.items in
    let wrong = c.in_err-hours.ensures.wrong in
    let e = err_from_is_err_and c.from_residual.result c.from_residual.ensures.1 in
    rw (e.1, e.2)
    (first_at rows (NoFolder ∷ EmptyFolder ∷ []) (Of Hours) _ (Of Made ∷ []) wrong.0
    (folders_right rows earlier c.in-Some.folder.now named (not_empty c.in-Some.folder.now c.if-is_empty.false c.is_empty.ensures))
    (given_or rows Hours (codes "24") c.value_or.result.now c.value_or.ensures (search rules) wrong.1))

pub returns-in_err-made-clause-wrong : goal.returns-in_err-made-clause-wrong
returns-in_err-made-clause-wrong c = λ same.
    let rows = rows_of (found_of c.args.matches.now) in
    let earlier = map (λ (text : Bor (List ℕ)). text.now) c.pop.new.self.items in
    let named = folders_split (folders_named rows) c.args.folders.items c.pop.new.self.items c.in-Some.folder same c.in-Some.ensures.items in
    let hours = right_or rows Hours (codes "24") c.value_or.result.now c.value_or.ensures c.in_ok-hours.ensures.right in
    let wrong = c.in_err-made.ensures.wrong in
    let e = err_from_is_err_and c.from_residual-in_err-made.result c.from_residual-in_err-made.ensures.1 in
    rw (e.1, e.2)
    (first_at rows (NoFolder ∷ EmptyFolder ∷ Of Hours ∷ []) (Of Made) _ [] wrong.0
    (All-push (IsRight rows) (NoFolder ∷ EmptyFolder ∷ []) (Of Hours)
    (folders_right rows earlier c.in-Some.folder.now named (not_empty c.in-Some.folder.now c.if-is_empty.false c.is_empty.ensures)) hours)
    (given_or rows Made (codes "0") c.value_or-2.result.now c.value_or-2.ensures (search rules) wrong.1))

pub returns-clause-right : goal.returns-clause-right
returns-clause-right c = λ same.
    let rows = rows_of (found_of c.args.matches.now) in
    let earlier = map (λ (text : Bor (List ℕ)). text.now) c.pop.new.self.items in
    let named = folders_split (folders_named rows) c.args.folders.items c.pop.new.self.items c.in-Some.folder same c.in-Some.ensures.items in
    let hours = right_or rows Hours (codes "24") c.value_or.result.now c.value_or.ensures c.in_ok-hours.ensures.right in
    let made = right_or rows Made (codes "0") c.value_or-2.result.now c.value_or-2.ensures c.in_ok-made.ensures.right in
    All-push (IsRight rows) (NoFolder ∷ EmptyFolder ∷ Of Hours ∷ []) (Of Made)
    (All-push (IsRight rows) (NoFolder ∷ EmptyFolder ∷ []) (Of Hours)
    (folders_right rows earlier c.in-Some.folder.now named (not_empty c.in-Some.folder.now c.if-is_empty.false c.is_empty.ensures)) hours)
    made
