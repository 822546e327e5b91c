-- Operations that were handed over, and those that wait.
use Rattle.std.proofs.Common.{◌≡◌, zero, suc, List, [], ◌∷◌, ◌++◌, All, refl, ap, sym, ◌∙◌, subst, arith, append-nil, append_assoc, fold}
use Rattle.std.proofs.lemmas.List.Elements.{All-append}
use Rattle.authority_map.specs.Operations.{Operation}
use Rattle.authority_map.specs.LogEntries.{LogEntry, operations_of}

fold_operations : (xs : List Operation) (es : List LogEntry)
    → fold (λ (l : List Operation) (e : LogEntry). l ++ e.operation ∷ []) xs es ≡ xs ++ operations_of es
fold_operations xs [] = sym (append-nil xs)
fold_operations xs (e ∷ es) = fold_operations (xs ++ e.operation ∷ []) es ∙ append_assoc xs (e.operation ∷ []) (operations_of es)

-- all that was pending comes after what was shown
pub all_shown : (before new waiting pending : List Operation) (es : List LogEntry)
    → new ≡ fold (λ (l : List Operation) (e : LogEntry). l ++ e.operation ∷ []) before es → operations_of es ++ waiting ≡ pending
    → waiting ≡ [] → new ≡ before ++ pending
all_shown before new waiting pending es is order none =
    is ∙ fold_operations before es ∙ ap (λ (l : List Operation). before ++ l)
    (sym (append-nil (operations_of es)) ∙ ap (λ (l : List Operation). operations_of es ++ l) (sym none) ∙ order)

operations_of-snoc : (es : List LogEntry) (e : LogEntry) → operations_of (es ++ e ∷ []) ≡ operations_of es ++ e.operation ∷ []
operations_of-snoc [] e = refl
operations_of-snoc (x ∷ es) e = ap (λ (l : List Operation). x.operation ∷ l) (operations_of-snoc es e)

-- one operation goes over, and the order stays
pub handed : (es new : List LogEntry) (e : LogEntry) (left old : List Operation) → new ≡ es ++ e ∷ [] → e.operation ∷ left ≡ old
    → operations_of new ++ left ≡ operations_of es ++ old
handed es new e left old is order =
    ap (λ (l : List LogEntry). operations_of l ++ left) is ∙ ap (λ (l : List Operation). l ++ left) (operations_of-snoc es e)
    ∙ append_assoc (operations_of es) (e.operation ∷ []) left ∙ ap (λ (l : List Operation). operations_of es ++ l) order

alone : (told x : List Operation) → x ≡ told → All (λ (reader : List Operation). reader ≡ told) (x ∷ [])
alone told x same zero d near = same
alone told x same (suc k) d near = absurd (omega arith)

-- one reader more that holds the same
pub all_new : (told : List Operation) (readers more : List (List Operation)) (x : List Operation) → more ≡ readers ++ x ∷ []
    → All (λ reader. reader ≡ told) readers → x ≡ told → All (λ reader. reader ≡ told) more
all_new told readers more x is all same = subst (All (λ reader. reader ≡ told)) (sym is)
    (All-append (λ reader. reader ≡ told) readers (x ∷ []) all (alone told x same))
