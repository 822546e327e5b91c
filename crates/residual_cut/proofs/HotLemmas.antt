-- The rows whose subtree is hot, as they are listed from the last one up.
use Rattle.std.proofs.Common.{◌≡◌, ◌≢◌, ◌∙◌, ℕ, ◌+◌, ◌-◌, ◌<◌, ◌≤◌, List, [], ◌∷◌, ◌++◌}
use Rattle.std.proofs.Common.{length, length-append, slice_index, set, refl, ap, sym, arith, ⊎_elim, get_or-set_other, get_or-set_same}
use Rattle.std.proofs.lemmas.Bool.{cases_eq, cases_lt, eq-eqb, ne_eqb}
use Rattle.residual_cut.specs.Subtrees.{limit_of, AreHot, AreLightWhole}
use Rattle.residual_cut.proofs.LabelLemmas.{slice_index-push, slice_index-last}

pub limit_first : (n : ℕ) (hot : List ℕ) (k : ℕ) → k ≡ 0 → limit_of n hot k ≡ n
limit_first n hot k none = rw (eq-eqb k 0 none) refl

pub limit_next : (n : ℕ) (hot : List ℕ) (k : ℕ) → limit_of n hot (k + 1) ≡ slice_index hot k
limit_next n hot k =
    let same : k + 1 - 1 ≡ k = omega arith in
    rw (ne_eqb (k + 1) 0 (λ none. omega arith), same) refl

limit_push : (n : ℕ) (hot : List ℕ) (i k : ℕ) → k ≤ length hot → limit_of n (hot ++ i ∷ []) k ≡ limit_of n hot k
limit_push n hot i k l =
    ⊎_elim (λ (none : k ≡ 0). limit_first n (hot ++ i ∷ []) k none ∙ sym (limit_first n hot k none))
    (λ (some : k ≢ 0).
    let is_not = ne_eqb k 0 some in
    rw is_not (slice_index-push hot i (k - 1) (omega arith)))
    (cases_eq k 0)

-- the rows before the limit are inside
pub limit_le : (n : ℕ) (heat : ℕ → ℕ) (low m : ℕ) (hot : List ℕ) → AreHot n heat low m hot → (k : ℕ) → k ≤ length hot → limit_of n hot k ≤ n
limit_le n heat low m hot are k l =
    ⊎_elim (λ (none : k ≡ 0). omega (arith, limit_first n hot k none))
    (λ (some : k ≢ 0).
    let same : k - 1 + 1 ≡ k = omega arith in
    omega (arith, ap (limit_of n hot) same, limit_next n hot (k - 1), are.inside (k - 1) (omega arith)))
    (cases_eq k 0)

-- row i is listed
pub hot_listed : (n : ℕ) (heat : ℕ → ℕ) (low i : ℕ) (hot : List ℕ) → i < n → low < heat i → AreHot n heat low (i + 1) hot
    → AreHot n heat low i (hot ++ i ∷ [])
hot_listed n heat low i hot here hotter are =
    let new = hot ++ i ∷ [] in
    let size : length (hot ++ i ∷ []) ≡ length hot + 1 = simp length-append refl in
    let last : slice_index (hot ++ i ∷ []) (length hot) ≡ i = slice_index-last hot i in
    let below_limit : i < limit_of n hot (length hot) =
    ⊎_elim (λ (none : length hot ≡ 0). omega (arith, limit_first n hot (length hot) none, here))
    (λ (some : length hot ≢ 0).
    let same : length hot - 1 + 1 ≡ length hot = omega arith in
    omega (arith, ap (limit_of n hot) same, limit_next n hot (length hot - 1), are.from (length hot - 1) (omega arith)))
    (cases_eq (length hot) 0) in
    record {
      inside = λ k l.
          ⊎_elim (λ (this : k ≡ length hot). omega (arith, ap (slice_index new) this, last, here))
          (λ (other : k ≢ length hot).
          omega (arith, slice_index-push hot i k (omega (arith, size)), are.inside k (omega (arith, size))))
          (cases_eq k (length hot));
      from = λ k l.
          ⊎_elim (λ (this : k ≡ length hot). omega (arith, ap (slice_index new) this, last))
          (λ (other : k ≢ length hot).
          omega (arith, slice_index-push hot i k (omega (arith, size)), are.from k (omega (arith, size))))
          (cases_eq k (length hot));
      falls = λ k l.
          ⊎_elim
          (λ (this : k ≡ length hot).
          omega (arith, ap (slice_index new) this, last, limit_push n hot i k (omega arith), ap (limit_of n hot) this, below_limit))
          (λ (other : k ≢ length hot).
          omega (
            arith,
            slice_index-push hot i k (omega (arith, size)),
            limit_push n hot i k (omega (arith, size)),
            are.falls k (omega (arith, size)),
          ))
          (cases_eq k (length hot));
      hotter = λ k l.
          ⊎_elim (λ (this : k ≡ length hot). omega (arith, ap (λ x. heat (slice_index new x)) this, ap heat last, hotter))
          (λ (other : k ≢ length hot).
          omega (arith, ap heat (slice_index-push hot i k (omega (arith, size))), are.hotter k (omega (arith, size))))
          (cases_eq k (length hot));
      light = λ k v l le before after.
          ⊎_elim
          (λ (end : k ≡ length hot + 1).
          absurd (omega (arith, ap (limit_of n new) end, limit_next n new (length hot), last)))
          (λ (inner : k ≢ length hot + 1).
          let within : k ≤ length hot = omega (arith, size) in
          let past : i < v =
          ⊎_elim
          (λ (this : k ≡ length hot). omega (arith, after (omega (arith, size)), ap (slice_index new) this, last))
          (λ (other : k ≢ length hot).
          omega (arith, after (omega (arith, size)), slice_index-push hot i k (omega arith), are.from k (omega arith)))
          (cases_eq k (length hot)) in
          are.light k v within (omega arith) (omega (arith, limit_push n hot i k within)) (λ lk.
          omega (arith, after (omega (arith, size)), slice_index-push hot i k lk)))
          (cases_eq k (length hot + 1));
    }

-- row i is passed over
pub hot_passed : (n : ℕ) (heat : ℕ → ℕ) (low i : ℕ) (hot : List ℕ) → heat i ≤ low → AreHot n heat low (i + 1) hot → AreHot n heat low i hot
hot_passed n heat low i hot cool are = record {
  inside = are.inside;
  from = λ k l. omega (arith, are.from k l);
  falls = are.falls;
  hotter = are.hotter;
  light = λ k v l le before after.
      ⊎_elim (λ (this : v ≡ i). omega (arith, ap heat this, cool))
      (λ (other : v ≢ i). are.light k v l (omega arith) before after)
      (cases_eq v i);
}

-- the rows from the limit on are restored
pub restored_more :
    (n : ℕ) (heat : ℕ → ℕ) (low k : ℕ) (hot rest : List ℕ) → AreHot n heat low 1 hot → k < length hot → length rest ≡ n
    → AreLightWhole n low heat (slice_index rest)
    → ((v : ℕ) → 0 < v → v < n → limit_of n hot k ≤ v → slice_index rest v ≡ heat v)
    → AreLightWhole n low heat (slice_index (set rest (slice_index hot k) (heat (slice_index hot k))))
    × ((v : ℕ) → 0 < v → v < n → limit_of n hot (k + 1) ≤ v → slice_index (set rest (slice_index hot k) (heat (slice_index hot k))) v ≡ heat v)
restored_more n heat low k hot rest are l size light done =
    let i = slice_index hot k in
    let here : slice_index (set rest (slice_index hot k) (heat (slice_index hot k))) (slice_index hot k) ≡ heat (slice_index hot k) =
    get_or-set_same rest i (heat i) 0 (omega (arith, are.inside k l, size)) in
    let other : (v : ℕ) → v ≢ slice_index hot k
    → slice_index (set rest (slice_index hot k) (heat (slice_index hot k))) v ≡ slice_index rest v =
    λ v apart. get_or-set_other rest i v (heat i) 0 apart in (
      (λ v lv cool.
          ⊎_elim (λ (this : v ≡ i). rw this here) (λ (apart : v ≢ i). other v apart ∙ light v lv cool) (cases_eq v i)),
      (λ v deep lv past.
          ⊎_elim (λ (this : v ≡ i). rw this here)
          (λ (apart : v ≢ i).
          other v apart
          ∙ ⊎_elim (λ (below : v < limit_of n hot k).
          light v lv (are.light k v (omega arith) deep below (λ _. omega (arith, past, limit_next n hot k))))
          (λ (beyond : limit_of n hot k ≤ v). done v deep lv beyond)
          (cases_lt v (limit_of n hot k)))
          (cases_eq v i)),
    )
