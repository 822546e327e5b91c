-- The chains of a table, where a directory is put into one or taken out.
use Rattle.std.proofs.Common.{◌≡◌, ◌≢◌, ℕ, ◌<◌, ◌⊎◌, inl, inr, sym, ap, ◌∙◌, arith, Option, Some, None}
use Rattle.std.proofs.lemmas.Bool.{cases_lt, cases_eq}
use Rattle.dirtree.specs.Keeps.{IsChained}

one : {j k : ℕ} → Some j ≡ Some k → j ≡ k
one h = cc

nothing : {k : ℕ} → None ≡ Some k → ⊥
nothing h = cc

-- A number above all others comes before them.
module _ (place after : ℕ → Option ℕ) (next next_ head head_ : ℕ → ℕ) (new chain : ℕ)
    (chained : IsChained place next head) (some : 0 < new)
    (small : (d k : ℕ) → place d ≡ Some k → d < new)
    (same : (d : ℕ) → d < new → after d ≡ place d) (none : (d : ℕ) → new < d → after d ≡ None) (here : after new ≡ Some chain)
    (nexts : (d : ℕ) → d < new → next_ d ≡ next d) (behind : next_ new ≡ head chain)
    (front : head_ chain ≡ new) (fronts : (c : ℕ) → c ≢ chain → head_ c ≡ head c) where
  -- a directory that is in a chain afterwards was there before, or is the new one
  split : (d k : ℕ) → after d ≡ Some k → ((d < new) × (place d ≡ Some k)) ⊎ ((d ≡ new) × (chain ≡ k))
  split d k is = elim (cases_lt d new) [
    | inl below ↦ inl (below, sym (same d below) ∙ is)
    | inr past ↦ elim (cases_eq d new) [
      | inl last ↦ inr (last, one (sym here ∙ ap after (sym last) ∙ is))
      | inr other ↦ absurd (nothing {k = k} (sym (none d (omega arith)) ∙ is))
    ]
  ]

  old : (d k : ℕ) → place d ≡ Some k → after d ≡ Some k
  old d k is = same d (small d k is) ∙ is

  pub chained_grown : IsChained after next_ head_
  chained_grown = record {
    begins = λ c more. elim (cases_eq c chain) [
      | inl is ↦ let first : head_ c ≡ new = ap head_ is ∙ front in ap after first ∙ here ∙ ap Some (sym is)
      | inr other ↦
          let kept : head_ c ≡ head c = fronts c other in
          let before : place (head c) ≡ Some c = chained.begins c (omega (arith, kept, more)) in
          ap after kept ∙ old (head c) c before
    ];
    follows = λ d k more is rest. elim (split d k is) [
      | inl was ↦
          let kept : next_ d ≡ next d = nexts d was.0 in
          let before = chained.follows d k more was.1 (omega (arith, kept, rest)) in
          (omega (arith, kept, before.0), ap after kept ∙ old (next d) k before.1)
      | inr last ↦
          let to : next_ d ≡ head chain = ap next_ last.0 ∙ behind in
          let before : place (head chain) ≡ Some chain = chained.begins chain (omega (arith, to, rest)) in
          let below = small (head chain) chain before in
          (omega (arith, to, below, last.0), ap after to ∙ old (head chain) chain before ∙ ap Some last.1)
    ];
    greatest = λ d k more is. elim (cases_eq k chain) [
      | inl at ↦
          let first : head_ k ≡ new = ap head_ at ∙ front in
          elim (split d k is) [ inl was ↦ let below = was.0 in omega (arith, first, below) | inr last ↦ let e = last.0 in omega (arith, first, e) ]
      | inr other ↦ elim (split d k is) [
        | inl was ↦ let kept : head_ k ≡ head k = fronts k other in let before = chained.greatest d k more was.1 in omega (arith, kept, before)
        | inr last ↦ absurd (other (sym last.1))
      ]
    ];
    nearest = λ c d k more less isc isd. elim (split d k isd) [
      | inl was ↦
          let below = was.0 in
          let kept : next_ d ≡ next d = nexts d below in
          let before = chained.nearest c d k more less (sym (same c (omega (arith, below, less))) ∙ isc) was.1 in
          omega (arith, kept, before)
      | inr last ↦
          let e = last.0 in
          let to : next_ d ≡ head chain = ap next_ e ∙ behind in
          let stood : place c ≡ Some chain = sym (same c (omega (arith, e, less))) ∙ isc ∙ ap Some (sym last.1) in
          let before = chained.greatest c chain more stood in
          omega (arith, to, before)
    ];
  }

-- A directory leaves its chain.
module _ (place after : ℕ → Option ℕ) (next next_ head head_ : ℕ → ℕ) (gone chain : ℕ)
    (chained : IsChained place next head) (some : 0 < gone) (was : place gone ≡ Some chain)
    (same : (d : ℕ) → d ≢ gone → after d ≡ place d) (none : after gone ≡ None) where
  left : (d k : ℕ) → after d ≡ Some k → (d ≢ gone) × (place d ≡ Some k)
  left d k is = (stays, sym (same d stays) ∙ is)
    where
      stays : d ≢ gone
      stays e = nothing {k = k} (sym none ∙ ap after (sym e) ∙ is)

  old_ : (d k : ℕ) → d ≢ gone → place d ≡ Some k → after d ≡ Some k
  old_ d k other is = same d other ∙ is

  -- what follows the one that left
  rest : (k : ℕ) → chain ≡ k → 0 < next gone → (next gone < gone) × (after (next gone) ≡ Some k)
  rest k is more =
      let behind = chained.follows gone chain some was more in
      let below = behind.0 in
      (below, old_ (next gone) k (λ e. absurd (omega (arith, below, e))) (behind.1 ∙ ap Some is))

  -- it was the first
  pub chained_first : head chain ≡ gone → ((d : ℕ) → d ≢ gone → next_ d ≡ next d) → head_ chain ≡ next gone
      → ((c : ℕ) → c ≢ chain → head_ c ≡ head c) → IsChained after next_ head_
  chained_first first nexts front fronts = record {
    begins = λ c more. elim (cases_eq c chain) [
      | inl is ↦
          let to : head_ c ≡ next gone = ap head_ is ∙ front in
          ap after to ∙ (rest c (sym is) (omega (arith, to, more))).1
      | inr other ↦
          let kept : head_ c ≡ head c = fronts c other in
          let before : place (head c) ≡ Some c = chained.begins c (omega (arith, kept, more)) in
          ap after kept ∙ old_ (head c) c (λ e. other (one (sym before ∙ ap place e ∙ was))) before
    ];
    follows = λ d k more is later.
        let stood = left d k is in
        let kept : next_ d ≡ next d = nexts d stood.0 in
        let before = chained.follows d k more stood.1 (omega (arith, kept, later)) in
        let below = before.0 in
        let stays : next d ≢ gone = λ e.
        let at : chain ≡ k = one (sym was ∙ ap place (sym e) ∙ before.1) in
        let top = chained.greatest d chain more (stood.1 ∙ ap Some (sym at)) in
        absurd (omega (arith, top, first, e, below)) in
        (omega (arith, kept, below), ap after kept ∙ old_ (next d) k stays before.1);
    greatest = λ d k more is.
        let stood = left d k is in
        let other = stood.0 in
        let top = chained.greatest d k more stood.1 in
        elim (cases_eq k chain) [
          | inl at ↦
              let to : head_ k ≡ next gone = ap head_ at ∙ front in
              let begin_ : head k ≡ gone = ap head at ∙ first in
              let near = chained.nearest d gone chain more (omega (arith, top, begin_, other)) (stood.1 ∙ ap Some at) was in
              omega (arith, to, near)
          | inr away ↦ let kept : head_ k ≡ head k = fronts k away in omega (arith, kept, top)
        ];
    nearest = λ c d k more less isc isd.
        let kept : next_ d ≡ next d = nexts d (left d k isd).0 in
        let near = chained.nearest c d k more less (left c k isc).1 (left d k isd).1 in
        omega (arith, kept, near);
  }

  -- it followed another
  pub chained_later : (before : ℕ) → 0 < before → next before ≡ gone → place before ≡ Some chain
      → next_ before ≡ next gone → ((d : ℕ) → d ≢ gone → d ≢ before → next_ d ≡ next d) → ((c : ℕ) → head_ c ≡ head c) → IsChained after next_ head_
  chained_later before more to in_chain skips nexts fronts = record {
    begins = λ c first.
        let kept : head_ c ≡ head c = fronts c in
        let stood : place (head c) ≡ Some c = chained.begins c (omega (arith, kept, first)) in
        let stays : head c ≢ gone = λ e.
        let at : chain ≡ c = one (sym was ∙ ap place (sym e) ∙ stood) in
        let top = chained.greatest before c more (in_chain ∙ ap Some at) in
        absurd (omega (arith, top, e, under)) in
        ap after kept ∙ old_ (head c) c stays stood;
    follows = λ d k some_ is later. elim (cases_eq d before) [
      | inl e ↦
          let at : chain ≡ k = one (sym in_chain ∙ ap place (sym e) ∙ (left d k is).1) in
          let goes : next_ d ≡ next gone = ap next_ e ∙ skips in
          let tail = rest k at (omega (arith, goes, later)) in
          let below = tail.0 in
          (omega (arith, goes, below, under, e), ap after goes ∙ tail.1)
      | inr other ↦
          let stood = left d k is in
          let kept : next_ d ≡ next d = nexts d stood.0 other in
          let step = chained.follows d k some_ stood.1 (omega (arith, kept, later)) in
          let below = step.0 in
          let stays : next d ≢ gone = λ e.
          let at : chain ≡ k = one (sym was ∙ ap place (sym e) ∙ step.1) in
          let here : place d ≡ Some chain = stood.1 ∙ ap Some (sym at) in
          elim (cases_lt d before) [
            | inl less ↦ let near = chained.nearest d before chain some_ less here in_chain in absurd (omega (arith, near, to, below, e))
            | inr above ↦ let near = chained.nearest before d chain more (omega (arith, above, other)) in_chain here in absurd (omega (arith, near, e, under))
          ] in
          (omega (arith, kept, below), ap after kept ∙ old_ (next d) k stays step.1)
    ];
    greatest = λ d k some_ is.
        let kept : head_ k ≡ head k = fronts k in
        let top = chained.greatest d k some_ (left d k is).1 in
        omega (arith, kept, top);
    nearest = λ c d k some_ less isc isd. elim (cases_eq d before) [
      | inl e ↦
          let at : chain ≡ k = one (sym in_chain ∙ ap place (sym e) ∙ (left d k isd).1) in
          let goes : next_ d ≡ next gone = ap next_ e ∙ skips in
          let stood = left c k isc in
          let here : place c ≡ Some chain = stood.1 ∙ ap Some (sym at) in
          let other = stood.0 in
          let near = chained.nearest c before chain some_ (omega (arith, less, e)) here in_chain in
          let nearer = chained.nearest c gone chain some_ (omega (arith, near, to, other)) here was in
          omega (arith, goes, nearer)
      | inr other ↦
          let kept : next_ d ≡ next d = nexts d (left d k isd).0 other in
          let near = chained.nearest c d k some_ less (left c k isc).1 (left d k isd).1 in
          omega (arith, kept, near)
    ];
  }
    where
      under : gone < before
      under = let step = (chained.follows before chain more in_chain (omega (arith, to, some))).0 in omega (arith, step, to)
