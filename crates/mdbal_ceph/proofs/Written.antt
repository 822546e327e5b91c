-- Files that are written one after another.
use Rattle.std.proofs.Common.{◌∙◌, ◌++◌, ◌∷◌, [], ℕ, List, Option, Some, None, append-nil, append_assoc, ap, inl, inr, refl, subst, sym, ⊎_elim}
use Rattle.mdbal_ceph.specs.Exit.{FileWrite, Front, IsCutFor, IsCutShort, IsFrontLeft, Whole, Writes}
use Rattle.mdbal_ceph.specs.NoResults.{IsUnwrittenOf}
use Rattle.mdbal_ceph.specs.declared.no_result.NoResult.{NoResult}
use Rattle.mdbal_ceph.specs.declared.no_result.NoResult.TheVariants as why

pub writes_none : (a : Option (List FileWrite)) → Writes a a []
writes_none None = tt
writes_none (Some xs) = sym (append-nil xs)

pub writes_both : (a b c : Option (List FileWrite)) (xs ys : List FileWrite) → Writes a b xs → Writes b c ys → Writes a c (xs ++ ys)
writes_both None b c xs ys one two = tt
writes_both (Some x) None c xs ys one two = absurd one
writes_both (Some x) (Some y) None xs ys one two = absurd two
writes_both (Some x) (Some y) (Some z) xs ys one two = two ∙ (ap (λ (s : List FileWrite). s ++ ys) one ∙ append_assoc x xs ys)

-- nothing is written of files
pub cut_none : (a : Option (List FileWrite)) (name bytes : List ℕ) (more : List FileWrite) → IsCutShort a a (Whole name bytes ∷ more) why.Memory
cut_none a name bytes more = record { whole = []; name = name; bytes = bytes; more = more; all = refl; cut = inl (writes_none a) }

-- one file is not written
pub cut_one : (a b : Option (List FileWrite)) (name bytes : List ℕ) (e : NoResult) → IsUnwrittenOf name e → IsFrontLeft a b [] name
    → IsCutShort a b (Whole name bytes ∷ []) e
cut_one a b name bytes e unwritten begun = record { whole = []; name = name; bytes = bytes; more = []; all = refl; cut = cut_of e unwritten } where
  cut_of : (e : NoResult) → IsUnwrittenOf name e → IsCutFor a b [] name e
  cut_of why.Memory h = inr begun
  cut_of (why.Unwritten told error) h = (h, begun)
  cut_of other h = absurd h

-- and more files would come
pub cut_before : (a b : Option (List FileWrite)) (xs ys : List FileWrite) (e : NoResult) → IsCutShort a b xs e → IsCutShort a b (xs ++ ys) e
cut_before a b xs ys e was = record {
  whole = was.whole;
  name = was.name;
  bytes = was.bytes;
  more = was.more ++ ys;
  all = ap (λ (s : List FileWrite). s ++ ys) was.all ∙ append_assoc was.whole (Whole was.name was.bytes ∷ was.more) ys;
  cut = was.cut;
}

-- and other files were written before
module _ (a b c : Option (List FileWrite)) (xs : List FileWrite) (one : Writes a b xs) (whole : List FileWrite) (name : List ℕ) where
  front_after : IsFrontLeft b c whole name → IsFrontLeft a c (xs ++ whole) name
  front_after w = (w.0, subst (Writes a c) (sym (append_assoc xs whole (Front name w.0 ∷ []))) (writes_both a b c xs (whole ++ Front name w.0 ∷ []) one w.1))

  for_after : (e : NoResult) → IsCutFor b c whole name e → IsCutFor a c (xs ++ whole) name e
  for_after why.Memory cut = ⊎_elim (λ (w : Writes b c whole). inl (writes_both a b c xs whole one w))
      (λ (w : IsFrontLeft b c whole name). inr (front_after w)) cut
  for_after (why.Unwritten told error) cut = (cut.0, front_after cut.1)
  for_after other cut = absurd cut

pub cut_after : (a b c : Option (List FileWrite)) (xs ys : List FileWrite) (e : NoResult) → Writes a b xs → IsCutShort b c ys e → IsCutShort a c (xs ++ ys) e
cut_after a b c xs ys e one was = record {
  whole = xs ++ was.whole;
  name = was.name;
  bytes = was.bytes;
  more = was.more;
  all = ap (λ (s : List FileWrite). xs ++ s) was.all ∙ sym (append_assoc xs was.whole (Whole was.name was.bytes ∷ was.more));
  cut = for_after a b c xs one was.whole was.name e was.cut;
}

-- four files in a row
module _ (a b c d e : Option (List FileWrite)) (one two three four : FileWrite) (error : NoResult) (first : Writes a b (one ∷ [])) where
  pub cut_second : (more : List FileWrite) → IsCutShort b c (two ∷ []) error → IsCutShort a c (one ∷ two ∷ more) error
  cut_second more cut = cut_before a c (one ∷ two ∷ []) more error (cut_after a b c (one ∷ []) (two ∷ []) error first cut)

  pub cut_third : Writes b c (two ∷ []) → (more : List FileWrite) → IsCutShort c d (three ∷ []) error → IsCutShort a d (one ∷ two ∷ three ∷ more) error
  cut_third second more cut =
      cut_before a d (one ∷ two ∷ three ∷ []) more error
      (cut_after a c d (one ∷ two ∷ []) (three ∷ []) error (writes_both a b c (one ∷ []) (two ∷ []) first second) cut)

  pub cut_fourth : Writes b c (two ∷ []) → Writes c d (three ∷ []) → IsCutShort d e (four ∷ []) error → IsCutShort a e (one ∷ two ∷ three ∷ four ∷ []) error
  cut_fourth second third cut =
      cut_after a d e (one ∷ two ∷ three ∷ []) (four ∷ []) error
      (writes_both a c d (one ∷ two ∷ []) (three ∷ []) (writes_both a b c (one ∷ []) (two ∷ []) first second) third) cut

  pub writes_four : Writes b c (two ∷ []) → Writes c d (three ∷ []) → Writes d e (four ∷ []) → Writes a e (one ∷ two ∷ three ∷ four ∷ [])
  writes_four second third fourth =
      writes_both a d e (one ∷ two ∷ three ∷ []) (four ∷ [])
      (writes_both a c d (one ∷ two ∷ []) (three ∷ []) (writes_both a b c (one ∷ []) (two ∷ []) first second) third) fourth
