-- Texts that are said one after another.
use Rattle.std.proofs.Common.{◌∙◌, ◌++◌, [], ℕ, List, Option, Some, None, append_assoc, ap}
use Rattle.std.specs.Io.KnownBytes.{Appends}
use Rattle.mdbal_ceph.specs.Messages.{SaysText}

pub appends_both : (a b c : Option (List ℕ)) (xs ys : List ℕ) → Appends a b xs → Appends b c ys → Appends a c (xs ++ ys)
appends_both None b c xs ys one two = tt
appends_both (Some x) None c xs ys one two = absurd one
appends_both (Some x) (Some y) None xs ys one two = absurd two
appends_both (Some x) (Some y) (Some z) xs ys one two = two ∙ (ap (λ (s : List ℕ). s ++ ys) one ∙ append_assoc x xs ys)

-- where what was said is not known
pub says_unknown : (new text : Option (List ℕ)) → SaysText None new text
says_unknown new None = ([], tt)
says_unknown new (Some text) = tt
