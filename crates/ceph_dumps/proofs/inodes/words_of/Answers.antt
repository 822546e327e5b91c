use Rattle.std.proofs.Common.{◌≡◌, ◌∙◌, ◌∷◌, ℕ, List, ap, drop, subst, sym, take}
use Rattle.ceph_dumps.specs.Inodes.{IsInodeNumber}
use Rattle.ceph_dumps.proofs.Records.{words_behind, words_front}
use Rattle.ceph_dumps.proofs.inodes.words_of.Goals as goal

pub returns-in_default : goal.returns-in_default
returns-in_default c = λ number name is.
    let text : List ℕ = c.args.text.now in
    let front : c.split_at.result.0.now ≡ is.digits =
    c.split_at.ensures.front ∙ (ap (λ (k : ℕ). take k text) c.digit_count.ensures.count ∙ words_front text name number is) in
    c.in_default.ensures number (subst (λ (ds : List ℕ). IsInodeNumber ds number) (sym front) is.is)

pub returns-in-None : goal.returns-in-None
returns-in-None c = λ number name is.
    let text : List ℕ = c.args.text.now in
    let behind : c.split_at.result.1.now ≡ 32 ∷ name =
    c.split_at.ensures.back ∙ (ap (λ (k : ℕ). drop k text) c.digit_count.ensures.count ∙ words_behind text name number is) in
    c.in-None.ensures name behind
