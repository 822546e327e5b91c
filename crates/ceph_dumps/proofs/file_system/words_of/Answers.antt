use Rattle.std.proofs.Common.{◌≡◌, ◌∙◌, ◌∷◌, ℕ, List, ap, drop, length, subst, sym}
use Rattle.std.proofs.lemmas.Bool.{both_ways}
use Rattle.ceph_dumps.specs.Complete.{IsWord}
use Rattle.ceph_dumps.proofs.Words.{back_is, front_is, word_ends}
use Rattle.ceph_dumps.proofs.file_system.words_of.Goals as goal

pub returns-in_default : goal.returns-in_default
returns-in_default c = λ name fsid are.
    let line : List ℕ = c.args.line.now in
    let n : c.word_length.result ≡ length name = word_ends line name fsid c.word_length.result are c.word_length.ensures.inside
    c.word_length.ensures.word c.word_length.ensures.end in
    c.in_default.ensures fsid (c.split_at.ensures.back ∙ back_is line name fsid c.word_length.result are n)

pub returns-else-are_words : goal.returns-else-are_words
returns-else-are_words c = λ name fsid are.
    let line : List ℕ = c.args.line.now in
    let n : c.word_length.result ≡ length name = word_ends line name fsid c.word_length.result are c.word_length.ensures.inside
    c.word_length.ensures.word c.word_length.ensures.end in
    let front : c.split_at.result.0.now ≡ name = c.split_at.ensures.front ∙ front_is line name fsid c.word_length.result are n in
    let back : 32 ∷ c.in-Some.fsid.now ≡ 32 ∷ fsid = sym c.in-Some.ensures ∙ (c.split_at.ensures.back ∙ back_is line name fsid c.word_length.result are n) in
    let words : IsWord c.split_at.result.0.now × IsWord c.in-Some.fsid.now =
    (subst IsWord (sym front) are.name_is, subst IsWord (sym (ap (drop 1) back)) are.fsid_is) in
    both_ways c.are_words.result c.if-are_words.false (c.are_words.ensures.1 words)
