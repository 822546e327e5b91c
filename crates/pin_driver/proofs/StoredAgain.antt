-- A text that is written is read again.
use Rattle.std.proofs.Common.{◌≡◌, ◌∙◌, ℕ, ◌<◌, ◌^◌, List, [], ◌∷◌, ◌++◌, All, codes, length, refl, ap, arith, append_assoc, append-nil, Option, Some, None}
use Rattle.std.specs.Prelude.{decimal, IfSome}
use Rattle.std.specs.List.{flat_map}
use Rattle.std.proofs.lemmas.List.Elements.{All-head, All-tail}
use Rattle.pin_driver.specs.PinPlan.{PlanParts}
use Rattle.pin_driver.specs.StoredReading.{field_bytes, field_number, field_rank, or_dash, read_body, read_change, read_changes, read_count}
use Rattle.pin_driver.specs.StoredReading.{read_earlier, read_field, read_identity, read_many, read_mark, read_pins, skip_word}
use Rattle.pin_driver.specs.StoredText.{AreBytes, FitsChange, FitsEarlier, FitsText, body_text, change_text, count_text}
use Rattle.pin_driver.specs.StoredText.{earlier_text, field_text, kept_bytes, last_text, mark_text, number_or_dash, version_text}
use Rattle.pin_driver.specs.declared.plan.EarlierPin.{EarlierPin}
use Rattle.pin_driver.specs.declared.plan.PlannedChange.{PlannedChange}
use Rattle.pin_driver.specs.declared.question.Mark.{Mark}
use Rattle.pin_driver.proofs.FieldsAgain.{bytes_again, bytes_field, dash_again, dash_field, decimal_field, number_again}
use Rattle.pin_driver.proofs.FieldsAgain.{rank_again, value_last, value_next, word_last, word_next}
use Rattle.pin_driver.proofs.Many.{then_reads}

six : (a b c d e f more : List ℕ) → (a ++ b ++ c ++ d ++ e ++ f) ++ more ≡ a ++ (b ++ (c ++ (d ++ (e ++ (f ++ more)))))
six a b c d e f more = simp append_assoc

four : (a b c d more : List ℕ) → (a ++ b ++ c ++ d) ++ more ≡ a ++ (b ++ (c ++ (d ++ more)))
four a b c d more = simp append_assoc

three : (a b c more : List ℕ) → (a ++ b ++ c) ++ more ≡ a ++ (b ++ (c ++ more))
three a b c more = simp append_assoc

change_from : (text w i b a n p : List ℕ) (inode before after : Option ℕ) (inodes : ℕ) (path : List ℕ) → skip_word (codes "change") text ≡ Some w →
    read_field (or_dash field_number) w ≡ Some (inode, i) → read_field (or_dash field_rank) i ≡ Some (before, b) →
    read_field (or_dash field_rank) b ≡ Some (after, a) → read_field field_number a ≡ Some (inodes, n) → read_field field_bytes n ≡ Some (path, p) →
    read_change text ≡ Some (record { path = path; inode = inode; before = before; after = after; inodes = inodes }, p)
unfolding read_change
change_from text w i b a n p inode before after inodes path hw hi hb ha hn hp =
    let made : List ℕ × List ℕ → Option (PlannedChange × List ℕ) =
    λ (q : List ℕ × List ℕ). Some (record { path = q.0; inode = inode; before = before; after = after; inodes = inodes }, q.1) in
    rw (hw, hi, hb, ha, hn) (then_reads (read_field field_bytes n) (path, p) made (made (path, p)) hp refl)

small_number : (o : Option ℕ) → IfSome o (λ n. n < 2 ^ 64) → IfSome o (λ n. field_number (decimal n) ≡ Some n)
small_number None small = tt
small_number (Some n) small = number_again n small

small_rank : (o : Option ℕ) → IfSome o (λ n. n < 64) → IfSome o (λ n. field_rank (decimal n) ≡ Some n)
small_rank None small = tt
small_rank (Some n) small = rank_again n small

wide_rank : (o : Option ℕ) → IfSome o (λ n. n < 64) → IfSome o (λ n. n < 2 ^ 64)
wide_rank None small = tt
wide_rank (Some n) small = omega (arith, small)

change_again : (change : PlannedChange) (more : List ℕ) → FitsChange change → read_change (change_text change ++ more) ≡ Some (change, more)
change_again change more fits =
    let inodes : List ℕ = field_text (decimal change.inodes) in
    let path : List ℕ = last_text (kept_bytes change.path) in
    let before : List ℕ = field_text (number_or_dash change.before) in
    let after : List ℕ = field_text (number_or_dash change.after) in
    ap read_change (six (field_text (codes "change")) (field_text (number_or_dash change.inode)) before after inodes path more)
    ∙ change_from _ _ _ _ _ _ _ _ _ _ _ _ (word_next (codes "change") (field_text (number_or_dash change.inode) ++
    (before ++ (after ++ (inodes ++ (path ++ more))))) refl)
    (value_next (or_dash field_number) change.inode (number_or_dash change.inode) (before ++ (after ++ (inodes ++ (path ++ more))))
    (dash_field change.inode fits.inode) (dash_again field_number change.inode fits.inode (small_number change.inode fits.inode)))
    (value_next (or_dash field_rank) change.before (number_or_dash change.before) (after ++ (inodes ++ (path ++ more)))
    (dash_field change.before (wide_rank change.before fits.before)) (dash_again field_rank change.before (wide_rank change.before fits.before)
    (small_rank change.before fits.before)))
    (value_next (or_dash field_rank) change.after (number_or_dash change.after) (inodes ++ (path ++ more))
    (dash_field change.after (wide_rank change.after fits.after)) (dash_again field_rank change.after (wide_rank change.after fits.after)
    (small_rank change.after fits.after)))
    (value_next field_number change.inodes (decimal change.inodes) (path ++ more) (decimal_field change.inodes fits.inodes)
    (number_again change.inodes fits.inodes))
    (value_last field_bytes change.path (kept_bytes change.path) more (bytes_field change.path fits.path) (bytes_again change.path fits.path))

earlier_from : (text w i r p : List ℕ) (inode : Option ℕ) (rank : ℕ) (path : List ℕ) → skip_word (codes "pin") text ≡ Some w →
    read_field (or_dash field_number) w ≡ Some (inode, i) → read_field field_rank i ≡ Some (rank, r) → read_field field_bytes r ≡ Some (path, p) →
    read_earlier text ≡ Some (record { path = path; inode = inode; rank = rank }, p)
unfolding read_earlier
earlier_from text w i r p inode rank path hw hi hr hp =
    let made : List ℕ × List ℕ → Option (EarlierPin × List ℕ) =
    λ (q : List ℕ × List ℕ). Some (record { path = q.0; inode = inode; rank = rank }, q.1) in
    rw (hw, hi, hr) (then_reads (read_field field_bytes r) (path, p) made (made (path, p)) hp refl)

earlier_again : (pin : EarlierPin) (more : List ℕ) → FitsEarlier pin → read_earlier (earlier_text pin ++ more) ≡ Some (pin, more)
earlier_again pin more fits =
    let rank : List ℕ = field_text (decimal pin.rank) in
    let path : List ℕ = last_text (kept_bytes pin.path) in
    ap read_earlier (four (field_text (codes "pin")) (field_text (number_or_dash pin.inode)) rank path more)
    ∙ earlier_from _ _ _ _ _ _ _ _ (word_next (codes "pin") (field_text (number_or_dash pin.inode) ++ (rank ++ (path ++ more))) refl)
    (value_next (or_dash field_number) pin.inode (number_or_dash pin.inode) (rank ++ (path ++ more)) (dash_field pin.inode fits.inode)
    (dash_again field_number pin.inode fits.inode (small_number pin.inode fits.inode)))
    (value_next field_rank pin.rank (decimal pin.rank) (path ++ more) (decimal_field pin.rank (omega (arith, fits.rank))) (rank_again pin.rank fits.rank))
    (value_last field_bytes pin.path (kept_bytes pin.path) more (bytes_field pin.path fits.path) (bytes_again pin.path fits.path))

many_again : {A : Type 0} (fits : A → Type 0) (text_of : A → List ℕ) (one : List ℕ → Option (A × List ℕ)) →
    ((x : A) (more : List ℕ) → fits x → one (text_of x ++ more) ≡ Some (x, more)) → (xs : List A) (more : List ℕ) → All fits xs →
    read_many one (length xs) (flat_map text_of xs ++ more) ≡ Some (xs, more)
many_again fits text_of one again [] more all = refl
many_again {A} fits text_of one again (x ∷ xs) more all =
    let first : one ((text_of x ++ flat_map text_of xs) ++ more) ≡ Some (x, flat_map text_of xs ++ more) =
    ap one (append_assoc (text_of x) (flat_map text_of xs) more) ∙ again x (flat_map text_of xs ++ more) (All-head fits x xs all) in
    then_reads (one ((text_of x ++ flat_map text_of xs) ++ more)) (x, flat_map text_of xs ++ more) _ (Some (x ∷ xs, more)) first
    (then_reads (read_many one (length xs) (flat_map text_of xs ++ more)) (xs, more) _ (Some (x ∷ xs, more))
    (many_again fits text_of one again xs more (All-tail fits x xs all)) refl)

count_from : (word text w more : List ℕ) (n : ℕ) → skip_word word text ≡ Some w → read_field field_number w ≡ Some (n, more) → read_count word text ≡
    Some (n, more)
unfolding read_count
count_from word text w more n hw hn = rw (hw, hn) refl

pub count_again : (word : List ℕ) (n : ℕ) (more : List ℕ) → skip_word word (field_text word ++ (last_text (decimal n) ++ more)) ≡ Some
    (last_text (decimal n) ++ more) →
    n < 2 ^ 64 → read_count word (count_text word n ++ more) ≡ Some (n, more)
count_again word n more skip small =
    ap (read_count word) (append_assoc (field_text word) (last_text (decimal n)) more)
    ∙ count_from word _ _ more n skip (value_last field_number n (decimal n) more (decimal_field n small) (number_again n small))

changes_from : (text w more : List ℕ) (n : ℕ) (changes : List PlannedChange) → read_count (codes "changes") text ≡ Some (n, w) →
    read_many read_change n w ≡ Some (changes, more) → read_changes text ≡ Some (changes, more)
unfolding read_changes
changes_from text w more n changes hc hm = rw (hc, hm) refl

changes_again : (changes : List PlannedChange) (more : List ℕ) → length changes < 2 ^ 64 → All FitsChange changes →
    read_changes (count_text (codes "changes") (length changes) ++ (flat_map change_text changes ++ more)) ≡ Some (changes, more)
changes_again changes more small all =
    changes_from _ _ more (length changes) changes
    (count_again (codes "changes") (length changes) (flat_map change_text changes ++ more)
    (word_next (codes "changes") (last_text (decimal (length changes)) ++ (flat_map change_text changes ++ more)) refl) small)
    (many_again FitsChange change_text read_change change_again changes more all)

pins_from : (text w more : List ℕ) (n : ℕ) (pins : List EarlierPin) → read_count (codes "pins") text ≡ Some (n, w) →
    read_many read_earlier n w ≡ Some (pins, more) → read_pins text ≡ Some (pins, more)
unfolding read_pins
pins_from text w more n pins hc hm = rw (hc, hm) refl

pins_again : (pins : List EarlierPin) (more : List ℕ) → length pins < 2 ^ 64 → All FitsEarlier pins →
    read_pins (count_text (codes "pins") (length pins) ++ (flat_map earlier_text pins ++ more)) ≡ Some (pins, more)
pins_again pins more small all =
    pins_from _ _ more (length pins) pins
    (count_again (codes "pins") (length pins) (flat_map earlier_text pins ++ more)
    (word_next (codes "pins") (last_text (decimal (length pins)) ++ (flat_map earlier_text pins ++ more)) refl) small)
    (many_again FitsEarlier earlier_text read_earlier earlier_again pins more all)

mark_from : (text w b c : List ℕ) (begun certain : ℕ) → skip_word (codes "mark") text ≡ Some w → read_field field_number w ≡ Some (begun, b) →
    read_field field_number b ≡ Some (certain, c) → read_mark text ≡ Some (record { begun = begun; certain = certain }, c)
unfolding read_mark
mark_from text w b c begun certain hw hb hc = rw (hw, hb, hc) refl

mark_again : (mark : Mark) (more : List ℕ) → mark.begun < 2 ^ 64 → mark.certain < 2 ^ 64 → read_mark (mark_text mark ++ more) ≡ Some (mark, more)
mark_again mark more begun certain =
    ap read_mark (three (field_text (codes "mark")) (field_text (decimal mark.begun)) (last_text (decimal mark.certain)) more)
    ∙ mark_from _ _ _ _ _ _ (word_next (codes "mark") (field_text (decimal mark.begun) ++ (last_text (decimal mark.certain) ++ more)) refl)
    (value_next field_number mark.begun (decimal mark.begun) (last_text (decimal mark.certain) ++ more) (decimal_field mark.begun begun)
    (number_again mark.begun begun))
    (value_last field_number mark.certain (decimal mark.certain) more (decimal_field mark.certain certain) (number_again mark.certain certain))

identity_from : (text w more identity : List ℕ) → skip_word (codes "plan") text ≡ Some w → read_field field_bytes w ≡ Some (identity, more) →
    read_identity text ≡ Some (identity, more)
unfolding read_identity
identity_from text w more identity hw hi = rw (hw, hi) refl

identity_again : (identity more : List ℕ) → AreBytes identity →
    read_identity (field_text (codes "plan") ++ (last_text (kept_bytes identity) ++ more)) ≡ Some (identity, more)
identity_again identity more all =
    identity_from _ _ more identity (word_next (codes "plan") (last_text (kept_bytes identity) ++ more) refl)
    (value_last field_bytes identity (kept_bytes identity) more (bytes_field identity all) (bytes_again identity all))

body_from : (text i m c p e identity : List ℕ) (mark : Mark) (changes : List PlannedChange) (pins : List EarlierPin) →
    read_identity text ≡ Some (identity, i) → read_mark i ≡ Some (mark, m) → read_changes m ≡ Some (changes, c) → read_pins c ≡ Some (pins, p) →
    skip_word (codes "end") p ≡ Some e →
    read_body text ≡ Some ((record { identity = identity; changes = changes; earlier = pins }, mark), e)
unfolding read_body
body_from text i m c p e identity mark changes pins hi hm hc hp he = rw (hi, hm, hc, hp, he) refl

eight : (a b c d e f g h : List ℕ) → a ++ b ++ c ++ d ++ e ++ f ++ g ++ h ≡ a ++ (b ++ (c ++ (d ++ (e ++ (f ++ (g ++ (h ++ [])))))))
eight a b c d e f g h = simp (append_assoc, append-nil)

pub body_again : (plan : PlanParts) (mark : Mark) → FitsText plan mark → read_body (body_text plan mark) ≡ Some ((plan, mark), [])
unfolding body_text
body_again plan mark fits =
    let identity : List ℕ = last_text (kept_bytes plan.identity) in
    let end : List ℕ = last_text (codes "end") ++ [] in
    let pins : List ℕ = count_text (codes "pins") (length plan.earlier) ++ (flat_map earlier_text plan.earlier ++ end) in
    let changes : List ℕ = count_text (codes "changes") (length plan.changes) ++ (flat_map change_text plan.changes ++ pins) in
    ap read_body (eight (field_text (codes "plan")) identity (mark_text mark) (count_text (codes "changes") (length plan.changes))
    (flat_map change_text plan.changes) (count_text (codes "pins") (length plan.earlier)) (flat_map earlier_text plan.earlier) (last_text (codes "end")))
    ∙ body_from _ _ _ _ _ _ plan.identity mark plan.changes plan.earlier (identity_again plan.identity (mark_text mark ++ changes) fits.identity)
    (mark_again mark changes fits.begun fits.certain) (changes_again plan.changes pins fits.change_count fits.changes)
    (pins_again plan.earlier end fits.earlier_count fits.earlier) (word_last (codes "end") [] refl)

pub version_again : (version : ℕ) (more : List ℕ) → version < 2 ^ 64 → read_count (codes "mdbal_pins") (version_text version ++ more) ≡ Some (version, more)
unfolding version_text
version_again version more small =
    count_again (codes "mdbal_pins") version more (word_next (codes "mdbal_pins") (last_text (decimal version) ++ more) refl) small
