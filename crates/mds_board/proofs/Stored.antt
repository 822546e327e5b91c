-- A stored history grows by an entry.
use Rattle.std.proofs.Common.{◌≡◌, ◌∙◌, ◌+◌, ℕ, zero, suc, List, [], ◌∷◌, ◌++◌, All, ap, arith, get_or, length, length-append, refl, subst, sym}
use Rattle.std.proofs.lemmas.List.{get_or_append_left, map-append}
use Rattle.std.proofs.lemmas.List.Elements.{All-append, All-head, All-tail}
use Rattle.std.proofs.Math.Seq.{get_or-append_seam}
use Rattle.mds_board.specs.declared.change.Answer.TheVariants.{Done}
use Rattle.mds_board.specs.declared.change.Change.TheVariants.{Tick}
use Rattle.mds_board.specs.declared.entry.Entry.{Entry}
use Rattle.mds_board.specs.declared.history.Slot.{Slot}
use Rattle.mds_board.specs.declared.history.Slot.TheVariants as slot
use Rattle.mds_board.specs.Stored.{AreSlots, IsSlot, entries_in, entry_in}

nowhere : Entry
nowhere = record { change = Tick; reply = Done }

wider : (n : ℕ) (s : Slot) → IsSlot n s → IsSlot (n + 1) s
wider n (slot.Began rank dir ticket) h = tt
wider n (slot.Ended ticket) h = tt
wider n (slot.Other place) h = omega (arith, h)

-- one entry more outside the slots changes none of theirs

same_entry : (others : List Entry) (e : Entry) (s : Slot) → IsSlot (length others) s → entry_in (others ++ e ∷ []) s ≡ entry_in others s
unfolding nowhere
same_entry others e (slot.Began rank dir ticket) h = refl
same_entry others e (slot.Ended ticket) h = refl
same_entry others e (slot.Other place) h = get_or_append_left others (e ∷ []) nowhere place h

same_entries : (others : List Entry) (e : Entry) (slots : List Slot) → AreSlots others slots → entries_in (others ++ e ∷ []) slots ≡ entries_in others slots
same_entries others e [] h = refl
same_entries others e (s ∷ ss) h =
    cc (same_entry others e s (All-head (IsSlot (length others)) s ss h), same_entries others e ss (All-tail (IsSlot (length others)) s ss h))

-- an entry more, and its slot

pub other_more : (others : List Entry) (slots : List Slot) (e : Entry) (n : ℕ) → n ≡ length others → AreSlots others slots
    → entries_in (others ++ e ∷ []) (slots ++ slot.Other n ∷ []) ≡ entries_in others slots ++ e ∷ []
unfolding nowhere
other_more others slots e n last h =
    map-append (entry_in (others ++ e ∷ [])) slots (slot.Other n ∷ [])
    ∙ (ap (λ (es : List Entry). es ++ get_or (others ++ e ∷ []) n nowhere ∷ []) (same_entries others e slots h)
    ∙ ap (λ (found : Entry). entries_in others slots ++ found ∷ [])
    (ap (λ m. get_or (others ++ e ∷ []) m nowhere) last ∙ get_or-append_seam others e [] nowhere))

pub other_kept : (others : List Entry) (slots : List Slot) (e : Entry) (n : ℕ) → n ≡ length others → AreSlots others slots
    → AreSlots (others ++ e ∷ []) (slots ++ slot.Other n ∷ [])
other_kept others slots e n last h =
    let more = length-append others (e ∷ []) in
    subst (λ m. All (IsSlot m) (slots ++ slot.Other n ∷ [])) (sym more)
    (All-append (IsSlot (length others + 1)) slots (slot.Other n ∷ []) (λ k d near. wider (length others) (get_or slots k d) (h k d near)) alone)
  where
    alone : All (IsSlot (length others + 1)) (slot.Other n ∷ [])
    alone zero d near = omega (arith, last)
    alone (suc k) d near = absurd (omega (arith, near))
