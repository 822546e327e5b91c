-- What a replay of a history has after each change.
use Rattle.std.proofs.Common.{◌≡◌, ◌∙◌, ℕ, zero, suc, ◌≤◌, not, ◌+◌, ◌<◌, All, take, add-one, Bool}
use Rattle.std.proofs.Common.{true, false, cond, List, [], ◌∷◌, ◌++◌, length, map, get_or, set, refl, sym}
use Rattle.std.proofs.Common.{ap, subst, arith, inl, inr, Option, Some, None, Result, Ok, Err, OnOk, length-append}
use Rattle.std.specs.Option.{option_map_or}
use Rattle.std.specs.Prelude.{◌==◌, is_some, is_none, codes, filter, ℤ, pos, negsuc}
use Rattle.std.proofs.Math.ListN.{get_or-append}
use Rattle.std.proofs.Math.Seq.{get_or-append_seam}
use Rattle.std.proofs.lemmas.Bool.{and_parts, false≢true, or_right}
use Rattle.std.proofs.lemmas.Bool.Decides.{nat_tests}
use Rattle.std.proofs.lemmas.List.{get_or-map, length-map, length-replicate, length-set}
use Rattle.std.proofs.lemmas.List.Elements.{All-cons, All-get_or, All-nil}
use Rattle.std.specs.Borrow.{Bor}
use Rattle.std.specs.Str.{bytes_eq}
use Rattle.board_certificates.specs.Certificates.{PosedData, opened, row_name, row_names}
use Rattle.board_certificates.specs.Posed.{IsSized}
use Rattle.board_certificates.specs.Replayed.{IsReplayed, made_names}
use Rattle.board_certificates.specs.declared.replay.Replay.{Replay}
use Rattle.tree_parts.specs.ProblemRows.{row_of}
use Rattle.mds_board.specs.declared.board_error.BoardError.{BoardError}
use Rattle.mds_board.specs.declared.change.Answer.{Answer}
use Rattle.mds_board.specs.declared.change.Change.{Change}
use Rattle.mds_board.specs.declared.change.Change.TheVariants.{Make, Remove, Mask, Deposit, Tick, Step, Open, Adopt}
use Rattle.mds_board.specs.declared.change.Change.TheVariants as change
use Rattle.mds_board.specs.State.{State, authorities, dirs_of, happens, next, of_pin, of_tree, or_cause, refusal, start}
use Rattle.dir_pins.specs.declared.pin_error.PinError.{PinError}
use Rattle.dir_pins.specs.declared.pin_error.PinError.TheVariants.{NoDir, NoRank}
use Rattle.dir_pins.specs.Pins.{PinTable, below, is_pin, is_unpinned, nearest_pin, no_pins, pin_refusal, pin_value, unpinned, with_pin}
use Rattle.dirtree.specs.declared.tree_error.TreeError.{TreeError}
use Rattle.dirtree.specs.Tree.{Directories, Entry, IsTree, entry_at, is_there, name_of, remove_refusal, root, with_child, without}
use Rattle.dirtree.specs.Name.{is_name}
use Rattle.dirtree.proofs.Changes.{inside, places}
use Rattle.dirtree.proofs.TreeFacts.{removed_entry}
use Rattle.mds_board.specs.declared.entry.Entry as history
use Rattle.mds_board.specs.declared.history.Shown.{Shown}
use Rattle.mds_board.specs.declared.history.Shown.TheVariants as shown
use Rattle.mds_board.specs.Stored.{shown_entry}
use Rattle.plan_text.specs.RowNames.{IsRowName, is_row_name}
use Rattle.std.proofs.Common.{to_z, of_z, w32}
use Rattle.std.proofs.Math.Seq.{take-suc}
use Rattle.std.proofs.lemmas.Bool.{ltb-true}
use Rattle.std.proofs.lemmas.Int.{to_z-of_z}
use Rattle.std.proofs.lemmas.List.{map-append}

-- a state with the same directories and pins
pub same_replayed : (s t : State) (r : Replay) → t.directories ≡ s.directories → t.pins ≡ s.pins → IsReplayed s r → IsReplayed t r
same_replayed s t r d p h = record {
  directories = h.directories ∙ sym d;
  pins = rw p h.pins;
  ranks = rw p h.ranks;
  few = h.few;
  room = rw (d, p) h.room;
  rooted = rw d h.rooted;
  numbered = rw d h.numbered;
  named = rw d h.named;
}

-- a change that neither makes nor removes a directory nor pins one
abbrev pub IsElsewhere : Change → Type 0
IsElsewhere (Make parent name inodes) = ⊥
IsElsewhere (Remove d) = ⊥
IsElsewhere (change.Pin d value) = ⊥
IsElsewhere _ = Unit {0}

pub elsewhere : (s : State) (r : Replay) (c : Change) → IsElsewhere c → IsReplayed s r → IsReplayed (next s c) r
unfolding happens
elsewhere s r (Make parent name inodes) e h = absurd e
elsewhere s r (Remove d) e h = absurd e
elsewhere s r (change.Pin d value) e h = absurd e
elsewhere s r (Mask bits) e h = same_replayed s _ r refl refl h
elsewhere s r (change.Weights read write) e h = same_replayed s _ r refl refl h
elsewhere s r (Deposit hits) e h = same_replayed s _ r refl refl h
elsewhere s r Tick e h = same_replayed s _ r refl refl h
elsewhere s r (Step event) e h = same_replayed s _ r refl refl h
elsewhere s r Open e h = same_replayed s _ r refl refl h
elsewhere s r (Adopt plan) e h = same_replayed s _ r refl refl h

same_name : (es fs : List (Option Entry)) (d : ℕ) → entry_at fs d ≡ entry_at es d → row_name fs d ≡ row_name es d
same_name es fs zero same = refl
same_name es fs (suc d) same = ap (λ (o : Option Entry). option_map_or (λ f. f.name) o []) same

last_name : (es : List (Option Entry)) (d : ℕ) (e : Entry) → 0 < d → entry_at es d ≡ Some e → row_name es d ≡ e.name
last_name es zero e some at = absurd (omega arith)
last_name es (suc d) e some at = ap (λ (o : Option Entry). option_map_or (λ f. f.name) o []) at

-- the root only
root_named : (d : ℕ) → is_there (Some root ∷ []) d ≡ true → get_or (codes "/" ∷ []) d [] ≡ row_name (Some root ∷ []) d
root_named zero there = refl
root_named (suc d) there = absurd (false≢true there)

pub begun : (limit active ranks : ℕ) (r : Replay) → active ≤ ranks → ranks ≤ 64
    → r.tree ≡ record { limit = limit; entries = Some root ∷ [] } → r.pins ≡ no_pins limit ranks → made_names r ≡ codes "/" ∷ []
    → IsReplayed (start limit active) r
begun limit active ranks r enough few tree pins names = record {
  directories = tree;
  pins = ap (λ (t : PinTable). t.own) pins;
  ranks = subst (λ (t : PinTable). active ≤ t.active) (sym pins) enough;
  few = subst (λ (t : PinTable). t.active ≤ 64) (sym pins) few;
  room = length-replicate limit None;
  rooted = omega arith;
  numbered = ap length names;
  named = λ d there. ap (λ (ns : List (List ℕ)). get_or ns d []) names ∙ root_named d there;
}

-- a directory is made
module _ (s : State) (r now : Replay) (parent inodes : ℕ) (name : List ℕ) (h : IsReplayed s r) where
  made_name : made_names now ≡ made_names r ++ name ∷ [] → (d : ℕ) → is_there (with_child s.directories parent name inodes).entries d ≡ true
      → get_or (made_names now) d [] ≡ row_name (with_child s.directories parent name inodes).entries d
  made_name names d there =
      let e : Entry = record { parent = parent; name = name; inodes = inodes } in
      let first : get_or (made_names now) d [] ≡ get_or (made_names r ++ name ∷ []) d [] = ap (λ (ns : List (List ℕ)). get_or ns d []) names in
      elim (places s.directories.entries (Some e) d) [
        | inl old ↦
            let was : is_there s.directories.entries d ≡ true = sym (ap is_some old.1) ∙ there in
            first ∙ (get_or-append (made_names r) (name ∷ []) [] d (omega (arith, old.0, h.numbered))
            ∙ (h.named d was ∙ sym (same_name s.directories.entries _ d old.1)))
        | inr new ↦ elim new [
          | inl last ↦
              first
              ∙ (ap (λ (k : ℕ). get_or (made_names r ++ name ∷ []) k []) (last.0 ∙ sym h.numbered)
              ∙ (get_or-append_seam (made_names r) name [] [] ∙ sym (last_name _ d e (omega (arith, last.0, h.rooted)) last.1)))
          | inr past ↦ absurd (false≢true (sym (ap is_some past.1) ∙ there))
        ]
      ]

  pub made : now.tree ≡ with_child r.tree parent name inodes → now.pins ≡ r.pins → made_names now ≡ made_names r ++ name ∷ []
      → IsReplayed (next s (Make parent name inodes)) now
  unfolding happens
  made tree pins names = record {
    directories = tree ∙ ap (λ (t : Directories). with_child t parent name inodes) h.directories;
    pins = ap (λ (t : PinTable). t.own) pins ∙ h.pins;
    ranks = subst (λ (t : PinTable). s.pins.active ≤ t.active) (sym pins) h.ranks;
    few = subst (λ (t : PinTable). t.active ≤ 64) (sym pins) h.few;
    room = h.room;
    rooted = omega (arith, length-append s.directories.entries (Some (record { parent = parent; name = name; inodes = inodes }) ∷ []), h.rooted);
    numbered = ap length names ∙ omega (
      arith,
      length-append (made_names r) (name ∷ []),
      length-append s.directories.entries (Some (record { parent = parent; name = name; inodes = inodes }) ∷ []),
      h.numbered,
    );
    named = made_name names;
  }

left_there : (b : Bool) (o now : Option Entry) → now ≡ cond b None o → is_some now ≡ true → now ≡ o
left_there true o now e there = absurd (false≢true (sym (ap is_some e) ∙ there))
left_there false o now e there = e

-- a directory is removed
pub removed : (s : State) (r : Replay) (d : ℕ) → IsReplayed s r → IsReplayed (next s (Remove d)) (record r { tree = without r.tree d })
unfolding happens
removed s r d h = record {
  directories = ap (λ (t : Directories). without t d) h.directories;
  pins = h.pins;
  ranks = h.ranks;
  few = h.few;
  room = h.room;
  rooted = omega (arith, length-set s.directories.entries d None, h.rooted);
  numbered = h.numbered ∙ sym (length-set s.directories.entries d None);
  named = λ k there.
      let same = left_there (k == d) (entry_at s.directories.entries k) _ (removed_entry s.directories.entries d k) there in
      h.named k (sym (ap is_some same) ∙ there) ∙ sym (same_name s.directories.entries _ k same);
}

-- a directory is pinned
pub pinned : (s : State) (r : Replay) (d : ℕ) (value : ℤ) → IsReplayed s r
    → IsReplayed (next s (change.Pin d value)) (record r { pins = with_pin r.pins d value })
unfolding happens
pinned s r d value h = record {
  directories = h.directories;
  pins = ap (λ (own : List (Option ℕ)). set own d (pin_value value)) h.pins;
  ranks = h.ranks;
  few = h.few;
  room = length-set s.pins.own d (pin_value value) ∙ h.room;
  rooted = h.rooted;
  numbered = h.numbered;
  named = h.named;
}

second_none : (x y : Option BoardError) → or_cause x y ≡ None → y ≡ None
second_none None y h = h
second_none (Some e) y h = absurd (cc)

first_none : (x y : Option BoardError) → or_cause x y ≡ None → x ≡ None
first_none None y h = refl
first_none (Some e) y h = absurd (cc)

of_tree_none : (x : Option TreeError) → of_tree x ≡ None → x ≡ None
of_tree_none None h = refl
of_tree_none (Some e) h = absurd (cc)

of_pin_none : (x : Option PinError) → of_pin x ≡ None → x ≡ None
of_pin_none None h = refl
of_pin_none (Some e) h = absurd (cc)

pub removable : (s : State) (r : Replay) (d : ℕ) → IsReplayed s r → refusal s (Remove d) ≡ None → remove_refusal r.tree d ≡ None
unfolding refusal
removable s r d h free =
    ap (λ (t : Directories). remove_refusal t d) h.directories
    ∙ of_tree_none (remove_refusal s.directories d) (first_none _ _ (second_none _ _ free))

wider_pin : (few many : ℕ) (value : ℤ) → few ≤ many → is_pin few value ≡ true → is_pin many value ≡ true
wider_pin few many (pos rank) h is = grind (arith, nat_tests)
wider_pin few many (negsuc zero) h is = refl
wider_pin few many (negsuc (suc n)) h is = is

wider_free : (there few many : Bool) → (few ≡ true → many ≡ true) → cond (not there) (Some NoDir) (cond (not few) (Some NoRank) None) ≡ None
    → cond (not there) (Some NoDir) (cond (not many) (Some NoRank) None) ≡ None
wider_free false few many h free = free
wider_free true true many h free = ap (λ (b : Bool). cond (not b) (Some NoRank) None) (h refl)
wider_free true false many h free = absurd (cc)

pub pinnable : (s : State) (r : Replay) (d : ℕ) (value : ℤ) → IsReplayed s r → refusal s (change.Pin d value) ≡ None
    → pin_refusal r.pins.active r.tree.entries d value ≡ None
unfolding refusal
pinnable s r d value h free =
    rw h.directories (wider_free (is_there s.directories.entries d) (is_pin s.pins.active value) (is_pin r.pins.active value)
    (wider_pin s.pins.active r.pins.active value h.ranks)
    (of_pin_none (pin_refusal s.pins.active s.directories.entries d value) (second_none _ _ free)))

-- each row of a problem that is opened has a name
pub sized : (s : State) (c : Change) (last : Option PosedData) (reply : Answer) → reply ≡ (happens s c).reply → IsSized last → IsSized (opened s last reply)
unfolding happens
sized s (Make parent name inodes) last reply is h = rw is h
sized s (Remove d) last reply is h = rw is h
sized s (change.Pin d value) last reply is h = rw is h
sized s (Mask bits) last reply is h = rw is h
sized s (change.Weights read write) last reply is h = rw is h
sized s (Deposit hits) last reply is h = rw is h
sized s Tick last reply is h = rw is h
sized s (Step e) last reply is h = rw is h
sized s Open last reply is h =
    rw is (length-map (dirs_of s) (row_name s.directories.entries)
    ∙ sym (length-map (dirs_of s) (row_of s.directories.entries s.heats.heats (authorities s) (dirs_of s))))
sized s (Adopt plan) last reply is h = rw is h

-- what a replay has of a directory that is there
module _ (s : State) (r : Replay) (d : ℕ) (h : IsReplayed s r) (there : is_there r.tree.entries d ≡ true) where
  there_too : is_there s.directories.entries d ≡ true
  there_too = ap (λ (t : Directories). is_there t.entries d) (sym h.directories) ∙ there

  pub name_inside : d < length r.names.items
  name_inside = let below = inside s.directories.entries d there_too in omega (arith, below, h.numbered, length-map r.names.items (λ name. name.now))

  pub name_is : (b : Bor (List ℕ)) → b ≡ get_or r.names.items d b → b.now ≡ row_name r.tree.entries d
  name_is b at =
      ap (λ (x : Bor (List ℕ)). x.now) at
      ∙ (sym (get_or-map (λ (x : Bor (List ℕ)). x.now) r.names.items d b [] name_inside)
      ∙ (h.named d there_too ∙ ap (λ (t : Directories). row_name t.entries d) (sym h.directories)))

slash_is_name : IsRowName (codes "/")
unfolding is_row_name
slash_is_name = refl

name_is_name : (name : List ℕ) → is_name name ≡ true → IsRowName name
unfolding is_row_name
name_is_name name is = or_right (bytes_eq name (codes "/")) (is_name name) is

pub row_is_named : (es : List (Option Entry)) (d : ℕ) → IsTree es → is_there es d ≡ true → IsRowName (row_name es d)
row_is_named es zero tree there = slash_is_name
row_is_named es (suc d) tree there = name_is_name (name_of es (suc d)) (tree.named (suc d) (omega arith) there)

-- there is room for a pin of each directory
pub roomy : (s : State) (r : Replay) → IsReplayed s r → r.tree.limit ≤ length r.pins.own
roomy s r h = omega (arith, h.room, ap length h.pins, ap (λ (t : Directories). t.limit) h.directories)

-- each directory that no pin holds is there
pub free_there : (es : List (Option Entry)) (own : List (Option ℕ)) (i d : ℕ) → i < length (unpinned es own)
    → d ≡ get_or (unpinned es own) i d → is_there es d ≡ true
free_there es own i d near at =
    let all : All (λ d. is_there es d ≡ true) (unpinned es own) = all_free (below (length es)) in
    ap (is_there es) at ∙ All-get_or (λ (d : ℕ). is_there es d ≡ true) (unpinned es own) i d near all
  where
    all_free : (ds : List ℕ) → All (λ d. is_there es d ≡ true) (filter (is_unpinned es own) ds)
    all_free [] = All-nil (λ (d : ℕ). is_there es d ≡ true)
    all_free (d ∷ ds) = elim (is_unpinned es own d) as
        (λ b. is_unpinned es own d ≡ b → All (λ d. is_there es d ≡ true)
        (cond b (d ∷ filter (is_unpinned es own) ds) (filter (is_unpinned es own) ds))) [
          | true ↦ λ e. All-cons (λ (d : ℕ). is_there es d ≡ true) d (filter (is_unpinned es own) ds)
              (and_parts (is_there es d) (is_none (nearest_pin es own d)) e).0 (all_free ds)
          | false ↦ λ e. all_free ds
        ] refl

pub on_ok_three : {A E P Q R S : Type 0} (r : Result A E) → (P → Q → R → S) → OnOk r P → OnOk r Q → OnOk r R → OnOk r S
on_ok_three (Ok a) f p q r = f p q r
on_ok_three (Err e) f p q r = tt

-- a change that is none of these
pub none_of : (c : Change) → ((parent : ℕ) (name : List ℕ) (inodes : ℕ) → c ≡ Make parent name inodes → ⊥) → ((d : ℕ) → c ≡ Remove d → ⊥)
    → ((d : ℕ) (value : ℤ) → c ≡ change.Pin d value → ⊥) → IsElsewhere c
none_of (Make parent name inodes) m r p = m parent name inodes refl
none_of (Remove d) m r p = r d refl
none_of (change.Pin d value) m r p = p d value refl
none_of (Mask bits) m r p = tt
none_of (change.Weights read write) m r p = tt
none_of (Deposit hits) m r p = tt
none_of Tick m r p = tt
none_of (Step event) m r p = tt
none_of Open m r p = tt
none_of (Adopt plan) m r p = tt

pin_of_free : (there is : Bool) → cond (not there) (Some NoDir) (cond (not is) (Some NoRank) None) ≡ None → is ≡ true
pin_of_free true true free = refl
pin_of_free true false free = absurd (cc)
pin_of_free false is free = absurd (cc)

same_value : (active : ℕ) (value : ℤ) → active ≤ 64 → is_pin active value ≡ true → to_z w32 (of_z w32 value) ≡ value
same_value active (pos rank) few is = to_z-of_z w32 (pos rank) (record { sfits = omega (arith, ltb-true rank active is, few) })
same_value active (negsuc zero) few is = to_z-of_z w32 (negsuc zero) (record { sfits = omega arith })
same_value active (negsuc (suc n)) few is = absurd (false≢true is)

-- the value of a pin that is allowed is a number of 32 bits
pub value_same : (s : State) (r : Replay) (d : ℕ) (value : ℤ) → IsReplayed s r → refusal s (change.Pin d value) ≡ None → to_z w32 (of_z w32 value) ≡ value
value_same s r d value h free = same_value r.pins.active value h.few
    (pin_of_free (is_there r.tree.entries d) (is_pin r.pins.active value) (pinnable s r d value h free))

-- one more name
pub map_next : {A B : Type 0} (f : A → B) (xs : List A) (i : ℕ) (d : A) → i < length xs → map f (take (i + 1) xs) ≡ map f (take i xs) ++ f (get_or xs i d) ∷ []
map_next f xs i d h = rw (add-one, take-suc xs i d) (map-append f (take i xs) (get_or xs i d ∷ []))

pub names_same : (s : State) (r : Replay) → IsReplayed s r → map (row_name r.tree.entries) (unpinned r.tree.entries r.pins.own) ≡ row_names s
names_same s r h =
    ap (λ (t : Directories). map (row_name t.entries) (unpinned t.entries r.pins.own)) h.directories
    ∙ ap (λ (own : List (Option ℕ)). map (row_name s.directories.entries) (unpinned s.directories.entries own)) h.pins

-- an entry of a request
pub request_elsewhere : (k : Shown) → ((e : Bor history.Entry) → k ≡ shown.Other e → ⊥) → IsElsewhere (shown_entry k).change
request_elsewhere (shown.Began rank dir ticket) other = tt
request_elsewhere (shown.Ended ticket) other = tt
request_elsewhere (shown.Other e) other = absurd (other e refl)

pub request_opens_nothing : (s : State) (last : Option PosedData) (k : Shown) → ((e : Bor history.Entry) → k ≡ shown.Other e → ⊥)
    → last ≡ opened s last (shown_entry k).reply
request_opens_nothing s last (shown.Began rank dir ticket) other = refl
request_opens_nothing s last (shown.Ended ticket) other = refl
request_opens_nothing s last (shown.Other e) other = absurd (other e refl)
