-- Ranks are asked from the last one on, and joined from the first one on.
use Rattle.std.proofs.Common.{◌≡◌, ℕ, suc, List, [], ◌∷◌, ◌++◌, length, map, Vec, Global, refl, sym}
use Rattle.std.proofs.Common.{ap, arith, ◌∙◌, subst, append-nil, append_assoc, Result, Ok, Err, inl, inr, ◌⊎◌}
use Rattle.std.specs.Prelude.{IsOk}
use Rattle.std.proofs.lemmas.List.{nil_from_length, same_from_push}
use mathlib.Core.List.{IsPrefix}
use Rattle.mds_board.specs.declared.board_error.BoardError.{BoardError}
use Rattle.heat_ledger.specs.Ledger.{ShareData}
use Rattle.mds_board.specs.declared.entry.Entry.{Entry}
use Rattle.mds_board.specs.History.{World}
use Rattle.rank_threads.specs.declared.work.Work.{Work}
use Rattle.rank_threads.specs.declared.work.WorkAnswer.{WorkAnswer}
use Rattle.rank_threads.specs.Answered.{AreAnswered, IsDepositTold, IsRankServed}
use Rattle.rank_threads.specs.Asking.{Asking, askings}
use Rattle.rank_threads.specs.Serving.{AreReturned, IsDeposited}
use Rattle.rank_threads.specs.Tickets.{all_tickets}
use Rattle.rank_threads.specs.Ways.{Hand, Way, hands_of, shares_of}
use Rattle.rank_threads.proofs.Naming.{all_more}
use Rattle.rank_threads.proofs.Later.{all_later, rank_later}
use Rattle.rank_threads.proofs.Returning.{answered_last, returned, returned_last}

no_snoc : {A : Type 0} (xs : List A) (x : A) → [] ≡ xs ++ x ∷ [] → ⊥
no_snoc [] x h = cc
no_snoc (y ∷ xs) x h = cc

-- hands

pub hands_last : (shares : List ShareData) (ways : List Way) (s : ShareData) (w : Way) → length shares ≡ length ways
    → hands_of (shares ++ s ∷ []) (ways ++ w ∷ []) ≡ hands_of shares ways ++ record { share = s; way = w } ∷ []
hands_last [] [] s w e = refl
hands_last (t ∷ shares) (v ∷ ways) s w e = ap (λ (hs : List Hand). record { share = t; way = v } ∷ hs) (hands_last shares ways s w (omega arith))
hands_last _ _ s w e = absurd (cc)

shares_back : (shares : List ShareData) (ways : List Way) → length shares ≡ length ways → shares_of (hands_of shares ways) ≡ shares
shares_back [] ways e = refl
shares_back (s ∷ shares) [] e = absurd (cc)
shares_back (s ∷ shares) (w ∷ ways) e = ap (λ (ss : List ShareData). s ∷ ss) (shares_back shares ways (omega arith))

shares_last : (hands : List Hand) (h : Hand) → shares_of (hands ++ h ∷ []) ≡ shares_of hands ++ h.share ∷ []
shares_last [] h = refl
shares_last (x ∷ hands) h = ap (λ (ss : List ShareData). x.share ∷ ss) (shares_last hands h)

pub hands_long : (shares : List ShareData) (ways : List Way) → length shares ≡ length ways → length (hands_of shares ways) ≡ length shares
hands_long [] ways e = refl
hands_long (s ∷ shares) [] e = absurd (cc)
hands_long (s ∷ shares) (w ∷ ways) e = ap (λ (n : ℕ). suc n) (hands_long shares ways (omega arith))

-- asking

-- the ranks from here on were asked
pub record AreAsked (scripts : List (Vec Work Global)) (hands : List Hand) (left : List (Vec Work Global))
    (left_hands : List Hand) (asked : List Asking) : Type 0 where
  pub more : List (Vec Work Global)
  pub more_hands : List Hand
  pub scripts_are : scripts ≡ left ++ more
  pub hands_are : hands ≡ left_hands ++ more_hands
  pub asked_are : asked ≡ askings more_hands (map (λ (s : Vec Work Global). s.items) more)

pub none_asked : (scripts : List (Vec Work Global)) (hands : List Hand) (asked : List Asking) → asked ≡ [] → AreAsked scripts hands scripts hands asked
none_asked scripts hands asked none = record {
  more = [];
  more_hands = [];
  scripts_are = sym (append-nil scripts);
  hands_are = sym (append-nil hands);
  asked_are = none;
}

pub more_asked : (scripts : List (Vec Work Global)) (hands : List Hand) (left before : List (Vec Work Global)) (script : Vec Work Global)
    (left_hands rest : List Hand) (hand : Hand) (asked all : List Asking) → AreAsked scripts hands left left_hands asked
    → left ≡ before ++ script ∷ [] → left_hands ≡ rest ++ hand ∷ [] → all ≡ asked ++ record { hand = hand; script = script.items } ∷ []
    → AreAsked scripts hands before rest all
more_asked scripts hands left before script left_hands rest hand asked all h el eh ea = record {
  more = script ∷ h.more;
  more_hands = hand ∷ h.more_hands;
  scripts_are = h.scripts_are ∙ (ap (λ (l : List (Vec Work Global)). l ++ h.more) el ∙ append_assoc before (script ∷ []) h.more);
  hands_are = h.hands_are ∙ (ap (λ (l : List Hand). l ++ h.more_hands) eh ∙ append_assoc rest (hand ∷ []) h.more_hands);
  asked_are = ea ∙ ap (λ (l : List Asking). l ++ record { hand = hand; script = script.items } ∷ []) h.asked_are;
}

pub all_asked : (scripts : List (Vec Work Global)) (hands : List Hand) (left : List (Vec Work Global)) (left_hands : List Hand) (asked : List Asking)
    → AreAsked scripts hands left left_hands asked → length left ≡ 0 → length left_hands ≡ 0
    → asked ≡ askings hands (map (λ (s : Vec Work Global). s.items) scripts)
all_asked scripts hands left left_hands asked h nl nh =
    let ws : scripts ≡ h.more = h.scripts_are ∙ ap (λ (l : List (Vec Work Global)). l ++ h.more) (nil_from_length left nl) in
    let hs : hands ≡ h.more_hands = h.hands_are ∙ ap (λ (l : List Hand). l ++ h.more_hands) (nil_from_length left_hands nh) in
    h.asked_are
    ∙ (ap (λ (l : List Hand). askings l (map (λ (s : Vec Work Global). s.items) h.more)) (sym hs)
    ∙ ap (λ (l : List (Vec Work Global)). askings hands (map (λ (s : Vec Work Global). s.items) l)) (sym ws))

-- joining

-- the first of the ranks that are left
record IsNext (hands : List Hand) (scripts : List (List Work)) (rest : List Asking) (it : Asking) : Type 0 where
  more_hands : List Hand
  more_scripts : List (List Work)
  hands_are : hands ≡ it.hand ∷ more_hands
  scripts_are : scripts ≡ it.script ∷ more_scripts
  left : rest ≡ askings more_hands more_scripts
  equal : length more_hands ≡ length more_scripts

next_asking : (hands : List Hand) (scripts : List (List Work)) (rest : List Asking) (it : Asking) → length hands ≡ length scripts
    → askings hands scripts ≡ rest ++ it ∷ [] → IsNext hands scripts rest it
next_asking (x ∷ hands) (w ∷ scripts) rest it e h =
    let both = same_from_push (askings hands scripts) rest (record { hand = x; script = w }) it h in record {
      more_hands = hands;
      more_scripts = scripts;
      hands_are = ap (λ (a : Asking). a.hand ∷ hands) both.1;
      scripts_are = ap (λ (a : Asking). a.script ∷ scripts) both.1;
      left = sym both.0;
      equal = omega arith;
    }
next_asking _ _ rest it e h = absurd (no_snoc rest it h)

none_left : (hands : List Hand) (scripts : List (List Work)) → length hands ≡ length scripts → [] ≡ askings hands scripts → (hands ≡ []) × (scripts ≡ [])
none_left [] [] e h = (refl, refl)
none_left (x ∷ hands) (w ∷ scripts) e h = absurd (no_snoc (askings hands scripts) (record { hand = x; script = w }) h)
none_left _ _ e h = absurd (cc)

-- the first ranks have answered, and these are left
pub record AreJoinedBut (limit : ℕ) (before : World) (log : List Entry) (hands : List Hand) (scripts : List (List Work)) (asked : List Asking)
    (answers : List (List WorkAnswer)) (after : List Hand) (tickets : List ℕ) : Type 0 where
  pub first_hands : List Hand
  pub more_hands : List Hand
  pub first_scripts : List (List Work)
  pub more_scripts : List (List Work)
  pub hands_are : hands ≡ first_hands ++ more_hands
  pub scripts_are : scripts ≡ first_scripts ++ more_scripts
  pub equal : length more_hands ≡ length more_scripts
  pub left : asked ≡ askings more_hands more_scripts
  pub returned : AreReturned limit (shares_of first_hands) first_scripts answers (shares_of after)
  pub answered : AreAnswered before log first_hands first_scripts answers after
  pub given : tickets ≡ all_tickets answers

pub none_joined : (limit : ℕ) (before : World) (log : List Entry) (hands : List Hand) (scripts : List (List Work)) (asked : List Asking)
    → length hands ≡ length scripts
    → asked ≡ askings hands scripts → AreJoinedBut limit before log hands scripts asked [] [] []
none_joined limit before log hands scripts asked e h = record {
  first_hands = [];
  more_hands = hands;
  first_scripts = [];
  more_scripts = scripts;
  hands_are = refl;
  scripts_are = refl;
  equal = e;
  left = h;
  returned = tt;
  answered = tt;
  given = refl;
}

pub one_joined : (limit : ℕ) (before : World) (log of_rank longer : List Entry) (hands : List Hand) (scripts : List (List Work))
    (asked rest : List Asking) (it : Asking)
    (answers : List (List WorkAnswer)) (given : List WorkAnswer) (after : List Hand) (mid last : Hand) (tickets mine all : List ℕ)
    → AreJoinedBut limit before log hands scripts asked answers after tickets → asked ≡ rest ++ it ∷ []
    → IsRankServed limit before of_rank it.hand it.script given mid mine → IsDeposited mid.share last.share → last.way ≡ mid.way
    → IsPrefix log longer × IsPrefix of_rank longer → all ≡ tickets ++ mine
    → AreJoinedBut limit before longer hands scripts rest (answers ++ given ∷ []) (after ++ last ∷ []) all
one_joined limit before log of_rank longer hands scripts asked rest it answers given after mid last tickets mine all h is served deposited way seen joint =
    let n = next_asking h.more_hands h.more_scripts rest it h.equal (sym h.left ∙ is) in
    let earlier = all_later before log longer h.first_hands h.first_scripts answers after seen.0 h.answered in
    let newest = rank_later before of_rank longer it.hand.way mid.way it.script given seen.1 served.answered in
    record {
      first_hands = h.first_hands ++ it.hand ∷ [];
      more_hands = n.more_hands;
      first_scripts = h.first_scripts ++ it.script ∷ [];
      more_scripts = n.more_scripts;
      hands_are = h.hands_are ∙ (ap (λ (l : List Hand). h.first_hands ++ l) n.hands_are ∙ sym (append_assoc h.first_hands (it.hand ∷ []) n.more_hands));
      scripts_are = h.scripts_are
          ∙ (ap (λ (l : List (List Work)). h.first_scripts ++ l) n.scripts_are
          ∙ sym (append_assoc h.first_scripts (it.script ∷ []) n.more_scripts));
      equal = n.equal;
      left = n.left;
      returned = rw (shares_last h.first_hands it.hand, shares_last after last)
          (returned_last limit (shares_of h.first_hands) h.first_scripts answers (shares_of after) it.hand.share it.script given last.share h.returned
          (returned limit it.hand.share mid.share last.share it.script given served.served deposited));
      answered = answered_last before longer h.first_hands h.first_scripts answers after it.hand it.script given last earlier
          (rw way newest) (rw way served.held);
      given = joint ∙ (ap (λ (l : List ℕ). l ++ mine) h.given ∙ (ap (λ (l : List ℕ). all_tickets answers ++ l) served.given ∙ sym (all_more answers given)));
    }

pub all_joined : (limit : ℕ) (before : World) (log : List Entry) (shares : List ShareData) (ways : List Way) (scripts : List (List Work))
    (asked : List Asking) (answers : List (List WorkAnswer))
    (after : List ShareData) (later : List Way) (tickets : List ℕ) → length shares ≡ length ways → length after ≡ length later
    → AreJoinedBut limit before log (hands_of shares ways) scripts asked answers (hands_of after later) tickets → length asked ≡ 0
    → AreReturned limit shares scripts answers after × AreAnswered before log (hands_of shares ways) scripts answers (hands_of after later)
all_joined limit before log shares ways scripts asked answers after later tickets es ea h few =
    let none = nil_from_length asked few in
    let gone = none_left h.more_hands h.more_scripts h.equal (sym none ∙ h.left) in
    let hs : hands_of shares ways ≡ h.first_hands = h.hands_are ∙ (ap (λ (l : List Hand). h.first_hands ++ l) gone.0 ∙ append-nil h.first_hands) in
    let ws : scripts ≡ h.first_scripts = h.scripts_are ∙ (ap (λ (l : List (List Work)). h.first_scripts ++ l) gone.1 ∙ append-nil h.first_scripts) in
    let ss : shares_of h.first_hands ≡ shares = ap (λ (l : List Hand). shares_of l) (sym hs) ∙ shares_back shares ways es in (
      subst (λ (l : List (List Work)). AreReturned limit shares l answers after) (sym ws)
          (subst (λ (l : List ShareData). AreReturned limit l h.first_scripts answers after) ss
          (subst (λ (l : List ShareData). AreReturned limit (shares_of h.first_hands) h.first_scripts answers l) (shares_back after later ea) h.returned)),
      subst (λ (l : List (List Work)). AreAnswered before log (hands_of shares ways) l answers (hands_of after later)) (sym ws)
          (subst (λ (l : List Hand). AreAnswered before log l h.first_scripts answers (hands_of after later)) (sym hs) h.answered),
    )

-- all was deposited
pub told_done : (before : World) (log : List Entry) (deposited : Result Unit BoardError) → IsOk deposited → IsDepositTold before log deposited
told_done before log (Ok done) h = tt
told_done before log (Err error) h = absurd (cc)

-- of two tellings, one is handed on
pub either_told : (before : World) (log : List Entry) (first second told : Result Unit BoardError) → (told ≡ first) ⊎ (told ≡ second)
    → IsDepositTold before log first → IsDepositTold before log second
    → IsDepositTold before log told
either_told before log first second told (inl is) one two = subst (λ (r : Result Unit BoardError). IsDepositTold before log r) (sym is) one
either_told before log first second told (inr is) one two = subst (λ (r : Result Unit BoardError). IsDepositTold before log r) (sym is) two
