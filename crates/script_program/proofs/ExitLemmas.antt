-- How a run ended, and what its certificates prove.
use Rattle.std.proofs.Common.{◌≡◌, ◌^◌, ◌⊎◌, ℕ, Bool, true, false, All, List, [], Option, Some, None, Result, Ok, Err, IfOk, IfSome}
use Rattle.std.proofs.Common.{option_and_then, option_map, IfErr, OnErr, inl, inr, is_some, refl, subst, sym, true≢false, ◌∙◌}
use Rattle.std.specs.Prelude.{⊤}
use Rattle.std.specs.Io.KnownBytes.{Appends}
use Rattle.plan_text.specs.Text.{texts}
use Rattle.board_certificates.specs.declared.unwritten.Unwritten.{Unwritten}
use Rattle.clap.specs.Words.{IsAmong, Text, fault_of, kind_of}
use Rattle.command_line.specs.CommandLine.{is_strict, limit_of, mdbal, proofs_of}
use Rattle.command_line.specs.Outcome.{EndsWith, Explains}
use Rattle.command_line.specs.declared.options_error.OptionsError.{OptionsError}
use Rattle.command_line.specs.declared.options_error.OptionsError.TheVariants as cause
use Rattle.mds_types.specs.Certificate.{IsBest, IsCertified}
use Rattle.script_board.specs.Board.{BoardData}
use Rattle.script_engine.specs.Devices.{Reading}
use Rattle.script_engine.specs.Runs.{Gives}
use Rattle.script_engine.specs.declared.driver.RunError.{RunError}
use Rattle.script_engine.specs.declared.driver.RunError.TheVariants.{Memory, Read, Write}
use Rattle.script_session.specs.Ending.{IsRunOf}
use Rattle.script_session.specs.Proofs.{IsProved, certificates_at}
use Rattle.script_session.specs.Script.{IsKeptAt, SomeAnswered, WholeAnswered}
use Rattle.script_session.specs.declared.script.Ended.{Ended}
use Rattle.script_program.specs.Exit.{HasAllIn, HasFrontIn, InFile, IsCarriedOut, IsExit, IsFiledRun, IsMemorySaid, IsRun, run_status}

ok_of : {A E : Type 0} (P : A → Type 0) (r : Result A E) (a : A) → r ≡ Ok a → IfOk r P → P a
ok_of {A} {E} P r a is holds = subst (λ (x : Result A E). IfOk x P) is holds

err_of : {A E : Type 0} (P : E → Type 0) (r : Result A E) (e : E) → r ≡ Err e → IfErr r P → P e
err_of {A} {E} P r e is holds = subst (λ (x : Result A E). IfErr x P) is holds

-- what certificates come to by how their writing ended
pub all_in : (before after : Option (List ℕ)) (told : Result ⊤ Unwritten)
    → ((board : Option BoardData) → IsKeptAt board → All (λ c. IsBest c.problem c.plan) (certificates_at board))
    → ((board : Option BoardData) → IsKeptAt board → All (λ c. IsCertified c.problem c.plan) (certificates_at board))
    → (done : ⊤) → told ≡ Ok done → (board : Option BoardData) → IsKeptAt board → IsProved told before after board → HasAllIn before after board
all_in before after told best certified done is board kept proved = let all = ok_of _ told done is proved.0 in
    (all.0, all.1, best board kept, certified board kept)

pub front_in : (before after : Option (List ℕ)) (told : Result ⊤ Unwritten) (why : Unwritten) → told ≡ Err why
    → (board : Option BoardData) → IsKeptAt board → IsProved told before after board → HasFrontIn before after board
front_in before after told why is board kept proved = err_of _ told why is proved.1

-- certificates that are not written were asked for
pub is_asked : {P : Type 0} (proofs : Option P) (told : Result ⊤ Unwritten) (why : Unwritten) → (proofs ≡ None → told ≡ Ok tt)
    → told ≡ Err why → is_some proofs ≡ true
is_asked (Some p) told why unasked is = refl
is_asked {P} None told why unasked is = absurd (subst (λ (x : Result ⊤ Unwritten). OnErr x ⊥) (sym (unasked refl) ∙ is) tt)

-- what holds between an empty writer and what was written to it holds of the file, if that is known
pub in_file : (Has : Option (List ℕ) → Option (List ℕ) → Option BoardData → Type 0) (early late was is : Option (List ℕ)) (board : Option BoardData)
    → IfSome early (λ _. was ≡ Some []) → IfSome late (λ bytes. (is_some early ≡ true) × (is ≡ Some bytes))
    → Has was is board → IfSome late (λ bytes. Has (Some []) (Some bytes) board)
in_file Has early None was is board empty kept has = tt
in_file Has None (Some bytes) was is board empty kept has = absurd (true≢false (sym kept.0))
in_file Has (Some first) (Some bytes) was is board empty kept has =
    subst (λ (x : Option (List ℕ)). Has (Some []) x board) kept.1 (subst (λ (x : Option (List ℕ)). Has x is board) empty has)

lost_all : (known was : Option (List ℕ)) (board : Option BoardData) → IfSome known (λ _. was ≡ Some [])
    → HasAllIn was None board → IfSome known (λ bytes. HasAllIn (Some []) (Some bytes) board)
lost_all None was board empty has = tt
lost_all (Some bytes) was board empty has = absurd (subst (λ (x : Option (List ℕ)). Appends x None (texts (certificates_at board))) empty has.0)

lost_front : (known was : Option (List ℕ)) (board : Option BoardData) → IfSome known (λ _. was ≡ Some [])
    → HasFrontIn was None board → IfSome known (λ bytes. HasFrontIn (Some []) (Some bytes) board)
lost_front None was board empty has = tt
lost_front (Some bytes) was board empty has = absurd (subst (λ (x : Option (List ℕ)). Appends x None has.0) empty has.3)

module _ {R : Type 0} (remaining : R → Option (List ℕ)) (old new : Reading R) (before after : Option (List ℕ)) (limit : ℕ) (strict : Bool) where
  abbrev Run : (Whole Front : Option BoardData → Type 0) → Bool → ℕ → Type 0
  Run = IsRun remaining old new before after limit strict

  abbrev Filed : (List ℕ → Option (List ℕ)) → Option Text → ℕ → Type 0
  Filed = IsFiledRun remaining old new before after limit strict

  pub broken_off : (Whole Front : Option BoardData → Type 0) (named : Bool) (f : RunError) (r : Result Bool RunError) (status : ℕ)
      → r ≡ Err f → status ≡ run_status f
      → (r ≡ Err Read → (bytes : List ℕ) × Gives remaining old new bytes × WholeAnswered limit strict bytes before after)
      → (r ≡ Err Read → (new.failed ≡ true) ⊎ (new.reads ≡ 2 ^ 40))
      → (r ≡ Err Write → (bytes : List ℕ) × Gives remaining old new bytes × SomeAnswered limit strict bytes before after)
      → (f ≡ Memory → (new ≡ old) × (after ≡ before))
      → Run Whole Front named status
  broken_off Whole Front named Memory r status is says read cause write memory = let same = memory refl in inr (inr (inl (says, (same.0, same.1))))
  broken_off Whole Front named Read r status is says read cause write memory = let whole = read is in
      inr (inr (inr (says, inl (cause is, whole.0, whole.1, whole.2))))
  broken_off Whole Front named Write r status is says read cause write memory = let some = write is in
      inr (inr (inr (says, inr (inl (some.0, some.1, some.2)))))

  -- a run whose script came to its end, or to its first faulty line, where this holds of the board that is left
  pub carried_out : (proofs_before proofs_after : Option (List ℕ)) (ended : Ended) (accepted : Bool) (Has : Option BoardData → Type 0)
      → IsRunOf remaining limit strict old new before after proofs_before proofs_after ended → ended.answered ≡ Ok accepted
      → ((board : Option BoardData) → IsKeptAt board → IsProved ended.proved proofs_before proofs_after board → Has board)
      → IsCarriedOut remaining old new before after limit strict Has accepted
  carried_out proofs_before proofs_after ended accepted Has ran is has =
      let last = ran.proofs in
      let given = ok_of _ ended.answered accepted is ran.given in
      (last.0, ok_of _ ended.answered accepted is last.3, last.1, given.2, ok_of _ ended.answered accepted is ran.stops, has last.0.board last.1 last.2)

  -- what holds of the certificates may be said in other words
  pub said_otherwise : (Whole Front Whole' Front' : Option BoardData → Type 0) (named : Bool) (status : ℕ)
      → ((board : Option BoardData) → Whole board → Whole' board) → ((board : Option BoardData) → Front board → Front' board)
      → Run Whole Front named status
      → Run Whole' Front' named status
  said_otherwise Whole Front Whole' Front' named status all some (inl (is, c)) = inl (is, (c.0, c.1, c.2, c.3, c.4, all c.0.board c.5))
  said_otherwise Whole Front Whole' Front' named status all some (inr (inl (is, c))) = inr (inl (is, (c.0, c.1, c.2, c.3, c.4, all c.0.board c.5)))
  said_otherwise Whole Front Whole' Front' named status all some (inr (inr (inl none))) = inr (inr (inl none))
  said_otherwise Whole Front Whole' Front' named status all some (inr (inr (inr (is, inl unread)))) = inr (inr (inr (is, inl unread)))
  said_otherwise Whole Front Whole' Front' named status all some (inr (inr (inr (is, inr (inl unwritten))))) = inr (inr (inr (is, inr (inl unwritten))))
  said_otherwise Whole Front Whole' Front' named status all some (inr (inr (inr (is, inr (inr (inl none)))))) = inr (inr (inr (is, inr (inr (inl none)))))
  said_otherwise Whole Front Whole' Front' named status all some (inr (inr (inr (is, inr (inr (inr (asked, accepted, c))))))) =
      inr (inr (inr (is, inr (inr (inr (asked, accepted, (c.0, c.1, c.2, c.3, c.4, some c.0.board c.5)))))))

  -- no file is named for certificates
  pub without_file : {A : Type 0} (f : A → Text) (proofs : Option A) → proofs ≡ None
      → (holds : List ℕ → Option (List ℕ)) (Whole Front : Option BoardData → Type 0) (status : ℕ)
      → Run Whole Front false status → Filed holds (option_map f proofs) status
  without_file {A} f proofs is holds Whole Front status ran =
      subst (λ (p : Option A). Filed holds (option_map f p) status) (sym is)
      (said_otherwise Whole Front (InFile HasAllIn holds None) (InFile HasFrontIn holds None) false status (λ board has. tt) (λ board has. tt) ran)

  with_file : {A : Type 0} (f : A → Text) (proofs : Option A) (name : A) → proofs ≡ Some name
      → (holds : List ℕ → Option (List ℕ)) (was now : Option (List ℕ)) (status : ℕ)
      → ((board : Option BoardData) → HasAllIn was now board → IfSome (holds (f name)) (λ bytes. HasAllIn (Some []) (Some bytes) board))
      → ((board : Option BoardData) → HasFrontIn was now board → IfSome (holds (f name)) (λ bytes. HasFrontIn (Some []) (Some bytes) board))
      → Run (HasAllIn was now) (HasFrontIn was now) true status → Filed holds (option_map f proofs) status
  with_file {A} f proofs name is holds was now status all front ran =
      subst (λ (p : Option A). Filed holds (option_map f p) status) (sym is)
      (said_otherwise (HasAllIn was now) (HasFrontIn was now) (InFile HasAllIn holds (Some (f name)))
      (InFile HasFrontIn holds (Some (f name))) true status all front ran)

  -- the file that is named was made, and kept
  pub with_kept : {A F : Type 0} (f : A → Text) (proofs : Option A) (name : A) → proofs ≡ Some name
      → (early holds : List ℕ → Option (List ℕ)) (contents : F → Option (List ℕ)) (made : F) (left : Option F) (file : F) (status : ℕ) → left ≡ Some file
      → IfSome (early (f name)) (λ _. contents made ≡ Some [])
      → IfSome (holds (f name)) (λ bytes. (is_some (early (f name)) ≡ true) × (contents file ≡ Some bytes))
      → Run (HasAllIn (contents made) (option_and_then contents left)) (HasFrontIn (contents made) (option_and_then contents left)) true status
      → Filed holds (option_map f proofs) status
  with_kept {A} {F} f proofs name is early holds contents made left file status some empty kept ran =
      with_file f proofs name is holds (contents made) (contents file) status
      (λ board has. in_file HasAllIn (early (f name)) (holds (f name)) (contents made) (contents file) board empty kept has)
      (λ board has. in_file HasFrontIn (early (f name)) (holds (f name)) (contents made) (contents file) board empty kept has)
      (subst (λ (o : Option F). Run (HasAllIn (contents made) (option_and_then contents o))
      (HasFrontIn (contents made) (option_and_then contents o)) true status) some ran)

  -- what was written to it is gone
  pub with_lost : {A F : Type 0} (f : A → Text) (proofs : Option A) (name : A) → proofs ≡ Some name
      → (holds : List ℕ → Option (List ℕ)) (contents : F → Option (List ℕ)) (made : F) (left : Option F) (status : ℕ) → left ≡ None
      → IfSome (holds (f name)) (λ _. contents made ≡ Some [])
      → Run (HasAllIn (contents made) (option_and_then contents left)) (HasFrontIn (contents made) (option_and_then contents left)) true status
      → Filed holds (option_map f proofs) status
  with_lost {A} {F} f proofs name is holds contents made left status none empty ran =
      with_file f proofs name is holds (contents made) None status
      (λ board has. lost_all (holds (f name)) (contents made) board empty has) (λ board has. lost_front (holds (f name)) (contents made) board empty has)
      (subst (λ (o : Option F). Run (HasAllIn (contents made) (option_and_then contents o))
      (HasFrontIn (contents made) (option_and_then contents o)) true status) none ran)

  -- what the words ask for was carried out
  pub exits : {E : Type 0} (said : E → Option (List ℕ)) (errors_before errors_after : E) (holds : List ℕ → Option (List ℕ))
      (words : List Text) (file : Option Text) (status : ℕ)
      → fault_of mdbal words ≡ [] → limit ≡ limit_of words → strict ≡ is_strict words → file ≡ proofs_of words
      → Filed holds file status
      → IsExit remaining said old new before after errors_before errors_after holds words status
  exits {E} said errors_before errors_after holds words file status accepted is_limit is_strictness is_file ran =
      inl (
        accepted,
        subst (λ (n : ℕ). IsFiledRun remaining old new before after n (is_strict words) holds (proofs_of words) status) is_limit
            (subst (λ (b : Bool). IsFiledRun remaining old new before after limit b holds (proofs_of words) status) is_strictness
            (subst (λ (f : Option Text). Filed holds f status) is_file ran)),
      )

-- why the words give no settings was said
module _ {R E : Type 0} (remaining : R → Option (List ℕ)) (said : E → Option (List ℕ)) (old new : Reading R)
    (before after : Option (List ℕ)) (errors_before errors_after : E) where
  pub explained : (holds : List ℕ → Option (List ℕ)) (words : List Text) (error : OptionsError) (status : ℕ)
      → Explains (fault_of mdbal words) error → EndsWith error status → new ≡ old → (status ≡ 2 → after ≡ before)
      → (error ≡ cause.Memory → IsMemorySaid said errors_before errors_after)
      → IsExit remaining said old new before after errors_before errors_after holds words status
  explained holds words cause.Memory status why is same unprinted memory = inr (inr (is, (same, unprinted is), inr (memory refl)))
  explained holds words (cause.Help error) status why is same unprinted memory = inr (inl (is, inl why.1, same))
  explained holds words (cause.Version error) status why is same unprinted memory = inr (inl (is, inr why.1, same))
  explained holds words (cause.Refused error) status why is same unprinted memory =
      inr (inr (is, (same, unprinted is), inl (λ none. subst (λ ks. IsAmong (kind_of error) ks) none why.3)))
