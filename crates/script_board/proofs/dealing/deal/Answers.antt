use Rattle.std.proofs.Common.{◌≡◌, ◌+◌, ◌++◌, ◌∷◌, [], ℕ, Bool, true, false, cond, List, Vec}
use Rattle.std.proofs.Common.{Global, length, take, map, set, get_or, sym, subst, ap, arith, ◌∙◌, append-nil}
use Rattle.std.specs.Prelude.{filter}
use Rattle.std.proofs.lemmas.List.{length-map, take_all}
use Rattle.dirtree.specs.Tree.{Directories, is_there}
use Rattle.rank_threads.specs.declared.work.Work.{Work}
use Rattle.script_board.specs.declared.dealing.Seat.{Seat}
use Rattle.script_board.specs.declared.load.Load.{Load}
use Rattle.script_board.specs.Serve.{IsDealt, script_at, work_of}
use Rattle.script_board.proofs.DealingLemmas.{dealt_more, filter_more}
use Rattle.script_board.proofs.dealing.deal.Goals as goal

abbrev items : List (Vec Work Global) → List (List Work)
items scripts = map (λ (s : Vec Work Global). s.items) scripts

pub loop-load-init : goal.loop-load-init
loop-load-init g c = c.in_ok-dealt.ensures c.args.board.now

pub loop-load-preserved-then-not-contains : goal.loop-load-preserved-then-not-contains
loop-load-preserved-then-not-contains g c =
    let i : ℕ = c.loop-load.load-index in
    let item : Load = c.load-item.result in
    let test : Load → Bool = λ x. is_there c.args.board.now.state.directories.entries x.dir in
    let at : Load = get_or c.args.loads.now i item in
    let fails : test at ≡ false = ap test (sym c.load-item.is)
    ∙ (ap (λ (t : Directories). is_there t.entries item.dir) (sym c.tree.ensures)
    ∙ (sym c.contains.ensures.there ∙ c.if-not-contains.true)) in
    subst (λ (ls : List Load). IsDealt c.args.board.now c.args.ranks ls (items c.loop-load.dealt.scripts.items) c.loop-load.dealt.seats.items)
    (sym (filter_more test c.args.loads.now i item c.loop-load-test.true
    ∙ (ap (λ (v : Bool). filter test (take i c.args.loads.now) ++ cond v (at ∷ []) []) fails
    ∙ append-nil (filter test (take i c.args.loads.now)))))
    c.loop-load.invariant

pub add-requires : goal.add-requires
add-requires g c =
    let size = c.loop-load.invariant.as_many in
    let long = c.loop-load.dealt.scripts.ok.0 in
    let mapped : length (items c.loop-load.dealt.scripts.items)
    ≡ length c.loop-load.dealt.scripts.items = length-map c.loop-load.dealt.scripts.items (λ (s : Vec Work Global). s.items) in
    let below = c.asked_rank-rank.ensures.inside in
    record { inside = omega (arith, size, long, mapped, below) }

pub loop-load-preserved : goal.loop-load-preserved
loop-load-preserved g c =
    let i : ℕ = c.loop-load.load-index in
    let item : Load = c.load-item.result in
    let test : Load → Bool = λ x. is_there c.args.board.now.state.directories.entries x.dir in
    let at : Load = get_or c.args.loads.now i item in
    let so_far : List Load = filter test (take i c.args.loads.now) in
    let passes : test at ≡ true = ap test (sym c.load-item.is)
    ∙ (ap (λ (t : Directories). is_there t.entries item.dir) (sym c.tree.ensures)
    ∙ (sym c.contains.ensures.there ∙ c.if-not-contains.false)) in
    let scripts : List (List Work) = items c.loop-load.dealt.scripts.items in
    let rank : ℕ = c.asked_rank-rank.result in
    let grown : List (List Work) = set scripts rank (script_at scripts rank ++ work_of item ∷ []) in
    let more : filter test (take (i + 1) c.args.loads.now) ≡ so_far ++ item ∷ [] =
    filter_more test c.args.loads.now i item c.loop-load-test.true
    ∙ (ap (λ (v : Bool). so_far ++ cond v (at ∷ []) []) passes ∙ ap (λ (l : Load). so_far ++ l ∷ []) (sym c.load-item.is)) in
    subst (λ (ls : List Load). IsDealt c.args.board.now c.args.ranks ls (items c.add.new.self.scripts.items) c.add.new.self.seats.items) (sym more)
    (subst (λ (scripts : List (List Work)). IsDealt c.args.board.now c.args.ranks (so_far ++ item ∷ []) scripts c.add.new.self.seats.items)
    (sym c.in_ok-add.ensures.scripts)
    (subst (λ (seats : List Seat). IsDealt c.args.board.now c.args.ranks (so_far ++ item ∷ []) grown seats) (sym c.in_ok-add.ensures.seats)
    (dealt_more c.args.board.now c.args.ranks so_far item (items c.loop-load.dealt.scripts.items) c.loop-load.dealt.seats.items
    c.asked_rank-rank.result c.asked_rank-rank.ensures.rank c.asked_rank-rank.ensures.inside c.loop-load.invariant)))

pub returns : goal.returns
returns g c =
    subst (λ (ls : List Load). IsDealt c.args.board.now c.args.ranks
    (filter (λ x. is_there c.args.board.now.state.directories.entries x.dir) ls) (items c.loop-load.dealt.scripts.items)
    c.loop-load.dealt.seats.items)
    (take_all c.loop-load.load-index c.args.loads.now c.loop-load-test.false) c.loop-load.invariant
