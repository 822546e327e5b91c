-- Fragments whose heat is limited, one by one.
use Rattle.std.proofs.Common.{◌≡◌, ◌<◌, ◌+◌, ◌∙◌, ℕ, List, [], ◌∷◌, ◌++◌, length, drop}
use Rattle.std.proofs.Common.{get_or, set, take, map, arith, ap, sym, drop-set-lt, get_or-drop, get_or-set_same, length-set}
use Rattle.std.proofs.Common.{◌≤◌, ◌*◌, ◌/◌, min}
use Rattle.mds_types.specs.declared.limits.TheConstants.{HEAT_LIMIT}
use Rattle.std.proofs.lemmas.List.Elements.{All-cons}
use Rattle.std.proofs.Common.{All, Option, Some, option_and_then, refl, true}
use Rattle.std.proofs.Math.Seq.{take-append_seam}
use Rattle.std.proofs.lemmas.Grind.{drop_more_same}
use Rattle.std.proofs.lemmas.List.{map-append, map_more, take-set-le}
use Rattle.ceph_dumps.specs.Loads.{FragmentData, fragment_data, if_clean, limited}
use Rattle.ceph_dumps.specs.Paths.{is_clean_path}
use Rattle.ceph_dumps.specs.declared.loads.FragmentHeat.{FragmentHeat}
use Rattle.ceph_dumps.proofs.Clean.{each_passes}

-- the same element behind the same number
same_at : (now old : List FragmentHeat) (at : ℕ) (d : FragmentHeat) → drop at now ≡ drop at old → get_or now at d ≡ get_or old at d
same_at now old at d rest =
    let zero : at ≡ at + 0 = omega arith in
    ap (λ (i : ℕ). get_or now i d) zero ∙ sym (get_or-drop at now 0 d) ∙ ap (λ (l : List FragmentHeat). get_or l 0 d) rest
    ∙ get_or-drop at old 0 d ∙ ap (λ (i : ℕ). get_or old i d) (sym zero)

pub one_limited : (now old : List FragmentHeat) (at : ℕ) (d new : FragmentHeat) → at < length now → at < length old
    → fragment_data new ≡ limited (fragment_data (get_or now at d)) → drop at now ≡ drop at old
    → map fragment_data (take at now) ≡ map limited (map fragment_data (take at old))
    → map fragment_data (take (at + 1) (set now at new)) ≡ map limited (map fragment_data (take (at + 1) old))
one_limited now old at d new inside within is rest done =
    let changed : List FragmentHeat = set now at new in
    map_more fragment_data changed at d (omega (arith, inside, length-set now at new))
    ∙ ap (λ (l : List FragmentHeat). map fragment_data l ++ fragment_data (get_or changed at d) ∷ []) (take-set-le at now at new (omega arith))
    ∙ ap (λ (f : FragmentHeat). map fragment_data (take at now) ++ fragment_data f ∷ []) (get_or-set_same now at new d inside)
    ∙ ap (λ (f : FragmentData). map fragment_data (take at now) ++ f ∷ [])
    (is ∙ ap (λ (f : FragmentHeat). limited (fragment_data f)) (same_at now old at d rest))
    ∙ ap (λ (l : List FragmentData). l ++ limited (fragment_data (get_or old at d)) ∷ []) done
    ∙ sym (ap (map limited) (map_more fragment_data old at d within)
    ∙ map-append limited (map fragment_data (take at old)) (fragment_data (get_or old at d) ∷ []))

pub rest_kept : (now old : List FragmentHeat) (at : ℕ) (new : FragmentHeat) → drop at now ≡ drop at old
    → drop (at + 1) (set now at new) ≡ drop (at + 1) old
rest_kept now old at new rest = drop-set-lt (at + 1) now at new (omega arith) ∙ drop_more_same now old at rest

clean_all : (list : List FragmentHeat) → All (λ fragment. is_clean_path fragment.path.items ≡ true) list
    → if_clean (map fragment_data list) ≡ Some (map fragment_data list)
clean_all list all = rw (each_passes fragment_data (λ fragment. is_clean_path fragment.path) list all) refl

pub all_limited : (said : Option (List FragmentData)) (before after shown : List FragmentHeat) → said ≡ Some (map fragment_data before)
    → map fragment_data after ≡ map limited (map fragment_data before) → shown ≡ after
    → All (λ fragment. is_clean_path fragment.path.items ≡ true) shown
    → option_and_then (λ fragments. if_clean (map limited fragments)) said ≡ Some (map fragment_data shown)
all_limited said before after shown is limits same clean =
    ap (option_and_then (λ fragments. if_clean (map limited fragments))) is
    ∙ ap if_clean (sym limits ∙ ap (map fragment_data) (sym same))
    ∙ clean_all shown clean

pub written_back : (new rest : List FragmentHeat) (size : ℕ) → size ≡ length new → take size (new ++ rest) ≡ new
written_back new rest size is = ap (λ (n : ℕ). take n (new ++ rest)) is ∙ take-append_seam new rest

head_of : (x : FragmentHeat) (list : List FragmentHeat) (y : FragmentHeat) (old : List FragmentHeat)
    → map fragment_data (x ∷ list) ≡ map limited (map fragment_data (y ∷ old)) → fragment_data x ≡ limited (fragment_data y)
head_of x list y old e = ap (λ (l : List FragmentData). get_or l 0 (fragment_data x)) e

tail_of : (x : FragmentHeat) (list : List FragmentHeat) (y : FragmentHeat) (old : List FragmentHeat)
    → map fragment_data (x ∷ list) ≡ map limited (map fragment_data (y ∷ old)) → map fragment_data list ≡ map limited (map fragment_data old)
tail_of x list y old e = ap (λ (l : List FragmentData). drop 1 l) e

pub all_heat : (list old : List FragmentHeat) → map fragment_data list ≡ map limited (map fragment_data old)
    → All (λ fragment. fragment.heat ≤ HEAT_LIMIT) list
all_heat [] old e = λ k d inside. absurd (omega arith)
all_heat (x ∷ list) [] e = absurd (cc)
all_heat (x ∷ list) (y ∷ old) e =
    let is : x.heat ≡ min HEAT_LIMIT y.heat = ap (λ (f : FragmentData). f.heat) (head_of x list y old e) in
    let small : x.heat ≤ HEAT_LIMIT = omega (arith, is) in
    All-cons (λ fragment. fragment.heat ≤ HEAT_LIMIT) x list small (all_heat list old (tail_of x list y old e))

pub all_writes : (list old : List FragmentHeat) → map fragment_data list ≡ map limited (map fragment_data old)
    → All (λ fragment. 2 * fragment.writes ≤ fragment.heat) list
all_writes [] old e = λ k d inside. absurd (omega arith)
all_writes (x ∷ list) [] e = absurd (cc)
all_writes (x ∷ list) (y ∷ old) e =
    let is : x.heat ≡ min HEAT_LIMIT y.heat = ap (λ (f : FragmentData). f.heat) (head_of x list y old e) in
    let half : x.writes ≡ min (min HEAT_LIMIT y.heat / 2) y.writes = ap (λ (f : FragmentData). f.writes) (head_of x list y old e) in
    let small : 2 * x.writes ≤ x.heat = omega (arith, is, half) in
    All-cons (λ fragment. 2 * fragment.writes ≤ fragment.heat) x list small (all_writes list old (tail_of x list y old e))
