-- What is left of touches, one after another.
use Rattle.std.proofs.Common.{◌≡◌, ℕ, zero, suc, ◌+◌, ◌-◌, ◌/◌, ◌^◌, ◌<◌, ◌≤◌, List, [], ◌∷◌, map, replicate, set, All, refl, ap, sym, ◌∙◌, arith}
use Rattle.std.proofs.lemmas.Nat.{shr-shr, shr_le, shr_below, pow_below}
use Rattle.std.proofs.lemmas.List.{map-set}
use Rattle.heat_decay.specs.declared.touch.Touch.{Touch}
use Rattle.heat_decay.specs.Heat.{after_tick, all_cold, cooled, heats_of, touched}

-- one tick more
one_more : (touch : Touch) (ticks : ℕ) → touch.tick ≤ ticks → cooled (ticks + 1) touch ≡ after_tick (cooled ticks touch)
one_more touch ticks past =
    let age : ticks + 1 - touch.tick ≡ ticks - touch.tick + 1 = omega arith in
    rw age (sym (shr-shr touch.heat (ticks - touch.tick) 1))

pub cooled_more : (touches : List Touch) (ticks : ℕ) → All (λ touch. touch.tick ≤ ticks) touches
    → map (cooled (ticks + 1)) touches ≡ map after_tick (map (cooled ticks) touches)
cooled_more [] ticks past = refl
cooled_more (t ∷ ts) ticks past =
    rw (one_more t ticks (past zero t (omega arith)), cooled_more ts ticks (λ k d l. past (suc k) d (omega arith))) refl

-- a touch of now is whole
pub cooled_now : (heat ticks : ℕ) → cooled ticks (record { heat = heat; tick = ticks }) ≡ heat
cooled_now heat ticks =
    let age : ticks - ticks ≡ 0 = omega arith in
    rw age (omega arith)

-- touches without heat
pub cooled_cold : (n ticks : ℕ) → map (cooled ticks) (replicate n (record { heat = 0; tick = ticks })) ≡ replicate n 0
cooled_cold zero ticks = refl
cooled_cold (suc n) ticks = rw (cooled_now 0 ticks, cooled_cold n ticks) refl

-- nothing is left after 41 ticks
pub cooled_out : (heat age : ℕ) → heat ≤ 2 ^ 40 → 40 < age → heat / 2 ^ age ≡ 0
cooled_out heat age cool long =
    let below = pow_below 40 age long in
    let same : 0 + age ≡ age = omega arith in
    let none = shr_below heat 0 age (rw same (omega (arith, below, cool))) in
    omega (arith, none)

-- a tick changes no touch
pub ticked : (limit ticks : ℕ) (touches : List Touch) → All (λ touch. touch.tick ≤ ticks) touches
    → heats_of limit (ticks + 1) touches
    ≡ record (heats_of limit ticks touches) { ticks = ticks + 1; heats = map after_tick (map (cooled ticks) touches) }
ticked limit ticks touches past =
    ap (λ (heats : List ℕ). record (heats_of limit (ticks + 1) touches) { heats = heats }) (cooled_more touches ticks past)

pub opened : (limit ticks : ℕ) → heats_of limit ticks (replicate limit (record { heat = 0; tick = ticks })) ≡ all_cold limit ticks
opened limit ticks = ap (λ (heats : List ℕ). record (all_cold limit ticks) { heats = heats }) (cooled_cold limit ticks)

-- a heat that is set now
pub set_now : (limit ticks : ℕ) (touches : List Touch) (dir heat : ℕ)
    → heats_of limit ticks (set touches dir (record { heat = heat; tick = ticks })) ≡ touched (heats_of limit ticks touches) dir heat
set_now limit ticks touches dir heat =
    let now : Touch = record { heat = heat; tick = ticks } in
    ap (λ (heats : List ℕ). record (heats_of limit ticks (set touches dir now)) { heats = heats })
    (map-set (cooled ticks) touches dir now ∙ ap (set (map (cooled ticks) touches) dir) (cooled_now heat ticks))

-- no heat is above the greatest
pub cool_heats : (touches : List Touch) (ticks : ℕ) → All (λ touch. touch.heat ≤ 2 ^ 40) touches
    → All (λ heat. heat ≤ 2 ^ 40) (map (cooled ticks) touches)
cool_heats [] ticks cool k d l = absurd (omega arith)
cool_heats (t ∷ ts) ticks cool zero d l =
    omega (arith, shr_le t.heat (ticks - t.tick), cool zero t (omega arith))
cool_heats (t ∷ ts) ticks cool (suc k) d l = cool_heats ts ticks (λ j e m. cool (suc j) e (omega arith)) k d (omega arith)
