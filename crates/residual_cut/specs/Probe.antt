-- What a probe's answer says.
use Rattle.std.specs.Prelude.{ℕ}
use Rattle.residual_cut.specs.declared.probe.Probe.{Probe}
use Rattle.residual_cut.specs.declared.probe.Probe.TheVariants.{Fits, TooMany}

-- what holds of the hottest part where the rows fit
abbrev pub IfFits : (ℕ → Type 0) → Probe → Type 0
IfFits P (Fits heat) = P heat
IfFits P (TooMany above) = Unit {0}

-- what holds of the least sum above the bound where they don't
abbrev pub IfTooMany : (ℕ → Type 0) → Probe → Type 0
IfTooMany P (Fits heat) = Unit {0}
IfTooMany P (TooMany above) = P above
