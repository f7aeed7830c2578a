-- A sum of numbers, each less itself: zero as long as all of them are finite, a NaN from the first other one on. Assumes nothing.
use mathlib.Core.Path.{◌≡◌, refl}
use mathlib.Core.Logic.{inl, inr}
use mathlib.Core.Bool.{Bool, true, false, ◌&&◌}
use lib.Ieee.{Float, nan, inf, fin, binary64, add, sub, of_bits, round, sum}
use lib.Ieee.Scale.{finite}
use Rattle.binary64.proofs.Order.{eq_refl}
use Rattle.binary64.proofs.Difference.{Zero, sub_level}

-- the sum, by whether all were finite
abbrev pub spread : Bool → Float
spread true = of_bits binary64 0
spread false = nan

pub spread_finite : (b : Bool) → finite (spread b) ≡ b
unfolding of_bits
spread_finite true = refl
spread_finite false = refl

zero_added : (z : Float) → Zero z → add binary64 (of_bits binary64 0) z ≡ of_bits binary64 0
unfolding of_bits add sum round
zero_added z (inl p) = rw p
zero_added z (inr p) = rw p

-- one number more
pub spread_step : (b : Bool) (x : Float) → add binary64 (spread b) (sub binary64 x x) ≡ spread (b && finite x)
unfolding of_bits add sub
spread_step false x = refl
spread_step true nan = refl
spread_step true (inf true) = refl
spread_step true (inf false) = refl
spread_step true (fin s m e) = zero_added (sub binary64 (fin s m e) (fin s m e)) (sub_level (fin s m e) (fin s m e) refl refl (eq_refl (fin s m e) refl))
