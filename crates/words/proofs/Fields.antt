-- The law of a field, over any place and any width: what is packed there is read there, whatever stands above and below.
use mathlib.Core.Path.{◌≡◌, sym, ap, ◌∙◌}
use Prim.Native.Nat.{ℕ, ◌+◌, ◌*◌, ◌/◌, ◌%◌, ◌^◌, ◌≤◌, ◌<◌}
use native.Mathlib.Nat.{add-mul, mul_assoc, mod-lt, mod-eq_of_lt}
use Rattle.std.proofs.Math.Nat.{div-eq_of_lt, div-le_self}
use Rattle.std.proofs.Math.Pow.{pow_mono}
use native.Mathlib.Omega.{arith}
use mir.Syntax.{w64}
use mir.Val.{Fits}
use lib.Pow.{high, low, pow-add, pow_pos, mod-pow-add}
use Rattle.words.specs.Fields.{bits}

pub bits_back : (p n hi v lo : ℕ) → v < 2 ^ n → lo < 2 ^ p → bits p n (hi * 2 ^ (n + p) + v * 2 ^ p + lo) ≡ v
bits_back p n hi v lo hv hl = ap (bits p n) joined ∙ ap (λ (w : ℕ). w % 2 ^ n) (high (hi * 2 ^ n + v) p hl) ∙ low hi n hv
  where
    joined : hi * 2 ^ (n + p) + v * 2 ^ p + lo ≡ (hi * 2 ^ n + v) * 2 ^ p + lo
    joined = rw (pow-add 2 n p, add-mul, mul_assoc)

-- the same of a word that is so made up
pub bits_at : (p n hi v lo w : ℕ) → w ≡ hi * 2 ^ (n + p) + v * 2 ^ p + lo → v < 2 ^ n → lo < 2 ^ p → bits p n w ≡ v
bits_at p n hi v lo w e hv hl = ap (bits p n) e ∙ bits_back p n hi v lo hv hl

-- a field has its width, whatever the word
pub bits_below : (p n w : ℕ) → bits p n w < 2 ^ n
bits_below p n w = mod-lt (w / 2 ^ p) (pow_pos n)

-- a field and what stands below it, put together
pub bits_split : (p n w : ℕ) → w % 2 ^ (n + p) ≡ bits p n w * 2 ^ p + w % 2 ^ p
bits_split p n w = mod-pow-add w n p

-- a word of 64 bits has none from bit 64 on, and no more than 64
room : (w k : ℕ) → w < 2 ^ 64 → 64 ≤ k → w < 2 ^ k
room w k h l = omega (arith, pow_mono {i = 64} {j = k} l)

pub no_bits : (p n w : ℕ) → Fits w64 w → 64 ≤ p → 0 ≡ bits p n w
no_bits p n w h l = sym (ap (λ (i : ℕ). i % 2 ^ n) (div-eq_of_lt (room w p h.fits l)) ∙ mod-eq_of_lt (pow_pos n))

pub all_bits : (p n w : ℕ) → Fits w64 w → 64 ≤ n → w / 2 ^ p ≡ bits p n w
all_bits p n w h l = sym (mod-eq_of_lt (omega (arith, div-le_self w (2 ^ p), room w n h.fits l)))
