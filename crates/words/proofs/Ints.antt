-- An i32 and its 32 bits: back and forth, and at the ends.
use mathlib.Core.Path.{◌≡◌, refl}
use Prim.Native.Nat.{ℕ, ◌^◌, ◌<◌}
use lib.IntN.{ℤ, pos, negsuc}
use mir.Syntax.{w32}
use mir.Facts.{to_z-of_z, of_z-to_z, Fits-of_z, sfits_to_z}
use Rattle.words.specs.Integers.{bits_of, int_of, IntIn}

pub int_bits : (v : ℤ) → IntIn v → int_of (bits_of v) ≡ v
int_bits v h = to_z-of_z h

pub bits_int : (b : ℕ) → b < 2 ^ 32 → bits_of (int_of b) ≡ b
bits_int b h = of_z-to_z {w = w32} (record { fits = h })

pub int_below : (v : ℤ) → IntIn v → bits_of v < 2 ^ 32
int_below v h = (Fits-of_z h).fits

pub int_in : (b : ℕ) → b < 2 ^ 32 → IntIn (int_of b)
int_in b h = sfits_to_z {w = w32} (record { fits = h })

-- -1, the least integer and the largest, and back; `negsuc n` is -(n + 1)
pub minus_one : bits_of (negsuc 0) ≡ 4294967295
minus_one = refl

pub least : bits_of (negsuc 2147483647) ≡ 2147483648
least = refl

pub largest : bits_of (pos 2147483647) ≡ 2147483647
largest = refl

pub minus_one_back : int_of 4294967295 ≡ negsuc 0
minus_one_back = refl

pub least_back : int_of 2147483648 ≡ negsuc 2147483647
least_back = refl

pub largest_back : int_of 2147483647 ≡ pos 2147483647
largest_back = refl
