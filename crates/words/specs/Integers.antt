-- Document 01, "integer: 32, two's complement": an i32 and its 32 bits.
use Rattle.std.specs.Prelude.{Bool, false, ℕ, eqb, ℤ, pos, negsuc}
use Rattle.std.specs.Int.{w32}
use Rattle.std.proofs.Common.{SFits, of_z, to_z}

-- the bits of an integer: n itself, and 2 ^ 32 - n for -n
abbrev pub bits_of : ℤ → ℕ
bits_of v = of_z w32 v

-- the integer of 32 bits
abbrev pub int_of : ℕ → ℤ
int_of b = to_z w32 b

-- an integer of an i32: from -2 ^ 31 to 2 ^ 31 - 1
abbrev pub IntIn : ℤ → Type 0
IntIn v = SFits w32 v

-- equal values; `negsuc n` is -(n + 1)
unfoldable pub same_int : ℤ → ℤ → Bool
same_int (pos m) (pos n) = eqb m n
same_int (pos m) (negsuc n) = false
same_int (negsuc m) (pos n) = false
same_int (negsuc m) (negsuc n) = eqb m n
