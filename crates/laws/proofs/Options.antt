-- What tells the two kinds of an option apart.
use Rattle.std.proofs.Common.{◌≡◌, Option, Some, None}

pub none_ne_some : {A : Type 0} (a : A) → ◌≡◌ {A = Option A} None (Some a) → ⊥
none_ne_some a e = cc

pub some_injective : {A : Type 0} (a b : A) → Some a ≡ Some b → a ≡ b
some_injective a b e = cc
