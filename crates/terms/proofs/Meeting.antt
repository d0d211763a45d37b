-- Two integers are the same if their bits are.
use Rattle.std.proofs.Common.{◌≡◌, refl, sym, ap, ◌∙◌, true, false, SFits, of_z, to_z, w32}
use Rattle.std.proofs.Math.Facts.{to_z-of_z}
use Rattle.std.proofs.Math.IntN.{ℤ, pos, negsuc}
use borrow.Author.Tests.{eq-eqb, ne_eqb}
use Rattle.words.specs.Integers.{same_int}

same_refl : (v : ℤ) → same_int v v ≡ true
unfolding same_int
same_refl (pos m) = eq-eqb m m refl
same_refl (negsuc m) = eq-eqb m m refl

same_not : (v w : ℤ) → (v ≡ w → ⊥) → same_int v w ≡ false
unfolding same_int
same_not (pos m) (pos n) h = ne_eqb m n (λ e. h (ap pos e))
same_not (pos m) (negsuc n) h = refl
same_not (negsuc m) (pos n) h = refl
same_not (negsuc m) (negsuc n) h = ne_eqb m n (λ e. h (ap negsuc e))

module _ (v x : ℤ) where
  pub ints_same : of_z w32 v ≡ of_z w32 x → SFits w32 v → SFits w32 x → same_int v x ≡ true
  ints_same q fv fx = let z : v ≡ x = sym (to_z-of_z fv) ∙ ap (to_z w32) q ∙ to_z-of_z fx in rw (← z) (same_refl v)

  pub ints_differ : (of_z w32 v ≡ of_z w32 x → ⊥) → same_int v x ≡ false
  ints_differ n = same_not v x (λ z. n (ap (of_z w32) z))
