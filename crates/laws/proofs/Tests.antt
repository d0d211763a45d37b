-- What a test on numbers says, for `omega`; and two tests that say the same.
use mathlib.Core.Path.{◌≡◌, refl, sym, ◌∙◌}
use mathlib.Core.Bool.{Bool, true, false}
use Prim.Native.Nat.{ℕ, ◌≤◌, ◌<◌}
use lib.Dec.{leb}
use borrow.Author.Tests.{leb-true, leb-false, eqb-true, eqb-false, le-leb}
use native.Mathlib.Omega.{arith}

-- what a test says, for omega
pub ruleset tests = (arith, leb-true, leb-false, eqb-true, eqb-false)

-- two tests that say the same
pub leb_same : (a b c d : ℕ) → (a ≤ b → c ≤ d) → (c ≤ d → a ≤ b) → leb a b ≡ leb c d
leb_same a b c d f g = go (leb a b) refl
  where
    go : (t : Bool) → leb a b ≡ t → leb a b ≡ leb c d
    go true e = e ∙ sym (le-leb c d (f (leb-true a b e)))
    go false e = e ∙ sym (back (leb c d) refl)
      where
        back : (t : Bool) → leb c d ≡ t → leb c d ≡ false
        back true k = absurd (omega (tests, g (leb-true c d k)))
        back false k = k

-- one number more is ruled out
pub past : (t j : ℕ) → (t ≡ j → ⊥) → j ≤ t → j < t
past t j n h = omega arith
