-- What a search over a range of numbers finds.
use Rattle.std.proofs.Common.{◌≡◌, ℕ, zero, suc, ◌+◌, ◌≤◌, ◌<◌, Bool, true, false, cond, Option, Some, None, arith, refl, sym, IfSome}
use mathlib.Core.Logic.{⊎_elim}
use native.Mathlib.Nat.{eq-or-lt_of_le}
use Rattle.laws.specs.Loops.{seek}

module _ (t : ℕ → Bool) (k : ℕ) where
  -- what is found lies in the range, passes the test, and is the first to pass it
  pub record IsFirst (n start : ℕ) : Type 0 where
    pub since : start ≤ k
    pub below : k < start + n
    pub holds : t k ≡ true
    pub first : (i : ℕ) → start ≤ i → i < k → t i ≡ false

  pub found : (n start : ℕ) → seek t n start ≡ Some k → IsFirst n start
  found zero start e = cc
  found (suc n) start e = go (t start) refl (found n (start + 1)) e
    where
      go : (b : Bool) → t start ≡ b → (seek t n (start + 1) ≡ Some k → IsFirst n (start + 1)) → cond b (Some start) (seek t n (start + 1)) ≡ Some k → IsFirst (suc n) start
      go true h r q = let z : start ≡ k = cc in record { since = omega arith; below = omega arith; holds = rw (← z) h; first = λ i l m. absurd (omega arith) }
      go false h r q =
          let f : IsFirst n (start + 1) = r q in
          record {
            since = omega (arith, f.since);
            below = omega (arith, f.below);
            holds = f.holds;
            first = λ i l m. ⊎_elim (λ z. rw (← z) h) (λ p. f.first i (omega arith) m) (eq-or-lt_of_le l);
          }

-- where nothing is found, each number of the range fails the test
pub missed : (t : ℕ → Bool) (n start : ℕ) → seek t n start ≡ None → (i : ℕ) → start ≤ i → i < start + n → t i ≡ false
missed t zero start e i l m = absurd (omega arith)
missed t (suc n) start e i l m = go (t start) refl (missed t n (start + 1)) e
  where
    go : (b : Bool) → t start ≡ b → (seek t n (start + 1) ≡ None → (i : ℕ) → start + 1 ≤ i → i < start + 1 + n → t i ≡ false) → cond b (Some start) (seek t n (start + 1)) ≡ None → t i ≡ false
    go true h r q = absurd cc
    go false h r q = ⊎_elim (λ z. rw (← z) h) (λ p. r q i (omega arith) (omega arith)) (eq-or-lt_of_le l)

-- the same of what a loop answered
pub found_below : (t : ℕ → Bool) (n start : ℕ) (r : Option ℕ) → r ≡ seek t n start → IfSome r (λ p. p < start + n)
found_below t n start None e = tt
found_below t n start (Some k) e = (found t k n start (sym e)).below
