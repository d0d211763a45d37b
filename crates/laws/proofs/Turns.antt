-- Loops that count turns: the state that each turn changes.
use Prim.Native.Nat.{ℕ, ◌+◌, ◌-◌, ◌≤◌, ◌<◌}
use mathlib.Core.Path.{◌≡◌, refl, ◌∙◌}
use native.Mathlib.Omega.{arith}
use borrow.Author.Rules.{rules}
use native.Mathlib.Numerals.{add-one}
use Rattle.laws.specs.Loops.{run}

-- ---- a state that each turn changes: s is the state at the start, x the state before turn k

pub record Turning {A : Type 0} (f : ℕ → A → A) (n k : ℕ) (s x : A) : Type 0 where
  pub within : k ≤ n
  pub is : x ≡ run f k s

pub turning_starts : {A : Type 0} (f : ℕ → A → A) (n : ℕ) (s : A) → Turning f n 0 s s
unfolding run
turning_starts f n s = record { within = omega arith; is = refl }

module _ {A : Type 0} (f : ℕ → A → A) (n k : ℕ) (s x : A) (r : Turning f n k s x) where
  pub turning_on : (y : A) → k < n → y ≡ f k x → Turning f n (k + 1) s y
  unfolding run
  turning_on y h e = record { within = omega arith; is = e ∙ rw (add-one, ← r.is) }

  pub turning_ends : n ≤ k → x ≡ run f n s
  turning_ends h = let z : k ≡ n = omega (arith, r.within) in rw (← z) r.is

-- ---- the same over the numbers start, start + 1, ..: turn i has number start + i, and p is the number of the next one

pub record Ranging {A : Type 0} (f : ℕ → A → A) (n start p : ℕ) (s x : A) : Type 0 where
  pub since : start ≤ p
  pub turning : Turning (λ i. f (start + i)) n (p - start) s x

pub ranging_starts : {A : Type 0} (f : ℕ → A → A) (n start : ℕ) (s : A) → Ranging f n start start s s
ranging_starts f n start s =
    record {
      since = omega arith;
      turning = let e : start - start ≡ 0 = omega arith in rw e (turning_starts (λ i. f (start + i)) n s);
    }

module _ {A : Type 0} (f : ℕ → A → A) (n start p : ℕ) (s x : A) (r : Ranging f n start p s x) where
  pub ranging_on : (y : A) → p < start + n → y ≡ f p x → Ranging f n start (p + 1) s y
  ranging_on y h e =
      let number : start + (p - start) ≡ p = omega (arith, r.since) in
      let next : p + 1 - start ≡ p - start + 1 = omega (arith, r.since) in
      record {
        since = omega (arith, r.since);
        turning = rw next (turning_on (λ i. f (start + i)) n (p - start) s x r.turning y (omega (arith, r.since)) (rw number e));
      }

  pub ranging_ends : start + n ≤ p → x ≡ run (λ i. f (start + i)) n s
  ranging_ends h = turning_ends (λ i. f (start + i)) n (p - start) s x r.turning (omega arith)

pub ruleset turns = (rules, turning_starts, turning_on, turning_ends, ranging_starts, ranging_on, ranging_ends)
