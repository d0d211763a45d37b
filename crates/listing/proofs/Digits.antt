-- Unsigned decimal, digit by digit: a number of 64 bits has at most 20 digits.
use Rattle.std.specs.Prelude.{if◌then◌else◌}
use Prim.Native.Nat.{ℕ, zero, suc, ◌+◌, ◌/◌, ◌%◌, ◌^◌, ◌<◌, ◌≤◌}
use mathlib.Core.Bool.{Bool, true, false}
use mathlib.Core.List.{List, [], ◌∷◌, ◌++◌}
use mathlib.Core.Path.{◌≡◌, refl, sym, ap, ◌∙◌}
use native.Mathlib.Omega.{arith, pow_step}
use borrow.Author.Tests.{lt-ltb, le-ltb}
use lib.Dec.{ltb}
use lib.ListN.{length}
use lib.Seq.{append_snoc}
use Rattle.machine.specs.Program.{digits, decimal}

-- the text that stands behind the digits
digits_before : (most n : ℕ) (text : List ℕ) → digits most n text ≡ digits most n [] ++ text
unfolding digits
digits_before zero n text = refl
digits_before (suc most) n text = by (ltb n 10) (digits_before most (n / 10) ((48 + n % 10) ∷ text)) (digits_before most (n / 10) ((48 + n % 10) ∷ []))
  where
    by : (b : Bool) → digits most (n / 10) ((48 + n % 10) ∷ text) ≡ digits most (n / 10) [] ++ ((48 + n % 10) ∷ text) →
        digits most (n / 10) ((48 + n % 10) ∷ []) ≡ digits most (n / 10) [] ++ ((48 + n % 10) ∷ []) →
        (if b then (48 + n) ∷ text else digits most (n / 10) ((48 + n % 10) ∷ text)) ≡ (if b then (48 + n) ∷ [] else digits most (n / 10) ((48 + n % 10) ∷ [])) ++ text
    by true e f = refl
    by false e f = e ∙ sym (append_snoc (digits most (n / 10) []) (48 + n % 10) text) ∙ ap (λ (l : List ℕ). l ++ text) (sym f)

-- a number below 10 to the power of k needs no more than k digits
enough : (k n : ℕ) (text : List ℕ) → n < 10 ^ suc k → digits (suc (suc k)) n text ≡ digits (suc k) n text
unfolding digits
enough zero n text h = rw (lt-ltb n 10 h)
enough (suc k) n text h = by (ltb n 10) (enough k (n / 10) ((48 + n % 10) ∷ text) (omega (arith, pow_step 10 (suc k))))
  where
    by : (b : Bool) → digits (suc (suc k)) (n / 10) ((48 + n % 10) ∷ text) ≡ digits (suc k) (n / 10) ((48 + n % 10) ∷ text) →
        (if b then (48 + n) ∷ text else digits (suc (suc k)) (n / 10) ((48 + n % 10) ∷ text)) ≡ (if b then (48 + n) ∷ text else digits (suc k) (n / 10) ((48 + n % 10) ∷ text))
    by true e = refl
    by false e = e

last_digit : (most n : ℕ) (text : List ℕ) → n < 10 → digits (suc most) n text ≡ (48 + n) ∷ text
unfolding digits
last_digit most n text h = rw (lt-ltb n 10 h)

next_digit : (most n : ℕ) (text : List ℕ) → 10 ≤ n → digits (suc most) n text ≡ digits most (n / 10) ((48 + n % 10) ∷ text)
unfolding digits
next_digit most n text h = rw (le-ltb n 10 h)

pub one_digit : (n : ℕ) → n < 10 → (48 + n % 10) ∷ [] ≡ decimal n
one_digit n h = ap (λ (k : ℕ). k ∷ []) (omega arith) ∙ sym (last_digit 19 n [] h)

pub more_digits : (n : ℕ) → 10 ≤ n → n < 2 ^ 64 → decimal (n / 10) ++ ((48 + n % 10) ∷ []) ≡ decimal n
more_digits n h k =
    ap (λ (l : List ℕ). l ++ ((48 + n % 10) ∷ [])) (enough 18 (n / 10) [] (omega arith))
    ∙ sym (digits_before 19 (n / 10) ((48 + n % 10) ∷ []))
    ∙ sym (next_digit 19 n [] h)

-- how long a number is
digits_few : (k most n : ℕ) (text : List ℕ) → k ≤ most → n < 10 ^ suc k → length (digits (suc most) n text) ≤ suc k + length text
unfolding digits
digits_few zero most n text h l = rw (lt-ltb n 10 l) (omega arith)
digits_few (suc k) zero n text h l = absurd (omega arith)
digits_few (suc k) (suc most) n text h l = by (ltb n 10) (digits_few k most (n / 10) ((48 + n % 10) ∷ text) (omega arith) (omega (arith, pow_step 10 (suc k))))
  where
    by : (b : Bool) → length (digits (suc most) (n / 10) ((48 + n % 10) ∷ text)) ≤ suc k + suc (length text) →
        length (if b then (48 + n) ∷ text else digits (suc most) (n / 10) ((48 + n % 10) ∷ text)) ≤ suc (suc k) + length text
    by true e = omega arith
    by false e = omega arith

pub decimal_length : (k n : ℕ) → k < 20 → n < 10 ^ suc k → length (decimal n) ≤ suc k
decimal_length k n h l = omega (arith, digits_few k 19 n [] (omega arith) l)
