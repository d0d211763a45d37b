-- Texts written one after another: what the last call did is said of the buffer that the call before left.
use Prim.Native.Nat.{ℕ, zero, suc, ◌+◌, ◌/◌, ◌%◌, ◌^◌, ◌<◌, ◌≤◌}
use mathlib.Core.List.{List, [], ◌∷◌, ◌++◌, map}
use mathlib.Core.Path.{◌≡◌, refl, sym, ap, ◌∙◌}
use native.Mathlib.Omega.{arith}
use native.Mathlib.Numerals.{add-one}
use lib.ListN.{length, get_or, take}
use Rattle.words.specs.Answers.{answer_of}
use Rattle.machine.specs.Program.{decimal, step_line, step_lines, opening_line, pages_of, first_stamp}
use Rattle.listing.specs.Text.{Written, write, writes, opening_text}
use Rattle.listing.proofs.Digits.{one_digit, more_digits}

pub writes_append : (a b : List ℕ) (w : Written) → writes (a ++ b) w ≡ writes b (writes a w)
unfolding writes
writes_append [] b w = refl
writes_append (x ∷ a) b w = writes_append a b (write x w)

module _ (a b : List ℕ) (w w₁ w₂ : Written) where
  pub and_then : w₂ ≡ writes b w₁ → w₁ ≡ writes a w → w₂ ≡ writes (a ++ b) w
  and_then f e = f ∙ ap (writes b) e ∙ sym (writes_append a b w)

-- one byte more
pub text_more : (text : List ℕ) (i : ℕ) (w : Written) → i < length text → writes (take (i + 1) text) w ≡ writes (get_or text i 0 ∷ []) (writes (take i text) w)
unfolding writes
text_more [] i w h = absurd (omega arith)
text_more (b ∷ text) zero w h = refl
text_more (b ∷ text) (suc i) w h = rw (add-one (suc i)) (rw (add-one i) at (text_more text i (write b w) (omega arith)))

-- a line for each answer word: one line more
pub lines_one_more : (n : ℕ) (l : List ℕ) (i : ℕ) (w : Written) → i < length l →
    writes (step_lines n (map answer_of (take (i + 1) l))) w ≡ writes (step_line (n + i) (answer_of (get_or l i 0))) (writes (step_lines n (map answer_of (take i l))) w)
unfolding writes step_lines
lines_one_more n [] i w h = absurd (omega arith)
lines_one_more n (a ∷ l) zero w h =
    let z : n + 0 ≡ n = omega arith in
    rw z (writes_append (step_line n (answer_of a)) [] w)
lines_one_more n (a ∷ l) (suc i) w h =
    let z : n + suc i ≡ suc n + i = omega arith in
    let more : List ℕ = step_lines (suc n) (map answer_of (take (suc i) l)) in
    rw (add-one (suc i), z, writes_append (step_line n (answer_of a)) (step_lines (suc n) (map answer_of (take i l))) w)
    (writes_append (step_line n (answer_of a)) more w
    ∙ (rw (add-one i) at (lines_one_more (suc n) l i (writes (step_line n (answer_of a)) w) (omega arith))))

-- ---- numbers

pub decimal_small : (n : ℕ) (w : Written) → n < 10 → writes (decimal n) w ≡ writes ((48 + n % 10) ∷ []) w
decimal_small n w h = ap (λ (l : List ℕ). writes l w) (sym (one_digit n h))

pub decimal_large : (n : ℕ) (w : Written) → 10 ≤ n → n < 2 ^ 64 → writes (decimal n) w ≡ writes ((48 + n % 10) ∷ []) (writes (decimal (n / 10)) w)
decimal_large n w h k =
    ap (λ (l : List ℕ). writes l w) (sym (more_digits n h k))
    ∙ writes_append (decimal (n / 10)) ((48 + n % 10) ∷ []) w

-- the opening line of a file's first word
pub opening_is : (first : ℕ) → opening_text (pages_of first) (first_stamp first) ≡ opening_line first
unfolding opening_text opening_line
opening_is first = refl
