-- An answer is read back from its word, and a word of 64 bits whose last 12 are zero is the word of what it says.
use mathlib.Core.Path.{◌≡◌, sym, ◌∙◌}
use Prim.Native.Nat.{ℕ, ◌+◌, ◌*◌, ◌%◌, ◌^◌, ◌<◌}
use native.Mathlib.Nat.{mod-eq_of_lt}
use native.Mathlib.Omega.{arith}
use Rattle.words.specs.declared.Answer.{Answer}
use Rattle.words.specs.Fields.{bits}
use Rattle.words.specs.Answers.{answer_word, answer_of}
use Rattle.words.specs.Fit.{AnswerFits}
use Rattle.words.specs.Clip.{clipped_answer}
use Rattle.words.proofs.Fields.{bits_at, bits_split}

pub answer_back : (a : Answer) → AnswerFits a → answer_of (answer_word a) ≡ a
unfolding answer_of answer_word
answer_back a h =
    let w : ℕ = answer_word a in
    let s : bits 60 4 w ≡ a.status = bits_at 60 4 0 a.status (a.kind * 2 ^ 56 + a.pairs * 2 ^ 44 + a.payload * 2 ^ 12) w (omega arith) h.status (omega arith) in
    let k : bits 56 4 w ≡ a.kind = bits_at 56 4 a.status a.kind (a.pairs * 2 ^ 44 + a.payload * 2 ^ 12) w (omega arith) h.kind (omega arith) in
    let p : bits 44 12 w ≡ a.pairs = bits_at 44 12 (a.status * 2 ^ 4 + a.kind) a.pairs (a.payload * 2 ^ 12) w (omega arith) h.pairs (omega arith) in
    let q : bits 12 32 w ≡ a.payload = bits_at 12 32 (a.status * 2 ^ 16 + a.kind * 2 ^ 12 + a.pairs) a.payload 0 w (omega arith) h.payload (omega arith) in
    λ i. record { status = s i; kind = k i; pairs = p i; payload = q i }

pub answer_exact : (w : ℕ) → w < 2 ^ 64 → w % 2 ^ 12 ≡ 0 → answer_word (answer_of w) ≡ w
unfolding answer_of answer_word
answer_exact w h z =
    sum (bits 60 4 w) (bits 56 4 w) (bits 44 12 w) (bits 12 32 w) (w % 2 ^ 60) (w % 2 ^ 56) (w % 2 ^ 44) (w % 2 ^ 12) w
    (sym (mod-eq_of_lt h) ∙ bits_split 60 4 w) (bits_split 56 4 w) (bits_split 44 12 w) (bits_split 12 32 w) z
  where
    sum : (s k p q a b c d w : ℕ) → w ≡ s * 2 ^ 60 + a → a ≡ k * 2 ^ 56 + b → b ≡ p * 2 ^ 44 + c → c ≡ q * 2 ^ 12 + d → d ≡ 0 → s * 2 ^ 60 + k * 2 ^ 56 + p * 2 ^ 44 + q * 2 ^ 12 ≡ w
    sum s k p q a b c d w x₁ x₂ x₃ x₄ z = omega arith

-- an answer that fits is packed as it is
pub clip_answer : (a : Answer) → AnswerFits a → clipped_answer a ≡ a
unfolding clipped_answer
clip_answer a h = λ i. record { status = mod-eq_of_lt h.status i; kind = mod-eq_of_lt h.kind i; pairs = mod-eq_of_lt h.pairs i; payload = a.payload }
