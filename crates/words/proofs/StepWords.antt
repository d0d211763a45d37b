-- A legal step is read back from its word, and a word that says a step is that step's word. So a word is refused exactly if it is the word of no legal step.
use mathlib.Core.Path.{◌≡◌, refl, sym, ap, ◌∙◌, subst}
use mathlib.Core.Bool.{true}
use mathlib.Core.Logic.{◌⊎◌, inl, inr, ⊎_elim, ◌≢◌}
use mathlib.Core.List.{List, [], ◌∷◌}
use Prim.Native.Nat.{ℕ, ◌+◌, ◌*◌, ◌^◌, ◌<◌}
use native.Mathlib.Omega.{arith}
use lib.Dec.{eqb}
use lib.IntN.{ℤ}
use borrow.Author.Tests.{eq-eqb, eqb-true}
use Rattle.words.specs.declared.Step.{Step}
use Rattle.words.specs.declared.Step.TheVariants.{Refused, MakeRegion, KillRegion, MakeVar, Integer, Structure, Unify, Deref, Destruct, PushChoice, Cut, Backtrack}
use Rattle.words.specs.Fields.{bits}
use Rattle.words.specs.Integers.{bits_of, int_of, IntIn}
use Rattle.words.specs.Steps.{fields, shape, step_word, reading, fits, decode}
use Rattle.words.specs.Fit.{StepFits}
use Rattle.words.proofs.Fields.{bits_at, bits_below}
use Rattle.words.proofs.Ints.{int_bits, int_below, int_in}
use Rattle.laws.proofs.Lists.{each_get_or}
use Rattle.laws.proofs.Conditions.{passed_both}

-- ---- the fields that every step has
abbrev Frame : ℕ → ℕ → ℕ → ℕ → ℕ → Type 0
Frame op d a b rest = (op < 2 ^ 4) × (d < 2 ^ 5) × (a < 2 ^ 5) × (b < 2 ^ 5) × (rest < 2 ^ 45)

module _ (op d a b rest : ℕ) (h : Frame op d a b rest) where
  op_back : bits 60 4 (fields op d a b rest) ≡ op
  op_back = bits_at 60 4 0 op (d * 2 ^ 55 + a * 2 ^ 50 + b * 2 ^ 45 + rest) (fields op d a b rest) (omega arith) h.0 (omega arith)

  d_back : bits 55 5 (fields op d a b rest) ≡ d
  d_back = bits_at 55 5 op d (a * 2 ^ 50 + b * 2 ^ 45 + rest) (fields op d a b rest) (omega arith) h.1 (omega arith)

  a_back : bits 50 5 (fields op d a b rest) ≡ a
  a_back = bits_at 50 5 (op * 2 ^ 5 + d) a (b * 2 ^ 45 + rest) (fields op d a b rest) (omega arith) h.2 (omega arith)

  b_back : bits 45 5 (fields op d a b rest) ≡ b
  b_back = bits_at 45 5 (op * 2 ^ 10 + d * 2 ^ 5 + a) b rest (fields op d a b rest) (omega arith) h.3 h.4

  -- the first of the 45 bits after them
  first_back : (p n v lo : ℕ) → n + p ≡ 45 → rest ≡ v * 2 ^ p + lo → v < 2 ^ n → lo < 2 ^ p → bits p n (fields op d a b rest) ≡ v
  first_back p n v lo e q hv hl = bits_at p n (op * 2 ^ 15 + d * 2 ^ 10 + a * 2 ^ 5 + b) v lo (fields op d a b rest) (rw e (omega arith)) hv hl

module _ (op d a b f n : ℕ) (h : Frame op d a b (shape f n)) (hf : f < 2 ^ 16) (hn : n < 2 ^ 4) where
  functor_back : bits 29 16 (fields op d a b (shape f n)) ≡ f
  functor_back = first_back op d a b (shape f n) h 29 16 f (n * 2 ^ 25) refl refl hf (omega arith)

  arity_back : bits 25 4 (fields op d a b (shape f n)) ≡ n
  arity_back = bits_at 25 4 (op * 2 ^ 31 + d * 2 ^ 26 + a * 2 ^ 21 + b * 2 ^ 16 + f) n 0 (fields op d a b (shape f n)) (omega arith) hn (omega arith)

value_back : (d a : ℕ) (v : ℤ) → Frame 4 d a 0 (bits_of v * 2 ^ 13) → IntIn v → int_of (bits 13 32 (fields 4 d a 0 (bits_of v * 2 ^ 13))) ≡ v
value_back d a v h i = ap int_of (first_back 4 d a 0 (bits_of v * 2 ^ 13) h 13 32 (bits_of v) 0 refl (omega arith) (int_below v i) (omega arith)) ∙ int_bits v i

-- what a word says is the step that it was made of
reading_back : (s : Step) → StepFits s → reading (step_word s) ≡ s
unfolding StepFits step_word reading
reading_back Refused h = absurd h
reading_back (MakeRegion d) h =
    let f : Frame 1 d 0 0 0 = omega arith in
    rw (op_back 1 d 0 0 0 f) (ap MakeRegion (d_back 1 d 0 0 0 f))
reading_back (KillRegion a) h =
    let f : Frame 2 0 a 0 0 = omega arith in
    rw (op_back 2 0 a 0 0 f) (ap KillRegion (a_back 2 0 a 0 0 f))
reading_back (MakeVar d a) h =
    let f : Frame 3 d a 0 0 = omega arith in
    rw (op_back 3 d a 0 0 f) (λ i. MakeVar (d_back 3 d a 0 0 f i) (a_back 3 d a 0 0 f i))
reading_back (Integer d a v) h =
    let r : ℕ = bits_of v * 2 ^ 13 in
    let f : Frame 4 d a 0 r = omega (arith, int_below v h.2) in
    rw (op_back 4 d a 0 r f) (λ i. Integer (d_back 4 d a 0 r f i) (a_back 4 d a 0 r f i) (value_back d a v f h.2 i))
reading_back (Structure d a b f n) h =
    let r : ℕ = shape f n in
    let g : Frame 5 d a b r = omega arith in
    rw (op_back 5 d a b r g) (λ i. Structure (d_back 5 d a b r g i) (a_back 5 d a b r g i) (b_back 5 d a b r g i) (functor_back 5 d a b f n g h.3 h.4 i) (arity_back 5 d a b f n g h.3 h.4 i))
reading_back (Unify a b budget) h =
    let r : ℕ = budget * 2 ^ 33 in
    let f : Frame 6 0 a b r = omega arith in
    rw (op_back 6 0 a b r f) (λ i. Unify (a_back 6 0 a b r f i) (b_back 6 0 a b r f i) (first_back 6 0 a b r f 33 12 budget 0 refl (omega arith) h.2 (omega arith) i))
reading_back (Deref d a) h =
    let f : Frame 7 d a 0 0 = omega arith in
    rw (op_back 7 d a 0 0 f) (λ i. Deref (d_back 7 d a 0 0 f i) (a_back 7 d a 0 0 f i))
reading_back (Destruct d a f n) h =
    let r : ℕ = shape f n in
    let g : Frame 8 d a 0 r = omega arith in
    rw (op_back 8 d a 0 r g) (λ i. Destruct (d_back 8 d a 0 r g i) (a_back 8 d a 0 r g i) (functor_back 8 d a 0 f n g h.2 h.3 i) (arity_back 8 d a 0 f n g h.2 h.3 i))
reading_back PushChoice h = refl
reading_back Cut h = refl
reading_back Backtrack h = refl

-- what a word says, by its op
abbrev pub readings : ℕ → List Step
readings w =
    let d : ℕ = bits 55 5 w in
    let a : ℕ = bits 50 5 w in
    let b : ℕ = bits 45 5 w in
    let f : ℕ = bits 29 16 w in
    let n : ℕ = bits 25 4 w in
    Refused
    ∷ MakeRegion d
    ∷ KillRegion a
    ∷ MakeVar d a
    ∷ Integer d a (int_of (bits 13 32 w))
    ∷ Structure d a b f n
    ∷ Unify a b (bits 33 12 w)
    ∷ Deref d a
    ∷ Destruct d a f n
    ∷ PushChoice
    ∷ Cut
    ∷ Backtrack
    ∷ []

-- whatever the word, its fields are in their widths
pub reading_in : (w : ℕ) → (reading w ≡ Refused) ⊎ StepFits (reading w)
unfolding reading StepFits
reading_in w =
    each_get_or (λ (s : Step). (s ≡ Refused) ⊎ StepFits s) (readings w) (bits 60 4 w) Refused (search (inr, inl, tt, bits_below, int_in) depth 20) (inl refl)

-- a legal step is decoded from its word
pub decode_round : (s : Step) → StepFits s → fits s ≡ true → decode (step_word s) ≡ s
unfolding decode
decode_round s h f = rw (reading_back s h, eq-eqb (step_word s) (step_word s) refl, f)

module _ (w : ℕ) (s : Step) (e : decode w ≡ s) (n : s ≢ Refused) where
  decoded : (eqb (step_word (reading w)) w ≡ true) × (fits (reading w) ≡ true) × (reading w ≡ s)
  unfolding decode
  decoded = passed_both (eqb (step_word (reading w)) w) (fits (reading w)) (reading w) s Refused e n

  -- a word that is not refused is the word of what it says
  pub decode_exact : step_word s ≡ w
  decode_exact = subst (λ (x : Step). step_word x ≡ w) decoded.2 (eqb-true (step_word (reading w)) w decoded.0)

  -- and what it says is legal
  pub decode_fits : StepFits s × (fits s ≡ true)
  decode_fits = subst (λ (x : Step). StepFits x × (fits x ≡ true)) decoded.2 (⊎_elim (λ z. absurd (n (sym decoded.2 ∙ z))) (λ h. h) (reading_in w), decoded.1)

-- a word is refused only if it is the word of no legal step
pub decode_refused : (w : ℕ) → decode w ≡ Refused → (s : Step) → StepFits s → fits s ≡ true → step_word s ≢ w
unfolding StepFits
decode_refused w e s h f q = subst StepFits (sym (decode_round s h f) ∙ ap decode q ∙ e) h
