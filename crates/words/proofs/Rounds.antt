-- Heap words and register words are unpacked exactly: every value that fits comes back from its word, and a word that says a value is that value's word.
-- So a word is refused exactly if it is the word of no value that fits.
use Rattle.std.specs.Prelude.{if◌then◌else◌, Some, None}
use mathlib.Core.Path.{◌≡◌, refl, sym, ap, ◌∙◌, subst}
use mathlib.Core.Bool.{Bool, true, false}
use mathlib.Core.Logic.{◌≢◌}
use Prim.Native.Nat.{ℕ, ◌-◌, ◌≤◌}
use lib.Dec.{eqb}
use borrow.Author.Tests.{eq-eqb, eqb-true, le-leb, leb-true}
use Rattle.words.specs.declared.Cell.TheVariants.{Unbound, Bound, Int, Head, Argument}
use Rattle.words.specs.declared.Word.{Word}
use Rattle.words.specs.declared.Register.{Register}
use Rattle.words.specs.declared.Register.TheVariants.{Empty, Region, Term}
use Rattle.words.specs.Fields.{bits, tag_of}
use Rattle.words.specs.Words.{register_word, heap_word, stamp_of, ref_of, link_of, heap_reading, well_formed, unpack_heap, register_reading, unpack_register}
use Rattle.words.specs.Fit.{RefFits, CellFits, NextFits, LinkFits, WordFits, RegisterFits}
use Rattle.words.proofs.Fields.{bits_below}
use Rattle.words.proofs.Unpacking.{heap_readings}
use Rattle.laws.proofs.Lists.{each_get_or}
use Rattle.laws.proofs.Conditions.{passed, passed_both}
use Rattle.words.proofs.Ints.{int_in}
use Rattle.words.proofs.Back.{heap_back, register_back}

-- an arity that fits is 0 to 14
fits_formed : (k : ℕ) (x : Word) → WordFits k x → well_formed x ≡ true
unfolding WordFits CellFits well_formed
fits_formed k Word.Empty h = refl
fits_formed k (Word.Filled Unbound) h = refl
fits_formed k (Word.Filled (Bound r)) h = refl
fits_formed k (Word.Filled (Int v)) h = refl
fits_formed k (Word.Filled (Head f n)) h = le-leb n 14 h.1
fits_formed k (Word.Filled (Argument r)) h = refl
fits_formed k (Word.Linked l) h = refl
fits_formed k Word.Broken h = absurd h

-- whatever the word, its fields are in their widths
pub ref_in_lem : (k w : ℕ) → RefFits k (ref_of k w)
ref_in_lem k w = record { stamp = bits_below 28 32 w; address = bits_below (28 - k) k w }

link_in : (k w : ℕ) → LinkFits k (link_of k w)
unfolding NextFits
link_in k w = record { stamp = bits_below 28 32 w; next = by (eqb (bits 27 1 w) 1) }
  where
    by : (t : Bool) → NextFits k (if t then Some (bits (31 - k) (k - 4) w) else None)
    by true = bits_below (31 - k) (k - 4) w
    by false = tt

reading_in : (k w : ℕ) → heap_reading k w ≢ Word.Broken → well_formed (heap_reading k w) ≡ true → WordFits k (heap_reading k w)
unfolding heap_reading WordFits CellFits well_formed
reading_in k w =
    each_get_or (λ (x : Word). x ≢ Word.Broken → well_formed x ≡ true → WordFits k x) (heap_readings k w) (tag_of w) Word.Broken
    (search (tt, ref_in_lem, int_in, link_in, bits_below, leb-true)) (λ n f. absurd (n refl))

held_in : (k w : ℕ) (s t : Bool) → RegisterFits k (if s then Empty else if t then Region (stamp_of w) else Term (ref_of k w))
unfolding RegisterFits
held_in k w true t = tt
held_in k w false true = bits_below 28 32 w
held_in k w false false = ref_in_lem k w

apart : (r : Register) → Some r ≢ None
apart r z = cc

module _ (k w : ℕ) where
  heap_passed : (x : Word) → unpack_heap k w ≡ x → x ≢ Word.Broken → (eqb (heap_word k (heap_reading k w)) w ≡ true) × (well_formed (heap_reading k w) ≡ true) × (heap_reading k w ≡ x)
  unfolding unpack_heap
  heap_passed x e n = passed_both (eqb (heap_word k (heap_reading k w)) w) (well_formed (heap_reading k w)) (heap_reading k w) x Word.Broken e n

  -- a word that is not refused is the word of what it says
  pub heap_exact : (x : Word) → unpack_heap k w ≡ x → x ≢ Word.Broken → heap_word k x ≡ w
  heap_exact x e n =
      let p = heap_passed x e n in
      subst (λ (y : Word). heap_word k y ≡ w) p.2 (eqb-true (heap_word k (heap_reading k w)) w p.0)

  -- and what it says fits
  pub heap_fits : (x : Word) → unpack_heap k w ≡ x → x ≢ Word.Broken → WordFits k x
  heap_fits x e n =
      let p = heap_passed x e n in
      subst (WordFits k) p.2 (reading_in k w (λ z. n (sym p.2 ∙ z)) p.1)

  held_passed : (r : Register) → unpack_register k w ≡ Some r → (eqb (register_word k (register_reading k w)) w ≡ true) × (register_reading k w ≡ r)
  unfolding unpack_register
  held_passed r e =
      let p = passed (eqb (register_word k (register_reading k w)) w) (Some (register_reading k w)) (Some r) None e (apart r) in
      (p.0, cc p.1)

  pub register_exact : (r : Register) → unpack_register k w ≡ Some r → register_word k r ≡ w
  register_exact r e =
      let p = held_passed r e in
      subst (λ (y : Register). register_word k y ≡ w) p.1 (eqb-true (register_word k (register_reading k w)) w p.0)

  pub register_fits : (r : Register) → unpack_register k w ≡ Some r → RegisterFits k r
  unfolding register_reading
  register_fits r e = subst (RegisterFits k) (held_passed r e).1 (held_in k w (eqb (tag_of w) 0) (eqb (tag_of w) 7))

module _ (k : ℕ) (low : 4 ≤ k) (high : k ≤ 16) where
  pub heap_round : (x : Word) → WordFits k x → unpack_heap k (heap_word k x) ≡ x
  unfolding unpack_heap
  heap_round x h = rw (heap_back k low high x h, eq-eqb (heap_word k x) (heap_word k x) refl, fits_formed k x h)

  pub register_round : (r : Register) → RegisterFits k r → unpack_register k (register_word k r) ≡ Some r
  unfolding unpack_register
  register_round r h = rw (register_back k low high r h, eq-eqb (register_word k r) (register_word k r) refl)

  -- a word is refused only if it is the word of nothing
  pub heap_refused : (w : ℕ) → unpack_heap k w ≡ Word.Broken → (x : Word) → WordFits k x → heap_word k x ≢ w
  unfolding WordFits
  heap_refused w e x h q = subst (WordFits k) (sym (heap_round x h) ∙ ap (unpack_heap k) q ∙ e) h

  pub register_refused : (w : ℕ) → unpack_register k w ≡ None → (r : Register) → RegisterFits k r → register_word k r ≢ w
  register_refused w e r h q = apart r (sym (register_round r h) ∙ ap (unpack_register k) q ∙ e)
