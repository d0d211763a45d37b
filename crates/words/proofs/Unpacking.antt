-- What a heap word says, by its tag, as the code's match has it; tags 7 to 15 say nothing.
use Rattle.std.specs.Prelude.{if◌then◌else◌, Option, Some, None, unwrap_or}
use mathlib.Core.Path.{◌≡◌, refl, sym, ap, ◌∙◌}
use mathlib.Core.List.{List, [], ◌∷◌}
use Prim.Native.Nat.{ℕ, zero, suc, ◌<◌}
use lib.Dec.{eqb}
use native.Mathlib.Omega.{arith}
use borrow.Author.Tests.{ne_eqb}
use Rattle.words.specs.declared.Cell.TheVariants.{Unbound, Bound, Int, Head, Argument}
use Rattle.words.specs.declared.Word.{Word}
use Rattle.words.specs.Fields.{bits, tag_of}
use Rattle.words.specs.Integers.{int_of}
use Rattle.words.specs.Words.{heap_word, ref_of, link_of, heap_reading, well_formed, unpack_heap}
use Rattle.words.specs.Exact.{exact, exact_word, head_of, unbroken}
use Rattle.laws.proofs.Conditions.{if_both, if_same, if_map}

-- ---- None stands for the broken word alone

pub unbroken_back : (x : Word) → unwrap_or (unbroken x) Word.Broken ≡ x
unbroken_back Word.Broken = refl
unbroken_back x = refl

-- what packs to the word is what it says, and else it is broken
pub told_whole : (w v : ℕ) (x : Word) (h : Option Word) → v ≡ heap_word 12 x → h ≡ exact v w x → unbroken x ≡ Some x → h ≡ unbroken (exact_word 12 w x)
unfolding exact_word
told_whole w v x h e q s = q ∙ rw (e, ← s) (sym (if_map unbroken (eqb (heap_word 12 x) w) x Word.Broken))

-- ---- what a heap word says, by its tag

abbrev pub heap_readings : ℕ → ℕ → List Word
heap_readings k w =
    Word.Empty
    ∷ Word.Filled Unbound
    ∷ Word.Filled (Bound (ref_of k w))
    ∷ Word.Filled (Int (int_of (bits 28 32 w)))
    ∷ Word.Filled (Head (bits 44 16 w) (bits 40 4 w))
    ∷ Word.Filled (Argument (ref_of k w))
    ∷ Word.Linked (link_of k w)
    ∷ []

-- what is read is unpacked, if its arity is 0 to 14 and it is the whole word
unpack_is : (w : ℕ) (x : Word) → heap_reading 12 w ≡ x → (if well_formed x then exact_word 12 w x else Word.Broken) ≡ unpack_heap 12 w
unfolding exact_word unpack_heap
unpack_is w x e = rw e (if_both x Word.Broken (eqb (heap_word 12 x) w) (well_formed x))

-- what it says, by its tag t
abbrev pub said_by : ℕ → ℕ → Word
said_by t w =
    if eqb t 0 then exact_word 12 w Word.Empty
    else if eqb t 1 then exact_word 12 w (Word.Filled Unbound)
    else if eqb t 2 then exact_word 12 w (Word.Filled (Bound (ref_of 12 w)))
    else if eqb t 3 then exact_word 12 w (Word.Filled (Int (int_of (bits 28 32 w))))
    else if eqb t 4 then head_of 12 w
    else if eqb t 5 then exact_word 12 w (Word.Filled (Argument (ref_of 12 w)))
    else if eqb t 6 then exact_word 12 w (Word.Linked (link_of 12 w))
    else Word.Broken

pub by_tag : (w : ℕ) → unpack_heap 12 w ≡ said_by (tag_of w) w
unfolding heap_reading head_of well_formed exact_word
by_tag w = go (tag_of w) refl
  where
    go : (t : ℕ) → tag_of w ≡ t → unpack_heap 12 w ≡ said_by t w
    go zero e = sym (unpack_is w Word.Empty (rw e))
    go (suc zero) e = sym (unpack_is w (Word.Filled Unbound) (rw e))
    go (suc (suc zero)) e = sym (unpack_is w (Word.Filled (Bound (ref_of 12 w))) (rw e))
    go (suc (suc (suc zero))) e = sym (unpack_is w (Word.Filled (Int (int_of (bits 28 32 w)))) (rw e))
    go (suc (suc (suc (suc zero)))) e = sym (unpack_is w (Word.Filled (Head (bits 44 16 w) (bits 40 4 w))) (rw e))
    go (suc (suc (suc (suc (suc zero))))) e = sym (unpack_is w (Word.Filled (Argument (ref_of 12 w))) (rw e))
    go (suc (suc (suc (suc (suc (suc zero)))))) e = sym (unpack_is w (Word.Linked (link_of 12 w)) (rw e))
    go (suc (suc (suc (suc (suc (suc (suc n))))))) e =
        let t : ℕ = suc (suc (suc (suc (suc (suc (suc n)))))) in
        sym (if_same Word.Broken (eqb (heap_word 12 Word.Broken) w) ∙ unpack_is w Word.Broken (rw e))
        ∙ rw (ne_eqb t 0 (omega arith), ne_eqb t 1 (omega arith), ne_eqb t 2 (omega arith), ne_eqb t 3 (omega arith), ne_eqb t 4 (omega arith), ne_eqb t 5 (omega arith), ne_eqb t 6 (omega arith))

-- tags 7 to 15 are no tags of the heap's
pub no_tag : (w t : ℕ) → t ≡ tag_of w → 6 < t → Word.Broken ≡ unpack_heap 12 w
no_tag w t e l =
    sym (by_tag w ∙ rw (← e, ne_eqb t 0 (omega arith), ne_eqb t 1 (omega arith), ne_eqb t 2 (omega arith), ne_eqb t 3 (omega arith), ne_eqb t 4 (omega arith), ne_eqb t 5 (omega arith), ne_eqb t 6 (omega arith)))

pub none_said : (w t : ℕ) → t ≡ tag_of w → 6 < t → None ≡ unbroken (unpack_heap 12 w)
none_said w t e l = ap unbroken (no_tag w t e l)
