-- What the code unpacks of a register word, case by case.
use Rattle.std.specs.Prelude.{if◌then◌else◌, Option, None}
use mathlib.Core.Path.{◌≡◌, refl, sym, ap, ◌∙◌}
use mathlib.Core.Logic.{◌≢◌}
use Prim.Native.Nat.{ℕ}
use native.Mathlib.Omega.{arith}
use lib.Dec.{eqb}
use borrow.Author.Rules.{rules}
use borrow.Author.Tests.{ne_eqb}
use Rattle.words.specs.declared.Ref.{Ref}
use Rattle.words.specs.declared.Register.{Register}
use Rattle.words.specs.declared.Register.TheVariants.{Empty, Region, Term}
use Rattle.words.specs.Fields.{bits, tag_of}
use Rattle.words.specs.Words.{register_word, ref_of, register_reading, unpack_register}
use Rattle.words.specs.Exact.{exact}
use Rattle.words.specs.Fit.{RefFits, RegisterFits, register_tag}
use Rattle.words.proofs.Back.{register_tag_lem}
use Rattle.words.proofs.Rounds.{ref_in_lem}

-- what is read is unpacked, if it is the whole word
unpack_is : (w v : ℕ) (r : Register) → v ≡ register_word 12 r → register_reading 12 w ≡ r → exact v w r ≡ unpack_register 12 w
unfolding unpack_register
unpack_is w v r i e = rw (e, i)

module _ (w t : ℕ) (e : t ≡ tag_of w) where
  at_tag : (j : ℕ) → t ≡ j → register_reading 12 w ≡ (if eqb j 0 then Empty else if eqb j 7 then Region (bits 28 32 w) else Term (ref_of 12 w))
  unfolding register_reading
  at_tag j h = rw (← e, h)

  pub held_empty : (h : Option Register) (v : ℕ) → v ≡ register_word 12 Empty → h ≡ exact v w Empty → t ≡ 0 → h ≡ unpack_register 12 w
  held_empty h v i g z = g ∙ unpack_is w v Empty i (at_tag 0 z)

  pub held_region : (h : Option Register) (v s : ℕ) → v ≡ register_word 12 (Region s) → h ≡ exact v w (Region s) → t ≡ 7 → s ≡ bits 28 32 w → h ≡ unpack_register 12 w
  held_region h v s i g z q = g ∙ unpack_is w v (Region s) i (at_tag 7 z ∙ ap Region (sym q))

  pub held_term : (h : Option Register) (v : ℕ) (r : Ref) → v ≡ register_word 12 (Term r) → h ≡ exact v w (Term r) → t ≡ 8 → r ≡ ref_of 12 w → h ≡ unpack_register 12 w
  held_term h v r i g z q = g ∙ unpack_is w v (Term r) i (at_tag 8 z ∙ ap Term (sym q))

  -- no other tag is a register's: the word of the reference that is read has tag 8
  pub held_none : (t ≡ 0 → ⊥) → (t ≡ 7 → ⊥) → (t ≡ 8 → ⊥) → None ≡ unpack_register 12 w
  unfolding register_tag RegisterFits
  held_none n0 n7 n8 =
      let f : RefFits 12 (ref_of 12 w) = ref_in_lem 12 w in
      let q : register_word 12 (Term (ref_of 12 w)) ≢ w = λ z. n8 (e ∙ ap tag_of (sym z) ∙ register_tag_lem 12 (omega arith) (omega arith) (Term (ref_of 12 w)) f) in
      let b : register_reading 12 w ≡ Term (ref_of 12 w) = at_tag t refl ∙ rw (ne_eqb t 0 n0, ne_eqb t 7 n7) in
      rw (ne_eqb (register_word 12 (Term (ref_of 12 w))) w q) at (unpack_is w (register_word 12 (Term (ref_of 12 w))) (Term (ref_of 12 w)) refl b)

pub ruleset holding = (rules, held_empty, held_region, held_term, held_none)
