-- What deref finds stands in the heap: the word at the reference that it gives says the cell that it gives. So its payload has 32 bits.
use Rattle.std.specs.Prelude.{Option, Some, None}
use mathlib.Core.Path.{◌≡◌, refl, subst}
use mathlib.Core.List.{List}
use mathlib.Core.Logic.{◌≢◌}
use Prim.Native.Nat.{ℕ, zero, suc, ◌%◌, ◌^◌}
use mir.Syntax.{w32}
use mir.Val.{Fits}
use mir.Facts.{Fits-of_z}
use native.Mathlib.Omega.{arith}
use lib.ListN.{length, get_or}
use Rattle.words.specs.declared.Ref.{Ref}
use Rattle.words.specs.declared.Cell.{Cell}
use Rattle.words.specs.declared.Cell.TheVariants.{Unbound, Bound, Int, Head, Argument}
use Rattle.words.specs.declared.Word.{Word}
use Rattle.words.specs.Integers.{bits_of}
use Rattle.words.specs.declared.Register.{Register}
use Rattle.words.specs.declared.Register.TheVariants.{Empty, Region, Term}
use Rattle.words.specs.Words.{heap_word, cell_word, unpack_heap}
use Rattle.words.specs.Fit.{WordFits, CellFits}
use Rattle.words.proofs.Rounds.{heap_exact, heap_fits}
use Rattle.machine.specs.declared.Found.{Found}
use Rattle.machine.specs.declared.Found.TheVariants.{Dead, At}
use Rattle.machine.specs.Run.{payload_of}
use Rattle.store.specs.Pages.{live_ref}
use Rattle.store.specs.Rows.{held_at, on_term}
use Rattle.laws.proofs.Conditions.{if_keeps}
use Rattle.terms.specs.Deref.{on_cell, on_word, deref_in, deref_of, found_at}

module _ (h : List ℕ) where
  abbrev Says : Ref → Cell → Type 0
  Says r c = unpack_heap 12 (get_or h r.address 0) ≡ Word.Filled c

  Stands : Found → Type 0
  Stands Dead = Unit {0}
  Stands (At r c) = Says r c

  cell_stands : (r : Ref) (c : Cell) (next : Ref → Found) → Says r c → ((s : Ref) → Stands (next s)) → Stands (on_cell r c next)
  unfolding Stands
  cell_stands r Unbound next e k = e
  cell_stands r (Bound s) next e k = k s
  cell_stands r (Int v) next e k = e
  cell_stands r (Head f n) next e k = e
  cell_stands r (Argument s) next e k = tt

  word_stands : (r : Ref) (w : Word) (next : Ref → Found) → unpack_heap 12 (get_or h r.address 0) ≡ w → ((s : Ref) → Stands (next s)) → Stands (on_word r w next)
  unfolding Stands
  word_stands r Word.Empty next e k = tt
  word_stands r (Word.Filled c) next e k = cell_stands r c next e k
  word_stands r (Word.Linked l) next e k = tt
  word_stands r Word.Broken next e k = tt

  deref_stands : (u : List ℕ) (k : ℕ) (r : Ref) → Stands (deref_in k h u r)
  unfolding Stands deref_in
  deref_stands u zero r = tt
  deref_stands u (suc k) r = if_keeps Stands (live_ref h u r) (on_word r (unpack_heap 12 (get_or h r.address 0)) (λ s. deref_in k h u s)) Dead (λ _. word_stands r _ _ refl (λ s. deref_stands u k s)) (λ _. tt)

  module _ (u : List ℕ) (r s : Ref) (c : Cell) (e : deref_of h u r ≡ At s c) where
    pub found_says : unpack_heap 12 (get_or h s.address 0) ≡ Word.Filled c
    unfolding Stands deref_of
    found_says = subst Stands e (deref_stands u (length h) r)

filled : (c : Cell) → Word.Filled c ≢ Word.Broken
filled c z = cc

module _ (w : ℕ) (c : Cell) (e : unpack_heap 12 w ≡ Word.Filled c) where
  pub filled_word : cell_word 12 c ≡ w
  unfolding heap_word
  filled_word = heap_exact 12 w (Word.Filled c) e (filled c)

  pub filled_fits : CellFits 12 c
  unfolding WordFits
  filled_fits = heap_fits 12 w (Word.Filled c) e (filled c)

-- a cell of the heap has a payload of 32 bits
payload_fits : (c : Cell) → CellFits 12 c → payload_of c % 2 ^ 32 ≡ payload_of c
unfolding payload_of CellFits
payload_fits Unbound f = refl
payload_fits (Bound r) f = refl
payload_fits (Int v) f = let g : Fits w32 (bits_of v) = Fits-of_z f in omega arith
payload_fits (Head g n) f = omega (arith, f.0, f.1)
payload_fits (Argument r) f = refl

module _ (h t u : List ℕ) where
  found_from : (s : Ref) (c : Cell) (x : Option Register) → on_term x (λ r. deref_of h u r) Dead ≡ At s c → CellFits 12 c
  found_from s c (Some Empty) e = absurd cc
  found_from s c (Some (Region k)) e = absurd cc
  found_from s c (Some (Term r)) e = filled_fits (get_or h s.address 0) c (found_says h u r s c e)
  found_from s c None e = absurd cc

  pub found_payload : (a : ℕ) (s : Ref) (c : Cell) → found_at h t u a ≡ At s c → payload_of c % 2 ^ 32 ≡ payload_of c
  unfolding found_at
  found_payload a s c e = payload_fits c (found_from s c (held_at t a) e)
