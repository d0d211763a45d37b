-- What a pair that was looked at names: a variable that is to be bound is unbound in the heap, and a structure has at most 14 arguments.
use Rattle.std.specs.Prelude.{Result, Ok, Err}
use mathlib.Core.Path.{◌≡◌, refl, sym, subst}
use mathlib.Core.Bool.{◌&&◌}
use mathlib.Core.List.{List}
use Prim.Native.Nat.{ℕ, ◌≤◌}
use lib.Dec.{eqb}
use lib.ListN.{get_or}
use Rattle.words.specs.declared.Ref.{Ref}
use Rattle.words.specs.declared.Cell.{Cell}
use Rattle.words.specs.declared.Cell.TheVariants.{Unbound, Bound, Int, Head, Argument}
use Rattle.words.specs.declared.Word.TheVariants as Word
use Rattle.words.specs.Words.{cell_word, unpack_heap}
use Rattle.words.specs.Integers.{same_int}
use Rattle.words.specs.Fit.{CellFits}
use Rattle.machine.specs.declared.Found.{Found}
use Rattle.machine.specs.declared.Found.TheVariants.{Dead, At}
use Rattle.machine.specs.Unify.{younger}
use Rattle.terms.specs.declared.unify.Taken.{Taken}
use Rattle.terms.specs.declared.unify.Taken.TheVariants.{Same, Bind, Arguments}
use Rattle.words.specs.declared.Refusal.{Refusal}
use Rattle.words.specs.declared.Refusal.TheVariants as Refusals
use Rattle.terms.specs.Deref.{deref_of}
use Rattle.terms.specs.Unify.{meet_of, both_found, look_of}
use Rattle.laws.proofs.Conditions.{if_keeps}
use Rattle.terms.proofs.FoundWords.{found_says, filled_word, filled_fits}

module _ (h : List ℕ) where
  abbrev Says : Ref → Cell → Type 0
  Says r c = unpack_heap 12 (get_or h r.address 0) ≡ Word.Filled c

  Names : Result Taken Refusal → Type 0
  Names (Err e) = Unit {0}
  Names (Ok Same) = Unit {0}
  Names (Ok (Bind r s)) = Says r Unbound
  Names (Ok (Arguments a b n)) = n ≤ 14

  few : (r : Ref) (f n : ℕ) → Says r (Head f n) → n ≤ 14
  unfolding CellFits
  few r f n e = (filled_fits (get_or h r.address 0) (Head f n) e).1

  meet_names : (r : Ref) (v : Cell) (s : Ref) (w : Cell) → Says r v → Says s w → Names (meet_of r v s w)
  unfolding Names meet_of
  meet_names r Unbound s Unbound e f = if_keeps Names (younger r s) (Ok (Bind r s)) (Ok (Bind s r)) (λ _. e) (λ _. f)
  meet_names r Unbound s (Bound t) e f = tt
  meet_names r Unbound s (Int v) e f = e
  meet_names r Unbound s (Head g n) e f = e
  meet_names r Unbound s (Argument t) e f = tt
  meet_names r (Int v) s Unbound e f = f
  meet_names r (Int v) s (Bound t) e f = tt
  meet_names r (Int v) s (Int w) e f = if_keeps Names (same_int v w) (Ok Same) (Err Refusals.Differ) (λ _. tt) (λ _. tt)
  meet_names r (Int v) s (Head g n) e f = tt
  meet_names r (Int v) s (Argument t) e f = tt
  meet_names r (Head g n) s Unbound e f = f
  meet_names r (Head g n) s (Bound t) e f = tt
  meet_names r (Head g n) s (Int w) e f = tt
  meet_names r (Head g n) s (Head i k) e f = if_keeps Names (eqb g i && eqb n k) (Ok (Arguments r.address s.address n)) (Err Refusals.Differ) (λ _. few r g n e) (λ _. tt)
  meet_names r (Head g n) s (Argument t) e f = tt
  meet_names r (Bound q) s w e f = tt
  meet_names r (Argument q) s w e f = tt

  module _ (u : List ℕ) (l r : Ref) where
    both_names : (x y : Found) → deref_of h u l ≡ x → deref_of h u r ≡ y → Names (both_found x y)
    unfolding Names both_found
    both_names Dead y e f = tt
    both_names (At p v) Dead e f = tt
    both_names (At p v) (At q w) e f =
        if_keeps Names (eqb p.address q.address) (Ok Same) (meet_of p v q w) (λ _. tt)
        (λ _. meet_names p v q w (found_says h u l p v e) (found_says h u r q w f))

    look_names : (t : Result Taken Refusal) → look_of h u l r ≡ t → Names t
    unfolding look_of
    look_names t e = subst Names e (both_names (deref_of h u l) (deref_of h u r) refl refl)

    pub binds_unbound : (p q : Ref) → Ok (Bind p q) ≡ look_of h u l r → cell_word 12 Unbound ≡ get_or h p.address 0
    unfolding Names
    binds_unbound p q e = filled_word (get_or h p.address 0) Unbound (look_names (Ok (Bind p q)) (sym e))

    pub few_arguments : (a b n : ℕ) → Ok (Arguments a b n) ≡ look_of h u l r → n ≤ 14
    unfolding Names
    few_arguments a b n e = look_names (Ok (Arguments a b n)) (sym e)
