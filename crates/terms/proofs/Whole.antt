-- A unification as a whole: the undo, and what the call answers.
use mathlib.Core.Path.{◌≡◌, refl}
use mathlib.Core.Bool.{true, false}
use mathlib.Core.List.{List, [], ◌∷◌}
use Prim.Native.Nat.{ℕ, zero, suc, ◌-◌, ◌%◌, ◌^◌, ◌<◌, ◌≤◌}
use native.Mathlib.Omega.{arith}
use native.Mathlib.Numerals.{sub-one}
use lib.ListN.{get_or, set}
use Rattle.std.specs.Prelude.{Result, Ok, Err, eqb}
use Rattle.std.specs.Result.{is_err}
use Rattle.words.specs.declared.Ref.{Ref}
use Rattle.words.specs.declared.Refusal.{Refusal}
use Rattle.words.specs.declared.Answer.{Answer}
use Rattle.terms.specs.Unify.{Marked, marked, refs, solved, solve, unified, settled, unify_terms, status_told}
use Rattle.terms.specs.Took.{go_on, word_back, mark_back, undo_of, Took}
use Rattle.terms.proofs.Cycle.{stops}

-- ---- the undo

module _ (v : ℕ → ℕ) (t xs : List ℕ) where
  pub undo_turn : (k : ℕ) → 0 < k → undo_of v k t xs ≡ undo_of v (k - 1) t (set xs (get_or t (k - 1) 0 % 2 ^ 16) (v (get_or t (k - 1) 0)))
  unfolding undo_of
  undo_turn zero p = absurd (omega arith)
  undo_turn (suc k) p = rw (sub-one (suc k))

  pub undo_spent : (k : ℕ) → k ≤ 0 → undo_of v k t xs ≡ xs
  unfolding undo_of
  undo_spent k p = let z : k ≡ 0 = omega arith in rw z

-- ---- the whole

solve_nil : (n left : ℕ) (m : Marked) → solve n left [] m ≡ solved 0 left m
unfolding solve
solve_nil n zero m = refl
solve_nil n (suc left) m = refl

abbrev said : ℕ → ℕ → Answer
said status pairs = record { status = status; kind = 0; pairs = pairs; payload = 0 }

-- an outcome's test says what its status is
done_is : (o : Result (Unit {0}) Refusal) → false ≡ is_err o → status_told o ≡ 0
done_is (Ok v) e = refl
done_is (Err c) e = absurd cc

back_is : (o : Result (Unit {0}) Refusal) → true ≡ is_err o → eqb (status_told o) 0 ≡ false
back_is (Ok v) e = absurd cc
back_is (Err c) e = stops c

module _ (n first budget : ℕ) (l r : Ref) (h u t : List ℕ) (o : Result (Unit {0}) Refusal) (k left : ℕ) (h' u' t' : List ℕ)
    (z : first ≡ 0) (d : Took n (refs l r ∷ []) first budget h u t (status_told o) k left h' u' t') where
  pub unify_done : false ≡ is_err o → unified (said (status_told o) (budget - left)) h' u' ≡ unify_terms n budget l r (marked h u)
  unfolding go_on unify_terms settled
  unify_done e = rw (d.through [], done_is o e, solve_nil n left (marked h' u'))

  pub unify_back : true ≡ is_err o → unified (said (status_told o) (budget - left)) (undo_of word_back k t' h') (undo_of mark_back k t' u') ≡ unify_terms n budget l r (marked h u)
  unfolding go_on unify_terms settled undo_of
  unify_back e = rw (d.heap, d.turned, z, d.through [], back_is o e) (rw (back_is o e))
