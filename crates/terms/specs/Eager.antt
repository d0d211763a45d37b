-- The same machine with an agenda of pairs of references: the arguments are read when the heads meet, as `solve` of crates/machine does.
-- `proofs/Eager.antt`: the two are one where no word after a head is an unbound variable, as in every sound session.
use Rattle.std.specs.Prelude.{◌≡◌, List, [], ◌∷◌, ◌++◌, ℕ, zero, suc, ◌+◌, ◌<◌, get_or, Result, Ok, Err}
use Rattle.words.specs.declared.Ref.{Ref}
use Rattle.words.specs.declared.Cell.TheVariants.{Unbound, Head}
use Rattle.words.specs.declared.Refusal.{Refusal}
use Rattle.words.specs.Answers.{status_of}
use Rattle.words.specs.Words.{cell_word, ref_of}
use Rattle.machine.specs.Unify.{Pair}
use Rattle.terms.specs.declared.unify.Taken.{Taken}
use Rattle.terms.specs.declared.unify.Taken.TheVariants.{Same, Bind, Arguments}
use Rattle.terms.specs.Unify.{look_of, Marked, bind_in, Solved, solved}

abbrev pub pair : Ref → Ref → Pair
pair l r = record { left = l; right = r }

-- the references in the arguments from number k on, as many as the last number says, of the structures whose heads are at a and b
unfoldable pub arg_pairs : List ℕ → ℕ → ℕ → ℕ → ℕ → List Pair
arg_pairs h a b k zero = []
arg_pairs h a b k (suc m) = pair (ref_of 12 (get_or h (a + (k + 1)) 0)) (ref_of 12 (get_or h (b + (k + 1)) 0)) ∷ arg_pairs h a b (k + 1) m

unfoldable pub took_now : ℕ → (List Pair → Marked → Solved) → ℕ → List Pair → Marked → Result Taken Refusal → Solved
took_now n go left rest m (Err e) = solved (status_of e) left m
took_now n go left rest m (Ok Same) = go rest m
took_now n go left rest m (Ok (Bind r s)) = go rest (bind_in n r s m)
took_now n go left rest m (Ok (Arguments a b k)) = go (arg_pairs m.heap a b 0 k ++ rest) m

unfoldable pub solve_now : ℕ → ℕ → List Pair → Marked → Solved
solve_now n zero [] m = solved 0 zero m
solve_now n zero (p ∷ rest) m = solved 10 zero m
solve_now n (suc left) [] m = solved 0 (suc left) m
solve_now n (suc left) (p ∷ rest) m =
    took_now n (λ agenda m'. solve_now n left agenda m') left rest m (look_of m.heap m.turned p.left p.right)

-- no word after a structure's head, as many as its arity says, is an unbound variable
unfoldable pub Whole : List ℕ → Type 0
Whole h = (a f n k : ℕ) → get_or h a 0 ≡ cell_word 12 (Head f n) → k < n → get_or h (a + (k + 1)) 0 ≡ cell_word 12 Unbound → ⊥
