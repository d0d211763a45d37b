-- Op 6, over the lent words: unification as a machine that works off an agenda of pairs.
-- It goes clause by clause as `solve` does (crates/machine/specs/Unify.antt); a cell is bound by writing its word and its turned mark.
use Rattle.std.specs.Prelude.{◌&&◌, List, [], ◌∷◌, ◌++◌, ℕ, zero, suc, ◌+◌, ◌-◌, ◌%◌, ◌^◌, eqb, get_or, set, Option, Some, None, Result, Ok, Err, if◌then◌else◌}
use Rattle.laws.specs.Base.{on_some}
use Rattle.words.specs.declared.Ref.{Ref}
use Rattle.words.specs.declared.Cell.{Cell}
use Rattle.words.specs.declared.Cell.TheVariants.{Unbound, Bound, Int, Head, Argument}
use Rattle.words.specs.declared.Answer.{Answer}
use Rattle.words.specs.declared.Refusal.{Refusal}
use Rattle.words.specs.declared.Refusal.TheVariants as Refusals
use Rattle.words.specs.Integers.{same_int}
use Rattle.words.specs.Words.{cell_word, ref_of}
use Rattle.words.specs.Answers.{plain, status_of}
use Rattle.machine.specs.declared.Found.{Found}
use Rattle.machine.specs.declared.Found.TheVariants.{Dead, At}
use Rattle.machine.specs.Unify.{younger}
use Rattle.store.specs.Rows.{present}
use Rattle.terms.specs.declared.unify.Attempt.{Attempt}
use Rattle.terms.specs.declared.unify.Taken.{Taken}
use Rattle.terms.specs.declared.unify.Taken.TheVariants.{Same, Bind, Arguments}
use Rattle.terms.specs.Deref.{deref_of, operand_at}

-- ---- what a pair comes to

-- two cells that are not the same
unfoldable pub meet_of : Ref → Cell → Ref → Cell → Result Taken Refusal
meet_of r Unbound s Unbound = if younger r s then Ok (Bind r s) else Ok (Bind s r)
meet_of r Unbound s (Bound t) = Err Refusals.Differ
meet_of r Unbound s (Int v) = Ok (Bind r s)
meet_of r Unbound s (Head f n) = Ok (Bind r s)
meet_of r Unbound s (Argument t) = Err Refusals.Differ
meet_of r (Int v) s Unbound = Ok (Bind s r)
meet_of r (Int v) s (Bound t) = Err Refusals.Differ
meet_of r (Int v) s (Int w) = if same_int v w then Ok Same else Err Refusals.Differ
meet_of r (Int v) s (Head g k) = Err Refusals.Differ
meet_of r (Int v) s (Argument t) = Err Refusals.Differ
meet_of r (Head f n) s Unbound = Ok (Bind s r)
meet_of r (Head f n) s (Bound t) = Err Refusals.Differ
meet_of r (Head f n) s (Int w) = Err Refusals.Differ
meet_of r (Head f n) s (Head g k) = if eqb f g && eqb n k then Ok (Arguments r.address s.address n) else Err Refusals.Differ
meet_of r (Head f n) s (Argument t) = Err Refusals.Differ
meet_of r (Bound q) s w = Err Refusals.Differ
meet_of r (Argument q) s w = Err Refusals.Differ

-- both sides followed to their cells: a dead reference stops with 4, the same cell is equal
unfoldable pub both_found : Found → Found → Result Taken Refusal
both_found Dead y = Err Refusals.Dead
both_found (At r v) Dead = Err Refusals.Dead
both_found (At r v) (At s w) = if eqb r.address s.address then Ok Same else meet_of r v s w

unfoldable pub look_of : List ℕ → List ℕ → Ref → Ref → Result Taken Refusal
look_of h u l r = both_found (deref_of h u l) (deref_of h u r)

-- ---- the machine

-- what unification changes: the heap, and the turned marks
pub record Marked : Type 0 where
  pub heap : List ℕ
  pub turned : List ℕ

abbrev pub marked : List ℕ → List ℕ → Marked
marked h u = record { heap = h; turned = u }

-- the variable at r is bound to the cell at s in copy n, the present one: `turn_at` of the store, which leaves the born marks alone
unfoldable pub bind_in : ℕ → Ref → Ref → Marked → Marked
bind_in n r s m = marked (set m.heap r.address (cell_word 12 (Bound s))) (set m.turned r.address n)

-- a pair that waits: two references, or the addresses of two arguments, whose words are read when the pair is taken.
-- In a sound session a binding changes unbound variables alone and no argument, so that it is the same as to read them when the heads meet
pub data Item : Type 0 where
  refs : Ref → Ref → Item
  args : ℕ → ℕ → Item

unfoldable pub left_of : List ℕ → Item → Ref
left_of h (refs l r) = l
left_of h (args i j) = ref_of 12 (get_or h i 0)

unfoldable pub right_of : List ℕ → Item → Ref
right_of h (refs l r) = r
right_of h (args i j) = ref_of 12 (get_or h j 0)

-- the pairs of arguments from number k on, as many as the last number says, of the structures whose heads are at a and b
unfoldable pub arg_items : ℕ → ℕ → ℕ → ℕ → List Item
arg_items a b k zero = []
arg_items a b k (suc m) = args (a + (k + 1)) (b + (k + 1)) ∷ arg_items a b (k + 1) m

-- where unification ends: its status, how many pairs could still be taken, and the memory with its bindings
pub record Solved : Type 0 where
  pub status : ℕ
  pub left : ℕ
  pub memory : Marked

abbrev pub solved : ℕ → ℕ → Marked → Solved
solved status left m = record { status = status; left = left; memory = m }

-- one pair was taken: `go` takes the rest
unfoldable pub took_pair : ℕ → (List Item → Marked → Solved) → ℕ → List Item → Marked → Result Taken Refusal → Solved
took_pair n go left rest m (Err e) = solved (status_of e) left m
took_pair n go left rest m (Ok Same) = go rest m
took_pair n go left rest m (Ok (Bind r s)) = go rest (bind_in n r s m)
took_pair n go left rest m (Ok (Arguments a b k)) = go (arg_items a b 0 k ++ rest) m

-- the pair at the agenda's head is taken next, and its arguments' pairs come before the rest; the second number is how many pairs may still be taken
unfoldable pub solve : ℕ → ℕ → List Item → Marked → Solved
solve n zero [] m = solved 0 zero m
solve n zero (x ∷ rest) m = solved 10 zero m
solve n (suc left) [] m = solved 0 (suc left) m
solve n (suc left) (x ∷ rest) m =
    took_pair n (λ agenda m'. solve n left agenda m') left rest m (look_of m.heap m.turned (left_of m.heap x) (right_of m.heap x))

-- ---- op 6

-- the status of an outcome: 0 if nothing was refused
abbrev pub status_told : Result (Unit {0}) Refusal → ℕ
status_told (Ok x) = 0
status_told (Err e) = status_of e

-- what the code's `Attempt` answers
abbrev pub answer_of_attempt : Attempt → Answer
answer_of_attempt t = record { status = status_told t.outcome; kind = 0; pairs = t.pairs; payload = 0 }

pub record Unified : Type 0 where
  pub answer : Answer
  pub memory : Marked

abbrev pub unified : Answer → List ℕ → List ℕ → Unified
unified a h u = record { answer = a; memory = marked h u }

-- unless the answer is 0, no binding of this step remains
unfoldable pub settled : ℕ → Marked → Solved → Unified
settled budget m e =
    record {
      answer = record { status = e.status; kind = 0; pairs = budget - e.left; payload = 0 };
      memory = if eqb e.status 0 then e.memory else m;
    }

unfoldable pub unify_terms : ℕ → ℕ → Ref → Ref → Marked → Unified
unify_terms n budget l r m = settled budget m (solve n budget (refs l r ∷ []) m)

abbrev pub on_operands : {A : Type 0} → Option (Ref × Ref) → (Ref → Ref → A) → A → A
on_operands None f z = z
on_operands (Some p) f z = f p.0 p.1

-- both registers must hold a term of a live region
unfoldable pub operands_at : List ℕ → List ℕ → List ℕ → ℕ → ℕ → Option (Ref × Ref)
operands_at h t u a b = on_some (operand_at h t u a) (λ l. on_some (operand_at h t u b) (λ r. Some (l, r)) None) None

-- else the status is 4, and no pair is taken. A budget has 12 bits
unfoldable pub unify_of : List ℕ → List ℕ → List ℕ → ℕ → ℕ → ℕ → Unified
unify_of h t u a b budget =
    on_operands (operands_at h t u a b) (λ l r. unify_terms (present t) (budget % 2 ^ 12) l r (marked h u)) (unified (plain 4) h u)
