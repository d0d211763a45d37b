-- Op 8 over the lent words, destruct a into d, d + 1, ..: h is the heap, u the turned marks, t the tables.
use Rattle.std.specs.Prelude.{◌&&◌, List, ℕ, ◌+◌, eqb, get_or, if◌then◌else◌}
use Rattle.laws.specs.Loops.{run}
use Rattle.words.specs.declared.Ref.{Ref}
use Rattle.words.specs.declared.Cell.{Cell}
use Rattle.words.specs.declared.Cell.TheVariants.{Unbound, Bound, Int, Head, Argument}
use Rattle.words.specs.declared.Register.TheVariants.{Term}
use Rattle.words.specs.declared.Answer.{Answer}
use Rattle.words.specs.Words.{register_word, ref_of}
use Rattle.words.specs.Exact.{in_range}
use Rattle.words.specs.Answers.{plain}
use Rattle.machine.specs.declared.Found.{Found}
use Rattle.store.specs.Rows.{present, register_set}
use Rattle.terms.specs.Deref.{on_found, found_at}

-- argument i of the structure whose head is at address a goes to register d + i of copy n as it stands, as a term: it is not followed, dead or not
abbrev pub term_taken : List ℕ → ℕ → ℕ → ℕ → ℕ → List ℕ → List ℕ
term_taken h n a d i t = register_set t n (d + i) (register_word 12 (Term (ref_of 12 (get_or h (a + 1 + i) 0))))

-- the first k of them do. All stand in the heap, which stays, so that no register that is written changes what is read
unfoldable pub terms_taken : List ℕ → ℕ → ℕ → ℕ → ℕ → List ℕ → List ℕ
terms_taken h n a d k t = run (term_taken h n a d) k t

-- by the cell that is found: 11 for an unbound variable whatever is asked, 1 for an integer or a structure that differs
abbrev pub on_head : {A : Type 0} → Cell → ℕ → ℕ → (ℕ → A) → A → A
on_head Unbound f n refused taken = refused 11
on_head (Bound s) f n refused taken = refused 4
on_head (Int v) f n refused taken = refused 1
on_head (Head g k) f n refused taken = if eqb f g && eqb n k then taken else refused 1
on_head (Argument s) f n refused taken = refused 4

-- 2 unless the arity is at most 14 and no register is past 31, then 4 unless a term is found
abbrev pub on_destruct : {A : Type 0} → Found → ℕ → ℕ → ℕ → (ℕ → A) → (Ref → A) → A
on_destruct x d f n refused taken = if in_range d n then on_found x (λ r c. on_head c f n refused (taken r)) (refused 4) else refused 2

unfoldable pub destruct_answer : List ℕ → List ℕ → List ℕ → ℕ → ℕ → ℕ → ℕ → Answer
destruct_answer h t u d a f n = on_destruct (found_at h t u a) d f n (λ s. plain s) (λ r. plain 0)

unfoldable pub destruct_tables : List ℕ → List ℕ → List ℕ → ℕ → ℕ → ℕ → ℕ → List ℕ
destruct_tables h t u d a f n = on_destruct (found_at h t u a) d f n (λ s. t) (λ r. terms_taken h (present t) r.address d n t)
