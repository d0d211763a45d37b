-- Deref over the lent words: h is the heap, u the turned marks, t the tables.
use Rattle.std.specs.Prelude.{List, ℕ, zero, suc, length, get_or, Option, Some, None, if◌then◌else◌}
use Rattle.words.specs.declared.Ref.{Ref}
use Rattle.words.specs.declared.Cell.{Cell}
use Rattle.words.specs.declared.Cell.TheVariants.{Unbound, Bound, Int, Head, Argument}
use Rattle.words.specs.declared.Word.{Word}
use Rattle.words.specs.declared.Register.TheVariants.{Term}
use Rattle.words.specs.declared.Answer.{Answer}
use Rattle.words.specs.Words.{register_word, unpack_heap}
use Rattle.words.specs.Answers.{plain}
use Rattle.machine.specs.declared.Found.{Found}
use Rattle.machine.specs.declared.Found.TheVariants.{Dead, At}
use Rattle.machine.specs.Run.{kind_of, payload_of}
use Rattle.terms.specs.declared.deref.Seen.{Seen}
use Rattle.store.specs.Pages.{live_ref}
use Rattle.store.specs.Rows.{present, register_set, held_at, on_term}

-- ---- following a reference

-- a cell at r that is no bound variable: tags 1, 3 and 4 are what deref looks for
abbrev pub ends_at : Ref → Cell → Found
ends_at r Unbound = At r Unbound
ends_at r (Bound s) = Dead
ends_at r (Int v) = At r (Int v)
ends_at r (Head f n) = At r (Head f n)
ends_at r (Argument s) = Dead

-- a bound variable is followed by `next`
abbrev pub on_cell : Ref → Cell → (Ref → Found) → Found
on_cell r Unbound next = ends_at r Unbound
on_cell r (Bound s) next = next s
on_cell r (Int v) next = ends_at r (Int v)
on_cell r (Head f n) next = ends_at r (Head f n)
on_cell r (Argument s) next = ends_at r (Argument s)

-- a word that is no cell is no term
abbrev pub on_word : Ref → Word → (Ref → Found) → Found
on_word r Word.Empty next = Dead
on_word r (Word.Filled c) next = on_cell r c next
on_word r (Word.Linked l) next = Dead
on_word r Word.Broken next = Dead

-- the number bounds how many cells are looked at
unfoldable pub deref_in : ℕ → List ℕ → List ℕ → Ref → Found
deref_in zero h u r = Dead
deref_in (suc k) h u r =
    if live_ref h u r then on_word r (unpack_heap 12 (get_or h r.address 0)) (λ s. deref_in k h u s) else Dead

-- a chain of variables that does not turn back on itself has at most as many cells as the heap
unfoldable pub deref_of : List ℕ → List ℕ → Ref → Found
deref_of h u r = deref_in (length h) h u r

-- ---- what the registers of the present copy hold

-- the term in register i, followed. It is dead if there is none: the status is 4 either way
unfoldable pub found_at : List ℕ → List ℕ → List ℕ → ℕ → Found
found_at h t u i = on_term (held_at t i) (λ r. deref_of h u r) Dead

-- the term in register i, if its region is in the present copy
unfoldable pub operand_at : List ℕ → List ℕ → List ℕ → ℕ → Option Ref
operand_at h t u i = on_term (held_at t i) (λ r. if live_ref h u r then Some r else None) None

-- ---- op 7: deref a into d

abbrev pub on_found : {A : Type 0} → Found → (Ref → Cell → A) → A → A
on_found Dead f z = z
on_found (At r c) f z = f r c

abbrev pub seen : Cell → Answer
seen c = record { status = 0; kind = kind_of c; pairs = 0; payload = payload_of c }

-- the answer that the code's `Seen` is
abbrev pub answer_of_seen : Seen → Answer
answer_of_seen s = record { status = 0; kind = s.kind; pairs = 0; payload = s.payload }

unfoldable pub deref_answer : List ℕ → List ℕ → List ℕ → ℕ → Answer
deref_answer h t u a = on_found (found_at h t u a) (λ r c. seen c) (plain 4)

unfoldable pub deref_tables : List ℕ → List ℕ → List ℕ → ℕ → ℕ → List ℕ
deref_tables h t u d a = on_found (found_at h t u a) (λ r c. register_set t (present t) d (register_word 12 (Term r))) t
