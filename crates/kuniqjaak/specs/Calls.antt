-- What the four calls answer, and what they leave of everything lent, by the lists.
use Rattle.std.specs.Prelude.{◌||◌, List, ◌++◌, ℕ, ◌-◌, ◌/◌, ltb, length, drop, replicate, set, Result, Ok, Err, if◌then◌else◌}
use Rattle.machine.specs.declared.State.{State}
use Rattle.machine.specs.Tables.{Lent}
use Rattle.machine.specs.Calls.{openable}
use Rattle.store.specs.Memory.{memory}
use Rattle.store.specs.Pages.{free_count}
use Rattle.store.specs.Rows.{present}
use Rattle.store.specs.Make.{next_stamp}
use Rattle.audit.specs.Audit.{lent, sound_test}
use Rattle.kuniqjaak.specs.declared.Limits.{Limits}
use Rattle.kuniqjaak.specs.declared.CallRefusal.{CallRefusal}
use Rattle.kuniqjaak.specs.declared.CallRefusal.TheVariants.{NoSession, TooMany, NotOpenable}
use Rattle.kuniqjaak.specs.Runs.{Session, session, answers, final}

-- ---- the number of each call's answer: 0, or why it is refused

abbrev pub number_of : CallRefusal → ℕ
number_of NoSession = 16
number_of TooMany = 17
number_of NotOpenable = 18

abbrev pub status_told : {A : Type 0} → Result A CallRefusal → ℕ
status_told (Ok x) = 0
status_told (Err e) = number_of e

-- ---- the opening call

abbrev pub zeroes : List ℕ → List ℕ
zeroes l = replicate (length l) 0

-- no region, no saved copy, empty registers, and that next stamp; the present copy is number 1
unfoldable pub blank : Lent → ℕ → Lent
blank l stamp = lent (zeroes l.heap) (set (set (zeroes l.tables) 0 stamp) 1 1) (zeroes l.born) (zeroes l.turned)

unfoldable pub open_status : Lent → ℕ → ℕ
open_status l stamp = if openable l stamp then 0 else 18

unfoldable pub open_leaves : Lent → ℕ → Lent
open_leaves l stamp = if openable l stamp then blank l stamp else l

-- ---- the run call

-- 64 slots and 32 choice points, over all pages of the heap
abbrev pub limits_of : Lent → Limits
limits_of l = record { pages = record { first = 0; count = length l.heap / 16 }; slots = 64; choices = 32 }

abbrev pub session_of : Lent → Session
session_of l = session (memory l.heap l.born l.turned) l.tables

abbrev pub lent_of : Session → Lent
lent_of s = lent s.memory.heap s.tables s.memory.born s.memory.turned

-- 17, then 16
unfoldable pub on_run : {A : Type 0} → Lent → List ℕ → List ℕ → (ℕ → A) → A → A
on_run l steps answered refused ran =
    if ltb 4096 (length steps) || ltb (length answered) (length steps) then refused 17
    else if sound_test l then ran
    else refused 16

unfoldable pub run_status : Lent → List ℕ → List ℕ → ℕ
run_status l steps answered = on_run l steps answered (λ s. s) 0

-- every step in order
unfoldable pub run_leaves : Lent → List ℕ → List ℕ → Lent
run_leaves l steps answered = on_run l steps answered (λ s. l) (lent_of (final (limits_of l) steps (session_of l)))

-- an answer word for each; those past the last step stay as they came
unfoldable pub run_answers : Lent → List ℕ → List ℕ → List ℕ
run_answers l steps answered =
    on_run l steps answered (λ s. answered) (answers (limits_of l) steps (session_of l) ++ drop (length steps) answered)

-- ---- the state call: free pages, saved copies, next stamp

unfoldable pub state_in : Lent → State
state_in l = record { free = free_count 0 (length l.heap / 16) l.heap; choices = present l.tables - 1; next = next_stamp l.tables }

unfoldable pub state_told : Lent → Result State CallRefusal
state_told l = if sound_test l then Ok (state_in l) else Err NoSession
