-- What the exports answer where a call has no form in C: a state, a part of the heap.
use Rattle.std.specs.Prelude.{List, ℕ, ◌+◌, ◌*◌, leb, length, if◌then◌else◌, Result, Ok, Err}
use Rattle.machine.specs.declared.State.{State}
use Rattle.kuniqjaak.specs.declared.CallRefusal.{CallRefusal}
use Rattle.kuniqjaak_c.specs.declared.KuniqjaakState.{KuniqjaakState}

-- the state, and zeros where the call is refused
unfoldable pub state_shown : Result State CallRefusal → KuniqjaakState
state_shown (Ok s) = record { free = s.free; choices = s.choices; next = s.next }
state_shown (Err e) = record { free = 0; choices = 0; next = 0 }

-- where the part of the heap that is the page begins, and 0 if it is empty
abbrev pub part_start : List ℕ → ℕ → ℕ
part_start heap page = if leb (page * 16 + 16) (length heap) then page * 16 else 0
