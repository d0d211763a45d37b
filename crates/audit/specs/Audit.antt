-- THE TEST: is what is lent a sound session?
use Rattle.std.specs.Prelude.{Bool, ◌&&◌, List, ℕ, ◌/◌, ◌%◌, eqb, leb, length}
use Rattle.laws.specs.Loops.{all_of}
use Rattle.store.specs.Pages.{slot_count}
use Rattle.machine.specs.Tables.{Lent}
use Rattle.audit.specs.Session.{Session, session}
use Rattle.audit.specs.Links.{page_ok}
use Rattle.audit.specs.Rows.{zero_to, head_ok, rows_ok}

-- the four slices that are lent
abbrev pub lent : List ℕ → List ℕ → List ℕ → List ℕ → Lent
lent h t b u = record { heap = h; tables = t; born = b; turned = u }

-- 1 to 256 whole pages
abbrev pub heap_length_ok : ℕ → Bool
heap_length_ok k = eqb (k % 16) 0 && leb 16 k && leb k 4096

-- and tables of their fixed lengths
unfoldable pub lengths_ok : Lent → Bool
lengths_ok l = heap_length_ok (length l.heap) && eqb (length l.tables) 1058 && eqb (length l.born) 4096 && eqb (length l.turned) 4096

-- the pages, whose regions take at most so many slots
unfoldable pub pages_ok : Session → ℕ → Bool
pages_ok s slots = all_of (page_ok s) s.pages s.first && leb (slot_count s.first s.pages s.heap) slots

-- no marks past the heap's end
unfoldable pub past_ok : Session → Bool
past_ok s = zero_to s.born (length s.heap) 4096 && zero_to s.turned (length s.heap) 4096

-- all pages and rows
unfoldable pub memory_ok : Session → ℕ → ℕ → Bool
memory_ok s slots choices = pages_ok s slots && rows_ok s choices && past_ok s

-- a machine on `pages` pages from page `first` on, with so many slots and choice points
unfoldable pub machine_ok : ℕ → ℕ → ℕ → ℕ → Lent → Bool
machine_ok first pages slots choices l = head_ok choices l.tables && memory_ok (session first pages l) slots choices

unfoldable pub sound_test : Lent → Bool
sound_test l = lengths_ok l && machine_ok 0 (length l.heap / 16) 64 32 l
