-- The tables: the next stamp, the number of copies, the registers of each copy, and nothing in the rows that are not used.
use Rattle.std.specs.Prelude.{Bool, true, false, not, ◌&&◌, List, ℕ, ◌+◌, ◌-◌, ◌*◌, eqb, ltb, leb, get_or, Option, Some, None}
use Rattle.laws.specs.Loops.{all_of}
use Rattle.words.specs.declared.Register.{Register}
use Rattle.words.specs.declared.Register.TheVariants as Reg
use Rattle.words.specs.Words.{unpack_register}
use Rattle.store.specs.Rows.{register_at}
use Rattle.audit.specs.Session.{Session}
use Rattle.audit.specs.Live.{stamp_in, ref_ok}

-- a register of copy c
unfoldable pub register_ok : Session → Register → ℕ → Bool
register_ok s Reg.Empty c = true
register_ok s (Reg.Region stamp) c = stamp_in s.next stamp
register_ok s (Reg.Term r) c = ref_ok s r (record { since = c; upto = c })

abbrev pub holds_ok : Session → Option Register → ℕ → Bool
holds_ok s (Some r) c = register_ok s r c
holds_ok s None c = false

-- register r of copy c
abbrev pub row_word_ok : Session → ℕ → ℕ → Bool
row_word_ok s c r = holds_ok s (unpack_register 12 (register_at s.tables c r)) c

-- the 32 registers of copy c
unfoldable pub row_ok : Session → ℕ → Bool
row_ok s c = all_of (row_word_ok s c) 32 0

abbrev pub is_zero : List ℕ → ℕ → Bool
is_zero l i = eqb (get_or l i 0) 0

-- the words, or the marks, from `start` on and before `end` are zero
abbrev pub zero_to : List ℕ → ℕ → ℕ → Bool
zero_to l start end = all_of (is_zero l) (end - start) start

-- the next stamp is from 1 to 4,294,967,295, and there are 1 to choices + 1 copies
abbrev pub stamp_ok : ℕ → Bool
stamp_ok next = not (eqb next 0) && ltb next 4294967296

abbrev pub count_ok : ℕ → ℕ → Bool
count_ok choices n = not (eqb n 0) && leb n (choices + 1)

unfoldable pub head_ok : ℕ → List ℕ → Bool
head_ok choices t = stamp_ok (get_or t 0 0) && count_ok choices (get_or t 1 0)

-- the registers of each of the copies, and zeros in the rows that are not used
unfoldable pub rows_ok : Session → ℕ → Bool
rows_ok s choices = all_of (row_ok s) s.present 1 && zero_to s.tables (s.present * 32 + 2) (choices * 32 + 34)
