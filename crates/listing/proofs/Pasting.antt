-- What a text that fits does: it stands in the buffer from its place on, all else stays, and the next place is behind it.
use Rattle.std.specs.Prelude.{if◌then◌else◌}
use Prim.Native.Nat.{ℕ, suc, ◌+◌, ◌<◌, ◌≤◌}
use mathlib.Core.Bool.{Bool, true, false}
use mathlib.Core.List.{List, [], ◌∷◌, ◌++◌}
use mathlib.Core.Path.{◌≡◌, refl, ap, ◌∙◌}
use native.Mathlib.Omega.{arith}
use native.Mathlib.Numerals.{add-one}
use borrow.Author.Tests.{lt-ltb}
use lib.Dec.{ltb}
use lib.ListN.{length, set, take, drop, length-set}
use lib.Seq.{sets, sets-eq}
use Rattle.machine.specs.Program.{step_line, step_lines}
use Rattle.words.specs.declared.Answer.{Answer}
use Rattle.listing.specs.Text.{Written, written, write, writes}
use Rattle.listing.proofs.Text.{writes_append}

write_in : (l : List ℕ) (p b : ℕ) → p < length l → write b (written l p) ≡ written (set l p b) (suc p)
unfolding write
write_in l p b h = rw (lt-ltb p (length l) h, add-one p)

stored : (text l : List ℕ) (p : ℕ) → p + length text ≤ length l → writes text (written l p) ≡ written (sets l p text) (p + length text)
unfolding writes
stored [] l p h = ap (written l) (omega arith)
stored (b ∷ text) l p h =
    ap (writes text) (write_in l p b (omega arith))
    ∙ stored text (set l p b) (suc p) (omega (arith, length-set l p b))
    ∙ ap (written (sets (set l p b) (suc p) text)) (omega arith)

pub pasted : (text l : List ℕ) (p : ℕ) → p + length text ≤ length l →
    writes text (written l p) ≡ written (take p l ++ text ++ drop (p + length text) l) (p + length text)
pasted text l p h = stored text l p h ∙ ap (λ (x : List ℕ). written x (p + length text)) (sets-eq text l p h)

-- the buffer keeps its length
write_length : (b : ℕ) (w : Written) → length (write b w).bytes ≡ length w.bytes
unfolding write
write_length b w = by (ltb w.at (length w.bytes))
  where
    by : (t : Bool) → length (if t then written (set w.bytes w.at b) (w.at + 1) else w).bytes ≡ length w.bytes
    by true = length-set w.bytes w.at b
    by false = refl

pub writes_length : (text : List ℕ) (w : Written) → length (writes text w).bytes ≡ length w.bytes
unfolding writes
writes_length [] w = refl
writes_length (b ∷ text) w = writes_length text (write b w) ∙ write_length b w

-- a line for each step: the first, then the others
pub lines_more : (n : ℕ) (a : Answer) (more : List Answer) (w : Written) → writes (step_lines n (a ∷ more)) w ≡ writes (step_lines (suc n) more) (writes (step_line n a) w)
unfolding step_lines
lines_more n a more w = writes_append (step_line n a) (step_lines (suc n) more) w
