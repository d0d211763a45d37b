-- Document 01, "The copy machine", on the lent memory: what push, cut, backtrack and kill answer, and the memory and the tables after them.
-- n is the number of the present copy: the saved copies and one more.
use Rattle.std.specs.Prelude.{List, ℕ, ◌+◌, ◌-◌, ◌||◌, eqb, ltb, set, if◌then◌else◌}
use Rattle.words.specs.declared.Answer.{Answer}
use Rattle.words.specs.Answers.{plain}
use Rattle.store.specs.declared.Which.TheVariants.{Marked, Stamped}
use Rattle.store.specs.Memory.{Memory}
use Rattle.store.specs.Regions.{home_at, on_home}
use Rattle.store.specs.Rows.{present, row_copied, row_cleared}
use Rattle.store.specs.Undo.{undone}

-- ---- push: the present copy's registers are saved, and nothing else changes. A mark has 8 bits, so there is no copy 256, whatever the limit

unfoldable pub push_answer : ℕ → List ℕ → Answer
push_answer choices t = if ltb choices (present t) || eqb (present t) 255 then plain 8 else plain 0

unfoldable pub push_tables : ℕ → List ℕ → List ℕ
push_tables choices t =
    let n : ℕ = present t in
    if ltb choices n || eqb n 255 then t else set (row_copied n (n + 1) t) 1 (n + 1)

-- ---- cut and backtrack: with no saved copy they are refused

unfoldable pub drop_answer : List ℕ → Answer
drop_answer t = if ltb (present t) 2 then plain 9 else plain 0

-- the newest row goes, and copy `last` is the present one
unfoldable pub row_dropped : ℕ → ℕ → List ℕ → List ℕ
row_dropped n last t = set (row_cleared n t) 1 last

-- backtrack: what copy n brought goes
unfoldable pub backtrack_memory : ℕ → ℕ → List ℕ → Memory → Memory
backtrack_memory first pages t m =
    let n : ℕ = present t in
    if ltb n 2 then m else undone first pages (Marked 0) n (n - 1) m

unfoldable pub backtrack_tables : List ℕ → List ℕ
backtrack_tables t =
    let n : ℕ = present t in
    if ltb n 2 then t else row_dropped n (n - 1) t

-- cut: what copy n - 1 alone had goes, and the present copy takes its number
unfoldable pub cut_memory : ℕ → ℕ → List ℕ → Memory → Memory
cut_memory first pages t m =
    let n : ℕ = present t in
    if ltb n 2 then m else undone first pages (Marked (n - 1)) (n - 1) (n - 1) m

unfoldable pub cut_tables : List ℕ → List ℕ
cut_tables t =
    let n : ℕ = present t in
    if ltb n 2 then t else row_dropped n (n - 1) (row_copied n (n - 1) t)

-- ---- kill: the region in register a, if the present copy has it. The registers stay

unfoldable pub kill_answer : ℕ → ℕ → List ℕ → ℕ → Memory → Answer
kill_answer first pages t a m = on_home (home_at first pages m.heap t m.turned a) (λ p s. plain 0) (plain 3)

unfoldable pub kill_memory : ℕ → ℕ → List ℕ → ℕ → Memory → Memory
kill_memory first pages t a m =
    on_home (home_at first pages m.heap t m.turned a) (λ p s. undone first pages (Stamped s) (present t) (present t) m) m
