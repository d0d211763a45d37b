-- THE undo that kill, cut and backtrack share. Copy j goes from the pages that are struck; `last` is the number of the present copy afterwards.
-- backtrack from copy n:  j = n,     last = n - 1, struck: the pages of the present copy, whose mark is 0
-- cut of copy n - 1:      j = n - 1, last = n - 1, struck: the pages whose region that copy was the newest to have, whose mark is n - 1
-- kill of stamp s:        j = n,     last = n,     struck: the pages of that stamp
-- It goes in three passes: all cells, which read their page's link; all link words, which read the born mark of the next page; the links' marks.
use Rattle.std.specs.Prelude.{Bool, not, ◌&&◌, ℕ, ◌+◌, ◌-◌, ◌*◌, ◌/◌, ◌%◌, ◌^◌, min, eqb, get_or, set, if◌then◌else◌}
use Rattle.laws.specs.Loops.{run}
use Rattle.words.specs.Fields.{bits}
use Rattle.store.specs.declared.Which.{Which}
use Rattle.store.specs.declared.Which.TheVariants.{Marked, Stamped}
use Rattle.store.specs.Memory.{Memory, memory}

-- is a page struck, by its link word and its link's turned mark? A free page never is
abbrev pub struck_by : Which → ℕ → ℕ → Bool
struck_by (Marked t) w u = eqb u t
struck_by (Stamped s) w u = eqb (bits 28 32 w) s

abbrev pub struck : Which → ℕ → ℕ → Bool
struck which w u = not (eqb w 0) && struck_by which w u

-- ---- a cell, with its word, its born mark and its turned mark; s: its page is struck

abbrev pub cell_word_after : Bool → ℕ → ℕ → ℕ → ℕ → ℕ
cell_word_after s j w b u = if s && eqb b j then 0 else if s && eqb u j then 2 ^ 60 else w

abbrev pub cell_born_after : Bool → ℕ → ℕ → ℕ → ℕ
cell_born_after s j last b = if s && eqb b j then 0 else min b last

abbrev pub cell_turn_after : Bool → ℕ → ℕ → ℕ → ℕ → ℕ
cell_turn_after s j last b u = if s && eqb b j then 0 else if s && eqb u j then 0 else min u last

-- the cell at address a, if it is no link
unfoldable pub cell_after : Which → ℕ → ℕ → ℕ → Memory → Memory
cell_after which j last a m =
    let p : ℕ = a / 16 * 16 in
    let s : Bool = struck which (get_or m.heap p 0) (get_or m.turned p 0) in
    let w : ℕ = get_or m.heap a 0 in
    let b : ℕ = get_or m.born a 0 in
    let u : ℕ = get_or m.turned a 0 in
    if eqb (a % 16) 0 then m
    else memory (set m.heap a (cell_word_after s j w b u)) (set m.born a (cell_born_after s j last b)) (set m.turned a (cell_turn_after s j last b u))

-- ---- the link word of page p: the page goes, or it loses a next page that goes; next is that page's born mark

abbrev pub link_word_after : Bool → ℕ → ℕ → ℕ → ℕ → ℕ
link_word_after s j w b next =
    if s && eqb b j then 0 else if s && eqb (bits 27 1 w) 1 && eqb next j then w - w % 2 ^ 28 else w

unfoldable pub link_after : Which → ℕ → ℕ → Memory → Memory
link_after which j p m =
    let w : ℕ = get_or m.heap (p * 16) 0 in
    let next : ℕ = get_or m.born (bits 19 8 w * 16) 0 in
    memory (set m.heap (p * 16) (link_word_after (struck which w (get_or m.turned (p * 16) 0)) j w (get_or m.born (p * 16) 0) next)) m.born m.turned

-- ---- the marks of page p's link, by its new word w

-- a region whose newest copy is the present one has the mark 0
abbrev pub gone_after : ℕ → ℕ → ℕ
gone_after last u = if eqb u last then 0 else u

abbrev pub link_born_after : ℕ → ℕ → ℕ → ℕ
link_born_after last w b = if eqb w 0 then 0 else min b last

abbrev pub link_turn_after : Bool → ℕ → ℕ → ℕ → ℕ → ℕ
link_turn_after s j last w u = if eqb w 0 then 0 else gone_after last (if s then j - 1 else u)

unfoldable pub mark_after : Which → ℕ → ℕ → ℕ → Memory → Memory
mark_after which j last p m =
    let w : ℕ = get_or m.heap (p * 16) 0 in
    let u : ℕ = get_or m.turned (p * 16) 0 in
    memory m.heap (set m.born (p * 16) (link_born_after last w (get_or m.born (p * 16) 0)))
    (set m.turned (p * 16) (link_turn_after (struck which w u) j last w u))

-- ---- the three passes, over the pages from `first` on

unfoldable pub cells_after : ℕ → ℕ → Which → ℕ → ℕ → Memory → Memory
cells_after first pages which j last = run (λ i. cell_after which j last (first * 16 + i)) (pages * 16)

unfoldable pub links_after : ℕ → ℕ → Which → ℕ → Memory → Memory
links_after first pages which j = run (λ i. link_after which j (first + i)) pages

unfoldable pub marks_after : ℕ → ℕ → Which → ℕ → ℕ → Memory → Memory
marks_after first pages which j last = run (λ i. mark_after which j last (first + i)) pages

unfoldable pub undone : ℕ → ℕ → Which → ℕ → ℕ → Memory → Memory
undone first pages which j last m = marks_after first pages which j last (links_after first pages which j (cells_after first pages which j last m))
