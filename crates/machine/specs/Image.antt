-- Document 01, "Heap image": each held region appears with its words in the newest copy that has it, its link words follow that
-- copy's list, and all else in the heap is zero.
use Rattle.std.specs.Prelude.{List, [], ◌∷◌, ◌++◌, map, ℕ, ◌-◌, eqb, length, replicate, if◌then◌else◌, Option, Some, None}
use Rattle.laws.specs.Base.{from}
use Rattle.words.specs.Words.{cell_word, link_word}
use Rattle.machine.specs.Copies.{Page, Region, Machine, copies, shown}

-- the sixteen words of a page: the link, the filled words, zeros; k is the width of an address
unfoldable pub page_words : ℕ → ℕ → Option ℕ → Page → List ℕ
page_words k s next p = link_word k s next ∷ map (cell_word k) p.words ++ replicate (15 - length p.words) 0

-- page n, looked for in a region's pages; `next` is the page that joined the region after the list's first one
unfoldable pub in_chain : ℕ → ℕ → ℕ → Option ℕ → List Page → Option (List ℕ)
in_chain k n s next [] = None
in_chain k n s next (p ∷ ps) = if eqb p.number n then Some (page_words k s next p) else in_chain k n s (Some p.number) ps

unfoldable pub or_else : Option (List ℕ) → List ℕ → List ℕ
or_else None z = z
or_else (Some x) z = x

-- the sixteen words of page n
unfoldable pub page_image : ℕ → List Region → ℕ → List ℕ
page_image k [] n = replicate 16 0
page_image k (g ∷ gs) n = or_else (in_chain k n g.stamp None g.pages) (page_image k gs n)

unfoldable pub pages_image : ℕ → List Region → List ℕ → List ℕ
pages_image k gs [] = []
pages_image k gs (n ∷ ns) = page_image k gs n ++ pages_image k gs ns

-- the pages of the machine, in their order
unfoldable pub heap_image : Machine → List ℕ
heap_image m = pages_image m.limits.address (shown (copies m)) (from m.limits.pages m.limits.first)
