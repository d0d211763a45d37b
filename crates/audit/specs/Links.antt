-- The pages: a free page is empty with its marks; the pages of a stamp are one chain from its first page to its newest.
use Rattle.std.specs.Prelude.{Bool, true, false, not, ◌&&◌, ◌||◌, List, ℕ, zero, suc, ◌+◌, ◌*◌, eqb, ltb, leb, get_or, Option, Some, None, if◌then◌else◌}
use Rattle.laws.specs.Base.{on_some}
use Rattle.laws.specs.Loops.{seek}
use Rattle.words.specs.declared.Link.{Link}
use Rattle.words.specs.declared.Word.{Word}
use Rattle.words.specs.Words.{next_of, unpack_heap}
use Rattle.store.specs.Pages.{link, newest_page, of_stamp}
use Rattle.audit.specs.declared.Home.{Home}
use Rattle.audit.specs.Session.{Session}
use Rattle.audit.specs.Live.{stamp_in, page_in, newest_copy}
use Rattle.audit.specs.Cells.{all_blank, cells_ok}

-- the page that was sought is this one
abbrev pub is_at : Option ℕ → ℕ → Bool
is_at (Some q) p = eqb q p
is_at None p = false

-- the page that the link of page p names as the next, if it names one
abbrev pub next_page : List ℕ → ℕ → Option ℕ
next_page h p = next_of 12 (link h p)

-- page q is the next page of page p
abbrev pub names_next : List ℕ → ℕ → ℕ → Bool
names_next h q p = is_at (next_page h p) q

-- from page p the links lead to a last page, over fewer than k links
unfoldable pub ends_in : List ℕ → ℕ → ℕ → Bool
ends_in h zero p = false
ends_in h (suc k) p = on_some (next_page h p) (λ q. ends_in h k q) true

-- the marks of a held page's link, where n is the present copy: the copies that have the page are in order, and a region that is gone is in an older copy
abbrev pub gone_ok : ℕ → ℕ → ℕ → Bool
gone_ok n born turned = eqb turned 0 || (leb born turned && ltb turned n)

abbrev pub span_ok : Session → ℕ → Bool
span_ok s p =
    not (eqb (get_or s.born (p * 16) 0) 0)
    && leb (get_or s.born (p * 16) 0) s.present
    && gone_ok s.present (get_or s.born (p * 16) 0) (get_or s.turned (p * 16) 0)

-- page p is held by a region of a stamp
abbrev pub region_ok : Session → ℕ → ℕ → Bool
region_ok s stamp p = stamp_in s.next stamp && span_ok s p

-- the marks of a page and of its next page, and the mark of the next page's first word: the same copies have both from when the next one joined on, and it
-- joined with a term
abbrev pub marks_ok : Session → ℕ → ℕ → Bool
marks_ok s p q =
    eqb (get_or s.turned (q * 16) 0) (get_or s.turned (p * 16) 0)
    && leb (get_or s.born (p * 16) 0) (get_or s.born (q * 16) 0)
    && eqb (get_or s.born (q * 16 + 1) 0) (get_or s.born (q * 16) 0)

-- the one page whose next page is q is p, and the links from there on come to an end
unfoldable pub chain_ok : Session → ℕ → ℕ → Bool
chain_ok s p q = is_at (seek (names_next s.heap q) s.pages s.first) p && ends_in s.heap (s.pages + 1) p

-- page q is the next page of page p: of the same region, in the same copies from when it joined on, never empty, the next page of no other
unfoldable pub follows_ok : Session → ℕ → ℕ → ℕ → Bool
follows_ok s stamp p q = page_in s.first s.pages q && of_stamp s.heap stamp q && marks_ok s p q && chain_ok s p q

-- the last page of its region
unfoldable pub last_ok : Session → ℕ → ℕ → Bool
last_ok s stamp p = region_ok s stamp p && is_at (newest_page s.first s.pages s.heap stamp) p

-- it has a next page
unfoldable pub joined_ok : Session → ℕ → ℕ → ℕ → Bool
joined_ok s stamp p q = region_ok s stamp p && follows_ok s stamp p q

unfoldable pub link_ok : Session → Link → ℕ → Bool
link_ok s l p = on_some l.next (λ q. joined_ok s l.stamp p q) (last_ok s l.stamp p)

-- what is known of the cells of page p
unfoldable pub home_of : Session → Link → ℕ → Home
home_of s l p =
    record { stamp = l.stamp; newest = newest_copy s p; full = on_some l.next (λ q. get_or s.born (q * 16) 0) (newest_copy s p) }

-- a held page with its cells
unfoldable pub linked_ok : Session → Link → ℕ → Bool
linked_ok s l p = link_ok s l p && cells_ok s (home_of s l p) 15 (p * 16 + 1) (record { more = 0; last = get_or s.born (p * 16) 0 })

unfoldable pub held_ok : Session → Word → ℕ → Bool
held_ok s Word.Empty p = false
held_ok s (Word.Filled c) p = false
held_ok s (Word.Linked l) p = linked_ok s l p
held_ok s Word.Broken p = false

unfoldable pub page_ok : Session → ℕ → Bool
page_ok s p = if eqb (link s.heap p) 0 then all_blank s 16 (p * 16) else held_ok s (unpack_heap 12 (link s.heap p)) p
