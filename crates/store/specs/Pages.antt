-- What the link words of a heap tell: free pages, slots, a region's newest page and its fill, live references.
-- The pages are those of the machine, `pages` of them from `first` on.
use Rattle.std.specs.Prelude.{Bool, not, ◌&&◌, List, ℕ, ◌+◌, ◌*◌, ◌/◌, ◌^◌, eqb, get_or, Option, Some, None, unwrap_or, if◌then◌else◌}
use Rattle.laws.specs.Base.{on_some}
use Rattle.laws.specs.Loops.{seek, tally}
use Rattle.words.specs.declared.Ref.{Ref}
use Rattle.words.specs.Fields.{bits}
use Rattle.words.specs.Words.{link_word}

-- word 0 of a page
abbrev pub link : List ℕ → ℕ → ℕ
link h p = get_or h (p * 16) 0

-- this is that word
abbrev pub has_link : List ℕ → ℕ → ℕ → Bool
has_link h w p = eqb (link h p) w

-- a page that no copy holds: its link word is 0
abbrev pub is_free : List ℕ → ℕ → Bool
is_free h p = eqb (link h p) 0

unfoldable pub lowest_free : ℕ → ℕ → List ℕ → Option ℕ
lowest_free first pages h = seek (is_free h) pages first

unfoldable pub free_count : ℕ → ℕ → List ℕ → ℕ
free_count first pages h = tally (is_free h) pages first

-- the newest page of a region: a link word without a next page. There is one for each slot
abbrev pub is_last : ℕ → Bool
is_last w = not (eqb w 0) && not (eqb (bits 27 1 w) 1)

unfoldable pub slot_count : ℕ → ℕ → List ℕ → ℕ
slot_count first pages h = tally (λ p. is_last (link h p)) pages first

-- the newest page of the region of a stamp: exactly this link word
abbrev pub is_newest : List ℕ → ℕ → ℕ → Bool
is_newest h s p = eqb (link h p) (link_word 12 s None)

unfoldable pub newest_page : ℕ → ℕ → List ℕ → ℕ → Option ℕ
newest_page first pages h s = seek (is_newest h s) pages first

-- how many words of a page are filled, from word 1 on
unfoldable pub fill : List ℕ → ℕ → ℕ
fill h p = unwrap_or (seek (λ i. eqb (get_or h (p * 16 + 1 + i) 0) 0) 15 0) 15

-- page p is a page of the region of stamp s, tag and stamp compared at once
abbrev pub of_stamp : List ℕ → ℕ → ℕ → Bool
of_stamp h s p = eqb (link h p / 2 ^ 28) (6 * 2 ^ 32 + s)

-- and the region is in the present copy: its mark is 0
unfoldable pub page_of : List ℕ → List ℕ → ℕ → ℕ → Bool
page_of h u p s = of_stamp h s p && eqb (get_or u (p * 16) 0) 0

-- a reference is live if the page that it names is such a page of its stamp
unfoldable pub live_ref : List ℕ → List ℕ → Ref → Bool
live_ref h u r = page_of h u (r.address / 16) r.stamp

-- the newest page of the region of a stamp, if the present copy has the region
unfoldable pub live_page : ℕ → ℕ → List ℕ → List ℕ → ℕ → Option ℕ
live_page first pages h u s = on_some (newest_page first pages h s) (λ p. if eqb (get_or u (p * 16) 0) 0 then Some p else None) None
