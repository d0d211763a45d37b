-- In which copies a region is live, and what a reference names in them, read off the marks. A reference is looked at for all copies at once:
-- those of a range that have it.
use Rattle.std.specs.Prelude.{Bool, not, ◌&&◌, ◌||◌, List, ℕ, ◌+◌, ◌*◌, ◌/◌, ◌%◌, ◌^◌, eqb, ltb, leb, get_or, if◌then◌else◌}
use Rattle.std.specs.List.{list_any, range_with_len}
use Rattle.words.specs.declared.Ref.{Ref}
use Rattle.store.specs.Pages.{of_stamp}
use Rattle.audit.specs.declared.CopyRange.{CopyRange}
use Rattle.audit.specs.Session.{Session}

-- ---- numbers

-- stamps from 1 and below the next stamp
abbrev pub stamp_in : ℕ → ℕ → Bool
stamp_in next stamp = ltb 0 stamp && ltb stamp next

-- a page of the machine
abbrev pub page_in : ℕ → ℕ → ℕ → Bool
page_in first pages p = leb first p && ltb p (first + pages)

-- an address names a page of the machine and a word 1 to 15
abbrev pub address_in : ℕ → ℕ → ℕ → Bool
address_in first pages a = page_in first pages (a / 16) && ltb 0 (a % 16)

abbrev pub ref_in : Session → Ref → Bool
ref_in s r = stamp_in s.next r.stamp && address_in s.first s.pages r.address

-- ---- regions

-- the newest copy that has the region of a held page: the present copy where the link's mark is 0
unfoldable pub newest_copy : Session → ℕ → ℕ
newest_copy s p = if eqb (get_or s.turned (p * 16) 0) 0 then s.present else get_or s.turned (p * 16) 0

-- the first of the copies from `since` on in which page p is its region's
unfoldable pub since_at : Session → ℕ → ℕ → ℕ
since_at s since p = if ltb (get_or s.born (p * 16) 0) since then since else get_or s.born (p * 16) 0

-- by page p, the region of a stamp is in a copy of the range that comes before copy `bound`
unfoldable pub seen_at : Session → ℕ → CopyRange → ℕ → ℕ → Bool
seen_at s stamp range bound p =
    of_stamp s.heap stamp p
    && ltb (since_at s range.since p) bound
    && leb (since_at s range.since p) range.upto
    && leb (since_at s range.since p) (newest_copy s p)

unfoldable pub seen_before : Session → ℕ → CopyRange → ℕ → Bool
seen_before s stamp range bound = list_any (seen_at s stamp range bound) (range_with_len s.first s.pages)

-- ---- references

-- no copy comes before this one
abbrev pub never : ℕ
never = 256

abbrev pub tag_at : List ℕ → ℕ → ℕ
tag_at h a = get_or h a 0 / 2 ^ 60

-- the word at address a has a tag from 1 to `last`
abbrev pub has_tag_up_to : ℕ → List ℕ → ℕ → Bool
has_tag_up_to last h a = leb 1 (tag_at h a) && leb (tag_at h a) last

-- the word at address a has a tag 1, 2, 3 or 4; it is a variable: tag 1 or 2
abbrev pub starts : List ℕ → ℕ → Bool
starts = has_tag_up_to 4

abbrev pub is_variable : List ℕ → ℕ → Bool
is_variable = has_tag_up_to 2

-- the copy from which on a reference names a filled word of tag 1 to 4 of its own region; `never` if it names none
unfoldable pub named_since : Session → Ref → ℕ
named_since s r = if of_stamp s.heap r.stamp (r.address / 16) && starts s.heap r.address then get_or s.born r.address 0 else never

-- no copy of the range that comes before copy `bound` has the region of a stamp
unfoldable pub absent_before : Session → ℕ → CopyRange → ℕ → Bool
absent_before s stamp range bound = leb bound range.since || not (seen_before s stamp range bound)

-- in each of the copies of the range: the region is not in the copy, or the reference names such a word there
unfoldable pub ref_ok : Session → Ref → CopyRange → Bool
ref_ok s r range = ref_in s r && absent_before s r.stamp range (named_since s r)

-- the larger stamp, at equal stamps the larger address: the variable at address a of a stamp against the reference r
unfoldable pub younger_than : ℕ → ℕ → Ref → Bool
younger_than stamp a r = if eqb stamp r.stamp then ltb r.address a else ltb r.stamp stamp

-- a variable that is bound to a live variable in one of the copies is the younger
unfoldable pub order_ok : Session → ℕ → ℕ → Ref → CopyRange → Bool
order_ok s stamp a r range = not (is_variable s.heap r.address) || younger_than stamp a r || absent_before s r.stamp range never
