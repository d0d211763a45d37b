-- The words that turn while their region lives: an unbound variable becomes a bound one, a link gains a next page.
use Rattle.std.specs.Prelude.{Bool, not, ℕ, ◌-◌, ◌*◌, ◌/◌, ◌%◌, ◌^◌, eqb, if◌then◌else◌}
use Rattle.words.specs.Fields.{bits, tag_of}

abbrev pub filled : ℕ → Bool
filled w = not (eqb w 0)

-- a bound variable, or a link with a next page
unfoldable pub turned : ℕ → Bool
turned w = if eqb (tag_of w) 6 then eqb (bits 27 1 w) 1 else eqb (tag_of w) 2

-- what such a word was before: the link with no next page, the unbound variable
unfoldable pub old : ℕ → ℕ
old w = if eqb (tag_of w) 6 then w - w % 2 ^ 28 else 2 ^ 60

-- the address of the link of the page that an address is in
abbrev pub link_address : ℕ → ℕ
link_address a = a / 16 * 16

-- the address of the link of the page that a link names; k is the width of an address
abbrev pub next_address : ℕ → ℕ → ℕ
next_address k w = bits (31 - k) (k - 4) w * 16
