-- Document 01, "Words, most significant bit first": heap words, link words and register words, packed and unpacked.
-- k is the width of an address: 12 bits in document 01's edition. A next page then has k - 4 bits, since a page has 16 words.
use Rattle.std.specs.Prelude.{Bool, true, ◌&&◌, [], ◌∷◌, ℕ, ◌+◌, ◌-◌, ◌*◌, ◌^◌, leb, eqb, get_or, if◌then◌else◌, Some, None, Option}
use Rattle.words.specs.declared.Ref.{Ref}
use Rattle.words.specs.declared.Cell.{Cell}
use Rattle.words.specs.declared.Cell.TheVariants.{Unbound, Bound, Int, Head, Argument}
use Rattle.words.specs.declared.Link.{Link}
use Rattle.words.specs.declared.Word.{Word}
use Rattle.words.specs.declared.Register.{Register}
use Rattle.words.specs.declared.Register.TheVariants.{Empty, Region, Term}
use Rattle.words.specs.Fields.{bits, tagged, tag_of}
use Rattle.words.specs.Integers.{bits_of, int_of}

-- ---- packed

-- stamp 32 bits, address k bits, the bits after it zero
abbrev pub ref_bits : ℕ → Ref → ℕ
ref_bits k r = r.stamp * 2 ^ 28 + r.address * 2 ^ (28 - k)

unfoldable pub cell_word : ℕ → Cell → ℕ
cell_word k Unbound = tagged 1 0
cell_word k (Bound r) = tagged 2 (ref_bits k r)
cell_word k (Int v) = tagged 3 (bits_of v * 2 ^ 28)
cell_word k (Head f n) = tagged 4 (f * 2 ^ 44 + n * 2 ^ 40)
cell_word k (Argument r) = tagged 5 (ref_bits k r)

-- word 0 of a held page: the region's stamp, whether there is a next page, and which (0 if there is none)
unfoldable pub link_word : ℕ → ℕ → Option ℕ → ℕ
link_word k s None = tagged 6 (s * 2 ^ 28)
link_word k s (Some next) = tagged 6 (s * 2 ^ 28 + 2 ^ 27 + next * 2 ^ (31 - k))

unfoldable pub register_word : ℕ → Register → ℕ
register_word k Empty = 0
register_word k (Region s) = tagged 7 (s * 2 ^ 28)
register_word k (Term r) = tagged 8 (ref_bits k r)

-- what a heap word says, as a word
unfoldable pub heap_word : ℕ → Word → ℕ
heap_word k Word.Empty = 0
heap_word k (Word.Filled c) = cell_word k c
heap_word k (Word.Linked l) = link_word k l.stamp l.next
heap_word k Word.Broken = 0

-- ---- unpacked

abbrev pub stamp_of : ℕ → ℕ
stamp_of = bits 28 32

abbrev pub address_of : ℕ → ℕ → ℕ
address_of k = bits (28 - k) k

abbrev pub ref_of : ℕ → ℕ → Ref
ref_of k w = record { stamp = stamp_of w; address = address_of k w }

-- the next page that a link names: with has-next set, it is the region's
abbrev pub next_of : ℕ → ℕ → Option ℕ
next_of k w = if eqb (bits 27 1 w) 1 then Some (bits (31 - k) (k - 4) w) else None

abbrev pub link_of : ℕ → ℕ → Link
link_of k w = record { stamp = stamp_of w; next = next_of k w }

-- what the fields of a word say, by its tag
unfoldable pub heap_reading : ℕ → ℕ → Word
heap_reading k w =
    get_or (
    Word.Empty
    ∷ Word.Filled Unbound
    ∷ Word.Filled (Bound (ref_of k w))
    ∷ Word.Filled (Int (int_of (bits 28 32 w)))
    ∷ Word.Filled (Head (bits 44 16 w) (bits 40 4 w))
    ∷ Word.Filled (Argument (ref_of k w))
    ∷ Word.Linked (link_of k w)
    ∷ []
    ) (tag_of w) Word.Broken

-- an arity is 0 to 14
unfoldable pub well_formed : Word → Bool
well_formed Word.Empty = true
well_formed (Word.Filled Unbound) = true
well_formed (Word.Filled (Bound r)) = true
well_formed (Word.Filled (Int v)) = true
well_formed (Word.Filled (Head f n)) = leb n 14
well_formed (Word.Filled (Argument r)) = true
well_formed (Word.Linked l) = true
well_formed Word.Broken = true

-- what a heap word says: its fields must be the whole of it, so that bits not named are zero
unfoldable pub unpack_heap : ℕ → ℕ → Word
unpack_heap k w = if eqb (heap_word k (heap_reading k w)) w && well_formed (heap_reading k w) then heap_reading k w else Word.Broken

unfoldable pub register_reading : ℕ → ℕ → Register
register_reading k w = if eqb (tag_of w) 0 then Empty else if eqb (tag_of w) 7 then Region (stamp_of w) else Term (ref_of k w)

-- what a register word says, in the same way
unfoldable pub unpack_register : ℕ → ℕ → Option Register
unpack_register k w = if eqb (register_word k (register_reading k w)) w then Some (register_reading k w) else None
