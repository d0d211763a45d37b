-- Document 01, "The copy machine": regions, copies, the machine, held and free pages, and how a region grows.
use Rattle.std.specs.Prelude.{Bool, not, List, [], ◌∷◌, ◌++◌, map, ℕ, zero, suc, ◌+◌, ◌-◌, ◌*◌, ◌/◌, ◌%◌, leb, eqb, length, set, replicate, if◌then◌else◌, Option, Some, None, slice_get}
use Rattle.laws.specs.Base.{keep, some_of, from}
use Rattle.words.specs.declared.Ref.{Ref}
use Rattle.words.specs.declared.Cell.{Cell}
use Rattle.words.specs.declared.Register.{Register}
use Rattle.words.specs.declared.Register.TheVariants as Reg

-- ---- what a machine is

-- the pages that a machine may hold, from `first` on; how many slots and saved copies it may have; how many bits an address has
pub record Limits : Type 0 where
  pub first : ℕ
  pub pages : ℕ
  pub slots : ℕ
  pub choices : ℕ
  pub address : ℕ

-- the limits of document 01 over a heap of that many pages
abbrev pub document : ℕ → Limits
document pages = record { first = 0; pages = pages; slots = 64; choices = 32; address = 12 }

-- a page of a region: its number in the heap, and its filled words, from word 1 on; at most 15
pub record Page : Type 0 where
  pub number : ℕ
  pub words : List Cell

-- a region: its stamp, and its pages with its words, newest page first; there is at least one page
pub record Region : Type 0 where
  pub stamp : ℕ
  pub pages : List Page

-- a copy: 32 registers and the live regions, in the order of their stamps
pub record Copy : Type 0 where
  pub registers : List Register
  pub regions : List Region

-- one present copy, the saved copies (newest first), and the next stamp, which stands outside the copies
pub record Machine : Type 0 where
  pub limits : Limits
  pub present : Copy
  pub saved : List Copy
  pub next : ℕ

-- all copies, newest first: the present one is newest of all
abbrev pub copies : Machine → List Copy
copies m = m.present ∷ m.saved

-- the same machine with other copies
abbrev pub with_copies : Machine → Copy → List Copy → Machine
with_copies m c cs = record { limits = m.limits; present = c; saved = cs; next = m.next }

-- the copy that has no region and empty registers
abbrev pub bare : Copy
bare = record { registers = replicate 32 Reg.Empty; regions = [] }

abbrev pub opening : Limits → ℕ → Machine
opening limits stamp = record { limits = limits; present = bare; saved = []; next = stamp }

-- ---- held and free

abbrev pub lists : ℕ → Region → Bool
lists p r = some_of (λ (q : Page). eqb q.number p) r.pages

-- a page is held if any copy's region lists it, otherwise free
unfoldable pub held : Machine → ℕ → Bool
held m p = some_of (λ (c : Copy). some_of (lists p) c.regions) (copies m)

-- the free pages, lowest first
unfoldable pub free : Machine → List ℕ
free m = keep (λ p. not (held m p)) (from m.limits.pages m.limits.first)

abbrev pub lowest : List ℕ → Option ℕ
lowest [] = None
lowest (p ∷ ps) = Some p

-- the region of that stamp
abbrev pub stamped : ℕ → Region → Bool
stamped s r = eqb r.stamp s

abbrev pub live : Copy → ℕ → Bool
live c s = some_of (stamped s) c.regions

-- each region that some copy has, as it is in the newest copy that has it
unfoldable pub shown : List Copy → List Region
shown [] = []
shown (c ∷ cs) = c.regions ++ keep (λ r. not (live c r.stamp)) (shown cs)

-- a stamp takes a slot while any copy has the region
abbrev pub slots : Machine → ℕ
slots m = length (shown (copies m))

-- ---- the words of a region

-- word i of a page: words 1 to 15 carry terms, word 0 is the link and no cell
unfoldable pub word : List Cell → ℕ → Option Cell
word ws zero = None
word ws (suc i) = slice_get ws i

-- the cell at an address, page x 16 + word, in a list of pages
unfoldable pub in_pages : List Page → ℕ → Option Cell
in_pages [] a = None
in_pages (p ∷ ps) a = if eqb p.number (a / 16) then word p.words (a % 16) else in_pages ps a

unfoldable pub in_regions : List Region → Ref → Option Cell
in_regions [] r = None
in_regions (g ∷ gs) r = if eqb g.stamp r.stamp then in_pages g.pages r.address else in_regions gs r

-- the cell that a reference names in a copy: none if the reference is dead
abbrev pub cell_at : Copy → Ref → Option Cell
cell_at c r = in_regions c.regions r

-- a copy with one cell changed
unfoldable pub set_page : Ref → Cell → Page → Page
set_page r w p =
    if eqb p.number (r.address / 16) then record { number = p.number; words = set p.words (r.address % 16 - 1) w } else p

unfoldable pub set_region : Ref → Cell → Region → Region
set_region r w g = if eqb g.stamp r.stamp then record { stamp = g.stamp; pages = map (set_page r w) g.pages } else g

unfoldable pub set_cell : Copy → Ref → Cell → Copy
set_cell c r w = record { registers = c.registers; regions = map (set_region r w) c.regions }

-- ---- how a region grows

-- the pages after a term was put, and the address of its first word
pub record Put : Type 0 where
  pub pages : List Page
  pub address : ℕ

-- a term starts the page that joins the list, if one is free
unfoldable pub on_new : Option ℕ → List Cell → List Page → Option Put
on_new None ws ps = None
on_new (Some n) ws ps = Some (record { pages = record { number = n; words = ws } ∷ ps; address = n * 16 + 1 })

-- a term goes after the last filled word of the newest page if it fits in the 15 words there; otherwise the lowest free page joins the list
unfoldable pub put : Option ℕ → List Cell → List Page → Option Put
put n ws [] = on_new n ws []
put n ws (p ∷ ps) =
    if leb (length p.words + length ws) 15 then Some (record {
      pages = record { number = p.number; words = p.words ++ ws } ∷ ps;
      address = p.number * 16 + suc (length p.words);
    }) else on_new n ws (p ∷ ps)
