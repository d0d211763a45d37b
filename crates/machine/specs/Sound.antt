-- Document 01, "Sound machine", clause by clause. What the copies' form rules out needs no line here: a fill has no gap, registers hold
-- tags 0, 7 and 8 only, link words follow the lists, bits not named are zero.
use Rattle.std.specs.Prelude.{◌≡◌, true, false, ℕ, zero, suc, ◌+◌, ◌*◌, ◌/◌, ◌%◌, ◌^◌, ◌≤◌, ◌<◌, length, Some}
use mathlib.Core.List.{List, [], ◌∷◌, ◌++◌, map, Memᴰ, Nodup}
use Rattle.laws.specs.Base.{Each, Pairs}
use Rattle.words.specs.declared.Ref.{Ref}
use Rattle.words.specs.declared.Cell.{Cell}
use Rattle.words.specs.declared.Cell.TheVariants.{Unbound, Bound, Int, Head, Argument}
use Rattle.words.specs.declared.Register.{Register}
use Rattle.words.specs.declared.Register.TheVariants as Reg
use Rattle.words.specs.Integers.{IntIn}
use Rattle.machine.specs.Copies.{Limits, document, Page, Region, Copy, Machine, copies, lists, live, slots, cell_at}
use Rattle.machine.specs.Unify.{younger}

-- ---- numbers

-- stamps from 1 and below the next stamp
abbrev pub StampIn : ℕ → ℕ → Type 0
StampIn next s = (1 ≤ s) × (s < next)

-- a page of the machine
abbrev pub PageIn : Limits → ℕ → Type 0
PageIn l p = (l.first ≤ p) × (p < l.first + l.pages)

-- addresses name a page of the machine and a word 1 to 15
pub record RefIn (l : Limits) (next : ℕ) (r : Ref) : Type 0 where
  pub stamp : StampIn next r.stamp
  pub page : PageIn l (r.address / 16)
  pub word : 1 ≤ r.address % 16

unfoldable pub CellIn : Limits → ℕ → Cell → Type 0
CellIn l next Unbound = Unit {0}
CellIn l next (Bound r) = RefIn l next r
CellIn l next (Int v) = IntIn v
CellIn l next (Head f n) = (f < 2 ^ 16) × (n ≤ 14)
CellIn l next (Argument r) = RefIn l next r

unfoldable pub RegisterIn : Limits → ℕ → Register → Type 0
RegisterIn l next Reg.Empty = Unit {0}
RegisterIn l next (Reg.Region s) = StampIn next s
RegisterIn l next (Reg.Term r) = RefIn l next r

-- ---- pages and regions

-- whole terms, with `more` arguments still to come
unfoldable pub Whole : ℕ → List Cell → Type 0
Whole zero [] = Unit {0}
Whole (suc more) [] = ⊥
Whole zero (Unbound ∷ ws) = Whole zero ws
Whole (suc more) (Unbound ∷ ws) = ⊥
Whole zero (Bound r ∷ ws) = Whole zero ws
Whole (suc more) (Bound r ∷ ws) = ⊥
Whole zero (Int v ∷ ws) = Whole zero ws
Whole (suc more) (Int v ∷ ws) = ⊥
Whole zero (Head f n ∷ ws) = Whole n ws
Whole (suc more) (Head f n ∷ ws) = ⊥
Whole zero (Argument r ∷ ws) = ⊥
Whole (suc more) (Argument r ∷ ws) = Whole more ws

pub record PageOk (l : Limits) (next : ℕ) (p : Page) : Type 0 where
  pub number : PageIn l p.number
  pub fill : length p.words ≤ 15
  pub whole : Whole 0 p.words
  pub cells : Each (CellIn l next) p.words

-- there is a page, and none but the first, which is the last of the list, is empty
unfoldable pub Filled : List Page → Type 0
Filled [] = ⊥
Filled (p ∷ []) = Unit {0}
Filled (p ∷ q ∷ ps) = (1 ≤ length p.words) × Filled (q ∷ ps)

pub record RegionOk (l : Limits) (next : ℕ) (g : Region) : Type 0 where
  pub stamp : StampIn next g.stamp
  pub filled : Filled g.pages
  pub pages : Each (PageOk l next) g.pages
  pub no_page_twice : Nodup (map (λ (p : Page). p.number) g.pages)

-- ---- references

-- a word of tag 1, 2, 3 or 4
unfoldable pub Starts : Cell → Type 0
Starts Unbound = Unit {0}
Starts (Bound r) = Unit {0}
Starts (Int v) = Unit {0}
Starts (Head f n) = Unit {0}
Starts (Argument r) = ⊥

unfoldable pub IsVariable : Cell → Type 0
IsVariable Unbound = Unit {0}
IsVariable (Bound r) = Unit {0}
IsVariable (Int v) = ⊥
IsVariable (Head f n) = ⊥
IsVariable (Argument r) = ⊥

-- a reference whose region is in the copy names a filled word of tag 1, 2, 3 or 4 there
unfoldable pub Names : Copy → Ref → Type 0
Names c r = live c r.stamp ≡ true → (w : Cell) × (cell_at c r ≡ Some w) × Starts w

-- what the cell w at r refers to; a variable bound to a live variable is the younger
unfoldable pub CellNames : Copy → Ref → Cell → Type 0
unfolding Names
CellNames c r Unbound = Unit {0}
CellNames c r (Bound s) = Names c s × ((w : Cell) → cell_at c s ≡ Some w → IsVariable w → younger r s ≡ true)
CellNames c r (Int v) = Unit {0}
CellNames c r (Head f n) = Unit {0}
CellNames c r (Argument s) = Names c s

unfoldable pub RegisterNames : Copy → Register → Type 0
unfolding Names
RegisterNames c Reg.Empty = Unit {0}
RegisterNames c (Reg.Region s) = Unit {0}
RegisterNames c (Reg.Term r) = Names c r

-- ---- one copy

pub record CopyOk (l : Limits) (next : ℕ) (c : Copy) : Type 0 where
  pub registers : length c.registers ≡ 32
  pub registers_in : Each (RegisterIn l next) c.registers
  pub registers_name : Each (RegisterNames c) c.registers
  pub regions : Each (RegionOk l next) c.regions
  pub in_order : Pairs (λ (g h : Region). g.stamp < h.stamp) c.regions
  pub cells_name : (r : Ref) (w : Cell) → cell_at c r ≡ Some w → CellNames c r w

-- ---- from an older copy to a newer one

-- an unbound variable only becomes bound, and other words stay
unfoldable pub Later : Cell → Cell → Type 0
Later Unbound new = IsVariable new
Later (Bound r) new = new ≡ Bound r
Later (Int v) new = new ≡ Int v
Later (Head f n) new = new ≡ Head f n
Later (Argument r) new = new ≡ Argument r

-- the old words stand at the front of the new ones
unfoldable pub Grown : List Cell → List Cell → Type 0
Grown [] new = Unit {0}
Grown (w ∷ ws) [] = ⊥
Grown (w ∷ ws) (v ∷ vs) = Later w v × Grown ws vs

-- the same pages, none of them longer
unfoldable pub SamePages : List Page → List Page → Type 0
SamePages [] [] = Unit {0}
SamePages [] (q ∷ qs) = ⊥
SamePages (p ∷ ps) [] = ⊥
SamePages (p ∷ ps) (q ∷ qs) = (p.number ≡ q.number) × (length p.words ≡ length q.words) × Grown p.words q.words × SamePages ps qs

-- the same pages, the newest of which may have grown
unfoldable pub TopGrown : List Page → List Page → Type 0
TopGrown [] qs = ⊥
TopGrown (p ∷ ps) [] = ⊥
TopGrown (p ∷ ps) (q ∷ qs) = (p.number ≡ q.number) × Grown p.words q.words × SamePages ps qs

-- a region only grows at its newer end
pub record RegionGrown (old new : Region) : Type 0 where
  pub joined : List Page
  pub since : List Page
  pub split : new.pages ≡ joined ++ since
  pub grown : TopGrown old.pages since

-- each region that both copies have has only grown
unfoldable pub CopyGrown : Copy → Copy → Type 0
CopyGrown new old =
    (g h : Region) → Memᴰ g new.regions → Memᴰ h old.regions → g.stamp ≡ h.stamp → RegionGrown h g

-- a page that two copies list is the same region's
unfoldable pub PagesApart : Copy → Copy → Type 0
PagesApart c d = (g h : Region) (p : ℕ) → Memᴰ g c.regions → Memᴰ h d.regions → lists p g ≡ true → lists p h ≡ true → g.stamp ≡ h.stamp

-- a stamp absent from one copy but present in an older one is absent from all newer ones
unfoldable pub NoReturn : List Copy → Type 0
NoReturn [] = Unit {0}
NoReturn (c ∷ cs) = Pairs (λ (mid old : Copy). (s : ℕ) → live old s ≡ true → live mid s ≡ false → live c s ≡ false) cs × NoReturn cs

-- ---- the machine

-- limits that words can hold: there is a page, and an address of so many bits names each word of the pages
pub record LimitsOk (l : Limits) : Type 0 where
  pub pages : 1 ≤ l.pages
  pub least : 4 ≤ l.address
  pub most : l.address ≤ 16
  pub named : (l.first + l.pages) * 16 ≤ 2 ^ l.address

pub record Sound (m : Machine) : Type 0 where
  pub limits : LimitsOk m.limits
  pub choices : length m.saved ≤ m.limits.choices
  pub slots : slots m ≤ m.limits.slots
  pub next : (1 ≤ m.next) × (m.next < 2 ^ 32)
  pub each : Each (CopyOk m.limits m.next) (copies m)
  pub apart : (c d : Copy) → Memᴰ c (copies m) → Memᴰ d (copies m) → PagesApart c d
  pub grows : Pairs CopyGrown (copies m)
  pub no_return : NoReturn (copies m)

-- a sound machine with the limits of document 01: 1 to 256 pages, 64 slots, 32 saved copies, addresses of 12 bits
pub record SoundSession (m : Machine) : Type 0 where
  pub sound : Sound m
  pub limits : m.limits ≡ document m.limits.pages
