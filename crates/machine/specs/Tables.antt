-- The tables' image: docs/LAYOUT.md in definitions. The machine determines every word.
-- Copies are numbered 1 to n from the oldest; the present copy is n; 0 is 'never'.
use Rattle.std.specs.Prelude.{Bool, not, List, [], ◌∷◌, ◌++◌, map, ℕ, suc, ◌-◌, ◌*◌, ◌/◌, ◌%◌, ◌^◌, eqb, length, get_or, replicate, if◌then◌else◌}
use Rattle.laws.specs.Search.{oldest, newest, tab}
use Rattle.words.specs.Fields.{tag_of}
use Rattle.words.specs.Words.{register_word}
use Rattle.machine.specs.Copies.{Region, Copy, Machine, copies, bare}
use Rattle.machine.specs.Image.{page_image, heap_image}

-- ---- tables: the next stamp, n, and a row of 32 register words for each copy, oldest first; unused rows are zero

unfoldable pub row : ℕ → Copy → List ℕ
row k c = map (register_word k) c.registers

-- the rows of copies that are given newest first
unfoldable pub rows : ℕ → List Copy → List ℕ
rows k [] = []
rows k (c ∷ cs) = rows k cs ++ row k c

unfoldable pub tables_image : Machine → List ℕ
tables_image m =
    m.next ∷ length (copies m) ∷ rows m.limits.address (copies m) ++ replicate ((m.limits.choices - length m.saved) * 32) 0

-- ---- marks: two for each word that an address can name

-- copy number c of copies that are given newest first
unfoldable pub numbered : List Copy → ℕ → Copy
numbered [] c = bare
numbered (x ∷ xs) c = if eqb c (suc (length xs)) then x else numbered xs c

-- the word at an address, in a list of regions
unfoldable pub word_at : ℕ → List Region → ℕ → ℕ
word_at k gs a = get_or (page_image k gs (a / 16)) (a % 16) 0

-- the word at an address in copy c
abbrev pub word_in : Machine → ℕ → ℕ → ℕ
word_in m a c = word_at m.limits.address (numbered (copies m) c).regions a

abbrev pub filled : ℕ → Bool
filled w = not (eqb w 0)

-- born: the oldest copy in which the word is filled (word 0 of a page: in which the page is the region's); 0 where it is zero in all
unfoldable pub born_mark : Machine → ℕ → ℕ
born_mark m a = oldest (λ c. filled (word_in m a c)) (length (copies m))

-- turned, for a cell: the oldest copy in which it is a bound variable, or 0
unfoldable pub cell_mark : Machine → ℕ → ℕ
cell_mark m a = oldest (λ c. eqb (tag_of (word_in m a c)) 2) (length (copies m))

-- turned, for word 0 of a page: 0 if the region is in the present copy or the page is free, else the newest saved copy that has it
unfoldable pub gone_mark : ℕ → ℕ → ℕ
gone_mark n l = if eqb l n then 0 else l

unfoldable pub link_mark : Machine → ℕ → ℕ
link_mark m a = gone_mark (length (copies m)) (newest (λ c. filled (word_in m a c)) (length (copies m)))

unfoldable pub turned_mark : Machine → ℕ → ℕ
turned_mark m a = if eqb (a % 16) 0 then link_mark m a else cell_mark m a

-- ---- all that is lent

pub record Lent : Type 0 where
  pub heap : List ℕ
  pub tables : List ℕ
  pub born : List ℕ
  pub turned : List ℕ

unfoldable pub image : Machine → Lent
image m =
    record {
      heap = heap_image m;
      tables = tables_image m;
      born = tab (2 ^ m.limits.address) (born_mark m);
      turned = tab (2 ^ m.limits.address) (turned_mark m);
    }
