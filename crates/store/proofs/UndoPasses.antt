-- What each pass of the undo leaves at an address, said of the memory that it was given: a cell, a link word, a link's marks. All else stays, and so do the lengths.
use Rattle.std.specs.Prelude.{if◌then◌else◌}
use mathlib.Core.Bool.{Bool, false}
use mathlib.Core.List.{List}
use mathlib.Core.Logic.{◌⊎◌, inl, inr}
use mathlib.Core.Path.{◌≡◌, refl, ap, subst, ◌∙◌}
use Prim.Native.Nat.{ℕ, ◌+◌, ◌-◌, ◌*◌, ◌/◌, ◌%◌, ◌<◌, ◌≤◌}
use lib.Dec.{eqb}
use lib.ListN.{length, get_or, set}
use borrow.Author.Tests.{ne_eqb}
use Rattle.laws.specs.Loops.{run}
use Rattle.laws.proofs.Stores.{Stores, run_keeps, stores_length, stores_elsewhere, stores_before, stores_there}
use Rattle.laws.proofs.Tests.{tests}
use Rattle.words.specs.Fields.{bits}
use Rattle.store.specs.declared.Which.{Which}
use Rattle.store.specs.Memory.{Memory, memory}
use Rattle.store.specs.Undo.{struck, cell_word_after, cell_born_after, cell_turn_after, cell_after, link_word_after, link_after, link_born_after, link_turn_after, mark_after, cells_after, links_after, marks_after}
use Rattle.laws.proofs.Conditions.{if_map}

abbrev pub heap_at : Memory → ℕ → ℕ
heap_at x a = get_or x.heap a 0

abbrev pub born_at : Memory → ℕ → ℕ
born_at x a = get_or x.born a 0

abbrev pub turned_at : Memory → ℕ → ℕ
turned_at x a = get_or x.turned a 0

-- the page is struck whose link is at address p
abbrev pub struck_at : Which → Memory → ℕ → Bool
struck_at which x p = struck which (heap_at x p) (turned_at x p)

-- ---- what is said: y is the memory after, x the memory before

pub record SameLengths (x y : Memory) : Type 0 where
  pub heap : length y.heap ≡ length x.heap
  pub born : length y.born ≡ length x.born
  pub turned : length y.turned ≡ length x.turned

pub record SameAt (a : ℕ) (x y : Memory) : Type 0 where
  pub heap : heap_at y a ≡ heap_at x a
  pub born : born_at y a ≡ born_at x a
  pub turned : turned_at y a ≡ turned_at x a

pub record CellAt (which : Which) (j last a : ℕ) (x y : Memory) : Type 0 where
  pub heap : a < length x.heap → heap_at y a ≡ cell_word_after (struck_at which x (a / 16 * 16)) j (heap_at x a) (born_at x a) (turned_at x a)
  pub born : a < length x.born → born_at y a ≡ cell_born_after (struck_at which x (a / 16 * 16)) j last (born_at x a)
  pub turned : a < length x.turned → turned_at y a ≡ cell_turn_after (struck_at which x (a / 16 * 16)) j last (born_at x a) (turned_at x a)

-- the link word at address a
pub record LinkAt (which : Which) (j a : ℕ) (x y : Memory) : Type 0 where
  pub heap : a < length x.heap →
      heap_at y a ≡ link_word_after (struck_at which x a) j (heap_at x a) (born_at x a) (born_at x (bits 19 8 (heap_at x a) * 16))

-- its marks
pub record MarksAt (which : Which) (j last a : ℕ) (x y : Memory) : Type 0 where
  pub born : a < length x.born → born_at y a ≡ link_born_after last (heap_at x a) (born_at x a)
  pub turned : a < length x.turned → turned_at y a ≡ link_turn_after (struck_at which x a) j last (heap_at x a) (turned_at x a)

-- ---- the cells

module _ (first pages j last : ℕ) (which : Which) (m : Memory) where
  -- turn i, its address, and whether that is a link's
  abbrev cell_of : ℕ → ℕ
  cell_of i = first * 16 + i

  abbrev turn : ℕ → Memory → Memory
  turn i = cell_after which j last (cell_of i)

  abbrev no_cell : ℕ → Bool
  no_cell i = eqb (cell_of i % 16) 0

  -- what it stores to each list
  abbrev word_at : ℕ → Memory → ℕ
  word_at a x = cell_word_after (struck_at which x (a / 16 * 16)) j (heap_at x a) (born_at x a) (turned_at x a)

  abbrev born_mark_at : ℕ → Memory → ℕ
  born_mark_at a x = cell_born_after (struck_at which x (a / 16 * 16)) j last (born_at x a)

  abbrev turn_mark_at : ℕ → Memory → ℕ
  turn_mark_at a x = cell_turn_after (struck_at which x (a / 16 * 16)) j last (born_at x a) (turned_at x a)

  cell_stores : (g : Memory → List ℕ) (v : ℕ → Memory → ℕ) →
      ((i : ℕ) (x : Memory) →
      g (memory (set x.heap (cell_of i) (word_at (cell_of i) x)) (set x.born (cell_of i) (born_mark_at (cell_of i) x)) (set x.turned (cell_of i) (turn_mark_at (cell_of i) x)))
      ≡ set (g x) (cell_of i) (v (cell_of i) x)) →
      Stores g turn cell_of no_cell (λ i. v (cell_of i))
  unfolding cell_after
  cell_stores g v h = record { apart = λ i n e. omega tests; turn = λ i x. if_map g (no_cell i) x _ ∙ ap (λ (l : List ℕ). if no_cell i then g x else l) (h i x) }

  words : Stores (λ x. x.heap) turn cell_of no_cell (λ i. word_at (cell_of i))
  words = cell_stores (λ x. x.heap) word_at (λ i x. refl)

  borns : Stores (λ x. x.born) turn cell_of no_cell (λ i. born_mark_at (cell_of i))
  borns = cell_stores (λ x. x.born) born_mark_at (λ i x. refl)

  turneds : Stores (λ x. x.turned) turn cell_of no_cell (λ i. turn_mark_at (cell_of i))
  turneds = cell_stores (λ x. x.turned) turn_mark_at (λ i x. refl)

  -- what no turn has come to, or what is no cell
  untouched : (k a : ℕ) → ((n : ℕ) → n < k → no_cell n ≡ false → cell_of n ≡ a → ⊥) → SameAt a m (run turn k m)
  untouched k a h =
      record {
        heap = stores_elsewhere (λ x. x.heap) turn cell_of no_cell _ words k m a h;
        born = stores_elsewhere (λ x. x.born) turn cell_of no_cell _ borns k m a h;
        turned = stores_elsewhere (λ x. x.turned) turn cell_of no_cell _ turneds k m a h;
      }

  -- so turn i reads what was there at the start
  module _ (i : ℕ) where
    link : SameAt (cell_of i / 16 * 16) m (run turn i m)
    link = untouched i (cell_of i / 16 * 16) (λ n h e q. omega tests)

    cell : SameAt (cell_of i) m (run turn i m)
    cell = untouched i (cell_of i) (λ n h e q. omega tests)

    turned_at_lem : i < pages * 16 → no_cell i ≡ false → CellAt which j last (cell_of i) m (run turn (pages * 16) m)
    turned_at_lem h e =
        record {
          heap = λ b. stores_there (λ x. x.heap) turn cell_of no_cell _ words (pages * 16) m i h e b ∙ rw (link.heap, link.turned, cell.heap, cell.born, cell.turned);
          born = λ b. stores_there (λ x. x.born) turn cell_of no_cell _ borns (pages * 16) m i h e b ∙ rw (link.heap, link.turned, cell.born);
          turned = λ b. stores_there (λ x. x.turned) turn cell_of no_cell _ turneds (pages * 16) m i h e b ∙ rw (link.heap, link.turned, cell.born, cell.turned);
        }

  pub cells_lengths : SameLengths m (cells_after first pages which j last m)
  unfolding cells_after
  cells_lengths =
      record {
        heap = stores_length (λ x. x.heap) turn cell_of no_cell _ words (pages * 16) m;
        born = stores_length (λ x. x.born) turn cell_of no_cell _ borns (pages * 16) m;
        turned = stores_length (λ x. x.turned) turn cell_of no_cell _ turneds (pages * 16) m;
      }

  pub cells_at : (a : ℕ) → first * 16 ≤ a → a < (first + pages) * 16 → (a % 16 ≡ 0 → ⊥) → CellAt which j last a m (cells_after first pages which j last m)
  unfolding cells_after
  cells_at a l h n =
      let e : first * 16 + (a - first * 16) ≡ a = omega tests in
      subst (λ (b : ℕ). CellAt which j last b m (run turn (pages * 16) m)) e
      (turned_at_lem (a - first * 16) (omega tests) (ne_eqb (cell_of (a - first * 16) % 16) 0 (λ q. n (rw e at q))))

  pub cells_elsewhere : (a : ℕ) → (a % 16 ≡ 0) ⊎ (a < first * 16) ⊎ ((first + pages) * 16 ≤ a) → SameAt a m (cells_after first pages which j last m)
  unfolding cells_after
  cells_elsewhere a (inl z) = untouched (pages * 16) a (λ n h e q. omega tests)
  cells_elsewhere a (inr (inl z)) = untouched (pages * 16) a (λ n h e q. omega tests)
  cells_elsewhere a (inr (inr z)) = untouched (pages * 16) a (λ n h e q. omega tests)

-- ---- the link words

abbrev never : ℕ → Bool
never i = false

-- an address that is no link of these pages
abbrev pub NoLink : ℕ → ℕ → ℕ → Type 0
NoLink first pages a = (a % 16 ≡ 0 → ⊥) ⊎ (a < first * 16) ⊎ ((first + pages) * 16 ≤ a)

no_link : (first pages a n : ℕ) → n < pages → (first + n) * 16 ≡ a → NoLink first pages a → ⊥
no_link first pages a n h q (inl z) = z (omega tests)
no_link first pages a n h q (inr (inl z)) = omega tests
no_link first pages a n h q (inr (inr z)) = omega tests

module _ (first pages j : ℕ) (which : Which) (m : Memory) where
  -- turn i, and the address of its link
  abbrev link_of : ℕ → ℕ
  link_of i = (first + i) * 16

  abbrev turn_link : ℕ → Memory → Memory
  turn_link i = link_after which j (first + i)

  abbrev link_word_at : ℕ → Memory → ℕ
  link_word_at a x = link_word_after (struck_at which x a) j (heap_at x a) (born_at x a) (born_at x (bits 19 8 (heap_at x a) * 16))

  links : Stores (λ x. x.heap) turn_link link_of never (λ i. link_word_at (link_of i))
  unfolding link_after
  links = record { apart = λ i n e. omega tests; turn = λ i x. refl }

  born_stays : (k : ℕ) → (run turn_link k m).born ≡ m.born
  unfolding link_after
  born_stays k = run_keeps turn_link (λ x. x.born) k m (λ n h x. refl)

  turned_stays : (k : ℕ) → (run turn_link k m).turned ≡ m.turned
  unfolding link_after
  turned_stays k = run_keeps turn_link (λ x. x.turned) k m (λ n h x. refl)

  link_turned_at : (i : ℕ) → i < pages → LinkAt which j (link_of i) m (run turn_link pages m)
  link_turned_at i h =
      record {
        heap = λ b. stores_there (λ x. x.heap) turn_link link_of never _ links pages m i h refl b
            ∙ rw (stores_before (λ x. x.heap) turn_link link_of never _ links i m, born_stays i, turned_stays i);
      }

  -- the marks stay
  pub links_born : (links_after first pages which j m).born ≡ m.born
  unfolding links_after
  links_born = born_stays pages

  pub links_turned : (links_after first pages which j m).turned ≡ m.turned
  unfolding links_after
  links_turned = turned_stays pages

  pub links_lengths : SameLengths m (links_after first pages which j m)
  unfolding links_after
  links_lengths =
      record {
        heap = stores_length (λ x. x.heap) turn_link link_of never _ links pages m;
        born = ap length (born_stays pages);
        turned = ap length (turned_stays pages);
      }

  pub links_at : (p : ℕ) → first ≤ p → p < first + pages → LinkAt which j (p * 16) m (links_after first pages which j m)
  unfolding links_after
  links_at p l h =
      let e : first + (p - first) ≡ p = omega tests in
      subst (λ (q : ℕ). LinkAt which j (q * 16) m (run turn_link pages m)) e (link_turned_at (p - first) (omega tests))

  pub links_elsewhere : (a : ℕ) → NoLink first pages a → SameAt a m (links_after first pages which j m)
  unfolding links_after
  links_elsewhere a z =
      record {
        heap = stores_elsewhere (λ x. x.heap) turn_link link_of never _ links pages m a (λ n h e q. no_link first pages a n h q z);
        born = rw (born_stays pages);
        turned = rw (turned_stays pages);
      }

-- ---- the links' marks

module _ (first pages j last : ℕ) (which : Which) (m : Memory) where
  abbrev marks_of : ℕ → ℕ
  marks_of i = (first + i) * 16

  abbrev turn_marks : ℕ → Memory → Memory
  turn_marks i = mark_after which j last (first + i)

  abbrev link_born_at : ℕ → Memory → ℕ
  link_born_at a x = link_born_after last (heap_at x a) (born_at x a)

  abbrev link_turn_at : ℕ → Memory → ℕ
  link_turn_at a x = link_turn_after (struck_at which x a) j last (heap_at x a) (turned_at x a)

  link_borns : Stores (λ x. x.born) turn_marks marks_of never (λ i. link_born_at (marks_of i))
  unfolding mark_after
  link_borns = record { apart = λ i n e. omega tests; turn = λ i x. refl }

  link_turneds : Stores (λ x. x.turned) turn_marks marks_of never (λ i. link_turn_at (marks_of i))
  unfolding mark_after
  link_turneds = record { apart = λ i n e. omega tests; turn = λ i x. refl }

  heap_stays : (k : ℕ) → (run turn_marks k m).heap ≡ m.heap
  unfolding mark_after
  heap_stays k = run_keeps turn_marks (λ x. x.heap) k m (λ n h x. refl)

  marks_turned_at : (i : ℕ) → i < pages → MarksAt which j last (marks_of i) m (run turn_marks pages m)
  marks_turned_at i h =
      record {
        born = λ b. stores_there (λ x. x.born) turn_marks marks_of never _ link_borns pages m i h refl b
            ∙ rw (heap_stays i, stores_before (λ x. x.born) turn_marks marks_of never _ link_borns i m);
        turned = λ b. stores_there (λ x. x.turned) turn_marks marks_of never _ link_turneds pages m i h refl b
            ∙ rw (heap_stays i, stores_before (λ x. x.turned) turn_marks marks_of never _ link_turneds i m);
      }

  -- the words stay
  pub marks_heap : (marks_after first pages which j last m).heap ≡ m.heap
  unfolding marks_after
  marks_heap = heap_stays pages

  pub marks_lengths : SameLengths m (marks_after first pages which j last m)
  unfolding marks_after
  marks_lengths =
      record {
        heap = ap length (heap_stays pages);
        born = stores_length (λ x. x.born) turn_marks marks_of never _ link_borns pages m;
        turned = stores_length (λ x. x.turned) turn_marks marks_of never _ link_turneds pages m;
      }

  pub marks_at : (p : ℕ) → first ≤ p → p < first + pages → MarksAt which j last (p * 16) m (marks_after first pages which j last m)
  unfolding marks_after
  marks_at p l h =
      let e : first + (p - first) ≡ p = omega tests in
      subst (λ (q : ℕ). MarksAt which j last (q * 16) m (run turn_marks pages m)) e (marks_turned_at (p - first) (omega tests))

  pub marks_elsewhere : (a : ℕ) → NoLink first pages a → SameAt a m (marks_after first pages which j last m)
  unfolding marks_after
  marks_elsewhere a z =
      record {
        heap = rw (heap_stays pages);
        born = stores_elsewhere (λ x. x.born) turn_marks marks_of never _ link_borns pages m a (λ n h e q. no_link first pages a n h q z);
        turned = stores_elsewhere (λ x. x.turned) turn_marks marks_of never _ link_turneds pages m a (λ n h e q. no_link first pages a n h q z);
      }
