-- What the whole undo leaves at an address, said of the memory that it was given.
use mathlib.Core.Logic.{◌⊎◌, inl, inr}
use mathlib.Core.Path.{◌≡◌, ap, ◌∙◌}
use mathlib.Core.List.{List}
use Prim.Native.Nat.{ℕ, ◌+◌, ◌*◌, ◌%◌, ◌<◌, ◌≤◌}
use lib.ListN.{length, get_or}
use Rattle.laws.proofs.Tests.{tests}
use Rattle.words.specs.Fields.{bits}
use Rattle.store.specs.declared.Which.{Which}
use Rattle.store.specs.Memory.{Memory}
use Rattle.store.specs.Undo.{struck, link_born_after, link_turn_after, cells_after, links_after, marks_after, undone}
use Rattle.store.proofs.UndoPasses.{heap_at, born_at, turned_at, SameLengths, SameAt, CellAt, LinkAt, cells_lengths, cells_at, cells_elsewhere, links_born, links_turned, links_lengths, links_at, links_elsewhere, marks_heap, marks_lengths, marks_at, marks_elsewhere}

lengths_on : (x y z : Memory) → SameLengths x y → SameLengths y z → SameLengths x z
lengths_on x y z p q = record { heap = q.heap ∙ p.heap; born = q.born ∙ p.born; turned = q.turned ∙ p.turned }

same_on : (a : ℕ) (x y z : Memory) → SameAt a x y → SameAt a y z → SameAt a x z
same_on a x y z p q = record { heap = q.heap ∙ p.heap; born = q.born ∙ p.born; turned = q.turned ∙ p.turned }

cell_on : (which : Which) (j last a : ℕ) (x y z : Memory) → CellAt which j last a x y → SameAt a y z → CellAt which j last a x z
cell_on which j last a x y z p q = record { heap = λ h. q.heap ∙ p.heap h; born = λ h. q.born ∙ p.born h; turned = λ h. q.turned ∙ p.turned h }

-- a link at address a: its marks go by the word that it has afterwards
pub record LinkAfter (which : Which) (j last a : ℕ) (x y : Memory) : Type 0 where
  pub heap : LinkAt which j a x y
  pub born : a < length x.born → born_at y a ≡ link_born_after last (heap_at y a) (born_at x a)
  pub turned : a < length x.turned → turned_at y a ≡ link_turn_after (struck which (heap_at y a) (turned_at x a)) j last (heap_at y a) (turned_at x a)

module _ (first pages j last : ℕ) (which : Which) (m : Memory) where
  abbrev cells : Memory
  cells = cells_after first pages which j last m

  abbrev links : Memory
  links = links_after first pages which j cells

  pub undone_lengths : SameLengths m (undone first pages which j last m)
  unfolding undone
  undone_lengths =
      lengths_on m links _ (lengths_on m cells links (cells_lengths first pages j last which m) (links_lengths first pages j which cells))
      (marks_lengths first pages j last which links)

  pub undone_cell : (a : ℕ) → first * 16 ≤ a → a < (first + pages) * 16 → (a % 16 ≡ 0 → ⊥) → CellAt which j last a m (undone first pages which j last m)
  unfolding undone
  undone_cell a l h n =
      cell_on which j last a m cells _ (cells_at first pages j last which m a l h n)
      (same_on a cells links _ (links_elsewhere first pages j which cells a (inl n)) (marks_elsewhere first pages j last which links a (inl n)))

  pub undone_elsewhere : (a : ℕ) → (a < first * 16) ⊎ ((first + pages) * 16 ≤ a) → SameAt a m (undone first pages which j last m)
  unfolding undone
  undone_elsewhere a z =
      same_on a m links _
      (same_on a m cells links (cells_elsewhere first pages j last which m a (inr z)) (links_elsewhere first pages j which cells a (inr z)))
      (marks_elsewhere first pages j last which links a (inr z))

  -- the cells' pass leaves the links
  link_kept : (p : ℕ) → SameAt (p * 16) m cells
  link_kept p = cells_elsewhere first pages j last which m (p * 16) (inl (omega tests))

  pub undone_link : (p : ℕ) → first ≤ p → p < first + pages → LinkAfter which j last (p * 16) m (undone first pages which j last m)
  unfolding undone
  undone_link p l h =
      let a : ℕ = p * 16 in
      let s : SameAt a m cells = link_kept p in
      let w : heap_at (marks_after first pages which j last links) a ≡ heap_at links a = ap (λ (t : List ℕ). get_or t a 0) (marks_heap first pages j last which links) in
      let b : born_at links a ≡ born_at m a = ap (λ (t : List ℕ). get_or t a 0) (links_born first pages j which cells) ∙ s.born in
      let u : turned_at links a ≡ turned_at m a = ap (λ (t : List ℕ). get_or t a 0) (links_turned first pages j which cells) ∙ s.turned in
      let long : SameLengths m links = lengths_on m cells links (cells_lengths first pages j last which m) (links_lengths first pages j which cells) in
      record {
        heap = record {
          heap = λ k.
              w ∙ (links_at first pages j which cells p l h).heap (omega (tests, (cells_lengths first pages j last which m).heap))
              ∙ rw (s.heap, s.born, s.turned, (link_kept (bits 19 8 (heap_at m a))).born);
        };
        born = λ k. (marks_at first pages j last which links p l h).born (omega (tests, long.born)) ∙ rw (← w, b);
        turned = λ k. (marks_at first pages j last which links p l h).turned (omega (tests, long.turned)) ∙ rw (← w, u);
      }
