-- What the passes of an undo keep: the memory so far, and the loans.
use mathlib.Core.Path.{◌≡◌, refl, ◌∙◌}
use Prim.Native.Nat.{ℕ, ◌+◌, ◌<◌}
use Rattle.laws.proofs.Turns.{turns, Ranging, ranging_starts, ranging_on}
use Rattle.store.specs.declared.Heap.{Heap}
use Rattle.store.specs.Memory.{Memory, memory_of, Kept}

-- h is the heap at the start, h' the heap before the turn of number p
pub record Passing (f : ℕ → Memory → Memory) (n start p : ℕ) (h h' : Heap) : Type 0 where
  pub memory : Ranging f n start p (memory_of h) (memory_of h')
  pub kept : Kept h h'

module _ (f : ℕ → Memory → Memory) (n start : ℕ) (h : Heap) where
  pub passing_starts : Passing f n start start h h
  passing_starts = record { memory = ranging_starts f n start (memory_of h); kept = record { words = refl; born = refl; turned = refl; pages = refl } }

  pub passing_on : (p : ℕ) (h' h'' : Heap) → Passing f n start p h h' → p < start + n → memory_of h'' ≡ f p (memory_of h') → Kept h' h'' →
      Passing f n start (p + 1) h h''
  passing_on p h' h'' r l e k =
      record {
        memory = ranging_on f n start p (memory_of h) (memory_of h') r.memory (memory_of h'') l e;
        kept = record {
          words = k.words ∙ r.kept.words;
          born = k.born ∙ r.kept.born;
          turned = k.turned ∙ r.kept.turned;
          pages = k.pages ∙ r.kept.pages;
        };
      }

pub ruleset passing = (turns, passing_starts, passing_on)
