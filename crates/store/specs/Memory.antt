-- The heap with its two marks a word, as one value, and the stores to it. n is the present copy.
use Rattle.std.specs.Prelude.{◌≡◌, List, [], ◌∷◌, ℕ, ◌+◌, set}
use Rattle.store.specs.declared.Filling.{Filling}
use Rattle.store.specs.declared.Heap.{Heap}

pub record Memory : Type 0 where
  pub heap : List ℕ
  pub born : List ℕ
  pub turned : List ℕ

abbrev pub memory : List ℕ → List ℕ → List ℕ → Memory
memory h b u = record { heap = h; born = b; turned = u }

-- what the code's heap holds
abbrev pub memory_of : Heap → Memory
memory_of h = memory h.words.now h.born.now h.turned.now

-- the same loans of the same pages: what a step does to them the lender sees when the loans end
pub record Kept (h h' : Heap) : Type 0 where
  pub words : h'.words.ghost_name ≡ h.words.ghost_name
  pub born : h'.born.ghost_name ≡ h.born.ghost_name
  pub turned : h'.turned.ghost_name ≡ h.turned.ghost_name
  pub pages : h'.pages ≡ h.pages

-- the same of the code's filling, whose turned marks stay
abbrev pub memory_in : Filling → Memory
memory_in f = memory f.words.now f.born.now f.turned.now

pub record KeptFilling (f f' : Filling) : Type 0 where
  pub words : f'.words.ghost_name ≡ f.words.ghost_name
  pub born : f'.born.ghost_name ≡ f.born.ghost_name
  pub turned : f'.turned.now ≡ f.turned.now
  pub pages : f'.pages ≡ f.pages

-- a word is filled in the present copy
unfoldable pub fill_at : ℕ → ℕ → ℕ → Memory → Memory
fill_at n a w m = memory (set m.heap a w) (set m.born a n) m.turned

-- words are filled one after another
unfoldable pub fill_all : ℕ → ℕ → List ℕ → Memory → Memory
fill_all n a [] m = m
fill_all n a (w ∷ ws) m = fill_all n (a + 1) ws (fill_at n a w m)

-- an unbound variable is bound in the present copy
unfoldable pub turn_at : ℕ → ℕ → ℕ → Memory → Memory
turn_at n a w m = memory (set m.heap a w) m.born (set m.turned a n)

-- a link gains a next page
unfoldable pub next_at : ℕ → ℕ → Memory → Memory
next_at a w m = memory (set m.heap a w) m.born m.turned
