-- What taking pairs is, as the functions that call each other tell it: the machine comes through these pairs, whatever stands behind them, and the trail leads back.
use Rattle.std.specs.Prelude.{◌≡◌, List, ◌++◌, ℕ, zero, suc, ◌+◌, ◌*◌, ◌/◌, ◌%◌, ◌^◌, ◌≤◌, ◌<◌, eqb, length, get_or, set, Result, if◌then◌else◌}
use Rattle.words.specs.declared.Ref.{Ref}
use Rattle.words.specs.declared.Cell.TheVariants.{Unbound, Bound}
use Rattle.words.specs.declared.Refusal.{Refusal}
use Rattle.words.specs.Words.{cell_word}
use Rattle.store.specs.Memory.{Kept}
use Rattle.terms.specs.declared.unify.Unifier.{Unifier}
use Rattle.terms.specs.Unify.{Marked, marked, Item, Solved, solved, solve, status_told}

-- the machine goes on with the rest where the status is 0, and ends where it is not
unfoldable pub go_on : ℕ → ℕ → ℕ → List Item → Marked → Solved
go_on n status left rest m = if eqb status 0 then solve n left rest m else solved status left m

-- ---- the trail: an entry for each binding, the variable's address and, above it, the mark that it had

abbrev pub entry_of : ℕ → ℕ → ℕ
entry_of a mark = a + mark * 2 ^ 16

-- what an entry puts back: an unbound variable has only one word; its mark stands in the entry
unfoldable pub word_back : ℕ → ℕ
word_back e = cell_word 12 Unbound

unfoldable pub mark_back : ℕ → ℕ
mark_back e = e / 2 ^ 16 % 2 ^ 8

-- the list with what the trail's first k entries put back, the last entry first
unfoldable pub undo_of : (ℕ → ℕ) → ℕ → List ℕ → List ℕ → List ℕ
undo_of v zero t xs = xs
undo_of v (suc k) t xs = undo_of v k t (set xs (get_or t k 0 % 2 ^ 16) (v (get_or t k 0)))

-- ---- what the functions do. k entries of the trail t are used, `left` pairs may still be taken; h is the heap, u the turned marks

-- the variable at r was bound to the cell at s in copy n
pub record BoundTo (n : ℕ) (r s : Ref) (k left : ℕ) (h u t : List ℕ) (status k' left' : ℕ) (h' u' t' : List ℕ) : Type 0 where
  pub ok : status ≡ 0
  pub heap : h' ≡ set h r.address (cell_word 12 (Bound s))
  pub turned : u' ≡ set u r.address n
  pub trail : t' ≡ set t k (entry_of r.address (get_or u r.address 0))
  pub address : r.address < 2 ^ 16
  pub mark : get_or u r.address 0 < 2 ^ 8
  pub count : k' ≡ (k + 1) % 2 ^ 16
  pub rest : left' ≡ left

-- these pairs were taken, or as many of them as it took to end
pub record Took (n : ℕ) (items : List Item) (k left : ℕ) (h u t : List ℕ) (status k' left' : ℕ) (h' u' t' : List ℕ) : Type 0 where
  pub through : (rest : List Item) → solve n left (items ++ rest) (marked h u) ≡ go_on n status left' rest (marked h' u')
  pub falls : left' ≤ left
  pub room : k' + left' ≤ k + left
  pub long : length t' ≡ length t
  pub heap : undo_of word_back k' t' h' ≡ undo_of word_back k t h
  pub turned : undo_of mark_back k' t' u' ≡ undo_of mark_back k t u

-- the same said of the code's unifier, before and after
abbrev pub TookBy : List Item → Unifier → Result (Unit {0}) Refusal → Unifier → Type 0
TookBy items x outcome y =
    Took x.n items x.bound x.left x.heap.now.words.now x.heap.now.turned.now x.trail.now (status_told outcome) y.bound y.left y.heap.now.words.now y.heap.now.turned.now y.trail.now

-- the loans, the copy's number and the born marks stay
pub record Stays (x y : Unifier) : Type 0 where
  pub heap : y.heap.ghost_name ≡ x.heap.ghost_name
  pub loans : Kept x.heap.now y.heap.now
  pub trail : y.trail.ghost_name ≡ x.trail.ghost_name
  pub n : y.n ≡ x.n
  pub born : y.heap.now.born.now ≡ x.heap.now.born.now
