-- Pages past the end of a list.
use Prim.Native.Nat.{ℕ, ◌+◌, ◌*◌, ◌/◌, ◌<◌, ◌≤◌}
use mathlib.Core.List.{List}
use mathlib.Core.Path.{◌≡◌, sym}
use native.Mathlib.Omega.{arith}
use lib.ListN.{length, get_or, get_or-eq_default}
use borrow.Author.Tests.{eq-eqb}
use Rattle.store.specs.Pages.{fill}

-- the link of a page past the end is the default
pub no_link : {A : Type 0} (l : List A) (p : ℕ) (d : A) → length l / 16 < p → d ≡ get_or l (p * 16) d
no_link l p d h = let k : length l ≤ p * 16 = omega arith in sym (get_or-eq_default l d k)

-- and so are its cells
pub no_cell : (l : List ℕ) (p i : ℕ) → length l / 16 < p → 0 ≡ get_or l (p * 16 + 1 + i) 0
no_cell l p i h = let k : length l ≤ p * 16 + 1 + i = omega arith in sym (get_or-eq_default l 0 k)

-- it has no filled word
pub no_fill : (l : List ℕ) (p : ℕ) → length l / 16 < p → 0 ≡ fill l p
unfolding fill
no_fill l p h =
    let k : length l ≤ p * 16 + 1 + 0 = omega arith in
    rw (eq-eqb (get_or l (p * 16 + 1 + 0) 0) 0 (get_or-eq_default l 0 k))
