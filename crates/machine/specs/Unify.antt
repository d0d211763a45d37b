-- Document 01, "Steps": deref, and unification as a machine that works off an agenda of pairs.
use Rattle.std.specs.Prelude.{Bool, ◌&&◌, List, [], ◌∷◌, ◌++◌, ℕ, zero, suc, ◌+◌, ◌*◌, ◌^◌, ltb, eqb, if◌then◌else◌, Option, Some, None}
use Rattle.words.specs.declared.Ref.{Ref}
use Rattle.words.specs.declared.Cell.{Cell}
use Rattle.words.specs.declared.Cell.TheVariants.{Unbound, Bound, Int, Head, Argument}
use Rattle.words.specs.Integers.{same_int}
use Rattle.machine.specs.declared.Found.{Found}
use Rattle.machine.specs.declared.Found.TheVariants.{Dead, At}
use Rattle.machine.specs.Copies.{Copy, cell_at, set_cell}

-- ---- deref

-- one cell: a bound variable is followed by `next`
unfoldable pub on_cell : Ref → Option Cell → (Ref → Found) → Found
on_cell r None next = Dead
on_cell r (Some Unbound) next = At r Unbound
on_cell r (Some (Bound s)) next = next s
on_cell r (Some (Int v)) next = At r (Int v)
on_cell r (Some (Head f n)) next = At r (Head f n)
on_cell r (Some (Argument s)) next = Dead

-- deref follows bound variables to a word of tag 1, 3 or 4. The number bounds how many cells are looked at
unfoldable pub follow : ℕ → Copy → Ref → Found
follow zero c r = Dead
follow (suc k) c r = on_cell r (cell_at c r) (λ s. follow k c s)

-- a variable bound to a live variable has the larger stamp, or equal stamp and larger address: `rank` falls along a chain of variables, so that
-- in a sound machine the bound below is never met (`proofs/Follow.antt`)
abbrev pub rank : Ref → ℕ
rank r = r.stamp * 2 ^ 28 + r.address

unfoldable pub deref : Copy → Ref → Found
deref c r = follow (rank r + 2) c r

-- the references in the n words after a structure's head (in a sound machine all n are there)
unfoldable pub on_argument : Option Cell → List Ref → List Ref
on_argument None rs = []
on_argument (Some Unbound) rs = []
on_argument (Some (Bound s)) rs = []
on_argument (Some (Int v)) rs = []
on_argument (Some (Head f n)) rs = []
on_argument (Some (Argument r)) rs = r ∷ rs

unfoldable pub arguments_at : ℕ → Copy → Ref → List Ref
arguments_at zero c r = []
arguments_at (suc n) c r =
    let next : Ref = record { stamp = r.stamp; address = suc r.address } in
    on_argument (cell_at c next) (arguments_at n c next)

-- ---- unification

pub record Pair : Type 0 where
  pub left : Ref
  pub right : Ref

-- taking a pair stops unification, where the terms differ or a reference is dead, or it goes on in a copy, with more pairs to take before the rest
pub data Taken : Type 0 where
  differ died : Taken
  go : Copy → List Pair → Taken

unfoldable pub pairs : List Ref → List Ref → List Pair
pairs [] ss = []
pairs (r ∷ rs) [] = []
pairs (r ∷ rs) (s ∷ ss) = record { left = r; right = s } ∷ pairs rs ss

-- the variable at r is bound to the cell at s
abbrev pub bind : Copy → Ref → Ref → Taken
bind c r s = go (set_cell c r (Bound s)) []

-- the variable r is the younger of two: the larger stamp, at equal stamps the larger address
unfoldable pub younger : Ref → Ref → Bool
younger r s = if eqb r.stamp s.stamp then ltb s.address r.address else ltb s.stamp r.stamp

-- two cells that are not the same
unfoldable pub meet : Copy → Ref → Cell → Ref → Cell → Taken
meet c r Unbound s Unbound = if younger r s then bind c r s else bind c s r
meet c r Unbound s (Bound t) = differ
meet c r Unbound s (Int v) = bind c r s
meet c r Unbound s (Head f n) = bind c r s
meet c r Unbound s (Argument t) = differ
meet c r (Int v) s Unbound = bind c s r
meet c r (Int v) s (Bound t) = differ
meet c r (Int v) s (Int w) = if same_int v w then go c [] else differ
meet c r (Int v) s (Head g k) = differ
meet c r (Int v) s (Argument t) = differ
meet c r (Head f n) s Unbound = bind c s r
meet c r (Head f n) s (Bound t) = differ
meet c r (Head f n) s (Int w) = differ
meet c r (Head f n) s (Head g k) =
    if eqb f g && eqb n k then go c (pairs (arguments_at n c r) (arguments_at n c s)) else differ
meet c r (Head f n) s (Argument t) = differ
meet c r (Bound q) s w = differ
meet c r (Argument q) s w = differ

-- both sides followed to their cells: a dead reference stops with 4, the same cell is equal
unfoldable pub take_found : Copy → Found → Found → Taken
take_found c Dead y = died
take_found c (At r v) Dead = died
take_found c (At r v) (At s w) = if eqb r.address s.address then go c [] else meet c r v s w

unfoldable pub take : Copy → Pair → Taken
take c p = take_found c (deref c p.left) (deref c p.right)

-- where unification ends: its status, how many pairs could still be taken, and the copy with its bindings
pub record Solved : Type 0 where
  pub status : ℕ
  pub left : ℕ
  pub copy : Copy

abbrev pub solved : ℕ → ℕ → Copy → Solved
solved status left c = record { status = status; left = left; copy = c }

-- one pair was taken
unfoldable pub took_pair : Taken → ℕ → Copy → (Copy → List Pair → Solved) → Solved
took_pair differ left c rest = solved 1 left c
took_pair died left c rest = solved 4 left c
took_pair (go c' more) left c rest = rest c' more

-- the pair at the agenda's head is taken next, and its arguments' pairs come before the rest; `left` pairs may still be taken
unfoldable pub solve : ℕ → Copy → List Pair → Solved
solve zero c [] = solved 0 zero c
solve zero c (p ∷ ps) = solved 10 zero c
solve (suc left) c [] = solved 0 (suc left) c
solve (suc left) c (p ∷ ps) = took_pair (take c p) left c (λ c' more. solve left c' (more ++ ps))
