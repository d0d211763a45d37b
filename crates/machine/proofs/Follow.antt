-- Following references: the bound in `deref` is never met in a sound machine, what deref and a structure's arguments lead to is in range and
-- names a cell, and an agenda of unification may be worked off in two parts.
use Rattle.std.specs.Prelude.{if◌then◌else◌, Option, Some, None}
use mathlib.Core.Path.{◌≡◌, refl, sym, ap, ◌∙◌, subst}
use mathlib.Core.Bool.{Bool, true, false}
use mathlib.Core.Logic.{◌⊎◌, inl, inr}
use mathlib.Core.List.{List, [], ◌∷◌, ◌++◌, append_assoc, Memᴰ}
use Rattle.laws.proofs.Options.{none_ne_some, some_injective}
use Prim.Native.Nat.{ℕ, zero, suc, ◌+◌, ◌^◌, ◌≤◌, ◌<◌}
use native.Mathlib.Nat.{pow-le-pow_right}
use native.Mathlib.Omega.{arith}
use lib.Dec.{eqb, ltb}
use borrow.Author.Tests.{eqb-true, ltb-true}
use Rattle.laws.specs.Base.{Each}
use Rattle.laws.proofs.Lists.{each_at}
use Rattle.words.specs.declared.Ref.{Ref}
use Rattle.words.specs.declared.Cell.{Cell}
use Rattle.words.specs.declared.Cell.TheVariants.{Unbound, Bound, Int, Head, Argument}
use Rattle.machine.specs.declared.Found.TheVariants.{Dead, At}
use Rattle.machine.specs.Copies.{Limits, Copy, Machine, copies, cell_at}
use Rattle.machine.specs.Unify.{on_cell, follow, rank, deref, on_argument, arguments_at, younger, Pair, Taken, differ, died, go, take, Solved, took_pair, solve}
use Rattle.machine.specs.Sound.{Sound, LimitsOk, CopyOk, RefIn, CellIn, CellNames, IsVariable, Starts, Names}
use Rattle.machine.proofs.Cells.{ref_in_lem, cell_in}

-- ---- an agenda in two parts

-- the rest is worked off where the first part ended with 0
unfoldable pub and_then : Solved → (ℕ → Copy → Solved) → Solved
and_then s f = if eqb s.status 0 then f s.left s.copy else s

pub solve_append : (left : ℕ) (c : Copy) (ps qs : List Pair) → solve left c (ps ++ qs) ≡ and_then (solve left c ps) (λ l d. solve l d qs)
unfolding solve and_then took_pair
solve_append zero c [] qs = refl
solve_append zero c (p ∷ ps) qs = refl
solve_append (suc left) c [] qs = refl
solve_append (suc left) c (p ∷ ps) qs = by (take c p) (λ d rs. solve_append left d rs qs)
  where
    by : (t : Taken) → ((d : Copy) (rs : List Pair) → solve left d (rs ++ qs) ≡ and_then (solve left d rs) (λ l e. solve l e qs)) →
        took_pair t left c (λ d more. solve left d (more ++ (ps ++ qs))) ≡ and_then (took_pair t left c (λ d more. solve left d (more ++ ps))) (λ l e. solve l e qs)
    by differ ih = refl
    by died ih = refl
    by (go d more) ih = ap (solve left d) (sym (append_assoc more ps qs)) ∙ ih d (more ++ ps)

-- ---- the bound of deref

rank_falls : (r s : Ref) → younger r s ≡ true → s.address < 2 ^ 28 → rank s < rank r
unfolding younger
rank_falls r s y small = by (eqb r.stamp s.stamp) refl y
  where
    by : (t : Bool) → eqb r.stamp s.stamp ≡ t → (if t then ltb s.address r.address else ltb s.stamp r.stamp) ≡ true → rank s < rank r
    by true e h = omega (arith, eqb-true r.stamp s.stamp e, ltb-true s.address r.address h)
    by false e h = omega (arith, ltb-true s.stamp r.stamp h)

is_variable_lem : (w : Cell) → IsVariable w ⊎ (IsVariable w → ⊥)
unfolding IsVariable
is_variable_lem Unbound = inl tt
is_variable_lem (Bound r) = inl tt
is_variable_lem (Int v) = inr (λ h. h)
is_variable_lem (Head f n) = inr (λ h. h)
is_variable_lem (Argument r) = inr (λ h. h)

module _ (c : Copy) (names : (r : Ref) (w : Cell) → cell_at c r ≡ Some w → CellNames c r w) (small : (r s : Ref) → cell_at c r ≡ Some (Bound s) → s.address < 2 ^ 28) where
  -- a reference that no variable stands at is followed no further
  ends : (j k : ℕ) (s : Ref) (o : Option Cell) → cell_at c s ≡ o → ((w : Cell) → o ≡ Some w → IsVariable w → ⊥) → 1 ≤ j → 1 ≤ k → follow j c s ≡ follow k c s
  unfolding follow on_cell IsVariable
  ends zero k s o e v x y = absurd (omega arith)
  ends (suc j) zero s o e v x y = absurd (omega arith)
  ends (suc j) (suc k) s None e v x y = rw e
  ends (suc j) (suc k) s (Some Unbound) e v x y = absurd (v Unbound refl tt)
  ends (suc j) (suc k) s (Some (Bound t)) e v x y = absurd (v (Bound t) refl tt)
  ends (suc j) (suc k) s (Some (Int u)) e v x y = rw e
  ends (suc j) (suc k) s (Some (Head f n)) e v x y = rw e
  ends (suc j) (suc k) s (Some (Argument t)) e v x y = rw e

  -- the cell after a bound variable: another variable, of lower rank, or the end
  next : (j k : ℕ) (r s : Ref) → cell_at c r ≡ Some (Bound s) → 1 ≤ j → 1 ≤ k → ((rank s < rank r) → follow j c s ≡ follow k c s) →
      (o : Option Cell) → cell_at c s ≡ o → follow j c s ≡ follow k c s
  unfolding CellNames
  next j k r s e x y ih None q = ends j k s None q (λ w z v. none_ne_some w z) x y
  next j k r s e x y ih (Some w) q = by (is_variable_lem w)
    where
      by : IsVariable w ⊎ (IsVariable w → ⊥) → follow j c s ≡ follow k c s
      by (inl v) = ih (rank_falls r s ((names r (Bound s) e).1 w q v) (small r s e))
      by (inr n) = ends j k s (Some w) q (λ u z v. n (subst IsVariable (sym (some_injective w u z)) v)) x y

  first : (j k : ℕ) (r : Ref) → 1 ≤ j → 1 ≤ k → ((s : Ref) → rank s < rank r → follow j c s ≡ follow k c s) → (o : Option Cell) → cell_at c r ≡ o →
      on_cell r o (λ s. follow j c s) ≡ on_cell r o (λ s. follow k c s)
  unfolding on_cell
  first j k r x y ih None e = refl
  first j k r x y ih (Some Unbound) e = refl
  first j k r x y ih (Some (Bound s)) e = next j k r s e x y (ih s) (cell_at c s) refl
  first j k r x y ih (Some (Int v)) e = refl
  first j k r x y ih (Some (Head f n)) e = refl
  first j k r x y ih (Some (Argument s)) e = refl

  -- with at least two more than the rank, any number will do
  enough : (n j k : ℕ) (r : Ref) → rank r ≤ n → n + 2 ≤ j → n + 2 ≤ k → follow j c r ≡ follow k c r
  unfolding follow
  enough n zero k r h x y = absurd (omega arith)
  enough n (suc j) zero r h x y = absurd (omega arith)
  enough zero (suc j) (suc k) r h x y = first j k r (omega arith) (omega arith) (λ s l. absurd (omega arith)) (cell_at c r) refl
  enough (suc n) (suc j) (suc k) r h x y =
      first j k r (omega arith) (omega arith) (λ s l. enough n j k s (omega arith) (omega arith) (omega arith)) (cell_at c r) refl

  pub deref_enough : (k : ℕ) (r : Ref) → rank r + 2 ≤ k → follow k c r ≡ deref c r
  unfolding deref
  deref_enough k r h = enough (rank r) k (rank r + 2) r (omega arith) h (omega arith)

-- an address in range has at most 16 bits
pub address_small : (l : Limits) (next : ℕ) (r : Ref) → LimitsOk l → RefIn l next r → r.address < 2 ^ 16
address_small l next r o i = omega (arith, pow-le-pow_right {n = 2} (omega arith) o.most, o.named, i.page.1)

-- deref's bound is never met in a sound machine: any larger one finds the same
pub deref_bound : (m : Machine) → Sound m → (c : Copy) → Memᴰ c (copies m) → (k : ℕ) (r : Ref) → rank r + 2 ≤ k → follow k c r ≡ deref c r
unfolding CellIn
deref_bound m s c x k r h =
    let ok = each_at (CopyOk m.limits m.next) (copies m) s.each c x in
    deref_enough c ok.cells_name
    (λ q t e. omega (arith, address_small m.limits m.next t s.limits (cell_in m.limits m.next c ok q (Bound t) e))) k r h

-- ---- where deref ends

-- a word of tag 1, 3 or 4
unfoldable pub Ends : Cell → Type 0
Ends Unbound = Unit {0}
Ends (Bound r) = ⊥
Ends (Int v) = Unit {0}
Ends (Head f n) = Unit {0}
Ends (Argument r) = ⊥

pub dead_not_at : (r : Ref) (w : Cell) → Dead ≡ At r w → ⊥
dead_not_at r w e = let z : ◌≡◌ {A = ℕ} 0 1 = cc in omega arith

at_here : (c : Copy) (r s : Ref) (v w : Cell) → cell_at c r ≡ Some v → Ends v → At r v ≡ At s w → (cell_at c s ≡ Some w) × Ends w
at_here c r s v w e k q =
    let a : r ≡ s = cc in
    let b : v ≡ w = cc in
    (subst (λ (x : Ref). cell_at c x ≡ Some w) a (e ∙ ap Some b), subst Ends b k)

follow_at : (k : ℕ) (c : Copy) (r s : Ref) (w : Cell) → follow k c r ≡ At s w → (cell_at c s ≡ Some w) × Ends w
unfolding follow on_cell Ends
follow_at zero c r s w e = absurd (dead_not_at s w e)
follow_at (suc k) c r s w e = by (cell_at c r) refl e (λ t. follow_at k c t s w)
  where
    by : (o : Option Cell) → cell_at c r ≡ o → on_cell r o (λ t. follow k c t) ≡ At s w →
        ((t : Ref) → follow k c t ≡ At s w → (cell_at c s ≡ Some w) × Ends w) → (cell_at c s ≡ Some w) × Ends w
    by None q h ih = absurd (dead_not_at s w h)
    by (Some Unbound) q h ih = at_here c r s Unbound w q tt h
    by (Some (Bound t)) q h ih = ih t h
    by (Some (Int v)) q h ih = at_here c r s (Int v) w q tt h
    by (Some (Head f n)) q h ih = at_here c r s (Head f n) w q tt h
    by (Some (Argument t)) q h ih = absurd (dead_not_at s w h)

-- deref ends at a cell of tag 1, 3 or 4
pub deref_at : (c : Copy) (r s : Ref) (w : Cell) → deref c r ≡ At s w → (cell_at c s ≡ Some w) × Ends w
unfolding deref
deref_at c r s w e = follow_at (rank r + 2) c r s w e

-- what a register may hold: a reference in range that, if its region is in the copy, names a cell
abbrev pub GoodRef : Limits → ℕ → Copy → Ref → Type 0
GoodRef l next c r = RefIn l next r × Names c r

ends_start : (w : Cell) → Ends w → Starts w
unfolding Ends Starts
ends_start Unbound h = tt
ends_start (Bound r) h = tt
ends_start (Int v) h = tt
ends_start (Head f n) h = tt
ends_start (Argument r) h = h

pub end_names : (c : Copy) (r : Ref) (w : Cell) → cell_at c r ≡ Some w → Ends w → Names c r
unfolding Names
end_names c r w e k h = (w, e, ends_start w k)

module _ (l : Limits) (next : ℕ) (c : Copy) (ok : CopyOk l next c) where
  pub deref_good : (r s : Ref) (w : Cell) → deref c r ≡ At s w → GoodRef l next c s
  deref_good r s w e =
      let k = deref_at c r s w e in
      (ref_in_lem l next c ok s w k.0, end_names c s w k.0 k.1)

  -- the arguments of a structure
  pub arguments_good : (n : ℕ) (r : Ref) → Each (GoodRef l next c) (arguments_at n c r)
  unfolding arguments_at on_argument CellIn CellNames
  arguments_good zero r = tt
  arguments_good (suc n) r = by (cell_at c (after r)) refl (arguments_good n (after r))
    where
      after : Ref → Ref
      after q = record { stamp = q.stamp; address = suc q.address }

      by : (o : Option Cell) → cell_at c (after r) ≡ o → Each (GoodRef l next c) (arguments_at n c (after r)) → Each (GoodRef l next c) (on_argument o (arguments_at n c (after r)))
      by None q ih = tt
      by (Some Unbound) q ih = tt
      by (Some (Bound s)) q ih = tt
      by (Some (Int v)) q ih = tt
      by (Some (Head f k)) q ih = tt
      by (Some (Argument s)) q ih = ((cell_in l next c ok (after r) (Argument s) q, ok.cells_name (after r) (Argument s) q), ih)
