-- Step 6 keeps a machine sound: each binding goes on from the present copy, and a status other than 0 leaves it as it was.
use Rattle.std.specs.Prelude.{if◌then◌else◌, Option, Some, None}
use mathlib.Core.Path.{◌≡◌, refl, sym}
use mathlib.Core.Bool.{Bool, true, false, ◌&&◌}
use mathlib.Core.Logic.{◌≢◌}
use mathlib.Core.List.{List, [], ◌∷◌, ◌++◌}
use Prim.Native.Nat.{ℕ, zero, suc}
use native.Mathlib.Omega.{arith}
use lib.Dec.{eqb, ltb}
use borrow.Author.Tests.{eq-eqb, ne_eqb, eqb-true, eqb-false, ltb-false, lt-ltb}
use Rattle.words.specs.declared.Ref.{Ref}
use Rattle.words.specs.declared.Cell.{Cell}
use Rattle.words.specs.declared.Cell.TheVariants.{Unbound, Bound, Int, Head, Argument}
use Rattle.words.specs.declared.Step.TheVariants.{Unify}
use Rattle.words.specs.Integers.{same_int}
use Rattle.machine.specs.declared.Found.{Found}
use Rattle.machine.specs.declared.Found.TheVariants.{Dead, At}
use Rattle.machine.specs.Copies.{Copy, Machine, cell_at}
use Rattle.machine.specs.Unify.{arguments_at, deref, Pair, pairs, Taken, differ, died, go, bind, younger, meet, take_found, take, took_pair, solve}
use Rattle.machine.specs.Run.{live_at, unified, unify_terms, exec}
use Rattle.machine.specs.Sound.{Sound, IsVariable}
use Rattle.machine.proofs.Onward.{Onward, onward_sound}
use Rattle.machine.proofs.Follow.{Ends, deref_at}
use Rattle.machine.proofs.Bind.{bind_onward}
use Rattle.machine.proofs.DerefSound.{registers_onward}

-- of two variables that are not one, one is the younger
younger_one : (r s : Ref) → r.address ≢ s.address → younger r s ≡ false → younger s r ≡ true
unfolding younger
younger_one r s n h = by (eqb r.stamp s.stamp) refl h
  where
    by : (t : Bool) → eqb r.stamp s.stamp ≡ t → (if t then ltb s.address r.address else ltb s.stamp r.stamp) ≡ false →
        (if eqb s.stamp r.stamp then ltb r.address s.address else ltb r.stamp s.stamp) ≡ true
    by true e k = rw (eq-eqb s.stamp r.stamp (sym (eqb-true r.stamp s.stamp e))) (lt-ltb r.address s.address (omega (arith, ltb-false s.address r.address k)))
    by false e k =
        let z : r.stamp ≢ s.stamp = eqb-false r.stamp s.stamp e in
        rw (ne_eqb s.stamp r.stamp (λ q. z (sym q))) (lt-ltb r.stamp s.stamp (omega (arith, ltb-false s.stamp r.stamp k)))

module _ (m : Machine) (t : ℕ) where
  -- where unification goes on, its copy goes on from the present one
  unfoldable Goes : Taken → Type 0
  Goes differ = Unit {0}
  Goes died = Unit {0}
  Goes (go c more) = Onward m t c

  module _ (c : Copy) (o : Onward m t c) where
    -- a variable is bound to a cell of tag 1, 3 or 4
    bound : (r s : Ref) (w : Cell) → cell_at c r ≡ Some Unbound → cell_at c s ≡ Some w → Ends w → (IsVariable w → younger r s ≡ true) → Goes (bind c r s)
    unfolding Goes
    bound r s w e f k y = bind_onward m t c r s o (record { variable = e; cell = w; found = f; ends = k; order = y })

    -- two cells that are not one meet: a binding, if any, is of the younger variable
    meets : (r s : Ref) (v w : Cell) → cell_at c r ≡ Some v → cell_at c s ≡ Some w → r.address ≢ s.address → Goes (meet c r v s w)
    unfolding Goes meet Ends IsVariable
    meets r s Unbound Unbound e f n = by (younger r s) refl
      where
        by : (u : Bool) → younger r s ≡ u → Goes (if u then bind c r s else bind c s r)
        by true y = bound r s Unbound e f tt (λ x. y)
        by false y = bound s r Unbound f e tt (λ x. younger_one r s n y)
    meets r s Unbound (Bound q) e f n = tt
    meets r s Unbound (Int v) e f n = bound r s (Int v) e f tt (λ x. absurd x)
    meets r s Unbound (Head g k) e f n = bound r s (Head g k) e f tt (λ x. absurd x)
    meets r s Unbound (Argument q) e f n = tt
    meets r s (Int v) Unbound e f n = bound s r (Int v) f e tt (λ x. absurd x)
    meets r s (Int v) (Bound q) e f n = tt
    meets r s (Int v) (Int w) e f n = by (same_int v w)
      where
        by : (u : Bool) → Goes (if u then go c [] else differ)
        by true = o
        by false = tt
    meets r s (Int v) (Head g k) e f n = tt
    meets r s (Int v) (Argument q) e f n = tt
    meets r s (Head h x) Unbound e f n = bound s r (Head h x) f e tt (λ z. absurd z)
    meets r s (Head h x) (Bound q) e f n = tt
    meets r s (Head h x) (Int w) e f n = tt
    meets r s (Head h x) (Head g k) e f n = by (eqb h g && eqb x k)
      where
        by : (u : Bool) → Goes (if u then go c (pairs (arguments_at x c r) (arguments_at x c s)) else differ)
        by true = o
        by false = tt
    meets r s (Head h x) (Argument q) e f n = tt
    meets r s (Bound q) w e f n = tt
    meets r s (Argument q) w e f n = tt

    -- what was found stands in the copy
    abbrev Stands : Found → Type 0
    Stands f = (r : Ref) (w : Cell) → f ≡ At r w → cell_at c r ≡ Some w

    found : (x y : Found) → Stands x → Stands y → Goes (take_found c x y)
    unfolding Goes take_found
    found Dead y h k = tt
    found (At r v) Dead h k = tt
    found (At r v) (At s w) h k = by (eqb r.address s.address) refl
      where
        by : (u : Bool) → eqb r.address s.address ≡ u → Goes (if u then go c [] else meet c r v s w)
        by true e = o
        by false e = meets r s v w (h r v refl) (k s w refl) (eqb-false r.address s.address e)

    taken : (p : Pair) → Goes (take c p)
    unfolding take
    taken p = found (deref c p.left) (deref c p.right) (λ r w e. (deref_at c p.left r w e).0) (λ r w e. (deref_at c p.right r w e).0)

  -- however an agenda ends, its copy goes on from the present one
  pub solve_onward : (left : ℕ) (c : Copy) (ps : List Pair) → Onward m t c → Onward m t (solve left c ps).copy
  unfolding solve took_pair Goes
  solve_onward zero c [] o = o
  solve_onward zero c (p ∷ ps) o = o
  solve_onward (suc left) c [] o = o
  solve_onward (suc left) c (p ∷ ps) o = by (take c p) (taken c o p) (λ d more k. solve_onward left d (more ++ ps) k)
    where
      by : (a : Taken) → Goes a → ((d : Copy) (more : List Pair) → Onward m t d → Onward m t (solve left d (more ++ ps)).copy) →
          Onward m t (took_pair a left c (λ d more. solve left d (more ++ ps))).copy
      by differ g ih = o
      by died g ih = o
      by (go d more) g ih = ih d more g

-- the bindings remain only where the answer is 0
unify_onward : (m : Machine) (x y : Option Ref) (budget : ℕ) → Onward m 0 m.present → Onward m 0 (unify_terms m.present x y budget).copy
unfolding unify_terms unified
unify_onward m None y budget o = o
unify_onward m (Some r) None budget o = o
unify_onward m (Some r) (Some s) budget o = by (eqb (solve budget m.present agenda).status 0)
  where
    agenda : List Pair
    agenda = record { left = r; right = s } ∷ []

    by : (u : Bool) → Onward m 0 (if u then (solve budget m.present agenda).copy else m.present)
    by true = solve_onward m 0 budget m.present agenda o
    by false = o

-- step 6 keeps a machine sound
pub exec_unify : (m : Machine) (a b budget : ℕ) → Sound m → Sound (exec m (Unify a b budget)).machine
unfolding exec
exec_unify m a b budget s =
    let c = m.present in
    onward_sound m 0 (unify_terms c (live_at c a) (live_at c b) budget).copy s
    (unify_onward m (live_at c a) (live_at c b) budget (registers_onward m 0 c (s.each.0, refl)))
