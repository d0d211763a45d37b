-- What fills words reads no turned mark and writes none.
use Rattle.std.specs.Prelude.{Option, Some, None}
use Prim.Native.Nat.{ℕ, ◌+◌}
use mathlib.Core.List.{List, [], ◌∷◌}
use mathlib.Core.Path.{◌≡◌, refl}
use Rattle.laws.specs.Base.{on_some}
use Rattle.laws.proofs.Conditions.{if_map}
use Rattle.store.specs.Memory.{Memory, memory, fill_at, fill_all}
use Rattle.store.specs.Make.{page_started, on_make, make_memory}

abbrev pub with_turned : List ℕ → Memory → Memory
with_turned u m = memory m.heap m.born u

-- a function of what follows from a page is what follows with the function's values
module _ {A B : Type 0} (g : A → B) where
  pub page_map : (k : Option ℕ) (s : ℕ → A) (n : A) → g (on_some k s n) ≡ on_some k (λ p. g (s p)) (g n)
  page_map (Some p) s n = refl
  page_map None s n = refl

pub fill_all_turned : (u : List ℕ) (n a : ℕ) (ws : List ℕ) (m : Memory) → with_turned u (fill_all n a ws m) ≡ fill_all n a ws (with_turned u m)
unfolding fill_all fill_at
fill_all_turned u n a [] m = refl
fill_all_turned u n a (w ∷ ws) m = fill_all_turned u n (a + 1) ws (fill_at n a w m)

pub make_turned : (u : List ℕ) (first pages slots : ℕ) (t : List ℕ) (m : Memory) →
    with_turned u (make_memory first pages slots t m) ≡ make_memory first pages slots t (with_turned u m)
unfolding make_memory on_make page_started fill_at
make_turned u first pages slots t m = simp (if_map (with_turned u), page_map (with_turned u))
