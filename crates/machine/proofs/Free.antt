-- The lowest free page: it is a page of the machine, and no region of any copy lists it.
use mathlib.Core.Path.{◌≡◌, sym, ◌∙◌}
use mathlib.Core.Bool.{true, false, not, true≢false}
use mathlib.Core.Logic.{◌⊎◌, inl, inr}
use mathlib.Core.List.Memᴰ
use mathlib.Core.List.{List, [], ◌∷◌, Memᴰ}
use Rattle.std.specs.Prelude.{Some}
use Rattle.laws.proofs.Options.{none_ne_some, some_injective}
use Prim.Native.Nat.{ℕ, zero, suc, ◌+◌, ◌≤◌, ◌<◌}
use native.Mathlib.Omega.{arith}
use Rattle.laws.specs.Base.{some_of, from}
use Rattle.laws.proofs.Lists.{kept_at, some_yes, not_true}
use Rattle.machine.specs.Copies.{Region, Copy, Machine, copies, lists, held, free, lowest}
use Rattle.machine.specs.Sound.{PageIn}

from_in : (k n p : ℕ) → Memᴰ p (from k n) → (n ≤ p) × (p < n + k)
from_in zero n p m = absurd (Memᴰ.not-nil m)
from_in (suc k) n p m = by (Memᴰ.cases_cons m) (λ h. from_in k (suc n) p h)
  where
    by : (p ≡ n) ⊎ Memᴰ p (from k (suc n)) → (Memᴰ p (from k (suc n)) → (suc n ≤ p) × (p < suc n + k)) → (n ≤ p) × (p < n + suc k)
    by (inl e) ih = omega arith
    by (inr h) ih = omega (arith, ih h)

lowest_in : (l : List ℕ) (p : ℕ) → lowest l ≡ Some p → Memᴰ p l
lowest_in [] p e = absurd (none_ne_some p e)
lowest_in (q ∷ qs) p e = Memᴰ.head (sym (some_injective q p e))

-- the page that a step takes was held by no copy
pub lowest_free_lem : (m : Machine) (p : ℕ) → lowest (free m) ≡ Some p → (held m p ≡ false) × PageIn m.limits p
unfolding free
lowest_free_lem m p e =
    let k = kept_at (λ q. not (held m q)) (from m.limits.pages m.limits.first) p (lowest_in (free m) p e) in
    (not_true (held m p) k.1, from_in m.limits.pages m.limits.first p k.0)

-- so no region of any copy lists it
pub free_unlisted : (m : Machine) (p : ℕ) → held m p ≡ false → (c : Copy) → Memᴰ c (copies m) → (g : Region) → Memᴰ g c.regions → lists p g ≡ true → ⊥
unfolding held
free_unlisted m p e c x g y h =
    true≢false (sym (some_yes (λ (d : Copy). some_of (lists p) d.regions) (copies m) c x (some_yes (lists p) c.regions g y h)) ∙ e)
