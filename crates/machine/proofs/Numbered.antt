-- Copies by their number: 1 is the oldest, which is the last of the list.
use Rattle.std.specs.Prelude.{if◌then◌else◌}
use mathlib.Core.Path.{◌≡◌, refl, sym, ap, ◌∙◌}
use mathlib.Core.Bool.{Bool, true, false}
use mathlib.Core.List.{List, [], ◌∷◌, Memᴰ}
use Prim.Native.Nat.{ℕ, suc, ◌≤◌, ◌<◌}
use native.Mathlib.Omega.{arith}
use lib.Dec.{eqb}
use lib.ListN.{length}
use borrow.Author.Tests.{eq-eqb, ne_eqb}
use Rattle.laws.specs.Base.{Pairs}
use Rattle.laws.proofs.Tests.{tests}
use Rattle.laws.proofs.Lists.{each_at}
use Rattle.machine.specs.Copies.{Copy, live}
use Rattle.machine.specs.Sound.{NoReturn}
use Rattle.machine.specs.Tables.{numbered}

pub newest_numbered : (x : Copy) (xs : List Copy) → numbered (x ∷ xs) (suc (length xs)) ≡ x
unfolding numbered
newest_numbered x xs = rw (eq-eqb (suc (length xs)) (suc (length xs)) refl)

pub older_numbered : (x : Copy) (xs : List Copy) (c : ℕ) → c ≤ length xs → numbered (x ∷ xs) c ≡ numbered xs c
unfolding numbered
older_numbered x xs c h = rw (ne_eqb c (suc (length xs)) (omega arith))

pub numbered_in : (cs : List Copy) (c : ℕ) → 0 < c → c ≤ length cs → Memᴰ (numbered cs c) cs
unfolding numbered
numbered_in [] c h k = absurd (omega arith)
numbered_in (x ∷ xs) c h k = by (eqb c (suc (length xs))) refl (λ l. numbered_in xs c h l)
  where
    by : (t : Bool) → eqb c (suc (length xs)) ≡ t → (c ≤ length xs → Memᴰ (numbered xs c) xs) → Memᴰ (if t then x else numbered xs c) (x ∷ xs)
    by true e ih = Memᴰ.head refl
    by false e ih = Memᴰ.tail (ih (omega tests))

-- what holds from each copy to each older one
pub pairs_at : (R : Copy → Copy → Type 0) (cs : List Copy) → Pairs R cs → (a b : ℕ) → 0 < a → a < b → b ≤ length cs → R (numbered cs b) (numbered cs a)
unfolding numbered
pairs_at R [] r a b h k l = absurd (omega arith)
pairs_at R (x ∷ xs) r a b h k l = rw (ne_eqb a (suc (length xs)) (omega arith)) (by (eqb b (suc (length xs))) refl (λ u. pairs_at R xs r.1 a b h k u))
  where
    by : (t : Bool) → eqb b (suc (length xs)) ≡ t → (b ≤ length xs → R (numbered xs b) (numbered xs a)) → R (if t then x else numbered xs b) (numbered xs a)
    by true e ih = each_at (R x) xs r.0 (numbered xs a) (numbered_in xs a h (omega arith))
    by false e ih = ih (omega tests)

-- a stamp that copy a has and the newer copy c has not is in no copy b newer than c
pub return_at : (cs : List Copy) → NoReturn cs → (a c b s : ℕ) → 0 < a → a < c → c < b → b ≤ length cs →
    live (numbered cs a) s ≡ true → live (numbered cs c) s ≡ false → live (numbered cs b) s ≡ false
unfolding numbered NoReturn
return_at [] r a c b s h i k l = absurd (omega arith)
return_at (x ∷ xs) r a c b s h i k l =
    rw (ne_eqb a (suc (length xs)) (omega arith), ne_eqb c (suc (length xs)) (omega arith)) (by (eqb b (suc (length xs))) refl (λ u. return_at xs r.1 a c b s h i k u))
  where
    by : (t : Bool) → eqb b (suc (length xs)) ≡ t → (b ≤ length xs → live (numbered xs a) s ≡ true → live (numbered xs c) s ≡ false → live (numbered xs b) s ≡ false) →
        live (numbered xs a) s ≡ true → live (numbered xs c) s ≡ false → live (if t then x else numbered xs b) s ≡ false
    by true e ih = pairs_at (λ (mid old : Copy). (u : ℕ) → live old u ≡ true → live mid u ≡ false → live x u ≡ false) xs r.0 a c h i (omega tests) s
    by false e ih = ih (omega tests)

-- copies that are the same number by number are the same list
pub numbered_same : (cs ds : List Copy) → length cs ≡ length ds → ((n : ℕ) → 0 < n → n ≤ length cs → numbered cs n ≡ numbered ds n) → cs ≡ ds
numbered_same [] [] l e = refl
numbered_same [] (d ∷ ds) l e = absurd (omega arith)
numbered_same (c ∷ cs) [] l e = absurd (omega arith)
numbered_same (c ∷ cs) (d ∷ ds) l e =
    let k : length cs ≡ length ds = omega arith in
    let p : c ≡ d = sym (newest_numbered c cs) ∙ e (suc (length cs)) (omega arith) (omega arith) ∙ ap (λ (n : ℕ). numbered (d ∷ ds) (suc n)) k ∙ newest_numbered d ds in
    let q : cs ≡ ds = numbered_same cs ds k (λ n h i. sym (older_numbered c cs n i) ∙ e n h (omega arith) ∙ older_numbered d ds n (omega arith)) in
    λ i. p i ∷ q i
