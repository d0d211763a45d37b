-- The laws of `oldest`, `newest` and `tab`.
use Rattle.std.specs.Prelude.{if◌then◌else◌}
use mathlib.Core.Path.{◌≡◌, refl, sym, ap}
use mathlib.Core.Bool.{Bool, true, false}
use mathlib.Core.List.{◌∷◌}
use Prim.Native.Nat.{ℕ, zero, suc, ◌≤◌, ◌<◌}
use native.Mathlib.Omega.{arith}
use lib.Dec.{leb, eqb}
use lib.ListN.{length, get_or}
use borrow.Author.Tests.{ne_eqb, eq-eqb}
use Rattle.laws.specs.Search.{oldest, newest, tab}
use Rattle.laws.proofs.Tests.{tests}

module _ (p : ℕ → Bool) where
  pub oldest_none : (n : ℕ) → ((c : ℕ) → 0 < c → c ≤ n → p c ≡ false) → oldest p n ≡ 0
  unfolding oldest
  oldest_none zero h = refl
  oldest_none (suc n) h = rw (oldest_none n (λ c a b. h c a (omega arith)), h (suc n) (omega arith) (omega arith))

  pub oldest_is : (n b : ℕ) → 0 < b → b ≤ n → p b ≡ true → ((c : ℕ) → 0 < c → c < b → p c ≡ false) → oldest p n ≡ b
  unfolding oldest
  oldest_is zero b hb hn hp h = absurd (omega arith)
  oldest_is (suc n) b hb hn hp h = go (leb b n) refl (λ k. oldest_is n b hb k hp h)
    where
      go : (t : Bool) → leb b n ≡ t → (b ≤ n → oldest p n ≡ b) → oldest p (suc n) ≡ b
      go true e ih =
          let f : oldest p n ≡ b = ih (omega tests) in
          rw (f, ne_eqb b 0 (omega arith))
      go false e ih =
          let f : oldest p n ≡ 0 = oldest_none n (λ c a k. h c a (omega tests)) in
          let g : b ≡ suc n = omega tests in
          let x : p (suc n) ≡ true = rw g at hp in
          rw (f, x) (sym g)

  pub newest_none : (n : ℕ) → ((c : ℕ) → 0 < c → c ≤ n → p c ≡ false) → newest p n ≡ 0
  unfolding newest
  newest_none zero h = refl
  newest_none (suc n) h = rw (h (suc n) (omega arith) (omega arith)) (newest_none n (λ c a b. h c a (omega arith)))

  pub newest_is : (n l : ℕ) → 0 < l → l ≤ n → p l ≡ true → ((c : ℕ) → l < c → c ≤ n → p c ≡ false) → newest p n ≡ l
  unfolding newest
  newest_is zero l hl hn hp h = absurd (omega arith)
  newest_is (suc n) l hl hn hp h = go (leb l n) refl (λ k. newest_is n l hl k hp (λ c a b. h c a (omega arith)))
    where
      go : (t : Bool) → leb l n ≡ t → (l ≤ n → newest p n ≡ l) → newest p (suc n) ≡ l
      go true e ih = rw (h (suc n) (omega tests) (omega arith)) (ih (omega tests))
      go false e ih =
          let g : l ≡ suc n = omega tests in
          let x : p (suc n) ≡ true = rw g at hp in
          rw x (sym g)

-- two tests that agree on the copies
module _ (p q : ℕ → Bool) where
  pub oldest_same : (n : ℕ) → ((c : ℕ) → 0 < c → c ≤ n → p c ≡ q c) → oldest p n ≡ oldest q n
  unfolding oldest
  oldest_same zero h = refl
  oldest_same (suc n) h = rw (oldest_same n (λ c a b. h c a (omega arith)), h (suc n) (omega arith) (omega arith))

  pub newest_same : (n : ℕ) → ((c : ℕ) → 0 < c → c ≤ n → p c ≡ q c) → newest p n ≡ newest q n
  unfolding newest
  newest_same zero h = refl
  newest_same (suc n) h = rw (newest_same n (λ c a b. h c a (omega arith)), h (suc n) (omega arith) (omega arith))

-- what is found is in range
pub newest_le : (p : ℕ → Bool) (n : ℕ) → newest p n ≤ n
unfolding newest
newest_le p zero = omega arith
newest_le p (suc n) = go (p (suc n)) (newest_le p n)
  where
    go : (t : Bool) → newest p n ≤ n → (if t then suc n else newest p n) ≤ suc n
    go true ih = omega arith
    go false ih = omega arith

-- what is found
pub data Oldest (p : ℕ → Bool) (n b : ℕ) : Type 0 where
  never : b ≡ 0 → ((c : ℕ) → 0 < c → c ≤ n → p c ≡ false) → Oldest p n b
  since : 0 < b → b ≤ n → p b ≡ true → ((c : ℕ) → 0 < c → c < b → p c ≡ false) → Oldest p n b

pub data Newest (p : ℕ → Bool) (n l : ℕ) : Type 0 where
  none : l ≡ 0 → ((c : ℕ) → 0 < c → c ≤ n → p c ≡ false) → Newest p n l
  until : 0 < l → l ≤ n → p l ≡ true → ((c : ℕ) → l < c → c ≤ n → p c ≡ false) → Newest p n l

-- a fact of the copies below n + 1, and of n + 1
one_more : (P : ℕ → Type 0) (a n : ℕ) → ((c : ℕ) → a < c → c ≤ n → P c) → P (suc n) → (c : ℕ) → a < c → c ≤ suc n → P c
one_more P a n f x c h k = go (leb c n) refl
  where
    go : (t : Bool) → leb c n ≡ t → P c
    go true e = f c h (omega tests)
    go false e = let z : suc n ≡ c = omega tests in rw z at x

pub oldest_spec : (p : ℕ → Bool) (n : ℕ) → Oldest p n (oldest p n)
unfolding oldest
oldest_spec p zero = never refl (λ c h k. absurd (omega arith))
oldest_spec p (suc n) = go (p (suc n)) refl (oldest p n) (oldest_spec p n)
  where
    go : (t : Bool) → p (suc n) ≡ t → (b : ℕ) → Oldest p n b → Oldest p (suc n) (if eqb b 0 then (if t then suc n else 0) else b)
    go true e b (never h f) = rw (eq-eqb b 0 h) (since (omega arith) (omega arith) e (λ c u v. f c u (omega arith)))
    go false e b (never h f) = rw (eq-eqb b 0 h) (never refl (one_more (λ c. p c ≡ false) 0 n f e))
    go t e b (since h k q f) = rw (ne_eqb b 0 (omega arith)) (since h (omega arith) q f)

pub newest_spec : (p : ℕ → Bool) (n : ℕ) → Newest p n (newest p n)
unfolding newest
newest_spec p zero = none refl (λ c h k. absurd (omega arith))
newest_spec p (suc n) = go (p (suc n)) refl (newest p n) (newest_spec p n)
  where
    go : (t : Bool) → p (suc n) ≡ t → (l : ℕ) → Newest p n l → Newest p (suc n) (if t then suc n else l)
    go true e l s = until (omega arith) (omega arith) e (λ c u v. absurd (omega arith))
    go false e l (none h f) = none h (one_more (λ c. p c ≡ false) 0 n f e)
    go false e l (until h k q f) = until h (omega arith) q (one_more (λ c. p c ≡ false) l n f e)

-- ---- tables

pub length_tab : (n : ℕ) (f : ℕ → ℕ) → length (tab n f) ≡ n
unfolding tab
length_tab zero f = refl
length_tab (suc n) f = ap suc (length_tab n (λ i. f (suc i)))

pub get_or_tab : (n : ℕ) (f : ℕ → ℕ) (i : ℕ) → i < n → get_or (tab n f) i 0 ≡ f i
unfolding tab
get_or_tab zero f i h = absurd (omega arith)
get_or_tab (suc n) f zero h = refl
get_or_tab (suc n) f (suc i) h = get_or_tab n (λ k. f (suc k)) i (omega arith)

pub tab_same : (n : ℕ) (f g : ℕ → ℕ) → ((i : ℕ) → i < n → f i ≡ g i) → tab n f ≡ tab n g
unfolding tab
tab_same zero f g h = refl
tab_same (suc n) f g h = λ k. h zero (omega arith) k ∷ tab_same n (λ i. f (suc i)) (λ i. g (suc i)) (λ i x. h (suc i) (omega arith)) k
