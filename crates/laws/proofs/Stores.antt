-- What a number of turns leaves of what they do not touch, and of what one turn alone touches. Then loops of stores: each turn stores at an address of its own,
-- or skips.
use Rattle.std.specs.Prelude.{if◌then◌else◌}
use mathlib.Core.Bool.{Bool, true, false}
use mathlib.Core.List.{List}
use mathlib.Core.Logic.{⊎_elim}
use mathlib.Core.Path.{◌≡◌, refl, sym, ap, ◌∙◌}
use Prim.Native.Nat.{ℕ, zero, suc, ◌<◌}
use native.Mathlib.Nat.{eq-or-lt_of_le, le_of_suc-le-suc}
use native.Mathlib.Omega.{arith}
use lib.ListN.{length, get_or, set, length-set}
use lib.Seq.{get_or-set_same, get_or-set_other}
use Rattle.laws.specs.Loops.{run}

module _ {A B : Type 0} (f : ℕ → A → A) (g : A → B) where
  -- what no turn changes stays
  pub run_keeps : (k : ℕ) (s : A) → ((n : ℕ) → n < k → (x : A) → g (f n x) ≡ g x) → g (run f k s) ≡ g s
  unfolding run
  run_keeps zero s h = refl
  run_keeps (suc k) s h = h k (omega arith) (run f k s) ∙ run_keeps k s (λ n l. h n (omega arith))

  -- what no turn after turn i changes is as turn i left it
  pub run_once : (i k : ℕ) (s : A) → i < k → ((n : ℕ) → i < n → n < k → (x : A) → g (f n x) ≡ g x) → g (run f k s) ≡ g (f i (run f i s))
  unfolding run
  run_once i zero s l h = absurd (omega arith)
  run_once i (suc k) s l h =
      ⊎_elim (λ e. rw e) (λ p. h k p (omega arith) (run f k s) ∙ run_once i k s p (λ n a b. h n a (omega arith))) (eq-or-lt_of_le (le_of_suc-le-suc l))

-- one list l of the state: turn i stores v i at address at i, unless it skips
pub record Stores {A : Type 0} (l : A → List ℕ) (f : ℕ → A → A) (at : ℕ → ℕ) (skip : ℕ → Bool) (v : ℕ → A → ℕ) : Type 0 where
  pub apart : (i n : ℕ) → at i ≡ at n → i ≡ n
  pub turn : (i : ℕ) (x : A) → l (f i x) ≡ (if skip i then l x else set (l x) (at i) (v i x))

module _ {A : Type 0} (l : A → List ℕ) (f : ℕ → A → A) (at : ℕ → ℕ) (skip : ℕ → Bool) (v : ℕ → A → ℕ) (w : Stores l f at skip v) where
  turn_length : (i : ℕ) (x : A) → length (l (f i x)) ≡ length (l x)
  turn_length i x = ap length (w.turn i x) ∙ by (skip i)
    where
      by : (b : Bool) → length (if b then l x else set (l x) (at i) (v i x)) ≡ length (l x)
      by true = refl
      by false = length-set (l x) (at i) (v i x)

  turn_elsewhere : (i : ℕ) (x : A) (a : ℕ) → (skip i ≡ false → at i ≡ a → ⊥) → get_or (l (f i x)) a 0 ≡ get_or (l x) a 0
  turn_elsewhere i x a h = ap (λ (t : List ℕ). get_or t a 0) (w.turn i x) ∙ by (skip i) refl
    where
      by : (b : Bool) → skip i ≡ b → get_or (if b then l x else set (l x) (at i) (v i x)) a 0 ≡ get_or (l x) a 0
      by true e = refl
      by false e = get_or-set_other (l x) (at i) a (v i x) 0 (λ q. h e (sym q))

  turn_there : (i : ℕ) (x : A) → skip i ≡ false → at i < length (l x) → get_or (l (f i x)) (at i) 0 ≡ v i x
  turn_there i x e h = ap (λ (t : List ℕ). get_or t (at i) 0) (w.turn i x) ∙ rw e (get_or-set_same (l x) (at i) (v i x) 0 h)

  pub stores_length : (k : ℕ) (s : A) → length (l (run f k s)) ≡ length (l s)
  stores_length k s = run_keeps f (λ x. length (l x)) k s (λ n h x. turn_length n x)

  pub stores_elsewhere : (k : ℕ) (s : A) (a : ℕ) → ((n : ℕ) → n < k → skip n ≡ false → at n ≡ a → ⊥) → get_or (l (run f k s)) a 0 ≡ get_or (l s) a 0
  stores_elsewhere k s a h = run_keeps f (λ x. get_or (l x) a 0) k s (λ n b x. turn_elsewhere n x a (h n b))

  -- before turn i its own address is as it came
  pub stores_before : (i : ℕ) (s : A) → get_or (l (run f i s)) (at i) 0 ≡ get_or (l s) (at i) 0
  stores_before i s = stores_elsewhere i s (at i) (λ n h e q. let z : n ≡ i = w.apart n i q in omega arith)

  pub stores_there : (k : ℕ) (s : A) (i : ℕ) → i < k → skip i ≡ false → at i < length (l s) → get_or (l (run f k s)) (at i) 0 ≡ v i (run f i s)
  stores_there k s i h e b =
      run_once f (λ x. get_or (l x) (at i) 0) i k s h (λ n p q x. turn_elsewhere n x (at i) (λ d z. let y : n ≡ i = w.apart n i z in omega arith))
      ∙ turn_there i (run f i s) e (omega (arith, stores_length i s))
