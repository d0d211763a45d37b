-- Laws of lists, tests and `Each` and `Pairs`. Nothing here is about the machine.
use Rattle.std.specs.Prelude.{if◌then◌else◌, Some}
use mathlib.Core.Path.{◌≡◌, refl, sym, ap, ◌∙◌, subst}
use mathlib.Core.Bool.{Bool, true, false, not, ◌||◌, true≢false}
use mathlib.Core.Logic.{◌⊎◌, inl, inr, ◌≢◌}
use mathlib.Core.List.Memᴰ
use mathlib.Core.List.{List, [], ◌∷◌, ◌++◌, map, Memᴰ}
use Rattle.laws.proofs.Options.{none_ne_some, some_injective}
use Prim.Native.Nat.{ℕ, zero, suc, ◌≤◌}
use native.Mathlib.Omega.{arith}
use lib.ListN.{length, get_or, set, replicate}
use Rattle.laws.specs.Base.{keep, first, some_of, Each, Pairs}

pub each_replicate : {A : Type 0} (P : A → Type 0) (n : ℕ) (x : A) → P x → Each P (replicate n x)
each_replicate P zero x h = tt
each_replicate P (suc n) x h = (h, each_replicate P n x h)

pub each_of : {A : Type 0} (P : A → Type 0) (l : List A) → ((x : A) → P x) → Each P l
each_of P [] h = tt
each_of P (x ∷ xs) h = (h x, each_of P xs h)

pub each_at : {A : Type 0} (P : A → Type 0) (l : List A) → Each P l → (x : A) → Memᴰ x l → P x
each_at P [] e x h = absurd (Memᴰ.not-nil h)
each_at P (y ∷ ys) e x h = by (Memᴰ.cases_cons h) (λ k. each_at P ys e.1 x k)
  where
    by : (x ≡ y) ⊎ Memᴰ x ys → (Memᴰ x ys → P x) → P x
    by (inl q) k = subst P (sym q) e.0
    by (inr m) k = k m

-- the two tests of an `if`
module _ {A : Type 0} (f : A → Bool) where
  pub keep_yes : (x : A) (xs : List A) → f x ≡ true → keep f (x ∷ xs) ≡ x ∷ keep f xs
  keep_yes x xs e = rw e

  pub keep_no : (x : A) (xs : List A) → f x ≡ false → keep f (x ∷ xs) ≡ keep f xs
  keep_no x xs e = rw e

  -- what is kept passes the test, and was there
  pub kept_at : (l : List A) (x : A) → Memᴰ x (keep f l) → Memᴰ x l × (f x ≡ true)
  kept_at [] x h = absurd (Memᴰ.not-nil h)
  kept_at (y ∷ ys) x h = by (f y) refl h (λ k. kept_at ys x k)
    where
      by : (t : Bool) → f y ≡ t → Memᴰ x (if t then y ∷ keep f ys else keep f ys) → (Memᴰ x (keep f ys) → Memᴰ x ys × (f x ≡ true)) →
          Memᴰ x (y ∷ ys) × (f x ≡ true)
      by true e k ih = at (Memᴰ.cases_cons k)
        where
          at : (x ≡ y) ⊎ Memᴰ x (keep f ys) → Memᴰ x (y ∷ ys) × (f x ≡ true)
          at (inl q) = (Memᴰ.head q, ap f q ∙ e)
          at (inr m) = (Memᴰ.tail (ih m).0, (ih m).1)
      by false e k ih = (Memᴰ.tail (ih k).0, (ih k).1)

  pub keep_at : (l : List A) (x : A) → Memᴰ x l → f x ≡ true → Memᴰ x (keep f l)
  keep_at [] x h e = absurd (Memᴰ.not-nil h)
  keep_at (y ∷ ys) x h e = by (f y) refl (Memᴰ.cases_cons h) (λ k. keep_at ys x k e)
    where
      by : (t : Bool) → f y ≡ t → (x ≡ y) ⊎ Memᴰ x ys → (Memᴰ x ys → Memᴰ x (keep f ys)) → Memᴰ x (if t then y ∷ keep f ys else keep f ys)
      by true q (inl a) ih = Memᴰ.head a
      by true q (inr m) ih = Memᴰ.tail (ih m)
      by false q (inl a) ih = absurd (true≢false (sym e ∙ ap f a ∙ q))
      by false q (inr m) ih = ih m

-- a stamp that is not in one list cannot be dropped twice from another
pub cut_out : (x : ℕ) (ys : List ℕ) → Memᴰ x ys → (zs : List ℕ) × (length ys ≡ suc (length zs)) × ((y : ℕ) → Memᴰ y ys → y ≢ x → Memᴰ y zs)
cut_out x [] h = absurd (Memᴰ.not-nil h)
cut_out x (y ∷ ys) h = by (Memᴰ.cases_cons h) (λ k. cut_out x ys k)
  where
    by : (x ≡ y) ⊎ Memᴰ x ys → (Memᴰ x ys → (zs : List ℕ) × (length ys ≡ suc (length zs)) × ((z : ℕ) → Memᴰ z ys → z ≢ x → Memᴰ z zs)) →
        (zs : List ℕ) × (suc (length ys) ≡ suc (length zs)) × ((z : ℕ) → Memᴰ z (y ∷ ys) → z ≢ x → Memᴰ z zs)
    by (inl e) ih = (ys, refl, λ z m n. at z n (Memᴰ.cases_cons m))
      where
        at : (z : ℕ) → z ≢ x → (z ≡ y) ⊎ Memᴰ z ys → Memᴰ z ys
        at z n (inl q) = absurd (n (q ∙ sym e))
        at z n (inr m) = m
    by (inr k) ih = (y ∷ (ih k).0, ap suc (ih k).1, λ z m n. at z n (Memᴰ.cases_cons m))
      where
        at : (z : ℕ) → z ≢ x → (z ≡ y) ⊎ Memᴰ z ys → Memᴰ z (y ∷ (ih k).0)
        at z n (inl q) = Memᴰ.head q
        at z n (inr m) = Memᴰ.tail ((ih k).2 z m n)

abbrev pub Distinct : List ℕ → Type 0
Distinct = Pairs (λ (a b : ℕ). a ≢ b)

pub no_more : (xs ys : List ℕ) → Distinct xs → ((x : ℕ) → Memᴰ x xs → Memᴰ x ys) → length xs ≤ length ys
no_more [] ys d h = omega arith
no_more (x ∷ xs) ys d h =
    let r = cut_out x ys (h x (Memᴰ.head refl)) in
    let k : length xs ≤ length r.0 =
    no_more xs r.0 d.1 (λ y m. r.2 y (h y (Memᴰ.tail m)) (λ e. each_at (λ (b : ℕ). x ≢ b) xs d.0 y m (sym e))) in
    omega (arith, r.1)

pub each_map : {A B : Type 0} (P : B → Type 0) (f : A → B) (l : List A) → Each (λ x. P (f x)) l → Each P (map f l)
each_map P f [] h = tt
each_map P f (x ∷ xs) h = (h.0, each_map P f xs h.1)

pub pairs_map : {A B : Type 0} (R : B → B → Type 0) (f : A → B) (l : List A) → Pairs (λ x y. R (f x) (f y)) l → Pairs R (map f l)
pairs_map R f [] h = tt
pairs_map R f (x ∷ xs) h = (each_map (R (f x)) f xs h.0, pairs_map R f xs h.1)

pub each_imp : {A : Type 0} (P Q : A → Type 0) (l : List A) → ((x : A) → Memᴰ x l → P x → Q x) → Each P l → Each Q l
each_imp P Q [] h e = tt
each_imp P Q (x ∷ xs) h e = (h x (Memᴰ.head refl) e.0, each_imp P Q xs (λ y m. h y (Memᴰ.tail m)) e.1)

pub pairs_imp_at : {A : Type 0} (P Q : A → A → Type 0) (l : List A) → ((x y : A) → Memᴰ x l → Memᴰ y l → P x y → Q x y) → Pairs P l → Pairs Q l
pairs_imp_at P Q [] h e = tt
pairs_imp_at P Q (x ∷ xs) h e = (
  each_imp (P x) (Q x) xs (λ y m. h x y (Memᴰ.head refl) (Memᴰ.tail m)) e.0,
  pairs_imp_at P Q xs (λ y z m n. h y z (Memᴰ.tail m) (Memᴰ.tail n)) e.1,
)

pub pairs_imp : {A : Type 0} (P Q : A → A → Type 0) (l : List A) → ((x y : A) → P x y → Q x y) → Pairs P l → Pairs Q l
pairs_imp P Q l h = pairs_imp_at P Q l (λ x y m n. h x y)

pub each_append : {A : Type 0} (P : A → Type 0) (a b : List A) → Each P a → Each P b → Each P (a ++ b)
each_append P [] b h k = k
each_append P (x ∷ xs) b h k = (h.0, each_append P xs b h.1 k)

pub each_by : {A : Type 0} (P : A → Type 0) (l : List A) → ((x : A) → Memᴰ x l → P x) → Each P l
each_by P [] h = tt
each_by P (x ∷ xs) h = (h x (Memᴰ.head refl), each_by P xs (λ y m. h y (Memᴰ.tail m)))

pub pairs_append : {A : Type 0} (R : A → A → Type 0) (a b : List A) → Pairs R a → Pairs R b → ((x y : A) → Memᴰ x a → Memᴰ y b → R x y) → Pairs R (a ++ b)
pairs_append R [] b h k c = k
pairs_append R (x ∷ xs) b h k c = (
  each_append (R x) xs b h.0 (each_by (R x) b (λ y m. c x y (Memᴰ.head refl) m)),
  pairs_append R xs b h.1 k (λ y z m n. c y z (Memᴰ.tail m) n),
)

pub pairs_keep : {A : Type 0} (R : A → A → Type 0) (f : A → Bool) (l : List A) → Pairs R l → Pairs R (keep f l)
pairs_keep R f [] h = tt
pairs_keep R f (x ∷ xs) h = by (f x) (pairs_keep R f xs h.1)
  where
    by : (t : Bool) → Pairs R (keep f xs) → Pairs R (if t then x ∷ keep f xs else keep f xs)
    by true k = (each_by (R x) (keep f xs) (λ y m. each_at (R x) xs h.0 y (kept_at f xs y m).0), k)
    by false k = k

pub some_yes : {A : Type 0} (f : A → Bool) (l : List A) (x : A) → Memᴰ x l → f x ≡ true → some_of f l ≡ true
some_yes f [] x h e = absurd (Memᴰ.not-nil h)
some_yes f (y ∷ ys) x h e = by (f y) refl (Memᴰ.cases_cons h) (λ m. some_yes f ys x m e)
  where
    by : (t : Bool) → f y ≡ t → (x ≡ y) ⊎ Memᴰ x ys → (Memᴰ x ys → some_of f ys ≡ true) → (t || some_of f ys) ≡ true
    by true q a ih = refl
    by false q (inl a) ih = absurd (true≢false (sym e ∙ ap f a ∙ q))
    by false q (inr m) ih = ih m

pub some_at : {A : Type 0} (f : A → Bool) (l : List A) → some_of f l ≡ true → (x : A) × Memᴰ x l × (f x ≡ true)
some_at f [] e = absurd (true≢false (sym e))
some_at {A} f (y ∷ ys) e = by (f y) refl e (λ k. some_at f ys k)
  where
    by : (t : Bool) → f y ≡ t → (t || some_of f ys) ≡ true → (some_of f ys ≡ true → (x : A) × Memᴰ x ys × (f x ≡ true)) → (x : A) × Memᴰ x (y ∷ ys) × (f x ≡ true)
    by true q k ih = (y, Memᴰ.head refl, q)
    by false q k ih = ((ih k).0, Memᴰ.tail (ih k).1, (ih k).2)

-- what is found first passes the test, and is there
pub first_at : {A : Type 0} (f : A → Bool) (l : List A) (x : A) → first f l ≡ Some x → Memᴰ x l × (f x ≡ true)
first_at f [] x e = absurd (none_ne_some x e)
first_at f (y ∷ ys) x e = by (f y) refl e (λ k. first_at f ys x k)
  where
    by : (t : Bool) → f y ≡ t → (if t then Some y else first f ys) ≡ Some x → (first f ys ≡ Some x → Memᴰ x ys × (f x ≡ true)) → Memᴰ x (y ∷ ys) × (f x ≡ true)
    by true q k ih = let z : y ≡ x = some_injective y x k in (Memᴰ.head (sym z), ap f (sym z) ∙ q)
    by false q k ih = (Memᴰ.tail (ih k).0, (ih k).1)

pub not_true : (b : Bool) → not b ≡ true → b ≡ false
not_true true e = sym e
not_true false e = refl

pub mem_left : {A : Type 0} (a b : List A) (x : A) → Memᴰ x a → Memᴰ x (a ++ b)
mem_left [] b x h = absurd (Memᴰ.not-nil h)
mem_left (y ∷ ys) b x h = by (Memᴰ.cases_cons h) (λ k. mem_left ys b x k)
  where
    by : (x ≡ y) ⊎ Memᴰ x ys → (Memᴰ x ys → Memᴰ x (ys ++ b)) → Memᴰ x (y ∷ (ys ++ b))
    by (inl e) ih = Memᴰ.head e
    by (inr m) ih = Memᴰ.tail (ih m)

pub mem_right : {A : Type 0} (a b : List A) (x : A) → Memᴰ x b → Memᴰ x (a ++ b)
mem_right [] b x h = h
mem_right (y ∷ ys) b x h = Memᴰ.tail (mem_right ys b x h)

pub mem_map : {A B : Type 0} (f : A → B) (l : List A) (y : B) → Memᴰ y (map f l) → (x : A) × Memᴰ x l × (y ≡ f x)
mem_map f [] y h = absurd (Memᴰ.not-nil h)
mem_map {A} f (x ∷ xs) y h = by (Memᴰ.cases_cons h) (λ k. mem_map f xs y k)
  where
    by : (y ≡ f x) ⊎ Memᴰ y (map f xs) → (Memᴰ y (map f xs) → (z : A) × Memᴰ z xs × (y ≡ f z)) → (z : A) × Memᴰ z (x ∷ xs) × (y ≡ f z)
    by (inl e) ih = (x, Memᴰ.head refl, e)
    by (inr m) ih = let k = ih m in (k.0, Memᴰ.tail k.1, k.2)

pub map_mem : {A B : Type 0} (f : A → B) (l : List A) (x : A) (y : B) → Memᴰ x l → y ≡ f x → Memᴰ y (map f l)
map_mem f [] x y h e = absurd (Memᴰ.not-nil h)
map_mem f (z ∷ zs) x y h e = by (Memᴰ.cases_cons h) (λ k. map_mem f zs x y k e)
  where
    by : (x ≡ z) ⊎ Memᴰ x zs → (Memᴰ x zs → Memᴰ y (map f zs)) → Memᴰ y (f z ∷ map f zs)
    by (inl q) ih = Memᴰ.head (e ∙ ap f q)
    by (inr m) ih = Memᴰ.tail (ih m)

-- one element written: the others stay, and past the end nothing is written
pub each_set : {A : Type 0} (P : A → Type 0) (l : List A) (i : ℕ) (x : A) → Each P l → P x → Each P (set l i x)
each_set P [] i x h k = tt
each_set P (y ∷ ys) zero x h k = (k, h.1)
each_set P (y ∷ ys) (suc i) x h k = (h.0, each_set P ys i x h.1 k)

-- one element read: past the end it is the default
pub each_get_or : {A : Type 0} (P : A → Type 0) (l : List A) (i : ℕ) (x : A) → Each P l → P x → P (get_or l i x)
each_get_or P [] i x h k = k
each_get_or P (y ∷ ys) zero x h k = h.0
each_get_or P (y ∷ ys) (suc i) x h k = each_get_or P ys i x h.1 k
