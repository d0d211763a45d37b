-- Each return of `take_pair` and of `walk_args` is a step of the machine, and the trail leads back from it.
use mathlib.Core.Path.{◌≡◌, refl, sym, ap, ◌∙◌}
use mathlib.Core.Bool.{false}
use lib.Dec.{eqb}
use mathlib.Core.List.{List, [], ◌∷◌, ◌++◌}
use Prim.Native.Nat.{ℕ, zero, suc, ◌+◌, ◌-◌, ◌*◌, ◌/◌, ◌%◌, ◌^◌, ◌<◌, ◌≤◌}
use native.Mathlib.Omega.{arith}
use native.Mathlib.Numerals.{sub-one, add-one}
use lib.ListN.{length, get_or, set, length-set}
use lib.Seq.{get_or-set_same, get_or-set_other, set-set, set-get_or}
use Rattle.std.specs.Prelude.{Result, Ok, Err}
use Rattle.words.specs.declared.Refusal.{Refusal}
use Rattle.words.specs.declared.Refusal.TheVariants as Refusals
use Rattle.words.specs.declared.Ref.{Ref}
use Rattle.words.specs.declared.Cell.TheVariants.{Bound}
use Rattle.words.specs.Words.{cell_word, ref_of}
use Rattle.words.specs.Answers.{status_of}
use Rattle.terms.specs.declared.unify.Taken.{Taken}
use Rattle.terms.specs.declared.unify.Taken.TheVariants.{Same, Bind, Arguments}
use Rattle.terms.specs.Unify.{look_of, Marked, marked, bind_in, Item, refs, args, left_of, right_of, arg_items, took_pair, solve, status_told}
use Rattle.terms.specs.Took.{go_on, entry_of, word_back, mark_back, undo_of, BoundTo, Took}
use Rattle.terms.proofs.Named.{binds_unbound, few_arguments}

-- ---- the trail leads back

undo_set : (v : ℕ → ℕ) (k i x : ℕ) (t xs : List ℕ) → k ≤ i → undo_of v k (set t i x) xs ≡ undo_of v k t xs
unfolding undo_of
undo_set v zero i x t xs p = refl
undo_set v (suc k) i x t xs p =
    let ne : k ≡ i → ⊥ = omega arith in
    rw (get_or-set_other t i k x 0 ne) (undo_set v k i x t (set xs (get_or t k 0 % 2 ^ 16) (v (get_or t k 0))) (omega arith))

-- an entry that names address a and puts back what stood there
undo_bind : (v : ℕ → ℕ) (k a e w : ℕ) (t xs : List ℕ) → k < length t → e % 2 ^ 16 ≡ a → v e ≡ get_or xs a 0 → undo_of v (k + 1) (set t k e) (set xs a w) ≡ undo_of v k t xs
unfolding undo_of
undo_bind v k a e w t xs p ea ev =
    rw (add-one k, get_or-set_same t k e 0 p, ea, set-set xs a w (v e), ev, set-get_or xs a 0) (undo_set v k k e t xs (omega arith))

module _ (a m : ℕ) (fa : a < 2 ^ 16) where
  entry_names : entry_of a m % 2 ^ 16 ≡ a
  entry_names = omega arith

  entry_marks : m < 2 ^ 8 → mark_back (entry_of a m) ≡ m
  unfolding mark_back
  entry_marks fm =
      let e : (a + m * 2 ^ 16) / 2 ^ 16 ≡ m = omega arith in
      rw e (omega arith)

-- ---- a pair is taken

solve_step : (n left : ℕ) (x : Item) (rest : List Item) (m : Marked) → (left ≡ 0 → ⊥) →
    solve n left (x ∷ rest) m ≡ took_pair n (solve n (left - 1)) (left - 1) rest m (look_of m.heap m.turned (left_of m.heap x) (right_of m.heap x))
unfolding solve
solve_step n zero x rest m p = absurd (p refl)
solve_step n (suc left) x rest m p = rw (sub-one (suc left))

-- a refusal's status is not 0
pub stops : (e : Refusal) → eqb (status_of e) 0 ≡ false
stops Refusals.Differ = refl
stops Refusals.NoStep = refl
stops Refusals.NoRegion = refl
stops Refusals.Dead = refl
stops Refusals.NoPage = refl
stops Refusals.NoSlot = refl
stops Refusals.NoStamp = refl
stops Refusals.TooManyCopies = refl
stops Refusals.NoCopy = refl
stops Refusals.PairsSpent = refl
stops Refusals.Unbound = refl

pub took_spent : (n : ℕ) (l r : Ref) (k left : ℕ) (h u t : List ℕ) → left ≡ 0 → Took n (refs l r ∷ []) k left h u t 10 k left h u t
unfolding go_on solve
took_spent n l r k left h u t e = record { through = λ rest. rw e; falls = omega arith; room = omega arith; long = refl; heap = refl; turned = refl }

module _ (n : ℕ) (l r : Ref) (k left : ℕ) (h u t : List ℕ) (some : left ≡ 0 → ⊥) where
  step : (y : Result Taken Refusal) → y ≡ look_of h u l r → (rest : List Item) → solve n left (refs l r ∷ rest) (marked h u) ≡ took_pair n (solve n (left - 1)) (left - 1) rest (marked h u) y
  unfolding left_of right_of
  step y e rest = solve_step n left (refs l r) rest (marked h u) some ∙ ap (took_pair n (solve n (left - 1)) (left - 1) rest (marked h u)) (sym e)

  pub took_same : Ok Same ≡ look_of h u l r → Took n (refs l r ∷ []) k left h u t 0 k (left - 1) h u t
  unfolding go_on took_pair
  took_same e = record { through = step (Ok Same) e; falls = omega arith; room = omega arith; long = refl; heap = refl; turned = refl }

  pub took_stop : (e : Refusal) → Err e ≡ look_of h u l r → Took n (refs l r ∷ []) k left h u t (status_of e) k (left - 1) h u t
  unfolding go_on took_pair
  took_stop e q = record { through = λ rest. step (Err e) q rest ∙ rw (stops e); falls = omega arith; room = omega arith; long = refl; heap = refl; turned = refl }

  pub took_bind : (p q : Ref) (status k' left' : ℕ) (h' u' t' : List ℕ) → k + left ≤ 4096 → 4096 ≤ length t → Ok (Bind p q) ≡ look_of h u l r →
      BoundTo n p q k (left - 1) h u t status k' left' h' u' t' → Took n (refs l r ∷ []) k left h u t status k' left' h' u' t'
  unfolding go_on took_pair bind_in word_back
  took_bind p q status k' left' h' u' t' room long e d =
      let ek : k' ≡ k + 1 = d.count ∙ omega arith in
      let old : ℕ = get_or u p.address 0 in
      let entry : ℕ = entry_of p.address old in
      let names : entry % 2 ^ 16 ≡ p.address = entry_names p.address old d.address in
      record {
        through = λ rest. rw (d.ok, d.heap, d.turned, d.rest) (step (Ok (Bind p q)) e rest);
        falls = omega (arith, d.rest);
        room = omega (arith, d.rest, ek);
        long = ap length d.trail ∙ length-set t k entry;
        heap = rw (d.heap, d.trail, ek) (undo_bind word_back k p.address entry (cell_word 12 (Bound q)) t h (omega arith) names (binds_unbound h u l r p q e));
        turned = rw (d.turned, d.trail, ek) (undo_bind mark_back k p.address entry n t u (omega arith) names (entry_marks p.address old d.address d.mark));
      }

  pub took_args : (a b m status k' left' : ℕ) (h' u' t' : List ℕ) → Ok (Arguments a b m) ≡ look_of h u l r → Took n (arg_items a b 0 (m - 0)) k (left - 1) h u t status k' left' h' u' t' →
      Took n (refs l r ∷ []) k left h u t status k' left' h' u' t'
  unfolding took_pair
  took_args a b m status k' left' h' u' t' e d =
      let em : m - 0 ≡ m = omega arith in
      record {
        through = λ rest. step (Ok (Arguments a b m)) e rest ∙ rw em at (d.through rest);
        falls = omega (arith, d.falls);
        room = omega (arith, d.room);
        long = d.long;
        heap = d.heap;
        turned = d.turned;
      }

  -- 17 for each pair that may still be taken: more than the arguments of a structure
  pub walk_falls : (y a b m : ℕ) → left * 17 ≡ y → Ok (Arguments a b m) ≡ look_of h u l r → (left - 1) * 17 + (m - 0) + 1 < y
  walk_falls y a b m e em = omega (arith, few_arguments h u l r a b m em)

-- ---- the arguments are walked

solve_read : (n left i j : ℕ) (rest : List Item) (m : Marked) → solve n left (args i j ∷ rest) m ≡ solve n left (refs (ref_of 12 (get_or m.heap i 0)) (ref_of 12 (get_or m.heap j 0)) ∷ rest) m
unfolding solve left_of right_of
solve_read n zero i j rest m = refl
solve_read n (suc left) i j rest m = refl

pub walk_done : (n a b i m k left : ℕ) (h u t : List ℕ) → m ≤ i → Took n (arg_items a b i (m - i)) k left h u t 0 k left h u t
unfolding go_on arg_items
walk_done n a b i m k left h u t p =
    let e : m - i ≡ 0 = omega arith in
    record { through = λ rest. rw e; falls = omega arith; room = omega arith; long = refl; heap = refl; turned = refl }

module _ (n a b i m : ℕ) (l r : Ref) (k left : ℕ) (h u t : List ℕ) (o : Result (Unit {0}) Refusal) (k' left' : ℕ) (h' u' t' : List ℕ)
    (p : i < m) (el : l ≡ ref_of 12 (get_or h (a + (i + 1)) 0)) (er : r ≡ ref_of 12 (get_or h (b + (i + 1)) 0))
    (d : Took n (refs l r ∷ []) k left h u t (status_told o) k' left' h' u' t') where
  first : (rest : List Item) → solve n left (arg_items a b i (m - i) ++ rest) (marked h u) ≡ go_on n (status_told o) left' (arg_items a b (i + 1) (m - (i + 1)) ++ rest) (marked h' u')
  unfolding arg_items
  first rest =
      let e : m - i ≡ suc (m - (i + 1)) = omega arith in
      rw e (solve_read n left (a + (i + 1)) (b + (i + 1)) (arg_items a b (i + 1) (m - (i + 1)) ++ rest) (marked h u) ∙ rw (← el, ← er) (d.through (arg_items a b (i + 1) (m - (i + 1)) ++ rest)))

  pub walk_stop : (e : Refusal) → o ≡ Err e → Took n (arg_items a b i (m - i)) k left h u t (status_of e) k' left' h' u' t'
  unfolding go_on
  walk_stop e z =
      record {
        through = λ rest. first rest ∙ rw (z, stops e);
        falls = d.falls;
        room = d.room;
        long = d.long;
        heap = d.heap;
        turned = d.turned;
      }

  pub walk_on : (n' : ℕ) (v : Unit {0}) (status : ℕ) (k'' left'' : ℕ) (h'' u'' t'' : List ℕ) → n' ≡ n → o ≡ Ok v → Took n' (arg_items a b (i + 1) (m - (i + 1))) k' left' h' u' t' status k'' left'' h'' u'' t'' →
      Took n (arg_items a b i (m - i)) k left h u t status k'' left'' h'' u'' t''
  unfolding go_on
  walk_on n' v status k'' left'' h'' u'' t'' en z q =
      record {
        through = λ rest. first rest ∙ rw (z, ← en) (q.through rest);
        falls = omega (arith, d.falls, q.falls);
        room = omega (arith, d.room, q.room);
        long = q.long ∙ d.long;
        heap = q.heap ∙ d.heap;
        turned = q.turned ∙ d.turned;
      }
