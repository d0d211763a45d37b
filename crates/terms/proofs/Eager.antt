-- To read an argument when its pair is taken is to read it when the heads meet, where no word after a head is an unbound variable: a binding changes no other word.
use Rattle.std.specs.Prelude.{Result, Ok, Err}
use mathlib.Core.Path.{◌≡◌, refl, sym, ap, subst, ◌∙◌}
use mathlib.Core.Bool.{Bool, true, false, ◌&&◌, true≢false}
use mathlib.Core.List.{List, [], ◌∷◌, ◌++◌}
use Prim.Native.Nat.{ℕ, zero, suc, ◌+◌, ◌<◌, ◌≤◌}
use native.Mathlib.Omega.{arith}
use native.Mathlib.Decide.{ℕ_discrete, dec_lt}
use lib.Dec.{eqb}
use lib.ListN.{length, get_or, set, get_or-eq_default}
use lib.Seq.{get_or-set_same, get_or-set_other}
use borrow.Author.Tests.{eqb-true}
use Rattle.words.specs.declared.Ref.{Ref}
use Rattle.words.specs.declared.Cell.{Cell}
use Rattle.words.specs.declared.Cell.TheVariants.{Unbound, Bound, Int, Head, Argument}
use Rattle.words.specs.declared.Word.{Word}
use Rattle.words.specs.Words.{cell_word, unpack_heap}
use Rattle.words.specs.Integers.{same_int}
use Rattle.words.specs.Fit.{RefFits, CellFits}
use Rattle.words.proofs.Rounds.{ref_in_lem}
use Rattle.machine.specs.declared.Found.{Found}
use Rattle.machine.specs.declared.Found.TheVariants.{Dead, At}
use Rattle.machine.specs.Unify.{Pair, younger}
use Rattle.store.specs.Pages.{live_ref}
use Rattle.terms.specs.declared.unify.Taken.{Taken}
use Rattle.terms.specs.declared.unify.Taken.TheVariants.{Same, Bind, Arguments}
use Rattle.words.specs.declared.Refusal.{Refusal}
use Rattle.words.specs.declared.Refusal.TheVariants as Refusals
use Rattle.terms.specs.Deref.{on_cell, on_word, deref_in, deref_of}
use Rattle.terms.specs.Unify.{meet_of, both_found, look_of, Marked, marked, bind_in, Item, refs, args, left_of, right_of, arg_items, took_pair, solve}
use Rattle.terms.specs.Eager.{pair, arg_pairs, took_now, solve_now, Whole}
use Rattle.laws.proofs.Conditions.{if_keeps}
use Rattle.terms.proofs.FoundWords.{found_says, filled_word, filled_fits}

-- ---- what is found fits its word

module _ (h : List ℕ) where
  Sits : Found → Type 0
  Sits Dead = Unit {0}
  Sits (At r c) = RefFits 12 r

  cell_sits : (r : Ref) (c : Cell) (next : Ref → Found) → RefFits 12 r → CellFits 12 c → ((s : Ref) → RefFits 12 s → Sits (next s)) → Sits (on_cell r c next)
  unfolding Sits CellFits
  cell_sits r Unbound next f g k = f
  cell_sits r (Bound s) next f g k = k s g
  cell_sits r (Int v) next f g k = f
  cell_sits r (Head i n) next f g k = f
  cell_sits r (Argument s) next f g k = tt

  word_sits : (r : Ref) (x : Word) (next : Ref → Found) → RefFits 12 r → unpack_heap 12 (get_or h r.address 0) ≡ x → ((s : Ref) → RefFits 12 s → Sits (next s)) → Sits (on_word r x next)
  unfolding Sits
  word_sits r Word.Empty next f e k = tt
  word_sits r (Word.Filled c) next f e k = cell_sits r c next f (filled_fits (get_or h r.address 0) c e) k
  word_sits r (Word.Linked l) next f e k = tt
  word_sits r Word.Broken next f e k = tt

  deref_sits : (u : List ℕ) (k : ℕ) (r : Ref) → RefFits 12 r → Sits (deref_in k h u r)
  unfolding Sits deref_in
  deref_sits u zero r f = tt
  deref_sits u (suc k) r f = if_keeps Sits (live_ref h u r) (on_word r (unpack_heap 12 (get_or h r.address 0)) (λ s. deref_in k h u s)) Dead (λ _. word_sits r _ _ f refl (λ s g. deref_sits u k s g)) (λ _. tt)

  found_fits : (u : List ℕ) (r s : Ref) (c : Cell) → RefFits 12 r → deref_of h u r ≡ At s c → RefFits 12 s
  unfolding Sits deref_of
  found_fits u r s c f e = subst Sits e (deref_sits u (length h) r f)

  -- ---- a variable that is bound was unbound, and gets a reference that fits; heads that meet are one word

  abbrev Says : Ref → Cell → Type 0
  Says r c = unpack_heap 12 (get_or h r.address 0) ≡ Word.Filled c

  Fair : Result Taken Refusal → Type 0
  Fair (Err e) = Unit {0}
  Fair (Ok Same) = Unit {0}
  Fair (Ok (Bind r s)) = (cell_word 12 Unbound ≡ get_or h r.address 0) × RefFits 12 s
  Fair (Ok (Arguments a b n)) = (f : ℕ) × (cell_word 12 (Head f n) ≡ get_or h a 0) × (cell_word 12 (Head f n) ≡ get_or h b 0)

  both_true : (x y : Bool) → (x && y) ≡ true → (x ≡ true) × (y ≡ true)
  both_true true true e = (refl, refl)
  both_true true false e = (refl, e)
  both_true false y e = absurd (true≢false (sym e))

  heads_fair : (r s : Ref) (f n g k : ℕ) → Says r (Head f n) → Says s (Head g k) → (eqb f g && eqb n k) ≡ true → Fair (Ok (Arguments r.address s.address n))
  unfolding Fair
  heads_fair r s f n g k p q t =
      let b = both_true (eqb f g) (eqb n k) t in
      let i : f ≡ g = eqb-true f g b.0 in
      let j : n ≡ k = eqb-true n k b.1 in
      (f, filled_word _ (Head f n) p, rw (i, j) (filled_word _ (Head g k) q))

  module _ (r s : Ref) (fr : RefFits 12 r) (fs : RefFits 12 s) where
    meet_fair : (v w : Cell) → Says r v → Says s w → Fair (meet_of r v s w)
    unfolding Fair meet_of
    meet_fair Unbound Unbound p q = if_keeps Fair (younger r s) (Ok (Bind r s)) (Ok (Bind s r)) (λ _. (filled_word _ Unbound p, fs)) (λ _. (filled_word _ Unbound q, fr))
    meet_fair Unbound (Bound t) p q = tt
    meet_fair Unbound (Int v) p q = (filled_word _ Unbound p, fs)
    meet_fair Unbound (Head g n) p q = (filled_word _ Unbound p, fs)
    meet_fair Unbound (Argument t) p q = tt
    meet_fair (Int v) Unbound p q = (filled_word _ Unbound q, fr)
    meet_fair (Int v) (Bound t) p q = tt
    meet_fair (Int v) (Int w) p q = if_keeps Fair (same_int v w) (Ok Same) (Err Refusals.Differ) (λ _. tt) (λ _. tt)
    meet_fair (Int v) (Head g n) p q = tt
    meet_fair (Int v) (Argument t) p q = tt
    meet_fair (Head g n) Unbound p q = (filled_word _ Unbound q, fr)
    meet_fair (Head g n) (Bound t) p q = tt
    meet_fair (Head g n) (Int w) p q = tt
    meet_fair (Head g n) (Head i k) p q =
        if_keeps Fair (eqb g i && eqb n k) (Ok (Arguments r.address s.address n)) (Err Refusals.Differ) (λ t. heads_fair r s g n i k p q t) (λ _. tt)
    meet_fair (Head g n) (Argument t) p q = tt
    meet_fair (Bound t) w p q = tt
    meet_fair (Argument t) w p q = tt

  module _ (u : List ℕ) (l r : Ref) (fl : RefFits 12 l) (fr : RefFits 12 r) where
    both_fair : (x y : Found) → deref_of h u l ≡ x → deref_of h u r ≡ y → Fair (both_found x y)
    unfolding Fair both_found
    both_fair Dead y e f = tt
    both_fair (At p v) Dead e f = tt
    both_fair (At p v) (At q w) e f =
        if_keeps Fair (eqb p.address q.address) (Ok Same) (meet_of p v q w) (λ _. tt)
        (λ _. meet_fair p q (found_fits u l p v fl e) (found_fits u r q w fr f) v w (found_says h u l p v e) (found_says h u r q w f))

    look_fair : Fair (look_of h u l r)
    unfolding look_of
    look_fair = both_fair (deref_of h u l) (deref_of h u r) refl refl

-- ---- the agenda as references, and what a binding leaves alone

reads : List ℕ → List Item → List Pair
reads h [] = []
reads h (x ∷ xs) = pair (left_of h x) (right_of h x) ∷ reads h xs

-- no item names an unbound variable's word, and its references fit
abbrev Free : List ℕ → ℕ → Type 0
Free h i = get_or h i 0 ≡ cell_word 12 Unbound → ⊥

Firm : List ℕ → List Item → Type 0
Firm h [] = Unit {0}
Firm h (refs l r ∷ xs) = RefFits 12 l × RefFits 12 r × Firm h xs
Firm h (args i j ∷ xs) = Free h i × Free h j × Firm h xs

module _ (h : List ℕ) (x w : ℕ) (e : cell_word 12 Unbound ≡ get_or h x 0) where
  other : (i : ℕ) → Free h i → get_or (set h x w) i 0 ≡ get_or h i 0
  other i n = get_or-set_other h x i w 0 (λ p. n (subst (λ (k : ℕ). get_or h k 0 ≡ cell_word 12 Unbound) (sym p) (sym e)))

  reads_set : (xs : List Item) → Firm h xs → reads (set h x w) xs ≡ reads h xs
  unfolding reads Firm left_of right_of
  reads_set [] f = refl
  reads_set (refs l r ∷ xs) f = rw (reads_set xs f.2)
  reads_set (args i j ∷ xs) f = rw (other i f.0, other j f.1, reads_set xs f.2)

  free_set : (i : ℕ) → Free h i → Free (set h x w) i
  free_set i n p = n (sym (other i n) ∙ p)

  firm_set : (xs : List Item) → Firm h xs → Firm (set h x w) xs
  unfolding Firm
  firm_set [] f = tt
  firm_set (refs l r ∷ xs) f = (f.0, f.1, firm_set xs f.2)
  firm_set (args i j ∷ xs) f = (free_set i f.0, free_set j f.1, firm_set xs f.2)

  in_range_lem : Dec (x < length h) → x < length h
  unfolding cell_word
  in_range_lem (yes p) = p
  in_range_lem (no n) = absurd (omega (arith, e, get_or-eq_default h 0 {n = x} (omega arith)))

  whole_set : ((f n : ℕ) → w ≡ cell_word 12 (Head f n) → ⊥) → Whole h → Whole (set h x w)
  unfolding Whole
  whole_set nw ok a f n k = go (ℕ_discrete a x)
    where
      go : Dec (a ≡ x) → get_or (set h x w) a 0 ≡ cell_word 12 (Head f n) → k < n → get_or (set h x w) (a + (k + 1)) 0 ≡ cell_word 12 Unbound → ⊥
      go (yes p) t l = absurd (nw f n (sym (ap (λ (i : ℕ). get_or (set h x w) i 0) p ∙ get_or-set_same h x w 0 (in_range_lem (dec_lt x (length h)))) ∙ t))
      go (no q) t l = free_set (a + (k + 1)) (ok a f n k (sym (get_or-set_other h x a w 0 q) ∙ t) l)

bound_no_head : (s : Ref) → RefFits 12 s → (f n : ℕ) → cell_word 12 (Bound s) ≡ cell_word 12 (Head f n) → ⊥
unfolding cell_word
bound_no_head s g f n e = omega (arith, e, g.stamp, g.address)

reads_args : (h : List ℕ) (a b k m : ℕ) (rest : List Item) → reads h (arg_items a b k m ++ rest) ≡ arg_pairs h a b k m ++ reads h rest
unfolding reads arg_items arg_pairs left_of right_of
reads_args h a b k zero rest = refl
reads_args h a b k (suc m) rest = rw (reads_args h a b (k + 1) m rest)

module _ (h : List ℕ) (ok : Whole h) (a b f n : ℕ) (ea : cell_word 12 (Head f n) ≡ get_or h a 0) (eb : cell_word 12 (Head f n) ≡ get_or h b 0) (rest : List Item) (fr : Firm h rest) where
  firm_args : (k m : ℕ) → k + m ≤ n → Firm h (arg_items a b k m ++ rest)
  unfolding Firm arg_items Whole
  firm_args k zero l = fr
  firm_args k (suc m) l = (ok a f n k (sym ea) (omega arith), ok b f n k (sym eb) (omega arith), firm_args (k + 1) m (omega arith))

-- ---- the two machines are one

Agree : ℕ → ℕ → Type 0
Agree n left = (items : List Item) (m : Marked) → Whole m.heap → Firm m.heap items → solve n left items m ≡ solve_now n left (reads m.heap items) m

took_agree : (n left : ℕ) → Agree n left → (rest : List Item) (m : Marked) → Whole m.heap → Firm m.heap rest → (x : Result Taken Refusal) → Fair m.heap x →
    took_pair n (solve n left) left rest m x ≡ took_now n (solve_now n left) left (reads m.heap rest) m x
unfolding Agree Fair took_pair took_now bind_in
took_agree n left ih rest m ok f (Err e) g = refl
took_agree n left ih rest m ok f (Ok Same) g = ih rest m ok f
took_agree n left ih rest m ok f (Ok (Bind r s)) g =
    let w : ℕ = cell_word 12 (Bound s) in
    let m' : Marked = marked (set m.heap r.address w) (set m.turned r.address n) in
    ih rest m' (whole_set m.heap r.address w g.0 (bound_no_head s g.1) ok) (firm_set m.heap r.address w g.0 rest f)
    ∙ ap (λ (ps : List Pair). solve_now n left ps m') (reads_set m.heap r.address w g.0 rest f)
took_agree n left ih rest m ok f (Ok (Arguments a b k)) g =
    ih (arg_items a b 0 k ++ rest) m ok (firm_args m.heap ok a b g.0 k g.1 g.2 rest f 0 k (omega arith))
    ∙ ap (λ (ps : List Pair). solve_now n left ps m) (reads_args m.heap a b 0 k rest)

item_fits : (h : List ℕ) (x : Item) (rest : List Item) → Firm h (x ∷ rest) → RefFits 12 (left_of h x) × RefFits 12 (right_of h x) × Firm h rest
unfolding Firm left_of right_of
item_fits h (refs l r) rest f = f
item_fits h (args i j) rest f = (ref_in_lem 12 (get_or h i 0), ref_in_lem 12 (get_or h j 0), f.2)

agree : (n left : ℕ) → Agree n left
unfolding Agree solve solve_now reads
agree n zero [] m ok f = refl
agree n zero (x ∷ rest) m ok f = refl
agree n (suc left) [] m ok f = refl
agree n (suc left) (x ∷ rest) m ok f =
    let g = item_fits m.heap x rest f in
    took_agree n left (agree n left) rest m ok g.2 (look_of m.heap m.turned (left_of m.heap x) (right_of m.heap x))
    (look_fair m.heap m.turned (left_of m.heap x) (right_of m.heap x) g.0 g.1)

pub eager : (n left : ℕ) (l r : Ref) (h u : List ℕ) → Whole h → RefFits 12 l → RefFits 12 r → solve n left (refs l r ∷ []) (marked h u) ≡ solve_now n left (pair l r ∷ []) (marked h u)
unfolding Agree Firm reads left_of right_of
eager n left l r h u ok fl fr = agree n left (refs l r ∷ []) (marked h u) ok (fl, fr, tt)
