-- The words of a page as the layers read them: which have turned, what they were before, and how a page that grows becomes another.
use mathlib.Core.Path.{◌≡◌, refl, sym, ap, ◌∙◌}
use mathlib.Core.Bool.{true, false}
use mathlib.Core.Logic.{◌≢◌, ◌⊎◌, inl, inr}
use mathlib.Core.List.{List, [], ◌∷◌, ◌++◌, map}
use Rattle.std.specs.Prelude.{Option, Some, None}
use Prim.Native.Nat.{ℕ, zero, suc, ◌+◌, ◌-◌, ◌*◌, ◌%◌, ◌^◌, ◌≤◌, ◌<◌}
use native.Mathlib.Omega.{arith}
use lib.Dec.{eqb}
use lib.ListN.{length, get_or, replicate}
use borrow.Author.Tests.{ne_eqb}
use Rattle.laws.specs.Base.{Each}
use Rattle.words.specs.declared.Ref.{Ref}
use Rattle.words.specs.declared.Cell.{Cell}
use Rattle.words.specs.declared.Cell.TheVariants.{Unbound, Bound, Int, Head, Argument}
use Rattle.words.specs.Fields.{tagged, tag_of}
use Rattle.words.specs.Words.{cell_word, link_word, stamp_of}
use Rattle.words.specs.Fit.{CellFits, cell_tag, NextFits, has_next, next_page}
use Rattle.words.proofs.Back.{link_tag, link_below, link_stamp, link_next, cell_tag_lem}
use Rattle.layers.specs.Words.{turned, old, next_address}
use Rattle.layers.specs.Shows.{Becomes}
use Rattle.machine.specs.Copies.{Page}
use Rattle.machine.specs.Sound.{Later, IsVariable, Grown}
use Rattle.machine.specs.Image.{page_words}

-- zeros behind a list are as no words
pub zeros_after : (l : List ℕ) (n i : ℕ) → get_or (l ++ replicate n 0) i 0 ≡ get_or l i 0
zeros_after [] zero i = refl
zeros_after [] (suc n) zero = refl
zeros_after [] (suc n) (suc i) = zeros_after [] n i
zeros_after (x ∷ xs) n zero = refl
zeros_after (x ∷ xs) n (suc i) = zeros_after xs n i

-- a word that is no link has turned if it is a bound variable
pub no_link_turned : (w : ℕ) → tag_of w ≢ 6 → turned w ≡ eqb (tag_of w) 2
unfolding turned
no_link_turned w h = rw (ne_eqb (tag_of w) 6 h)

-- a link was the link of its stamp with no next page
old_link : (w s : ℕ) → w < 2 ^ 64 → tag_of w ≡ 6 → stamp_of w ≡ s → tagged 6 (s * 2 ^ 28) ≡ old w
unfolding old
old_link w s b t u = rw t (let e : 6 * 2 ^ 60 + s * 2 ^ 28 ≡ w - w % 2 ^ 28 = omega arith in e)

module _ (k : ℕ) (least : 4 ≤ k) (most : k ≤ 16) where
  -- ---- links

  module _ (s : ℕ) (hs : s < 2 ^ 32) where
    pub link_plain : turned (link_word k s None) ≡ false
    unfolding turned NextFits has_next
    link_plain = rw (link_tag k least most s hs None tt, (link_next k least most s None tt).0)

    pub link_turned : (q : ℕ) → q < 2 ^ (k - 4) → turned (link_word k s (Some q)) ≡ true
    unfolding turned NextFits has_next
    link_turned q hq = rw (link_tag k least most s hs (Some q) hq, (link_next k least most s (Some q) hq).0)

    link_old : (j : Option ℕ) → NextFits k j → link_word k s None ≡ old (link_word k s j)
    unfolding link_word
    link_old j hj = old_link (link_word k s j) s (link_below k least most s hs j hj) (link_tag k least most s hs j hj) (link_stamp k least most s hs j hj)

    -- a link stays, or gains a next page
    link_becomes : (i j : Option ℕ) → NextFits k j → (j ≡ i) ⊎ (i ≡ None) → Becomes (link_word k s i) (link_word k s j)
    unfolding NextFits
    link_becomes i j h (inl e) = inl (ap (link_word k s) e)
    link_becomes i None h (inr e) = inl (ap (link_word k s) (sym e))
    link_becomes i (Some q) h (inr e) = inr (link_turned q h, ap (link_word k s) e ∙ link_old (Some q) h)

  pub link_names : (s q : ℕ) → q < 2 ^ (k - 4) → next_address k (link_word k s (Some q)) ≡ q * 16
  unfolding NextFits next_page
  link_names s q h = ap (λ (x : ℕ). x * 16) (link_next k least most s (Some q) h).1

  -- ---- cells

  cell_no_link : (c : Cell) → CellFits k c → tag_of (cell_word k c) ≢ 6
  unfolding cell_tag
  cell_no_link Unbound h e = omega (arith, cell_tag_lem k least most Unbound h)
  cell_no_link (Bound r) h e = omega (arith, cell_tag_lem k least most (Bound r) h)
  cell_no_link (Int v) h e = omega (arith, cell_tag_lem k least most (Int v) h)
  cell_no_link (Head f n) h e = omega (arith, cell_tag_lem k least most (Head f n) h)
  cell_no_link (Argument r) h e = omega (arith, cell_tag_lem k least most (Argument r) h)

  cells_no_link : (ws : List Cell) → Each (CellFits k) ws → (i : ℕ) → tag_of (get_or (map (cell_word k) ws) i 0) ≢ 6
  cells_no_link [] h i = omega arith
  cells_no_link (w ∷ ws) h zero = cell_no_link w h.0
  cells_no_link (w ∷ ws) h (suc i) = cells_no_link ws h.1 i

  bound_turned : (w : ℕ) → tag_of w ≡ 2 → turned w ≡ true
  unfolding turned
  bound_turned w e = rw e

  bound_old : (w : ℕ) → tag_of w ≡ 2 → cell_word k Unbound ≡ old w
  unfolding old cell_word
  bound_old w e = rw e

  variable_turns : (r : Ref) → CellFits k (Bound r) → Becomes (cell_word k Unbound) (cell_word k (Bound r))
  unfolding cell_tag
  variable_turns r h =
      let e : tag_of (cell_word k (Bound r)) ≡ 2 = cell_tag_lem k least most (Bound r) h in
      inr (bound_turned (cell_word k (Bound r)) e, bound_old (cell_word k (Bound r)) e)

  later_becomes : (v w : Cell) → CellFits k w → Later v w → Becomes (cell_word k v) (cell_word k w)
  unfolding Later IsVariable
  later_becomes Unbound Unbound h i = inl refl
  later_becomes Unbound (Bound r) h i = variable_turns r h
  later_becomes Unbound (Int v) h i = absurd i
  later_becomes Unbound (Head f n) h i = absurd i
  later_becomes Unbound (Argument r) h i = absurd i
  later_becomes (Bound r) w h i = inl (ap (cell_word k) i)
  later_becomes (Int v) w h i = inl (ap (cell_word k) i)
  later_becomes (Head f n) w h i = inl (ap (cell_word k) i)
  later_becomes (Argument r) w h i = inl (ap (cell_word k) i)

  -- ---- the words of a page

  cells_become : (vs ws : List Cell) → Each (CellFits k) ws → Grown vs ws → (i : ℕ) → get_or (map (cell_word k) vs) i 0 ≢ 0 →
      Becomes (get_or (map (cell_word k) vs) i 0) (get_or (map (cell_word k) ws) i 0)
  unfolding Grown
  cells_become [] ws h g i f = absurd (f refl)
  cells_become (v ∷ vs) [] h g i f = absurd g
  cells_become (v ∷ vs) (w ∷ ws) h g zero f = later_becomes v w h.0 g.0
  cells_become (v ∷ vs) (w ∷ ws) h g (suc i) f = cells_become vs ws h.1 g.1 i f

  pub page_becomes : (s : ℕ) (i j : Option ℕ) (p q : Page) → s < 2 ^ 32 → NextFits k j → (j ≡ i) ⊎ (i ≡ None) → Each (CellFits k) q.words → Grown p.words q.words →
      (n : ℕ) → get_or (page_words k s i p) n 0 ≢ 0 → Becomes (get_or (page_words k s i p) n 0) (get_or (page_words k s j q) n 0)
  unfolding page_words
  page_becomes s i j p q hs hj e h g zero f = link_becomes s hs i j hj e
  page_becomes s i j p q hs hj e h g (suc n) f =
      rw (zeros_after (map (cell_word k) p.words) (15 - length p.words) n, zeros_after (map (cell_word k) q.words) (15 - length q.words) n)
      (cells_become p.words q.words h g n (rw (zeros_after (map (cell_word k) p.words) (15 - length p.words) n) at f))

  -- no word of a page but its first is a link
  pub page_no_link : (s : ℕ) (j : Option ℕ) (p : Page) → Each (CellFits k) p.words → (n : ℕ) → 0 < n → tag_of (get_or (page_words k s j p) n 0) ≢ 6
  unfolding page_words
  page_no_link s j p h zero z = absurd (omega arith)
  page_no_link s j p h (suc n) z = rw (zeros_after (map (cell_word k) p.words) (15 - length p.words) n) (cells_no_link p.words h n)
