-- Reading and setting a cell of a copy: where a cell that is found stands, that it is in range, and what is read after one cell was set.
use Rattle.std.specs.Prelude.{if◌then◌else◌, Some, slice_get}
use mathlib.Core.Path.{◌≡◌, refl, sym, ap, ap₂, ◌∙◌, subst}
use mathlib.Core.Bool.{Bool, true, false}
use mathlib.Core.Logic.{◌⊎◌, inl, inr, ◌≢◌}
use mathlib.Core.List.Memᴰ
use mathlib.Core.List.{List, [], ◌∷◌, map, Memᴰ, Nodup, Nodup-cons}
use Rattle.laws.proofs.Options.{none_ne_some, some_injective}
use Prim.Native.Nat.{ℕ, zero, suc, ◌-◌, ◌/◌, ◌%◌, ◌≤◌}
use native.Mathlib.Omega.{arith}
use lib.Dec.{eqb}
use borrow.Author.Tests.{eq-eqb, eqb-true, eqb-false}
use lib.ListN.{length, set, length-set}
use Rattle.laws.specs.Base.{some_of}
use Rattle.laws.proofs.Lists.{each_at, some_yes, map_mem}
use Rattle.words.specs.declared.Ref.{Ref}
use Rattle.words.specs.declared.Cell.{Cell}
use Rattle.machine.specs.Copies.{Limits, Page, Region, Copy, stamped, live, lists, word, in_pages, in_regions, cell_at, set_page, set_region, set_cell}
use Rattle.machine.specs.Sound.{CopyOk, RegionOk, PageOk, Filled, StampIn, PageIn, RefIn, CellIn}
use Rattle.machine.proofs.Growth.{one_region}

-- ---- where a cell that is found stands

-- a cell is no word 0, and it is one of the page's words
pub word_found : (ws : List Cell) (i : ℕ) (w : Cell) → word ws i ≡ Some w → (1 ≤ i) × Memᴰ w ws
unfolding word
word_found ws zero w e = absurd (none_ne_some w e)
word_found ws (suc i) w e = (omega arith, at ws i e)
  where
    at : (vs : List Cell) (j : ℕ) → slice_get vs j ≡ Some w → Memᴰ w vs
    at [] j q = absurd (none_ne_some w q)
    at (v ∷ vs) zero q = Memᴰ.head (sym (some_injective v w q))
    at (v ∷ vs) (suc j) q = Memᴰ.tail (at vs j q)

pub page_found : (ps : List Page) (a : ℕ) (w : Cell) → in_pages ps a ≡ Some w →
    (p : Page) × Memᴰ p ps × (p.number ≡ a / 16) × (word p.words (a % 16) ≡ Some w)
unfolding in_pages
page_found [] a w h = absurd (none_ne_some w h)
page_found (q ∷ qs) a w h = by (eqb q.number (a / 16)) refl h (λ k. page_found qs a w k)
  where
    by : (t : Bool) → eqb q.number (a / 16) ≡ t → (if t then word q.words (a % 16) else in_pages qs a) ≡ Some w →
        (in_pages qs a ≡ Some w → (p : Page) × Memᴰ p qs × (p.number ≡ a / 16) × (word p.words (a % 16) ≡ Some w)) →
        (p : Page) × Memᴰ p (q ∷ qs) × (p.number ≡ a / 16) × (word p.words (a % 16) ≡ Some w)
    by true e k ih = (q, Memᴰ.head refl, eqb-true q.number (a / 16) e, k)
    by false e k ih = let z = ih k in (z.0, Memᴰ.tail z.1, z.2, z.3)

pub region_found : (gs : List Region) (r : Ref) (w : Cell) → in_regions gs r ≡ Some w →
    (g : Region) × Memᴰ g gs × (g.stamp ≡ r.stamp) × (in_pages g.pages r.address ≡ Some w)
unfolding in_regions
region_found [] r w h = absurd (none_ne_some w h)
region_found (g ∷ gs) r w h = by (eqb g.stamp r.stamp) refl h (λ k. region_found gs r w k)
  where
    by : (t : Bool) → eqb g.stamp r.stamp ≡ t → (if t then in_pages g.pages r.address else in_regions gs r) ≡ Some w →
        (in_regions gs r ≡ Some w → (x : Region) × Memᴰ x gs × (x.stamp ≡ r.stamp) × (in_pages x.pages r.address ≡ Some w)) →
        (x : Region) × Memᴰ x (g ∷ gs) × (x.stamp ≡ r.stamp) × (in_pages x.pages r.address ≡ Some w)
    by true e k ih = (g, Memᴰ.head refl, eqb-true g.stamp r.stamp e, k)
    by false e k ih = let z = ih k in (z.0, Memᴰ.tail z.1, z.2, z.3)

-- the region of a cell is in the copy
pub cell_live : (c : Copy) (r : Ref) (w : Cell) → cell_at c r ≡ Some w → live c r.stamp ≡ true
cell_live c r w e =
    let g = region_found c.regions r w e in
    some_yes (stamped r.stamp) c.regions g.0 g.1 (eq-eqb g.0.stamp r.stamp g.2)

-- ---- in a good copy

-- two pages of one number in a list are one
one_page : (ps : List Page) → Nodup (map (λ (p : Page). p.number) ps) → (p q : Page) → Memᴰ p ps → Memᴰ q ps → p.number ≡ q.number → p ≡ q
one_page [] d p q x y e = absurd (Memᴰ.not-nil x)
one_page (k ∷ ks) d p q x y e = by (Memᴰ.cases_cons x) (Memᴰ.cases_cons y) (λ a b. one_page ks (Nodup-cons.0 d).1 p q a b e)
  where
    no : (z : Page) → Memᴰ z ks → k.number ≡ z.number → ⊥
    no z m f = (Nodup-cons.0 d).0 ∣ map_mem (λ (v : Page). v.number) ks z k.number m f ∣₁

    by : (p ≡ k) ⊎ Memᴰ p ks → (q ≡ k) ⊎ Memᴰ q ks → (Memᴰ p ks → Memᴰ q ks → p ≡ q) → p ≡ q
    by (inl a) (inl b) ih = a ∙ sym b
    by (inl a) (inr b) ih = absurd (no q b (ap (λ (z : Page). z.number) (sym a) ∙ e))
    by (inr a) (inl b) ih = absurd (no p a (ap (λ (z : Page). z.number) (sym b) ∙ sym e))
    by (inr a) (inr b) ih = ih a b

module _ (l : Limits) (next : ℕ) (c : Copy) (ok : CopyOk l next c) (r : Ref) (w : Cell) (found : cell_at c r ≡ Some w) where
  -- the region and the page of the cell
  abbrev home : (g : Region) × Memᴰ g c.regions × (g.stamp ≡ r.stamp) × (in_pages g.pages r.address ≡ Some w)
  home = region_found c.regions r w found

  abbrev home_page : (p : Page) × Memᴰ p home.0.pages × (p.number ≡ r.address / 16) × (word p.words (r.address % 16) ≡ Some w)
  home_page = page_found home.0.pages r.address w home.3

  abbrev home_ok : RegionOk l next home.0
  home_ok = each_at (RegionOk l next) c.regions ok.regions home.0 home.1

  abbrev home_page_ok : PageOk l next home_page.0
  home_page_ok = each_at (PageOk l next) home.0.pages home_ok.pages home_page.0 home_page.1

  -- a reference that names a cell is in range, whatever it was found by
  pub ref_in_lem : RefIn l next r
  ref_in_lem = record {
    stamp = subst (StampIn next) home.2 home_ok.stamp;
    page = subst (PageIn l) home_page.2 home_page_ok.number;
    word = (word_found home_page.0.words (r.address % 16) w home_page.3).0;
  }

  -- and so is the cell
  pub cell_in : CellIn l next w
  cell_in = each_at (CellIn l next) home_page.0.words home_page_ok.cells w (word_found home_page.0.words (r.address % 16) w home_page.3).1

  -- the cell stands at its place in every page of its number of every region of its stamp: there is but one
  pub own_word : (g : Region) (p : Page) → Memᴰ g c.regions → Memᴰ p g.pages → g.stamp ≡ r.stamp → p.number ≡ r.address / 16 →
      word p.words (r.address % 16) ≡ Some w
  own_word g p x y e f =
      let q : home.0 ≡ g = one_region c.regions ok.in_order home.0 g home.1 x (home.2 ∙ sym e) in
      let z = page_found g.pages r.address w (subst (λ (h : Region). in_pages h.pages r.address ≡ Some w) q home.3) in
      let o = each_at (RegionOk l next) c.regions ok.regions g x in
      subst (λ (v : Page). word v.words (r.address % 16) ≡ Some w) (one_page g.pages o.no_page_twice z.0 p z.1 y (z.2 ∙ sym f)) z.3

-- ---- one cell set

-- two references are one, or they differ
pub same_ref : (q r : Ref) → (q ≡ r) ⊎ (q ≢ r)
same_ref q r = by (eqb q.stamp r.stamp) (eqb q.address r.address) refl refl
  where
    by : (t u : Bool) → eqb q.stamp r.stamp ≡ t → eqb q.address r.address ≡ u → (q ≡ r) ⊎ (q ≢ r)
    by true true e f = inl (ap₂ (λ (s a : ℕ). record { stamp = s; address = a }) (eqb-true q.stamp r.stamp e) (eqb-true q.address r.address f))
    by true false e f = inr (λ z. eqb-false q.address r.address f (ap (λ (x : Ref). x.address) z))
    by false u e f = inr (λ z. eqb-false q.stamp r.stamp e (ap (λ (x : Ref). x.stamp) z))

get_same : (ws : List Cell) (i : ℕ) (w old : Cell) → slice_get ws i ≡ Some old → slice_get (set ws i w) i ≡ Some w
get_same [] i w old e = absurd (none_ne_some old e)
get_same (v ∷ vs) zero w old e = refl
get_same (v ∷ vs) (suc i) w old e = get_same vs i w old e

get_other : (ws : List Cell) (i j : ℕ) (w : Cell) → j ≢ i → slice_get (set ws i w) j ≡ slice_get ws j
get_other [] i j w n = refl
get_other (v ∷ vs) zero zero w n = absurd (n refl)
get_other (v ∷ vs) zero (suc j) w n = refl
get_other (v ∷ vs) (suc i) zero w n = refl
get_other (v ∷ vs) (suc i) (suc j) w n = get_other vs i j w (λ e. n (ap suc e))

word_same : (ws : List Cell) (i : ℕ) (w old : Cell) → word ws i ≡ Some old → word (set ws (i - 1) w) i ≡ Some w
unfolding word
word_same ws zero w old e = absurd (none_ne_some old e)
word_same ws (suc i) w old e = let z : suc i - 1 ≡ i = omega arith in rw z (get_same ws i w old e)

word_other : (ws : List Cell) (i j : ℕ) (w : Cell) → 1 ≤ i → j ≢ i → word (set ws (i - 1) w) j ≡ word ws j
unfolding word
word_other ws i zero w h n = refl
word_other ws i (suc j) w h n = get_other ws (i - 1) j w (λ e. n (omega arith))

pub number_set : (r : Ref) (w : Cell) (p : Page) → (set_page r w p).number ≡ p.number
unfolding set_page
number_set r w p = by (eqb p.number (r.address / 16))
  where
    by : (t : Bool) → (if t then record { number = p.number; words = set p.words (r.address % 16 - 1) w } else p).number ≡ p.number
    by true = refl
    by false = refl

pub length_words_set : (r : Ref) (w : Cell) (p : Page) → length (set_page r w p).words ≡ length p.words
unfolding set_page
length_words_set r w p = by (eqb p.number (r.address / 16))
  where
    by : (t : Bool) → length (if t then record { number = p.number; words = set p.words (r.address % 16 - 1) w } else p).words ≡ length p.words
    by true = length-set p.words (r.address % 16 - 1) w
    by false = refl

pub numbers_set : (r : Ref) (w : Cell) (ps : List Page) → map (λ (p : Page). p.number) (map (set_page r w) ps) ≡ map (λ (p : Page). p.number) ps
numbers_set r w [] = refl
numbers_set r w (p ∷ ps) = ap₂ (λ (n : ℕ) (ns : List ℕ). n ∷ ns) (number_set r w p) (numbers_set r w ps)

pub filled_set : (r : Ref) (w : Cell) (ps : List Page) → Filled ps → Filled (map (set_page r w) ps)
unfolding Filled
filled_set r w [] h = h
filled_set r w (p ∷ []) h = h
filled_set r w (p ∷ q ∷ ps) h = (rw (length_words_set r w p) h.0, filled_set r w (q ∷ ps) h.1)

pub stamp_set : (r : Ref) (w : Cell) (g : Region) → (set_region r w g).stamp ≡ g.stamp
unfolding set_region
stamp_set r w g = by (eqb g.stamp r.stamp)
  where
    by : (t : Bool) → (if t then record { stamp = g.stamp; pages = map (set_page r w) g.pages } else g).stamp ≡ g.stamp
    by true = refl
    by false = refl

pub live_set : (r : Ref) (w : Cell) (c : Copy) (s : ℕ) → live (set_cell c r w) s ≡ live c s
unfolding set_cell
live_set r w c s = at c.regions
  where
    at : (gs : List Region) → some_of (stamped s) (map (set_region r w) gs) ≡ some_of (stamped s) gs
    at [] = refl
    at (g ∷ gs) = rw (stamp_set r w g, at gs)

-- a region lists the same pages
pub lists_set : (r : Ref) (w : Cell) (p : ℕ) (g : Region) → lists p (set_region r w g) ≡ lists p g
unfolding set_region
lists_set r w p g = by (eqb g.stamp r.stamp)
  where
    at : (ps : List Page) → some_of (λ (q : Page). eqb q.number p) (map (set_page r w) ps) ≡ some_of (λ (q : Page). eqb q.number p) ps
    at [] = refl
    at (q ∷ qs) = rw (number_set r w q, at qs)

    by : (t : Bool) → lists p (if t then record { stamp = g.stamp; pages = map (set_page r w) g.pages } else g) ≡ lists p g
    by true = at g.pages
    by false = refl

module _ (r : Ref) (w : Cell) where
  pages_same : (ps : List Page) (old : Cell) → in_pages ps r.address ≡ Some old → in_pages (map (set_page r w) ps) r.address ≡ Some w
  unfolding in_pages set_page
  pages_same [] old h = absurd (none_ne_some old h)
  pages_same (p ∷ ps) old h = by (eqb p.number (r.address / 16)) refl h (λ k. pages_same ps old k)
    where
      by : (t : Bool) → eqb p.number (r.address / 16) ≡ t → (if t then word p.words (r.address % 16) else in_pages ps r.address) ≡ Some old →
          (in_pages ps r.address ≡ Some old → in_pages (map (set_page r w) ps) r.address ≡ Some w) → in_pages (map (set_page r w) (p ∷ ps)) r.address ≡ Some w
      by true e k ih = rw (e, e) (word_same p.words (r.address % 16) w old k)
      by false e k ih = rw (e, e) (ih k)

  pub regions_same : (gs : List Region) (old : Cell) → in_regions gs r ≡ Some old → in_regions (map (set_region r w) gs) r ≡ Some w
  unfolding in_regions set_region
  regions_same [] old h = absurd (none_ne_some old h)
  regions_same (g ∷ gs) old h = by (eqb g.stamp r.stamp) refl h (λ k. regions_same gs old k)
    where
      by : (t : Bool) → eqb g.stamp r.stamp ≡ t → (if t then in_pages g.pages r.address else in_regions gs r) ≡ Some old →
          (in_regions gs r ≡ Some old → in_regions (map (set_region r w) gs) r ≡ Some w) → in_regions (map (set_region r w) (g ∷ gs)) r ≡ Some w
      by true e k ih = rw (e, e) (pages_same g.pages old k)
      by false e k ih = rw (e, e) (ih k)

  -- the cell that was set is read there
  pub cell_same : (c : Copy) (old : Cell) → cell_at c r ≡ Some old → cell_at (set_cell c r w) r ≡ Some w
  unfolding set_cell
  cell_same c old h = regions_same c.regions old h

  module _ (cell : 1 ≤ r.address % 16) where
    words_other : (p : Page) (a : ℕ) → a ≢ r.address → p.number ≡ a / 16 → word (set_page r w p).words (a % 16) ≡ word p.words (a % 16)
    unfolding set_page
    words_other p a n e = by (eqb p.number (r.address / 16)) refl
      where
        by : (t : Bool) → eqb p.number (r.address / 16) ≡ t →
            word (if t then record { number = p.number; words = set p.words (r.address % 16 - 1) w } else p).words (a % 16) ≡ word p.words (a % 16)
        by true d =
            let z = eqb-true p.number (r.address / 16) d in
            word_other p.words (r.address % 16) (a % 16) w cell (λ q. n (omega arith))
        by false d = refl

    pages_other : (ps : List Page) (a : ℕ) → a ≢ r.address → in_pages (map (set_page r w) ps) a ≡ in_pages ps a
    unfolding in_pages
    pages_other [] a n = refl
    pages_other (p ∷ ps) a n = rw (number_set r w p) (by (eqb p.number (a / 16)) refl (pages_other ps a n))
      where
        by : (t : Bool) → eqb p.number (a / 16) ≡ t → in_pages (map (set_page r w) ps) a ≡ in_pages ps a →
            (if t then word (set_page r w p).words (a % 16) else in_pages (map (set_page r w) ps) a) ≡ (if t then word p.words (a % 16) else in_pages ps a)
        by true e ih = words_other p a n (eqb-true p.number (a / 16) e)
        by false e ih = ih

    region_other : (g : Region) (s : Ref) → s ≢ r → g.stamp ≡ s.stamp → in_pages (set_region r w g).pages s.address ≡ in_pages g.pages s.address
    unfolding set_region
    region_other g s n e = by (eqb g.stamp r.stamp) refl
      where
        by : (t : Bool) → eqb g.stamp r.stamp ≡ t →
            in_pages (if t then record { stamp = g.stamp; pages = map (set_page r w) g.pages } else g).pages s.address ≡ in_pages g.pages s.address
        by true d =
            let z = eqb-true g.stamp r.stamp d in
            pages_other g.pages s.address (λ q. n (ap₂ (λ (t a : ℕ). record { stamp = t; address = a }) (sym e ∙ z) q))
        by false d = refl

    pub regions_other : (gs : List Region) (s : Ref) → s ≢ r → in_regions (map (set_region r w) gs) s ≡ in_regions gs s
    unfolding in_regions
    regions_other [] s n = refl
    regions_other (g ∷ gs) s n = rw (stamp_set r w g) (by (eqb g.stamp s.stamp) refl (regions_other gs s n))
      where
        by : (t : Bool) → eqb g.stamp s.stamp ≡ t → in_regions (map (set_region r w) gs) s ≡ in_regions gs s →
            (if t then in_pages (set_region r w g).pages s.address else in_regions (map (set_region r w) gs) s) ≡ (if t then in_pages g.pages s.address else in_regions gs s)
        by true e ih = region_other g s n (eqb-true g.stamp s.stamp e)
        by false e ih = ih

    -- and no other cell changes
    pub cell_other : (c : Copy) (s : Ref) → s ≢ r → cell_at (set_cell c r w) s ≡ cell_at c s
    unfolding set_cell
    cell_other c s n = regions_other c.regions s n
