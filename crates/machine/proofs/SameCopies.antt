-- The words of a sound copy say what its regions are: no two lists of regions have the same words.
use mathlib.Core.Path.{◌≡◌, refl, sym, ap, ◌∙◌, subst}
use mathlib.Core.Logic.{◌≢◌, ◌⊎◌, inl, inr}
use mathlib.Core.List.Memᴰ
use mathlib.Core.List.{List, [], ◌∷◌, map, Memᴰ, Nodup, Nodup-cons}
use Rattle.std.specs.Prelude.{Option, Some, None}
use Rattle.laws.proofs.Options.{none_ne_some, some_injective}
use Prim.Native.Nat.{ℕ, suc, ◌+◌, ◌-◌, ◌*◌, ◌/◌, ◌%◌, ◌^◌, ◌≤◌, ◌<◌}
use native.Mathlib.Omega.{arith}
use lib.ListN.{length, get_or}
use Rattle.laws.specs.Base.{Each, Pairs}
use Rattle.laws.proofs.Lists.{each_at}
use Rattle.words.specs.declared.Cell.{Cell}
use Rattle.words.specs.Words.{cell_word}
use Rattle.words.specs.Fit.{CellFits, NextFits}
use Rattle.words.proofs.Back.{cell_same, cell_filled, link_same}
use Rattle.machine.specs.Copies.{Limits, Page, Region, Copy, Machine, copies}
use Rattle.machine.specs.Sound.{Sound, PageIn, Filled}
use Rattle.machine.specs.Image.{page_words, page_image}
use Rattle.machine.specs.Tables.{word_at}
use Rattle.machine.proofs.Growth.{one_region}
use Rattle.machine.proofs.Turning.{zeros_after}
use Rattle.machine.proofs.Spots.{Lies, lies_number, first_apart, once, Home}
use Rattle.machine.proofs.Homes.{width, word_of, holds, copy_ok, region_ok_lem, page_ok_lem, page_in_lem, stamp_fit, cells_fit, next_fit, at_home, home_filled}

-- ---- the sixteen words of a page say which page it is

module _ (k : ℕ) (least : 4 ≤ k) (most : k ≤ 16) where
  words_same : (n : ℕ) (vs ws : List Cell) → Each (CellFits k) vs → Each (CellFits k) ws → length vs ≤ n → length ws ≤ n →
      ((i : ℕ) → i < n → get_or (map (cell_word k) vs) i 0 ≡ get_or (map (cell_word k) ws) i 0) → vs ≡ ws
  words_same n [] [] a b h l e = refl
  words_same n [] (w ∷ ws) a b h l e = absurd (cell_filled k least most w (sym (e 0 (omega arith))))
  words_same n (v ∷ vs) [] a b h l e = absurd (cell_filled k least most v (e 0 (omega arith)))
  words_same n (v ∷ vs) (w ∷ ws) a b h l e =
      let d : v ≡ w = cell_same k least most v w a.0 b.0 (e 0 (omega arith)) in
      let r : vs ≡ ws = words_same (n - 1) vs ws a.1 b.1 (omega arith) (omega arith) (λ i j. e (suc i) (omega arith)) in
      λ i. d i ∷ r i

  page_same : (s t : ℕ) → s < 2 ^ 32 → t < 2 ^ 32 → (i j : Option ℕ) → NextFits k i → NextFits k j → (p q : Page) → Each (CellFits k) p.words → Each (CellFits k) q.words →
      length p.words ≤ 15 → length q.words ≤ 15 → ((n : ℕ) → n < 16 → get_or (page_words k s i p) n 0 ≡ get_or (page_words k t j q) n 0) →
      (s ≡ t) × (i ≡ j) × (p.words ≡ q.words)
  unfolding page_words
  page_same s t hs ht i j hi hj p q a b h l e =
      let d = link_same k least most s t hs ht i j hi hj (e 0 (omega arith)) in (
        d.0,
        d.1,
        words_same 15 p.words q.words a b h l
            (λ n x. sym (zeros_after (map (cell_word k) p.words) (15 - length p.words) n) ∙ e (suc n) (omega arith) ∙ zeros_after (map (cell_word k) q.words) (15 - length q.words) n),
      )

-- ---- lists of pages that hold the same pages, each with the same page after it, are one

abbrev Numbers : List Page → List ℕ
Numbers = map (λ (p : Page). p.number)

abbrev Within : Option ℕ → List Page → List Page → Type 0
Within nx ps qs = (n : ℕ) (j : Option ℕ) (p : Page) → Lies n nx ps j p → Lies n nx qs j p

-- nx is no page of the list
abbrev Absent : Option ℕ → List Page → Type 0
Absent nx ps = (p : Page) → Memᴰ p ps → nx ≢ Some p.number

-- which page joined after
after_is : (n : ℕ) (nx : Option ℕ) (ps : List Page) (j : Option ℕ) (p : Page) → Lies n nx ps j p → (j ≡ nx) ⊎ ((r : Page) × Memᴰ r ps × (j ≡ Some r.number))
unfolding Lies
after_is n nx [] j p h = absurd h
after_is n nx (x ∷ xs) j p (inl h) = inl (sym h.2)
after_is n nx (x ∷ xs) j p (inr h) = by (after_is n (Some x.number) xs j p h)
  where
    by : (j ≡ Some x.number) ⊎ ((r : Page) × Memᴰ r xs × (j ≡ Some r.number)) → (j ≡ nx) ⊎ ((r : Page) × Memᴰ r (x ∷ xs) × (j ≡ Some r.number))
    by (inl e) = inr (x, Memᴰ.head refl, e)
    by (inr r) = inr (r.0, Memᴰ.tail r.1, r.2)

head_same : (nx : Option ℕ) (p q : Page) (qs : List Page) → Absent nx (q ∷ qs) → Lies p.number nx (q ∷ qs) nx p → q ≡ p
unfolding Lies
head_same nx p q qs b (inl h) = h.1
head_same nx p q qs b (inr h) = by (after_is p.number (Some q.number) qs nx p h)
  where
    by : (nx ≡ Some q.number) ⊎ ((r : Page) × Memᴰ r qs × (nx ≡ Some r.number)) → q ≡ p
    by (inl e) = absurd (b q (Memᴰ.head refl) e)
    by (inr r) = absurd (b r.0 (Memᴰ.tail r.1) r.2)

tail_within : (nx : Option ℕ) (p : Page) (ps qs : List Page) → Nodup (Numbers (p ∷ ps)) → Within nx (p ∷ ps) (p ∷ qs) → Within (Some p.number) ps qs
unfolding Lies
tail_within nx p ps qs d f n j r l = by (f n j r (inr l))
  where
    by : ((p.number ≡ n) × (p ≡ r) × (nx ≡ j)) ⊎ Lies n (Some p.number) qs j r → Lies n (Some p.number) qs j r
    by (inl h) = absurd (once p ps d n (Some p.number) j r l h.0)
    by (inr h) = h

pages_same : (nx : Option ℕ) (ps qs : List Page) → Nodup (Numbers ps) → Nodup (Numbers qs) → Absent nx ps → Absent nx qs → Within nx ps qs → Within nx qs ps → ps ≡ qs
unfolding Lies
pages_same nx [] [] d e a b f g = refl
pages_same nx [] (q ∷ qs) d e a b f g = absurd (g q.number nx q (inl (refl, refl, refl)))
pages_same nx (p ∷ ps) [] d e a b f g = absurd (f p.number nx p (inl (refl, refl, refl)))
pages_same nx (p ∷ ps) (q ∷ qs) d e a b f g =
    let z : q ≡ p = head_same nx p q qs b (f p.number nx p (inl (refl, refl, refl))) in
    let e' : Nodup (Numbers (p ∷ qs)) = subst (λ (x : Page). Nodup (Numbers (x ∷ qs))) z e in
    let r : ps ≡ qs = pages_same (Some p.number) ps qs (Nodup-cons.0 d).1 (Nodup-cons.0 e').1
    (λ x m h. first_apart p ps d x m (some_injective p.number x.number h))
    (λ x m h. first_apart p qs e' x m (some_injective p.number x.number h))
    (tail_within nx p ps qs d (subst (λ (x : Page). Within nx (p ∷ ps) (x ∷ qs)) z f))
    (tail_within nx p qs ps e' (subst (λ (x : Page). Within nx (x ∷ qs) (p ∷ ps)) z g)) in
    λ i. sym z i ∷ r i

-- ---- lists of regions in the order of their stamps that have the same regions are one

abbrev Ordered : List Region → Type 0
Ordered = Pairs (λ (g h : Region). g.stamp < h.stamp)

-- what is in the list and has a larger stamp than its first is one of the others
not_first : (h : Region) (hs : List Region) (g : Region) → h.stamp < g.stamp → Memᴰ g (h ∷ hs) → Memᴰ g hs
not_first h hs g l m = by (Memᴰ.cases_cons m)
  where
    by : (g ≡ h) ⊎ Memᴰ g hs → Memᴰ g hs
    by (inl e) = absurd (omega (arith, ap (λ (u : Region). u.stamp) e))
    by (inr n) = n

regions_same : (gs hs : List Region) → Ordered gs → Ordered hs → ((g : Region) → Memᴰ g gs → Memᴰ g hs) → ((g : Region) → Memᴰ g hs → Memᴰ g gs) → gs ≡ hs
regions_same [] [] a b f g = refl
regions_same [] (h ∷ hs) a b f g = absurd (Memᴰ.not-nil (g h (Memᴰ.head refl)))
regions_same (x ∷ xs) [] a b f g = absurd (Memᴰ.not-nil (f x (Memᴰ.head refl)))
regions_same (x ∷ xs) (h ∷ hs) a b f g =
    let z : x ≡ h = first (Memᴰ.cases_cons (f x (Memᴰ.head refl))) (Memᴰ.cases_cons (g h (Memᴰ.head refl))) in
    let t : x.stamp ≡ h.stamp = ap (λ (u : Region). u.stamp) z in
    let r : xs ≡ hs = regions_same xs hs a.1 b.1
    (λ y m. not_first h hs y (omega (arith, after_x y m)) (f y (Memᴰ.tail m)))
    (λ y m. not_first x xs y (omega (arith, after_h y m)) (g y (Memᴰ.tail m))) in
    λ i. z i ∷ r i
  where
    after_x : (y : Region) → Memᴰ y xs → x.stamp < y.stamp
    after_x = each_at (λ (u : Region). x.stamp < u.stamp) xs a.0

    after_h : (y : Region) → Memᴰ y hs → h.stamp < y.stamp
    after_h = each_at (λ (u : Region). h.stamp < u.stamp) hs b.0

    first : (x ≡ h) ⊎ Memᴰ x hs → (h ≡ x) ⊎ Memᴰ h xs → x ≡ h
    first (inl e) k = e
    first (inr m) (inl e) = sym e
    first (inr m) (inr n) = absurd (omega (arith, after_h x m, after_x h n))

-- ---- a copy of one machine and a copy of another, of the same limits, with the same words

module _ (m w : Machine) (s : Sound m) (t : Sound w) (limits : m.limits ≡ w.limits) (c d : Copy) (x : Memᴰ c (copies m)) (y : Memᴰ d (copies w))
    (same : (a : ℕ) → a < 2 ^ (width m) → word_of m c a ≡ word_of w d a) where
  widths : width w ≡ width m
  widths = ap (λ (l : Limits). l.address) (sym limits)

  -- a page that both hold shows the same sixteen words
  same_page : {n : ℕ} (h : Home c.regions n) (i : Home d.regions n) (j : ℕ) → j < 16 →
      get_or (page_words (width m) h.region.stamp h.next h.page) j 0 ≡ get_or (page_words (width m) i.region.stamp i.next i.page) j 0
  unfolding word_at
  same_page {n} h i j b =
      let p : PageIn m.limits n = page_in_lem m s c x h in
      let u : (n * 16 + j) / 16 ≡ n = omega arith in
      let v : (n * 16 + j) % 16 ≡ j = omega arith in
      let e : get_or (page_image (width m) c.regions n) j 0 ≡ get_or (page_image (width w) d.regions n) j 0
      = rw (u, v) at (same (n * 16 + j) (omega (arith, s.limits.named))) in
      ap (λ (l : List ℕ). get_or l j 0) (sym (at_home m s c x h)) ∙ e ∙ ap (λ (l : List ℕ). get_or l j 0) (at_home w t d y i)
      ∙ ap (λ (k : ℕ). get_or (page_words k i.region.stamp i.next i.page) j 0) widths

  -- so a page of c is a page of d, in a region of the same stamp, with the same page after it
  same_home : {n : ℕ} (h : Home c.regions n) → (i : Home d.regions n) × (i.region.stamp ≡ h.region.stamp) × (i.next ≡ h.next) × (i.page ≡ h.page)
  same_home {n} h =
      let p : PageIn m.limits n = page_in_lem m s c x h in
      let i : Home d.regions n = holds w t d n (λ z. home_filled m s c x h (same (n * 16) (omega (arith, s.limits.named)) ∙ z)) in
      let o = page_same (width m) s.limits.least s.limits.most h.region.stamp i.region.stamp (stamp_fit m s c x h) (stamp_fit w t d y i)
      h.next i.next (next_fit m s c x h) (subst (λ (k : ℕ). NextFits k i.next) widths (next_fit w t d y i))
      h.page i.page (cells_fit m s c x h) (subst (λ (k : ℕ). Each (CellFits k) i.page.words) widths (cells_fit w t d y i))
      (page_ok_lem m s c x h).fill (page_ok_lem w t d y i).fill (same_page h i) in
      (i, sym o.0, sym o.1, λ v. record { number = (number i ∙ sym (number h)) v; words = sym o.2 v })
    where
      number : {gs : List Region} {n : ℕ} (h : Home gs n) → h.page.number ≡ n
      number {gs} {n} h = lies_number n None h.region.pages h.next h.page h.lies

  -- a region of c and a region of d with the same stamp: the one lists what the other lists
  same_lies : (g h : Region) → Memᴰ g c.regions → Memᴰ h d.regions → h.stamp ≡ g.stamp → Within None g.pages h.pages
  same_lies g h i j e n k p l =
      let a = same_home (record { region = g; among = i; next = k; page = p; lies = l }) in
      let r : a.0.region ≡ h = one_region d.regions (copy_ok w t d y).in_order a.0.region h a.0.among j (a.1 ∙ sym e) in
      subst (λ (v : Region). Lies n None v.pages k p) r (subst (λ (u : Option ℕ). Lies n None a.0.region.pages u p) a.2
      (subst (Lies n None a.0.region.pages a.0.next) a.3 a.0.lies))

  -- a region of c has its stamp in d
  same_stamp : (g : Region) → Memᴰ g c.regions → (h : Region) × Memᴰ h d.regions × (h.stamp ≡ g.stamp)
  unfolding Lies Filled
  same_stamp g i = by g.pages refl
    where
      by : (ps : List Page) → g.pages ≡ ps → (h : Region) × Memᴰ h d.regions × (h.stamp ≡ g.stamp)
      by [] q = absurd (subst Filled q (region_ok_lem m s c x g i).filled)
      by (p ∷ ps) q =
          let a = same_home (record { region = g; among = i; next = None; page = p; lies = subst (λ (l : List Page). Lies p.number None l None p) (sym q) (inl (refl, refl, refl)) }) in
          (a.0.region, a.0.among, a.1)

-- so it is a region of d
same_region : (m w : Machine) (s : Sound m) (t : Sound w) → m.limits ≡ w.limits → (c d : Copy) → Memᴰ c (copies m) → Memᴰ d (copies w) →
    ((a : ℕ) → a < 2 ^ (width m) → word_of m c a ≡ word_of w d a) → ((a : ℕ) → a < 2 ^ (width w) → word_of w d a ≡ word_of m c a) → (g : Region) → Memᴰ g c.regions → Memᴰ g d.regions
same_region m w s t limits c d x y same back g i =
    let h = same_stamp m w s t limits c d x y same g i in
    let r : g.pages ≡ h.0.pages = pages_same None g.pages h.0.pages (region_ok_lem m s c x g i).no_page_twice (region_ok_lem w t d y h.0 h.1).no_page_twice
    (λ z a. none_ne_some z.number) (λ z a. none_ne_some z.number)
    (same_lies m w s t limits c d x y same g h.0 i h.1 h.2)
    (same_lies w m t s (sym limits) d c y x back h.0 g h.1 i (sym h.2)) in
    let z : h.0 ≡ g = (λ j. record { stamp = h.2 j; pages = sym r j }) in
    subst (λ (v : Region). Memᴰ v d.regions) z h.1

-- A COPY'S WORDS SAY WHAT ITS REGIONS ARE
pub same_regions : (m w : Machine) → Sound m → Sound w → m.limits ≡ w.limits → (c d : Copy) → Memᴰ c (copies m) → Memᴰ d (copies w) →
    ((a : ℕ) → a < 2 ^ (width m) → word_of m c a ≡ word_of w d a) → c.regions ≡ d.regions
same_regions m w s t limits c d x y same =
    regions_same c.regions d.regions (copy_ok m s c x).in_order (copy_ok w t d y).in_order
    (same_region m w s t limits c d x y same back) (same_region w m t s (sym limits) d c y x back same)
  where
    back : (a : ℕ) → a < 2 ^ (width w) → word_of w d a ≡ word_of m c a
    back a h = sym (same a (omega (arith, ap (λ (l : Limits). 2 ^ l.address) limits)))
