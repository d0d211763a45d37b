-- The words of a sound machine's copies: what stands on the pages of their regions, from one copy to the next.
use mathlib.Core.Path.{◌≡◌, refl, sym, ap, ◌∙◌, subst}
use mathlib.Core.Bool.{true, false}
use mathlib.Core.Logic.{◌≢◌, ◌⊎◌, inl, inr}
use mathlib.Core.List.{List, [], Memᴰ}
use Rattle.std.specs.Prelude.{Option, Some, None}
use Rattle.laws.proofs.Options.{none_ne_some}
use Prim.Native.Nat.{ℕ, ◌*◌, ◌/◌, ◌%◌, ◌^◌, ◌<◌}
use native.Mathlib.Omega.{arith}
use lib.ListN.{get_or, replicate}
use Rattle.laws.specs.Base.{Each}
use Rattle.laws.proofs.Lists.{each_at, each_imp}
use Rattle.words.specs.Words.{link_word}
use Rattle.words.specs.Fields.{tag_of}
use Rattle.words.specs.Fit.{CellFits, NextFits}
use Rattle.words.proofs.Back.{link_filled}
use Rattle.layers.specs.Words.{turned, link_address}
use Rattle.layers.specs.Shows.{Becomes}
use Rattle.machine.specs.Copies.{Page, Region, Copy, Machine, copies, live}
use Rattle.machine.specs.Sound.{Sound, CopyOk, RegionOk, PageOk, PageIn, CellIn, CopyGrown, PagesApart}
use Rattle.machine.specs.Image.{page_words, page_image}
use Rattle.machine.specs.Tables.{word_at}
use Rattle.machine.proofs.Growth.{one_region}
use Rattle.machine.proofs.Shown.{mem_live}
use Rattle.machine.proofs.Fits.{page_fits, stamp_fits, cell_fits}
use Rattle.machine.proofs.Turning.{zeros_after, link_plain, link_turned, page_becomes, page_no_link}
use Rattle.machine.proofs.Spots.{Lies, lies_mem, lies_number, lies_once, lies_next, Home, home_lists, Spot, free, held, spot, Carried, carry}

-- ---- the words of a page

at_link : (k : ℕ) (gs : List Region) (n : ℕ) → word_at k gs (n * 16) ≡ get_or (page_image k gs n) 0 0
unfolding word_at
at_link k gs n =
    let d : n * 16 / 16 ≡ n = omega arith in
    let r : n * 16 % 16 ≡ 0 = omega arith in
    rw (d, r)

pub held_link : (k : ℕ) (gs : List Region) (n s : ℕ) (j : Option ℕ) (p : Page) → page_image k gs n ≡ page_words k s j p → word_at k gs (n * 16) ≡ link_word k s j
unfolding page_words
held_link k gs n s j p e = at_link k gs n ∙ ap (λ (l : List ℕ). get_or l 0 0) e

pub free_word : (k : ℕ) (gs : List Region) (a : ℕ) → page_image k gs (a / 16) ≡ replicate 16 0 → word_at k gs a ≡ 0
unfolding word_at
free_word k gs a e = ap (λ (l : List ℕ). get_or l (a % 16) 0) e ∙ zeros_after [] 16 (a % 16)

pub free_link : (k : ℕ) (gs : List Region) (n : ℕ) → page_image k gs n ≡ replicate 16 0 → word_at k gs (n * 16) ≡ 0
free_link k gs n e = at_link k gs n ∙ ap (λ (l : List ℕ). get_or l 0 0) e

-- the page that joined after it is in the region too
pub after : {gs : List Region} {n : ℕ} (h : Home gs n) (q : ℕ) → h.next ≡ Some q → (i : Home gs q) × (i.region ≡ h.region)
after {gs} {n} h q e = by (lies_next n None h.region.pages q h.page (subst (λ (j : Option ℕ). Lies n None h.region.pages j h.page) e h.lies))
  where
    by : (None ≡ Some q) ⊎ ((j : Option ℕ) × (r : Page) × Lies q None h.region.pages j r) → (i : Home gs q) × (i.region ≡ h.region)
    by (inl z) = absurd (none_ne_some q z)
    by (inr r) = (record { region = h.region; among = h.among; next = r.0; page = r.1; lies = r.2 }, refl)

-- the width of a machine's addresses, and the word at an address in a copy
abbrev pub width : Machine → ℕ
width m = m.limits.address

abbrev pub word_of : Machine → Copy → ℕ → ℕ
word_of m c a = word_at (width m) c.regions a

module _ (m : Machine) (s : Sound m) where
  -- a copy holds a page where its link is filled
  pub holds : (c : Copy) (n : ℕ) → word_of m c (n * 16) ≢ 0 → Home c.regions n
  holds c n f = by (spot (width m) c.regions n)
    where
      by : Spot (width m) c.regions n → Home c.regions n
      by (free z e) = absurd (f (free_link (width m) c.regions n e))
      by (held h e) = h

  -- where the link is empty, the page is
  pub within : (c : Copy) (a : ℕ) → word_of m c (link_address a) ≡ 0 → word_of m c a ≡ 0
  within c a z = by (spot (width m) c.regions (a / 16))
    where
      by : Spot (width m) c.regions (a / 16) → word_of m c a ≡ 0
      by (free w e) = free_word (width m) c.regions a e
      by (held h e) =
          absurd (link_filled (width m) s.limits.least s.limits.most h.region.stamp h.next
          (sym (held_link (width m) c.regions (a / 16) h.region.stamp h.next h.page e) ∙ z))

  -- ---- the pages of one copy

  module _ (c : Copy) (x : Memᴰ c (copies m)) where
    pub copy_ok : CopyOk m.limits m.next c
    copy_ok = each_at (CopyOk m.limits m.next) (copies m) s.each c x

    pub region_ok_lem : (g : Region) → Memᴰ g c.regions → RegionOk m.limits m.next g
    region_ok_lem g y = each_at (RegionOk m.limits m.next) c.regions copy_ok.regions g y

    pub page_ok_lem : {n : ℕ} (h : Home c.regions n) → PageOk m.limits m.next h.page
    page_ok_lem {n} h =
        each_at (PageOk m.limits m.next) h.region.pages (region_ok_lem h.region h.among).pages h.page (lies_mem n None h.region.pages h.next h.page h.lies)

    pub page_in_lem : {n : ℕ} (h : Home c.regions n) → PageIn m.limits n
    page_in_lem {n} h = subst (PageIn m.limits) (lies_number n None h.region.pages h.next h.page h.lies) (page_ok_lem h).number

    -- its stamp, its cells and the page after it have room in words
    pub stamp_fit : {n : ℕ} (h : Home c.regions n) → h.region.stamp < 2 ^ 32
    stamp_fit h = stamp_fits m.limits s.limits m.next s.next.1 h.region.stamp (region_ok_lem h.region h.among).stamp

    pub cells_fit : {n : ℕ} (h : Home c.regions n) → Each (CellFits (width m)) h.page.words
    cells_fit h =
        each_imp (CellIn m.limits m.next) (CellFits (width m)) h.page.words (λ w y. cell_fits m.limits s.limits m.next s.next.1 w) (page_ok_lem h).cells

    pub next_fit : {n : ℕ} (h : Home c.regions n) → NextFits (width m) h.next
    unfolding NextFits
    next_fit h = by h.next refl
      where
        by : (j : Option ℕ) → h.next ≡ j → NextFits (width m) j
        by None e = tt
        by (Some q) e = page_fits m.limits s.limits q (page_in_lem (after h q e).0)

    -- a page of a sound copy stands in one region, once
    pub one_home : {n : ℕ} (h i : Home c.regions n) → (h.region ≡ i.region) × (h.next ≡ i.next) × (h.page ≡ i.page)
    unfolding PagesApart
    one_home {n} h i =
        let r : h.region ≡ i.region = one_region c.regions copy_ok.in_order h.region i.region h.among i.among
        (s.apart c c x x h.region i.region n h.among i.among (home_lists h) (home_lists i)) in
        let o = lies_once n None i.region.pages h.next i.next h.page i.page (region_ok_lem i.region i.among).no_page_twice
        (subst (λ (g : Region). Lies n None g.pages h.next h.page) r h.lies) i.lies in
        (r, o.0, o.1)

    -- so what stands there is what the copy shows of the page
    pub at_home : {n : ℕ} (h : Home c.regions n) → page_image (width m) c.regions n ≡ page_words (width m) h.region.stamp h.next h.page
    at_home {n} h = by (spot (width m) c.regions n)
      where
        by : Spot (width m) c.regions n → page_image (width m) c.regions n ≡ page_words (width m) h.region.stamp h.next h.page
        by (free z e) = absurd (z h)
        by (held i e) = let o = one_home i h in e ∙ (λ j. page_words (width m) (o.0 j).stamp (o.1 j) (o.2 j))

    pub link_home : {n : ℕ} (h : Home c.regions n) → word_of m c (n * 16) ≡ link_word (width m) h.region.stamp h.next
    link_home {n} h = held_link (width m) c.regions n h.region.stamp h.next h.page (at_home h)

    pub home_filled : {n : ℕ} (h : Home c.regions n) → word_of m c (n * 16) ≢ 0
    home_filled h e = link_filled (width m) s.limits.least s.limits.most h.region.stamp h.next (sym (link_home h) ∙ e)

    -- its link has turned exactly if there is a page after it
    pub link_last : {n : ℕ} (h : Home c.regions n) → h.next ≡ None → turned (word_of m c (n * 16)) ≡ false
    link_last h e = ap turned (link_home h ∙ ap (link_word (width m) h.region.stamp) e) ∙ link_plain (width m) s.limits.least s.limits.most h.region.stamp (stamp_fit h)

    pub link_joined : {n : ℕ} (h : Home c.regions n) (q : ℕ) → h.next ≡ Some q → turned (word_of m c (n * 16)) ≡ true
    unfolding NextFits
    link_joined h q e =
        ap turned (link_home h ∙ ap (link_word (width m) h.region.stamp) e)
        ∙ link_turned (width m) s.limits.least s.limits.most h.region.stamp (stamp_fit h) q (subst (NextFits (width m)) e (next_fit h))

    -- words 1 to 15 are no links
    pub cell_no_link : (a : ℕ) → a % 16 ≢ 0 → tag_of (word_of m c a) ≢ 6
    unfolding word_at
    cell_no_link a z = by (spot (width m) c.regions (a / 16))
      where
        by : Spot (width m) c.regions (a / 16) → tag_of (word_of m c a) ≢ 6
        by (free w e) = rw (free_word (width m) c.regions a e) (omega arith)
        by (held h e) = rw e (page_no_link (width m) s.limits.least s.limits.most h.region.stamp h.next h.page (cells_fit h) (a % 16) (omega arith))

  -- ---- a page that an older copy and a newer one hold

  module _ (old new : Copy) (x : Memᴰ old (copies m)) (y : Memᴰ new (copies m)) (grown : CopyGrown new old) where
    pub same_stamp : {n : ℕ} (h : Home old.regions n) (i : Home new.regions n) → i.region.stamp ≡ h.region.stamp
    unfolding PagesApart
    same_stamp {n} h i = s.apart new old y x i.region h.region n i.among h.among (home_lists i) (home_lists h)

    pub carried : {n : ℕ} (h : Home old.regions n) → Home new.regions n → Carried old.regions new.regions n h
    carried {n} h i = carry old new grown n h (ap (live new) (sym (same_stamp h i)) ∙ mem_live new i.region i.among)

    -- each of its words stays or turns
    pub becomes : (a : ℕ) → word_of m old a ≢ 0 → word_of m new (link_address a) ≢ 0 → Becomes (word_of m old a) (word_of m new a)
    unfolding word_at
    becomes a f z = by (spot (width m) old.regions (a / 16))
      where
        by : Spot (width m) old.regions (a / 16) → Becomes (word_of m old a) (word_of m new a)
        by (free w e) = absurd (f (free_word (width m) old.regions a e))
        by (held h e) =
            let r = carried h (holds new (a / 16) z) in
            let i = r.home in
            let w : page_image (width m) new.regions (a / 16) ≡ page_words (width m) h.region.stamp i.next i.page
            = at_home new y i ∙ ap (λ (v : ℕ). page_words (width m) v i.next i.page) r.stamp in
            rw (e, w) (page_becomes (width m) s.limits.least s.limits.most h.region.stamp h.next i.next h.page i.page (stamp_fit old x h)
            (next_fit new y i) r.link (cells_fit new y i) r.grown (a % 16) (rw e at f))
