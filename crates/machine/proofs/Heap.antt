-- Document 01's heap image, word by word: each word is the one in the newest copy that holds its page.
use Rattle.std.specs.Prelude.{if◌then◌else◌, None}
use mathlib.Core.Path.{◌≡◌, refl, sym, ap, ◌∙◌, subst}
use mathlib.Core.Bool.{Bool, true, false, not, true≢false}
use mathlib.Core.Logic.{◌≢◌, ◌⊎◌, inl, inr}
use mathlib.Core.List.Memᴰ
use mathlib.Core.List.{List, [], ◌∷◌, ◌++◌, map, Memᴰ}
use Prim.Native.Nat.{ℕ, zero, suc, ◌+◌, ◌-◌, ◌*◌, ◌/◌, ◌%◌, ◌≤◌, ◌<◌}
use native.Mathlib.Omega.{arith}
use lib.Dec.{leb, eqb}
use lib.ListN.{length, get_or, replicate, length-append, length-map, length-replicate, get_or-append}
use lib.Seq.{get_or-append-add}
use borrow.Author.Tests.{ne_eqb}
use Rattle.laws.specs.Base.{keep, from, Pairs}
use Rattle.laws.specs.Search.{newest}
use Rattle.laws.proofs.Tests.{tests}
use Rattle.laws.proofs.Lists.{each_at, kept_at}
use Rattle.laws.proofs.Search.{newest_same, newest_le}
use Rattle.words.specs.Words.{cell_word}
use Rattle.words.proofs.Back.{link_filled}
use Rattle.layers.specs.Words.{filled, link_address}
use Rattle.layers.specs.Shows.{holder, mark_of}
use Rattle.layers.specs.Stack.{mark_in}
use Rattle.layers.proofs.Words.{filled_yes, filled_no}
use Rattle.machine.specs.Copies.{Limits, Region, Copy, Machine, copies, live, shown}
use Rattle.machine.specs.Sound.{Sound, RegionOk, PageOk, CopyGrown}
use Rattle.machine.specs.Image.{page_words, in_chain, or_else, page_image, pages_image, heap_image}
use Rattle.machine.specs.Tables.{numbered, word_at, word_in}
use Rattle.machine.proofs.Spots.{Lies, lies_mem, Home, moved, Chained, unchained, chained, chain_of, Spot, free, held, spot, carry}
use Rattle.machine.proofs.Numbered.{newest_numbered, older_numbered}
use Rattle.machine.proofs.Homes.{width, held_link, free_word, free_link, region_ok_lem}

-- what is shown is in some copy
shown_in : (cs : List Copy) (g : Region) → Memᴰ g (shown cs) → (c : Copy) × Memᴰ c cs × Memᴰ g c.regions
unfolding shown
shown_in [] g h = absurd (Memᴰ.not-nil h)
shown_in (c ∷ cs) g h = by (Memᴰ.append_cases c.regions h) (λ k. shown_in cs g k)
  where
    by : Memᴰ g c.regions ⊎ Memᴰ g (keep (λ r. not (live c r.stamp)) (shown cs)) →
        (Memᴰ g (shown cs) → (d : Copy) × Memᴰ d cs × Memᴰ g d.regions) → (d : Copy) × Memᴰ d (c ∷ cs) × Memᴰ g d.regions
    by (inl m) ih = (c, Memᴰ.head refl, m)
    by (inr m) ih = let k = ih (kept_at (λ r. not (live c r.stamp)) (shown cs) g m).0 in (k.0, Memᴰ.tail k.1, k.2)

-- ---- the pages one after another, of sixteen words each

page_16 : (l : Limits) (next k : ℕ) (gs : List Region) → ((g : Region) → Memᴰ g gs → RegionOk l next g) → (n : ℕ) → length (page_image k gs n) ≡ 16
unfolding page_words
page_16 l next k gs ok n = by (spot k gs n)
  where
    by : Spot k gs n → length (page_image k gs n) ≡ 16
    by (free z e) = ap length e
    by (held h e) =
        let p : PageOk l next h.page = each_at (PageOk l next) h.region.pages (ok h.region h.among).pages h.page (lies_mem n None h.region.pages h.next h.page h.lies) in
        let ws = h.page.words in
        omega (arith, ap length e, p.fill, length-append (map (cell_word k) ws) (replicate (15 - length ws) 0), length-map ws (cell_word k), length-replicate {A = ℕ} (15 - length ws) 0)

module _ (k : ℕ) (gs : List Region) (len : (n : ℕ) → length (page_image k gs n) ≡ 16) where
  pages_length : (c n : ℕ) → length (pages_image k gs (from c n)) ≡ c * 16
  unfolding pages_image
  pages_length zero n = refl
  pages_length (suc c) n = omega (arith, length-append (page_image k gs n) (pages_image k gs (from c (suc n))), len n, pages_length c (suc n))

  -- the word at an address stands as far from the first page's first word
  pages_at : (c n a : ℕ) → n * 16 ≤ a → a < (n + c) * 16 → get_or (pages_image k gs (from c n)) (a - n * 16) 0 ≡ word_at k gs a
  unfolding pages_image word_at
  pages_at zero n a h i = absurd (omega arith)
  pages_at (suc c) n a h i = by (leb (suc n * 16) a) refl (λ j. pages_at c (suc n) a j (omega arith))
    where
      rest : List ℕ
      rest = pages_image k gs (from c (suc n))

      by : (t : Bool) → leb (suc n * 16) a ≡ t → (suc n * 16 ≤ a → get_or rest (a - suc n * 16) 0 ≡ word_at k gs a) → get_or (page_image k gs n ++ rest) (a - n * 16) 0 ≡ word_at k gs a
      by false e ih =
          let d : n ≡ a / 16 = omega tests in
          let r : a - n * 16 ≡ a % 16 = omega tests in
          get_or-append (page_image k gs n) rest 0 (a - n * 16) (omega (tests, len n)) ∙ (λ j. get_or (page_image k gs (d j)) (r j) 0)
      by true e ih =
          let u : a - n * 16 ≡ length (page_image k gs n) + (a - suc n * 16) = omega (tests, len n) in
          ap (λ (x : ℕ). get_or (page_image k gs n ++ rest) x 0) u ∙ get_or-append-add (page_image k gs n) rest (a - suc n * 16) 0 ∙ ih (omega tests)

-- ---- page n, in two lists of regions one after the other, and in a list of which some are left out

module _ (k n : ℕ) where
  -- the page is not in the first region, or it is, there
  first_off : (g : Region) (gs : List Region) → (Home (g ∷ gs) n → ⊥) → in_chain k n g.stamp None g.pages ≡ None
  first_off g gs z = by (chain_of k n g.stamp None g.pages)
    where
      by : Chained k n g.stamp None g.pages → in_chain k n g.stamp None g.pages ≡ None
      by (chained j p h i) = absurd (z (record { region = g; among = Memᴰ.head refl; next = j; page = p; lies = h }))
      by (unchained f i) = i

  append_free : (a b : List Region) → (Home a n → ⊥) → page_image k (a ++ b) n ≡ page_image k b n
  unfolding page_image or_else
  append_free [] b z = refl
  append_free (g ∷ gs) b z = rw (first_off g gs z) (append_free gs b (λ h. z (moved (g ∷ gs) h (Memᴰ.tail h.among))))

  append_held : (a b : List Region) → Home a n → page_image k (a ++ b) n ≡ page_image k a n
  unfolding page_image or_else
  append_held [] b h = absurd (Memᴰ.not-nil h.among)
  append_held (g ∷ gs) b h = by (chain_of k n g.stamp None g.pages) (Memᴰ.cases_cons h.among) (λ m. append_held gs b (moved gs h m))
    where
      by : Chained k n g.stamp None g.pages → (h.region ≡ g) ⊎ Memᴰ h.region gs → (Memᴰ h.region gs → page_image k (gs ++ b) n ≡ page_image k gs n) →
          or_else (in_chain k n g.stamp None g.pages) (page_image k (gs ++ b) n) ≡ or_else (in_chain k n g.stamp None g.pages) (page_image k gs n)
      by (chained j q x i) e ih = rw i
      by (unchained f i) (inl e) ih = absurd (f h.next h.page (subst (λ (x : Region). Lies n None x.pages h.next h.page) e h.lies))
      by (unchained f i) (inr m) ih = rw i (ih m)

  keep_free : (f : Region → Bool) (l : List Region) → ((h : Home l n) → f h.region ≡ false → ⊥) → page_image k (keep f l) n ≡ page_image k l n
  unfolding page_image or_else
  keep_free f [] z = refl
  keep_free f (g ∷ gs) z = by (f g) refl (chain_of k n g.stamp None g.pages) (keep_free f gs (λ h. z (moved (g ∷ gs) h (Memᴰ.tail h.among))))
    where
      by : (t : Bool) → f g ≡ t → Chained k n g.stamp None g.pages → page_image k (keep f gs) n ≡ page_image k gs n →
          page_image k (if t then g ∷ keep f gs else keep f gs) n ≡ or_else (in_chain k n g.stamp None g.pages) (page_image k gs n)
      by true e c ih = ap (or_else (in_chain k n g.stamp None g.pages)) ih
      by false e (chained j p h i) ih = absurd (z (record { region = g; among = Memᴰ.head refl; next = j; page = p; lies = h }) e)
      by false e (unchained x i) ih = rw i ih

  -- ---- one copy more, which holds the page, or not

  shown_held : (x : Copy) (xs : List Copy) → Home x.regions n → page_image k (shown (x ∷ xs)) n ≡ page_image k x.regions n
  unfolding shown
  shown_held x xs h = append_held x.regions (keep (λ r. not (live x r.stamp)) (shown xs)) h

  shown_free : (x : Copy) (xs : List Copy) → Pairs CopyGrown (x ∷ xs) → (Home x.regions n → ⊥) → page_image k (shown (x ∷ xs)) n ≡ page_image k (shown xs) n
  unfolding shown
  shown_free x xs g z = append_free x.regions (keep (λ r. not (live x r.stamp)) (shown xs)) z ∙ keep_free (λ r. not (live x r.stamp)) (shown xs) dropped
    where
      is_true : (t : Bool) → not t ≡ false → t ≡ true
      is_true true e = refl
      is_true false e = absurd (true≢false e)

      -- a region that x has grown from does not list the page
      dropped : (h : Home (shown xs) n) → not (live x h.region.stamp) ≡ false → ⊥
      dropped h f =
          let d = shown_in xs h.region h.among in
          z (carry d.0 x (each_at (CopyGrown x) xs g.0 d.0 d.1) n (moved d.0.regions h d.2) (is_true (live x h.region.stamp) f)).home

-- ---- what is shown at an address is the word in the newest copy that holds its page

module _ (k : ℕ) (least : 4 ≤ k) (most : k ≤ 16) (a : ℕ) where
  abbrev holding : List Copy → ℕ → Bool
  holding cs c = filled (word_at k (numbered cs c).regions (link_address a))

  abbrev at : List Copy → ℕ → ℕ
  at cs l = if eqb l 0 then 0 else word_at k (numbered cs l).regions a

  -- the newest copy that holds the page, of one copy more: that copy, or one of the others
  newest_first : (x : Copy) (xs : List Copy) → word_at k x.regions (link_address a) ≢ 0 → newest (holding (x ∷ xs)) (suc (length xs)) ≡ suc (length xs)
  unfolding newest
  newest_first x xs h = rw (newest_numbered x xs, filled_yes (word_at k x.regions (link_address a)) h)

  newest_later : (x : Copy) (xs : List Copy) → word_at k x.regions (link_address a) ≡ 0 → newest (holding (x ∷ xs)) (suc (length xs)) ≡ newest (holding xs) (length xs)
  unfolding newest
  newest_later x xs h =
      rw (newest_numbered x xs, filled_no (word_at k x.regions (link_address a)) h)
      (newest_same (holding (x ∷ xs)) (holding xs) (length xs) (λ c i j. ap (λ (y : Copy). filled (word_at k y.regions (link_address a))) (older_numbered x xs c j)))

  none_shown : word_at k (shown []) a ≡ at [] (newest (holding []) 0)
  unfolding shown page_image newest
  none_shown = free_word k [] a refl

  shown_word : (cs : List Copy) → Pairs CopyGrown cs → word_at k (shown cs) a ≡ at cs (newest (holding cs) (length cs))
  unfolding word_at
  shown_word [] g = none_shown
  shown_word (x ∷ xs) g = by (spot k x.regions (a / 16)) (shown_word xs g.1)
    where
      l : ℕ
      l = newest (holding xs) (length xs)

      by : Spot k x.regions (a / 16) → word_at k (shown xs) a ≡ at xs l → word_at k (shown (x ∷ xs)) a ≡ at (x ∷ xs) (newest (holding (x ∷ xs)) (suc (length xs)))
      by (held h e) ih =
          let f : word_at k x.regions (link_address a) ≢ 0 = λ z. link_filled k least most h.region.stamp h.next
          (sym (held_link k x.regions (a / 16) h.region.stamp h.next h.page e) ∙ z) in
          rw (newest_first x xs f, newest_numbered x xs, ne_eqb (suc (length xs)) 0 (omega arith)) (ap (λ (w : List ℕ). get_or w (a % 16) 0) (shown_held k (a / 16) x xs h))
      by (free z e) ih =
          rw (newest_later x xs (free_link k x.regions (a / 16) e), older_numbered x xs l (newest_le (holding xs) (length xs)))
          (ap (λ (w : List ℕ). get_or w (a % 16) 0) (shown_free k (a / 16) x xs g z) ∙ ih)

-- ---- the whole heap

module _ (m : Machine) (s : Sound m) where
  shown_ok : (g : Region) → Memᴰ g (shown (copies m)) → RegionOk m.limits m.next g
  shown_ok g x = let d = shown_in (copies m) g x in region_ok_lem m s d.0 d.1 g d.2

  pub heap_length : length (heap_image m) ≡ m.limits.pages * 16
  unfolding heap_image
  heap_length = pages_length (width m) (shown (copies m)) (page_16 m.limits m.next (width m) (shown (copies m)) shown_ok) m.limits.pages m.limits.first

  -- THE HEAP IMAGE: at each address of the machine's pages it has the word of the layers
  pub heap_at : (a : ℕ) → m.limits.first * 16 ≤ a → a < (m.limits.first + m.limits.pages) * 16 →
      get_or (heap_image m) (a - m.limits.first * 16) 0 ≡ (mark_in (length (copies m)) (word_in m) a).word
  unfolding heap_image mark_of holder
  heap_at a h i =
      pages_at (width m) (shown (copies m)) (page_16 m.limits m.next (width m) (shown (copies m)) shown_ok) m.limits.pages m.limits.first a h i
      ∙ shown_word (width m) s.limits.least s.limits.most a (copies m) s.grows
