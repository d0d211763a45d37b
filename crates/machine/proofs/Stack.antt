-- The copies of a sound machine are a sound stack of words, so the layers' laws are laws of the machine.
use Rattle.std.specs.Prelude.{if◌then◌else◌, Option, Some, None}
use mathlib.Core.Path.{◌≡◌, refl, sym, ap, ◌∙◌, subst}
use mathlib.Core.Bool.{Bool, true, false, true≢false}
use mathlib.Core.Logic.{◌≢◌, ◌⊎◌, inl, inr}
use mathlib.Core.List.{Memᴰ}
use Rattle.laws.proofs.Options.{none_ne_some, some_injective}
use Prim.Native.Nat.{ℕ, suc, ◌-◌, ◌*◌, ◌/◌, ◌%◌, ◌^◌, ◌≤◌, ◌<◌}
use native.Mathlib.Omega.{arith}
use lib.Dec.{leb, eqb}
use lib.ListN.{length}
use borrow.Author.Tests.{eq-eqb, ne_eqb, eqb-true}
use Rattle.laws.proofs.Tests.{tests}
use Rattle.laws.proofs.Search.{Newest, none, until, newest_spec}
use Rattle.words.specs.Words.{link_word}
use Rattle.words.specs.Fit.{NextFits}
use Rattle.layers.specs.Words.{filled, turned, link_address, next_address}
use Rattle.layers.specs.Shows.{holder, mark_of, Unbroken, Grows}
use Rattle.layers.specs.Stack as Layers
use Rattle.layers.proofs.Words.{filled_yes, filled_no, filled_not, zero_not_turned, turned_filled}
use Rattle.machine.specs.Copies.{Region, Copy, Machine, copies, live}
use Rattle.machine.specs.Sound.{Sound, CopyGrown, PagesApart}
use Rattle.machine.specs.Tables.{numbered, word_in}
use Rattle.machine.proofs.Growth.{copy_refl}
use Rattle.machine.proofs.Shown.{mem_live}
use Rattle.machine.proofs.Fits.{page_width}
use Rattle.machine.proofs.Turning.{link_names}
use Rattle.machine.proofs.Spots.{Home, home_lists, Spot, free, held, spot, carry, carry_back}
use Rattle.machine.proofs.Numbered.{numbered_in, pairs_at, return_at}
use Rattle.machine.proofs.Homes.{width, word_of, free_link, after, holds, within, copy_ok, region_ok_lem, one_home, link_home, home_filled, link_last, link_joined, next_fit, same_stamp, carried, becomes}

module _ (m : Machine) (s : Sound m) where
  -- the link of page n in a copy
  abbrev link : Copy → ℕ → ℕ
  link c n = word_of m c (n * 16)

  -- ---- three copies: what an older and a newer one hold, one between them holds

  between : (a c b : Copy) → Memᴰ a (copies m) → Memᴰ c (copies m) → Memᴰ b (copies m) → CopyGrown c a →
      ((u : ℕ) → live a u ≡ true → live c u ≡ false → live b u ≡ false) → (n : ℕ) → link a n ≢ 0 → link b n ≢ 0 → link c n ≢ 0
  unfolding PagesApart
  between a c b x y z grown gone n f g = by (live c p.region.stamp) refl
    where
      p : Home a.regions n
      p = holds m s a n f

      q : Home b.regions n
      q = holds m s b n g

      both : live b p.region.stamp ≡ true
      both = ap (live b) (s.apart a b x z p.region q.region n p.among q.among (home_lists p) (home_lists q)) ∙ mem_live b q.region q.among

      by : (t : Bool) → live c p.region.stamp ≡ t → link c n ≢ 0
      by false e w = true≢false (sym both ∙ gone p.region.stamp (mem_live a p.region p.among) e)
      by true e w = home_filled m s c y (carry a c grown n p e).home w

  -- ---- links: the copy b holds page n with page q after it

  module _ (b : Copy) (y : Memᴰ b (copies m)) (n q : ℕ) (h : Home b.regions n) (joined : h.next ≡ Some q) where
    -- an older copy that does not hold q has no page after n
    none_after : (c : Copy) → Memᴰ c (copies m) → CopyGrown b c → (Home c.regions q → ⊥) → Spot (width m) c.regions n → turned (link c n) ≡ false
    none_after c x grown z (free w e) = ap turned (free_link (width m) c.regions n e) ∙ zero_not_turned
    none_after c x grown z (held i e) = by i.next refl
      where
        by : (j : Option ℕ) → i.next ≡ j → turned (link c n) ≡ false
        by None d = link_last m s c x i d
        by (Some r) d =
            let w = carried m s c b x y grown i h in
            let o : w.home.next ≡ Some q = (one_home m s b y w.home h).1 ∙ joined in
            let a = (after i r d).0 in
            absurd (no a w.link o)
          where
            no : Home c.regions r → {v : Option ℕ} → (v ≡ i.next) ⊎ (i.next ≡ None) → v ≡ Some q → ⊥
            no a (inr k) o = none_ne_some r (sym k ∙ d)
            no a (inl k) o = z (subst (Home c.regions) (some_injective r q (sym d ∙ sym k ∙ o)) a)

    -- an older copy, or b itself: its link of n has turned exactly if it holds q
    older : (c : Copy) → Memᴰ c (copies m) → CopyGrown b c → turned (link c n) ≡ filled (link c q)
    older c x grown = by (spot (width m) c.regions q)
      where
        by : Spot (width m) c.regions q → turned (link c n) ≡ filled (link c q)
        by (free z e) = none_after c x grown z (spot (width m) c.regions n) ∙ sym (filled_no (link c q) (free_link (width m) c.regions q e))
        by (held i e) =
            let a = after h q joined in
            let t : h.region.stamp ≡ i.region.stamp = ap (λ (g : Region). g.stamp) (sym a.1) ∙ same_stamp m s c b x y grown i a.0 in
            let w = carry_back c b grown n q h joined (region_ok_lem m s b y h.region h.among).no_page_twice i t in
            link_joined m s c x w.0 q w.2 ∙ sym (filled_yes (link c q) (home_filled m s c x i))

    -- a newer copy that does not hold n does not hold q
    newer : (c : Copy) → Memᴰ c (copies m) → CopyGrown c b → link c n ≡ 0 → turned (link c n) ≡ filled (link c q)
    newer c x grown z = ap turned z ∙ zero_not_turned ∙ sym (filled_no (link c q) (by (spot (width m) c.regions q)))
      where
        by : Spot (width m) c.regions q → link c q ≡ 0
        by (free w e) = free_link (width m) c.regions q e
        by (held i e) =
            let a = after h q joined in
            let t : live c h.region.stamp ≡ true = ap (λ (g : Region). live c g.stamp) (sym a.1) ∙ ap (live c) (sym (same_stamp m s b c y x grown a.0 i)) ∙ mem_live c i.region i.among in
            absurd (home_filled m s c x (carry b c grown n h t).home z)

  -- ---- copies by number

  abbrev count : ℕ
  count = length (copies m)

  abbrev copy : ℕ → Copy
  copy c = numbered (copies m) c

  here : (c : ℕ) → 0 < c → c ≤ count → Memᴰ (copy c) (copies m)
  here = numbered_in (copies m)

  grown_at : (a b : ℕ) → 0 < a → a < b → b ≤ count → CopyGrown (copy b) (copy a)
  grown_at = pairs_at CopyGrown (copies m) s.grows

  -- a copy has grown from itself
  grown_to : (a b : ℕ) → 0 < a → a ≤ b → b ≤ count → CopyGrown (copy b) (copy a)
  grown_to a b h k l = by (eqb a b) refl
    where
      by : (t : Bool) → eqb a b ≡ t → CopyGrown (copy b) (copy a)
      by true e = subst (λ (c : ℕ). CopyGrown (copy c) (copy a)) (eqb-true a b e) (copy_refl m.limits m.next (copy a) (copy_ok m s (copy a) (here a h (omega arith))))
      by false e = grown_at a b h (omega tests) l

  between_at : (n a c b : ℕ) → 0 < a → a ≤ c → c ≤ b → b ≤ count → link (copy a) n ≢ 0 → link (copy b) n ≢ 0 → link (copy c) n ≢ 0
  between_at n a c b h i k l f g = by (eqb a c) (eqb c b) refl refl
    where
      by : (t u : Bool) → eqb a c ≡ t → eqb c b ≡ u → link (copy c) n ≢ 0
      by true u e d = subst (λ (x : ℕ). link (copy x) n ≢ 0) (eqb-true a c e) f
      by false true e d = subst (λ (x : ℕ). link (copy x) n ≢ 0) (sym (eqb-true c b d)) g
      by false false e d =
          between (copy a) (copy c) (copy b) (here a h (omega arith)) (here c (omega arith) (omega arith)) (here b (omega arith) l)
          (grown_to a c h i (omega arith)) (λ u. return_at (copies m) s.no_return a c b u h (omega tests) (omega tests) l) n f g

  -- l is the newest copy with the page n, and its link names a page q there: the copies in which it does are those that hold q
  chained_at : (n l q : ℕ) (x : 0 < l) (y : l ≤ count) (h : Home (copy l).regions n) → h.next ≡ Some q → ((c : ℕ) → l < c → c ≤ count → link (copy c) n ≡ 0) →
      (c : ℕ) → 0 < c → c ≤ count → turned (link (copy c) n) ≡ filled (link (copy c) q)
  chained_at n l q x y h e late c i j = by (leb c l) refl
    where
      by : (t : Bool) → leb c l ≡ t → turned (link (copy c) n) ≡ filled (link (copy c) q)
      by true f = older (copy l) (here l x y) n q h e (copy c) (here c i j) (grown_to c l i (omega tests) y)
      by false f = newer (copy l) (here l x y) n q h e (copy c) (here c i j) (grown_at l c x (omega tests) j) (late c (omega tests) j)

  -- ---- the stack

  unbroken : (a : ℕ) → Unbroken count (word_in m (link_address a))
  unbroken a = record { between = between_at (a / 16) }

  grows : (a : ℕ) → Grows count (word_in m (link_address a)) (word_in m a)
  grows a = record {
    within = λ c x y z. within m s (copy c) a z;
    onward = λ c x y f g. becomes m s (copy c) (copy (suc c)) (here c x (omega arith)) (here (suc c) (omega arith) (omega arith)) (grown_at c (suc c) x (omega arith) (omega arith)) a g f;
  }

  -- the conditions on the page that a turned link names
  abbrev Chains : ℕ → ℕ → Type 0
  Chains a w = (next_address (width m) w < 2 ^ (width m)) × ((c : ℕ) → 0 < c → c ≤ count → turned (word_in m a c) ≡ filled (word_in m (next_address (width m) w) c))

  names : (n l : ℕ) → 0 < l → l ≤ count → ((c : ℕ) → l < c → c ≤ count → link (copy c) n ≡ 0) → turned (link (copy l) n) ≡ true → Chains (n * 16) (link (copy l) n)
  unfolding NextFits
  names n l x y late t = by h.next refl
    where
      h : Home (copy l).regions n
      h = holds m s (copy l) n (turned_filled (link (copy l) n) t)

      by : (j : Option ℕ) → h.next ≡ j → Chains (n * 16) (link (copy l) n)
      by None e = absurd (true≢false (sym t ∙ link_last m s (copy l) (here l x y) h e))
      by (Some q) e =
          let f : q < 2 ^ (width m - 4) = subst (NextFits (width m)) e (next_fit m s (copy l) (here l x y) h) in
          let w : next_address (width m) (link (copy l) n) ≡ q * 16
          = ap (next_address (width m)) (link_home m s (copy l) (here l x y) h ∙ ap (link_word (width m) h.region.stamp) e)
          ∙ link_names (width m) s.limits.least s.limits.most h.region.stamp q f in
          rw w (omega (arith, page_width (width m) s.limits.least), chained_at n l q x y h e late)

  chained : (a l : ℕ) → a % 16 ≡ 0 → Newest (λ c. filled (word_in m (link_address a) c)) count l → turned (if eqb l 0 then 0 else word_in m a l) ≡ true → Chains a (if eqb l 0 then 0 else word_in m a l)
  chained a l r (none z f) t = absurd (true≢false (sym t ∙ (rw (eq-eqb l 0 z) zero_not_turned)))
  chained a l r (until x y w f) t =
      let e : a / 16 * 16 ≡ a = omega arith in
      let u : turned (word_in m a l) ≡ true = rw (ne_eqb l 0 (omega arith)) at t in
      let late : (c : ℕ) → l < c → c ≤ count → link (copy c) (a / 16) ≡ 0 = λ c i j. filled_not (link (copy c) (a / 16)) (f c i j) in
      rw (ne_eqb l 0 (omega arith)) (rw e at (names (a / 16) l x y late (rw e u)))

  -- THE COPIES OF A SOUND MACHINE ARE A SOUND STACK
  pub sound_stack : Layers.Sound (width m) (2 ^ (width m)) count (word_in m)
  unfolding mark_of holder
  sound_stack = record {
    present = omega arith;
    unbroken = λ a h. unbroken a;
    grows = λ a h. grows a;
    chained = λ a h r t. chained a (holder count (word_in m (link_address a))) r (newest_spec (λ c. filled (word_in m (link_address a) c)) count) t;
  }
