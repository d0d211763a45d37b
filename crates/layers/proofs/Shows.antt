-- A sound history is what its mark shows.
use Rattle.std.specs.Prelude.{if◌then◌else◌}
use mathlib.Core.Path.{◌≡◌, refl, sym, ap, ◌∙◌}
use mathlib.Core.Bool.{Bool, true, false, true≢false}
use mathlib.Core.Logic.{◌≢◌, inl, inr}
use Prim.Native.Nat.{ℕ, zero, suc, ◌+◌, ◌-◌, ◌≤◌, ◌<◌}
use native.Mathlib.Omega.{arith}
use native.Mathlib.Nat.{add-zero, add-suc}
use lib.Dec.{leb, eqb}
use borrow.Author.Tests.{ne_eqb}
use Rattle.laws.specs.Search.{oldest}
use Rattle.laws.proofs.Tests.{tests}
use Rattle.laws.proofs.Search.{Oldest, never, since, Newest, none, until, oldest_spec, newest_spec}
use Rattle.layers.specs.Words.{filled, turned, old}
use Rattle.layers.specs.Marks.{mark, blank, view}
use Rattle.layers.specs.Shows.{empty, plain, later, History, word_of, holder, mark_of, Shows, Becomes, Unbroken, Grows}
use Rattle.layers.proofs.Words.{filled_is, filled_not, turned_filled, becomes_filled, becomes_trans, turned_stays}
use Rattle.layers.proofs.Marks.{view_before, view_after, view_new, view_old, view_blank, Seen, before, after, new, past, seen}

module _ (n : ℕ) (L F : History) (g : Grows n L F) where
  -- from copy c to copy c + i, all of which hold the page
  goes : (i c : ℕ) → 0 < c → c + i ≤ n → ((d : ℕ) → c ≤ d → d ≤ c + i → L d ≢ 0) → F c ≢ 0 → Becomes (F c) (F (c + i))
  goes zero c h k live x = rw add-zero (inl refl)
  goes (suc i) c h k live x =
      let ih : Becomes (F c) (F (c + i)) = goes i c h (omega arith) (λ d u v. live d u (omega arith)) x in
      let l : L (suc (c + i)) ≢ 0 = live (suc (c + i)) (omega arith) (omega arith) in
      rw add-suc (becomes_trans (F c) (F (c + i)) (F (suc (c + i))) ih (g.onward (c + i) (omega arith) (omega arith) l (becomes_filled (F c) (F (c + i)) x ih)))

  becomes : Unbroken n L → (c d : ℕ) → 0 < c → c ≤ d → d ≤ n → L d ≢ 0 → F c ≢ 0 → Becomes (F c) (F d)
  becomes u c d h k r hd hc =
      let e : c + (d - c) ≡ d = omega arith in
      let held : L c ≢ 0 = λ z. hc (g.within c h (omega arith) z) in
      rw e at (goes (d - c) c h (omega arith) (λ x p q. u.between c x d h p (omega arith) r held hd) hc)

  -- the page is held in copy l and in none after it; the word is w there, and filled from copy b on
  module _ (u : Unbroken n L) (lo l b w : ℕ) (hz : 0 < lo) (ho : lo ≤ b) (hb : b ≤ l) (hn : l ≤ n) (hl : L l ≢ 0) (hf : F b ≢ 0) (hw : w ≡ F l)
      (early : (c : ℕ) → 0 < c → c < b → F c ≡ 0) (late : (c : ℕ) → l < c → c ≤ n → F c ≡ 0) where
    alive : (c : ℕ) → b ≤ c → c ≤ l → L c ≢ 0
    alive c h k = u.between b c l (omega arith) h k hn (λ z. hf (g.within b (omega arith) (omega arith) z)) hl

    full : (c : ℕ) → b ≤ c → c ≤ l → F c ≢ 0
    full c h k = becomes_filled (F b) (F c) hf (becomes u b c (omega arith) h (omega arith) (alive c h k) hf)

    -- which becomes the word at last
    to_last : (c : ℕ) → b ≤ c → c ≤ l → Becomes (F c) w
    to_last c h k = rw hw (becomes u c l (omega arith) k hn hl (full c h k))

    word_full : w ≢ 0
    word_full e = full l hb (omega arith) (sym hw ∙ e)

    -- a copy in which the word is filled is one of b .. l
    in_span : (c : ℕ) → 0 < c → c ≤ n → F c ≢ 0 → (b ≤ c) × (c ≤ l)
    in_span c h k f = go (leb b c) (leb c l) refl refl
      where
        go : (s t : Bool) → leb b c ≡ s → leb c l ≡ t → (b ≤ c) × (c ≤ l)
        go false t p q = absurd (f (early c h (omega tests)))
        go true false p q = absurd (f (late c (omega tests) k))
        go true true p q = (omega tests, omega tests)

    -- where the word has turned, it is the word at last
    turned_last : (c : ℕ) → 0 < c → c ≤ n → turned (F c) ≡ true → w ≡ F c
    turned_last c h k t = let s = in_span c h k (turned_filled (F c) t) in turned_stays (F c) w t (to_last c s.0 s.1)

    -- it has not turned in any copy
    plain_shows : (e : ℕ) → turned w ≡ false → e ≡ 0 → Shows lo l n (mark w b e) F
    plain_shows e q nil = record { fit = plain word_full q hz ho hb nil; shown = λ c h k. at c h k (seen l (mark w b e) c) }
      where
        same : (c : ℕ) → Becomes (F c) w → F c ≡ w
        same c (inl e) = sym e
        same c (inr p) = absurd (true≢false (sym p.0 ∙ q))

        at : (c : ℕ) → 0 < c → c ≤ n → Seen l (mark w b e) c → F c ≡ view l (mark w b e) c
        at c h k (before x) = early c h x ∙ sym (view_before l (mark w b e) c x)
        at c h k (after x) = late c x k ∙ sym (view_after l (mark w b e) c x)
        at c h k (new x y z) = same c (to_last c x y) ∙ sym (view_new l (mark w b e) c x y z)
        at c h k (past x y z) = absurd (omega arith)

    -- it turned in copy e
    later_shows : (e : ℕ) → 0 < e → e ≤ n → turned (F e) ≡ true → ((c : ℕ) → 0 < c → c < e → turned (F c) ≡ false) → Shows lo l n (mark w b e) F
    later_shows e h k r f = record { fit = later word_full (ap turned is ∙ r) hz ho span.0 span.1; shown = λ c i j. at c i j (seen l (mark w b e) c) }
      where
        is : w ≡ F e
        is = turned_last e h k r

        span : (b ≤ e) × (e ≤ l)
        span = in_span e h k (turned_filled (F e) r)

        old_before : (c : ℕ) → 0 < c → c < e → Becomes (F c) w → F c ≡ old w
        old_before c x y (inl p) = absurd (true≢false (sym r ∙ ap turned (sym is ∙ p) ∙ f c x y))
        old_before c x y (inr p) = p.1

        at : (c : ℕ) → 0 < c → c ≤ n → Seen l (mark w b e) c → F c ≡ view l (mark w b e) c
        at c i j (before x) = early c i x ∙ sym (view_before l (mark w b e) c x)
        at c i j (after x) = late c x j ∙ sym (view_after l (mark w b e) c x)
        at c i j (new x y z) =
            turned_stays (F e) (F c) r (becomes u e c h z (omega arith) (alive c x y) (turned_filled (F e) r)) ∙ sym is ∙ sym (view_new l (mark w b e) c x y z)
        at c i j (past x y z) = old_before c i z (to_last c x y) ∙ sym (view_old l (mark w b e) c x y z)

    live_shows : (e : ℕ) → Oldest (λ c. turned (F c)) n e → Shows lo l n (mark w b e) F
    live_shows e (since h k r f) = later_shows e h k r f
    live_shows e (never h f) = plain_shows e (ap turned hw ∙ f l (omega arith) hn) h

  -- a word that no copy has filled
  blank_shows : ((c : ℕ) → 0 < c → c ≤ n → F c ≡ 0) → (lo l b e : ℕ) → l ≤ n → b ≡ 0 → Oldest (λ c. turned (F c)) n e → Shows lo l n (mark (word_of l F) b e) F
  blank_shows z lo l b e hl hb (since h k r f) = absurd (turned_filled (F e) r (z e h k))
  blank_shows z lo l b e hl hb (never he f) =
      let m : mark (word_of l F) b e ≡ blank = λ i. mark (word (eqb l 0) refl i) (hb i) (he i) in
      record { fit = empty (word (eqb l 0) refl) hb he; shown = λ c h k. z c h k ∙ (simp (m, view_blank)) }
    where
      word : (s : Bool) → eqb l 0 ≡ s → (if s then 0 else F l) ≡ 0
      word true x = refl
      word false x = z l (omega tests) hl

  module _ (u : Unbroken n L) where
    from_specs : (lo l b e : ℕ) → Oldest (λ c. filled (L c)) n lo → Newest (λ c. filled (L c)) n l → Oldest (λ c. filled (F c)) n b → Oldest (λ c. turned (F c)) n e →
        Shows lo l n (mark (word_of l F) b e) F
    from_specs lo l b e x (none hl f) (never hb z) o = blank_shows (λ c h k. filled_not (F c) (z c h k)) lo l b e (omega arith) hb o
    from_specs lo l b e x (none hl f) (since hb kb qb z) o = absurd (filled_is (F b) qb (g.within b hb kb (filled_not (L b) (f b hb kb))))
    from_specs lo l b e x (until hl kl ql f) (never hb z) o = blank_shows (λ c h k. filled_not (F c) (z c h k)) lo l b e kl hb o
    from_specs lo l b e (never ho y) (until hl kl ql f) (since hb kb qb z) o = absurd (true≢false (sym ql ∙ y l hl kl))
    from_specs lo l b e (since ho ko qo y) (until hl kl ql f) (since hb kb qb z) o =
        rw (ne_eqb l 0 (omega arith)) (live_shows u lo l b (F l) ho first_le last_le kl (filled_is (L l) ql) (filled_is (F b) qb) refl
        (λ c i j. filled_not (F c) (z c i j)) (λ c i j. g.within c (omega arith) j (filled_not (L c) (f c i j))) e o)
      where
        held : L b ≢ 0
        held v = filled_is (F b) qb (g.within b hb kb v)

        first_le : lo ≤ b
        first_le = go (leb lo b) refl
          where
            go : (s : Bool) → leb lo b ≡ s → lo ≤ b
            go true v = omega tests
            go false v = absurd (held (filled_not (L b) (y b hb (omega tests))))

        last_le : b ≤ l
        last_le = go (leb b l) refl
          where
            go : (s : Bool) → leb b l ≡ s → b ≤ l
            go true v = omega tests
            go false v = absurd (held (filled_not (L b) (f b (omega tests) kb)))

    -- THE LAW
    pub grows_shows : Shows (oldest (λ c. filled (L c)) n) (holder n L) n (mark_of (holder n L) n F) F
    unfolding holder mark_of
    grows_shows = from_specs _ _ _ _ (oldest_spec (λ c. filled (L c)) n) (newest_spec (λ c. filled (L c)) n) (oldest_spec (λ c. filled (F c)) n) (oldest_spec (λ c. turned (F c)) n)
