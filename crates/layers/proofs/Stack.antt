-- Every copy's word is read off the layers.
use Rattle.std.specs.Prelude.{if◌then◌else◌}
use mathlib.Core.Path.{◌≡◌, refl, sym, ◌∙◌}
use mathlib.Core.Bool.{Bool, true, false, true≢false}
use Prim.Native.Nat.{ℕ, ◌%◌, ◌≤◌, ◌<◌}
use native.Mathlib.Omega.{arith}
use lib.Dec.{leb, eqb}
use borrow.Author.Tests.{eq-eqb, eqb-true}
use Rattle.laws.specs.Search.{oldest, newest}
use Rattle.laws.proofs.Tests.{tests}
use Rattle.laws.proofs.Search.{Oldest, never, since, Newest, none, until, oldest_spec, newest_spec, oldest_same}
use Rattle.layers.specs.Words.{filled, turned, link_address, next_address}
use Rattle.layers.specs.Marks.{mark, view}
use Rattle.layers.specs.Shows.{holder, mark_of, Fit, empty, plain, later, Shows}
use Rattle.layers.specs.Stack.{Stack, holder_in, mark_in, Sound, Layers, gone_of, holder_by, layers, holder_at, link_turn, mark_at, view_at, Same}
use Rattle.layers.proofs.Shows.{grows_shows}

-- the newest copy that passes is no older than the oldest that does, and there is one if there is the other
holder_le : (p : ℕ → Bool) (n : ℕ) → (oldest p n ≤ newest p n) × (oldest p n ≡ 0 → newest p n ≡ 0)
holder_le p n = go (oldest_spec p n) (newest_spec p n)
  where
    go : {lo l : ℕ} → Oldest p n lo → Newest p n l → (lo ≤ l) × (lo ≡ 0 → l ≡ 0)
    go (never h f) (none k g) = (omega arith, λ e. k)
    go (never h f) (until k u t g) = absurd (true≢false (sym t ∙ f _ k u))
    go (since h k t f) (none i g) = absurd (true≢false (sym t ∙ g _ h k))
    go {lo} {l} (since h k t f) (until i u r g) = (by (leb lo l) refl, λ e. absurd (omega arith))
      where
        by : (b : Bool) → leb lo l ≡ b → lo ≤ l
        by true e = omega tests
        by false e = absurd (true≢false (sym r ∙ f l i (omega tests)))

-- the mark in a page's link says which copy is the newest that holds it
holder_back : (n lo l : ℕ) → 0 < n → (lo ≡ 0 → l ≡ 0) → lo ≤ l → holder_by n lo (gone_of n l) ≡ l
unfolding holder_by gone_of
holder_back n lo l hn h k = go (eqb l n) refl
  where
    by_lo : (t : Bool) → eqb lo 0 ≡ t → l ≡ n → (if t then 0 else n) ≡ l
    by_lo true e p = absurd (omega (arith, h (eqb-true lo 0 e)))
    by_lo false e p = sym p

    by_l : (t : Bool) → eqb l 0 ≡ t → (if t then (if eqb lo 0 then 0 else n) else l) ≡ l
    by_l true e = rw (eq-eqb lo 0 (omega tests)) (sym (eqb-true l 0 e))
    by_l false e = refl

    go : (t : Bool) → eqb l n ≡ t → (if eqb (if t then 0 else l) 0 then (if eqb lo 0 then 0 else n) else (if t then 0 else l)) ≡ l
    go true e = by_lo (eqb lo 0) refl (eqb-true l n e)
    go false e = by_l (eqb l 0) refl

module _ {k size n : ℕ} {F : Stack} (s : Sound k size n F) where
  pub shows_in : (a : ℕ) → a < size → Shows (oldest (λ c. filled (F (link_address a) c)) n) (holder_in n F a) n (mark_in n F a) (F a)
  shows_in a h = grows_shows n (F (link_address a)) (F a) (s.grows a h) (s.unbroken a h)

  pub holder_at_lem : (a : ℕ) → holder_at k n (layers n F) a ≡ holder_in n F a
  unfolding layers mark_of holder
  holder_at_lem a =
      let z : link_address a % 16 ≡ 0 = omega arith in
      let y : link_address (link_address a) ≡ link_address a = omega arith in
      let p = holder_le (λ c. filled (F (link_address a) c)) n in
      rw (z, y) (holder_back n (oldest (λ c. filled (F (link_address a) c)) n) (newest (λ c. filled (F (link_address a) c)) n) s.present p.1 p.0)

  -- the turn of a link is the born mark of the page that it names
  link_turn_lem : (a : ℕ) → a < size → a % 16 ≡ 0 → link_turn k n (layers n F) (mark_in n F a).word ≡ (mark_in n F a).turn
  unfolding layers mark_of
  link_turn_lem a h z = by (turned (mark_in n F a).word) refl
    where
      next : ℕ
      next = next_address k (mark_in n F a).word

      no_turn : Fit (oldest (λ c. filled (F (link_address a) c)) n) (holder_in n F a) (mark_in n F a) → turned (mark_in n F a).word ≡ false → 0 ≡ (mark_in n F a).turn
      no_turn (empty w b e) q = sym e
      no_turn (plain w t x y v e) q = sym e
      no_turn (later w t x y v e) q = absurd (true≢false (sym t ∙ q))

      by : (t : Bool) → turned (mark_in n F a).word ≡ t → (if t then oldest (λ c. filled (F next c)) n else 0) ≡ oldest (λ c. turned (F a c)) n
      by true q = sym (oldest_same (λ c. turned (F a c)) (λ c. filled (F next c)) n (s.chained a h z q).1)
      by false q = no_turn (shows_in a h).fit q

  pub mark_at_lem : (a : ℕ) → a < size → mark_at k n (layers n F) a ≡ mark_in n F a
  unfolding layers
  mark_at_lem a h = λ i. mark (mark_in n F a).word (mark_in n F a).born (by (eqb (a % 16) 0) refl i)
    where
      by : (t : Bool) → eqb (a % 16) 0 ≡ t →
          (if t then link_turn k n (layers n F) (mark_in n F a).word else (if t then gone_of n (holder_in n F a) else (mark_in n F a).turn)) ≡ (mark_in n F a).turn
      by true e = link_turn_lem a h (eqb-true (a % 16) 0 e)
      by false e = refl

  -- THE VIEW LAW: every copy's word is read off the layers
  pub view_at_lem : (a : ℕ) → a < size → (c : ℕ) → 0 < c → c ≤ n → F a c ≡ view_at k n (layers n F) a c
  unfolding view_at
  view_at_lem a h c p q = rw (holder_at_lem a, mark_at_lem a h) ((shows_in a h).shown c p q)

-- the view of an address needs the layers below the size only
pub view_same : (k size n : ℕ) (s t : Layers) → Same size s t → (a : ℕ) → a < size → (a % 16 ≡ 0 → turned (s.heap a) ≡ true → next_address k (s.heap a) < size) → (c : ℕ) →
    view_at k n s a c ≡ view_at k n t a c
unfolding view_at
view_same k size n s t e a h next c = λ i. view (holder_by n (e.born (link_address a) low i) (e.turns (link_address a) low i)) (mark (e.heap a h i) (e.born a h i) (turn (eqb (a % 16) 0) refl i)) c
  where
    low : link_address a < size
    low = omega arith

    turn : (b : Bool) → eqb (a % 16) 0 ≡ b → (if b then link_turn k n s (s.heap a) else s.turns a) ≡ (if b then link_turn k n t (t.heap a) else t.turns a)
    turn false q = e.turns a h
    turn true q = rw (← e.heap a h) (by (turned (s.heap a)) refl)
      where
        by : (b : Bool) → turned (s.heap a) ≡ b → (if b then s.born (next_address k (s.heap a)) else 0) ≡ (if b then t.born (next_address k (s.heap a)) else 0)
        by true r = e.born (next_address k (s.heap a)) (next (eqb-true (a % 16) 0 q) r)
        by false r = refl
