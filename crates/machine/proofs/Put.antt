-- A term is put into a region: it goes behind the words of the newest page; where it does not fit there, an empty page joins first.
use Rattle.std.specs.Prelude.{if◌then◌else◌, Option, Some, None, slice_get}
use mathlib.Core.Path.{◌≡◌, refl, sym, ap, ◌∙◌, subst}
use mathlib.Core.Bool.{Bool, true, false, ◌||◌}
use mathlib.Core.Logic.{◌⊎◌, inl, inr, ∥∥₁_elim}
use mathlib.Core.HLevel.{⊥_prop}
use mathlib.Core.List.{List, [], ◌∷◌, ◌++◌, map, Memᴰ, Nodup, Nodup-cons}
use Rattle.laws.proofs.Options.{none_ne_some, some_injective}
use Prim.Native.Nat.{ℕ, zero, suc, ◌+◌, ◌*◌, ◌/◌, ◌%◌, ◌≤◌, ◌<◌}
use native.Mathlib.Nat.{zero-add, suc-add}
use native.Mathlib.Omega.{arith}
use lib.Dec.{leb, eqb}
use borrow.Author.Tests.{eq-eqb, eqb-true, leb-true}
use lib.ListN.{length, length-append}
use Rattle.laws.specs.Base.{some_of, Each}
use Rattle.laws.proofs.Lists.{each_append, some_yes, mem_map}
use Rattle.words.specs.declared.Cell.{Cell}
use Rattle.words.specs.declared.Cell.TheVariants.{Unbound, Bound, Int, Head, Argument}
use Rattle.machine.specs.Copies.{Limits, Page, Region, lists, word, in_pages, Put, on_new, put}
use Rattle.machine.specs.Sound.{PageIn, CellIn, Whole, PageOk, Filled, RegionOk, Grown, TopGrown, RegionGrown}
use Rattle.machine.proofs.Growth.{later_refl, same_refl, top_refl}
use Rattle.machine.proofs.Cells.{word_found, page_found}

-- ---- words behind words

at_left : (vs ws : List Cell) (i : ℕ) (w : Cell) → slice_get vs i ≡ Some w → slice_get (vs ++ ws) i ≡ Some w
at_left [] ws i w e = absurd (none_ne_some w e)
at_left (v ∷ vs) ws zero w e = e
at_left (v ∷ vs) ws (suc i) w e = at_left vs ws i w e

at_right : (vs ws : List Cell) (i : ℕ) → slice_get (vs ++ ws) (length vs + i) ≡ slice_get ws i
at_right [] ws i = rw zero-add
at_right (v ∷ vs) ws i = rw suc-add (at_right vs ws i)

at_back : (vs ws : List Cell) (i : ℕ) (w : Cell) → slice_get (vs ++ ws) i ≡ Some w → (slice_get vs i ≡ Some w) ⊎ Memᴰ w ws
unfolding word
at_back [] ws i w e = inr (word_found ws (suc i) w e).1
at_back (v ∷ vs) ws zero w e = inl e
at_back (v ∷ vs) ws (suc i) w e = at_back vs ws i w e

word_kept : (vs ws : List Cell) (i : ℕ) (w : Cell) → word vs i ≡ Some w → word (vs ++ ws) i ≡ Some w
unfolding word
word_kept vs ws zero w e = e
word_kept vs ws (suc i) w e = at_left vs ws i w e

word_back : (vs ws : List Cell) (i : ℕ) (w : Cell) → word (vs ++ ws) i ≡ Some w → (word vs i ≡ Some w) ⊎ Memᴰ w ws
unfolding word
word_back vs ws zero w e = inl e
word_back vs ws (suc i) w e = at_back vs ws i w e

word_none : (i : ℕ) → word [] i ≡ None
unfolding word
word_none zero = refl
word_none (suc i) = refl

-- whole terms, and whole terms behind them
whole_append : (n : ℕ) (vs ws : List Cell) → Whole n vs → Whole 0 ws → Whole n (vs ++ ws)
unfolding Whole
whole_append zero [] ws h k = k
whole_append (suc n) [] ws h k = absurd h
whole_append zero (Unbound ∷ vs) ws h k = whole_append zero vs ws h k
whole_append (suc n) (Unbound ∷ vs) ws h k = absurd h
whole_append zero (Bound r ∷ vs) ws h k = whole_append zero vs ws h k
whole_append (suc n) (Bound r ∷ vs) ws h k = absurd h
whole_append zero (Int v ∷ vs) ws h k = whole_append zero vs ws h k
whole_append (suc n) (Int v ∷ vs) ws h k = absurd h
whole_append zero (Head f a ∷ vs) ws h k = whole_append a vs ws h k
whole_append (suc n) (Head f a ∷ vs) ws h k = absurd h
whole_append zero (Argument r ∷ vs) ws h k = absurd h
whole_append (suc n) (Argument r ∷ vs) ws h k = whole_append n vs ws h k

grown_append : (vs ws : List Cell) → Grown vs (vs ++ ws)
unfolding Grown
grown_append [] ws = tt
grown_append (v ∷ vs) ws = (later_refl v, grown_append vs ws)

-- ---- words behind those of the newest page

abbrev behind : Page → List Cell → Page
behind p ws = record { number = p.number; words = p.words ++ ws }

-- what was at an address is there still
page_kept : (p : Page) (qs : List Page) (ws : List Cell) (x : ℕ) (w : Cell) → in_pages (p ∷ qs) x ≡ Some w → in_pages (behind p ws ∷ qs) x ≡ Some w
unfolding in_pages
page_kept p qs ws x w = by (eqb p.number (x / 16))
  where
    by : (t : Bool) → (if t then word p.words (x % 16) else in_pages qs x) ≡ Some w → (if t then word (p.words ++ ws) (x % 16) else in_pages qs x) ≡ Some w
    by true e = word_kept p.words ws (x % 16) w e
    by false e = e

-- and what is there now was there, or is one of the new words
page_back : (p : Page) (qs : List Page) (ws : List Cell) (x : ℕ) (w : Cell) → in_pages (behind p ws ∷ qs) x ≡ Some w → (in_pages (p ∷ qs) x ≡ Some w) ⊎ Memᴰ w ws
unfolding in_pages
page_back p qs ws x w = by (eqb p.number (x / 16))
  where
    by : (t : Bool) → (if t then word (p.words ++ ws) (x % 16) else in_pages qs x) ≡ Some w →
        ((if t then word p.words (x % 16) else in_pages qs x) ≡ Some w) ⊎ Memᴰ w ws
    by true e = word_back p.words ws (x % 16) w e
    by false e = inl e

-- the new words stand behind the old
page_new : (p : Page) (qs : List Page) (ws : List Cell) (i : ℕ) → length p.words + i < 15 →
    in_pages (behind p ws ∷ qs) (p.number * 16 + suc (length p.words) + i) ≡ slice_get ws i
unfolding in_pages word
page_new p qs ws i h =
    let x : ℕ = p.number * 16 + suc (length p.words) + i in
    let a : p.number ≡ x / 16 = omega arith in
    let b : x % 16 ≡ suc (length p.words + i) = omega arith in
    rw (eq-eqb p.number (x / 16) a, b) (at_right p.words ws i)

-- ---- the page that a term goes to

abbrev numbered : ℕ → Page → Bool
numbered n q = eqb q.number n

-- an address with a word is on a page of the list
in_listed : (ps : List Page) (x : ℕ) (w : Cell) → in_pages ps x ≡ Some w → some_of (numbered (x / 16)) ps ≡ true
in_listed ps x w e = let k = page_found ps x w e in some_yes (numbered (x / 16)) ps k.0 k.1 (eq-eqb k.0.number (x / 16) k.2)

-- the term goes behind the words of p, and qs are the older pages: the region's own pages, or these below a page that joins.
-- So both ways to put a term are one from here on.
record Room (l : Limits) (next : ℕ) (page : Option ℕ) (g : Region) (p : Page) (qs : List Page) : Type 0 where
  pages : Each (PageOk l next) (p ∷ qs)
  no_page_twice : Nodup (map (λ (q : Page). q.number) (p ∷ qs))
  same : (x : ℕ) → in_pages (p ∷ qs) x ≡ in_pages g.pages x
  filled : (q : Page) → 1 ≤ length q.words → Filled (q ∷ qs)
  grown : (ws : List Cell) → RegionGrown g (record { stamp = g.stamp; pages = behind p ws ∷ qs })
  listed : (n : ℕ) → some_of (numbered n) (p ∷ qs) ≡ true → (lists n g ≡ true) ⊎ (page ≡ Some n)

-- a page with a word in the newest one's place, or above it
filled_over : (p : Page) (qs : List Page) → Filled (p ∷ qs) → (q : Page) → 1 ≤ length q.words → Filled (q ∷ qs)
unfolding Filled
filled_over p [] f q h = tt
filled_over p (r ∷ rs) f q h = (h, f.1)

filled_on : (ps : List Page) → Filled ps → (q : Page) → 1 ≤ length q.words → Filled (q ∷ ps)
unfolding Filled
filled_on [] f q h = tt
filled_on (r ∷ rs) f q h = (h, f)

module _ (l : Limits) (next : ℕ) (g : Region) (ok : RegionOk l next g) where
  -- the region's newest page has room
  top_room : (page : Option ℕ) (p : Page) (qs : List Page) → g.pages ≡ p ∷ qs → Room l next page g p qs
  unfolding TopGrown
  top_room page p qs e = record {
    pages = subst (Each (PageOk l next)) e ok.pages;
    no_page_twice = subst (λ (ps : List Page). Nodup (map (λ (q : Page). q.number) ps)) e ok.no_page_twice;
    same = λ x. ap (λ (ps : List Page). in_pages ps x) (sym e);
    filled = filled_over p qs (subst Filled e ok.filled);
    grown = λ ws. record {
      joined = [];
      since = behind p ws ∷ qs;
      split = refl;
      grown = subst (λ (ps : List Page). TopGrown ps (behind p ws ∷ qs)) (sym e) (refl, grown_append p.words ws, same_refl qs);
    };
    listed = λ n h. inl (subst (λ (ps : List Page). some_of (numbered n) ps ≡ true) (sym e) h);
  }

  -- a page that the region did not list joins, empty
  new_room : (page : Option ℕ) (n : ℕ) → page ≡ Some n → PageIn l n → (lists n g ≡ true → ⊥) → Room l next page g (record { number = n; words = [] }) g.pages
  unfolding Whole in_pages
  new_room page n f i u = record {
    pages = (record { number = i; fill = omega arith; whole = tt; cells = tt }, ok.pages);
    no_page_twice = Nodup-cons.1 (λ h. ∥∥₁_elim h ⊥_prop off, ok.no_page_twice);
    same = λ x. at x (eqb n (x / 16)) refl (in_pages g.pages x) refl;
    filled = filled_on g.pages ok.filled;
    grown = λ ws. record { joined = record { number = n; words = ws } ∷ []; since = g.pages; split = refl; grown = top_refl g.pages ok.filled };
    listed = λ k. by k (eqb n k) refl;
  }
    where
      off : Memᴰ n (map (λ (q : Page). q.number) g.pages) → ⊥
      off h = let k = mem_map (λ (q : Page). q.number) g.pages n h in u (some_yes (numbered n) g.pages k.0 k.1 (eq-eqb k.0.number n (sym k.2)))

      at : (x : ℕ) (t : Bool) → eqb n (x / 16) ≡ t → (o : Option Cell) → in_pages g.pages x ≡ o → (if t then word [] (x % 16) else in_pages g.pages x) ≡ in_pages g.pages x
      at x true e None h = word_none (x % 16) ∙ sym h
      at x true e (Some w) h = absurd (u (subst (λ (k : ℕ). lists k g ≡ true) (sym (eqb-true n (x / 16) e)) (in_listed g.pages x w h)))
      at x false e o h = refl

      by : (k : ℕ) (t : Bool) → eqb n k ≡ t → (t || lists k g) ≡ true → (lists k g ≡ true) ⊎ (page ≡ Some k)
      by k true e h = inr (f ∙ ap Some (eqb-true n k e))
      by k false e h = inl h

-- ---- the region after it

-- what a region is after a term of the words ws was put
pub record Added (l : Limits) (next : ℕ) (page : Option ℕ) (ws : List Cell) (g : Region) (u : Put) : Type 0 where
  pub region : RegionOk l next (record { stamp = g.stamp; pages = u.pages })
  pub grown : RegionGrown g (record { stamp = g.stamp; pages = u.pages })
  -- it lists no page but its own and the one that joined
  pub listed : (n : ℕ) → lists n (record { stamp = g.stamp; pages = u.pages }) ≡ true → (lists n g ≡ true) ⊎ (page ≡ Some n)
  -- each old word stands where it stood, and there are no others but the new
  pub kept : (x : ℕ) (w : Cell) → in_pages g.pages x ≡ Some w → in_pages u.pages x ≡ Some w
  pub back : (x : ℕ) (w : Cell) → in_pages u.pages x ≡ Some w → (in_pages g.pages x ≡ Some w) ⊎ Memᴰ w ws
  -- the new words stand from the address on
  pub cells : (i : ℕ) → i < length ws → in_pages u.pages (u.address + i) ≡ slice_get ws i
  pub page_in_lem : PageIn l (u.address / 16)
  pub word_in : 1 ≤ u.address % 16

-- a whole term of 1 to 15 words
pub record TermOk (l : Limits) (next : ℕ) (ws : List Cell) : Type 0 where
  pub least : 1 ≤ length ws
  pub most : length ws ≤ 15
  pub whole : Whole 0 ws
  pub cells : Each (CellIn l next) ws

abbrev put_on : Page → List Page → List Cell → Put
put_on p qs ws = record { pages = behind p ws ∷ qs; address = p.number * 16 + suc (length p.words) }

module _ (l : Limits) (next : ℕ) (page : Option ℕ) (ws : List Cell) (g : Region) (ok : RegionOk l next g) (term : TermOk l next ws) where
  room_region : (p : Page) (qs : List Page) → Room l next page g p qs → length p.words + length ws ≤ 15 →
      RegionOk l next (record { stamp = g.stamp; pages = behind p ws ∷ qs })
  room_region p qs r h = record {
    stamp = ok.stamp;
    filled = r.filled (behind p ws) (omega (arith, length-append p.words ws, term.least));
    pages = (
      record {
        number = r.pages.0.number;
        fill = omega (arith, length-append p.words ws);
        whole = whole_append 0 p.words ws r.pages.0.whole term.whole;
        cells = each_append (CellIn l next) p.words ws r.pages.0.cells term.cells;
      },
      r.pages.1,
    );
    no_page_twice = r.no_page_twice;
  }

  room_adds : (p : Page) (qs : List Page) → Room l next page g p qs → length p.words + length ws ≤ 15 → Added l next page ws g (put_on p qs ws)
  room_adds p qs r h =
      let a : ℕ = p.number * 16 + suc (length p.words) in
      let b : p.number ≡ a / 16 = omega (arith, term.least) in
      record {
        region = room_region p qs r h;
        grown = r.grown ws;
        listed = r.listed;
        kept = λ x w e. page_kept p qs ws x w (r.same x ∙ e);
        back = λ x w e. by x w (page_back p qs ws x w e);
        cells = λ i k. page_new p qs ws i (omega arith);
        page_in_lem = subst (PageIn l) b r.pages.0.number;
        word_in = omega (arith, term.least);
      }
    where
      by : (x : ℕ) (w : Cell) → (in_pages (p ∷ qs) x ≡ Some w) ⊎ Memᴰ w ws → (in_pages g.pages x ≡ Some w) ⊎ Memᴰ w ws
      by x w (inl e) = inl (sym (r.same x) ∙ e)
      by x w (inr k) = inr k

  -- THE LAW OF put: a page that joins must be a page of the machine that the region does not list
  pub put_adds : ((n : ℕ) → page ≡ Some n → PageIn l n × (lists n g ≡ true → ⊥)) → (u : Put) → put page ws g.pages ≡ Some u → Added l next page ws g u
  unfolding put on_new Filled
  put_adds fresh u = by g.pages refl
    where
      by : (ps : List Page) → g.pages ≡ ps → put page ws ps ≡ Some u → Added l next page ws g u
      by [] e h = absurd (subst Filled e ok.filled)
      by (p ∷ qs) e h = at (leb (length p.words + length ws) 15) refl page refl h
        where
          at : (t : Bool) → leb (length p.words + length ws) 15 ≡ t → (o : Option ℕ) → page ≡ o → (if t then Some (put_on p qs ws) else on_new o ws (p ∷ qs)) ≡ Some u →
              Added l next page ws g u
          at true q o f h =
              subst (Added l next page ws g) (some_injective (put_on p qs ws) u h) (room_adds p qs (top_room l next g ok page p qs e) (leb-true (length p.words + length ws) 15 q))
          at false q None f h = absurd (none_ne_some u h)
          at false q (Some n) f h =
              let k = fresh n f in
              let top : Page = record { number = n; words = [] } in
              subst (Added l next page ws g) (ap (λ (ps : List Page). put_on top ps ws) e ∙ some_injective (put_on top (p ∷ qs) ws) u h)
              (room_adds top g.pages (new_room l next g ok page n f k.0 k.1) (omega (arith, term.most)))
