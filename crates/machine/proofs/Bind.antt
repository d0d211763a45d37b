-- A variable is bound: the copy stays good, and its regions have grown.
use Rattle.std.specs.Prelude.{if◌then◌else◌, Some, slice_get}
use mathlib.Core.Path.{◌≡◌, refl, sym, ap, ◌∙◌, subst}
use mathlib.Core.Bool.{Bool, true, false, true≢false}
use mathlib.Core.Logic.{◌⊎◌, inl, inr, ◌≢◌}
use mathlib.Core.List.{List, [], ◌∷◌, map, Memᴰ}
use Rattle.laws.proofs.Options.{none_ne_some, some_injective}
use Prim.Native.Nat.{ℕ, zero, suc, ◌-◌, ◌/◌, ◌%◌, ◌<◌}
use native.Mathlib.Omega.{arith}
use lib.Dec.{eqb}
use borrow.Author.Tests.{eq-eqb, eqb-true, le-ltb}
use lib.ListN.{set, length-set}
use Rattle.laws.specs.Base.{Each, Pairs}
use Rattle.laws.proofs.Lists.{each_by, each_at, each_map, each_set, pairs_map, pairs_imp, mem_map}
use Rattle.words.specs.declared.Ref.{Ref}
use Rattle.words.specs.declared.Cell.{Cell}
use Rattle.words.specs.declared.Cell.TheVariants.{Unbound, Bound, Int, Head, Argument}
use Rattle.machine.specs.Copies.{Limits, Page, Region, Copy, Machine, lists, held, word, cell_at, set_page, set_region, set_cell}
use Rattle.machine.specs.Unify.{younger}
use Rattle.machine.specs.Sound.{CopyOk, RegionOk, PageOk, Filled, Whole, RefIn, CellIn, Names, CellNames, Starts, IsVariable, Later, Grown, SamePages, TopGrown, RegionGrown}
use Rattle.machine.proofs.Growth.{later_refl, grown_refl, region_refl, same_top, region_onward}
use Rattle.machine.proofs.Onward.{Onward, Listed}
use Rattle.machine.proofs.Registers.{registers_kept, cells_kept}
use Rattle.machine.proofs.Cells.{ref_in_lem, own_word, number_set, numbers_set, length_words_set, filled_set, stamp_set, live_set, lists_set, cell_same, cell_other, same_ref}
use Rattle.machine.proofs.Follow.{Ends, end_names}

-- ---- the words of a page

-- whole terms stay whole where the rest of the page does
whole_rest : (more : ℕ) (w : Cell) (vs ws : List Cell) → ((n : ℕ) → Whole n vs → Whole n ws) → Whole more (w ∷ vs) → Whole more (w ∷ ws)
unfolding Whole
whole_rest zero Unbound vs ws f h = f zero h
whole_rest (suc more) Unbound vs ws f h = h
whole_rest zero (Bound r) vs ws f h = f zero h
whole_rest (suc more) (Bound r) vs ws f h = h
whole_rest zero (Int v) vs ws f h = f zero h
whole_rest (suc more) (Int v) vs ws f h = h
whole_rest zero (Head g n) vs ws f h = f n h
whole_rest (suc more) (Head g n) vs ws f h = h
whole_rest zero (Argument r) vs ws f h = h
whole_rest (suc more) (Argument r) vs ws f h = f more h

-- an unbound variable that is bound: terms stay whole, and the words have grown
module _ (s : Ref) where
  whole_here : (more : ℕ) (v : Cell) (ws : List Cell) → v ≡ Unbound → Whole more (v ∷ ws) → Whole more (Bound s ∷ ws)
  unfolding Whole
  whole_here zero v ws e h = rw e at h
  whole_here (suc more) v ws e h = rw e at h

  whole_bound : (ws : List Cell) (i : ℕ) → slice_get ws i ≡ Some Unbound → (more : ℕ) → Whole more ws → Whole more (set ws i (Bound s))
  whole_bound [] i e more h = absurd (none_ne_some Unbound e)
  whole_bound (v ∷ vs) zero e more h = whole_here more v vs (some_injective v Unbound e) h
  whole_bound (v ∷ vs) (suc i) e more h = whole_rest more v vs (set vs i (Bound s)) (whole_bound vs i e) h

  grown_bound : (ws : List Cell) (i : ℕ) → slice_get ws i ≡ Some Unbound → Grown ws (set ws i (Bound s))
  unfolding Grown Later IsVariable
  grown_bound [] i e = tt
  grown_bound (v ∷ vs) zero e = (rw (some_injective v Unbound e) tt, grown_refl vs)
  grown_bound (v ∷ vs) (suc i) e = (later_refl v, grown_bound vs i e)

-- word i of a page is its cell i - 1
word_get : (ws : List Cell) (i : ℕ) (w : Cell) → word ws i ≡ Some w → slice_get ws (i - 1) ≡ Some w
unfolding word
word_get ws zero w e = absurd (none_ne_some w e)
word_get ws (suc i) w e = let z : suc i - 1 ≡ i = omega arith in rw z e

-- ---- pages and regions

-- r names an unbound variable on this page, if the page is its own
abbrev Open : Ref → Page → Type 0
Open r p = p.number ≡ r.address / 16 → word p.words (r.address % 16) ≡ Some Unbound

module _ (l : Limits) (next : ℕ) (r s : Ref) (target : RefIn l next s) where
  -- a page is in order, and its words have grown
  page_after : (p : Page) → Open r p → PageOk l next p → PageOk l next (set_page r (Bound s) p) × Grown p.words (set_page r (Bound s) p).words
  unfolding set_page CellIn
  page_after p o k = by (eqb p.number (r.address / 16)) refl
    where
      i : ℕ
      i = r.address % 16 - 1

      by : (t : Bool) → eqb p.number (r.address / 16) ≡ t →
          let q : Page = if t then record { number = p.number; words = set p.words i (Bound s) } else p in
          PageOk l next q × Grown p.words q.words
      by true e =
          let f = word_get p.words (r.address % 16) Unbound (o (eqb-true p.number (r.address / 16) e)) in (
            record {
              number = k.number;
              fill = rw length-set k.fill;
              whole = whole_bound s p.words i f 0 k.whole;
              cells = each_set (CellIn l next) p.words i (Bound s) k.cells target;
            },
            grown_bound s p.words i f,
          )
      by false e = (k, grown_refl p.words)

  pages_after : (ps : List Page) → Each (Open r) ps → Each (PageOk l next) ps →
      Each (PageOk l next) (map (set_page r (Bound s)) ps) × SamePages ps (map (set_page r (Bound s)) ps)
  unfolding SamePages
  pages_after [] h k = (tt, tt)
  pages_after (p ∷ ps) h k =
      let a = page_after p h.0 k.0 in
      let b = pages_after ps h.1 k.1 in
      ((a.0, b.0), (sym (number_set r (Bound s) p), sym (length_words_set r (Bound s) p), a.1, b.1))

  -- the region of the variable
  own_after : (g : Region) → Each (Open r) g.pages → RegionOk l next g →
      let h : Region = record { stamp = g.stamp; pages = map (set_page r (Bound s)) g.pages } in
      RegionOk l next h × RegionGrown g h
  unfolding Filled
  own_after g o k =
      let a = pages_after g.pages o k.pages in (
        record {
          stamp = k.stamp;
          filled = filled_set r (Bound s) g.pages k.filled;
          pages = a.0;
          no_page_twice = rw (numbers_set r (Bound s) g.pages) k.no_page_twice;
        },
        record { joined = []; since = map (set_page r (Bound s)) g.pages; split = refl; grown = top g.pages k.filled a.1 },
      )
    where
      top : (ps : List Page) → Filled ps → SamePages ps (map (set_page r (Bound s)) ps) → TopGrown ps (map (set_page r (Bound s)) ps)
      top [] f e = absurd f
      top (p ∷ ps) f e = same_top p ps (map (set_page r (Bound s)) (p ∷ ps)) e

-- ---- a copy

not_younger : (r : Ref) → younger r r ≡ false
unfolding younger
not_younger r = rw (eq-eqb r.stamp r.stamp refl) (le-ltb r.address r.address (omega arith))

-- the variable at r may be bound to the cell at s
pub record Binds (c : Copy) (r s : Ref) : Type 0 where
  pub variable : cell_at c r ≡ Some Unbound
  pub cell : Cell
  pub found : cell_at c s ≡ Some cell
  pub ends : Ends cell
  pub order : IsVariable cell → younger r s ≡ true

module _ (l : Limits) (next : ℕ) (c : Copy) (ok : CopyOk l next c) (r s : Ref) (b : Binds c r s) where
  abbrev after : Copy
  after = set_cell c r (Bound s)

  target : RefIn l next s
  target = ref_in_lem l next c ok s b.cell b.found

  open_pages : (g : Region) → Memᴰ g c.regions → g.stamp ≡ r.stamp → Each (Open r) g.pages
  open_pages g x e = each_by (Open r) g.pages (λ p y f. own_word l next c ok r Unbound b.variable g p x y e f)

  -- a region is in order, and has grown from what it was
  region_after : (g : Region) → Memᴰ g c.regions → RegionOk l next (set_region r (Bound s) g) × RegionGrown g (set_region r (Bound s) g)
  unfolding set_region
  region_after g x = by (eqb g.stamp r.stamp) refl
    where
      k : RegionOk l next g
      k = each_at (RegionOk l next) c.regions ok.regions g x

      by : (t : Bool) → eqb g.stamp r.stamp ≡ t →
          let h : Region = if t then record { stamp = g.stamp; pages = map (set_page r (Bound s)) g.pages } else g in
          RegionOk l next h × RegionGrown g h
      by true e = own_after l next r s target g (open_pages g x (eqb-true g.stamp r.stamp e)) k
      by false e = (k, region_refl l next g k)

  -- what is read after: the variable is bound, and all else is as it was
  here : cell_at after r ≡ Some (Bound s)
  here = cell_same r (Bound s) c Unbound b.variable

  there : (q : Ref) → q ≢ r → cell_at after q ≡ cell_at c q
  there q n = cell_other r (Bound s) (ref_in_lem l next c ok r Unbound b.variable).word c q n

  -- a variable is not bound to itself
  other : s ≢ r
  unfolding IsVariable
  other e =
      let z : b.cell ≡ Unbound = some_injective b.cell Unbound (sym b.found ∙ ap (cell_at c) e ∙ b.variable) in
      let y : younger r s ≡ true = b.order (rw z tt) in
      true≢false (sym y ∙ ap (younger r) e ∙ not_younger r)

  -- what named a cell still does
  still : (q : Ref) → Names c q → Names after q
  unfolding Names Starts
  still q h a = by (same_ref q r)
    where
      by : (q ≡ r) ⊎ (q ≢ r) → (w : Cell) × (cell_at after q ≡ Some w) × Starts w
      by (inl e) = (Bound s, ap (cell_at after) e ∙ here, tt)
      by (inr n) = let k = h (sym (live_set r (Bound s) c q.stamp) ∙ a) in (k.0, there q n ∙ k.1, k.2)

  -- and what is a variable was one
  was : (q : Ref) (w : Cell) → cell_at after q ≡ Some w → IsVariable w → (v : Cell) × (cell_at c q ≡ Some v) × IsVariable v
  unfolding IsVariable
  was q w e k = by (same_ref q r)
    where
      by : (q ≡ r) ⊎ (q ≢ r) → (v : Cell) × (cell_at c q ≡ Some v) × IsVariable v
      by (inl z) = (Unbound, ap (cell_at c) z ∙ b.variable, tt)
      by (inr n) = (w, sym (there q n) ∙ e, k)

  names_here : CellNames after r (Bound s)
  unfolding CellNames
  names_here = (
    still s (end_names c s b.cell b.found b.ends),
    λ v f k. b.order (subst IsVariable (some_injective v b.cell (sym f ∙ there s other ∙ b.found)) k),
  )

  names_after : (q : Ref) (w : Cell) → cell_at after q ≡ Some w → CellNames after q w
  names_after q w e = by (same_ref q r)
    where
      by : (q ≡ r) ⊎ (q ≢ r) → CellNames after q w
      by (inl z) =
          let v : Bound s ≡ w = some_injective (Bound s) w (sym here ∙ ap (cell_at after) (sym z) ∙ e) in
          subst (λ (x : Ref). CellNames after x w) (sym z) (subst (CellNames after r) v names_here)
      by (inr n) = cells_kept l next c after (λ x i. still x) ok (λ x v y. was x v) q w (sym (there q n) ∙ e)

  order_after : Pairs (λ (g h : Region). g.stamp < h.stamp) after.regions
  unfolding set_cell
  order_after =
      pairs_map (λ (g h : Region). g.stamp < h.stamp) (set_region r (Bound s)) c.regions
      (pairs_imp (λ (g h : Region). g.stamp < h.stamp) (λ (g h : Region). (set_region r (Bound s) g).stamp < (set_region r (Bound s) h).stamp) c.regions
      (λ g h k. rw (stamp_set r (Bound s) g, stamp_set r (Bound s) h) k) ok.in_order)

  -- a variable bound: the copy stays good
  pub bind_ok : CopyOk l next after
  unfolding set_cell
  bind_ok = record {
    registers = ok.registers;
    registers_in = ok.registers_in;
    registers_name = registers_kept l next c after (λ q i. still q) ok;
    regions = each_map (RegionOk l next) (set_region r (Bound s)) c.regions (each_by (λ g. RegionOk l next (set_region r (Bound s) g)) c.regions (λ g x. (region_after g x).0));
    in_order = order_after;
    cells_name = names_after;
  }

  -- each region comes from one of the copy: it has the same stamp, lists the same pages, and has grown
  pub bind_grown : (g : Region) → Memᴰ g after.regions →
      (h : Region) × Memᴰ h c.regions × (h.stamp ≡ g.stamp) × ((p : ℕ) → lists p h ≡ lists p g) × RegionGrown h g
  unfolding set_cell
  bind_grown g x =
      let h = mem_map (set_region r (Bound s)) c.regions g x in (
        h.0,
        h.1,
        sym (stamp_set r (Bound s) h.0) ∙ ap (λ (z : Region). z.stamp) (sym h.2),
        λ p. sym (lists_set r (Bound s) p h.0) ∙ ap (lists p) (sym h.2),
        subst (RegionGrown h.0) (sym h.2) (region_after h.0 h.1).1,
      )

-- ---- in a machine

-- a copy that goes on from the present one still does after a binding: no page is taken
pub bind_onward : (m : Machine) (t : ℕ) (c : Copy) (r s : Ref) → Onward m t c → Binds c r s → Onward m t (set_cell c r (Bound s))
bind_onward m t c r s o b =
    let was = bind_grown m.limits m.next c o.ok r s b in
    record {
      ok = bind_ok m.limits m.next c o.ok r s b;
      from = λ g x.
          let h = was g x in
          let a = o.from h.0 h.1 in
          (a.0, a.1, a.2 ∙ h.2, region_onward a.0 h.0 g a.3 h.4);
      pages = λ g p x e.
          let h = was g x in
          subst (λ (u : ℕ). Listed m.present.regions u p ⊎ ((held m p ≡ false) × (u ≡ t))) h.2 (o.pages h.0 p h.1 (h.3 p ∙ e));
    }
