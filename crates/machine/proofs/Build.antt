-- Ops 3, 4 and 5: a term is put into a region of the present copy, and a register refers to its first cell. The machine stays sound.
use Rattle.std.specs.Prelude.{if◌then◌else◌, Option, Some, None, slice_get}
use mathlib.Core.Path.{◌≡◌, refl, sym, ap, ◌∙◌, subst}
use mathlib.Core.Bool.{Bool, true, false}
use mathlib.Core.Logic.{◌⊎◌, inl, inr, ◌≢◌}
use mathlib.Core.List.Memᴰ
use mathlib.Core.List.{List, [], ◌∷◌, map, Memᴰ}
use Rattle.laws.proofs.Options.{none_ne_some, some_injective}
use Prim.Native.Nat.{ℕ, zero, suc, ◌^◌, ◌≤◌, ◌<◌}
use native.Mathlib.Nat.{add-zero}
use native.Mathlib.Omega.{arith}
use lib.Dec.{eqb}
use lib.IntN.{ℤ}
use borrow.Author.Tests.{eqb-true, eqb-false, eq-eqb, ne_eqb}
use lib.ListN.{length}
use Rattle.laws.specs.Base.{Each, Pairs}
use Rattle.laws.proofs.Lists.{each_at, each_by, each_imp, pairs_imp, pairs_map, mem_map, map_mem, some_at, first_at}
use Rattle.words.specs.declared.Ref.{Ref}
use Rattle.words.specs.declared.Cell.{Cell}
use Rattle.words.specs.declared.Cell.TheVariants.{Unbound, Bound, Int, Head, Argument}
use Rattle.words.specs.declared.Register.{Register}
use Rattle.words.specs.declared.Register.TheVariants as Reg
use Rattle.words.specs.declared.Step.TheVariants.{MakeVar, Integer, Structure}
use Rattle.words.specs.Integers.{IntIn}
use Rattle.machine.specs.Copies.{Limits, Region, Copy, Machine, free, lowest, lists, held, stamped, live, in_pages, in_regions, cell_at, Put, put}
use Rattle.machine.specs.Run.{reg, set_reg, as_region, as_live, region_at, live_at, with_pages, placed, build, building, within, operand, operands, headed, exec}
use Rattle.machine.specs.Sound.{Sound, CopyOk, RegionOk, PageIn, RefIn, CellIn, RegisterIn, RegisterNames, Whole, Starts, Names, CellNames, RegionGrown}
use Rattle.machine.proofs.Growth.{one_region, region_refl}
use Rattle.machine.proofs.Shown.{mem_live}
use Rattle.machine.proofs.Onward.{Onward, Listed, onward_sound}
use Rattle.machine.proofs.Cells.{region_found, cell_live}
use Rattle.machine.proofs.Registers.{register_names, cell_names, register_in, register_named, register_set_lem}
use Rattle.machine.proofs.Free.{lowest_free_lem, free_unlisted}
use Rattle.machine.proofs.Put.{Added, TermOk, put_adds}

-- ---- a cell of a copy is a cell of its region

abbrev Before : Region → Region → Type 0
Before g h = g.stamp < h.stamp

-- stamps are apart, so a reference reads in the region of its stamp
region_cell : (gs : List Region) → Pairs Before gs → (g : Region) → Memᴰ g gs → (r : Ref) → g.stamp ≡ r.stamp → in_regions gs r ≡ in_pages g.pages r.address
unfolding in_regions
region_cell [] o g m r e = absurd (Memᴰ.not-nil m)
region_cell (h ∷ hs) o g m r e = by (eqb h.stamp r.stamp) refl (Memᴰ.cases_cons m) (λ k. region_cell hs o.1 g k r e)
  where
    by : (t : Bool) → eqb h.stamp r.stamp ≡ t → (g ≡ h) ⊎ Memᴰ g hs → (Memᴰ g hs → in_regions hs r ≡ in_pages g.pages r.address) →
        (if t then in_pages h.pages r.address else in_regions hs r) ≡ in_pages g.pages r.address
    by true q (inl k) ih = ap (λ (z : Region). in_pages z.pages r.address) (sym k)
    by true q (inr k) ih = absurd (omega (arith, each_at (Before h) hs o.0 g k, eqb-true h.stamp r.stamp q))
    by false q (inl k) ih = absurd (eqb-false h.stamp r.stamp q (ap (λ (z : Region). z.stamp) (sym k) ∙ e))
    by false q (inr k) ih = ih k

-- a term's first cell starts it
whole_starts : (w : Cell) (ws : List Cell) → Whole 0 (w ∷ ws) → Starts w
unfolding Whole Starts
whole_starts Unbound ws h = tt
whole_starts (Bound r) ws h = tt
whole_starts (Int v) ws h = tt
whole_starts (Head f n) ws h = tt
whole_starts (Argument r) ws h = h

-- ---- the copy with a region's pages changed

-- a cell that may stand anywhere: it names what it has to wherever it is put
abbrev pub Anywhere : Copy → Cell → Type 0
Anywhere c w = (r : Ref) → CellNames c r w

-- the region after the term was put, the copy with it, and the term's first cell
abbrev own : Region → Put → Region
own g u = record { stamp = g.stamp; pages = u.pages }

abbrev grown : Copy → Region → Put → Copy
grown c g u = record { registers = c.registers; regions = map (with_pages g.stamp u.pages) c.regions }

abbrev term_ref : Region → Put → Ref
term_ref g u = record { stamp = g.stamp; address = u.address }

-- a region of that copy is the one that grew, or one of the copy before
abbrev Was : Copy → Region → Put → Region → Type 0
Was c g u h = (h ≡ own g u) ⊎ Memᴰ h c.regions

region_was : (c : Copy) (g : Region) (u : Put) (h : Region) → Memᴰ h (grown c g u).regions → Was c g u h
region_was c g u h m = let k = mem_map (with_pages g.stamp u.pages) c.regions h m in by k.0 k.1 (stamped g.stamp k.0) k.2
  where
    by : (z : Region) → Memᴰ z c.regions → (t : Bool) → h ≡ (if t then own g u else z) → Was c g u h
    by z i true e = inl e
    by z i false e = inr (subst (λ (y : Region). Memᴰ y c.regions) (sym e) i)

module _ (l : Limits) (next : ℕ) (c : Copy) (ok : CopyOk l next c) (g : Region) (at : Memᴰ g c.regions)
    (page : Option ℕ) (ws : List Cell) (u : Put) (added : Added l next page ws g u) where
  abbrev after : Copy
  after = grown c g u

  own_in : Memᴰ (own g u) after.regions
  own_in = map_mem (with_pages g.stamp u.pages) c.regions g (own g u) at (rw (eq-eqb g.stamp g.stamp refl))

  other_in : (h : Region) → Memᴰ h c.regions → h.stamp ≢ g.stamp → Memᴰ h after.regions
  other_in h m n = map_mem (with_pages g.stamp u.pages) c.regions h h m (rw (ne_eqb h.stamp g.stamp n))

  order_kept : Pairs Before after.regions
  order_kept =
      pairs_map Before f c.regions (pairs_imp Before (λ (x y : Region). Before (f x) (f y)) c.regions (λ x y b. omega (arith, same x, same y)) ok.in_order)
    where
      f : Region → Region
      f = with_pages g.stamp u.pages

      same : (h : Region) → (f h).stamp ≡ h.stamp
      same h = by (eqb h.stamp g.stamp) refl
        where
          by : (t : Bool) → eqb h.stamp g.stamp ≡ t → (if t then own g u else h).stamp ≡ h.stamp
          by true e = sym (eqb-true h.stamp g.stamp e)
          by false e = refl

  live_was : (s : ℕ) → live after s ≡ true → live c s ≡ true
  live_was s e = let k = some_at (stamped s) after.regions e in by k.0 (eqb-true k.0.stamp s k.2) (region_was c g u k.0 k.1)
    where
      by : (h : Region) → h.stamp ≡ s → Was c g u h → live c s ≡ true
      by h q (inl z) = subst (λ (t : ℕ). live c t ≡ true) (ap (λ (y : Region). y.stamp) (sym z) ∙ q) (mem_live c g at)
      by h q (inr m) = subst (λ (t : ℕ). live c t ≡ true) q (mem_live c h m)

  -- each old cell is where it was
  cell_kept : (r : Ref) (w : Cell) → cell_at c r ≡ Some w → cell_at after r ≡ Some w
  cell_kept r w e = let k = region_found c.regions r w e in by k.0 k.1 k.2 k.3 (eqb k.0.stamp g.stamp) refl
    where
      by : (h : Region) → Memᴰ h c.regions → h.stamp ≡ r.stamp → in_pages h.pages r.address ≡ Some w → (t : Bool) → eqb h.stamp g.stamp ≡ t →
          cell_at after r ≡ Some w
      by h m q i true b =
          let z : h ≡ g = one_region c.regions ok.in_order h g m at (eqb-true h.stamp g.stamp b) in
          region_cell after.regions order_kept (own g u) own_in r (sym (eqb-true h.stamp g.stamp b) ∙ q)
          ∙ added.kept r.address w (subst (λ (y : Region). in_pages y.pages r.address ≡ Some w) z i)
      by h m q i false b = region_cell after.regions order_kept h (other_in h m (eqb-false h.stamp g.stamp b)) r q ∙ i

  -- and each cell that is there was there, or is one of the new
  cell_was : (r : Ref) (w : Cell) → cell_at after r ≡ Some w → (cell_at c r ≡ Some w) ⊎ Memᴰ w ws
  cell_was r w e = let k = region_found after.regions r w e in by k.0 k.2 k.3 (region_was c g u k.0 k.1)
    where
      old : (h : Region) → Memᴰ h c.regions → h.stamp ≡ r.stamp → in_pages h.pages r.address ≡ Some w → cell_at c r ≡ Some w
      old h m q i = region_cell c.regions ok.in_order h m r q ∙ i

      new : g.stamp ≡ r.stamp → (in_pages g.pages r.address ≡ Some w) ⊎ Memᴰ w ws → (cell_at c r ≡ Some w) ⊎ Memᴰ w ws
      new q (inl i) = inl (old g at q i)
      new q (inr i) = inr i

      by : (h : Region) → h.stamp ≡ r.stamp → in_pages h.pages r.address ≡ Some w → Was c g u h → (cell_at c r ≡ Some w) ⊎ Memᴰ w ws
      by h q i (inl z) = new (ap (λ (y : Region). y.stamp) (sym z) ∙ q) (added.back r.address w (subst (λ (y : Region). in_pages y.pages r.address ≡ Some w) z i))
      by h q i (inr m) = inl (old h m q i)

  -- so what a reference named it names still
  names_kept : (r : Ref) → Names c r → Names after r
  unfolding Names
  names_kept r n v = let k = n (live_was r.stamp v) in (k.0, cell_kept r k.0 k.1, k.2)

  -- and no other word
  named_was : (r : Ref) (w : Cell) → Names c r → cell_at after r ≡ Some w → cell_at c r ≡ Some w
  unfolding Names
  named_was r w n e =
      let k = n (live_was r.stamp (cell_live after r w e)) in
      k.1 ∙ sym (cell_kept r k.0 k.1) ∙ e

  cell_names_kept : (r : Ref) (w : Cell) → CellNames c r w → CellNames after r w
  cell_names_kept = cell_names c after names_kept (λ s v n e h. (v, named_was s v n e, h))

  grown_ok : Each (Anywhere c) ws → CopyOk l next after
  grown_ok names = record {
    registers = ok.registers;
    registers_in = ok.registers_in;
    registers_name = each_imp (RegisterNames c) (RegisterNames after) c.registers (λ x m. register_names c after names_kept x) ok.registers_name;
    regions = each_by (RegionOk l next) after.regions (λ h m. region h (region_was c g u h m));
    in_order = order_kept;
    cells_name = λ r w e. cell_names_kept r w (cell r w (cell_was r w e));
  }
    where
      region : (h : Region) → Was c g u h → RegionOk l next h
      region h (inl z) = subst (RegionOk l next) (sym z) added.region
      region h (inr m) = each_at (RegionOk l next) c.regions ok.regions h m

      cell : (r : Ref) (w : Cell) → (cell_at c r ≡ Some w) ⊎ Memᴰ w ws → CellNames c r w
      cell r w (inl e) = ok.cells_name r w e
      cell r w (inr m) = each_at (Anywhere c) ws names w m r

  -- a register may now name the term's first cell
  term_in : RefIn l next (term_ref g u)
  term_in = record { stamp = added.region.stamp; page = added.page_in_lem; word = added.word_in }

  term_named : TermOk l next ws → Names after (term_ref g u)
  unfolding Names
  term_named t v = by ws t.whole t.least (rw add-zero at (added.cells 0 t.least))
    where
      by : (vs : List Cell) → Whole 0 vs → 1 ≤ length vs → in_pages u.pages u.address ≡ slice_get vs 0 → (w : Cell) × (cell_at after (term_ref g u) ≡ Some w) × Starts w
      by [] h i e = absurd (omega arith)
      by (w ∷ vs) h i e = (w, region_cell after.regions order_kept (own g u) own_in (term_ref g u) refl ∙ e, whole_starts w vs h)

-- ---- the machine with the term

module _ (m : Machine) (s : Sound m) (ws : List Cell) (term : TermOk m.limits m.next ws) (names : Each (Anywhere m.present) ws) where
  present_ok : (g : Region) → Memᴰ g m.present.regions → RegionOk m.limits m.next g
  present_ok = each_at (RegionOk m.limits m.next) m.present.regions s.each.0.regions

  -- the page that may join was free, so the region did not list it
  fresh : (g : Region) → Memᴰ g m.present.regions → (n : ℕ) → lowest (free m) ≡ Some n → PageIn m.limits n × (lists n g ≡ true → ⊥)
  fresh g at n e = let k = lowest_free_lem m n e in (k.1, free_unlisted m n k.0 m.present (Memᴰ.head refl) g at)

  term_onward : (d : ℕ) (g : Region) → Memᴰ g m.present.regions → (u : Put) → Added m.limits m.next (lowest (free m)) ws g u →
      Onward m g.stamp (set_reg (grown m.present g u) d (Reg.Term (term_ref g u)))
  unfolding RegisterIn RegisterNames
  term_onward d g at u added = record {
    ok = register_set_lem m.limits m.next (grown m.present g u) d (Reg.Term (term_ref g u))
        (grown_ok m.limits m.next m.present s.each.0 g at (lowest (free m)) ws u added names)
        (term_in m.limits m.next m.present s.each.0 g at (lowest (free m)) ws u added)
        (term_named m.limits m.next m.present s.each.0 g at (lowest (free m)) ws u added term);
    from = λ h x. by h (region_was m.present g u h x);
    pages = λ h p x. on h p (region_was m.present g u h x);
  }
    where
      by : (h : Region) → Was m.present g u h → (k : Region) × Memᴰ k m.present.regions × (k.stamp ≡ h.stamp) × RegionGrown k h
      by h (inl z) = (g, at, ap (λ (y : Region). y.stamp) (sym z), subst (RegionGrown g) (sym z) added.grown)
      by h (inr x) = (h, x, refl, region_refl m.limits m.next h (present_ok h x))

      new : (h : Region) (p : ℕ) → h ≡ own g u → (lists p g ≡ true) ⊎ (lowest (free m) ≡ Some p) →
          Listed m.present.regions h.stamp p ⊎ ((held m p ≡ false) × (h.stamp ≡ g.stamp))
      new h p z (inl e) = inl (g, at, ap (λ (y : Region). y.stamp) (sym z), e)
      new h p z (inr e) = inr ((lowest_free_lem m p e).0, ap (λ (y : Region). y.stamp) z)

      on : (h : Region) (p : ℕ) → Was m.present g u h → lists p h ≡ true → Listed m.present.regions h.stamp p ⊎ ((held m p ≡ false) × (h.stamp ≡ g.stamp))
      on h p (inl z) e = new h p z (added.listed p (subst (λ (y : Region). lists p y ≡ true) z e))
      on h p (inr x) e = inl (h, x, refl, e)

  placed_sound : (d : ℕ) (g : Region) → Memᴰ g m.present.regions → Sound (within m (placed m.present d g.stamp (put (lowest (free m)) ws g.pages))).machine
  unfolding placed
  placed_sound d g at = by (put (lowest (free m)) ws g.pages) refl
    where
      by : (o : Option Put) → put (lowest (free m)) ws g.pages ≡ o → Sound (within m (placed m.present d g.stamp o)).machine
      by None e = s
      by (Some u) e = onward_sound m g.stamp (set_reg (grown m.present g u) d (Reg.Term (term_ref g u))) s
          (term_onward d g at u (put_adds m.limits m.next (lowest (free m)) ws g (present_ok g at) term (fresh g at) u e))

-- the region that a register names is one of the copy
region_at_lem : (c : Copy) (x : Register) (g : Region) → as_region c x ≡ Some g → Memᴰ g c.regions
unfolding as_region
region_at_lem c Reg.Empty g e = absurd (none_ne_some g e)
region_at_lem c (Reg.Region t) g e = (first_at (stamped t) c.regions g e).0
region_at_lem c (Reg.Term r) g e = absurd (none_ne_some g e)

-- THE LAW OF BUILDING: to put a whole term whose cells name what they must, wherever they come to stand, keeps a sound machine sound
pub building_sound : (m : Machine) (d a : ℕ) (ws : List Cell) → TermOk m.limits m.next ws → Each (Anywhere m.present) ws → Sound m →
    Sound (building m d a (Some ws)).machine
unfolding build
building_sound m d a ws term names s = by (region_at m.present a) refl
  where
    by : (o : Option Region) → region_at m.present a ≡ o → Sound (within m (build (lowest (free m)) m.present d o (Some ws))).machine
    by None e = s
    by (Some g) e = placed_sound m s ws term names d g (region_at_lem m.present (reg m.present a) g e)

-- with no cells nothing is built
pub building_none : (m : Machine) (d a : ℕ) → Sound m → Sound (building m d a None).machine
unfolding build
building_none m d a s = by (region_at m.present a)
  where
    by : (o : Option Region) → Sound (within m (build (lowest (free m)) m.present d o None)).machine
    by None = s
    by (Some g) = s

-- ---- the three steps

pub exec_makevar : (m : Machine) (d a : ℕ) → Sound m → Sound (exec m (MakeVar d a)).machine
unfolding exec Whole CellIn CellNames
exec_makevar m d a = building_sound m d a (Unbound ∷ []) (record { least = omega arith; most = omega arith; whole = tt; cells = (tt, tt) }) (λ r. tt, tt)

pub exec_integer : (m : Machine) (d a : ℕ) (v : ℤ) → IntIn v → Sound m → Sound (exec m (Integer d a v)).machine
unfolding exec Whole CellIn CellNames
exec_integer m d a v h = building_sound m d a (Int v ∷ []) (record { least = omega arith; most = omega arith; whole = tt; cells = (h, tt) }) (λ r. tt, tt)

-- a term that a step takes from a register is in it
live_term : (c : Copy) (x : Register) (r : Ref) → as_live c x ≡ Some r → x ≡ Reg.Term r
unfolding as_live
live_term c Reg.Empty r e = absurd (none_ne_some r e)
live_term c (Reg.Region s) r e = absurd (none_ne_some r e)
live_term c (Reg.Term q) r e = by (live c q.stamp) e
  where
    by : (t : Bool) → (if t then Some q else None) ≡ Some r → Reg.Term q ≡ Reg.Term r
    by true k = ap Reg.Term (some_injective q r k)
    by false k = absurd (none_ne_some r k)

-- n arguments of a term, which a sound copy's registers gave
record Arguments (l : Limits) (next : ℕ) (c : Copy) (n : ℕ) (ws : List Cell) : Type 0 where
  count : length ws ≡ n
  whole : Whole n ws
  cells : Each (CellIn l next) ws
  names : Each (Anywhere c) ws

module _ (l : Limits) (next : ℕ) (c : Copy) (ok : CopyOk l next c) where
  argument_more : (b n : ℕ) (r : Ref) (ws : List Cell) → live_at c b ≡ Some r → Arguments l next c n ws → Arguments l next c (suc n) (Argument r ∷ ws)
  unfolding Whole CellIn CellNames RegisterIn RegisterNames
  argument_more b n r ws e k =
      let z = live_term c (reg c b) r e in
      record {
        count = ap suc k.count;
        whole = k.whole;
        cells = (subst (RegisterIn l next) z (register_in l next c b ok), k.cells);
        names = (λ q. subst (RegisterNames c) z (register_named l next c b ok), k.names);
      }

  operands_ok : (n b : ℕ) (ws : List Cell) → operands n c b ≡ Some ws → Arguments l next c n ws
  unfolding operands operand Whole
  operands_ok zero b ws e = subst (Arguments l next c 0) (some_injective [] ws e) (record { count = refl; whole = tt; cells = tt; names = tt })
  operands_ok (suc n) b ws e = by (live_at c b) refl (operands n c (suc b)) e (λ vs k. operands_ok n (suc b) vs k)
    where
      by : (o : Option Ref) → live_at c b ≡ o → (vs : Option (List Cell)) → operand o vs ≡ Some ws → ((us : List Cell) → vs ≡ Some us → Arguments l next c n us) →
          Arguments l next c (suc n) ws
      by None q vs k ih = absurd (none_ne_some ws k)
      by (Some r) q None k ih = absurd (none_ne_some ws k)
      by (Some r) q (Some vs) k ih = subst (Arguments l next c (suc n)) (some_injective (Argument r ∷ vs) ws k) (argument_more b n r vs q (ih vs refl))

pub exec_structure : (m : Machine) (d a b f n : ℕ) → f < 2 ^ 16 → n ≤ 14 → Sound m → Sound (exec m (Structure d a b f n)).machine
unfolding exec headed Whole CellIn CellNames
exec_structure m d a b f n hf hn s = by (operands n m.present b) (λ ws e. operands_ok m.limits m.next m.present s.each.0 n b ws e)
  where
    by : (o : Option (List Cell)) → ((ws : List Cell) → o ≡ Some ws → Arguments m.limits m.next m.present n ws) → Sound (building m d a (headed (Head f n) o)).machine
    by None k = building_none m d a s
    by (Some ws) k =
        let t = k ws refl in
        building_sound m d a (Head f n ∷ ws) (record { least = omega arith; most = omega (arith, t.count); whole = t.whole; cells = ((hf, hn), t.cells) }) (λ r. tt, t.names) s
