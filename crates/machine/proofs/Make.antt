-- Op 1: a region of the next stamp joins the present copy, and the machine stays sound. Its page was free, and it has no words yet.
use Rattle.std.specs.Prelude.{if◌then◌else◌, Option, Some, None}
use mathlib.Core.Path.{◌≡◌, refl, sym, ap, ◌∙◌, subst}
use mathlib.Core.Bool.{Bool, true, false}
use mathlib.Core.Logic.{◌⊎◌, inl, inr, ◌≢◌}
use mathlib.Core.List.Memᴰ
use mathlib.Core.List.{List, [], ◌∷◌, ◌++◌, Memᴰ, Nodup-cons, Nodup-nil, not-mem-nil}
use Prim.Native.Nat.{ℕ, zero, suc, ◌/◌, ◌%◌, ◌≤◌, ◌<◌}
use native.Mathlib.Omega.{arith}
use lib.Dec.{eqb, leb}
use borrow.Author.Tests.{eqb-true, eqb-false, leb-false}
use Rattle.laws.proofs.Lists.{each_at, each_imp, each_append, pairs_append, some_yes, some_at}
use Rattle.words.specs.declared.Ref.{Ref}
use Rattle.words.specs.declared.Cell.{Cell}
use Rattle.words.specs.declared.Cell.TheVariants.{Unbound, Bound, Int, Head, Argument}
use Rattle.words.specs.declared.Register.{Register}
use Rattle.words.specs.declared.Register.TheVariants as Reg
use Rattle.words.specs.declared.Step.TheVariants.{MakeRegion}
use Rattle.machine.specs.Copies.{Limits, Page, Region, Copy, Machine, copies, lists, held, free, lowest, stamped, live, slots, word, in_pages, in_regions}
use Rattle.machine.specs.Run.{exec, refused, last_stamp, new_region, set_reg}
use Rattle.machine.specs.Sound.{Sound, CopyOk, RegionOk, PageOk, PageIn, RefIn, CellIn, RegisterIn, RegisterNames, Names, Filled, Whole}
use Rattle.machine.proofs.Growth.{region_refl}
use Rattle.machine.proofs.Free.{lowest_free_lem}
use Rattle.machine.proofs.Onward.{Listed, From, joined_sound}
use Rattle.machine.proofs.Registers.{registers_kept, cells_kept, register_set_lem}

-- ---- what is in range stays in range where the next stamp moves on

module _ (l : Limits) (next later : ℕ) (on : next ≤ later) where
  ref_later : (r : Ref) → RefIn l next r → RefIn l later r
  ref_later r k = record { stamp = (k.stamp.0, omega (arith, k.stamp.1)); page = k.page; word = k.word }

  cell_later : (w : Cell) → CellIn l next w → CellIn l later w
  unfolding CellIn
  cell_later Unbound k = tt
  cell_later (Bound r) k = ref_later r k
  cell_later (Int v) k = k
  cell_later (Head f n) k = k
  cell_later (Argument r) k = ref_later r k

  register_later : (x : Register) → RegisterIn l next x → RegisterIn l later x
  unfolding RegisterIn
  register_later Reg.Empty k = tt
  register_later (Reg.Region s) k = (k.0, omega (arith, k.1))
  register_later (Reg.Term r) k = ref_later r k

  page_later : (p : Page) → PageOk l next p → PageOk l later p
  page_later p k = record {
    number = k.number;
    fill = k.fill;
    whole = k.whole;
    cells = each_imp (CellIn l next) (CellIn l later) p.words (λ w m. cell_later w) k.cells;
  }

  region_later : (g : Region) → RegionOk l next g → RegionOk l later g
  region_later g k = record {
    stamp = (k.stamp.0, omega (arith, k.stamp.1));
    filled = k.filled;
    pages = each_imp (PageOk l next) (PageOk l later) g.pages (λ p m. page_later p) k.pages;
    no_page_twice = k.no_page_twice;
  }

  pub copy_later : (c : Copy) → CopyOk l next c → CopyOk l later c
  copy_later c k = record {
    registers = k.registers;
    registers_in = each_imp (RegisterIn l next) (RegisterIn l later) c.registers (λ x m. register_later x) k.registers_in;
    registers_name = k.registers_name;
    regions = each_imp (RegionOk l next) (RegionOk l later) c.regions (λ g m. region_later g) k.regions;
    in_order = k.in_order;
    cells_name = k.cells_name;
  }

-- ---- a region of stamp s with one page and no words

module _ (s p : ℕ) where
  abbrev fresh : Region
  fresh = record { stamp = s; pages = record { number = p; words = [] } ∷ [] }

  no_word : (i : ℕ) → word [] i ≡ None
  unfolding word
  no_word zero = refl
  no_word (suc i) = refl

  no_cell : (a : ℕ) → in_pages fresh.pages a ≡ None
  unfolding in_pages
  no_cell a = by (eqb p (a / 16))
    where
      by : (b : Bool) → (if b then word [] (a % 16) else None) ≡ None
      by true = no_word (a % 16)
      by false = refl

  -- no cell is read from it
  same_cell : (gs : List Region) (r : Ref) → in_regions (gs ++ (fresh ∷ [])) r ≡ in_regions gs r
  unfolding in_regions
  same_cell [] r = by (eqb s r.stamp)
    where
      by : (b : Bool) → (if b then in_pages fresh.pages r.address else None) ≡ None
      by true = no_cell r.address
      by false = refl
  same_cell (g ∷ gs) r = rw (same_cell gs r)

  -- it lists one page
  own_page : (q : ℕ) → lists q fresh ≡ true → p ≡ q
  own_page q l =
      let a = some_at (λ (z : Page). eqb z.number q) fresh.pages l in
      sym (ap (λ (z : Page). z.number) (Memᴰ.eq_of_singleton a.1)) ∙ eqb-true a.0.number q a.2

-- ---- the next stamp is in no copy

live_below : (l : Limits) (next : ℕ) (c : Copy) (u : ℕ) → CopyOk l next c → live c u ≡ true → u < next
live_below l next c u k e =
    let a = some_at (stamped u) c.regions e in
    let q : a.0.stamp ≡ u = eqb-true a.0.stamp u a.2 in
    omega (arith, (each_at (RegionOk l next) c.regions k.regions a.0 a.1).stamp.1)

next_unseen : (l : Limits) (next : ℕ) (c : Copy) → CopyOk l next c → live c next ≡ false
next_unseen l next c k = by (live c next) refl
  where
    by : (b : Bool) → live c next ≡ b → b ≡ false
    by true e = absurd (omega (arith, live_below l next c next k e))
    by false e = refl

-- ---- the copy with a region of the next stamp

abbrev larger : ℕ → ℕ → Copy → Copy
larger s p c = record { registers = c.registers; regions = c.regions ++ (fresh s p ∷ []) }

fresh_ok : (l : Limits) (s p : ℕ) → 1 ≤ s → PageIn l p → RegionOk l (suc s) (fresh s p)
unfolding Filled Whole
fresh_ok l s p a b = record {
  stamp = (a, omega arith);
  filled = tt;
  pages = (record { number = b; fill = omega arith; whole = tt; cells = tt }, tt);
  no_page_twice = Nodup-cons.1 (not-mem-nil, Nodup-nil);
}

module _ (l : Limits) (s p : ℕ) (c : Copy) (k : CopyOk l s c) where
  -- a reference in range is not of the new stamp: it names what it named
  still : (r : Ref) → RefIn l s r → Names c r → Names (larger s p c) r
  unfolding Names
  still r i h e =
      let a = some_at (stamped r.stamp) (larger s p c).regions e in
      let b = h (by a.0 (eqb-true a.0.stamp r.stamp a.2) a.2 (Memᴰ.append_cases c.regions a.1)) in
      (b.0, same_cell s p c.regions r ∙ b.1, b.2)
    where
      by : (g : Region) → g.stamp ≡ r.stamp → stamped r.stamp g ≡ true → Memᴰ g c.regions ⊎ Memᴰ g (fresh s p ∷ []) → live c r.stamp ≡ true
      by g q t (inl x) = some_yes (stamped r.stamp) c.regions g x t
      by g q t (inr x) = absurd (omega (arith, i.stamp.1, q, ap (λ (h : Region). h.stamp) (Memᴰ.eq_of_singleton x)))

  larger_ok : 1 ≤ s → PageIn l p → CopyOk l (suc s) (larger s p c)
  larger_ok a b =
      let j = copy_later l s (suc s) (omega arith) c k in
      record {
        registers = k.registers;
        registers_in = j.registers_in;
        registers_name = registers_kept l s c (larger s p c) still k;
        regions = each_append (RegionOk l (suc s)) c.regions (fresh s p ∷ []) j.regions (fresh_ok l s p a b, tt);
        in_order = pairs_append (λ (g h : Region). g.stamp < h.stamp) c.regions (fresh s p ∷ []) k.in_order (tt, tt) older;
        cells_name = λ r w e.
            cells_kept l s c (larger s p c) still k (λ q v n f h. (v, sym (same_cell s p c.regions q) ∙ f, h)) r w (sym (same_cell s p c.regions r) ∙ e);
      }
    where
      older : (g h : Region) → Memᴰ g c.regions → Memᴰ h (fresh s p ∷ []) → g.stamp < h.stamp
      older g h x y =
          omega (arith, (each_at (RegionOk l s) c.regions k.regions g x).stamp.1, ap (λ (z : Region). z.stamp) (Memᴰ.eq_of_singleton y))

-- ---- the machine

-- register d holds the new region
abbrev made : Machine → ℕ → ℕ → Copy
made m d p = set_reg (larger m.next p m.present) d (Reg.Region m.next)

module _ (m : Machine) (d p : ℕ) (s : Sound m) (unheld : held m p ≡ false) where
  made_ok : PageIn m.limits p → CopyOk m.limits (suc m.next) (made m d p)
  unfolding RegisterIn RegisterNames
  made_ok b =
      register_set_lem m.limits (suc m.next) (larger m.next p m.present) d (Reg.Region m.next)
      (larger_ok m.limits m.next p m.present s.each.0 s.next.0 b) (s.next.0, omega arith) tt

  made_from : (g : Region) → Memᴰ g m.present.regions ⊎ Memᴰ g (fresh m.next p ∷ []) → From m g ⊎ Memᴰ g.stamp (m.next ∷ [])
  made_from g (inl x) = inl (g, x, refl, region_refl m.limits m.next g (each_at (RegionOk m.limits m.next) m.present.regions s.each.0.regions g x))
  made_from g (inr x) = inr (Memᴰ.head (ap (λ (z : Region). z.stamp) (Memᴰ.eq_of_singleton x)))

  made_pages : (g : Region) (q : ℕ) → Memᴰ g m.present.regions ⊎ Memᴰ g (fresh m.next p ∷ []) → lists q g ≡ true →
      Listed m.present.regions g.stamp q ⊎ ((held m q ≡ false) × (g.stamp ≡ m.next))
  made_pages g q (inl x) l = inl (g, x, refl, l)
  made_pages g q (inr x) l =
      let e = Memᴰ.eq_of_singleton x in
      let n : p ≡ q = own_page m.next p q (subst (λ (z : Region). lists q z ≡ true) e l) in
      inr (subst (λ (z : ℕ). held m z ≡ false) n unheld, ap (λ (z : Region). z.stamp) e)

  made_sound : PageIn m.limits p → m.next ≢ last_stamp → slots m < m.limits.slots → Sound (new_region m d (Some p)).machine
  unfolding new_region
  made_sound b n room =
      joined_sound m (suc m.next) (m.next ∷ []) m.next (made m d p) s
      (record {
        counter = (omega arith, omega (arith, s.next.1));
        each = (made_ok b, each_imp (CopyOk m.limits m.next) (CopyOk m.limits (suc m.next)) m.saved (λ c x. copy_later m.limits m.next (suc m.next) (omega arith) c) s.each.1);
        room = omega arith;
        unseen = λ c u x y. subst (λ (v : ℕ). live c v ≡ false) (sym (Memᴰ.eq_of_singleton y))
            (next_unseen m.limits m.next c (each_at (CopyOk m.limits m.next) (copies m) s.each c x));
        from = λ g x. made_from g (Memᴰ.append_cases m.present.regions x);
        pages = λ g q x. made_pages g q (Memᴰ.append_cases m.present.regions x);
      })

pub exec_make : (m : Machine) (d : ℕ) → Sound m → Sound (exec m (MakeRegion d)).machine
unfolding exec new_region
exec_make m d s = by (eqb m.next last_stamp) (leb m.limits.slots (slots m)) (lowest (free m)) refl refl refl
  where
    by : (last full : Bool) (page : Option ℕ) → eqb m.next last_stamp ≡ last → leb m.limits.slots (slots m) ≡ full → lowest (free m) ≡ page →
        Sound (if last then refused m 7 else if full then refused m 6 else new_region m d page).machine
    by true full page e f g = s
    by false true page e f g = s
    by false false None e f g = s
    by false false (Some p) e f g =
        let k = lowest_free_lem m p g in
        made_sound m d p s k.0 k.1 (eqb-false m.next last_stamp e) (leb-false m.limits.slots (slots m) f)
