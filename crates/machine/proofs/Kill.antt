-- Op 2: a region leaves the present copy, and the machine stays sound. What named it is dead.
use Rattle.std.specs.Prelude.{if◌then◌else◌, Option, Some, None}
use mathlib.Core.Path.{◌≡◌, refl, sym, ◌∙◌}
use mathlib.Core.Bool.{Bool, true, false, not}
use mathlib.Core.Logic.{◌≢◌, inl}
use mathlib.Core.List.{List, [], ◌∷◌}
use Rattle.laws.proofs.Options.{none_ne_some}
use Prim.Native.Nat.{ℕ, ◌<◌}
use lib.Dec.{eqb}
use borrow.Author.Tests.{ne_eqb, eqb-true, eqb-false}
use Rattle.laws.specs.Base.{keep}
use Rattle.laws.proofs.Lists.{each_at, each_by, pairs_keep, kept_at, some_yes, some_at, not_true}
use Rattle.words.specs.declared.Ref.{Ref}
use Rattle.words.specs.declared.Cell.{Cell}
use Rattle.words.specs.declared.Step.TheVariants.{KillRegion}
use Rattle.machine.specs.Copies.{Limits, Region, Copy, Machine, stamped, live, in_pages, in_regions, cell_at}
use Rattle.machine.specs.Run.{exec, kill, within, region_at}
use Rattle.machine.specs.Sound.{Sound, CopyOk, RegionOk, Names}
use Rattle.machine.proofs.Growth.{region_refl}
use Rattle.machine.proofs.Onward.{Onward, onward_sound}
use Rattle.machine.proofs.Registers.{registers_kept, cells_kept}

module _ (c : Copy) (t : ℕ) where
  abbrev other : Region → Bool
  other g = not (stamped t g)

  -- the copy without its region of stamp t
  abbrev killed : Copy
  killed = record { registers = c.registers; regions = keep other c.regions }

  still_live : (s : ℕ) → live killed s ≡ true → (live c s ≡ true) × (s ≢ t)
  still_live s e =
      let a = some_at (stamped s) (keep other c.regions) e in
      let b = kept_at other c.regions a.0 a.1 in
      let q : a.0.stamp ≡ s = eqb-true a.0.stamp s a.2 in
      (some_yes (stamped s) c.regions a.0 b.0 a.2, λ z. eqb-false a.0.stamp t (not_true (stamped t a.0) b.1) (q ∙ z))

  -- the cells of the other regions stay
  same_cell : (gs : List Region) (r : Ref) → r.stamp ≢ t → in_regions (keep other gs) r ≡ in_regions gs r
  unfolding in_regions
  same_cell [] r n = refl
  same_cell (g ∷ gs) r n = by (eqb g.stamp t) refl (same_cell gs r n)
    where
      by : (b : Bool) → eqb g.stamp t ≡ b → in_regions (keep other gs) r ≡ in_regions gs r →
          in_regions (if not b then g ∷ keep other gs else keep other gs) r ≡ (if eqb g.stamp r.stamp then in_pages g.pages r.address else in_regions gs r)
      by true e ih = rw (ne_eqb g.stamp r.stamp (λ q. n (sym q ∙ eqb-true g.stamp t e))) ih
      by false e ih = rw ih

  no_cell : (gs : List Region) (r : Ref) → r.stamp ≡ t → in_regions (keep other gs) r ≡ None
  unfolding in_regions
  no_cell [] r q = refl
  no_cell (g ∷ gs) r q = by (eqb g.stamp t) refl (no_cell gs r q)
    where
      by : (b : Bool) → eqb g.stamp t ≡ b → in_regions (keep other gs) r ≡ None → in_regions (if not b then g ∷ keep other gs else keep other gs) r ≡ None
      by true e ih = ih
      by false e ih = rw (ne_eqb g.stamp r.stamp (λ z. eqb-false g.stamp t e (z ∙ q))) ih

  -- a cell that is still there was there
  was_cell : (r : Ref) (w : Cell) → cell_at killed r ≡ Some w → cell_at c r ≡ Some w
  was_cell r w e = by (eqb r.stamp t) refl
    where
      by : (b : Bool) → eqb r.stamp t ≡ b → cell_at c r ≡ Some w
      by true q = absurd (none_ne_some w (sym (no_cell c.regions r (eqb-true r.stamp t q)) ∙ e))
      by false q = sym (same_cell c.regions r (eqb-false r.stamp t q)) ∙ e

  still_names : (r : Ref) → Names c r → Names killed r
  unfolding Names
  still_names r h l =
      let a = still_live r.stamp l in
      let b = h a.0 in
      (b.0, same_cell c.regions r a.1 ∙ b.1, b.2)

  copy_killed : (l : Limits) (next : ℕ) → CopyOk l next c → CopyOk l next killed
  copy_killed l next k =
      record {
        registers = k.registers;
        registers_in = k.registers_in;
        registers_name = registers_kept l next c killed (λ r i. still_names r) k;
        regions = each_by (RegionOk l next) (keep other c.regions) (λ g m. each_at (RegionOk l next) c.regions k.regions g (kept_at other c.regions g m).0);
        in_order = pairs_keep (λ (g h : Region). g.stamp < h.stamp) other c.regions k.in_order;
        cells_name = λ r w e. cells_kept l next c killed (λ s i. still_names s) k (λ s v n q h. (v, was_cell s v q, h)) r w (was_cell r w e);
      }

killed_onward : (m : Machine) (t : ℕ) → Sound m → Onward m t (killed m.present t)
killed_onward m t s =
    record {
      ok = copy_killed m.present t m.limits m.next s.each.0;
      from = λ g x. let y = (kept_at (other m.present t) m.present.regions g x).0 in
          (g, y, refl, region_refl m.limits m.next g (each_at (RegionOk m.limits m.next) m.present.regions s.each.0.regions g y));
      pages = λ g p x l. inl (g, (kept_at (other m.present t) m.present.regions g x).0, refl, l);
    }

pub exec_kill : (m : Machine) (a : ℕ) → Sound m → Sound (exec m (KillRegion a)).machine
unfolding exec kill
exec_kill m a s = by (region_at m.present a)
  where
    by : (o : Option Region) → Sound (within m (kill m.present o)).machine
    by None = s
    by (Some g) = onward_sound m g.stamp (killed m.present g.stamp) s (killed_onward m g.stamp s)
