-- What a sound machine holds has room in the words: its pages, its references, cells and registers.
use mathlib.Core.Path.{◌≡◌, sym, ap, ◌∙◌}
use Prim.Native.Nat.{ℕ, ◌+◌, ◌-◌, ◌*◌, ◌^◌, ◌≤◌, ◌<◌}
use native.Mathlib.Omega.{arith}
use lib.Pow.{pow-add}
use Rattle.words.specs.declared.Ref.{Ref}
use Rattle.words.specs.declared.Cell.{Cell}
use Rattle.words.specs.declared.Cell.TheVariants.{Unbound, Bound, Int, Head, Argument}
use Rattle.words.specs.declared.Register.{Register}
use Rattle.words.specs.declared.Register.TheVariants as Reg
use Rattle.words.specs.Fit.{RefFits, CellFits, RegisterFits}
use Rattle.machine.specs.Copies.{Limits}
use Rattle.machine.specs.Sound.{LimitsOk, PageIn, StampIn, RefIn, CellIn, RegisterIn}

-- a page's number has four bits less than an address
pub page_width : (k : ℕ) → 4 ≤ k → 2 ^ (k - 4) * 16 ≡ 2 ^ k
page_width k h =
    let e : (k - 4) + 4 ≡ k = omega arith in
    sym (pow-add 2 (k - 4) 4) ∙ ap (λ (n : ℕ). 2 ^ n) e

module _ (l : Limits) (ok : LimitsOk l) where
  pub page_fits : (p : ℕ) → PageIn l p → p < 2 ^ (l.address - 4)
  page_fits p h = omega (arith, page_width l.address ok.least, ok.named)

  module _ (next : ℕ) (last : next < 2 ^ 32) where
    pub stamp_fits : (s : ℕ) → StampIn next s → s < 2 ^ 32
    stamp_fits s h = omega arith

    ref_fits : (r : Ref) → RefIn l next r → RefFits l.address r
    ref_fits r h = record { stamp = stamp_fits r.stamp h.stamp; address = omega (arith, h.page, ok.named) }

    pub cell_fits : (c : Cell) → CellIn l next c → CellFits l.address c
    unfolding CellIn CellFits
    cell_fits Unbound h = tt
    cell_fits (Bound r) h = ref_fits r h
    cell_fits (Int v) h = h
    cell_fits (Head f n) h = h
    cell_fits (Argument r) h = ref_fits r h

    pub register_fits : (r : Register) → RegisterIn l next r → RegisterFits l.address r
    unfolding RegisterIn RegisterFits
    register_fits Reg.Empty h = tt
    register_fits (Reg.Region s) h = stamp_fits s h
    register_fits (Reg.Term r) h = ref_fits r h
