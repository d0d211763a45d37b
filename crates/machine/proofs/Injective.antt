-- THE IMAGE IS INJECTIVE ON SOUND MACHINES: what is lent is lent by one machine only.
use mathlib.Core.Path.{◌≡◌, refl, sym, ap, ◌∙◌, subst}
use mathlib.Core.List.{List, [], ◌∷◌, map, Memᴰ}
use Prim.Native.Nat.{ℕ, ◌+◌, ◌-◌, ◌*◌, ◌≤◌, ◌<◌}
use native.Mathlib.Omega.{arith}
use lib.ListN.{length, get_or, take, drop}
use Rattle.laws.specs.Base.{Each}
use Rattle.laws.proofs.Lists.{each_imp}
use Rattle.words.specs.declared.Register.{Register}
use Rattle.words.specs.Words.{register_word}
use Rattle.words.specs.Fit.{RegisterFits}
use Rattle.words.proofs.Back.{register_same}
use Rattle.machine.specs.Copies.{Limits, document, Copy, Machine, copies}
use Rattle.machine.specs.Sound.{Sound, SoundSession, RegisterIn}
use Rattle.machine.specs.Tables.{row, tables_image, numbered, Lent, image}
use Rattle.machine.proofs.Fits.{register_fits}
use Rattle.machine.proofs.Numbered.{numbered_in, numbered_same}
use Rattle.machine.proofs.Homes.{width, copy_ok}
use Rattle.machine.proofs.Heap.{heap_length}
use Rattle.machine.proofs.View.{same_words}
use Rattle.machine.proofs.SameCopies.{same_regions}
use Rattle.machine.proofs.Rows.{registers_at}

-- a row of register words says which registers it has
row_same : (k : ℕ) → 4 ≤ k → k ≤ 16 → (us vs : List Register) → Each (RegisterFits k) us → Each (RegisterFits k) vs → map (register_word k) us ≡ map (register_word k) vs → us ≡ vs
row_same k least most [] [] a b e = refl
row_same k least most [] (v ∷ vs) a b e = absurd (omega (arith, ap length e))
row_same k least most (u ∷ us) [] a b e = absurd (omega (arith, ap length e))
row_same k least most (u ∷ us) (v ∷ vs) a b e =
    let p : u ≡ v = register_same k least most u v a.0 b.0 (ap (λ (l : List ℕ). get_or l 0 0) e) in
    let q : us ≡ vs = row_same k least most us vs a.1 b.1 (ap (drop 1) e) in
    λ i. p i ∷ q i

registers_fit : (m : Machine) → Sound m → (c : Copy) → Memᴰ c (copies m) → Each (RegisterFits (width m)) c.registers
registers_fit m s c x =
    each_imp (RegisterIn m.limits m.next) (RegisterFits (width m)) c.registers (λ r y. register_fits m.limits s.limits m.next s.next.1 r) (copy_ok m s c x).registers_in

module _ (m w : Machine) (s : Sound m) (t : Sound w) (limits : m.limits ≡ w.limits) (lent : image m ≡ image w) where
  -- the tables begin with the next stamp and the count
  same_next : m.next ≡ w.next
  unfolding image tables_image
  same_next = ap (λ (l : Lent). get_or l.tables 0 0) lent

  same_count : length (copies m) ≡ length (copies w)
  unfolding image tables_image
  same_count = ap (λ (l : Lent). get_or l.tables 1 0) lent

  module _ (n : ℕ) (low : 0 < n) (high : n ≤ length (copies m)) where
    abbrev c : Copy
    c = numbered (copies m) n

    abbrev d : Copy
    d = numbered (copies w) n

    here : Memᴰ c (copies m)
    here = numbered_in (copies m) n low high

    there : Memᴰ d (copies w)
    there = numbered_in (copies w) n low (omega (arith, same_count))

    same_registers : c.registers ≡ d.registers
    unfolding row image
    same_registers =
        let widths : width w ≡ width m = ap (λ (l : Limits). l.address) (sym limits) in
        let e : row (width m) c ≡ row (width w) d
        = sym (registers_at m s n low high) ∙ ap (λ (l : Lent). take 32 (drop (2 + (n - 1) * 32) l.tables)) lent ∙ registers_at w t n low (omega (arith, same_count)) in
        row_same (width m) s.limits.least s.limits.most c.registers d.registers (registers_fit m s c here)
        (subst (λ (k : ℕ). Each (RegisterFits k) d.registers) widths (registers_fit w t d there)) (e ∙ ap (λ (k : ℕ). row k d) widths)

    same_copy : c ≡ d
    same_copy =
        let r : c.regions ≡ d.regions = same_regions m w s t limits c d here there (λ a h. same_words m w s t limits lent same_count a h n low high) in
        λ i. record { registers = same_registers i; regions = r i }

  same_copies : copies m ≡ copies w
  same_copies = numbered_same (copies m) (copies w) same_count same_copy

-- WHAT IS LENT IS LENT BY ONE MACHINE
pub image_injective : (m w : Machine) → Sound m → Sound w → m.limits ≡ w.limits → image m ≡ image w → m ≡ w
image_injective m w s t limits lent =
    let c : copies m ≡ copies w = same_copies m w s t limits lent in
    λ i. record { limits = limits i; present = get_or (c i) 0 m.present; saved = drop 1 (c i); next = same_next m w s t limits lent i }

-- the limits of a session follow from the length of its heap
pub session_injective : (m w : Machine) → SoundSession m → SoundSession w → image m ≡ image w → m ≡ w
unfolding image
session_injective m w s t lent =
    let p : m.limits.pages ≡ w.limits.pages = omega (arith, heap_length m s.sound, heap_length w t.sound, ap (λ (l : Lent). length l.heap) lent) in
    image_injective m w s.sound t.sound (s.limits ∙ ap document p ∙ sym t.limits) lent
