-- The tables, word by word: the next stamp, the count of copies, a row of 32 register words for each copy, zeros.
use Rattle.std.specs.Prelude.{if◌then◌else◌}
use mathlib.Core.Path.{◌≡◌, refl, ap, ◌∙◌}
use mathlib.Core.Bool.{Bool, true, false}
use mathlib.Core.List.{List, [], ◌∷◌, ◌++◌}
use Prim.Native.Nat.{ℕ, suc, ◌+◌, ◌-◌, ◌*◌, ◌≤◌, ◌<◌}
use native.Mathlib.Omega.{arith}
use lib.Dec.{eqb}
use lib.ListN.{length, take, drop, replicate, length-append, length-map, length-replicate, length-drop}
use lib.Seq.{take_all, take-append-le, drop-append-le, drop_at}
use Rattle.laws.specs.Base.{Each}
use Rattle.laws.proofs.Tests.{tests}
use Rattle.laws.proofs.Lists.{each_imp}
use Rattle.words.specs.Words.{register_word}
use Rattle.machine.specs.Copies.{Copy, Machine, copies}
use Rattle.machine.specs.Sound.{Sound, CopyOk}
use Rattle.machine.specs.Tables.{row, rows, tables_image, numbered}
use Rattle.machine.proofs.Homes.{width}

abbrev Full : Copy → Type 0
Full c = length c.registers ≡ 32

-- a part of the first of two lists
part_first : (l r : List ℕ) (i n : ℕ) → i + n ≤ length l → take n (drop i (l ++ r)) ≡ take n (drop i l)
part_first l r i n h = ap (take n) (drop-append-le i l r (omega arith)) ∙ take-append-le n (drop i l) r (omega (arith, length-drop i l))

module _ (k : ℕ) where
  row_length : (c : Copy) → Full c → length (row k c) ≡ 32
  unfolding row
  row_length c f = length-map c.registers (register_word k) ∙ f

  rows_length : (cs : List Copy) → Each Full cs → length (rows k cs) ≡ length cs * 32
  unfolding rows
  rows_length [] f = refl
  rows_length (c ∷ cs) f = omega (arith, length-append (rows k cs) (row k c), rows_length cs f.1, row_length c f.0)

  -- the row of copy c
  row_at : (cs : List Copy) → Each Full cs → (c : ℕ) → 0 < c → c ≤ length cs → take 32 (drop ((c - 1) * 32) (rows k cs)) ≡ row k (numbered cs c)
  unfolding rows numbered
  row_at [] f c h l = absurd (omega arith)
  row_at (x ∷ xs) f c h l = by (eqb c (suc (length xs))) refl (λ i. row_at xs f.1 c h i)
    where
      by : (t : Bool) → eqb c (suc (length xs)) ≡ t → (c ≤ length xs → take 32 (drop ((c - 1) * 32) (rows k xs)) ≡ row k (numbered xs c)) →
          take 32 (drop ((c - 1) * 32) (rows k xs ++ row k x)) ≡ row k (if t then x else numbered xs c)
      by true e ih =
          let d : length (rows k xs) ≡ (c - 1) * 32 = omega (tests, rows_length xs f.1) in
          ap (take 32) (drop_at (rows k xs) (row k x) ((c - 1) * 32) d) ∙ take_all 32 (row k x) (omega (arith, row_length x f.0))
      by false e ih = part_first (rows k xs) (row k x) ((c - 1) * 32) 32 (omega (tests, rows_length xs f.1)) ∙ ih (omega tests)

module _ (m : Machine) (s : Sound m) where
  full : Each Full (copies m)
  full = each_imp (CopyOk m.limits m.next) Full (copies m) (λ c h k. k.registers) s.each

  -- THE ROW OF COPY c in the tables
  pub registers_at : (c : ℕ) → 0 < c → c ≤ length (copies m) → take 32 (drop (2 + (c - 1) * 32) (tables_image m)) ≡ row (width m) (numbered (copies m) c)
  unfolding tables_image
  registers_at c h l =
      let e : 2 + (c - 1) * 32 ≡ suc (suc ((c - 1) * 32)) = omega arith in
      rw e (part_first (rows (width m) (copies m)) (replicate ((m.limits.choices - length m.saved) * 32) 0) ((c - 1) * 32) 32 (omega (arith, rows_length (width m) (copies m) full))
      ∙ row_at (width m) (copies m) full c h l)

  pub tables_length : length (tables_image m) ≡ 2 + (m.limits.choices + 1) * 32
  unfolding tables_image
  tables_length =
      omega (
        arith,
        s.choices,
        length-append (rows (width m) (copies m)) (replicate ((m.limits.choices - length m.saved) * 32) 0),
        rows_length (width m) (copies m) full,
        length-replicate {A = ℕ} ((m.limits.choices - length m.saved) * 32) 0,
      )
