-- The lengths of all that a session lends: whole pages of heap, and tables of a fixed length, at most 32 KiB.
use mathlib.Core.Path.{◌≡◌, ap, ◌∙◌}
use Prim.Native.Nat.{◌+◌, ◌*◌, ◌^◌, ◌≤◌}
use native.Mathlib.Omega.{arith}
use lib.ListN.{length}
use Rattle.laws.proofs.Search.{length_tab}
use Rattle.machine.specs.Copies.{Limits, Machine}
use Rattle.machine.specs.Sound.{SoundSession}
use Rattle.machine.specs.Tables.{born_mark, turned_mark, image}
use Rattle.machine.proofs.Heap.{heap_length}
use Rattle.machine.proofs.Rows.{tables_length}

pub record Lengths (m : Machine) : Type 0 where
  pub heap : length (image m).heap ≡ m.limits.pages * 16
  pub tables : length (image m).tables ≡ 1058
  pub born : length (image m).born ≡ 4096
  pub turned : length (image m).turned ≡ 4096

-- a session has the lengths of document 01's formats
pub lengths : (m : Machine) → SoundSession m → Lengths m
unfolding image
lengths m s =
    let marks : 2 ^ m.limits.address ≡ 4096 = ap (λ (l : Limits). 2 ^ l.address) s.limits in
    record {
      heap = heap_length m s.sound;
      tables = tables_length m s.sound ∙ ap (λ (l : Limits). 2 + (l.choices + 1) * 32) s.limits;
      born = length_tab (2 ^ m.limits.address) (born_mark m) ∙ marks;
      turned = length_tab (2 ^ m.limits.address) (turned_mark m) ∙ marks;
    }

-- THE TABLES FIT: 8 bytes a word of the tables, one byte a mark
pub tables_fit : (m : Machine) → SoundSession m → 8 * length (image m).tables + length (image m).born + length (image m).turned ≤ 32768
tables_fit m s = let l = lengths m s in omega (arith, l.tables, l.born, l.turned)
