-- What registers and cells name: how it is carried from copy to copy, and a register read or written.
use mathlib.Core.Path.{◌≡◌, refl, subst, ◌∙◌}
use mathlib.Core.Logic.{◌⊎◌, inl, inr}
use Rattle.std.specs.Prelude.{Some}
use Prim.Native.Nat.{ℕ}
use lib.ListN.{length-set}
use Rattle.laws.specs.Base.{Each}
use Rattle.laws.proofs.Lists.{each_at, each_imp, each_set, each_get_or}
use Rattle.words.specs.declared.Ref.{Ref}
use Rattle.words.specs.declared.Cell.{Cell}
use Rattle.words.specs.declared.Cell.TheVariants.{Unbound, Bound, Int, Head, Argument}
use Rattle.words.specs.declared.Register.{Register}
use Rattle.words.specs.declared.Register.TheVariants as Reg
use Rattle.machine.specs.Copies.{Limits, Copy, cell_at}
use Rattle.machine.specs.Run.{reg, set_reg}
use Rattle.machine.specs.Sound.{CopyOk, RefIn, CellIn, RegisterIn, RegisterNames, Names, CellNames, IsVariable}
use Rattle.machine.proofs.Cells.{cell_in}

-- ---- from a copy c to a copy d, in which the references that are `Ok` still name what they have to

-- a variable of d, at a reference that names what it has to in c, was one in c
abbrev pub Were : Copy → Copy → Type 0
Were c d = (r : Ref) (w : Cell) → Names c r → cell_at d r ≡ Some w → IsVariable w → (v : Cell) × (cell_at c r ≡ Some v) × IsVariable v

module _ (Ok : Ref → Type 0) (c d : Copy) (still : (r : Ref) → Ok r → Names c r → Names d r) where
  register_if : (x : Register) → ((r : Ref) → x ≡ Reg.Term r → Ok r) → RegisterNames c x → RegisterNames d x
  unfolding RegisterNames
  register_if Reg.Empty i h = tt
  register_if (Reg.Region s) i h = tt
  register_if (Reg.Term r) i h = still r (i r refl) h

  cell_if : Were c d → (r : Ref) (w : Cell) → ((s : Ref) → (w ≡ Bound s) ⊎ (w ≡ Argument s) → Ok s) → CellNames c r w → CellNames d r w
  unfolding CellNames
  cell_if was r Unbound i h = tt
  cell_if was r (Bound s) i h = (still s (i s (inl refl)) h.0, λ w e k. let v = was s w h.0 e k in h.1 v.0 v.1 v.2)
  cell_if was r (Int v) i h = tt
  cell_if was r (Head f n) i h = tt
  cell_if was r (Argument s) i h = still s (i s (inr refl)) h

-- where every reference does
module _ (c d : Copy) (still : (r : Ref) → Names c r → Names d r) where
  pub register_names : (x : Register) → RegisterNames c x → RegisterNames d x
  register_names x = register_if (λ r. Unit {0}) c d (λ r u. still r) x (λ r e. tt)

  pub cell_names : Were c d → (r : Ref) (w : Cell) → CellNames c r w → CellNames d r w
  cell_names was r w = cell_if (λ s. Unit {0}) c d (λ s u. still s) was r w (λ s e. tt)

-- what a cell in range refers to is in range
refers_in : (l : Limits) (next : ℕ) (w : Cell) → CellIn l next w → (s : Ref) → (w ≡ Bound s) ⊎ (w ≡ Argument s) → RefIn l next s
unfolding CellIn
refers_in l next w i s (inl e) = subst (CellIn l next) e i
refers_in l next w i s (inr e) = subst (CellIn l next) e i

-- where the references of a good copy do
module _ (l : Limits) (next : ℕ) (c d : Copy) (still : (r : Ref) → RefIn l next r → Names c r → Names d r) (k : CopyOk l next c) where
  pub registers_kept : Each (RegisterNames d) c.registers
  unfolding RegisterIn
  registers_kept =
      each_imp (RegisterNames c) (RegisterNames d) c.registers
      (λ x m. register_if (RefIn l next) c d still x (λ r e. subst (RegisterIn l next) e (each_at (RegisterIn l next) c.registers k.registers_in x m)))
      k.registers_name

  pub cells_kept : Were c d → (r : Ref) (w : Cell) → cell_at c r ≡ Some w → CellNames d r w
  cells_kept was r w e = cell_if (RefIn l next) c d still was r w (refers_in l next w (cell_in l next c k r w e)) (k.cells_name r w e)

-- ---- one register

-- a register that is read is in range, and names a filled word
pub register_in : (l : Limits) (next : ℕ) (c : Copy) (i : ℕ) → CopyOk l next c → RegisterIn l next (reg c i)
unfolding RegisterIn
register_in l next c i k = each_get_or (RegisterIn l next) c.registers i Reg.Empty k.registers_in tt

pub register_named : (l : Limits) (next : ℕ) (c : Copy) (i : ℕ) → CopyOk l next c → RegisterNames c (reg c i)
unfolding RegisterNames
register_named l next c i k = each_get_or (RegisterNames c) c.registers i Reg.Empty k.registers_name tt

-- to write a register that is in range and names a filled word keeps a good copy good
pub register_set_lem : (l : Limits) (next : ℕ) (c : Copy) (d : ℕ) (x : Register) → CopyOk l next c → RegisterIn l next x → RegisterNames c x → CopyOk l next (set_reg c d x)
unfolding Names
register_set_lem l next c d x k i n =
    record {
      registers = length-set c.registers d x ∙ k.registers;
      registers_in = each_set (RegisterIn l next) c.registers d x k.registers_in i;
      registers_name =
          each_set (RegisterNames (set_reg c d x)) c.registers d x (registers_kept l next c (set_reg c d x) (λ r m h. h) k)
          (register_names c (set_reg c d x) (λ r h. h) x n);
      regions = k.regions;
      in_order = k.in_order;
      cells_name = cells_kept l next c (set_reg c d x) (λ r m h. h) k (λ r w n e h. (w, e, h));
    }
