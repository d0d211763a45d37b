-- The registers of the copies in the tables, docs/LAYOUT.md: register r of copy n is word 2 + 32 (n - 1) + r. There is no copy 0.
use Rattle.std.specs.Prelude.{List, ℕ, ◌+◌, ◌-◌, ◌*◌, ◌%◌, eqb, get_or, set, if◌then◌else◌, Option, Some, None}
use Rattle.laws.specs.Loops.{run}
use Rattle.words.specs.declared.Ref.{Ref}
use Rattle.words.specs.declared.Register.{Register}
use Rattle.words.specs.declared.Register.TheVariants.{Empty, Region, Term}
use Rattle.words.specs.Words.{unpack_register}

-- the number of copies, the present one included
abbrev pub count_of : List ℕ → ℕ
count_of t = get_or t 1 0

-- as a mark, which has 8 bits
unfoldable pub present : List ℕ → ℕ
present t = count_of t % 256

abbrev pub place : ℕ → ℕ → ℕ
place n r = n * 32 + r - 30

unfoldable pub register_at : List ℕ → ℕ → ℕ → ℕ
register_at t n r = if eqb n 0 then 0 else get_or t (place n r) 0

unfoldable pub register_set : List ℕ → ℕ → ℕ → ℕ → List ℕ
register_set t n r w = if eqb n 0 then t else set t (place n r) w

-- the 32 registers of copy `source` go to copy `target`
unfoldable pub row_copied : ℕ → ℕ → List ℕ → List ℕ
row_copied source target t = run (λ r t. register_set t target r (register_at t source r)) 32 t

-- the 32 registers of copy n are emptied
unfoldable pub row_cleared : ℕ → List ℕ → List ℕ
row_cleared n t = run (λ r t. register_set t n r 0) 32 t

-- what register r of the present copy holds
unfoldable pub held_at : List ℕ → ℕ → Option Register
held_at t r = unpack_register 12 (register_at t (present t) r)

-- by the stamp, if it is a region; by the reference, if it is a term
abbrev pub on_region : {A : Type 0} → Option Register → (ℕ → A) → A → A
on_region (Some Empty) f z = z
on_region (Some (Region s)) f z = f s
on_region (Some (Term r)) f z = z
on_region None f z = z

abbrev pub on_term : {A : Type 0} → Option Register → (Ref → A) → A → A
on_term (Some Empty) f z = z
on_term (Some (Region s)) f z = z
on_term (Some (Term r)) f z = f r
on_term None f z = z
