-- Steps 7 and 8 keep a machine sound: they write registers only, with references that they found.
use Rattle.std.specs.Prelude.{if◌then◌else◌, Option, Some, None}
use mathlib.Core.Path.{◌≡◌, refl}
use mathlib.Core.Bool.{Bool, true, false, ◌&&◌}
use mathlib.Core.Logic.{inl}
use mathlib.Core.List.{List, [], ◌∷◌, Memᴰ}
use Prim.Native.Nat.{ℕ, suc}
use lib.Dec.{eqb}
use Rattle.laws.specs.Base.{Each}
use Rattle.laws.proofs.Lists.{each_at, each_imp}
use Rattle.words.specs.declared.Ref.{Ref}
use Rattle.words.specs.declared.Cell.{Cell}
use Rattle.words.specs.declared.Cell.TheVariants.{Unbound, Bound, Int, Head, Argument}
use Rattle.words.specs.declared.Register.TheVariants as Reg
use Rattle.words.specs.declared.Step.TheVariants.{Deref, Destruct}
use Rattle.machine.specs.declared.Found.{Found}
use Rattle.machine.specs.declared.Found.TheVariants.{Dead, At}
use Rattle.machine.specs.Copies.{Limits, Region, Copy, Machine, with_copies}
use Rattle.machine.specs.Unify.{arguments_at}
use Rattle.machine.specs.Run.{refuse, done, set_reg, term_at, seen, found_from, set_terms, apart, exec}
use Rattle.machine.specs.Sound.{Sound, CopyOk, RegionOk, RegisterIn, RegisterNames, Names}
use Rattle.machine.proofs.Growth.{region_refl}
use Rattle.machine.proofs.Onward.{Onward, onward_sound}
use Rattle.machine.proofs.Registers.{register_set_lem}
use Rattle.machine.proofs.Follow.{GoodRef, dead_not_at, deref_good, arguments_good}

-- d is a good copy with the regions of c
abbrev Kept : Limits → ℕ → Copy → Copy → Type 0
Kept l next c d = CopyOk l next d × (d.regions ≡ c.regions)

-- such a copy goes on from the present one
pub registers_onward : (m : Machine) (t : ℕ) (c : Copy) → Kept m.limits m.next m.present c → Onward m t c
registers_onward m t c k =
    let stays : (g : Region) → Memᴰ g c.regions → Memᴰ g m.present.regions = λ g x. rw k.1 at x in
    record {
      ok = k.0;
      from = λ g x. (g, stays g x, refl, region_refl m.limits m.next g (each_at (RegionOk m.limits m.next) c.regions k.0.regions g x));
      pages = λ g p x h. inl (g, stays g x, refl, h);
    }

-- and so a step that changes registers only keeps the machine sound
pub kept_sound : (m : Machine) (c : Copy) → Sound m → Kept m.limits m.next m.present c → Sound (with_copies m c m.saved)
kept_sound m c s k = onward_sound m 0 c s (registers_onward m 0 c k)

-- the references of a structure's arguments go into registers
terms_kept : (l : Limits) (next : ℕ) (rs : List Ref) (d : ℕ) (c : Copy) → CopyOk l next c → Each (GoodRef l next c) rs → Kept l next c (set_terms rs d c)
unfolding set_terms RegisterIn RegisterNames Names
terms_kept l next [] d c k h = (k, refl)
terms_kept l next (r ∷ rs) d c k h =
    terms_kept l next rs (suc d) (set_reg c d (Reg.Term r)) (register_set_lem l next c d (Reg.Term r) k h.0.0 h.0.1)
    (each_imp (GoodRef l next c) (GoodRef l next (set_reg c d (Reg.Term r))) rs (λ q m z. z) h.1)

module _ (l : Limits) (next : ℕ) (c : Copy) (ok : CopyOk l next c) where
  found_good : (o : Option Ref) (r : Ref) (w : Cell) → found_from c o ≡ At r w → GoodRef l next c r
  unfolding found_from
  found_good None r w e = absurd (dead_not_at r w e)
  found_good (Some q) r w e = deref_good l next c ok q r w e

  seen_kept : (d : ℕ) (f : Found) → ((r : Ref) (w : Cell) → f ≡ At r w → GoodRef l next c r) → Kept l next c (seen c d f).copy
  unfolding seen RegisterIn RegisterNames
  seen_kept d Dead h = (ok, refl)
  seen_kept d (At r w) h = let k = h r w refl in (register_set_lem l next c d (Reg.Term r) ok k.0 k.1, refl)

  apart_kept : (d f n : ℕ) (o : Found) → Kept l next c (apart c d f n o).copy
  unfolding apart
  apart_kept d f n Dead = (ok, refl)
  apart_kept d f n (At r Unbound) = (ok, refl)
  apart_kept d f n (At r (Bound s)) = (ok, refl)
  apart_kept d f n (At r (Int v)) = (ok, refl)
  apart_kept d f n (At r (Argument s)) = (ok, refl)
  apart_kept d f n (At r (Head g k)) = by (eqb f g && eqb n k)
    where
      by : (t : Bool) → Kept l next c (if t then done (set_terms (arguments_at n c r) d c) else refuse c 1).copy
      by true = terms_kept l next (arguments_at n c r) d c ok (arguments_good l next c ok n r)
      by false = (ok, refl)

-- step 7 keeps a machine sound
pub exec_deref : (m : Machine) (d a : ℕ) → Sound m → Sound (exec m (Deref d a)).machine
unfolding exec
exec_deref m d a s =
    let c = m.present in
    let f = found_from c (term_at c a) in
    kept_sound m (seen c d f).copy s (seen_kept m.limits m.next c s.each.0 d f (found_good m.limits m.next c s.each.0 (term_at c a)))

-- and so does step 8
pub exec_destruct : (m : Machine) (d a f n : ℕ) → Sound m → Sound (exec m (Destruct d a f n)).machine
unfolding exec
exec_destruct m d a f n s =
    let c = m.present in
    let o = found_from c (term_at c a) in
    kept_sound m (apart c d f n o).copy s (apart_kept m.limits m.next c s.each.0 d f n o)
