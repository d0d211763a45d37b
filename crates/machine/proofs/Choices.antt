-- The opening is sound; push, cut and backtrack keep a machine sound: they only take copies again or leave them out.
use Rattle.std.specs.Prelude.{if◌then◌else◌}
use mathlib.Core.Path.{◌≡◌, refl, subst}
use mathlib.Core.Bool.{Bool, true, false}
use mathlib.Core.Logic.{◌⊎◌, inl, inr}
use mathlib.Core.List.Memᴰ
use mathlib.Core.List.{List, [], ◌∷◌, Memᴰ}
use Rattle.laws.proofs.Options.{none_ne_some}
use Prim.Native.Nat.{ℕ, ◌^◌, ◌≤◌, ◌<◌}
use native.Mathlib.Omega.{arith}
use lib.Dec.{leb}
use borrow.Author.Tests.{leb-false}
use lib.ListN.{length}
use Rattle.laws.specs.Base.{Each, Pairs}
use Rattle.laws.proofs.Lists.{each_replicate, each_of, each_at, each_by}
use Rattle.words.specs.declared.Register.TheVariants as Reg
use Rattle.words.specs.declared.Step.TheVariants.{PushChoice, Cut, Backtrack}
use Rattle.words.specs.Answers.{plain}
use Rattle.machine.specs.Copies.{Limits, Copy, Machine, copies, with_copies, opening, bare, live, shown, in_regions}
use Rattle.machine.specs.Run.{exec, refused, cut_to, back_to}
use Rattle.machine.specs.Sound.{LimitsOk, Sound, CopyOk, RegisterIn, RegisterNames, CopyGrown, PagesApart, NoReturn}
use Rattle.machine.proofs.Growth.{copy_refl}
use Rattle.machine.proofs.Shown.{fewer_le, in_order}

-- ---- the opening

bare_ok : (l : Limits) (next : ℕ) → CopyOk l next bare
unfolding RegisterIn RegisterNames in_regions
bare_ok l next =
    record {
      registers = refl;
      registers_in = each_replicate (RegisterIn l next) 32 Reg.Empty tt;
      registers_name = each_replicate (RegisterNames bare) 32 Reg.Empty tt;
      regions = tt;
      in_order = tt;
      cells_name = λ r w h. absurd (none_ne_some w h);
    }

pub opening_sound : (l : Limits) (stamp : ℕ) → LimitsOk l → 1 ≤ stamp → stamp < 2 ^ 32 → Sound (opening l stamp)
unfolding PagesApart NoReturn shown
opening_sound l stamp k a b =
    record {
      limits = k;
      choices = omega arith;
      slots = omega arith;
      next = (a, b);
      each = (bare_ok l stamp, tt);
      apart = λ c d x y. only c d (Memᴰ.cases_cons x);
      grows = (tt, tt);
      no_return = (tt, tt);
    }
  where
    only : (c d : Copy) → (c ≡ bare) ⊎ Memᴰ c [] → PagesApart c d
    only c d (inl e) = λ g h p x. absurd (Memᴰ.not-nil (subst (λ (z : Copy). Memᴰ g z.regions) e x))
    only c d (inr x) = absurd (Memᴰ.not-nil x)

-- ---- copies of the machine, in a stack that may have others left out or taken twice

same_copies : (m : Machine) (c : Copy) (cs : List Copy) → Sound m → ((d : Copy) → Memᴰ d (c ∷ cs) → Memᴰ d (copies m)) →
    length cs ≤ m.limits.choices → Pairs CopyGrown (c ∷ cs) → NoReturn (c ∷ cs) → Sound (with_copies m c cs)
same_copies m c cs s was room grown gone =
    let ok : Each (CopyOk m.limits m.next) (c ∷ cs) =
    each_by (CopyOk m.limits m.next) (c ∷ cs) (λ d x. each_at (CopyOk m.limits m.next) (copies m) s.each d (was d x)) in
    record {
      limits = s.limits;
      choices = room;
      slots =
          let k : length (shown (c ∷ cs)) ≤ length (shown (copies m)) = fewer_le (c ∷ cs) (copies m) (in_order m.limits m.next (c ∷ cs) ok) was in
          omega (arith, s.slots);
      next = s.next;
      each = ok;
      apart = λ d e x y. s.apart d e (was d x) (was e y);
      grows = grown;
      no_return = gone;
    }

push_sound : (m : Machine) → Sound m → length m.saved < m.limits.choices → Sound (with_copies m m.present (m.present ∷ m.saved))
unfolding NoReturn
push_sound m s room =
    same_copies m m.present (copies m) s (λ d x. once d (Memᴰ.cases_cons x)) room
    ((copy_refl m.limits m.next m.present s.each.0, s.grows.0), s.grows)
    ((each_of (λ (old : Copy). (t : ℕ) → live old t ≡ true → live m.present t ≡ false → live m.present t ≡ false) m.saved (λ old t a b. b), s.no_return.0), s.no_return)
  where
    once : (d : Copy) → (d ≡ m.present) ⊎ Memᴰ d (copies m) → Memᴰ d (copies m)
    once d (inl e) = Memᴰ.head e
    once d (inr x) = x

module _ (m : Machine) (c d : Copy) (cs : List Copy) (s : Sound (with_copies m c (d ∷ cs))) where
  cut_sound : Sound (with_copies m c cs)
  unfolding NoReturn
  cut_sound =
      same_copies (with_copies m c (d ∷ cs)) c cs s (λ e x. still e (Memᴰ.cases_cons x)) (omega (arith, s.choices))
      (s.grows.0.1, s.grows.1.1) (s.no_return.0.1, s.no_return.1.1)
    where
      still : (e : Copy) → (e ≡ c) ⊎ Memᴰ e cs → Memᴰ e (c ∷ d ∷ cs)
      still e (inl q) = Memᴰ.head q
      still e (inr x) = Memᴰ.tail (Memᴰ.tail x)

  backtrack_sound : Sound (with_copies m d cs)
  unfolding NoReturn
  backtrack_sound = same_copies (with_copies m c (d ∷ cs)) d cs s (λ e x. Memᴰ.tail x) (omega (arith, s.choices)) s.grows.1 s.no_return.1

-- ---- the steps

pub exec_push : (m : Machine) → Sound m → Sound (exec m PushChoice).machine
unfolding exec
exec_push m s = by (leb m.limits.choices (length m.saved)) refl
  where
    by : (full : Bool) → leb m.limits.choices (length m.saved) ≡ full →
        Sound (if full then refused m 8 else record { answer = plain 0; machine = with_copies m m.present (m.present ∷ m.saved) }).machine
    by true e = s
    by false e = push_sound m s (leb-false m.limits.choices (length m.saved) e)

pub exec_cut : (m : Machine) → Sound m → Sound (exec m Cut).machine
unfolding exec cut_to
exec_cut m s = by m.saved s
  where
    by : (cs : List Copy) → Sound (with_copies m m.present cs) → Sound (cut_to (with_copies m m.present cs) cs).machine
    by [] h = h
    by (c ∷ cs) h = cut_sound m m.present c cs h

pub exec_backtrack : (m : Machine) → Sound m → Sound (exec m Backtrack).machine
unfolding exec back_to
exec_backtrack m s = by m.saved s
  where
    by : (cs : List Copy) → Sound (with_copies m m.present cs) → Sound (back_to (with_copies m m.present cs) cs).machine
    by [] h = h
    by (c ∷ cs) h = backtrack_sound m m.present c cs h
