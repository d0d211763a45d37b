-- What each step does to the limits, the saved copies and the counter, by its event.
use Rattle.std.specs.Prelude.{if◌then◌else◌, Option, Some, None}
use mathlib.Core.Path.{◌≡◌, refl, ap}
use mathlib.Core.Bool.{Bool, true, false}
use mathlib.Core.List.{List, [], ◌∷◌}
use Prim.Native.Nat.{ℕ, suc}
use lib.Dec.{leb, eqb}
use lib.ListN.{length}
use Rattle.words.specs.declared.Step.{Step}
use Rattle.words.specs.declared.Step.TheVariants.{Refused, MakeRegion, KillRegion, MakeVar, Integer, Structure, Unify, Deref, Destruct, PushChoice, Cut, Backtrack}
use Rattle.words.specs.Answers.{plain}
use Rattle.machine.specs.Copies.{Limits, Copy, Machine, free, lowest, slots}
use Rattle.machine.specs.Run.{Outcome, refused, last_stamp, new_region, cut_to, back_to, exec}
use Rattle.machine.specs.Strike.{Event, made, pushed, dropped, used, other, event_of}

abbrev pub machine_of : Limits → Copy → List Copy → ℕ → Machine
machine_of limits present saved next = record { limits = limits; present = present; saved = saved; next = next }

abbrev pub Moves : Event → Machine → Outcome → Type 0
Moves made m o = (o.machine.limits ≡ m.limits) × (o.machine.saved ≡ m.saved) × (o.machine.next ≡ suc m.next) × (o.answer.payload ≡ m.next)
Moves pushed m o = o.machine ≡ machine_of m.limits m.present (m.present ∷ m.saved) m.next
Moves dropped m o = (c : Copy) × (cs : List Copy) × (m.saved ≡ c ∷ cs) × (o.machine ≡ machine_of m.limits m.present cs m.next)
Moves used m o = (c : Copy) × (cs : List Copy) × (m.saved ≡ c ∷ cs) × (o.machine ≡ machine_of m.limits c cs m.next)
Moves other m o = (o.machine.limits ≡ m.limits) × (o.machine.saved ≡ m.saved) × (o.machine.next ≡ m.next)

abbrev Moved : Machine → Step → Outcome → Type 0
Moved m s o = Moves (event_of s o.answer.status) m o

moves_make : (m : Machine) (d : ℕ) (last full : Bool) (p : Option ℕ) → Moved m (MakeRegion d) (if last then refused m 7 else if full then refused m 6 else new_region m d p)
unfolding event_of new_region
moves_make m d true full p = (refl, refl, refl)
moves_make m d false true p = (refl, refl, refl)
moves_make m d false false None = (refl, refl, refl)
moves_make m d false false (Some p) = (refl, refl, refl, refl)

moves_push : (m : Machine) (full : Bool) → Moved m PushChoice (if full then refused m 8 else record { answer = plain 0; machine = machine_of m.limits m.present (m.present ∷ m.saved) m.next })
unfolding event_of
moves_push m true = (refl, refl, refl)
moves_push m false = refl

moves_cut : (m : Machine) (cs : List Copy) → m.saved ≡ cs → Moved m Cut (cut_to m cs)
unfolding event_of cut_to
moves_cut m [] e = (refl, refl, refl)
moves_cut m (c ∷ cs) e = (c, cs, e, refl)

moves_back : (m : Machine) (cs : List Copy) → m.saved ≡ cs → Moved m Backtrack (back_to m cs)
unfolding event_of back_to
moves_back m [] e = (refl, refl, refl)
moves_back m (c ∷ cs) e = (c, cs, e, refl)

pub moves : (m : Machine) (s : Step) → Moved m s (exec m s)
unfolding exec event_of
moves m Refused = (refl, refl, refl)
moves m (MakeRegion d) = moves_make m d (eqb m.next last_stamp) (leb m.limits.slots (slots m)) (lowest (free m))
moves m (KillRegion a) = (refl, refl, refl)
moves m (MakeVar d a) = (refl, refl, refl)
moves m (Integer d a v) = (refl, refl, refl)
moves m (Structure d a b f n) = (refl, refl, refl)
moves m (Unify a b k) = (refl, refl, refl)
moves m (Deref d a) = (refl, refl, refl)
moves m (Destruct d a f n) = (refl, refl, refl)
moves m PushChoice = moves_push m (leb m.limits.choices (length m.saved))
moves m Cut = moves_cut m m.saved refl
moves m Backtrack = moves_back m m.saved refl

-- no step changes the limits
moved_limits : (e : Event) (m : Machine) (o : Outcome) → Moves e m o → o.machine.limits ≡ m.limits
moved_limits made m o h = h.0
moved_limits pushed m o h = ap (λ (x : Machine). x.limits) h
moved_limits dropped m o h = ap (λ (x : Machine). x.limits) h.3
moved_limits used m o h = ap (λ (x : Machine). x.limits) h.3
moved_limits other m o h = h.0

pub limits_stay : (m : Machine) (s : Step) → (exec m s).machine.limits ≡ m.limits
limits_stay m s = moved_limits (event_of s (exec m s).answer.status) m (exec m s) (moves m s)
