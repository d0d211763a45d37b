-- Every step keeps a machine sound, whatever the step word; so does a run, and a session stays a session of document 01.
use mathlib.Core.Path.{◌≡◌, refl, sym, ap, ◌∙◌}
use mathlib.Core.Bool.{Bool, true, false, ◌&&◌}
use mathlib.Core.List.{List, [], ◌∷◌}
use mathlib.Core.Logic.{◌≢◌}
use Prim.Native.Nat.{ℕ, ◌+◌, ◌^◌, ◌≤◌, ◌<◌}
use native.Mathlib.Omega.{arith}
use lib.Dec.{leb}
use borrow.Author.Tests.{leb-true}
use Rattle.words.specs.declared.Step.{Step}
use Rattle.words.specs.declared.Step.TheVariants.{Refused, MakeRegion, KillRegion, MakeVar, Integer, Structure, Unify, Deref, Destruct, PushChoice, Cut, Backtrack}
use Rattle.words.specs.Steps.{fits, decode}
use Rattle.words.specs.Fit.{StepFits}
use Rattle.words.proofs.StepWords.{decode_fits}
use Rattle.machine.specs.Copies.{Machine, document, opening}
use Rattle.machine.specs.Run.{exec, after, final}
use Rattle.machine.specs.Sound.{Sound, SoundSession}
use Rattle.machine.proofs.Moves.{limits_stay}
use Rattle.machine.proofs.Choices.{opening_sound, exec_push, exec_cut, exec_backtrack}
use Rattle.machine.proofs.Kill.{exec_kill}
use Rattle.machine.proofs.Make.{exec_make}
use Rattle.machine.proofs.Build.{exec_makevar, exec_integer, exec_structure}
use Rattle.machine.proofs.UnifySound.{exec_unify}
use Rattle.machine.proofs.DerefSound.{exec_deref, exec_destruct}

-- what the decoder lets through: fields in their widths, arity and registers in range
abbrev pub Legal : Step → Type 0
Legal s = s ≢ Refused → StepFits s × (fits s ≡ true)

pub decode_legal : (w : ℕ) → Legal (decode w)
decode_legal w n = decode_fits w (decode w) refl n

both_first : (s t : Bool) → (s && t) ≡ true → s ≡ true
both_first true t e = refl
both_first false t e = e

pub exec_sound : (m : Machine) (s : Step) → Legal s → Sound m → Sound (exec m s).machine
unfolding exec fits StepFits
exec_sound m Refused g h = h
exec_sound m (MakeRegion d) g h = exec_make m d h
exec_sound m (KillRegion a) g h = exec_kill m a h
exec_sound m (MakeVar d a) g h = exec_makevar m d a h
exec_sound m (Integer d a v) g h = exec_integer m d a v (g (λ e. let z : ◌≡◌ {A = ℕ} 0 1 = cc in omega arith)).0.2 h
exec_sound m (Structure d a b f n) g h =
    let k = g (λ e. let z : ◌≡◌ {A = ℕ} 0 1 = cc in omega arith) in
    exec_structure m d a b f n k.0.3 (leb-true n 14 (both_first (leb n 14) (leb (b + n) 32) k.1)) h
exec_sound m (Unify a b k) g h = exec_unify m a b k h
exec_sound m (Deref d a) g h = exec_deref m d a h
exec_sound m (Destruct d a f n) g h = exec_destruct m d a f n h
exec_sound m PushChoice g h = exec_push m h
exec_sound m Cut g h = exec_cut m h
exec_sound m Backtrack g h = exec_backtrack m h

-- EVERY STEP KEEPS A MACHINE SOUND
pub step_sound : (m : Machine) (w : ℕ) → Sound m → Sound (after m w)
step_sound m w = exec_sound m (decode w) (decode_legal w)

pub run_sound : (m : Machine) (ws : List ℕ) → Sound m → Sound (final m ws)
unfolding final
run_sound m [] h = h
run_sound m (w ∷ ws) h = run_sound (after m w) ws (step_sound m w h)

-- ---- sessions: the limits are document 01's, and stay so

pub opening_session : (pages stamp : ℕ) → 1 ≤ pages → pages ≤ 256 → 1 ≤ stamp → stamp < 2 ^ 32 → SoundSession (opening (document pages) stamp)
opening_session pages stamp a b c d =
    record {
      sound = opening_sound (document pages) stamp (record { pages = a; least = omega arith; most = omega arith; named = omega arith }) c d;
      limits = refl;
    }

run_limits : (m : Machine) (ws : List ℕ) → (final m ws).limits ≡ m.limits
unfolding final
run_limits m [] = refl
run_limits m (w ∷ ws) = run_limits (after m w) ws ∙ limits_stay m (decode w)

pub run_session : (m : Machine) (ws : List ℕ) → SoundSession m → SoundSession (final m ws)
run_session m ws s =
    let e = run_limits m ws in
    record { sound = run_sound m ws s.sound; limits = e ∙ s.limits ∙ ap (λ l. document l.pages) (sym e) }
