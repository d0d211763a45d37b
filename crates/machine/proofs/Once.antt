-- The run call and the state call have one outcome: what was lent determines all that is answered and left.
use mathlib.Core.Path.{◌≡◌, refl, sym, ap, ◌∙◌}
use mathlib.Core.List.{List, ◌++◌, map}
use Prim.Native.Nat.{ℕ}
use lib.ListN.{length, drop}
use Rattle.words.specs.Answers.{answer_word}
use Rattle.machine.specs.declared.State.{State}
use Rattle.machine.specs.Copies.{Machine}
use Rattle.machine.specs.Run.{answers, final, state_of}
use Rattle.machine.specs.Tables.{Lent, image}
use Rattle.machine.specs.Calls.{Session, RunCall, too_many, no_session, ran, StateCall, unsound, told}
use Rattle.machine.proofs.Injective.{session_injective}

-- what is lent is the image of one sound session at most
pub one_session : (l : Lent) (m w : Machine) → Session l m → Session l w → m ≡ w
one_session l m w s t = session_injective m w s.sound t.sound (s.is ∙ sym t.is)

pub run_once : {l : Lent} {steps answered : List ℕ} {r₁ r₂ : ℕ} {l₁ l₂ : Lent} {a₁ a₂ : List ℕ} → RunCall l steps answered r₁ l₁ a₁ → RunCall l steps answered r₂ l₂ a₂ →
    (r₁ ≡ r₂) × (l₁ ≡ l₂) × (a₁ ≡ a₂)
run_once (too_many h) (too_many k) = (refl, refl, refl)
run_once (too_many h) (no_session k n) = absurd (k h)
run_once (too_many h) (ran k m s) = absurd (k h)
run_once (no_session h n) (too_many k) = absurd (h k)
run_once (no_session h n) (no_session k i) = (refl, refl, refl)
run_once (no_session h n) (ran k m s) = absurd (n m s)
run_once (ran h m s) (too_many k) = absurd (h k)
run_once (ran h m s) (no_session k n) = absurd (n m s)
run_once {l} {steps} {answered} (ran h m s) (ran k w t) =
    let e : m ≡ w = one_session l m w s t in
    (refl, ap (λ (x : Machine). image (final x steps)) e, ap (λ (x : Machine). map answer_word (answers x steps) ++ drop (length steps) answered) e)

pub state_once : {l : Lent} {r₁ r₂ : ℕ} {s₁ s₂ : State} → StateCall l r₁ s₁ → StateCall l r₂ s₂ → (r₁ ≡ r₂) × (s₁ ≡ s₂)
state_once (unsound n) (unsound k) = (refl, refl)
state_once (unsound n) (told m s) = absurd (n m s)
state_once (told m s) (unsound n) = absurd (n m s)
state_once {l} (told m s) (told w t) = (refl, ap state_of (one_session l m w s t))
