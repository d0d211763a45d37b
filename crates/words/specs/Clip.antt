-- A step or an answer with each field reduced to its width: what is packed where a field of the code's type is wider than the word's.
-- What fits is as it was (`StepFits`, `AnswerFits`).
use Rattle.std.specs.Prelude.{ℕ, ◌%◌, ◌^◌}
use Rattle.words.specs.declared.Step.{Step}
use Rattle.words.specs.declared.Step.TheVariants.{Refused, MakeRegion, KillRegion, MakeVar, Integer, Structure, Unify, Deref, Destruct, PushChoice, Cut, Backtrack}
use Rattle.words.specs.declared.Answer.{Answer}

-- a register of 5 bits
abbrev pub register : ℕ → ℕ
register n = n % 2 ^ 5

unfoldable pub clipped_step : Step → Step
clipped_step Refused = Refused
clipped_step (MakeRegion d) = MakeRegion (register d)
clipped_step (KillRegion a) = KillRegion (register a)
clipped_step (MakeVar d a) = MakeVar (register d) (register a)
clipped_step (Integer d a value) = Integer (register d) (register a) value
clipped_step (Structure d a b f n) = Structure (register d) (register a) (register b) f (n % 2 ^ 4)
clipped_step (Unify a b budget) = Unify (register a) (register b) (budget % 2 ^ 12)
clipped_step (Deref d a) = Deref (register d) (register a)
clipped_step (Destruct d a f n) = Destruct (register d) (register a) f (n % 2 ^ 4)
clipped_step PushChoice = PushChoice
clipped_step Cut = Cut
clipped_step Backtrack = Backtrack

unfoldable pub clipped_answer : Answer → Answer
clipped_answer a = record { status = a.status % 2 ^ 4; kind = a.kind % 2 ^ 4; pairs = a.pairs % 2 ^ 12; payload = a.payload }
