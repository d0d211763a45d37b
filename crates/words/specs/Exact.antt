-- What a word says, if that is the whole of it: packed again it is this word, so that no other bit is set.
use Rattle.std.specs.Prelude.{Bool, ◌&&◌, ℕ, ◌+◌, leb, eqb, if◌then◌else◌, Option, Some, None}
use Rattle.words.specs.declared.Cell.TheVariants.{Head}
use Rattle.words.specs.declared.Word.{Word}
use Rattle.words.specs.declared.Step.{Step}
use Rattle.words.specs.declared.Step.TheVariants.{Refused}
use Rattle.words.specs.Fields.{bits}
use Rattle.words.specs.Words.{heap_word}
use Rattle.words.specs.Steps.{step_word}
use Rattle.words.specs.Clip.{clipped_step}

-- x, if its word v is w
abbrev pub exact : {A : Type 0} → ℕ → ℕ → A → Option A
exact v w x = if eqb v w then Some x else None

unfoldable pub exact_word : ℕ → ℕ → Word → Word
exact_word k w x = if eqb (heap_word k x) w then x else Word.Broken

-- a heap word unless it is broken, a step unless it is refused
abbrev pub unbroken : Word → Option Word
unbroken Word.Broken = None
unbroken x = Some x

abbrev pub accepted : Step → Option Step
accepted Refused = None
accepted s = Some s

unfoldable pub exact_step : ℕ → Step → Step
exact_step w s = if eqb (step_word (clipped_step s)) w then s else Refused

-- a step may have n arguments in the registers from the first on: n is at most 14, and none of them is past 31
abbrev pub in_range : ℕ → ℕ → Bool
in_range first n = leb n 14 && leb (first + n) 32

-- a structure's head, if its arity is 0 to 14
unfoldable pub head_of : ℕ → ℕ → Word
head_of k w = if leb (bits 40 4 w) 14 then exact_word k w (Word.Filled (Head (bits 44 16 w) (bits 40 4 w))) else Word.Broken
