-- Document 01, "Answer words".
use Rattle.std.specs.Prelude.{ℕ, ◌+◌, ◌*◌, ◌^◌, Result, Ok, Err}
use Rattle.words.specs.declared.Answer.{Answer}
use Rattle.words.specs.declared.Refusal.{Refusal}
use Rattle.words.specs.declared.Refusal.TheVariants.{Differ, NoStep, NoRegion, Dead, NoPage, NoSlot, NoStamp, TooManyCopies, NoCopy, PairsSpent, Unbound}
use Rattle.words.specs.Fields.{bits}

-- status 4, kind 4, pairs 12, payload 32, zero 12
unfoldable pub answer_word : Answer → ℕ
answer_word a = a.status * 2 ^ 60 + a.kind * 2 ^ 56 + a.pairs * 2 ^ 44 + a.payload * 2 ^ 12

-- and read back
unfoldable pub answer_of : ℕ → Answer
answer_of w = record { status = bits 60 4 w; kind = bits 56 4 w; pairs = bits 44 12 w; payload = bits 12 32 w }

-- a status and nothing else
abbrev pub plain : ℕ → Answer
plain s = record { status = s; kind = 0; pairs = 0; payload = 0 }

-- the status of each refusal
abbrev pub status_of : Refusal → ℕ
status_of Differ = 1
status_of NoStep = 2
status_of NoRegion = 3
status_of Dead = 4
status_of NoPage = 5
status_of NoSlot = 6
status_of NoStamp = 7
status_of TooManyCopies = 8
status_of NoCopy = 9
status_of PairsSpent = 10
status_of Unbound = 11

-- what a step answers that is done with x, or refused
abbrev pub told : {A : Type 0} → (A → Answer) → Result A Refusal → Answer
told done (Ok x) = done x
told done (Err e) = plain (status_of e)

-- it has nothing to tell but that it is done
abbrev pub told_done : Result (Unit {0}) Refusal → Answer
told_done r = told (λ x. plain 0) r
