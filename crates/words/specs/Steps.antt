-- Document 01, "Steps": the 64-bit word of a step, and the step that a word says.
use Rattle.std.specs.Prelude.{Bool, true, ◌&&◌, [], ◌∷◌, ℕ, ◌+◌, ◌*◌, ◌^◌, leb, eqb, get_or, if◌then◌else◌}
use Rattle.words.specs.declared.Step.{Step}
use Rattle.words.specs.declared.Step.TheVariants.{Refused, MakeRegion, KillRegion, MakeVar, Integer, Structure, Unify, Deref, Destruct, PushChoice, Cut, Backtrack}
use Rattle.words.specs.Fields.{bits, tagged}
use Rattle.words.specs.Integers.{bits_of, int_of}

-- op 4, d 5, a 5, b 5, then fields of 45 bits
abbrev pub fields : ℕ → ℕ → ℕ → ℕ → ℕ → ℕ
fields op d a b rest = tagged op (d * 2 ^ 55 + a * 2 ^ 50 + b * 2 ^ 45 + rest)

-- functor 16, arity 4, and 25 bits zero
abbrev pub shape : ℕ → ℕ → ℕ
shape f n = f * 2 ^ 29 + n * 2 ^ 25

-- the word of a step: what it does not name is zero
unfoldable pub step_word : Step → ℕ
step_word Refused = 0
step_word (MakeRegion d) = fields 1 d 0 0 0
step_word (KillRegion a) = fields 2 0 a 0 0
step_word (MakeVar d a) = fields 3 d a 0 0
step_word (Integer d a value) = fields 4 d a 0 (bits_of value * 2 ^ 13)
step_word (Structure d a b f n) = fields 5 d a b (shape f n)
step_word (Unify a b budget) = fields 6 0 a b (budget * 2 ^ 33)
step_word (Deref d a) = fields 7 d a 0 0
step_word (Destruct d a f n) = fields 8 d a 0 (shape f n)
step_word PushChoice = fields 9 0 0 0 0
step_word Cut = fields 10 0 0 0 0
step_word Backtrack = fields 11 0 0 0 0

-- what the fields of a word say, by its op; op 0 and ops 12 to 15 are no steps
unfoldable pub reading : ℕ → Step
reading w =
    let d : ℕ = bits 55 5 w in
    let a : ℕ = bits 50 5 w in
    let b : ℕ = bits 45 5 w in
    let f : ℕ = bits 29 16 w in
    let n : ℕ = bits 25 4 w in
    get_or (
    Refused
    ∷ MakeRegion d
    ∷ KillRegion a
    ∷ MakeVar d a
    ∷ Integer d a (int_of (bits 13 32 w))
    ∷ Structure d a b f n
    ∷ Unify a b (bits 33 12 w)
    ∷ Deref d a
    ∷ Destruct d a f n
    ∷ PushChoice
    ∷ Cut
    ∷ Backtrack
    ∷ []
    ) (bits 60 4 w) Refused

-- an arity is at most 14, and no register of a step is past 31
unfoldable pub fits : Step → Bool
fits Refused = true
fits (MakeRegion d) = true
fits (KillRegion a) = true
fits (MakeVar d a) = true
fits (Integer d a value) = true
fits (Structure d a b f n) = leb n 14 && leb (b + n) 32
fits (Unify a b budget) = true
fits (Deref d a) = true
fits (Destruct d a f n) = leb n 14 && leb (d + n) 32
fits PushChoice = true
fits Cut = true
fits Backtrack = true

-- the step that a word says: refused if its op is none, or an unnamed bit is set, or an arity or a register is out of range
unfoldable pub decode : ℕ → Step
decode w = if eqb (step_word (reading w)) w && fits (reading w) then reading w else Refused
