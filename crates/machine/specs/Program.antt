-- Document 01, "One run, whole": what the program prints of a file, byte for byte.
use Rattle.std.specs.Prelude.{Bool, ◌||◌, List, [], ◌∷◌, ◌++◌, ℕ, zero, suc, ◌+◌, ◌*◌, ◌/◌, ◌%◌, ◌^◌, eqb, ltb, length, if◌then◌else◌}
use Rattle.words.specs.declared.Answer.{Answer}
use Rattle.words.specs.Fields.{bits}
use Rattle.machine.specs.declared.State.{State}
use Rattle.machine.specs.Copies.{document, opening}
use Rattle.machine.specs.Run.{answers, final, state_of}

-- ---- reading: words of 8 bytes, most significant first

-- `got` of a word's bytes have been read into `so`
unfoldable pub words_from : ℕ → ℕ → List ℕ → List ℕ
words_from got so [] = []
words_from got so (b ∷ bs) = if eqb got 7 then (so * 2 ^ 8 + b) ∷ words_from 0 0 bs else words_from (suc got) (so * 2 ^ 8 + b) bs

-- the first word: pages 16, stamp 32, zero 16
abbrev pub pages_of : ℕ → ℕ
pages_of = bits 48 16

abbrev pub first_stamp : ℕ → ℕ
first_stamp = bits 16 32

-- the opening refuses it, or any of its last 16 bits is set
unfoldable pub first_refused : ℕ → Bool
first_refused w = ltb 0 (bits 0 16 w) || eqb (pages_of w) 0 || ltb 256 (pages_of w) || eqb (first_stamp w) 0

-- ---- printing: unsigned decimal

-- at most so many digits, before a text
unfoldable pub digits : ℕ → ℕ → List ℕ → List ℕ
digits zero n text = text
digits (suc most) n text = if ltb n 10 then (48 + n) ∷ text else digits most (n / 10) ((48 + n % 10) ∷ text)

abbrev pub decimal : ℕ → List ℕ
decimal n = digits 20 n []

abbrev pub space : ℕ
space = 32

abbrev pub line_feed : ℕ
line_feed = 10

-- number, status, kind, pairs, payload
unfoldable pub step_line : ℕ → Answer → List ℕ
step_line n a =
    decimal n
    ++ (space ∷ decimal a.status)
    ++ (space ∷ decimal a.kind)
    ++ (space ∷ decimal a.pairs)
    ++ (space ∷ decimal a.payload)
    ++ (line_feed ∷ [])

-- a line for each step, the first of which has that number
unfoldable pub step_lines : ℕ → List Answer → List ℕ
step_lines n [] = []
step_lines n (a ∷ more) = step_line n a ++ step_lines (suc n) more

-- 'pages P stamp S'
unfoldable pub opening_line : ℕ → List ℕ
opening_line w =
    112 ∷ 97 ∷ 103 ∷ 101 ∷ 115 ∷ space ∷ decimal (pages_of w)
    ++ (space ∷ 115 ∷ 116 ∷ 97 ∷ 109 ∷ 112 ∷ space ∷ decimal (first_stamp w))
    ++ (line_feed ∷ [])

-- 'free F choices C next N'
unfoldable pub last_line : State → List ℕ
last_line s =
    102 ∷ 114 ∷ 101 ∷ 101 ∷ space ∷ decimal s.free
    ++ (space ∷ 99 ∷ 104 ∷ 111 ∷ 105 ∷ 99 ∷ 101 ∷ 115 ∷ space ∷ decimal s.choices)
    ++ (space ∷ 110 ∷ 101 ∷ 120 ∷ 116 ∷ space ∷ decimal s.next)
    ++ (line_feed ∷ [])

-- the line 'refused'
abbrev pub refused_line : List ℕ
refused_line = 114 ∷ 101 ∷ 102 ∷ 117 ∷ 115 ∷ 101 ∷ 100 ∷ line_feed ∷ []

unfoldable pub run_lines : ℕ → List ℕ → List ℕ
run_lines first steps =
    let m = opening (document (pages_of first)) (first_stamp first) in
    opening_line first ++ step_lines 1 (answers m steps) ++ last_line (state_of (final m steps))

-- what is printed of the words of a file: an empty file, a wrong first word, and more than 4,096 steps are refused
unfoldable pub printed_words : List ℕ → List ℕ
printed_words [] = refused_line
printed_words (first ∷ steps) = if first_refused first || ltb 4096 (length steps) then refused_line else run_lines first steps

-- what is printed of a file's bytes: a file not of whole words is refused
unfoldable pub printed : List ℕ → List ℕ
printed file = if eqb (length file % 8) 0 then printed_words (words_from 0 0 file) else refused_line
