-- Text that is written into a lent buffer, byte after byte. Bytes past the buffer's end are dropped, and the place stays at the end.
use Rattle.std.specs.Prelude.{◌≡◌, List, [], ◌∷◌, ◌++◌, ℕ, ◌+◌, ltb, length, set, if◌then◌else◌}
use Rattle.listing.specs.declared.printing.Lines.{Lines}
use Rattle.machine.specs.Program.{decimal, space, line_feed}

-- the buffer, and where the next byte goes
pub record Written : Type 0 where
  pub bytes : List ℕ
  pub at : ℕ

abbrev pub written : List ℕ → ℕ → Written
written l p = record { bytes = l; at = p }

-- what the code's buffer holds
abbrev pub written_of : Lines → Written
written_of l = written l.bytes.now l.at

-- the same loan: what is written to it the lender sees when the loan ends
abbrev pub SameLoan : Lines → Lines → Type 0
SameLoan l l' = l'.bytes.ghost_name ≡ l.bytes.ghost_name

unfoldable pub write : ℕ → Written → Written
write b w = if ltb w.at (length w.bytes) then written (set w.bytes w.at b) (w.at + 1) else w

-- a text, from its first byte on
unfoldable pub writes : List ℕ → Written → Written
writes [] w = w
writes (b ∷ bs) w = writes bs (write b w)

-- 'pages P stamp S'
unfoldable pub opening_text : ℕ → ℕ → List ℕ
opening_text pages stamp =
    112 ∷ 97 ∷ 103 ∷ 101 ∷ 115 ∷ space ∷ decimal pages
    ++ (space ∷ 115 ∷ 116 ∷ 97 ∷ 109 ∷ 112 ∷ space ∷ decimal stamp)
    ++ (line_feed ∷ [])
