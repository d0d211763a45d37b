-- The words of a step file, by their place in it: bytes past the end are 0.
use Rattle.std.specs.Prelude.{List, ℕ, suc, ◌+◌, ◌*◌, ◌^◌, get_or, set}
use Rattle.laws.specs.Search.{tab}
use Rattle.laws.specs.Loops.{run}

-- four bytes from a place on, most significant first
unfoldable pub four_at : List ℕ → ℕ → ℕ
four_at file a = ((get_or file a 0 * 2 ^ 8 + get_or file (a + 1) 0) * 2 ^ 8 + get_or file (a + 2) 0) * 2 ^ 8 + get_or file (a + 3) 0

-- word i of the file
unfoldable pub word_at : List ℕ → ℕ → ℕ
word_at file i = four_at file (i * 8) * 2 ^ 32 + four_at file (i * 8 + 4)

-- the first `count` words of the file, stored from the start of a list on; what lies past its end is dropped
unfoldable pub words_read : List ℕ → ℕ → List ℕ → List ℕ
words_read file count words = run (λ i l. set l i (word_at file i)) count words

-- k steps: the words behind the first
abbrev pub steps_of : List ℕ → ℕ → List ℕ
steps_of file k = tab k (λ i. word_at file (suc i))
