-- What loops compute over the n numbers p, p + 1, ..: a search, a test of all, a count, in the library's words; and any number of turns.
use Rattle.std.specs.Prelude.{Bool, ℕ, zero, suc, Option, find, count_by}
use Rattle.std.specs.List.{list_all, range_with_len}

-- the first of them that passes the test
abbrev pub seek : (ℕ → Bool) → ℕ → ℕ → Option ℕ
seek t n p = find t (range_with_len p n)

-- all of them pass the test
abbrev pub all_of : (ℕ → Bool) → ℕ → ℕ → Bool
all_of t n p = list_all t (range_with_len p n)

-- how many of them pass the test
abbrev pub tally : (ℕ → Bool) → ℕ → ℕ → ℕ
tally t n p = count_by t (range_with_len p n)

-- k turns, the first of which has number 0
unfoldable pub run : {A : Type 0} → (ℕ → A → A) → ℕ → A → A
run f zero s = s
run f (suc k) s = f k (run f k s)
