-- Reading words of a file: bytes past the end are 0.
use Prim.Native.Nat.{ℕ, ◌+◌, ◌*◌, ◌/◌, ◌<◌, ◌≤◌}
use mathlib.Core.List.{List}
use mathlib.Core.Path.{◌≡◌, refl}
use native.Mathlib.Omega.{arith}
use native.Mathlib.Numerals.{add-one}
use lib.ListN.{length, set, get_or-eq_default}
use Rattle.laws.specs.Loops.{run}
use Rattle.listing.specs.File.{four_at, word_at, words_read}

no_bytes : (file : List ℕ) (a : ℕ) → length file ≤ a → 0 ≡ four_at file a
unfolding four_at
no_bytes file a h =
    let e₁ : length file ≤ a + 1 = omega arith in
    let e₂ : length file ≤ a + 2 = omega arith in
    let e₃ : length file ≤ a + 3 = omega arith in
    rw (get_or-eq_default file 0 h, get_or-eq_default file 0 e₁, get_or-eq_default file 0 e₂, get_or-eq_default file 0 e₃)

pub no_word : (file : List ℕ) (i : ℕ) → length file / 8 < i → 0 ≡ word_at file i
unfolding word_at
no_word file i h = rw (← no_bytes file (i * 8) (omega arith), ← no_bytes file (i * 8 + 4) (omega arith))

-- no word, and one word more
pub words_none : (file words : List ℕ) → words_read file 0 words ≡ words
unfolding words_read run
words_none file words = refl

pub words_one_more : (file : List ℕ) (i : ℕ) (words : List ℕ) → words_read file (i + 1) words ≡ set (words_read file i words) i (word_at file i)
unfolding words_read run
words_one_more file i words = rw (add-one i) refl
