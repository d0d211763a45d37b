-- What is printed of a file, case by case; and its lines, one after another.
use Rattle.std.specs.Prelude.{if◌then◌else◌}
use Prim.Native.Nat.{ℕ, zero, suc, ◌*◌, ◌%◌, ◌<◌, ◌≤◌}
use mathlib.Core.Bool.{Bool, true, false, ◌||◌}
use mathlib.Core.List.{List, ◌++◌}
use mathlib.Core.Path.{◌≡◌, refl, ap, ◌∙◌}
use native.Mathlib.Omega.{arith}
use borrow.Author.Tests.{lt-ltb, le-ltb, eq-eqb, ne_eqb}
use lib.Dec.{ltb}
use lib.ListN.{length}
use Rattle.laws.specs.Search.{tab}
use Rattle.laws.proofs.Search.{length_tab}
use Rattle.machine.specs.Copies.{document, opening}
use Rattle.machine.specs.Run.{answers, final, state_of}
use Rattle.machine.specs.Program.{pages_of, first_stamp, first_refused, opening_line, step_lines, last_line, refused_line, run_lines, printed_words, printed}
use Rattle.listing.specs.File.{word_at, steps_of}
use Rattle.listing.specs.Text.{Written, writes, opening_text}
use Rattle.listing.proofs.Words.{words_are}
use Rattle.listing.proofs.Text.{and_then, opening_is}

pub part_refused : (file : List ℕ) → (length file % 8 ≡ 0 → ⊥) → printed file ≡ refused_line
unfolding printed
part_refused file h = rw (ne_eqb (length file % 8) 0 h)

of_words : (file : List ℕ) (k : ℕ) → length file ≡ k * 8 → printed file ≡ printed_words (tab k (word_at file))
unfolding printed
of_words file k e = rw (eq-eqb (length file % 8) 0 (omega arith), words_are k file e)

pub empty_refused : (file : List ℕ) → length file ≡ 0 → printed file ≡ refused_line
unfolding tab printed_words
empty_refused file e = of_words file zero e

either : (a b : Bool) → b ≡ true → (a || b) ≡ true
either true b e = refl
either false b e = e

neither : (a b : Bool) → a ≡ false → b ≡ false → (a || b) ≡ false
neither a b e f = rw (e, f)

-- a first word and k steps
module _ (file : List ℕ) (k : ℕ) (whole : length file ≡ suc k * 8) where
  abbrev many : Bool
  many = ltb 4096 (length (steps_of file k))

  by_test : (b : Bool) → (first_refused (word_at file 0) || many) ≡ b → printed file ≡ (if b then refused_line else run_lines (word_at file 0) (steps_of file k))
  unfolding tab printed_words
  by_test b e = of_words file (suc k) whole ∙ ap (λ (t : Bool). if t then refused_line else run_lines (word_at file 0) (steps_of file k)) e

  steps_count : length (steps_of file k) ≡ k
  steps_count = length_tab k (λ i. word_at file (suc i))

  pub first_word_refused : first_refused (word_at file 0) ≡ true → printed file ≡ refused_line
  first_word_refused h = by_test true (ap (λ (t : Bool). t || many) h)

  pub long_refused : 4096 < k → printed file ≡ refused_line
  long_refused h = by_test true (either (first_refused (word_at file 0)) many (lt-ltb 4096 (length (steps_of file k)) (omega (arith, steps_count))))

  pub file_run : first_refused (word_at file 0) ≡ false → k ≤ 4096 → printed file ≡ run_lines (word_at file 0) (steps_of file k)
  file_run e h = by_test false (neither (first_refused (word_at file 0)) many e (le-ltb 4096 (length (steps_of file k)) (omega (arith, steps_count))))

-- the opening, a line for each step, the last line
pub run_written : (first : ℕ) (steps : List ℕ) (w w₁ w₂ w₃ : Written) →
    w₁ ≡ writes (opening_text (pages_of first) (first_stamp first)) w →
    w₂ ≡ writes (step_lines 1 (answers (opening (document (pages_of first)) (first_stamp first)) steps)) w₁ →
    w₃ ≡ writes (last_line (state_of (final (opening (document (pages_of first)) (first_stamp first)) steps))) w₂ → w₃ ≡ writes (run_lines first steps) w
unfolding run_lines
run_written first steps w w₁ w₂ w₃ e f g =
    let m = opening (document (pages_of first)) (first_stamp first) in
    and_then (opening_line first ++ step_lines 1 (answers m steps)) (last_line (state_of (final m steps))) w w₂ w₃ g
    (and_then (opening_line first) (step_lines 1 (answers m steps)) w w₁ w₂ f (e ∙ ap (λ (l : List ℕ). writes l w) (opening_is first)))
