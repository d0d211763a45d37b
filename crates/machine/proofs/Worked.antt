-- The worked example prints its fifteen lines, and files that the program refuses print one: by computation.
use mathlib.Core.Path.{◌≡◌, refl}
use mathlib.Core.List.{[], ◌∷◌}
use lib.ListN.{take}
use Rattle.machine.specs.Program.{words_from, first_refused, digits, step_line, step_lines, opening_line, last_line, run_lines, printed_words, printed, refused_line}
use Rattle.machine.specs.Worked.{worked_file, worked_text}
use Rattle.machine.proofs.Opened.{opened}

-- one name for what a file's bytes compute with
unfoldable printing : Unit {0}
unfolding opened words_from first_refused digits step_line step_lines opening_line last_line run_lines printed_words printed worked_file worked_text
printing = tt

pub worked_example : printed worked_file ≡ worked_text
unfolding printing
worked_example = refl

-- an empty file, a file cut off, a bit among the last 16 of the first word, no page, 257 pages, stamp 0
pub empty_file : printed [] ≡ refused_line
unfolding printing
empty_file = refl

pub cut_off : printed (take 15 worked_file) ≡ refused_line
unfolding printing
cut_off = refl

pub last_bit_set : printed (0 ∷ 4 ∷ 0 ∷ 0 ∷ 0 ∷ 7 ∷ 0 ∷ 1 ∷ []) ≡ refused_line
unfolding printing
last_bit_set = refl

pub no_page : printed (0 ∷ 0 ∷ 0 ∷ 0 ∷ 0 ∷ 7 ∷ 0 ∷ 0 ∷ []) ≡ refused_line
unfolding printing
no_page = refl

pub too_many_pages : printed (1 ∷ 1 ∷ 0 ∷ 0 ∷ 0 ∷ 7 ∷ 0 ∷ 0 ∷ []) ≡ refused_line
unfolding printing
too_many_pages = refl

pub stamp_zero : printed (0 ∷ 4 ∷ 0 ∷ 0 ∷ 0 ∷ 0 ∷ 0 ∷ 0 ∷ []) ≡ refused_line
unfolding printing
stamp_zero = refl
