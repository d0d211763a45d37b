-- The two words that document 01 writes out, "One run, whole": step 6, and what it leaves in cell 1.
use mathlib.Core.Path.{◌≡◌, refl}
use Rattle.words.specs.declared.Cell.TheVariants.{Bound}
use Rattle.words.specs.declared.Step.TheVariants.{Unify}
use Rattle.words.specs.Words.{cell_word}
use Rattle.words.specs.Steps.{step_word, reading, fits, decode}

-- 6004600200000000
pub step_6 : step_word (Unify 1 3 1) ≡ 6918760489254125568
unfolding step_word
step_6 = refl

pub step_6_back : decode 6918760489254125568 ≡ Unify 1 3 1
unfolding step_word reading fits decode
step_6_back = refl

-- 2000000080110000
pub cell_1 : cell_word 12 (Bound (record { stamp = 8; address = 17 })) ≡ 2305843011362291712
unfolding cell_word
cell_1 = refl
