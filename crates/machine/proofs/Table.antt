-- The table holds, by computation; and striking on two runs.
use mathlib.Core.Path.{◌≡◌, refl}
use mathlib.Core.Bool.{true}
use mathlib.Core.List.{List, [], ◌∷◌, map}
use Prim.Native.Nat.{ℕ, suc}
use lib.ListN.{take}
use lib.IntN.{negsuc}
use Rattle.words.specs.declared.Step.TheVariants.{MakeRegion, KillRegion, MakeVar, Integer, Unify, Deref, PushChoice, Cut, Backtrack}
use Rattle.words.specs.Steps.{step_word}
use Rattle.machine.specs.Copies.{Machine, document, opening}
use Rattle.machine.specs.Run.{final}
use Rattle.machine.specs.Tables.{born_mark, turned_mark}
use Rattle.machine.specs.Strike.{Item, kept, moved, lines, strike}
use Rattle.machine.specs.Cases.{cases, all_hold}
use Rattle.machine.proofs.Opened.{opened}

-- every row of the table answers and ends as document 01 says
pub the_table : all_hold cases ≡ true
unfolding opened cases
the_table = refl

-- ---- demand 3 on two runs: 0 for a step that stays, 1 + n for a stretch struck with n regions in it

abbrev places : List Item → List ℕ
places [] = []
places (kept l ∷ is) = 0 ∷ places is
places (moved n ∷ is) = suc n ∷ places is

-- the worked run: steps 3 to 10 are struck, and the counter moves on by one
pub worked_run_struck :
    places (strike (lines (opening (document 4) 7) (map step_word (
    MakeRegion 0 ∷ MakeVar 1 0 ∷ PushChoice ∷ MakeRegion 2 ∷ Integer 3 2 (negsuc 0) ∷ Unify 1 3 1 ∷ Deref 4 1 ∷ KillRegion 0 ∷ Deref 4 1 ∷ Backtrack ∷ Deref 4 1
    ∷ Deref 4 3 ∷ MakeRegion 2 ∷ [])))) ≡ 0 ∷ 0 ∷ 2 ∷ 0 ∷ 0 ∷ 0 ∷ []
unfolding opened
worked_run_struck = refl

-- a push inside another, cut before the outer one is used: the widest stretch is struck; a push that was only cut stays
pub widest_struck :
    places (strike (lines (opening (document 4) 7) (map step_word (
    PushChoice ∷ MakeRegion 0 ∷ PushChoice ∷ MakeRegion 1 ∷ Cut ∷ Backtrack ∷ PushChoice ∷ Cut ∷ Backtrack ∷ [])))) ≡ 3 ∷ 0 ∷ 0 ∷ 0 ∷ []
unfolding opened
widest_struck = refl

-- ---- the marks of the worked run: stamp 7 on page 0 with the variable in cell 1, stamp 8 on page 1 with the integer in cell 17

abbrev run : ℕ → Machine
run n =
    final (opening (document 4) 7) (take n (map step_word (
    MakeRegion 0 ∷ MakeVar 1 0 ∷ PushChoice ∷ MakeRegion 2 ∷ Integer 3 2 (negsuc 0) ∷ Unify 1 3 1 ∷ Deref 4 1 ∷ KillRegion 0 ∷ [])))

abbrev marks : (Machine → ℕ → ℕ) → Machine → List ℕ
marks f m = f m 0 ∷ f m 1 ∷ f m 2 ∷ f m 16 ∷ f m 17 ∷ f m 18 ∷ f m 32 ∷ []

-- copy 1 is the saved one, copy 2 the present one, in which the second region was born and the variable was bound
pub born_in_the_run : marks born_mark (run 6) ≡ 1 ∷ 1 ∷ 0 ∷ 2 ∷ 2 ∷ 0 ∷ 0 ∷ []
unfolding opened
born_in_the_run = refl

pub turned_in_the_run : marks turned_mark (run 6) ≡ 0 ∷ 2 ∷ 0 ∷ 0 ∷ 0 ∷ 0 ∷ 0 ∷ []
unfolding opened
turned_in_the_run = refl

-- after the kill only copy 1 has the first region, and its variable is unbound there
pub turned_by_the_kill : marks turned_mark (run 8) ≡ 1 ∷ 0 ∷ 0 ∷ 0 ∷ 0 ∷ 0 ∷ 0 ∷ []
unfolding opened
turned_by_the_kill = refl
