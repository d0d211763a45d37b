-- Demand 3 over the copy machine, as statements. They hold of every machine; the last one is the demand, for any steps after an opening.
use Rattle.std.specs.Prelude.{◌≡◌, ℕ, ◌*◌, replicate}
use mathlib.Core.List.{List, [], Nodup}
use Rattle.laws.specs.Base.{from}
use Rattle.machine.specs.Copies.{Limits, Machine, opening, free}
use Rattle.machine.specs.Run.{final}
use Rattle.machine.specs.Image.{heap_image}
use Rattle.machine.specs.Strike.{lines, strike, replayed, replay_answers, kept_answers, stamps, backtracks_left}

-- Strike each widest stretch from an accepted push to the backtrack that used its choice point, move the stamp counter on by the regions
-- accepted in it, and run the rest on the same machine: each remaining step answers as before, and the machines end equal, so that heap
-- and tables do
pub record Struck (m : Machine) (ws : List ℕ) : Type 0 where
  pub same_answers : replay_answers m (strike (lines m ws)) ≡ kept_answers (strike (lines m ws))
  pub same_end : replayed m (strike (lines m ws)) ≡ final m ws

-- No region live and no choice point: every page free, every word zero
abbrev pub NothingLeft : Machine → Type 0
NothingLeft m =
    m.present.regions ≡ [] →
    m.saved ≡ [] →
    (free m ≡ from m.limits.pages m.limits.first) × (heap_image m ≡ replicate (m.limits.pages * 16) 0)

pub record Demand3 (limits : Limits) (stamp : ℕ) (ws : List ℕ) : Type 0 where
  pub struck : Struck (opening limits stamp) ws
  -- striking takes all: no accepted backtrack is left
  pub all_struck : backtracks_left (strike (lines (opening limits stamp) ws)) ≡ 0
  -- no stamp is ever given twice
  pub stamps_once : Nodup (stamps (lines (opening limits stamp) ws))
  pub nothing_left : NothingLeft (final (opening limits stamp) ws)
