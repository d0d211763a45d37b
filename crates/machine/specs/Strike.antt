-- Demand 3: striking out what backtracking undid. Each definition computes.
use Rattle.std.specs.Prelude.{List, [], ◌∷◌, ℕ, zero, suc, ◌+◌, Option, Some, None}
use Rattle.words.specs.declared.Step.{Step}
use Rattle.words.specs.declared.Step.TheVariants.{Refused, MakeRegion, KillRegion, MakeVar, Integer, Structure, Unify, Deref, Destruct, PushChoice, Cut, Backtrack}
use Rattle.words.specs.declared.Answer.{Answer}
use Rattle.words.specs.Steps.{decode}
use Rattle.machine.specs.Copies.{Machine}
use Rattle.machine.specs.Run.{answer, after}

-- a step and what it answered
pub record Line : Type 0 where
  pub word : ℕ
  pub answer : Answer

-- a run, line by line
unfoldable pub lines : Machine → List ℕ → List Line
lines m [] = []
lines m (w ∷ ws) = record { word = w; answer = answer m w } ∷ lines (after m w) ws

-- what a line did to the choice points and to the stamp counter, if it was accepted
pub data Event : Type 0 where
  made pushed dropped used other : Event

abbrev pub accepted : ℕ → Event → Event
accepted zero e = e
accepted (suc s) e = other

unfoldable pub event_of : Step → ℕ → Event
event_of Refused s = other
event_of (MakeRegion d) s = accepted s made
event_of (KillRegion a) s = other
event_of (MakeVar d a) s = other
event_of (Integer d a v) s = other
event_of (Structure d a b f n) s = other
event_of (Unify a b k) s = other
event_of (Deref d a) s = other
event_of (Destruct d a f n) s = other
event_of PushChoice s = accepted s pushed
event_of Cut s = accepted s dropped
event_of Backtrack s = accepted s used

abbrev pub event : Line → Event
event l = event_of (decode l.word) l.answer.status

-- ---- a stretch

-- the lines after the push, up to the backtrack that used its choice point, and the regions accepted among them
pub record Stretch : Type 0 where
  pub lines : ℕ
  pub regions : ℕ

-- a push stands with `deep` younger choice points over it; after an event it still does, or it was used by a backtrack, or dropped by a cut
pub data Fate : Type 0 where
  stands : ℕ → Fate
  ended lost : Fate

unfoldable pub fate : Event → ℕ → Fate
fate made deep = stands deep
fate pushed deep = stands (suc deep)
fate dropped zero = lost
fate dropped (suc deep) = stands deep
fate used zero = ended
fate used (suc deep) = stands deep
fate other deep = stands deep

abbrev pub regions_in : Event → ℕ
regions_in made = 1
regions_in pushed = 0
regions_in dropped = 0
regions_in used = 0
regions_in other = 0

abbrev pub longer : ℕ → Option Stretch → Option Stretch
longer n None = None
longer n (Some t) = Some (record { lines = suc t.lines; regions = n + t.regions })

unfoldable pub onward : Fate → ℕ → (ℕ → Option Stretch) → Option Stretch
onward (stands deep) n rest = longer n (rest deep)
onward ended n rest = Some (record { lines = 1; regions = 0 })
onward lost n rest = None

unfoldable pub stretch : ℕ → List Line → Option Stretch
stretch deep [] = None
stretch deep (l ∷ ls) = onward (fate (event l) deep) (regions_in (event l)) (λ d. stretch d ls)

-- the stretch that starts at a line: only an accepted push starts one
unfoldable pub stretch_at : Event → List Line → Option Stretch
stretch_at made ls = None
stretch_at pushed ls = stretch 0 ls
stretch_at dropped ls = None
stretch_at used ls = None
stretch_at other ls = None

-- ---- striking

-- what is left of a run: a line that stays, or, where a stretch stood, the number of regions accepted in it
pub data Item : Type 0 where
  kept : Line → Item
  moved : ℕ → Item

-- a line that stays, or the stretch that it starts
unfoldable pub struck : Line → Option Stretch → (ℕ → List Item) → List Item
struck l None rest = kept l ∷ rest 0
struck l (Some t) rest = moved t.regions ∷ rest t.lines

-- the first `skip` lines belong to a stretch that is being struck. Stretches are nested or apart, so the first that starts is a widest one
unfoldable pub strike_from : ℕ → List Line → List Item
strike_from skip [] = []
strike_from (suc skip) (l ∷ ls) = strike_from skip ls
strike_from zero (l ∷ ls) = struck l (stretch_at (event l) ls) (λ n. strike_from n ls)

abbrev pub strike : List Line → List Item
strike ls = strike_from 0 ls

-- ---- running what is left

abbrev pub move_on : ℕ → Machine → Machine
move_on n m = record { limits = m.limits; present = m.present; saved = m.saved; next = m.next + n }

unfoldable pub replayed : Machine → List Item → Machine
replayed m [] = m
replayed m (kept l ∷ is) = replayed (after m l.word) is
replayed m (moved n ∷ is) = replayed (move_on n m) is

unfoldable pub replay_answers : Machine → List Item → List Answer
replay_answers m [] = []
replay_answers m (kept l ∷ is) = answer m l.word ∷ replay_answers (after m l.word) is
replay_answers m (moved n ∷ is) = replay_answers (move_on n m) is

-- what the lines that stay answered in the whole run
unfoldable pub kept_answers : List Item → List Answer
kept_answers [] = []
kept_answers (kept l ∷ is) = l.answer ∷ kept_answers is
kept_answers (moved n ∷ is) = kept_answers is

-- the accepted backtracks that stay
abbrev pub used_by : Event → ℕ → ℕ
used_by made n = n
used_by pushed n = n
used_by dropped n = n
used_by used n = suc n
used_by other n = n

unfoldable pub backtracks_left : List Item → ℕ
backtracks_left [] = 0
backtracks_left (kept l ∷ is) = used_by (event l) (backtracks_left is)
backtracks_left (moved n ∷ is) = backtracks_left is

-- ---- the stamps that a run gave

unfoldable pub stamps_of : Event → Answer → List ℕ → List ℕ
stamps_of made a ss = a.payload ∷ ss
stamps_of pushed a ss = ss
stamps_of dropped a ss = ss
stamps_of used a ss = ss
stamps_of other a ss = ss

unfoldable pub stamps : List Line → List ℕ
stamps [] = []
stamps (l ∷ ls) = stamps_of (event l) l.answer (stamps ls)
