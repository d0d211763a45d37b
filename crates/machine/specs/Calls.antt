-- Document 01, "Answer words", its last paragraphs: what the four calls answer, and what they leave in everything lent.
use Rattle.std.specs.Prelude.{◌≡◌, Bool, ◌&&◌, List, [], ◌++◌, map, ℕ, ◌+◌, ◌*◌, ◌/◌, ◌%◌, ◌<◌, leb, eqb, length, take, drop, ◌⊎◌, if◌then◌else◌}
use Rattle.words.specs.Answers.{answer_word}
use Rattle.machine.specs.declared.State.{State}
use Rattle.machine.specs.Copies.{Machine, document, opening}
use Rattle.machine.specs.Run.{answers, final, state_of}
use Rattle.machine.specs.Tables.{Lent, image}
use Rattle.machine.specs.Sound.{SoundSession}

-- ---- the opening call

-- 1 to 256 whole pages, tables of their fixed length, a stamp of at least 1
unfoldable pub openable : Lent → ℕ → Bool
openable l stamp =
    eqb (length l.heap % 16) 0 && leb 1 (length l.heap / 16) && leb (length l.heap / 16) 256
    && eqb (length l.tables) 1058 && eqb (length l.born) 4096 && eqb (length l.turned) 4096
    && leb 1 stamp

unfoldable pub open_answer : Lent → ℕ → ℕ
open_answer l stamp = if openable l stamp then 0 else 18

-- the opening's image, or, at 18, what was there
unfoldable pub opened : Lent → ℕ → Lent
opened l stamp = if openable l stamp then image (opening (document (length l.heap / 16)) stamp) else l

-- ---- the run call

-- more than 4,096 steps or fewer answer words than steps
abbrev pub TooMany : List ℕ → List ℕ → Type 0
TooMany steps answered = (4096 < length steps) ⊎ (length answered < length steps)

-- l is the image of the sound session m
pub record Session (l : Lent) (m : Machine) : Type 0 where
  pub sound : SoundSession m
  pub is : image m ≡ l

-- what the run call may answer, and what it may leave lent
pub data RunCall (l : Lent) (steps answered : List ℕ) : ℕ → Lent → List ℕ → Type 0 where
  too_many : TooMany steps answered → RunCall l steps answered 17 l answered
  no_session : (TooMany steps answered → ⊥) → ((m : Machine) → Session l m → ⊥) → RunCall l steps answered 16 l answered
  ran : (TooMany steps answered → ⊥) → (m : Machine) → Session l m →
      RunCall l steps answered 0 (image (final m steps)) (map answer_word (answers m steps) ++ drop (length steps) answered)

-- ---- the state call

pub data StateCall (l : Lent) : ℕ → State → Type 0 where
  unsound : ((m : Machine) → Session l m → ⊥) → StateCall l 16 (record { free = 0; choices = 0; next = 0 })
  told : (m : Machine) → Session l m → StateCall l 0 (state_of m)

-- ---- the page call: a page's sixteen words as a part of the lent heap, and the empty part if the heap ends before

unfoldable pub page_part : List ℕ → ℕ → List ℕ
page_part heap page = if leb (page * 16 + 16) (length heap) then take 16 (drop (page * 16) heap) else []
