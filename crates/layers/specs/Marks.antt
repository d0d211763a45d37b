-- One address: its word and two marks, and what each copy shows of it. Copies are numbered 1, 2, .. from the oldest; 0 is 'never'.
use Rattle.std.specs.Prelude.{◌&&◌, ℕ, leb, if◌then◌else◌}
use Rattle.layers.specs.Words.{old}

-- word: as in the newest copy that holds its page; born: the first copy in which it is filled; turn: the first in which it has turned
pub record Mark : Type 0 where
  pub word : ℕ
  pub born : ℕ
  pub turn : ℕ

abbrev pub mark : ℕ → ℕ → ℕ → Mark
mark w b e = record { word = w; born = b; turn = e }

abbrev pub blank : Mark
blank = mark 0 0 0

-- what copy c shows of an address; l is the newest copy that holds its page
unfoldable pub view : ℕ → Mark → ℕ → ℕ
view l m c = if leb m.born c && leb c l then (if leb m.turn c then m.word else old m.word) else 0
