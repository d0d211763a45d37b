-- One address through the copies: its history, the mark of a history, and when a history is sound.
use Rattle.std.specs.Prelude.{◌≡◌, true, false, ◌≢◌, ◌⊎◌, ℕ, suc, ◌≤◌, ◌<◌, eqb, if◌then◌else◌}
use Rattle.laws.specs.Search.{oldest, newest}
use Rattle.layers.specs.Words.{filled, turned, old}
use Rattle.layers.specs.Marks.{Mark, mark, view}

-- F c is the word in copy c, for c in 1 .. n
abbrev pub History : Type 0
History = ℕ → ℕ

-- the word in copy l; copy 0 is none
abbrev pub word_of : ℕ → History → ℕ
word_of l F = if eqb l 0 then 0 else F l

-- the newest copy that holds a page, by its link's history
unfoldable pub holder : ℕ → History → ℕ
holder n L = newest (λ c. filled (L c)) n

-- the mark of a history; l is the newest copy that holds the page
unfoldable pub mark_of : ℕ → ℕ → History → Mark
mark_of l n F = mark (word_of l F) (oldest (λ c. filled (F c)) n) (oldest (λ c. turned (F c)) n)

-- a mark of a page that copies lo .. l hold; lo and l are 0 if none does
pub data Fit (lo l : ℕ) (m : Mark) : Type 0 where
  empty : m.word ≡ 0 → m.born ≡ 0 → m.turn ≡ 0 → Fit lo l m
  plain : m.word ≢ 0 → turned m.word ≡ false → 0 < lo → lo ≤ m.born → m.born ≤ l → m.turn ≡ 0 → Fit lo l m
  later : m.word ≢ 0 → turned m.word ≡ true → 0 < lo → lo ≤ m.born → m.born ≤ m.turn → m.turn ≤ l → Fit lo l m

-- copies 1 .. n show of an address what its mark says
pub record Shows (lo l n : ℕ) (m : Mark) (F : History) : Type 0 where
  pub fit : Fit lo l m
  pub shown : (c : ℕ) → 0 < c → c ≤ n → F c ≡ view l m c

-- ---- sound histories, said of the copies alone

-- a word stays, or turns
abbrev pub Becomes : ℕ → ℕ → Type 0
Becomes x y = (y ≡ x) ⊎ ((turned y ≡ true) × (x ≡ old y))

-- the copies that hold a page, by its link's history, have no gap
pub record Unbroken (n : ℕ) (L : History) : Type 0 where
  pub between : (a c b : ℕ) → 0 < a → a ≤ c → c ≤ b → b ≤ n → L a ≢ 0 → L b ≢ 0 → L c ≢ 0

-- a word of a page with the link L, from copy to copy
pub record Grows (n : ℕ) (L F : History) : Type 0 where
  pub within : (c : ℕ) → 0 < c → c ≤ n → L c ≡ 0 → F c ≡ 0
  pub onward : (c : ℕ) → 0 < c → c < n → L (suc c) ≢ 0 → F c ≢ 0 → Becomes (F c) (F (suc c))
