-- All addresses through the copies: a stack of heaps, the one heap and the two marks a word that it gives, and what is read off them.
use Rattle.std.specs.Prelude.{◌≡◌, true, ℕ, ◌%◌, ◌≤◌, ◌<◌, eqb, if◌then◌else◌}
use Rattle.layers.specs.Words.{filled, turned, link_address, next_address}
use Rattle.layers.specs.Marks.{Mark, mark, view}
use Rattle.layers.specs.Shows.{History, holder, mark_of, Unbroken, Grows}

-- F a c is the word at address a in copy c
abbrev pub Stack : Type 0
Stack = ℕ → History

-- the newest copy that holds the page of an address, and the mark of the address
abbrev pub holder_in : ℕ → Stack → ℕ → ℕ
holder_in n F a = holder n (F (link_address a))

abbrev pub mark_in : ℕ → Stack → ℕ → Mark
mark_in n F a = mark_of (holder_in n F a) n (F a)

-- from copy to copy words stay or turn, and links name pages that the same copies hold
pub record Sound (k size n : ℕ) (F : Stack) : Type 0 where
  pub present : 0 < n
  pub unbroken : (a : ℕ) → a < size → Unbroken n (F (link_address a))
  pub grows : (a : ℕ) → a < size → Grows n (F (link_address a)) (F a)
  -- where a link names a next page, the copies in which it names one are those that hold that page
  pub chained : (a : ℕ) → a < size → a % 16 ≡ 0 → turned (mark_in n F a).word ≡ true →
      (next_address k (mark_in n F a).word < size)
      × ((c : ℕ) → 0 < c → c ≤ n → turned (F a c) ≡ filled (F (next_address k (mark_in n F a).word) c))

-- ---- what is lent: for each address a word and two marks

pub record Layers : Type 0 where
  pub heap : ℕ → ℕ
  pub born : ℕ → ℕ
  pub turns : ℕ → ℕ

-- what stands in a page's link in the place of a turn: 0 if the present copy n holds the page or none does, else the newest that does
unfoldable pub gone_of : ℕ → ℕ → ℕ
gone_of n l = if eqb l n then 0 else l

-- and back: lo is the link's born mark
unfoldable pub holder_by : ℕ → ℕ → ℕ → ℕ
holder_by n lo gone = if eqb gone 0 then (if eqb lo 0 then 0 else n) else gone

-- a link's turn is not lent: it is the born mark of the page that it names
unfoldable pub layers : ℕ → Stack → Layers
layers n F = record {
  heap = λ a. (mark_in n F a).word;
  born = λ a. (mark_in n F a).born;
  turns = λ a. if eqb (a % 16) 0 then gone_of n (holder_in n F a) else (mark_in n F a).turn;
}

-- what the layers say of an address, in n copies
module _ (k n : ℕ) (s : Layers) where
  abbrev pub holder_at : ℕ → ℕ
  holder_at a = holder_by n (s.born (link_address a)) (s.turns (link_address a))

  abbrev pub link_turn : ℕ → ℕ
  link_turn w = if turned w then s.born (next_address k w) else 0

  abbrev pub mark_at : ℕ → Mark
  mark_at a = mark (s.heap a) (s.born a) (if eqb (a % 16) 0 then link_turn (s.heap a) else s.turns a)

  -- the word at address a in copy c
  unfoldable pub view_at : ℕ → ℕ → ℕ
  view_at a c = view (holder_at a) (mark_at a) c

-- two layers that say the same of each address below the size
pub record Same (size : ℕ) (s t : Layers) : Type 0 where
  pub heap : (a : ℕ) → a < size → s.heap a ≡ t.heap a
  pub born : (a : ℕ) → a < size → s.born a ≡ t.born a
  pub turns : (a : ℕ) → a < size → s.turns a ≡ t.turns a
