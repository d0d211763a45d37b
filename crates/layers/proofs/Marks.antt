-- The four things that a copy can show of a mark.
use mathlib.Core.Path.{◌≡◌, refl}
use mathlib.Core.Bool.{Bool, true, false, and-false}
use Prim.Native.Nat.{ℕ, ◌≤◌, ◌<◌}
use native.Mathlib.Omega.{arith}
use lib.Dec.{leb}
use borrow.Author.Tests.{le-leb, lt-leb}
use Rattle.laws.proofs.Tests.{tests}
use Rattle.layers.specs.Words.{old}
use Rattle.layers.specs.Marks.{Mark, blank, view}

module _ (l : ℕ) (m : Mark) (c : ℕ) where
  pub view_before : c < m.born → view l m c ≡ 0
  unfolding view
  view_before h = rw (lt-leb m.born c h)

  pub view_after : l < c → view l m c ≡ 0
  unfolding view
  view_after h = rw (lt-leb c l h, and-false (leb m.born c))

  pub view_new : m.born ≤ c → c ≤ l → m.turn ≤ c → view l m c ≡ m.word
  unfolding view
  view_new hb hl he = rw (le-leb m.born c hb, le-leb c l hl, le-leb m.turn c he)

  pub view_old : m.born ≤ c → c ≤ l → c < m.turn → view l m c ≡ old m.word
  unfolding view
  view_old hb hl he = rw (le-leb m.born c hb, le-leb c l hl, lt-leb m.turn c he)

  pub data Seen : Type 0 where
    before : c < m.born → Seen
    after : l < c → Seen
    new : m.born ≤ c → c ≤ l → m.turn ≤ c → Seen
    past : m.born ≤ c → c ≤ l → c < m.turn → Seen

  pub seen : Seen
  seen = go (leb m.born c) (leb c l) (leb m.turn c) refl refl refl
    where
      go : (s t u : Bool) → leb m.born c ≡ s → leb c l ≡ t → leb m.turn c ≡ u → Seen
      go false t u p q r = before (omega tests)
      go true false u p q r = after (omega tests)
      go true true false p q r = past (omega tests) (omega tests) (omega tests)
      go true true true p q r = new (omega tests) (omega tests) (omega tests)

pub view_blank : (l c : ℕ) → view l blank c ≡ 0
view_blank l c = go (seen l blank c)
  where
    go : Seen l blank c → view l blank c ≡ 0
    go (before h) = view_before l blank c h
    go (after h) = view_after l blank c h
    go (new hb hl he) = view_new l blank c hb hl he
    go (past hb hl he) = absurd (omega arith)
