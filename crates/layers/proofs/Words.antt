-- The laws of words that turn: what was there before has not turned, and a word that stays or turns is not lost.
use Rattle.std.specs.Prelude.{if◌then◌else◌}
use mathlib.Core.Path.{◌≡◌, refl, sym, ap, ◌∙◌}
use mathlib.Core.Bool.{Bool, true, false, not, true≢false}
use mathlib.Core.Logic.{◌≢◌, inl, inr}
use Prim.Native.Nat.{ℕ, ◌-◌, ◌%◌, ◌^◌}
use lib.Dec.{eqb}
use borrow.Author.Tests.{eq-eqb, ne_eqb, eqb-true}
use Rattle.laws.proofs.Tests.{tests}
use Rattle.words.specs.Fields.{bits, tag_of}
use Rattle.layers.specs.Words.{filled, turned, old}
use Rattle.layers.specs.Shows.{Becomes}

pub filled_yes : (w : ℕ) → w ≢ 0 → filled w ≡ true
filled_yes w h = rw (ne_eqb w 0 h)

pub filled_no : (w : ℕ) → w ≡ 0 → filled w ≡ false
filled_no w h = rw (eq-eqb w 0 h)

pub filled_is : (w : ℕ) → filled w ≡ true → w ≢ 0
filled_is w e z = true≢false (sym e ∙ filled_no w z)

pub filled_not : (w : ℕ) → filled w ≡ false → w ≡ 0
filled_not w e = go (eqb w 0) refl e
  where
    go : (t : Bool) → eqb w 0 ≡ t → not t ≡ false → w ≡ 0
    go true p q = eqb-true w 0 p
    go false p q = absurd (true≢false q)

pub zero_not_turned : turned 0 ≡ false
unfolding turned
zero_not_turned = refl

pub turned_filled : (w : ℕ) → turned w ≡ true → w ≢ 0
turned_filled w h e = true≢false (sym h ∙ ap turned e ∙ zero_not_turned)

-- what was there before a word turned has not turned
old_not_turned : (w : ℕ) → turned (old w) ≡ false
unfolding turned old
old_not_turned w = go (eqb (tag_of w) 6) refl
  where
    go : (t : Bool) → eqb (tag_of w) 6 ≡ t → turned (if t then w - w % 2 ^ 28 else 2 ^ 60) ≡ false
    go true e =
        let v : ℕ = w - w % 2 ^ 28 in
        let six : eqb (tag_of v) 6 ≡ true = eq-eqb (tag_of v) 6 (omega tests) in
        let last : eqb (bits 27 1 v) 1 ≡ false = ne_eqb (bits 27 1 v) 1 (omega tests) in
        rw (six, last)
    go false e = refl

-- ---- a word that stays or turns

pub becomes_filled : (x y : ℕ) → x ≢ 0 → Becomes x y → y ≢ 0
becomes_filled x y h (inl e) z = h (sym e ∙ z)
becomes_filled x y h (inr p) z = turned_filled y p.0 z

-- a turned word stays
pub turned_stays : (x y : ℕ) → turned x ≡ true → Becomes x y → y ≡ x
turned_stays x y h (inl e) = e
turned_stays x y h (inr p) = absurd (true≢false (sym h ∙ ap turned p.1 ∙ old_not_turned y))

pub becomes_trans : (x y z : ℕ) → Becomes x y → Becomes y z → Becomes x z
becomes_trans x y z (inl p) (inl q) = inl (q ∙ p)
becomes_trans x y z (inl p) (inr q) = inr (q.0, sym p ∙ q.1)
becomes_trans x y z (inr p) q = let e : z ≡ y = turned_stays y z p.0 q in inr (ap turned e ∙ p.0, p.1 ∙ ap old (sym e))
