use Rattle.std.proofs.Common.{◌≡◌, refl, ◌∙◌, sym, ℕ, suc, ◌+◌, ◌-◌, ◌≤◌, ◌<◌, true, false, List, arith, Some, None}
use Rattle.audit.specs.Links.{next_page, ends_in}
use Rattle.audit.proofs.Session.ends_in.Goals as goal

-- one link less is left after turn i
module _ (h : List ℕ) (k i p : ℕ) where
  left : i < k → k - i ≡ suc (k - (i + 1))
  left l = omega arith

  last : i < k → next_page h p ≡ None → true ≡ ends_in h (k - i) p
  unfolding ends_in
  last l e = rw (left l, e) refl

  on : (q : ℕ) → i < k → next_page h p ≡ Some q → ends_in h (k - (i + 1)) q ≡ ends_in h (k - i) p
  unfolding ends_in
  on q l e = rw (left l, e) refl

  never : k ≤ i → false ≡ ends_in h (k - i) p
  unfolding ends_in
  never l = let z : k - i ≡ 0 = omega arith in rw z refl

pub returns-in_default : goal.returns-in_default
returns-in_default c = last _ _ _ _ c.loop-turn-test.true (sym c.next_page.ensures ∙ c.in_default.is) ∙ c.loop-turn.invariant

pub loop-turn-preserved : goal.loop-turn-preserved
loop-turn-preserved c = on _ _ _ _ _ c.loop-turn-test.true (sym c.next_page.ensures ∙ c.in-Some.is) ∙ c.loop-turn.invariant

pub returns : goal.returns
returns c = never _ _ _ _ c.loop-turn-test.false ∙ c.loop-turn.invariant
