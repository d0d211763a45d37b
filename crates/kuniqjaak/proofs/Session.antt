-- The loop of a run: what is left of it when i of the steps are answered, and the answer words when all are.
use Rattle.std.proofs.Common.{◌≡◌, refl, ◌∙◌, ap, ℕ, suc, ◌+◌, ◌<◌, ◌≤◌, List, [], ◌∷◌, ◌++◌, length, get_or, set, drop, arith, add-one, drop-cons}
use lib.ListN.{drop_of_length-le}
use lib.Seq.{sets, sets-eq}
use Rattle.kuniqjaak.specs.declared.Limits.{Limits}
use Rattle.kuniqjaak.specs.Runs.{Session, answered, after, answers, final}

module _ (l : Limits) where
  -- the answer words, written from number i on
  unfoldable pub told : List ℕ → ℕ → Session → List ℕ → List ℕ
  told [] i s a = a
  told (w ∷ ws) i s a = told ws (suc i) (after l w s) (set a i (answered l w s))

  module _ (ws : List ℕ) (i : ℕ) (s : Session) where
    pub final_turn : i < length ws → final l (drop i ws) s ≡ final l (drop (i + 1) ws) (after l (get_or ws i 0) s)
    unfolding final
    final_turn h = rw (drop-cons ws i 0 h, add-one i) refl

    pub final_ends : length ws ≤ i → final l (drop i ws) s ≡ s
    unfolding final
    final_ends h = rw (drop_of_length-le ws h) refl

    pub told_turn : (a : List ℕ) → i < length ws → told (drop i ws) i s a ≡ told (drop (i + 1) ws) (i + 1) (after l (get_or ws i 0) s) (set a i (answered l (get_or ws i 0) s))
    unfolding told
    told_turn a h = rw (drop-cons ws i 0 h, add-one i) refl

    pub told_ends : (a : List ℕ) → length ws ≤ i → told (drop i ws) i s a ≡ a
    unfolding told
    told_ends a h = rw (drop_of_length-le ws h) refl

  answers_length : (ws : List ℕ) (s : Session) → length (answers l ws s) ≡ length ws
  unfolding answers
  answers_length [] s = refl
  answers_length (w ∷ ws) s = ap suc (answers_length ws (after l w s))

  stored : (ws : List ℕ) (i : ℕ) (s : Session) (a : List ℕ) → told ws i s a ≡ sets a i (answers l ws s)
  unfolding told answers
  stored [] i s a = refl
  stored (w ∷ ws) i s a = stored ws (suc i) (after l w s) (set a i (answered l w s))

  -- written over what was there, which stays past the last step
  pub told_all : (ws : List ℕ) (s : Session) (a : List ℕ) → length ws ≤ length a → told ws 0 s a ≡ answers l ws s ++ drop (length ws) a
  told_all ws s a h =
      let same : length (answers l ws s) ≡ length ws = answers_length ws s in
      stored ws 0 s a ∙ sets-eq (answers l ws s) a 0 (omega (arith, same, h)) ∙ ap (λ k. answers l ws s ++ drop k a) (omega (arith, same))
