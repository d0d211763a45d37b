-- A step that fits is packed as it is; the step that a word says, by its op.
use Rattle.std.specs.Prelude.{if◌then◌else◌, Option, Some, None, unwrap_or}
use mathlib.Core.Path.{◌≡◌, refl, sym, ap, ◌∙◌}
use mathlib.Core.Logic.{◌⊎◌, inl, inr, ⊎_elim}
use Prim.Native.Nat.{ℕ, zero, suc, ◌<◌}
use borrow.Author.Tests.{ne_eqb}
use native.Mathlib.Nat.{mod-eq_of_lt}
use native.Mathlib.Omega.{arith}
use lib.Dec.{eqb}
use lib.ListN.{get_or}
use Rattle.words.specs.declared.Step.{Step}
use Rattle.words.specs.declared.Step.TheVariants.{Refused, MakeRegion, KillRegion, MakeVar, Integer, Structure, Unify, Deref, Destruct, PushChoice, Cut, Backtrack}
use Rattle.words.specs.Fields.{bits}
use Rattle.words.specs.Integers.{int_of}
use Rattle.words.specs.Steps.{step_word, reading, fits, decode}
use Rattle.words.specs.Fit.{StepFits}
use Rattle.words.specs.Clip.{clipped_step}
use Rattle.words.specs.Exact.{exact, exact_step, in_range, accepted}
use Rattle.laws.proofs.Conditions.{if_both, if_same, if_map}
use Rattle.words.proofs.StepWords.{readings, reading_in}

-- ---- a step that fits is packed as it is

pub clip_fits : (s : Step) → StepFits s → clipped_step s ≡ s
unfolding StepFits clipped_step
clip_fits Refused h = refl
clip_fits (MakeRegion d) h = rw (mod-eq_of_lt h)
clip_fits (KillRegion a) h = rw (mod-eq_of_lt h)
clip_fits (MakeVar d a) h = rw (mod-eq_of_lt h.0, mod-eq_of_lt h.1)
clip_fits (Integer d a v) h = rw (mod-eq_of_lt h.0, mod-eq_of_lt h.1)
clip_fits (Structure d a b f n) h = rw (mod-eq_of_lt h.0, mod-eq_of_lt h.1, mod-eq_of_lt h.2, mod-eq_of_lt h.4)
clip_fits (Unify a b budget) h = rw (mod-eq_of_lt h.0, mod-eq_of_lt h.1, mod-eq_of_lt h.2)
clip_fits (Deref d a) h = rw (mod-eq_of_lt h.0, mod-eq_of_lt h.1)
clip_fits (Destruct d a f n) h = rw (mod-eq_of_lt h.0, mod-eq_of_lt h.1, mod-eq_of_lt h.3)
clip_fits PushChoice h = refl
clip_fits Cut h = refl
clip_fits Backtrack h = refl

-- ---- decoding

clip_reading : (w : ℕ) → clipped_step (reading w) ≡ reading w
unfolding clipped_step
clip_reading w = ⊎_elim (λ e. rw e) (clip_fits (reading w)) (reading_in w)

-- what is read is decoded, if it is legal and the whole word
decode_is : (w : ℕ) (s : Step) → reading w ≡ s → (if fits s then exact_step w s else Refused) ≡ decode w
unfolding exact_step decode
decode_is w s e =
    let c : clipped_step s ≡ s = ap clipped_step (sym e) ∙ clip_reading w ∙ e in
    rw (e, c) (if_both s Refused (eqb (step_word s) w) (fits s))

-- what packs to the word is the step, and else it is refused
pub told_whole : (w v : ℕ) (s : Step) (h : Option Step) → v ≡ step_word (clipped_step s) → h ≡ exact v w s → unwrap_or h Refused ≡ exact_step w s
unfolding exact_step
told_whole w v s h e q = grind arith

-- ---- None stands for the refused step alone

pub accepted_back : (s : Step) → unwrap_or (accepted s) Refused ≡ s
accepted_back Refused = refl
accepted_back s = refl

-- what packs to the word is accepted
pub accepted_whole : (w v : ℕ) (s : Step) (h : Option Step) → v ≡ step_word (clipped_step s) → h ≡ exact v w s → accepted s ≡ Some s → h ≡ accepted (exact_step w s)
unfolding exact_step
accepted_whole w v s h e q k = q ∙ rw (e, ← k) (sym (if_map accepted (eqb (step_word (clipped_step s)) w) s Refused))

-- the step that a word says, by its op t
abbrev pub decoded_by : ℕ → ℕ → Step
decoded_by t w =
    let d : ℕ = bits 55 5 w in
    let a : ℕ = bits 50 5 w in
    let b : ℕ = bits 45 5 w in
    let f : ℕ = bits 29 16 w in
    let n : ℕ = bits 25 4 w in
    if eqb t 1 then exact_step w (MakeRegion d)
    else if eqb t 2 then exact_step w (KillRegion a)
    else if eqb t 3 then exact_step w (MakeVar d a)
    else if eqb t 4 then exact_step w (Integer d a (int_of (bits 13 32 w)))
    else if eqb t 5 then if in_range b n then exact_step w (Structure d a b f n) else Refused
    else if eqb t 6 then exact_step w (Unify a b (bits 33 12 w))
    else if eqb t 7 then exact_step w (Deref d a)
    else if eqb t 8 then if in_range d n then exact_step w (Destruct d a f n) else Refused
    else if eqb t 9 then exact_step w PushChoice
    else if eqb t 10 then exact_step w Cut
    else if eqb t 11 then exact_step w Backtrack
    else Refused

pub by_op : (w : ℕ) → decode w ≡ decoded_by (bits 60 4 w) w
unfolding reading fits exact_step
by_op w = go (bits 60 4 w) refl
  where
    said : (t : ℕ) → bits 60 4 w ≡ t → decode w ≡ (if fits (get_or (readings w) t Refused) then exact_step w (get_or (readings w) t Refused) else Refused)
    said t e = sym (decode_is w (get_or (readings w) t Refused) (rw e))

    go : (t : ℕ) → bits 60 4 w ≡ t → decode w ≡ decoded_by t w
    go zero e = said 0 e ∙ sym (if_same Refused (eqb (step_word (clipped_step Refused)) w))
    go (suc zero) e = said 1 e
    go (suc (suc zero)) e = said 2 e
    go (suc (suc (suc zero))) e = said 3 e
    go (suc (suc (suc (suc zero)))) e = said 4 e
    go (suc (suc (suc (suc (suc zero))))) e = said 5 e
    go (suc (suc (suc (suc (suc (suc zero)))))) e = said 6 e
    go (suc (suc (suc (suc (suc (suc (suc zero))))))) e = said 7 e
    go (suc (suc (suc (suc (suc (suc (suc (suc zero)))))))) e = said 8 e
    go (suc (suc (suc (suc (suc (suc (suc (suc (suc zero))))))))) e = said 9 e
    go (suc (suc (suc (suc (suc (suc (suc (suc (suc (suc zero)))))))))) e = said 10 e
    go (suc (suc (suc (suc (suc (suc (suc (suc (suc (suc (suc zero))))))))))) e = said 11 e
    go (suc (suc (suc (suc (suc (suc (suc (suc (suc (suc (suc (suc n)))))))))))) e =
        let t : ℕ = suc (suc (suc (suc (suc (suc (suc (suc (suc (suc (suc (suc n))))))))))) in
        said t e ∙ sym (if_same Refused (eqb (step_word (clipped_step Refused)) w))
        ∙ rw (ne_eqb t 1 (omega arith), ne_eqb t 2 (omega arith), ne_eqb t 3 (omega arith), ne_eqb t 4 (omega arith), ne_eqb t 5 (omega arith), ne_eqb t 6 (omega arith), ne_eqb t 7 (omega arith), ne_eqb t 8 (omega arith), ne_eqb t 9 (omega arith), ne_eqb t 10 (omega arith), ne_eqb t 11 (omega arith))

-- op 0 and ops 12 to 15 are no steps
pub no_op : (w t : ℕ) → t ≡ bits 60 4 w → (t ≡ 0) ⊎ (11 < t) → Refused ≡ decode w
no_op w t e o = sym (by_op w ∙ rw (← e) (go o))
  where
    go : (t ≡ 0) ⊎ (11 < t) → decoded_by t w ≡ Refused
    go (inl z) = rw z
    go (inr l) = rw (ne_eqb t 1 (omega arith), ne_eqb t 2 (omega arith), ne_eqb t 3 (omega arith), ne_eqb t 4 (omega arith), ne_eqb t 5 (omega arith), ne_eqb t 6 (omega arith), ne_eqb t 7 (omega arith), ne_eqb t 8 (omega arith), ne_eqb t 9 (omega arith), ne_eqb t 10 (omega arith), ne_eqb t 11 (omega arith))

pub none_accepted : (w t : ℕ) → t ≡ bits 60 4 w → (t ≡ 0) ⊎ (11 < t) → None ≡ accepted (decode w)
none_accepted w t e o = ap accepted (no_op w t e o)
