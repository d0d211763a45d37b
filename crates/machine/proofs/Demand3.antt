-- Demand 3 over the copy machine, proved.
use mathlib.Core.Path.{◌≡◌, refl, sym, ap, ◌∙◌, subst}
use mathlib.Core.Bool.{Bool, true, false, not}
use mathlib.Core.List.Memᴰ
use mathlib.Core.List.{List, [], ◌∷◌, ◌++◌, Nodup, Nodup-nil, Nodup-cons, Memᴰ}
use mathlib.Core.Logic.{◌⊎◌, inl, inr, ∥∥₁_elim}
use mathlib.Core.HLevel.{⊥_prop}
use Rattle.std.specs.Prelude.{Option, Some, None}
use Rattle.laws.proofs.Options.{none_ne_some, some_injective}
use Prim.Native.Nat.{ℕ, zero, suc, ◌+◌, ◌*◌, ◌≤◌, ◌<◌}
use native.Mathlib.Omega.{arith}
use native.Mathlib.Nat.{add-zero, add_assoc}
use lib.ListN.{length, take, drop, replicate, replicate-append-replicate}
use Rattle.laws.specs.Base.{keep, from}
use Rattle.words.specs.declared.Answer.{Answer}
use Rattle.words.specs.Steps.{decode}
use Rattle.machine.specs.Copies.{Limits, Region, Copy, Machine, copies, opening, held, free, shown}
use Rattle.machine.specs.Run.{Outcome, exec, answer, after, final}
use Rattle.machine.specs.Image.{page_image, pages_image, heap_image}
use Rattle.machine.specs.Strike.{Line, lines, Event, made, pushed, dropped, used, other, event_of, event, Stretch, fate, regions_in, longer, onward, stretch, stretch_at, struck, Item, strike_from, strike, move_on, replayed, replay_answers, kept_answers, stamps_of, stamps, used_by, backtracks_left}
use Rattle.machine.proofs.Moves.{machine_of, Moves, moves}
use Rattle.machine.specs.Demand3.{Struck, NothingLeft, Demand3}

-- ---- a stretch brings back the copy that its push saved

abbrev Ends : List ℕ → Type 0
Ends ws =
    (m : Machine) (above : List Copy) (c : Copy) (base : List Copy) (t : Stretch) →
    m.saved ≡ above ++ (c ∷ base) →
    stretch (length above) (lines m ws) ≡ Some t →
    final m (take t.lines ws) ≡ machine_of m.limits c base (m.next + t.regions)

longer_some : (n : ℕ) (o : Option Stretch) (t : Stretch) → longer n o ≡ Some t → (u : Stretch) × (o ≡ Some u) × (record { lines = suc u.lines; regions = n + u.regions } ≡ t)
longer_some n None t e = absurd (none_ne_some t e)
longer_some n (Some u) t e = (u, refl, cc)

further : (ws : List ℕ) → Ends ws → (m : Machine) (w n : ℕ) (above : List Copy) (c : Copy) (base : List Copy) (t : Stretch) →
    (after m w).limits ≡ m.limits → (after m w).saved ≡ above ++ (c ∷ base) → (after m w).next ≡ m.next + n →
    longer n (stretch (length above) (lines (after m w) ws)) ≡ Some t →
    final m (take t.lines (w ∷ ws)) ≡ machine_of m.limits c base (m.next + t.regions)
unfolding final
further ws ih m w n above c base t hz hs hn e =
    let r : (u : Stretch) × (stretch (length above) (lines (after m w) ws) ≡ Some u) × (record { lines = suc u.lines; regions = n + u.regions } ≡ t)
    = longer_some n (stretch (length above) (lines (after m w) ws)) t e in
    subst (λ (t : Stretch). final m (take t.lines (w ∷ ws)) ≡ machine_of m.limits c base (m.next + t.regions)) r.2
    (ih (after m w) above c base r.0 hs r.1 ∙ cc (add_assoc m.next n r.0.regions))

stretch_step : (ws : List ℕ) → Ends ws → (m : Machine) (w : ℕ) (above : List Copy) (c : Copy) (base : List Copy) (t : Stretch) (e : Event) →
    Moves e m (exec m (decode w)) →
    m.saved ≡ above ++ (c ∷ base) →
    onward (fate e (length above)) (regions_in e) (λ d. stretch d (lines (after m w) ws)) ≡ Some t →
    final m (take t.lines (w ∷ ws)) ≡ machine_of m.limits c base (m.next + t.regions)
unfolding onward fate final
stretch_step ws ih m w above c base t made h hs e = further ws ih m w 1 above c base t h.0 (h.1 ∙ hs) (omega arith) e
stretch_step ws ih m w above c base t pushed h hs e = further ws ih m w 0 (m.present ∷ above) c base t (cc) (cc) (cc (add-zero m.next)) e
stretch_step ws ih m w [] c base t dropped h hs e = absurd (none_ne_some t e)
stretch_step ws ih m w (x ∷ xs) c base t dropped h hs e = further ws ih m w 0 xs c base t (cc) (cc) (cc (add-zero m.next)) e
stretch_step ws ih m w [] c base t used h hs e =
    subst (λ (t : Stretch). final m (take t.lines (w ∷ ws)) ≡ machine_of m.limits c base (m.next + t.regions)) (some_injective _ t e)
    (h.3 ∙ cc (add-zero m.next))
stretch_step ws ih m w (x ∷ xs) c base t used h hs e = further ws ih m w 0 xs c base t (cc) (cc) (cc (add-zero m.next)) e
stretch_step ws ih m w above c base t other h hs e = further ws ih m w 0 above c base t h.0 (h.1 ∙ hs) (omega arith) e

-- from a push with `above` younger choice points over its copy c: the lines up to the backtrack that uses c bring c back
stretch_ends : (ws : List ℕ) → Ends ws
unfolding stretch lines
stretch_ends [] m above c base t hs e = absurd (none_ne_some t e)
stretch_ends (w ∷ ws) m above c base t hs e =
    stretch_step ws (stretch_ends ws) m w above c base t (event_of (decode w) (answer m w).status) (moves m (decode w)) hs e

-- ---- the theorem

-- after an accepted push, and the lines to the backtrack that used it, only the counter has moved
whole_stretch : (m : Machine) (w : ℕ) (ws : List ℕ) (e : Event) (t : Stretch) → Moves e m (exec m (decode w)) → stretch_at e (lines (after m w) ws) ≡ Some t →
    move_on t.regions m ≡ final (after m w) (take t.lines ws)
unfolding stretch_at
whole_stretch m w ws made t h e = absurd (none_ne_some t e)
whole_stretch m w ws pushed t h e = sym (stretch_ends ws (after m w) [] m.present m.saved t (cc) e ∙ cc)
whole_stretch m w ws dropped t h e = absurd (none_ne_some t e)
whole_stretch m w ws used t h e = absurd (none_ne_some t e)
whole_stretch m w ws other t h e = absurd (none_ne_some t e)

-- both ways of running agree: in their machines, and in the answers of the lines that stay
abbrev Same : Machine → List Item → Machine → Type 0
Same r is end = (replayed r is ≡ end) × (replay_answers r is ≡ kept_answers is)

agree_step : (ws : List ℕ) (w : ℕ) (m : Machine) (o : Option Stretch) →
    stretch_at (event_of (decode w) (answer m w).status) (lines (after m w) ws) ≡ o →
    ((skip : ℕ) (r : Machine) → r ≡ final (after m w) (take skip ws) → Same r (strike_from skip (lines (after m w) ws)) (final (after m w) ws)) →
    Same m (struck (record { word = w; answer = answer m w }) o (λ n. strike_from n (lines (after m w) ws))) (final (after m w) ws)
unfolding struck replayed replay_answers kept_answers final
agree_step ws w m None e ih = ((ih 0 (after m w) refl).0, ap (λ (x : List Answer). answer m w ∷ x) (ih 0 (after m w) refl).1)
agree_step ws w m (Some t) e ih =
    ih t.lines (move_on t.regions m) (whole_stretch m w ws (event_of (decode w) (answer m w).status) t (moves m (decode w)) e)

agree : (ws : List ℕ) (skip : ℕ) (m r : Machine) → r ≡ final m (take skip ws) → Same r (strike_from skip (lines m ws)) (final m ws)
unfolding strike_from lines final replayed replay_answers kept_answers
agree [] zero m r e = (e, refl)
agree [] (suc skip) m r e = (e, refl)
agree (w ∷ ws) (suc skip) m r e = agree ws skip (after m w) r e
agree (w ∷ ws) zero m r e =
    subst (λ (r : Machine). Same r (strike_from zero (lines m (w ∷ ws))) (final m (w ∷ ws))) (sym e)
    (agree_step ws w m (stretch_at (event_of (decode w) (answer m w).status) (lines (after m w) ws)) refl (λ skip r h. agree ws skip (after m w) r h))

-- ---- no stamp is given twice

-- each is at least n, and greater than those before it
abbrev Rising : ℕ → List ℕ → Type 0
Rising n [] = Unit {0}
Rising n (s ∷ ss) = (n ≤ s) × Rising (suc s) ss

rising_step : (e : Event) (m : Machine) (o : Outcome) (ss : List ℕ) → Moves e m o → Rising o.machine.next ss → Rising m.next (stamps_of e o.answer ss)
unfolding stamps_of
rising_step made m o ss h r = (omega arith, subst (λ n. Rising n ss) (h.2 ∙ ap suc (sym h.3)) r)
rising_step pushed m o ss h r = subst (λ n. Rising n ss) (cc) r
rising_step dropped m o ss h r = subst (λ n. Rising n ss) (cc) r
rising_step used m o ss h r = subst (λ n. Rising n ss) (cc) r
rising_step other m o ss h r = subst (λ n. Rising n ss) h.2 r

stamps_rise : (ws : List ℕ) (m : Machine) → Rising m.next (stamps (lines m ws))
unfolding stamps lines
stamps_rise [] m = tt
stamps_rise (w ∷ ws) m =
    rising_step (event_of (decode w) (answer m w).status) m (exec m (decode w)) (stamps (lines (after m w) ws)) (moves m (decode w)) (stamps_rise ws (after m w))

rising_le : (ss : List ℕ) (n x : ℕ) → Rising n ss → Memᴰ x ss → n ≤ x
rising_le [] n x r h = absurd (Memᴰ.not-nil h)
rising_le (s ∷ ss) n x r h = by (Memᴰ.cases_cons h) (λ k. rising_le ss (suc s) x r.1 k)
  where
    by : (x ≡ s) ⊎ Memᴰ x ss → (Memᴰ x ss → suc s ≤ x) → n ≤ x
    by (inl e) k = omega arith
    by (inr q) k = omega (arith, k q)

rising_nodup : (ss : List ℕ) (n : ℕ) → Rising n ss → Nodup ss
rising_nodup [] n r = Nodup-nil
rising_nodup (s ∷ ss) n r =
    Nodup-cons.1 ((λ h. ∥∥₁_elim h ⊥_prop (λ k. let b : suc s ≤ s = rising_le ss (suc s) s r.1 k in omega arith)), rising_nodup ss (suc s) r.1)

-- ---- where nothing is live and no choice point stands

keep_all : {A : Type 0} (f : A → Bool) (l : List A) → ((x : A) → f x ≡ true) → keep f l ≡ l
keep_all f [] h = refl
keep_all f (x ∷ xs) h = rw h (ap (λ r. x ∷ r) (keep_all f xs h))

module _ (m : Machine) (no_region : m.present.regions ≡ []) (no_choice : m.saved ≡ []) where
  none_held : (p : ℕ) → held m p ≡ false
  unfolding held
  none_held p = rw (no_region, no_choice)

  none_shown : shown (copies m) ≡ []
  unfolding shown
  none_shown = rw (no_region, no_choice)

  all_free : free m ≡ from m.limits.pages m.limits.first
  unfolding free
  all_free = keep_all (λ p. not (held m p)) (from m.limits.pages m.limits.first) (λ p. rw none_held)

zero_pages : (w k n : ℕ) → pages_image w [] (from k n) ≡ replicate (k * 16) 0
unfolding pages_image page_image
zero_pages w zero n = refl
zero_pages w (suc k) n =
    let e : 16 + k * 16 ≡ suc k * 16 = omega arith in
    ap (λ (r : List ℕ). replicate 16 0 ++ r) (zero_pages w k (suc n)) ∙ replicate-append-replicate 16 (k * 16) 0 ∙ ap (λ (j : ℕ). replicate j 0) e

-- ---- after an opening every accepted backtrack is struck

longer_none : (n : ℕ) (o : Option Stretch) → longer n o ≡ None → o ≡ None
longer_none n None e = refl
longer_none n (Some t) e = absurd (none_ne_some _ (sym e))

-- i choice points below one that has `deep` above it
abbrev below : ℕ → ℕ → ℕ
below zero i = suc i
below (suc deep) i = suc (below deep i)

-- a choice point that no backtrack uses is not used after a stretch above it either
abbrev Unused : List Line → Type 0
Unused ls = (deep i : ℕ) (t : Stretch) → stretch deep ls ≡ Some t → stretch (below deep i) ls ≡ None → stretch i (drop t.lines ls) ≡ None

unused_on : (l : Line) (ls : List Line) → Unused ls → (n deep i : ℕ) (t : Stretch) → longer n (stretch deep ls) ≡ Some t → longer n (stretch (below deep i) ls) ≡ None →
    stretch i (drop t.lines (l ∷ ls)) ≡ None
unused_on l ls ih n deep i t e z =
    let r : (u : Stretch) × (stretch deep ls ≡ Some u) × (record { lines = suc u.lines; regions = n + u.regions } ≡ t) = longer_some n (stretch deep ls) t e in
    subst (λ (t : Stretch). stretch i (drop t.lines (l ∷ ls)) ≡ None) r.2 (ih deep i r.0 r.1 (longer_none n (stretch (below deep i) ls) z))

unused_step : (l : Line) (ls : List Line) → Unused ls → (ev : Event) (deep i : ℕ) (t : Stretch) →
    onward (fate ev deep) (regions_in ev) (λ d. stretch d ls) ≡ Some t →
    onward (fate ev (below deep i)) (regions_in ev) (λ d. stretch d ls) ≡ None →
    stretch i (drop t.lines (l ∷ ls)) ≡ None
unfolding onward fate
unused_step l ls ih made deep i t e z = unused_on l ls ih 1 deep i t e z
unused_step l ls ih pushed deep i t e z = unused_on l ls ih 0 (suc deep) i t e z
unused_step l ls ih dropped zero i t e z = absurd (none_ne_some t e)
unused_step l ls ih dropped (suc deep) i t e z = unused_on l ls ih 0 deep i t e z
unused_step l ls ih used zero i t e z =
    subst (λ (t : Stretch). stretch i (drop t.lines (l ∷ ls)) ≡ None) (some_injective _ t e) (longer_none 0 (stretch i ls) z)
unused_step l ls ih used (suc deep) i t e z = unused_on l ls ih 0 deep i t e z
unused_step l ls ih other deep i t e z = unused_on l ls ih 0 deep i t e z

unused : (ls : List Line) → Unused ls
unfolding stretch
unused [] deep i t e z = absurd (none_ne_some t e)
unused (l ∷ ls) deep i t e z = unused_step l ls (unused ls) (event l) deep i t e z

-- no backtrack of the lines uses one of the n choice points
abbrev Spent : ℕ → List Line → Type 0
Spent n ls = (i : ℕ) → i < n → stretch i ls ≡ None

-- a line that stays is no accepted backtrack, and what it leaves is again used by none
kept_step : (m : Machine) (o : Outcome) (ls : List Line) (ev : Event) → Moves ev m o → stretch_at ev ls ≡ None →
    ((i : ℕ) → i < length m.saved → onward (fate ev i) (regions_in ev) (λ d. stretch d ls) ≡ None) →
    (Spent (length o.machine.saved) ls) × (used_by ev 0 ≡ 0)
unfolding onward fate stretch_at
kept_step m o ls made h e z = ((λ i k. longer_none 1 (stretch i ls) (z i (rw (← h.1) k))), refl)
kept_step m o ls pushed h e z = (go, refl)
  where
    go : (i : ℕ) → i < length o.machine.saved → stretch i ls ≡ None
    go zero k = e
    go (suc i) k = longer_none 0 (stretch (suc i) ls) (z i (omega (arith, ap (λ (x : Machine). length x.saved) h)))
kept_step m o ls dropped h e z = ((λ i k. longer_none 0 (stretch i ls) (z (suc i) (omega (arith, ap length h.2, ap (λ (x : Machine). length x.saved) h.3)))), refl)
kept_step m o ls used h e z = absurd (none_ne_some _ (sym (z 0 (omega (arith, ap length h.2)))))
kept_step m o ls other h e z = ((λ i k. longer_none 0 (stretch i ls) (z i (rw (← h.1) k))), refl)

used_by_zero : (ev : Event) (n : ℕ) → used_by ev 0 ≡ 0 → n ≡ 0 → used_by ev n ≡ 0
used_by_zero ev n e z = rw z e

skip_spent : (n : ℕ) (ls : List Line) (ev : Event) (t : Stretch) → stretch_at ev ls ≡ Some t →
    ((i : ℕ) → i < n → onward (fate ev i) (regions_in ev) (λ d. stretch d ls) ≡ None) → Spent n (drop t.lines ls)
unfolding onward fate stretch_at
skip_spent n ls made t e z = absurd (none_ne_some t e)
skip_spent n ls pushed t e z = λ i k. unused ls 0 i t e (longer_none 0 (stretch (suc i) ls) (z i k))
skip_spent n ls dropped t e z = absurd (none_ne_some t e)
skip_spent n ls used t e z = absurd (none_ne_some t e)
skip_spent n ls other t e z = absurd (none_ne_some t e)

struck_step : (ws : List ℕ) (w : ℕ) (m : Machine) (o : Option Stretch) →
    stretch_at (event_of (decode w) (answer m w).status) (lines (after m w) ws) ≡ o →
    Spent (length m.saved) (lines m (w ∷ ws)) →
    ((skip : ℕ) → Spent (length (final (after m w) (take skip ws)).saved) (drop skip (lines (after m w) ws)) → backtracks_left (strike_from skip (lines (after m w) ws)) ≡ 0) →
    backtracks_left (struck (record { word = w; answer = answer m w }) o (λ n. strike_from n (lines (after m w) ws))) ≡ 0
unfolding struck backtracks_left stretch lines final
struck_step ws w m None e z ih =
    let k = kept_step m (exec m (decode w)) (lines (after m w) ws) (event_of (decode w) (answer m w).status) (moves m (decode w)) e z in
    used_by_zero (event_of (decode w) (answer m w).status) (backtracks_left (strike_from 0 (lines (after m w) ws))) k.1 (ih 0 k.0)
struck_step ws w m (Some t) e z ih =
    let ev : Event = event_of (decode w) (answer m w).status in
    ih t.lines
    (subst (λ (x : Machine). Spent (length x.saved) (drop t.lines (lines (after m w) ws))) (whole_stretch m w ws ev t (moves m (decode w)) e)
    (skip_spent (length m.saved) (lines (after m w) ws) ev t e z))

all_struck : (ws : List ℕ) (skip : ℕ) (m : Machine) → Spent (length (final m (take skip ws)).saved) (drop skip (lines m ws)) → backtracks_left (strike_from skip (lines m ws)) ≡ 0
unfolding strike_from lines final backtracks_left
all_struck [] skip m z = refl
all_struck (w ∷ ws) (suc skip) m z = all_struck ws skip (after m w) z
all_struck (w ∷ ws) zero m z =
    struck_step ws w m (stretch_at (event_of (decode w) (answer m w).status) (lines (after m w) ws)) refl z (λ skip h. all_struck ws skip (after m w) h)

-- ---- demand 3

pub striking : (m : Machine) (ws : List ℕ) → Struck m ws
unfolding final
striking m ws = let a : Same m (strike (lines m ws)) (final m ws) = agree ws 0 m m refl in record { same_answers = a.1; same_end = a.0 }

-- every accepted backtrack is struck, if no choice point stood at the start
pub no_backtrack_left : (m : Machine) (ws : List ℕ) → m.saved ≡ [] → backtracks_left (strike (lines m ws)) ≡ 0
unfolding final
no_backtrack_left m ws e = all_struck ws 0 m (λ i k. let z : length m.saved ≡ 0 = ap length e in absurd (omega arith))

pub no_stamp_twice : (m : Machine) (ws : List ℕ) → Nodup (stamps (lines m ws))
no_stamp_twice m ws = rising_nodup (stamps (lines m ws)) m.next (stamps_rise ws m)

pub nothing_left : (m : Machine) → NothingLeft m
unfolding heap_image
nothing_left m r s = (
  all_free m r s,
  ap (λ (g : List Region). pages_image m.limits.address g (from m.limits.pages m.limits.first)) (none_shown m r s)
      ∙ zero_pages m.limits.address m.limits.pages m.limits.first,
)

pub demand_3 : (limits : Limits) (stamp : ℕ) (ws : List ℕ) → Demand3 limits stamp ws
demand_3 limits stamp ws =
    record {
      struck = striking (opening limits stamp) ws;
      all_struck = no_backtrack_left (opening limits stamp) ws refl;
      stamps_once = no_stamp_twice (opening limits stamp) ws;
      nothing_left = nothing_left (final (opening limits stamp) ws);
    }
