-- A status other than 0 changes no register, heap or table word: the machine stays as it was.
use Rattle.std.specs.Prelude.{if◌then◌else◌, Option, Some, None}
use mathlib.Core.Path.{◌≡◌, refl}
use mathlib.Core.Bool.{Bool, true, false, ◌&&◌}
use mathlib.Core.List.{List, [], ◌∷◌}
use mathlib.Core.Logic.{◌≢◌}
use Prim.Native.Nat.{ℕ, ◌-◌}
use lib.Dec.{eqb, leb}
use lib.ListN.{length}
use borrow.Author.Tests.{eqb-true}
use Rattle.words.specs.declared.Ref.{Ref}
use Rattle.words.specs.declared.Cell.{Cell}
use Rattle.words.specs.declared.Cell.TheVariants.{Unbound, Bound, Int, Head, Argument}
use Rattle.words.specs.declared.Step.{Step}
use Rattle.words.specs.declared.Step.TheVariants.{Refused, MakeRegion, KillRegion, MakeVar, Integer, Structure, Unify, Deref, Destruct, PushChoice, Cut, Backtrack}
use Rattle.words.specs.declared.Answer.{Answer}
use Rattle.words.specs.Answers.{plain}
use Rattle.machine.specs.declared.Found.{Found}
use Rattle.machine.specs.declared.Found.TheVariants.{Dead, At}
use Rattle.machine.specs.Copies.{Region, Copy, Machine, with_copies, Put, free, lowest, slots, put}
use Rattle.machine.specs.Unify.{arguments_at, Solved, solve}
use Rattle.machine.specs.Run.{Reply, Outcome, refuse, done, refused, last_stamp, kill, placed, build, headed, operands, building, unified, unify_terms, seen, found_from, set_terms, apart, within, new_region, cut_to, back_to, region_at, term_at, live_at, exec}

-- a reply leaves the copy as it was, or its status is 0
data Kept (c : Copy) : Reply → Type 0 where
  stays : (a : Answer) → Kept c (record { answer = a; copy = c })
  accepted : (r : Reply) → r.answer.status ≡ 0 → Kept c r

-- an outcome leaves the machine as it was, unless its status is 0
abbrev pub Unchanged : Machine → Outcome → Type 0
Unchanged m o = o.answer.status ≢ 0 → o.machine ≡ m

within_kept : (m : Machine) {r : Reply} → Kept m.present r → Unchanged m (within m r)
within_kept m (stays a) h = refl
within_kept m (accepted r e) h = absurd (h e)

kill_kept : (c : Copy) (g : Option Region) → Kept c (kill c g)
unfolding kill
kill_kept c None = stays (plain 3)
kill_kept c (Some g) = accepted _ refl

placed_kept : (c : Copy) (d s : ℕ) (p : Option Put) → Kept c (placed c d s p)
unfolding placed
placed_kept c d s None = stays (plain 5)
placed_kept c d s (Some p) = accepted _ refl

build_kept : (page : Option ℕ) (c : Copy) (d : ℕ) (g : Option Region) (ws : Option (List Cell)) → Kept c (build page c d g ws)
unfolding build
build_kept page c d None ws = stays (plain 3)
build_kept page c d (Some g) None = stays (plain 4)
build_kept page c d (Some g) (Some ws) = placed_kept c d g.stamp (put page ws g.pages)

-- unless the answer is 0, no binding of this step remains
unified_kept : (c : Copy) (k : ℕ) (r : Solved) → Kept c (unified c k r)
unfolding unified
unified_kept c k r = by (eqb r.status 0) refl
  where
    found : Answer
    found = record { status = r.status; kind = 0; pairs = k - r.left; payload = 0 }

    by : (t : Bool) → eqb r.status 0 ≡ t → Kept c (record { answer = found; copy = if t then r.copy else c })
    by true e = accepted _ (eqb-true r.status 0 e)
    by false e = stays found

unify_kept : (c : Copy) (x y : Option Ref) (k : ℕ) → Kept c (unify_terms c x y k)
unfolding unify_terms
unify_kept c None y k = stays (plain 4)
unify_kept c (Some r) None k = stays (plain 4)
unify_kept c (Some r) (Some s) k = unified_kept c k (solve k c (record { left = r; right = s } ∷ []))

seen_kept : (c : Copy) (d : ℕ) (f : Found) → Kept c (seen c d f)
unfolding seen
seen_kept c d Dead = stays (plain 4)
seen_kept c d (At r w) = accepted _ refl

apart_kept : (c : Copy) (d f n : ℕ) (x : Found) → Kept c (apart c d f n x)
unfolding apart
apart_kept c d f n Dead = stays (plain 4)
apart_kept c d f n (At r Unbound) = stays (plain 11)
apart_kept c d f n (At r (Bound s)) = stays (plain 4)
apart_kept c d f n (At r (Int v)) = stays (plain 1)
apart_kept c d f n (At r (Head g k)) = by (eqb f g && eqb n k)
  where
    by : (t : Bool) → Kept c (if t then done (set_terms (arguments_at n c r) d c) else refuse c 1)
    by true = accepted _ refl
    by false = stays (plain 1)
apart_kept c d f n (At r (Argument s)) = stays (plain 4)

-- ops 3 to 5
building_kept : (m : Machine) (d a : ℕ) (cells : Option (List Cell)) → Unchanged m (building m d a cells)
building_kept m d a cells = within_kept m (build_kept (lowest (free m)) m.present d (region_at m.present a) cells)

make_kept : (m : Machine) (d : ℕ) (last full : Bool) (p : Option ℕ) → Unchanged m (if last then refused m 7 else if full then refused m 6 else new_region m d p)
unfolding new_region
make_kept m d true full p h = refl
make_kept m d false true p h = refl
make_kept m d false false None h = refl
make_kept m d false false (Some p) h = absurd (h refl)

push_kept : (m : Machine) (full : Bool) →
    Unchanged m (if full then refused m 8 else record { answer = plain 0; machine = with_copies m m.present (m.present ∷ m.saved) })
push_kept m true h = refl
push_kept m false h = absurd (h refl)

cut_kept : (m : Machine) (cs : List Copy) → Unchanged m (cut_to m cs)
unfolding cut_to
cut_kept m [] h = refl
cut_kept m (c ∷ cs) h = absurd (h refl)

back_kept : (m : Machine) (cs : List Copy) → Unchanged m (back_to m cs)
unfolding back_to
back_kept m [] h = refl
back_kept m (c ∷ cs) h = absurd (h refl)

pub refusal_changes_nothing : (m : Machine) (s : Step) → Unchanged m (exec m s)
unfolding exec
refusal_changes_nothing m Refused = λ h. refl
refusal_changes_nothing m (MakeRegion d) = make_kept m d (eqb m.next last_stamp) (leb m.limits.slots (slots m)) (lowest (free m))
refusal_changes_nothing m (KillRegion a) = within_kept m (kill_kept m.present (region_at m.present a))
refusal_changes_nothing m (MakeVar d a) = building_kept m d a (Some (Unbound ∷ []))
refusal_changes_nothing m (Integer d a v) = building_kept m d a (Some (Int v ∷ []))
refusal_changes_nothing m (Structure d a b f n) = building_kept m d a (headed (Head f n) (operands n m.present b))
refusal_changes_nothing m (Unify a b k) = within_kept m (unify_kept m.present (live_at m.present a) (live_at m.present b) k)
refusal_changes_nothing m (Deref d a) = within_kept m (seen_kept m.present d (found_from m.present (term_at m.present a)))
refusal_changes_nothing m (Destruct d a f n) = within_kept m (apart_kept m.present d f n (found_from m.present (term_at m.present a)))
refusal_changes_nothing m PushChoice = push_kept m (leb m.limits.choices (length m.saved))
refusal_changes_nothing m Cut = cut_kept m m.saved
refusal_changes_nothing m Backtrack = back_kept m m.saved
