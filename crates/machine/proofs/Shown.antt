-- The regions that the copies show, and the slots that they take: as many as there are stamps in the copies.
use mathlib.Core.Path.{◌≡◌, refl, sym, ap, ◌∙◌, subst}
use mathlib.Core.Bool.{Bool, true, false, not, true≢false}
use mathlib.Core.Logic.{◌⊎◌, inl, inr, ◌≢◌}
use mathlib.Core.List.Memᴰ
use mathlib.Core.List.{List, [], ◌∷◌, ◌++◌, map, Memᴰ}
use Prim.Native.Nat.{ℕ, ◌+◌, ◌≤◌, ◌<◌}
use native.Mathlib.Omega.{arith}
use borrow.Author.Tests.{eq-eqb, eqb-true}
use lib.ListN.{length, length-map, length-append}
use Rattle.laws.specs.Base.{keep, Each, Pairs}
use Rattle.laws.proofs.Lists.{each_imp, pairs_imp, pairs_map, pairs_append, pairs_keep, kept_at, keep_at, some_yes, some_at, mem_left, mem_right, mem_map, map_mem, no_more, not_true}
use Rattle.machine.specs.Copies.{Limits, Region, Copy, stamped, live, shown}
use Rattle.machine.specs.Sound.{CopyOk}

abbrev Apart : Region → Region → Type 0
Apart g h = g.stamp ≢ h.stamp

abbrev pub InOrder : Copy → Type 0
InOrder c = Pairs (λ (g h : Region). g.stamp < h.stamp) c.regions

pub mem_live : (c : Copy) (g : Region) → Memᴰ g c.regions → live c g.stamp ≡ true
mem_live c g h = some_yes (stamped g.stamp) c.regions g h (eq-eqb g.stamp g.stamp refl)

-- what is shown is live in some copy
pub shown_live : (cs : List Copy) (g : Region) → Memᴰ g (shown cs) → (c : Copy) × Memᴰ c cs × (live c g.stamp ≡ true)
unfolding shown
shown_live [] g h = absurd (Memᴰ.not-nil h)
shown_live (c ∷ cs) g h = by (Memᴰ.append_cases c.regions h) (λ k. shown_live cs g k)
  where
    by : Memᴰ g c.regions ⊎ Memᴰ g (keep (λ r. not (live c r.stamp)) (shown cs)) →
        (Memᴰ g (shown cs) → (d : Copy) × Memᴰ d cs × (live d g.stamp ≡ true)) →
        (d : Copy) × Memᴰ d (c ∷ cs) × (live d g.stamp ≡ true)
    by (inl m) ih = (c, Memᴰ.head refl, mem_live c g m)
    by (inr m) ih =
        let k = ih (kept_at (λ r. not (live c r.stamp)) (shown cs) g m).0 in
        (k.0, Memᴰ.tail k.1, k.2)

-- the stamp of what is live in some copy is shown
pub live_shown : (cs : List Copy) (c : Copy) (s : ℕ) → Memᴰ c cs → live c s ≡ true → (g : Region) × Memᴰ g (shown cs) × (g.stamp ≡ s)
unfolding shown
live_shown [] c s h e = absurd (Memᴰ.not-nil h)
live_shown (d ∷ ds) c s h e = by (live d s) refl (Memᴰ.cases_cons h) (λ m. live_shown ds c s m e)
  where
    by : (t : Bool) → live d s ≡ t → (c ≡ d) ⊎ Memᴰ c ds → (Memᴰ c ds → (g : Region) × Memᴰ g (shown ds) × (g.stamp ≡ s)) →
        (g : Region) × Memᴰ g (d.regions ++ keep (λ r. not (live d r.stamp)) (shown ds)) × (g.stamp ≡ s)
    by true q a ih =
        let k = some_at (stamped s) d.regions q in
        (k.0, mem_left d.regions (keep (λ r. not (live d r.stamp)) (shown ds)) k.0 k.1, eqb-true k.0.stamp s k.2)
    by false q (inl a) ih = absurd (true≢false (sym e ∙ ap (λ (x : Copy). live x s) a ∙ q))
    by false q (inr m) ih =
        let k = ih m in
        (k.0, mem_right d.regions (keep (λ r. not (live d r.stamp)) (shown ds)) k.0 (keep_at (λ r. not (live d r.stamp)) (shown ds) k.0 k.1 (ap not (ap (live d) k.2 ∙ q))), k.2)

pub shown_apart : (cs : List Copy) → Each InOrder cs → Pairs Apart (shown cs)
unfolding shown
shown_apart [] h = tt
shown_apart (c ∷ cs) h =
    pairs_append Apart c.regions (keep (λ r. not (live c r.stamp)) (shown cs))
    (pairs_imp (λ (g h : Region). g.stamp < h.stamp) Apart c.regions (λ g h l. omega arith) h.0)
    (pairs_keep Apart (λ r. not (live c r.stamp)) (shown cs) (shown_apart cs h.1))
    (λ g k m n e. true≢false (sym (mem_live c g m) ∙ ap (live c) e ∙ not_true (live c k.stamp) (kept_at (λ r. not (live c r.stamp)) (shown cs) k n).1))

pub stamp_of : Region → ℕ
stamp_of g = g.stamp

pub found_in : (ds : List Copy) (s : ℕ) (d : Copy) → Memᴰ d ds → live d s ≡ true → Memᴰ s (map stamp_of (shown ds))
unfolding stamp_of
found_in ds s d m l = let g = live_shown ds d s m l in map_mem stamp_of (shown ds) g.0 s g.1 (sym g.2)

pub found_for : (cs : List Copy) (s : ℕ) → Memᴰ s (map stamp_of (shown cs)) → (c : Copy) × Memᴰ c cs × (live c s ≡ true)
unfolding stamp_of
found_for cs s m =
    let a = mem_map stamp_of (shown cs) s m in
    subst (λ (x : ℕ). (c : Copy) × Memᴰ c cs × (live c x ≡ true)) (sym a.2) (shown_live cs a.0 a.1)

-- copies whose stamps are new or in the others take at most a slot more for each new stamp
pub slots_more : (cs ds : List Copy) (new : List ℕ) → Each InOrder cs →
    ((c : Copy) (s : ℕ) → Memᴰ c cs → live c s ≡ true → Memᴰ s new ⊎ ((d : Copy) × Memᴰ d ds × (live d s ≡ true))) →
    length (shown cs) ≤ length new + length (shown ds)
unfolding stamp_of
slots_more cs ds new o h =
    let k : length (map stamp_of (shown cs)) ≤ length (new ++ map stamp_of (shown ds)) =
    no_more (map stamp_of (shown cs)) (new ++ map stamp_of (shown ds)) (pairs_map (λ (a b : ℕ). a ≢ b) stamp_of (shown cs) (shown_apart cs o))
    (λ s m. let b = found_for cs s m in found s (h b.0 s b.1 b.2))
    in
    omega (arith, length-map (shown cs) stamp_of, length-map (shown ds) stamp_of, length-append new (map stamp_of (shown ds)))
  where
    found : (s : ℕ) → Memᴰ s new ⊎ ((d : Copy) × Memᴰ d ds × (live d s ≡ true)) → Memᴰ s (new ++ map stamp_of (shown ds))
    found s (inl m) = mem_left new (map stamp_of (shown ds)) s m
    found s (inr f) = mem_right new (map stamp_of (shown ds)) s (found_in ds s f.0 f.1 f.2)

-- copies that have no other stamps take no more slots
pub slots_le : (cs ds : List Copy) → Each InOrder cs → ((c : Copy) (s : ℕ) → Memᴰ c cs → live c s ≡ true → (d : Copy) × Memᴰ d ds × (live d s ≡ true)) → length (shown cs) ≤ length (shown ds)
slots_le cs ds o h =
    let k : length (shown cs) ≤ 0 + length (shown ds) = slots_more cs ds [] o (λ c s m l. inr (h c s m l)) in
    omega arith

pub fewer_le : (cs ds : List Copy) → Each InOrder cs → ((c : Copy) → Memᴰ c cs → Memᴰ c ds) → length (shown cs) ≤ length (shown ds)
fewer_le cs ds o h = slots_le cs ds o (λ c s m l. (c, h c m, l))

-- the order of the regions, in each copy of a sound machine
pub in_order : (l : Limits) (next : ℕ) (cs : List Copy) → Each (CopyOk l next) cs → Each InOrder cs
in_order l next cs = each_imp (CopyOk l next) InOrder cs (λ c m k. k.in_order)
