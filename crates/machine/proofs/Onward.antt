-- The present copy changes, and the machine stays sound: one law for every step that changes the present copy alone, from one that also
-- lets regions of new stamps join.
use mathlib.Core.Path.{◌≡◌, refl, sym, ap, ◌∙◌, subst}
use mathlib.Core.Bool.{Bool, true, false, true≢false}
use mathlib.Core.Logic.{◌⊎◌, inl, inr}
use mathlib.Core.List.Memᴰ
use mathlib.Core.List.{List, [], ◌∷◌, Memᴰ}
use Prim.Native.Nat.{ℕ, ◌+◌, ◌^◌, ◌≤◌, ◌<◌}
use native.Mathlib.Omega.{arith}
use borrow.Author.Tests.{eq-eqb, eqb-true}
use lib.ListN.{length}
use Rattle.laws.specs.Base.{Each}
use Rattle.laws.proofs.Lists.{each_imp, pairs_imp_at, some_yes, some_at}
use Rattle.machine.specs.Copies.{Region, Copy, Machine, copies, with_copies, lists, held, stamped, live, shown, slots}
use Rattle.machine.specs.Sound.{Sound, CopyOk, RegionGrown, CopyGrown, PagesApart, NoReturn}
use Rattle.machine.proofs.Growth.{region_onward}
use Rattle.machine.proofs.Shown.{mem_live, slots_more, in_order}
use Rattle.machine.proofs.Free.{free_unlisted}

-- a region of stamp s among these lists the page p
abbrev pub Listed : List Region → ℕ → ℕ → Type 0
Listed gs s p = (h : Region) × Memᴰ h gs × (h.stamp ≡ s) × (lists p h ≡ true)

-- g has grown from a region of the present copy
abbrev pub From : Machine → Region → Type 0
From m g = (h : Region) × Memᴰ h m.present.regions × (h.stamp ≡ g.stamp) × RegionGrown h g

-- c is a good copy; each of its regions has grown from one of the present copy, and page by page it lists what that one lists,
-- or, if it is the region of stamp t, a page that was free
pub record Onward (m : Machine) (t : ℕ) (c : Copy) : Type 0 where
  pub ok : CopyOk m.limits m.next c
  pub from : (g : Region) → Memᴰ g c.regions → From m g
  pub pages : (g : Region) (p : ℕ) → Memᴰ g c.regions → lists p g ≡ true →
      Listed m.present.regions g.stamp p ⊎ ((held m p ≡ false) × (g.stamp ≡ t))

-- the same, but the next stamp is another, and c may have regions of new stamps, which no copy has and for which there are slots
pub record Joined (m : Machine) (next : ℕ) (new : List ℕ) (t : ℕ) (c : Copy) : Type 0 where
  pub counter : (1 ≤ next) × (next < 2 ^ 32)
  pub each : Each (CopyOk m.limits next) (c ∷ m.saved)
  pub room : length new + slots m ≤ m.limits.slots
  pub unseen : (d : Copy) (s : ℕ) → Memᴰ d (copies m) → Memᴰ s new → live d s ≡ false
  pub from : (g : Region) → Memᴰ g c.regions → From m g ⊎ Memᴰ g.stamp new
  pub pages : (g : Region) (p : ℕ) → Memᴰ g c.regions → lists p g ≡ true →
      Listed m.present.regions g.stamp p ⊎ ((held m p ≡ false) × (g.stamp ≡ t))

-- where a page that a region of stamp s lists comes from: a copy's region of that stamp listed it, or it was free and s is t
abbrev Came : Machine → ℕ → ℕ → ℕ → Type 0
Came m t p s = ((d : Copy) × Memᴰ d (copies m) × Listed d.regions s p) ⊎ ((held m p ≡ false) × (s ≡ t))

-- one page, two stamps: they are one
came_apart : (m : Machine) (t p r s : ℕ) → Sound m → Came m t p r → Came m t p s → r ≡ s
unfolding PagesApart
came_apart m t p r s k (inl a) (inl b) =
    let x = a.2 in
    let y = b.2 in
    sym x.2 ∙ k.apart a.0 b.0 a.1 b.1 x.0 y.0 p x.1 y.1 x.3 y.3 ∙ y.2
came_apart m t p r s k (inl a) (inr b) = let x = a.2 in absurd (free_unlisted m p b.0 a.0 a.1 x.0 x.1 x.3)
came_apart m t p r s k (inr a) (inl b) = let y = b.2 in absurd (free_unlisted m p a.0 b.0 b.1 y.0 y.1 y.3)
came_apart m t p r s k (inr a) (inr b) = a.1 ∙ sym b.1

module _ (m : Machine) (next : ℕ) (new : List ℕ) (t : ℕ) (c : Copy) (o : Joined m next new t c) where
  -- what is live in the copy is new or was live
  was_live : (u : ℕ) → live c u ≡ true → Memᴰ u new ⊎ (live m.present u ≡ true)
  was_live u l = let a = some_at (stamped u) c.regions l in by a.0 (eqb-true a.0.stamp u a.2) (o.from a.0 a.1)
    where
      by : (g : Region) → g.stamp ≡ u → From m g ⊎ Memᴰ g.stamp new → Memᴰ u new ⊎ (live m.present u ≡ true)
      by g e (inl b) = inr (some_yes (stamped u) m.present.regions b.0 b.1 (eq-eqb b.0.stamp u (b.2 ∙ e)))
      by g e (inr x) = inl (subst (λ (s : ℕ). Memᴰ s new) e x)

  -- so what an older copy has and the present one has not does not come back
  still_gone : (old : Copy) (u : ℕ) → Memᴰ old m.saved → live old u ≡ true → live m.present u ≡ false → live c u ≡ false
  still_gone old u x l e = by (live c u) refl
    where
      by : (b : Bool) → live c u ≡ b → b ≡ false
      by false h = refl
      by true h = at (was_live u h)
        where
          at : Memᴰ u new ⊎ (live m.present u ≡ true) → true ≡ false
          at (inl n) = sym l ∙ o.unseen old u (Memᴰ.tail x) n
          at (inr k) = sym k ∙ e

  -- the stamps of the copies are new or were in the copies
  stamps_were : (d : Copy) (u : ℕ) → (d ≡ c) ⊎ Memᴰ d m.saved → live d u ≡ true →
      Memᴰ u new ⊎ ((e : Copy) × Memᴰ e (copies m) × (live e u ≡ true))
  stamps_were d u (inl q) l = by (was_live u (sym (ap (λ (z : Copy). live z u) q) ∙ l))
    where
      by : Memᴰ u new ⊎ (live m.present u ≡ true) → Memᴰ u new ⊎ ((e : Copy) × Memᴰ e (copies m) × (live e u ≡ true))
      by (inl n) = inl n
      by (inr k) = inr (m.present, Memᴰ.head refl, k)
  stamps_were d u (inr x) l = inr (d, Memᴰ.tail x, l)

  came : (d : Copy) (g : Region) (p : ℕ) → (d ≡ c) ⊎ Memᴰ d m.saved → Memᴰ g d.regions → lists p g ≡ true → Came m t p g.stamp
  came d g p (inl q) x l = by (o.pages g p (subst (λ (z : Copy). Memᴰ g z.regions) q x) l)
    where
      by : Listed m.present.regions g.stamp p ⊎ ((held m p ≡ false) × (g.stamp ≡ t)) → Came m t p g.stamp
      by (inl a) = inl (m.present, Memᴰ.head refl, a)
      by (inr a) = inr a
  came d g p (inr y) x l = inl (d, Memᴰ.tail y, (g, x, refl, l))

  joined_grown : (old : Copy) → Memᴰ old m.saved → CopyGrown m.present old → CopyGrown c old
  unfolding CopyGrown
  joined_grown old z k g h x y e = by (o.from g x)
    where
      by : From m g ⊎ Memᴰ g.stamp new → RegionGrown h g
      by (inl a) = region_onward h a.0 g (k a.0 h a.1 y (a.2 ∙ e)) a.3
      by (inr n) = absurd (true≢false (sym (mem_live old h y) ∙ ap (live old) (sym e) ∙ o.unseen old g.stamp (Memᴰ.tail z) n))

-- a machine whose present copy goes on and whose next stamp moves on is sound
pub joined_sound : (m : Machine) (next : ℕ) (new : List ℕ) (t : ℕ) (c : Copy) → Sound m → Joined m next new t c →
    Sound (record { limits = m.limits; present = c; saved = m.saved; next = next })
unfolding PagesApart NoReturn
joined_sound m next new t c s o =
    record {
      limits = s.limits;
      choices = s.choices;
      slots =
          let k : length (shown (c ∷ m.saved)) ≤ length new + length (shown (copies m)) =
          slots_more (c ∷ m.saved) (copies m) new (in_order m.limits next (c ∷ m.saved) o.each) (λ d u x. stamps_were m next new t c o d u (Memᴰ.cases_cons x))
          in
          omega (arith, o.room);
      next = o.counter;
      each = o.each;
      apart = λ d e x y g h p a b i j.
          came_apart m t p g.stamp h.stamp s (came m next new t c o d g p (Memᴰ.cases_cons x) a i) (came m next new t c o e h p (Memᴰ.cases_cons y) b j);
      grows = (each_imp (CopyGrown m.present) (CopyGrown c) m.saved (λ old x. joined_grown m next new t c o old x) s.grows.0, s.grows.1);
      no_return = (
        pairs_imp_at (λ (mid old : Copy). (u : ℕ) → live old u ≡ true → live mid u ≡ false → live m.present u ≡ false)
            (λ (mid old : Copy). (u : ℕ) → live old u ≡ true → live mid u ≡ false → live c u ≡ false) m.saved
            (λ mid old x y k u a b. still_gone m next new t c o old u y a (k u a b)) s.no_return.0,
        s.no_return.1,
      );
    }

-- a machine whose present copy goes on is sound
pub onward_sound : (m : Machine) (t : ℕ) (c : Copy) → Sound m → Onward m t c → Sound (with_copies m c m.saved)
onward_sound m t c s o =
    joined_sound m m.next [] t c s
    (record {
      counter = s.next;
      each = (o.ok, s.each.1);
      room = omega (arith, s.slots);
      unseen = λ d u x n. absurd (Memᴰ.not-nil n);
      from = λ g x. inl (o.from g x);
      pages = o.pages;
    })
