-- A copy has grown from itself, and growth is carried on from copy to copy.
use mathlib.Core.Path.{◌≡◌, refl, sym, ap, ◌∙◌, subst}
use mathlib.Core.Logic.{◌⊎◌, inl, inr}
use mathlib.Core.List.Memᴰ
use mathlib.Core.List.{List, [], ◌∷◌, ◌++◌, Memᴰ, append_assoc}
use Prim.Native.Nat.{ℕ, ◌<◌}
use native.Mathlib.Omega.{arith}
use Rattle.laws.specs.Base.{Pairs}
use Rattle.laws.proofs.Lists.{each_at}
use Rattle.words.specs.declared.Cell.{Cell}
use Rattle.words.specs.declared.Cell.TheVariants.{Unbound, Bound, Int, Head, Argument}
use Rattle.machine.specs.Copies.{Limits, Page, Region, Copy}
use Rattle.machine.specs.Sound.{CopyOk, RegionOk, Filled, Later, Grown, SamePages, TopGrown, RegionGrown, CopyGrown, IsVariable}

pub later_refl : (w : Cell) → Later w w
unfolding Later IsVariable
later_refl Unbound = tt
later_refl (Bound r) = refl
later_refl (Int v) = refl
later_refl (Head f n) = refl
later_refl (Argument r) = refl

pub grown_refl : (ws : List Cell) → Grown ws ws
unfolding Grown
grown_refl [] = tt
grown_refl (w ∷ ws) = (later_refl w, grown_refl ws)

pub same_refl : (ps : List Page) → SamePages ps ps
unfolding SamePages
same_refl [] = tt
same_refl (p ∷ ps) = (refl, refl, grown_refl p.words, same_refl ps)

pub top_refl : (ps : List Page) → Filled ps → TopGrown ps ps
unfolding TopGrown Filled
top_refl [] h = absurd h
top_refl (p ∷ ps) h = (refl, grown_refl p.words, same_refl ps)

-- two regions of one copy with one stamp are one
pub one_region : (gs : List Region) → Pairs (λ (g h : Region). g.stamp < h.stamp) gs → (g h : Region) → Memᴰ g gs → Memᴰ h gs → g.stamp ≡ h.stamp → g ≡ h
one_region [] o g h x y e = absurd (Memᴰ.not-nil x)
one_region (k ∷ ks) o g h x y e = by (Memᴰ.cases_cons x) (Memᴰ.cases_cons y) (λ a b. one_region ks o.1 g h a b e)
  where
    by : (g ≡ k) ⊎ Memᴰ g ks → (h ≡ k) ⊎ Memᴰ h ks → (Memᴰ g ks → Memᴰ h ks → g ≡ h) → g ≡ h
    by (inl a) (inl b) ih = a ∙ sym b
    by (inl a) (inr b) ih = absurd (omega (arith, each_at (λ (z : Region). k.stamp < z.stamp) ks o.0 h b, ap (λ (z : Region). z.stamp) a, e))
    by (inr a) (inl b) ih = absurd (omega (arith, each_at (λ (z : Region). k.stamp < z.stamp) ks o.0 g a, ap (λ (z : Region). z.stamp) b, e))
    by (inr a) (inr b) ih = ih a b

-- a good region has grown from itself, and so has each region of a good copy
pub region_refl : (l : Limits) (next : ℕ) (g : Region) → RegionOk l next g → RegionGrown g g
region_refl l next g k = record { joined = []; since = g.pages; split = refl; grown = top_refl g.pages k.filled }

pub copy_refl : (l : Limits) (next : ℕ) (c : Copy) → CopyOk l next c → CopyGrown c c
unfolding CopyGrown
copy_refl l next c k g h x y e =
    let q : h ≡ g = one_region c.regions k.in_order h g y x (sym e) in
    subst (λ (z : Region). RegionGrown z g) (sym q) (region_refl l next g (each_at (RegionOk l next) c.regions k.regions g x))

-- ---- growth goes on: what has grown twice has grown

later_onward : (u v w : Cell) → Later u v → Later v w → Later u w
unfolding Later IsVariable
later_onward Unbound Unbound w h k = k
later_onward Unbound (Bound r) w h k = rw k tt
later_onward Unbound (Int n) w h k = absurd h
later_onward Unbound (Head f n) w h k = absurd h
later_onward Unbound (Argument r) w h k = absurd h
later_onward (Bound r) v w h k = rw h at k
later_onward (Int n) v w h k = rw h at k
later_onward (Head f n) v w h k = rw h at k
later_onward (Argument r) v w h k = rw h at k

grown_onward : (us vs ws : List Cell) → Grown us vs → Grown vs ws → Grown us ws
unfolding Grown
grown_onward [] vs ws h k = tt
grown_onward (u ∷ us) [] ws h k = absurd h
grown_onward (u ∷ us) (v ∷ vs) [] h k = absurd k
grown_onward (u ∷ us) (v ∷ vs) (w ∷ ws) h k = (later_onward u v w h.0 k.0, grown_onward us vs ws h.1 k.1)

same_onward : (os ps qs : List Page) → SamePages os ps → SamePages ps qs → SamePages os qs
unfolding SamePages
same_onward [] [] qs h k = k
same_onward [] (p ∷ ps) qs h k = absurd h
same_onward (o ∷ os) [] qs h k = absurd h
same_onward (o ∷ os) (p ∷ ps) [] h k = absurd k
same_onward (o ∷ os) (p ∷ ps) (q ∷ qs) h k =
    (h.0 ∙ k.0, h.1 ∙ k.1, grown_onward o.words p.words q.words h.2 k.2, same_onward os ps qs h.3 k.3)

top_onward : (os ps qs : List Page) → TopGrown os ps → TopGrown ps qs → TopGrown os qs
unfolding TopGrown
top_onward [] ps qs h k = absurd h
top_onward (o ∷ os) [] qs h k = absurd h
top_onward (o ∷ os) (p ∷ ps) [] h k = absurd k
top_onward (o ∷ os) (p ∷ ps) (q ∷ qs) h k =
    (h.0 ∙ k.0, grown_onward o.words p.words q.words h.1 k.1, same_onward os ps qs h.2 k.2)

pub same_top : (p : Page) (ps qs : List Page) → SamePages (p ∷ ps) qs → TopGrown (p ∷ ps) qs
unfolding SamePages TopGrown
same_top p ps [] h = absurd h
same_top p ps (q ∷ qs) h = (h.0, h.2, h.3)

-- growth from the pages to the newer end of the others
abbrev Regrown : List Page → List Page → Type 0
Regrown os qs = (joined : List Page) × (since : List Page) × (qs ≡ joined ++ since) × TopGrown os since

-- pages that joined stay in front
joined_onward : (js os ps qs : List Page) → TopGrown os ps → SamePages (js ++ ps) qs → Regrown os qs
unfolding SamePages TopGrown
joined_onward [] [] ps qs h k = absurd h
joined_onward [] (o ∷ os) [] qs h k = absurd h
joined_onward [] (o ∷ os) (p ∷ ps) qs h k = ([], qs, refl, top_onward (o ∷ os) (p ∷ ps) qs h (same_top p ps qs k))
joined_onward (j ∷ js) os ps [] h k = absurd k
joined_onward (j ∷ js) os ps (q ∷ qs) h k =
    let r = joined_onward js os ps qs h k.3 in
    (q ∷ r.0, r.1, ap (λ (l : List Page). q ∷ l) r.2, r.3)

pages_onward : (js os ps qs : List Page) → TopGrown os ps → TopGrown (js ++ ps) qs → Regrown os qs
unfolding TopGrown
pages_onward [] os ps qs h k = ([], qs, refl, top_onward os ps qs h k)
pages_onward (j ∷ js) os ps [] h k = absurd k
pages_onward (j ∷ js) os ps (q ∷ qs) h k =
    let r = joined_onward js os ps qs h k.2 in
    (q ∷ r.0, r.1, ap (λ (l : List Page). q ∷ l) r.2, r.3)

-- a region that has grown, and grown again, has grown
pub region_onward : (f g h : Region) → RegionGrown f g → RegionGrown g h → RegionGrown f h
region_onward f g h a b =
    let r = pages_onward a.joined f.pages a.since b.since a.grown (rw a.split at b.grown) in
    record { joined = b.joined ++ r.0; since = r.1; split = b.split ∙ ap (λ (l : List Page). b.joined ++ l) r.2 ∙ sym (append_assoc b.joined r.0 r.1); grown = r.3 }
