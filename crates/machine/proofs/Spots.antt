-- Where a page stands in a copy: in which region, which page joined after it, and what it holds; and how that grows from copy to copy.
use mathlib.Core.Path.{◌≡◌, refl, sym, ap, ◌∙◌, subst}
use mathlib.Core.Bool.{Bool, true, false}
use mathlib.Core.Logic.{◌≢◌, ◌⊎◌, inl, inr}
use mathlib.Core.List.Memᴰ
use mathlib.Core.List.{List, [], ◌∷◌, ◌++◌, map, Memᴰ, Nodup, Nodup-cons}
use Rattle.std.specs.Prelude.{Option, Some, None}
use Rattle.laws.proofs.Options.{none_ne_some, some_injective}
use Prim.Native.Nat.{ℕ}
use lib.Dec.{eqb}
use lib.ListN.{replicate}
use borrow.Author.Tests.{eq-eqb, eqb-true, eqb-false}
use Rattle.laws.specs.Base.{Each}
use Rattle.laws.proofs.Lists.{some_yes, some_at, map_mem, mem_right}
use Rattle.machine.specs.Copies.{Page, Region, Copy, lists, live, stamped}
use Rattle.machine.specs.Sound.{Grown, SamePages, TopGrown, RegionGrown, CopyGrown}
use Rattle.machine.specs.Image.{page_words, in_chain, or_else, page_image}

-- p is page n of the list, and j is the page that joined after it; nx is the one that joined after the list's first
unfoldable pub Lies : ℕ → Option ℕ → List Page → Option ℕ → Page → Type 0
Lies n nx [] j p = ⊥
Lies n nx (q ∷ qs) j p = ((q.number ≡ n) × (q ≡ p) × (nx ≡ j)) ⊎ Lies n (Some q.number) qs j p

pub lies_mem : (n : ℕ) (nx : Option ℕ) (ps : List Page) (j : Option ℕ) (p : Page) → Lies n nx ps j p → Memᴰ p ps
unfolding Lies
lies_mem n nx [] j p h = absurd h
lies_mem n nx (q ∷ qs) j p (inl h) = Memᴰ.head (sym h.1)
lies_mem n nx (q ∷ qs) j p (inr h) = Memᴰ.tail (lies_mem n (Some q.number) qs j p h)

pub lies_number : (n : ℕ) (nx : Option ℕ) (ps : List Page) (j : Option ℕ) (p : Page) → Lies n nx ps j p → p.number ≡ n
unfolding Lies
lies_number n nx [] j p h = absurd h
lies_number n nx (q ∷ qs) j p (inl h) = ap (λ (x : Page). x.number) (sym h.1) ∙ h.0
lies_number n nx (q ∷ qs) j p (inr h) = lies_number n (Some q.number) qs j p h

-- the first page of a list without repeats is not one of the others
pub first_apart : (p : Page) (ps : List Page) → Nodup (map (λ (x : Page). x.number) (p ∷ ps)) → (q : Page) → Memᴰ q ps → p.number ≢ q.number
first_apart p ps d q m e = (Nodup-cons.0 d).0 ∣ map_mem (λ (x : Page). x.number) ps q p.number m e ∣₁

pub once : (p : Page) (ps : List Page) → Nodup (map (λ (x : Page). x.number) (p ∷ ps)) → (n : ℕ) (nx j : Option ℕ) (q : Page) → Lies n nx ps j q → p.number ≢ n
once p ps d n nx j q h e = first_apart p ps d q (lies_mem n nx ps j q h) (e ∙ sym (lies_number n nx ps j q h))

-- a page stands in a list once
pub lies_once : (n : ℕ) (nx : Option ℕ) (ps : List Page) (i j : Option ℕ) (p q : Page) → Nodup (map (λ (x : Page). x.number) ps) →
    Lies n nx ps i p → Lies n nx ps j q → (i ≡ j) × (p ≡ q)
unfolding Lies
lies_once n nx [] i j p q d h k = absurd h
lies_once n nx (r ∷ rs) i j p q d (inl h) (inl k) = (sym h.2 ∙ k.2, sym h.1 ∙ k.1)
lies_once n nx (r ∷ rs) i j p q d (inl h) (inr k) = absurd (once r rs d n (Some r.number) j q k h.0)
lies_once n nx (r ∷ rs) i j p q d (inr h) (inl k) = absurd (once r rs d n (Some r.number) i p h k.0)
lies_once n nx (r ∷ rs) i j p q d (inr h) (inr k) = lies_once n (Some r.number) rs i j p q (Nodup-cons.0 d).1 h k

-- the page that joined after stands in the list too
pub lies_next : (n : ℕ) (nx : Option ℕ) (ps : List Page) (q : ℕ) (p : Page) → Lies n nx ps (Some q) p → (nx ≡ Some q) ⊎ ((j : Option ℕ) × (r : Page) × Lies q nx ps j r)
unfolding Lies
lies_next n nx [] q p h = absurd h
lies_next n nx (x ∷ xs) q p (inl h) = inl h.2
lies_next n nx (x ∷ xs) q p (inr h) = by (lies_next n (Some x.number) xs q p h)
  where
    by : (Some x.number ≡ Some q) ⊎ ((j : Option ℕ) × (r : Page) × Lies q (Some x.number) xs j r) → (nx ≡ Some q) ⊎ ((j : Option ℕ) × (r : Page) × Lies q nx (x ∷ xs) j r)
    by (inl e) = inr (nx, x, inl (some_injective x.number q e, refl, refl))
    by (inr r) = inr (r.0, r.1, inr r.2)

-- ---- page n in a list of regions

-- the region that lists it, the page that joined after it, and what stands there
pub record Home (gs : List Region) (n : ℕ) : Type 0 where
  pub region : Region
  pub among : Memᴰ region gs
  pub next : Option ℕ
  pub page : Page
  pub lies : Lies n None region.pages next page

pub home_lists : {gs : List Region} {n : ℕ} (h : Home gs n) → lists n h.region ≡ true
home_lists {gs} {n} h =
    some_yes (λ (q : Page). eqb q.number n) h.region.pages h.page (lies_mem n None h.region.pages h.next h.page h.lies)
    (eq-eqb h.page.number n (lies_number n None h.region.pages h.next h.page h.lies))

-- the same place in another list that has the region
abbrev pub moved : {gs : List Region} {n : ℕ} (hs : List Region) (h : Home gs n) → Memᴰ h.region hs → Home hs n
moved hs h m = record { region = h.region; among = m; next = h.next; page = h.page; lies = h.lies }

-- the first place where page n stands in a list of pages, or nowhere
pub data Chained (k n s : ℕ) (nx : Option ℕ) (ps : List Page) : Type 0 where
  unchained : ((j : Option ℕ) (p : Page) → Lies n nx ps j p → ⊥) → in_chain k n s nx ps ≡ None → Chained k n s nx ps
  chained : (j : Option ℕ) (p : Page) → Lies n nx ps j p → in_chain k n s nx ps ≡ Some (page_words k s j p) → Chained k n s nx ps

pub chain_of : (k n s : ℕ) (nx : Option ℕ) (ps : List Page) → Chained k n s nx ps
unfolding Lies in_chain
chain_of k n s nx [] = unchained (λ j p h. h) refl
chain_of k n s nx (q ∷ qs) = by (eqb q.number n) refl (chain_of k n s (Some q.number) qs)
  where
    by : (t : Bool) → eqb q.number n ≡ t → Chained k n s (Some q.number) qs → Chained k n s nx (q ∷ qs)
    by true e c = chained nx q (inl (eqb-true q.number n e, refl, refl)) (rw e)
    by false e (unchained f i) = unchained (λ j p h. no j p h) (rw e i)
      where
        no : (j : Option ℕ) (p : Page) → Lies n nx (q ∷ qs) j p → ⊥
        no j p (inl h) = eqb-false q.number n e h.0
        no j p (inr h) = f j p h
    by false e (chained j p h i) = chained j p (inr h) (rw e i)

-- the first place where page n stands in a list of regions, or nowhere: sixteen zeros
pub data Spot (k : ℕ) (gs : List Region) (n : ℕ) : Type 0 where
  free : (Home gs n → ⊥) → page_image k gs n ≡ replicate 16 0 → Spot k gs n
  held : (h : Home gs n) → page_image k gs n ≡ page_words k h.region.stamp h.next h.page → Spot k gs n

pub spot : (k : ℕ) (gs : List Region) (n : ℕ) → Spot k gs n
unfolding page_image or_else
spot k [] n = free (λ h. Memᴰ.not-nil h.among) refl
spot k (g ∷ gs) n = by (chain_of k n g.stamp None g.pages) (spot k gs n)
  where
    by : Chained k n g.stamp None g.pages → Spot k gs n → Spot k (g ∷ gs) n
    by (chained j p h i) s = held (record { region = g; among = Memᴰ.head refl; next = j; page = p; lies = h }) (rw i)
    by (unchained f i) (held h e) = held (moved (g ∷ gs) h (Memᴰ.tail h.among)) (rw i e)
    by (unchained f i) (free z e) = free (λ h. no h (Memᴰ.cases_cons h.among)) (rw i e)
      where
        no : (h : Home (g ∷ gs) n) → (h.region ≡ g) ⊎ Memᴰ h.region gs → ⊥
        no h (inl q) = f h.next h.page (subst (λ (y : Region). Lies n None y.pages h.next h.page) q h.lies)
        no h (inr m) = z (moved gs h m)

-- ---- growth: a place in an older list of pages, and the same place in a newer one

same_lies : (n : ℕ) (nx : Option ℕ) (ps qs : List Page) (j : Option ℕ) (p : Page) → SamePages ps qs → Lies n nx ps j p →
    (q : Page) × Lies n nx qs j q × Grown p.words q.words
unfolding Lies SamePages
same_lies n nx [] qs j p g h = absurd h
same_lies n nx (x ∷ xs) [] j p g h = absurd g
same_lies n nx (x ∷ xs) (y ∷ ys) j p g (inl h) = (y, inl (sym g.0 ∙ h.0, refl, h.2), subst (λ (z : Page). Grown z.words y.words) h.1 g.2)
same_lies n nx (x ∷ xs) (y ∷ ys) j p g (inr h) =
    let r = same_lies n (Some x.number) xs ys j p g.3 h in
    (r.0, inr (subst (λ (z : ℕ). Lies n (Some z) ys j r.0) g.0 r.1), r.2)

record Kept (n : ℕ) (nx : Option ℕ) (qs : List Page) (j : Option ℕ) (p : Page) : Type 0 where
  next : Option ℕ
  page : Page
  lies : Lies n nx qs next page
  link : (next ≡ j) ⊎ (j ≡ None)
  grown : Grown p.words page.words

top_lies : (n : ℕ) (nx : Option ℕ) (ps qs : List Page) (j : Option ℕ) (p : Page) → TopGrown ps qs → Lies n None ps j p → Kept n nx qs j p
unfolding Lies TopGrown
top_lies n nx [] qs j p g h = absurd h
top_lies n nx (x ∷ xs) [] j p g h = absurd g
top_lies n nx (x ∷ xs) (y ∷ ys) j p g (inl h) = record {
  next = nx;
  page = y;
  lies = inl (sym g.0 ∙ h.0, refl, refl);
  link = inr (sym h.2);
  grown = subst (λ (z : Page). Grown z.words y.words) h.1 g.1;
}
top_lies n nx (x ∷ xs) (y ∷ ys) j p g (inr h) =
    let r = same_lies n (Some x.number) xs ys j p g.2 h in
    record { next = j; page = r.0; lies = inr (subst (λ (z : ℕ). Lies n (Some z) ys j r.0) g.0 r.1); link = inl refl; grown = r.2 }

join_lies : (n : ℕ) (nx : Option ℕ) (js ps qs : List Page) (j : Option ℕ) (p : Page) → TopGrown ps qs → Lies n None ps j p → Kept n nx (js ++ qs) j p
unfolding Lies
join_lies n nx [] ps qs j p g h = top_lies n nx ps qs j p g h
join_lies n nx (x ∷ xs) ps qs j p g h =
    let r = join_lies n (Some x.number) xs ps qs j p g h in
    record { next = r.next; page = r.page; lies = inr r.lies; link = r.link; grown = r.grown }

-- the place of a page in a newer copy: in the same region, with what stood there, or more
pub record Carried (gs hs : List Region) (n : ℕ) (h : Home gs n) : Type 0 where
  pub home : Home hs n
  pub stamp : home.region.stamp ≡ h.region.stamp
  pub link : (home.next ≡ h.next) ⊎ (h.next ≡ None)
  pub grown : Grown h.page.words home.page.words

module _ (old new : Copy) (grown : CopyGrown new old) where
  pub carry : (n : ℕ) (h : Home old.regions n) → live new h.region.stamp ≡ true → Carried old.regions new.regions n h
  unfolding CopyGrown
  carry n h e =
      let x = some_at (stamped h.region.stamp) new.regions e in
      let s : x.0.stamp ≡ h.region.stamp = eqb-true x.0.stamp h.region.stamp x.2 in
      let g = grown x.0 h.region x.1 h.among s in
      let r = subst (λ (l : List Page). Kept n None l h.next h.page) (sym g.split) (join_lies n None g.joined h.region.pages g.since h.next h.page g.grown h.lies) in
      record { home = record { region = x.0; among = x.1; next = r.next; page = r.page; lies = r.lies }; stamp = s; link = r.link; grown = r.grown }

-- ---- and back: a list that holds the page that joined after n holds n, since lists grow at their newer end only

split_lies : (n : ℕ) (nx : Option ℕ) (js qs : List Page) (q : ℕ) (p : Page) → (nx ≡ Some q → ⊥) → Each (λ (j : Page). j.number ≢ q) js → Lies n nx (js ++ qs) (Some q) p → Lies n None qs (Some q) p
unfolding Lies
split_lies n nx [] [] q p z e h = absurd h
split_lies n nx [] (x ∷ xs) q p z e (inl h) = absurd (z h.2)
split_lies n nx [] (x ∷ xs) q p z e (inr h) = inr h
split_lies n nx (j ∷ js) qs q p z e (inl h) = absurd (z h.2)
split_lies n nx (j ∷ js) qs q p z e (inr h) = split_lies n (Some j.number) js qs q p (λ i. e.0 (some_injective j.number q i)) e.1 h

same_back : (n : ℕ) (nx : Option ℕ) (ps qs : List Page) (j : Option ℕ) (p : Page) → SamePages ps qs → Lies n nx qs j p → (r : Page) × Lies n nx ps j r
unfolding Lies SamePages
same_back n nx [] [] j p g h = absurd h
same_back n nx [] (y ∷ ys) j p g h = absurd g
same_back n nx (x ∷ xs) [] j p g h = absurd g
same_back n nx (x ∷ xs) (y ∷ ys) j p g (inl h) = (x, inl (g.0 ∙ h.0, refl, h.2))
same_back n nx (x ∷ xs) (y ∷ ys) j p g (inr h) =
    let r = same_back n (Some y.number) xs ys j p g.3 h in
    (r.0, inr (subst (λ (z : ℕ). Lies n (Some z) xs j r.0) (sym g.0) r.1))

top_back : (n : ℕ) (ps qs : List Page) (q : ℕ) (p : Page) → TopGrown ps qs → Lies n None qs (Some q) p → (r : Page) × Lies n None ps (Some q) r
unfolding Lies TopGrown
top_back n [] qs q p g h = absurd g
top_back n (x ∷ xs) [] q p g h = absurd g
top_back n (x ∷ xs) (y ∷ ys) q p g (inl h) = absurd (none_ne_some q h.2)
top_back n (x ∷ xs) (y ∷ ys) q p g (inr h) =
    let r = same_back n (Some y.number) xs ys (Some q) p g.2 h in
    (r.0, inr (subst (λ (z : ℕ). Lies n (Some z) xs (Some q) r.0) (sym g.0) r.1))

not_before : (js qs : List Page) (q : ℕ) (nx i : Option ℕ) (p : Page) → Nodup (map (λ (x : Page). x.number) (js ++ qs)) → Lies q nx qs i p → Each (λ (j : Page). j.number ≢ q) js
not_before [] qs q nx i p d h = tt
not_before (j ∷ js) qs q nx i p d h = (
  λ z. (Nodup-cons.0 d).0 ∣ map_mem (λ (x : Page). x.number) (js ++ qs) p j.number (mem_right js qs p (lies_mem q nx qs i p h)) (z ∙ sym (lies_number q nx qs i p h)) ∣₁,
  not_before js qs q nx i p (Nodup-cons.0 d).1 h,
)

grown_back : (n : ℕ) (old new : Region) (q : ℕ) (p : Page) → Nodup (map (λ (x : Page). x.number) new.pages) → RegionGrown old new →
    Lies n None new.pages (Some q) p → (j : Option ℕ) (r : Page) → Lies q None old.pages j r → (x : Page) × Lies n None old.pages (Some q) x
grown_back n old new q p d g h j r i =
    let t = top_lies q None old.pages g.since j r g.grown i in
    let e = not_before g.joined g.since q None t.next t.page (subst (λ (l : List Page). Nodup (map (λ (x : Page). x.number) l)) g.split d) t.lies in
    top_back n old.pages g.since q p g.grown
    (split_lies n None g.joined g.since q p (none_ne_some q) e (subst (λ (l : List Page). Lies n None l (Some q) p) g.split h))

-- the newer copy holds page n with page q after it, and the older one holds q
pub carry_back : (old new : Copy) → CopyGrown new old → (n q : ℕ) (h : Home new.regions n) → h.next ≡ Some q → Nodup (map (λ (x : Page). x.number) h.region.pages) →
    (i : Home old.regions q) → h.region.stamp ≡ i.region.stamp → (j : Home old.regions n) × (j.region ≡ i.region) × (j.next ≡ Some q)
unfolding CopyGrown
carry_back old new grown n q h e d i s =
    let l = subst (λ (j : Option ℕ). Lies n None h.region.pages j h.page) e h.lies in
    let r = grown_back n i.region h.region q h.page d (grown h.region i.region h.among i.among s) l i.next i.page i.lies in
    (record { region = i.region; among = i.among; next = Some q; page = r.0; lies = r.1 }, refl, refl)
