-- What is packed into a heap word or a register word is read back, for every address width k from 4 to 16. So two values with one word are one.
use mathlib.Core.Path.{◌≡◌, refl, sym, ap, ◌∙◌, subst}
use mathlib.Core.Logic.{◌≢◌}
use Rattle.std.specs.Prelude.{Option, Some, None}
use Prim.Native.Nat.{ℕ, ◌+◌, ◌-◌, ◌*◌, ◌^◌, ◌≤◌, ◌<◌}
use native.Mathlib.Omega.{arith}
use lib.IntN.{ℤ}
use lib.Pow.{shl_lt, pow_pos}
use Rattle.words.specs.declared.Ref.{Ref}
use Rattle.words.specs.declared.Cell.{Cell}
use Rattle.words.specs.declared.Cell.TheVariants.{Unbound, Bound, Int, Head, Argument}
use Rattle.words.specs.declared.Word.{Word}
use Rattle.words.specs.declared.Register.{Register}
use Rattle.words.specs.declared.Register.TheVariants.{Empty, Region, Term}
use Rattle.words.specs.Fields.{bits, tagged, tag_of}
use Rattle.words.specs.Integers.{bits_of, int_of, IntIn}
use Rattle.words.specs.Words.{ref_bits, cell_word, link_word, register_word, heap_word, stamp_of, address_of, ref_of, heap_reading, register_reading}
use Rattle.words.specs.Fit.{RefFits, CellFits, cell_tag, NextFits, has_next, next_page, WordFits, RegisterFits, register_tag}
use Rattle.words.proofs.Fields.{bits_at}
use Rattle.words.proofs.Ints.{int_bits, int_below}

-- ---- a tag, then 32 bits, then x

tag_back : (t x : ℕ) → t < 16 → x < 2 ^ 60 → tag_of (tagged t x) ≡ t
tag_back t x ht hx = omega arith

stamp_back : (t s x : ℕ) → s < 2 ^ 32 → x < 2 ^ 28 → stamp_of (tagged t (s * 2 ^ 28 + x)) ≡ s
stamp_back t s x hs hx = bits_at 28 32 t s x (tagged t (s * 2 ^ 28 + x)) (omega arith) hs hx

stamp_alone : (t s : ℕ) → s < 2 ^ 32 → stamp_of (tagged t (s * 2 ^ 28)) ≡ s
stamp_alone t s hs = bits_at 28 32 t s 0 (tagged t (s * 2 ^ 28)) (omega arith) hs (omega arith)

-- the 60 bits after the tag
below_tag : (s x : ℕ) → s < 2 ^ 32 → x < 2 ^ 28 → s * 2 ^ 28 + x < 2 ^ 60
below_tag s x hs hx = omega arith

tagged_room : (t x : ℕ) → t < 16 → x < 2 ^ 60 → tagged t x < 2 ^ 64
tagged_room t x ht hx = omega arith

int_back : (v : ℤ) → IntIn v → int_of (stamp_of (tagged 3 (bits_of v * 2 ^ 28))) ≡ v
int_back v h = rw (stamp_alone 3 (bits_of v) (int_below v h)) (int_bits v h)

functor_back : (f n : ℕ) → f < 2 ^ 16 → n ≤ 14 → bits 44 16 (tagged 4 (f * 2 ^ 44 + n * 2 ^ 40)) ≡ f
functor_back f n hf hn = bits_at 44 16 4 f (n * 2 ^ 40) (tagged 4 (f * 2 ^ 44 + n * 2 ^ 40)) (omega arith) hf (omega arith)

arity_back : (f n : ℕ) → f < 2 ^ 16 → n ≤ 14 → bits 40 4 (tagged 4 (f * 2 ^ 44 + n * 2 ^ 40)) ≡ n
arity_back f n hf hn = bits_at 40 4 (4 * 2 ^ 16 + f) n 0 (tagged 4 (f * 2 ^ 44 + n * 2 ^ 40)) (omega arith) (omega arith) (omega arith)

-- has-next and the next page say whether there is one, and which
next_same : (i j : Option ℕ) → has_next i ≡ has_next j → next_page i ≡ next_page j → i ≡ j
unfolding has_next next_page
next_same None None f p = refl
next_same None (Some n) f p = absurd (omega arith)
next_same (Some m) None f p = absurd (omega arith)
next_same (Some m) (Some n) f p = ap Some p

module _ (k : ℕ) (low : 4 ≤ k) (high : k ≤ 16) where
  -- ---- a tag, a stamp, then what stands at the address or at the next page

  address_room : (a : ℕ) → a < 2 ^ k → a * 2 ^ (28 - k) < 2 ^ 28
  address_room a h =
      let e : k + (28 - k) ≡ 28 = omega arith in
      subst (λ (n : ℕ). a * 2 ^ (28 - k) < 2 ^ n) e (shl_lt k (28 - k) h)

  ref_room : (r : Ref) → RefFits k r → ref_bits k r < 2 ^ 60
  ref_room r h = below_tag r.stamp (r.address * 2 ^ (28 - k)) h.stamp (address_room r.address h.address)

  address_back : (t : ℕ) (r : Ref) → RefFits k r → address_of k (tagged t (ref_bits k r)) ≡ r.address
  address_back t r h = bits_at (28 - k) k (t * 2 ^ 32 + r.stamp) r.address 0 (tagged t (ref_bits k r)) parts h.address (pow_pos (28 - k))
    where
      e : k + (28 - k) ≡ 28
      e = omega arith

      parts : tagged t (ref_bits k r) ≡ (t * 2 ^ 32 + r.stamp) * 2 ^ (k + (28 - k)) + r.address * 2 ^ (28 - k) + 0
      parts = rw e (omega arith)

  ref_back : (t : ℕ) (r : Ref) → RefFits k r → ref_of k (tagged t (ref_bits k r)) ≡ r
  ref_back t r h =
      let s : stamp_of (tagged t (ref_bits k r)) ≡ r.stamp = stamp_back t r.stamp (r.address * 2 ^ (28 - k)) h.stamp (address_room r.address h.address) in
      let a : address_of k (tagged t (ref_bits k r)) ≡ r.address = address_back t r h in
      λ i. record { stamp = s i; address = a i }

  -- ---- links, word 0 of a held page

  -- the 28 bits of a link after its stamp
  abbrev next_bits : Option ℕ → ℕ
  next_bits next = has_next next * 2 ^ 27 + next_page next * 2 ^ (31 - k)

  link_is : (s : ℕ) (next : Option ℕ) → link_word k s next ≡ tagged 6 (s * 2 ^ 28 + next_bits next)
  unfolding link_word has_next next_page
  link_is s None = omega arith
  link_is s (Some n) = omega arith

  flag_room : (next : Option ℕ) → has_next next < 2
  unfolding has_next
  flag_room None = omega arith
  flag_room (Some n) = omega arith

  page_room : (next : Option ℕ) → NextFits k next → next_page next < 2 ^ (k - 4)
  unfolding NextFits next_page
  page_room None h = pow_pos (k - 4)
  page_room (Some n) h = h

  next_room : (next : Option ℕ) → NextFits k next → next_page next * 2 ^ (31 - k) < 2 ^ 27
  next_room next h =
      let e : (k - 4) + (31 - k) ≡ 27 = omega arith in
      subst (λ (j : ℕ). next_page next * 2 ^ (31 - k) < 2 ^ j) e (shl_lt (k - 4) (31 - k) (page_room next h))

  link_room : (next : Option ℕ) → NextFits k next → next_bits next < 2 ^ 28
  link_room next h = omega (arith, flag_room next, next_room next h)

  pub link_tag : (s : ℕ) → s < 2 ^ 32 → (next : Option ℕ) → NextFits k next → tag_of (link_word k s next) ≡ 6
  link_tag s hs next h = ap tag_of (link_is s next) ∙ tag_back 6 (s * 2 ^ 28 + next_bits next) (omega arith) (below_tag s (next_bits next) hs (link_room next h))

  pub link_below : (s : ℕ) → s < 2 ^ 32 → (next : Option ℕ) → NextFits k next → link_word k s next < 2 ^ 64
  link_below s hs next h = rw link_is (tagged_room 6 (s * 2 ^ 28 + next_bits next) (omega arith) (below_tag s (next_bits next) hs (link_room next h)))

  -- the word 0 of a held page is not empty
  pub link_filled : (s : ℕ) (next : Option ℕ) → link_word k s next ≢ 0
  link_filled s next e = omega (arith, sym (link_is s next) ∙ e)

  pub link_stamp : (s : ℕ) → s < 2 ^ 32 → (next : Option ℕ) → NextFits k next → stamp_of (link_word k s next) ≡ s
  link_stamp s hs next h = ap stamp_of (link_is s next) ∙ stamp_back 6 s (next_bits next) hs (link_room next h)

  flag_back : (s : ℕ) (next : Option ℕ) → NextFits k next → bits 27 1 (link_word k s next) ≡ has_next next
  flag_back s next h =
      bits_at 27 1 (6 * 2 ^ 32 + s) (has_next next) (next_page next * 2 ^ (31 - k)) (link_word k s next) (omega (arith, link_is s next)) (flag_room next) (next_room next h)

  page_back : (s : ℕ) (next : Option ℕ) → NextFits k next → bits (31 - k) (k - 4) (link_word k s next) ≡ next_page next
  page_back s next h =
      bits_at (31 - k) (k - 4) (6 * 2 ^ 33 + s * 2 + has_next next) (next_page next) 0 (link_word k s next) parts (page_room next h) (pow_pos (31 - k))
    where
      e : (k - 4) + (31 - k) ≡ 27
      e = omega arith

      parts : link_word k s next ≡ (6 * 2 ^ 33 + s * 2 + has_next next) * 2 ^ ((k - 4) + (31 - k)) + next_page next * 2 ^ (31 - k) + 0
      parts = rw e (omega (arith, link_is s next))

  -- has-next and the next page
  pub link_next : (s : ℕ) (next : Option ℕ) → NextFits k next →
      (bits 27 1 (link_word k s next) ≡ has_next next) × (bits (31 - k) (k - 4) (link_word k s next) ≡ next_page next)
  link_next s next h = (flag_back s next h, page_back s next h)

  -- a link's word says which link it is
  pub link_same : (s t : ℕ) → s < 2 ^ 32 → t < 2 ^ 32 → (i j : Option ℕ) → NextFits k i → NextFits k j → link_word k s i ≡ link_word k t j → (s ≡ t) × (i ≡ j)
  link_same s t hs ht i j hi hj e = (
    sym (link_stamp s hs i hi) ∙ ap stamp_of e ∙ link_stamp t ht j hj,
    next_same i j
        (sym (link_next s i hi).0 ∙ ap (bits 27 1) e ∙ (link_next t j hj).0)
        (sym (link_next s i hi).1 ∙ ap (bits (31 - k) (k - 4)) e ∙ (link_next t j hj).1),
  )

  -- ---- cells

  -- the 60 bits of a cell's word after its tag
  abbrev cell_rest : Cell → ℕ
  cell_rest Unbound = 0
  cell_rest (Bound r) = ref_bits k r
  cell_rest (Int v) = bits_of v * 2 ^ 28
  cell_rest (Head f n) = f * 2 ^ 44 + n * 2 ^ 40
  cell_rest (Argument r) = ref_bits k r

  cell_is : (c : Cell) → cell_word k c ≡ tagged (cell_tag c) (cell_rest c)
  unfolding cell_word cell_tag
  cell_is Unbound = refl
  cell_is (Bound r) = refl
  cell_is (Int v) = refl
  cell_is (Head f n) = refl
  cell_is (Argument r) = refl

  cell_room : (c : Cell) → CellFits k c → cell_rest c < 2 ^ 60
  unfolding CellFits
  cell_room Unbound h = omega arith
  cell_room (Bound r) h = ref_room r h
  cell_room (Int v) h = omega (arith, int_below v h)
  cell_room (Head f n) h = omega arith
  cell_room (Argument r) h = ref_room r h

  tag_in : (c : Cell) → (0 < cell_tag c) × (cell_tag c < 6)
  unfolding cell_tag
  tag_in Unbound = omega arith
  tag_in (Bound r) = omega arith
  tag_in (Int v) = omega arith
  tag_in (Head f n) = omega arith
  tag_in (Argument r) = omega arith

  pub cell_tag_lem : (c : Cell) → CellFits k c → tag_of (cell_word k c) ≡ cell_tag c
  cell_tag_lem c h = ap tag_of (cell_is c) ∙ tag_back (cell_tag c) (cell_rest c) (omega (arith, tag_in c)) (cell_room c h)

  pub cell_below : (c : Cell) → CellFits k c → cell_word k c < 2 ^ 64
  cell_below c h = rw cell_is (tagged_room (cell_tag c) (cell_rest c) (omega (arith, tag_in c)) (cell_room c h))

  -- a word that carries a term is not empty
  pub cell_filled : (c : Cell) → cell_word k c ≢ 0
  cell_filled c e = omega (arith, tag_in c, sym (cell_is c) ∙ e)

  -- ---- heap words and register words, read back

  pub cell_back : (c : Cell) → CellFits k c → heap_reading k (cell_word k c) ≡ Word.Filled c
  unfolding heap_reading cell_word CellFits cell_tag
  cell_back Unbound h = refl
  cell_back (Bound r) h = rw (cell_tag_lem (Bound r) h) (ap (λ (x : Ref). Word.Filled (Bound x)) (ref_back 2 r h))
  cell_back (Int v) h = rw (cell_tag_lem (Int v) h) (ap (λ (x : ℤ). Word.Filled (Int x)) (int_back v h))
  cell_back (Head f n) h =
      let a : bits 44 16 (cell_word k (Head f n)) ≡ f = functor_back f n h.0 h.1 in
      let b : bits 40 4 (cell_word k (Head f n)) ≡ n = arity_back f n h.0 h.1 in
      rw (cell_tag_lem (Head f n) h) (λ i. Word.Filled (Head (a i) (b i)))
  cell_back (Argument r) h = rw (cell_tag_lem (Argument r) h) (ap (λ (x : Ref). Word.Filled (Argument x)) (ref_back 5 r h))

  link_back : (s : ℕ) (next : Option ℕ) → s < 2 ^ 32 → NextFits k next → heap_reading k (link_word k s next) ≡ Word.Linked (record { stamp = s; next = next })
  unfolding heap_reading NextFits has_next next_page
  link_back s None h l = rw (link_tag s h None tt, (link_next s None tt).0, link_stamp s h None tt)
  link_back s (Some n) h l = rw (link_tag s h (Some n) l, (link_next s (Some n) l).0, (link_next s (Some n) l).1, link_stamp s h (Some n) l)

  pub heap_back : (w : Word) → WordFits k w → heap_reading k (heap_word k w) ≡ w
  unfolding heap_reading heap_word WordFits
  heap_back Word.Empty h = refl
  heap_back (Word.Filled c) h = cell_back c h
  heap_back (Word.Linked l) h = link_back l.stamp l.next h.stamp h.next
  heap_back Word.Broken h = absurd h

  pub register_tag_lem : (r : Register) → RegisterFits k r → tag_of (register_word k r) ≡ register_tag r
  unfolding register_word RegisterFits register_tag
  register_tag_lem Empty h = refl
  register_tag_lem (Region s) h = tag_back 7 (s * 2 ^ 28) (omega arith) (omega arith)
  register_tag_lem (Term r) h = tag_back 8 (ref_bits k r) (omega arith) (ref_room r h)

  pub register_back : (r : Register) → RegisterFits k r → register_reading k (register_word k r) ≡ r
  unfolding register_reading register_word RegisterFits register_tag
  register_back Empty h = refl
  register_back (Region s) h = rw (register_tag_lem (Region s) h) (ap Region (stamp_alone 7 s h))
  register_back (Term r) h = rw (register_tag_lem (Term r) h) (ap Term (ref_back 8 r h))

  pub register_below : (r : Register) → RegisterFits k r → register_word k r < 2 ^ 64
  unfolding register_word RegisterFits
  register_below Empty h = omega arith
  register_below (Region s) h = omega arith
  register_below (Term r) h = tagged_room 8 (ref_bits k r) (omega arith) (ref_room r h)

  -- a cell's word says which cell it is, and a register's which register
  pub cell_same : (v w : Cell) → CellFits k v → CellFits k w → cell_word k v ≡ cell_word k w → v ≡ w
  cell_same v w hv hw e =
      let d : Word.Filled v ≡ Word.Filled w = sym (cell_back v hv) ∙ ap (heap_reading k) e ∙ cell_back w hw in
      cc

  pub register_same : (v w : Register) → RegisterFits k v → RegisterFits k w → register_word k v ≡ register_word k w → v ≡ w
  register_same v w hv hw e = sym (register_back v hv) ∙ ap (register_reading k) e ∙ register_back w hw
