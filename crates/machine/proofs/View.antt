-- The words and marks that a machine lends are the layers of its copies, so they say each word of each copy.
use Rattle.std.specs.Prelude.{if◌then◌else◌}
use mathlib.Core.Path.{◌≡◌, refl, sym, ap, ◌∙◌}
use mathlib.Core.Bool.{Bool, true, false}
use mathlib.Core.Logic.{◌≢◌}
use Prim.Native.Nat.{ℕ, ◌+◌, ◌-◌, ◌*◌, ◌/◌, ◌%◌, ◌^◌, ◌≤◌, ◌<◌}
use native.Mathlib.Omega.{arith}
use lib.Dec.{leb, eqb}
use lib.ListN.{length, get_or, get_or-eq_default}
use borrow.Author.Tests.{eqb-true}
use Rattle.laws.specs.Search.{oldest, newest}
use Rattle.laws.proofs.Tests.{tests}
use Rattle.laws.proofs.Search.{oldest_same, newest_le, get_or_tab}
use Rattle.words.specs.Fields.{tag_of}
use Rattle.layers.specs.Words.{filled, turned, link_address}
use Rattle.layers.specs.Shows.{holder, mark_of}
use Rattle.layers.specs.Stack.{gone_of, Layers, layers, Same, view_at}
use Rattle.layers.proofs.Stack.{view_at_lem, view_same}
use Rattle.machine.specs.Copies.{Limits, Machine, copies}
use Rattle.machine.specs.Sound.{Sound, PageIn}
use Rattle.machine.specs.Image.{heap_image}
use Rattle.machine.specs.Tables.{numbered, word_in, born_mark, cell_mark, gone_mark, link_mark, turned_mark, Lent, image}
use Rattle.machine.proofs.Turning.{no_link_turned}
use Rattle.machine.proofs.Spots.{Spot, free, held, spot}
use Rattle.machine.proofs.Numbered.{numbered_in}
use Rattle.machine.proofs.Homes.{width, free_word, page_in_lem, cell_no_link}
use Rattle.machine.proofs.Stack.{sound_stack}
use Rattle.machine.proofs.Heap.{heap_length, heap_at}

-- what is lent, by address: the heap has the machine's pages only
unfoldable pub lent_layers : Limits → Lent → Layers
lent_layers l x = record {
  heap = λ a. if leb (l.first * 16) a then get_or x.heap (a - l.first * 16) 0 else 0;
  born = λ a. get_or x.born a 0;
  turns = λ a. get_or x.turned a 0;
}

module _ (m : Machine) (s : Sound m) where
  abbrev count : ℕ
  count = length (copies m)

  born_is : (a : ℕ) → born_mark m a ≡ (layers count (word_in m)).born a
  unfolding born_mark layers mark_of
  born_is a = refl

  link_is : (a : ℕ) → a % 16 ≡ 0 → link_mark m a ≡ gone_of count (holder count (word_in m (link_address a)))
  unfolding link_mark gone_mark gone_of holder
  link_is a z = let e : link_address a ≡ a = omega arith in rw e

  cell_is : (a : ℕ) → a % 16 ≢ 0 → cell_mark m a ≡ oldest (λ c. turned (word_in m a c)) count
  unfolding cell_mark
  cell_is a z =
      oldest_same (λ c. eqb (tag_of (word_in m a c)) 2) (λ c. turned (word_in m a c)) count
      (λ c h k. sym (no_link_turned (word_in m a c) (cell_no_link m s (numbered (copies m) c) (numbered_in (copies m) c h k) a z)))

  turned_is : (a : ℕ) → turned_mark m a ≡ (layers count (word_in m)).turns a
  unfolding turned_mark layers mark_of
  turned_is a = by (eqb (a % 16) 0) refl
    where
      by : (t : Bool) → eqb (a % 16) 0 ≡ t → (if t then link_mark m a else cell_mark m a) ≡ (if t then gone_of count (holder count (word_in m (link_address a))) else oldest (λ c. turned (word_in m a c)) count)
      by true e = link_is a (eqb-true (a % 16) 0 e)
      by false e = cell_is a (omega tests)

  -- a page outside of the machine's is in no region, so its words are zero in every copy
  outside : (a : ℕ) → (PageIn m.limits (a / 16) → ⊥) → (layers count (word_in m)).heap a ≡ 0
  unfolding layers mark_of holder
  outside a z = by (eqb l 0) refl
    where
      l : ℕ
      l = newest (λ c. filled (word_in m (link_address a) c)) count

      zero_in : (c : ℕ) → 0 < c → c ≤ count → Spot (width m) (numbered (copies m) c).regions (a / 16) → word_in m a c ≡ 0
      zero_in c h k (free w e) = free_word (width m) (numbered (copies m) c).regions a e
      zero_in c h k (held i e) = absurd (z (page_in_lem m s (numbered (copies m) c) (numbered_in (copies m) c h k) i))

      by : (t : Bool) → eqb l 0 ≡ t → (if t then 0 else word_in m a l) ≡ 0
      by true e = refl
      by false e = zero_in l (omega tests) (newest_le (λ c. filled (word_in m (link_address a) c)) count) (spot (width m) (numbered (copies m) l).regions (a / 16))

  -- ---- the lent words and marks

  same_heap : (a : ℕ) → (layers count (word_in m)).heap a ≡ (lent_layers m.limits (image m)).heap a
  unfolding image layers lent_layers
  same_heap a = by (leb (m.limits.first * 16) a) (leb ((m.limits.first + m.limits.pages) * 16) a) refl refl
    where
      by : (u v : Bool) → leb (m.limits.first * 16) a ≡ u → leb ((m.limits.first + m.limits.pages) * 16) a ≡ v →
          (layers count (word_in m)).heap a ≡ (if u then get_or (heap_image m) (a - m.limits.first * 16) 0 else 0)
      by false v d e = outside a (λ i. omega tests)
      by true true d e = outside a (λ i. omega tests) ∙ sym (get_or-eq_default (heap_image m) 0 (omega (tests, heap_length m s)))
      by true false d e = sym (heap_at m s a (omega tests) (omega tests))

  -- WHAT IS LENT IS THE LAYERS OF THE COPIES
  pub lent_layers_lem : Same (2 ^ (width m)) (layers count (word_in m)) (lent_layers m.limits (image m))
  unfolding image lent_layers
  lent_layers_lem = record {
    heap = λ a h. same_heap a;
    born = λ a h. sym (born_is a) ∙ sym (get_or_tab (2 ^ (width m)) (born_mark m) a h);
    turns = λ a h. sym (turned_is a) ∙ sym (get_or_tab (2 ^ (width m)) (turned_mark m) a h);
  }

  -- EACH WORD OF EACH COPY IS READ OFF WHAT IS LENT
  pub word_view : (a : ℕ) → a < 2 ^ (width m) → (c : ℕ) → 0 < c → c ≤ count → word_in m a c ≡ view_at (width m) count (lent_layers m.limits (image m)) a c
  unfolding layers
  word_view a h c x y =
      view_at_lem (sound_stack m s) a h c x y
      ∙ view_same (width m) (2 ^ (width m)) count (layers count (word_in m)) (lent_layers m.limits (image m)) lent_layers_lem a h (λ z r. ((sound_stack m s).chained a h z r).0) c

-- so machines of the same limits and as many copies that lend the same have the same words
pub same_words : (m w : Machine) → Sound m → Sound w → m.limits ≡ w.limits → image m ≡ image w → length (copies m) ≡ length (copies w) →
    (a : ℕ) → a < 2 ^ (width m) → (c : ℕ) → 0 < c → c ≤ length (copies m) → word_in m a c ≡ word_in w a c
same_words m w s t limits lent copied a h c x y =
    word_view m s a h c x y ∙ (λ i. view_at (limits i).address (copied i) (lent_layers (limits i) (lent i)) a c)
    ∙ sym (word_view w t a (omega (arith, ap (λ (l : Limits). 2 ^ l.address) limits)) c x (omega arith))
