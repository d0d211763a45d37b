-- The words that are read are those of the definition, for a file of whole words.
use Prim.Native.Nat.{ℕ, zero, suc, ◌+◌, ◌*◌, ◌/◌, ◌%◌, ◌≤◌}
use mathlib.Core.List.{List, [], ◌∷◌, ◌++◌}
use mathlib.Core.Path.{◌≡◌, refl, sym, ap, ◌∙◌}
use native.Mathlib.Omega.{arith}
use lib.ListN.{length, get_or, set, take, drop}
use lib.Seq.{drop-cons, set_at, take_at, append_snoc}
use Rattle.laws.specs.Search.{tab}
use Rattle.laws.specs.Loops.{run}
use Rattle.laws.proofs.Search.{tab_same, length_tab}
use Rattle.machine.specs.Program.{words_from}
use Rattle.listing.specs.File.{four_at, word_at, words_read, steps_of}

-- eight bytes in front of a file: one word more
module _ (a b c d e f g h : ℕ) (rest : List ℕ) where
  abbrev file : List ℕ
  file = a ∷ b ∷ c ∷ d ∷ e ∷ f ∷ g ∷ h ∷ rest

  byte_behind : (m n : ℕ) → m ≡ n + 8 → get_or file m 0 ≡ get_or rest n 0
  byte_behind m n q =
      let z : m ≡ suc (suc (suc (suc (suc (suc (suc (suc n))))))) = omega arith in
      rw z

  four_behind : (m n : ℕ) → m ≡ n + 8 → four_at file m ≡ four_at rest n
  unfolding four_at
  four_behind m n q =
      rw (byte_behind m n q, byte_behind (m + 1) (n + 1) (omega arith), byte_behind (m + 2) (n + 2) (omega arith), byte_behind (m + 3) (n + 3) (omega arith))

  word_behind : (i : ℕ) → word_at file (suc i) ≡ word_at rest i
  unfolding word_at
  word_behind i = rw (four_behind (suc i * 8) (i * 8) (omega arith), four_behind (suc i * 8 + 4) (i * 8 + 4) (omega arith))

  words_more : words_from 0 0 file ≡ word_at file 0 ∷ words_from 0 0 rest
  unfolding words_from word_at four_at
  words_more = ap (λ (w : ℕ). w ∷ words_from 0 0 rest) (omega arith)

  words_on : (k : ℕ) → words_from 0 0 rest ≡ tab k (word_at rest) → words_from 0 0 file ≡ tab (suc k) (word_at file)
  unfolding tab
  words_on k q =
      words_more
      ∙ ap (λ (l : List ℕ). word_at file 0 ∷ l) (q ∙ tab_same k (word_at rest) (λ i. word_at file (suc i)) (λ i l. sym (word_behind i)))

pub words_are : (k : ℕ) (file : List ℕ) → length file ≡ k * 8 → words_from 0 0 file ≡ tab k (word_at file)
unfolding words_from tab
words_are zero [] q = refl
words_are zero (a ∷ l) q = absurd (omega arith)
words_are (suc k) [] q = absurd (omega arith)
words_are (suc k) (a ∷ []) q = absurd (omega arith)
words_are (suc k) (a ∷ b ∷ []) q = absurd (omega arith)
words_are (suc k) (a ∷ b ∷ c ∷ []) q = absurd (omega arith)
words_are (suc k) (a ∷ b ∷ c ∷ d ∷ []) q = absurd (omega arith)
words_are (suc k) (a ∷ b ∷ c ∷ d ∷ e ∷ []) q = absurd (omega arith)
words_are (suc k) (a ∷ b ∷ c ∷ d ∷ e ∷ f ∷ []) q = absurd (omega arith)
words_are (suc k) (a ∷ b ∷ c ∷ d ∷ e ∷ f ∷ g ∷ []) q = absurd (omega arith)
words_are (suc k) (a ∷ b ∷ c ∷ d ∷ e ∷ f ∷ g ∷ h ∷ rest) q = words_on a b c d e f g h rest k (words_are k rest (omega arith))

-- a table that is stored from the start of a list on
tab_snoc : (n : ℕ) (f : ℕ → ℕ) → tab (suc n) f ≡ tab n f ++ (f n ∷ [])
unfolding tab
tab_snoc zero f = refl
tab_snoc (suc n) f = ap (λ (l : List ℕ). f zero ∷ l) (tab_snoc n (λ i. f (suc i)))

stored : (f : ℕ → ℕ) (n : ℕ) (l : List ℕ) → n ≤ length l → run (λ i x. set x i (f i)) n l ≡ tab n f ++ drop n l
unfolding run tab
stored f zero l h = refl
stored f (suc n) l h =
    ap (λ (x : List ℕ). set x n (f n)) (stored f n l (omega arith) ∙ ap (λ (x : List ℕ). tab n f ++ x) (drop-cons l n 0 h))
    ∙ set_at (tab n f) (get_or l n 0) (drop (suc n) l) (f n) n (length_tab n f)
    ∙ sym (append_snoc (tab n f) (f n) (drop (suc n) l))
    ∙ ap (λ (x : List ℕ). x ++ drop (suc n) l) (sym (tab_snoc n f))

module _ (file : List ℕ) (whole : length file % 8 ≡ 0) where
  abbrev count : ℕ
  count = length file / 8

  counted : words_from 0 0 file ≡ tab count (word_at file)
  counted = words_are count file (omega arith)

  pub words_count : length (words_from 0 0 file) ≡ count
  words_count = ap length counted ∙ length_tab count (word_at file)

  -- all of the file is read, and what stood behind it in the list stays
  pub words_read_lem : (words : List ℕ) → count ≤ length words → words_read file count words ≡ words_from 0 0 file ++ drop count words
  unfolding words_read
  words_read_lem words h = stored (word_at file) count words h ∙ ap (λ (l : List ℕ). l ++ drop count words) (sym counted)

-- the steps in the list after a file of k steps was read
pub steps_read : (file : List ℕ) (k : ℕ) (words : List ℕ) → suc k ≤ length words → take k (drop 1 (words_read file (suc k) words)) ≡ steps_of file k
unfolding words_read tab
steps_read file k words h =
    ap (λ (l : List ℕ). take k (drop 1 l)) (stored (word_at file) (suc k) words h)
    ∙ take_at (steps_of file k) (drop (suc k) words) k (length_tab k (λ i. word_at file (suc i)))
