-- The arguments of a structure: one turn of the loop that gathers them, and the words that it gathers.
use Rattle.std.proofs.Common.{◌≡◌, ℕ, zero, suc, ◌+◌, ◌-◌, ◌<◌, ◌≤◌, List, ◌∷◌, ◌++◌, length, set, take, arith, add-zero, append_assoc}
use mathlib.Core.List.{append-nil}
use lib.ListN.{length-set}
use lib.Seq.{take-suc-set}
use Rattle.terms.specs.Build.{argument_word, argument_words, arguments_put}

-- ---- what is left to put when k of n arguments are put

module _ (t : List ℕ) (n b k : ℕ) (x : List ℕ) where
  pub put_turn : k < n → arguments_put t (n - k) (b + k) (k + 1) x ≡ arguments_put t (n - (k + 1)) (b + (k + 1)) (k + 1 + 1) (set x (k + 1) (argument_word t (b + k)))
  unfolding arguments_put
  put_turn h =
      let z : n - k ≡ suc (n - (k + 1)) = omega arith in
      let u : b + (k + 1) ≡ suc (b + k) = omega arith in
      let v : k + 1 + 1 ≡ suc (k + 1) = omega arith in
      rw (z, u, v)

  pub put_ends : n ≤ k → arguments_put t (n - k) (b + k) (k + 1) x ≡ x
  unfolding arguments_put
  put_ends h = let z : n - k ≡ 0 = omega arith in rw z

-- ---- a structure's words

put_words : (t : List ℕ) (n b k : ℕ) (x : List ℕ) → k + n ≤ length x → take (k + n) (arguments_put t n b k x) ≡ take k x ++ argument_words t n b
unfolding arguments_put argument_words
put_words t zero b k x h = rw (add-zero k, append-nil)
put_words t (suc n) b k x h =
    let l : suc k + n ≤ length (set x k (argument_word t b)) = rw (length-set x k (argument_word t b)) (omega arith) in
    let z : k + suc n ≡ suc k + n = omega arith in
    let s : k < length x = omega arith in
    rw (z, put_words t n (suc b) (suc k) (set x k (argument_word t b)) l, take-suc-set x k (argument_word t b) s, append_assoc)

-- the head, and the arguments after it, in a list with room for them
pub structure_words_lem : (t : List ℕ) (n b w : ℕ) (x : List ℕ) → n ≤ length x → take (n + 1) (arguments_put t n b 1 (w ∷ x)) ≡ w ∷ argument_words t n b
structure_words_lem t n b w x h =
    let z : n + 1 ≡ 1 + n = omega arith in
    rw z (put_words t n b 1 (w ∷ x) (omega arith))
