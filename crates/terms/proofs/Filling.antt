-- One turn of the loop that fills the words of a term: what is left of it when i of the words are filled.
use Rattle.std.proofs.Common.{◌≡◌, ℕ, suc, ◌+◌, ◌<◌, ◌≤◌, List, length, get_or, drop, arith, add-one, drop-cons}
use lib.ListN.{drop_of_length-le}
use Rattle.store.specs.Memory.{Memory, fill_at, fill_all}

module _ (n a i : ℕ) (ws : List ℕ) (m : Memory) where
  pub fill_turn : i < length ws → fill_all n (a + i) (drop i ws) m ≡ fill_all n (a + (i + 1)) (drop (i + 1) ws) (fill_at n (a + i) (get_or ws i 0) m)
  unfolding fill_all
  fill_turn h =
      let e : a + i + 1 ≡ a + (i + 1) = omega arith in
      let s : fill_all n (a + i + 1) (drop (suc i) ws) (fill_at n (a + i) (get_or ws i 0) m) ≡ fill_all n (a + (i + 1)) (drop (i + 1) ws) (fill_at n (a + i) (get_or ws i 0) m) = rw (e, add-one i) in
      rw (drop-cons ws i 0 h) s

  pub fill_ends : length ws ≤ i → fill_all n (a + i) (drop i ws) m ≡ m
  unfolding fill_all
  fill_ends h = rw (drop_of_length-le ws h)
