-- One turn of deref: what is left of it when k of n cells have been looked at.
use Rattle.std.proofs.Common.{◌≡◌, ℕ, suc, ◌+◌, ◌-◌, ◌<◌, ◌≤◌, List, get_or, arith, if◌then◌else◌}
use Rattle.words.specs.declared.Ref.{Ref}
use Rattle.words.specs.Words.{unpack_heap}
use Rattle.machine.specs.declared.Found.TheVariants.{Dead}
use Rattle.store.specs.Pages.{live_ref}
use Rattle.terms.specs.Deref.{on_word, deref_in}

module _ (h u : List ℕ) (n k : ℕ) (r : Ref) where
  pub deref_turn : k < n →
      deref_in (n - k) h u r
      ≡ (if live_ref h u r then on_word r (unpack_heap 12 (get_or h r.address 0)) (λ s. deref_in (n - (k + 1)) h u s) else Dead)
  unfolding deref_in
  deref_turn l = let e : n - k ≡ suc (n - (k + 1)) = omega arith in rw e

  pub deref_spent : n ≤ k → deref_in (n - k) h u r ≡ Dead
  unfolding deref_in
  deref_spent l = let e : n - k ≡ 0 = omega arith in rw e
