-- The oldest and the newest of the copies 1 .. n that pass a test; 0 if none does. And a table of a function's values.
use Rattle.std.specs.Prelude.{Bool, List, [], ◌∷◌, ℕ, zero, suc, eqb, if◌then◌else◌}

unfoldable pub oldest : (ℕ → Bool) → ℕ → ℕ
oldest p zero = 0
oldest p (suc n) = if eqb (oldest p n) 0 then (if p (suc n) then suc n else 0) else oldest p n

unfoldable pub newest : (ℕ → Bool) → ℕ → ℕ
newest p zero = 0
newest p (suc n) = if p (suc n) then suc n else newest p n

-- f 0, f 1, .., as many as the number says
unfoldable pub tab : ℕ → (ℕ → ℕ) → List ℕ
tab zero f = []
tab (suc n) f = f zero ∷ tab n (λ i. f (suc i))
