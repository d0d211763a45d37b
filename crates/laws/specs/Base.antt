-- What the definitions use of lists. Nothing here is about the machine.
use Rattle.std.specs.Prelude.{Bool, false, ◌||◌, if◌then◌else◌, List, [], ◌∷◌, ℕ, zero, suc, Option, Some, None}

module _ {A : Type 0} where
  -- the elements that pass the test, in their order
  abbrev pub keep : (A → Bool) → List A → List A
  keep f [] = []
  keep f (x ∷ xs) = if f x then x ∷ keep f xs else keep f xs

  -- the first element that passes the test
  abbrev pub first : (A → Bool) → List A → Option A
  first f [] = None
  first f (x ∷ xs) = if f x then Some x else first f xs

  -- some element passes the test
  abbrev pub some_of : (A → Bool) → List A → Bool
  some_of f [] = false
  some_of f (x ∷ xs) = f x || some_of f xs

-- what follows from a value, if there is one
abbrev pub on_some : {A B : Type 0} → Option A → (A → B) → B → B
on_some (Some x) f z = f x
on_some None f z = z

-- n, n + 1, .., as many as the first number says
abbrev pub from : ℕ → ℕ → List ℕ
from zero n = []
from (suc k) n = n ∷ from k (suc n)

-- P holds at each element
abbrev pub Each : {A : Type 0} → (A → Type 0) → List A → Type 0
Each P [] = Unit {0}
Each P (x ∷ xs) = P x × Each P xs

-- R holds from each element to each later one
abbrev pub Pairs : {A : Type 0} → (A → A → Type 0) → List A → Type 0
Pairs R [] = Unit {0}
Pairs R (x ∷ xs) = Each (R x) xs × Pairs R xs
