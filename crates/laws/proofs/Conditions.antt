-- Laws of `if`: two tests in one, what holds of both choices, what a function makes of a choice, and what a reader by a test gives.
use Rattle.std.specs.Prelude.{if◌then◌else◌}
use mathlib.Core.Path.{◌≡◌, refl, sym}
use mathlib.Core.Bool.{Bool, true, false, ◌&&◌}
use mathlib.Core.Logic.{◌≢◌}

-- one test in another is both
pub if_both : {A : Type 0} (x y : A) (s t : Bool) → (if t then (if s then x else y) else y) ≡ (if s && t then x else y)
if_both x y true true = refl
if_both x y true false = refl
if_both x y false true = refl
if_both x y false false = refl

pub if_same : {A : Type 0} (x : A) (t : Bool) → x ≡ (if t then x else x)
if_same x true = refl
if_same x false = refl

-- a function of a choice chooses among the function's values
pub if_map : {A B : Type 0} (g : A → B) (b : Bool) (x y : A) → g (if b then x else y) ≡ (if b then g x else g y)
if_map g true x y = refl
if_map g false x y = refl

-- what holds of both choices holds of the one that is taken
pub if_keeps : {A : Type 0} (P : A → Type 0) (b : Bool) (x y : A) → (b ≡ true → P x) → (b ≡ false → P y) → P (if b then x else y)
if_keeps P true x y p q = p refl
if_keeps P false x y p q = q refl

-- what is not refused has passed the test, and is what was read
pub passed : {A : Type 0} (t : Bool) (x y refused : A) → (if t then x else refused) ≡ y → y ≢ refused → (t ≡ true) × (x ≡ y)
passed true x y refused e n = (refl, e)
passed false x y refused e n = absurd (n (sym e))

-- the same of two tests
pub passed_both : {A : Type 0} (s t : Bool) (x y refused : A) → (if s && t then x else refused) ≡ y → y ≢ refused → (s ≡ true) × (t ≡ true) × (x ≡ y)
passed_both true t x y refused e n = (refl, (passed t x y refused e n).0, (passed t x y refused e n).1)
passed_both false t x y refused e n = absurd (n (sym e))
