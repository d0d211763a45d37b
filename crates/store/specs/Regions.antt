-- The region in a register, if it is in the present copy: its stamp, and its newest page.
use Rattle.std.specs.Prelude.{List, ℕ, Option, Some, None}
use Rattle.laws.specs.Base.{on_some}
use Rattle.store.specs.declared.NewestPage.{NewestPage}
use Rattle.store.specs.Pages.{live_page}
use Rattle.store.specs.Rows.{held_at, on_region}

unfoldable pub home_at : ℕ → ℕ → List ℕ → List ℕ → List ℕ → ℕ → Option NewestPage
home_at first pages h t u a =
    on_region (held_at t a) (λ s. on_some (live_page first pages h u s) (λ p. Some (record { page = p; stamp = s })) None) None

abbrev pub on_home : {A : Type 0} → Option NewestPage → (ℕ → ℕ → A) → A → A
on_home (Some home) f z = f home.page home.stamp
on_home None f z = z
