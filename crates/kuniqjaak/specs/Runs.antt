-- A run over the lent words: each step word in order, what it answers and what it leaves.
use Rattle.std.specs.Prelude.{List, [], ◌∷◌, ℕ}
use Rattle.words.specs.Answers.{answer_word}
use Rattle.words.specs.Clip.{clipped_answer}
use Rattle.words.specs.Steps.{decode}
use Rattle.store.specs.Memory.{Memory}
use Rattle.kuniqjaak.specs.declared.Limits.{Limits}
use Rattle.kuniqjaak.specs.Steps.{step_answer, step_tables, step_memory}

-- the lent words of a session: the heap with its marks, and the tables
pub record Session : Type 0 where
  pub memory : Memory
  pub tables : List ℕ

abbrev pub session : Memory → List ℕ → Session
session m t = record { memory = m; tables = t }

-- one step word
abbrev pub answered : Limits → ℕ → Session → ℕ
answered l w s = answer_word (clipped_answer (step_answer l s.tables s.memory (decode w)))

abbrev pub after : Limits → ℕ → Session → Session
after l w s = session (step_memory l s.tables (decode w) s.memory) (step_tables l s.memory (decode w) s.tables)

-- all of them
unfoldable pub answers : Limits → List ℕ → Session → List ℕ
answers l [] s = []
answers l (w ∷ ws) s = answered l w s ∷ answers l ws (after l w s)

unfoldable pub final : Limits → List ℕ → Session → Session
final l [] s = s
final l (w ∷ ws) s = final l ws (after l w s)
