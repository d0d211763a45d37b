use Rattle.laws.proofs.Turns.{Turning}
use Rattle.store.specs.Rows.{register_at, register_set}
use Rattle.store.proofs.registers.copy_row.Given as goal

abbrev pub invariant-loop-r : goal.invariant-loop-r
invariant-loop-r l = Turning (λ r t. register_set t l.target r (register_at t l.source r)) 32 l.r l.fn.tables l.tables
