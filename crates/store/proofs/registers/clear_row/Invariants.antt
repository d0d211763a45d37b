use Rattle.laws.proofs.Turns.{Turning}
use Rattle.store.specs.Rows.{register_set}
use Rattle.store.proofs.registers.clear_row.Given as goal

abbrev pub invariant-loop-r : goal.invariant-loop-r
invariant-loop-r l = Turning (λ r t. register_set t l.n r 0) 32 l.r l.fn.tables l.tables
