use Rattle.std.proofs.Common.{rules}
use Rattle.laws.proofs.Turns.{turns, turning_on}
use Rattle.store.proofs.registers.copy_row.Goals as goal

pub loop-r-init : goal.loop-r-init
loop-r-init c = search turns

pub loop-r-preserved : goal.loop-r-preserved
loop-r-preserved c = turning_on _ _ _ _ _ c.loop-r.invariant _ (search rules) (rw c.register-w.ensures at c.set_register.ensures)
