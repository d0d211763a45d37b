use Rattle.laws.proofs.Turns.{turns}
use Rattle.store.proofs.registers.clear_row.Goals as goal

pub loop-r-init : goal.loop-r-init
loop-r-init c = search turns

pub loop-r-preserved : goal.loop-r-preserved
loop-r-preserved c = search turns
