use Rattle.store.proofs.Passes.{passing}
use Rattle.store.proofs.Heap.undo_cells.Goals as goal

pub loop-a-init : goal.loop-a-init
loop-a-init c = search passing

pub loop-a-preserved : goal.loop-a-preserved
loop-a-preserved c = search passing
