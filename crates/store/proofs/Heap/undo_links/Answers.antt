use Rattle.store.proofs.Passes.{passing}
use Rattle.store.proofs.Heap.undo_links.Goals as goal

pub loop-p-init : goal.loop-p-init
loop-p-init c = search passing

pub loop-p-preserved : goal.loop-p-preserved
loop-p-preserved c = search passing
