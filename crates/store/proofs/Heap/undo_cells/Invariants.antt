use Rattle.std.proofs.Common.{◌*◌}
use Rattle.store.specs.Undo.{cell_after}
use Rattle.store.proofs.Passes.{Passing}
use Rattle.store.proofs.Heap.undo_cells.Given as goal

abbrev pub invariant-loop-a : goal.invariant-loop-a
invariant-loop-a l = Passing (cell_after l.undo.which l.undo.j l.undo.last) (l.fn.self.pages.count * 16) (l.fn.self.pages.first * 16) l.a l.fn.self l.self
