use Rattle.store.specs.Undo.{mark_after}
use Rattle.store.proofs.Passes.{Passing}
use Rattle.store.proofs.Heap.undo_marks.Given as goal

abbrev pub invariant-loop-p : goal.invariant-loop-p
invariant-loop-p l = Passing (mark_after l.undo.which l.undo.j l.undo.last) l.fn.self.pages.count l.fn.self.pages.first l.p l.fn.self l.self
