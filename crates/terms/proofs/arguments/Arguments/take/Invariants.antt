use Rattle.laws.proofs.Turns.{Turning}
use Rattle.store.specs.Rows.{present}
use Rattle.terms.specs.Destruct.{term_taken}
use Rattle.terms.proofs.arguments.Arguments.take.Given as goal

abbrev pub invariant-loop-i : goal.invariant-loop-i
invariant-loop-i l = Turning (term_taken l.view.words.now (present l.fn.tables) l.head l.self.first) l.self.arity l.i l.fn.tables l.tables
