use Rattle.std.proofs.Common.{◌≡◌, ◌+◌, ◌-◌}
use Rattle.terms.specs.Build.{arguments_put}
use Rattle.terms.proofs.arguments.Arguments.put.Given as goal

abbrev pub invariant-loop-k : goal.invariant-loop-k
invariant-loop-k l = arguments_put l.tables (l.self.arity - l.k) (l.self.first + l.k) (l.k + 1) l.term ≡ arguments_put l.tables l.self.arity l.self.first 1 l.fn.term
