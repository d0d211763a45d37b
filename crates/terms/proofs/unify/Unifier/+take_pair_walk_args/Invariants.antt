-- The cycle of `take_pair` and `walk_args`. The measure: 17 for each pair that may still be taken, more than a structure has arguments; and one for each argument left.
use Rattle.std.proofs.Common.{◌+◌, ◌-◌, ◌*◌}
use Rattle.terms.proofs.unify.Unifier.+take_pair_walk_args.Given as goal

abbrev pub decreases-take_pair : goal.decreases-take_pair
decreases-take_pair l = l.self.now.left * 17

abbrev pub decreases-walk_args : goal.decreases-walk_args
decreases-walk_args l = l.self.now.left * 17 + (l.m - l.i) + 1
