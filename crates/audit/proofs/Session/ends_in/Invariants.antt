use Rattle.std.proofs.Common.{◌≡◌, ◌-◌}
use Rattle.audit.specs.Links.{ends_in}
use Rattle.audit.proofs.Session.ends_in.Given as goal

abbrev pub invariant-loop-turn : goal.invariant-loop-turn
invariant-loop-turn l = ends_in l.self.view.words.now (l.k - l._turn) l.at ≡ ends_in l.fn.self.view.words.now l.fn.k l.fn.p
