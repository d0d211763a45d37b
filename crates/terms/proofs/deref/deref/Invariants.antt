use Rattle.std.proofs.Common.{◌≡◌, ◌-◌, length}
use Rattle.terms.specs.Deref.{deref_in, deref_of}
use Rattle.terms.proofs.deref.deref.Given as goal

abbrev pub invariant-loop : goal.invariant-loop
invariant-loop l =
    deref_in (length l.view.words.now - l.counter) l.view.words.now l.view.turned.now l.r
    ≡ deref_of l.view.words.now l.view.turned.now l.fn.r
