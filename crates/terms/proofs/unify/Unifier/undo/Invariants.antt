use Rattle.std.specs.Prelude.{◌≡◌}
use Rattle.terms.specs.Took.{word_back, mark_back, undo_of, Stays}
use Rattle.terms.proofs.unify.Unifier.undo.Given as goal

abbrev pub invariant-loop-k : goal.invariant-loop-k
invariant-loop-k l =
    record {
      words : undo_of word_back l.k l.self.trail.now l.self.heap.now.words.now ≡ undo_of word_back l.fn.self.bound l.fn.self.trail.now l.fn.self.heap.now.words.now;
      turned : undo_of mark_back l.k l.self.trail.now l.self.heap.now.turned.now ≡ undo_of mark_back l.fn.self.bound l.fn.self.trail.now l.fn.self.heap.now.turned.now;
      trail : l.self.trail.now ≡ l.fn.self.trail.now;
      bound : l.self.bound ≡ l.fn.self.bound;
      left : l.self.left ≡ l.fn.self.left;
      stays : Stays l.fn.self l.self;
    }
