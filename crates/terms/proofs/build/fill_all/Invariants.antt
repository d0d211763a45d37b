use Rattle.std.proofs.Common.{◌≡◌, ◌+◌, drop}
use Rattle.store.specs.Memory.{memory_in, KeptFilling, fill_all}
use Rattle.terms.proofs.build.fill_all.Given as goal

abbrev pub invariant-loop-i : goal.invariant-loop-i
invariant-loop-i l = record {
  memory : fill_all l.n (l.start + l.i) (drop l.i l.term) (memory_in l.heap) ≡ fill_all l.n l.start l.term (memory_in l.fn.heap);
  kept : KeptFilling l.fn.heap l.heap;
}
