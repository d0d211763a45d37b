-- What a step answers and what it leaves of the lent words, op by op: by the definitions of the store and of the terms.
use Rattle.std.specs.Prelude.{true, List, ℕ}
use Rattle.words.specs.declared.Answer.{Answer}
use Rattle.words.specs.declared.Step.{Step}
use Rattle.words.specs.declared.Step.TheVariants.{Refused, MakeRegion, KillRegion, MakeVar, Integer, Structure, Unify, Deref, Destruct, PushChoice, Cut, Backtrack}
use Rattle.words.specs.Answers.{plain}
use Rattle.store.specs.Memory.{Memory, memory}
use Rattle.store.specs.Make.{make_answer, make_tables, make_memory}
use Rattle.store.specs.Copies.{push_answer, push_tables, drop_answer, backtrack_memory, backtrack_tables, cut_memory, cut_tables, kill_answer, kill_memory}
use Rattle.terms.specs.Build.{variable_words, integer_words, build_answer, build_tables, build_memory, structure_answer, structure_tables, structure_memory}
use Rattle.terms.specs.Deref.{deref_answer, deref_tables}
use Rattle.terms.specs.Destruct.{destruct_answer, destruct_tables}
use Rattle.terms.specs.Unify.{unify_of}
use Rattle.kuniqjaak.specs.declared.Limits.{Limits}

unfoldable pub step_answer : Limits → List ℕ → Memory → Step → Answer
step_answer l t m Refused = plain 2
step_answer l t m (MakeRegion d) = make_answer l.pages.first l.pages.count l.slots t m.heap
step_answer l t m (KillRegion a) = kill_answer l.pages.first l.pages.count t a m
step_answer l t m (MakeVar d a) = build_answer l.pages.first l.pages.count a true variable_words m.heap t m.turned
step_answer l t m (Integer d a v) = build_answer l.pages.first l.pages.count a true (integer_words v) m.heap t m.turned
step_answer l t m (Structure d a b f n) = structure_answer l.pages.first l.pages.count a b f n m.heap t m.turned
step_answer l t m (Unify a b budget) = (unify_of m.heap t m.turned a b budget).answer
step_answer l t m (Deref d a) = deref_answer m.heap t m.turned a
step_answer l t m (Destruct d a f n) = destruct_answer m.heap t m.turned d a f n
step_answer l t m PushChoice = push_answer l.choices t
step_answer l t m Cut = drop_answer t
step_answer l t m Backtrack = drop_answer t

unfoldable pub step_tables : Limits → Memory → Step → List ℕ → List ℕ
step_tables l m Refused t = t
step_tables l m (MakeRegion d) t = make_tables l.pages.first l.pages.count l.slots d t m.heap
step_tables l m (KillRegion a) t = t
step_tables l m (MakeVar d a) t = build_tables l.pages.first l.pages.count d a true variable_words m.heap t m.turned
step_tables l m (Integer d a v) t = build_tables l.pages.first l.pages.count d a true (integer_words v) m.heap t m.turned
step_tables l m (Structure d a b f n) t = structure_tables l.pages.first l.pages.count d a b f n m.heap t m.turned
step_tables l m (Unify a b budget) t = t
step_tables l m (Deref d a) t = deref_tables m.heap t m.turned d a
step_tables l m (Destruct d a f n) t = destruct_tables m.heap t m.turned d a f n
step_tables l m PushChoice t = push_tables l.choices t
step_tables l m Cut t = cut_tables t
step_tables l m Backtrack t = backtrack_tables t

unfoldable pub step_memory : Limits → List ℕ → Step → Memory → Memory
step_memory l t Refused m = m
step_memory l t (MakeRegion d) m = make_memory l.pages.first l.pages.count l.slots t m
step_memory l t (KillRegion a) m = kill_memory l.pages.first l.pages.count t a m
step_memory l t (MakeVar d a) m = build_memory l.pages.first l.pages.count a true variable_words t m
step_memory l t (Integer d a v) m = build_memory l.pages.first l.pages.count a true (integer_words v) t m
step_memory l t (Structure d a b f n) m = structure_memory l.pages.first l.pages.count a b f n t m
step_memory l t (Unify a b budget) m =
    let r = unify_of m.heap t m.turned a b budget in
    memory r.memory.heap m.born r.memory.turned
step_memory l t (Deref d a) m = m
step_memory l t (Destruct d a f n) m = m
step_memory l t PushChoice m = m
step_memory l t Cut m = cut_memory l.pages.first l.pages.count t m
step_memory l t Backtrack m = backtrack_memory l.pages.first l.pages.count t m
