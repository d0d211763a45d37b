-- Document 01, "Twelve to prove, in a single table": a case a row, and one computed check. Rows beyond the twelve: step 6's cell of the worked
-- run, the two cases by program, a row for each of the faults we have met, which that fault would break, and what wrong definitions showed that
-- the twelve leave open.
use Rattle.std.specs.Prelude.{Bool, true, false, ◌&&◌, List, [], ◌∷◌, ◌++◌, map, ℕ, zero, suc, eqb, pos, negsuc, get_or, replicate, Some, None}
use Rattle.words.specs.declared.Ref.{Ref}
use Rattle.words.specs.declared.Cell.TheVariants.{Unbound, Bound, Int, Head, Argument}
use Rattle.words.specs.declared.Step.{Step}
use Rattle.words.specs.declared.Step.TheVariants.{MakeRegion, KillRegion, MakeVar, Integer, Structure, Unify, Deref, Destruct, PushChoice, Cut, Backtrack}
use Rattle.words.specs.declared.Answer.{Answer}
use Rattle.words.specs.Words.{cell_word, link_word}
use Rattle.words.specs.Steps.{step_word}
use Rattle.words.specs.Answers.{answer_word, plain}
use Rattle.machine.specs.Copies.{Machine, document, opening}
use Rattle.machine.specs.Run.{answers, final, state_of}
use Rattle.machine.specs.Image.{heap_image}

-- ---- a case and its check

-- a heap cell and the word that it must hold in the end
pub record Holds : Type 0 where
  pub cell : ℕ
  pub word : ℕ

infix 70 ◌↤◌
abbrev ◌↤◌ : ℕ → ℕ → Holds
a ↤ w = record { cell = a; word = w }

-- an opening, the steps, what each answers, and in the end some heap words, free pages, saved copies and the next stamp
pub record Case : Type 0 where
  pub pages : ℕ
  pub stamp : ℕ
  pub steps : List Step
  pub answered : List Answer
  pub heap : List Holds
  pub free : ℕ
  pub choices : ℕ
  pub next : ℕ

unfoldable pub same : List ℕ → List ℕ → Bool
same [] [] = true
same [] (y ∷ ys) = false
same (x ∷ xs) [] = false
same (x ∷ xs) (y ∷ ys) = eqb x y && same xs ys

unfoldable pub heap_holds : List ℕ → List Holds → Bool
heap_holds h [] = true
heap_holds h (x ∷ xs) = eqb (get_or h x.cell 0) x.word && heap_holds h xs

unfoldable pub ends_as : Machine → Case → Bool
ends_as m c =
    heap_holds (heap_image m) c.heap && eqb (state_of m).free c.free && eqb (state_of m).choices c.choices && eqb (state_of m).next c.next

-- the steps go through their words, so that a case tests the decoder too
unfoldable pub holds : Case → Bool
holds c =
    let m = opening (document c.pages) c.stamp in
    let ws = map step_word c.steps in
    same (map answer_word (answers m ws)) (map answer_word c.answered) && ends_as (final m ws) c

unfoldable pub all_hold : List Case → Bool
all_hold [] = true
all_hold (c ∷ cs) = holds c && all_hold cs

-- ---- answers as the document writes them: status, kind, pairs, payload

abbrev ok : Answer
ok = plain 0

abbrev gives : ℕ → Answer
gives v = record { status = 0; kind = 0; pairs = 0; payload = v }

abbrev sees : ℕ → ℕ → Answer
sees k v = record { status = 0; kind = k; pairs = 0; payload = v }

abbrev took : ℕ → ℕ → Answer
took s n = record { status = s; kind = 0; pairs = n; payload = 0 }

abbrev ref : ℕ → ℕ → Ref
ref s a = record { stamp = s; address = a }

-- a term in register a, seen again through the registers d, d + 1, ..
abbrev spread : ℕ → ℕ → ℕ → List Step
spread zero d a = []
spread (suc n) d a = Deref d a ∷ spread n (suc d) a

abbrev oks : ℕ → ℕ → List Answer
oks n k = replicate n (sees k 0)

-- so many accepted makes, the first of which gives that stamp
abbrev makes : ℕ → ℕ → List Answer
makes zero s = []
makes (suc n) s = gives s ∷ makes n (suc s)

-- ---- the table

unfoldable pub cases : List Case
cases =
    -- 1. the run of the document
    record {
      pages = 4;
      stamp = 7;
      steps =
          MakeRegion 0
          ∷ MakeVar 1 0
          ∷ PushChoice
          ∷ MakeRegion 2
          ∷ Integer 3 2 (negsuc 0)
          ∷ Unify 1 3 1
          ∷ Deref 4 1
          ∷ KillRegion 0
          ∷ Deref 4 1
          ∷ Backtrack
          ∷ Deref 4 1
          ∷ Deref 4 3
          ∷ MakeRegion 2
          ∷ [];
      answered = gives 7 ∷ ok ∷ ok ∷ gives 8 ∷ ok ∷ took 0 1 ∷ sees 3 4294967295 ∷ ok ∷ plain 4 ∷ ok ∷ sees 1 0 ∷ plain 4 ∷ gives 9 ∷ [];
      heap = 1 ↤ cell_word 12 Unbound ∷ [];
      free = 2;
      choices = 0;
      next = 10;
    }
    -- step 6 of it leaves 2000000080110000 in cell 1
    ∷ record {
      pages = 4;
      stamp = 7;
      steps = MakeRegion 0 ∷ MakeVar 1 0 ∷ PushChoice ∷ MakeRegion 2 ∷ Integer 3 2 (negsuc 0) ∷ Unify 1 3 1 ∷ [];
      answered = gives 7 ∷ ok ∷ ok ∷ gives 8 ∷ ok ∷ took 0 1 ∷ [];
      heap = 1 ↤ 0x2000000080110000 ∷ [];
      free = 2;
      choices = 1;
      next = 9;
    }
    -- 2. a kill under a choice point holds the page until the cut; the region made then stands on page 0
    ∷ record {
      pages = 2;
      stamp = 1;
      steps = MakeRegion 0 ∷ PushChoice ∷ KillRegion 0 ∷ MakeRegion 1 ∷ MakeRegion 2 ∷ Cut ∷ MakeRegion 2 ∷ [];
      answered = gives 1 ∷ ok ∷ ok ∷ gives 2 ∷ plain 5 ∷ ok ∷ gives 3 ∷ [];
      heap = 0 ↤ link_word 12 3 None ∷ 16 ↤ link_word 12 2 None ∷ [];
      free = 0;
      choices = 0;
      next = 4;
    }
    -- 3. arity 14 fills a page, here the first of a region of its own: the next term there finds no room; arity 15 is 2
    ∷ record {
      pages = 2;
      stamp = 1;
      steps = MakeRegion 0 ∷ MakeRegion 16 ∷ MakeVar 1 0 ∷ spread 13 2 1 ++ (Structure 15 16 1 9 14 ∷ Structure 15 0 1 9 15 ∷ MakeVar 17 16 ∷ []);
      answered = gives 1 ∷ gives 2 ∷ ok ∷ oks 13 1 ++ (ok ∷ plain 2 ∷ plain 5 ∷ []);
      heap = 0 ↤ link_word 12 1 None ∷ 2 ↤ 0 ∷ 16 ↤ link_word 12 2 None ∷ 17 ↤ cell_word 12 (Head 9 14) ∷ 31 ↤ cell_word 12 (Argument (ref 1 1)) ∷ [];
      free = 0;
      choices = 0;
      next = 3;
    }
    -- 4. arguments from b = 18 at arity 14 pass the register test; b = 19 is 2
    ∷ record {
      pages = 2;
      stamp = 1;
      steps = MakeRegion 0 ∷ MakeVar 18 0 ∷ spread 13 19 18 ++ (Structure 1 0 18 9 14 ∷ Structure 1 0 19 9 14 ∷ []);
      answered = gives 1 ∷ ok ∷ oks 13 1 ++ (ok ∷ plain 2 ∷ []);
      heap = 17 ↤ cell_word 12 (Head 9 14) ∷ [];
      free = 0;
      choices = 0;
      next = 2;
    }
    -- 5. f(X) with f(1): budget 1 gives 10, pairs 1, X unbound; budget 2 gives 0, pairs 2
    ∷ record {
      pages = 1;
      stamp = 1;
      steps =
          MakeRegion 0
          ∷ MakeVar 1 0
          ∷ Structure 2 0 1 6 1
          ∷ Integer 3 0 (pos 1)
          ∷ Structure 4 0 3 6 1
          ∷ Unify 2 4 1
          ∷ Deref 5 1
          ∷ Unify 2 4 2
          ∷ Deref 5 1
          ∷ [];
      answered = gives 1 ∷ ok ∷ ok ∷ ok ∷ ok ∷ took 10 1 ∷ sees 1 0 ∷ took 0 2 ∷ sees 3 1 ∷ [];
      heap = 1 ↤ cell_word 12 (Bound (ref 1 4)) ∷ [];
      free = 0;
      choices = 0;
      next = 2;
    }
    -- 6. f(X, 1) with f(2, 3), budget 3: 1, pairs 3, X unbound
    ∷ record {
      pages = 1;
      stamp = 1;
      steps =
          MakeRegion 0
          ∷ MakeVar 1 0
          ∷ Integer 2 0 (pos 1)
          ∷ Structure 3 0 1 6 2
          ∷ Integer 4 0 (pos 2)
          ∷ Integer 5 0 (pos 3)
          ∷ Structure 6 0 4 6 2
          ∷ Unify 3 6 3
          ∷ Deref 7 1
          ∷ [];
      answered = gives 1 ∷ ok ∷ ok ∷ ok ∷ ok ∷ ok ∷ ok ∷ took 1 3 ∷ sees 1 0 ∷ [];
      heap = 1 ↤ cell_word 12 Unbound ∷ [];
      free = 0;
      choices = 0;
      next = 2;
    }
    -- 7. variables in cells 2 and 1: either order binds cell 2
    ∷ record {
      pages = 1;
      stamp = 1;
      steps = MakeRegion 0 ∷ MakeVar 1 0 ∷ MakeVar 2 0 ∷ Unify 2 1 1 ∷ [];
      answered = gives 1 ∷ ok ∷ ok ∷ took 0 1 ∷ [];
      heap = 1 ↤ cell_word 12 Unbound ∷ 2 ↤ cell_word 12 (Bound (ref 1 1)) ∷ [];
      free = 0;
      choices = 0;
      next = 2;
    }
    ∷ record {
      pages = 1;
      stamp = 1;
      steps = MakeRegion 0 ∷ MakeVar 1 0 ∷ MakeVar 2 0 ∷ Unify 1 2 1 ∷ [];
      answered = gives 1 ∷ ok ∷ ok ∷ took 0 1 ∷ [];
      heap = 1 ↤ cell_word 12 Unbound ∷ 2 ↤ cell_word 12 (Bound (ref 1 1)) ∷ [];
      free = 0;
      choices = 0;
      next = 2;
    }
    -- 8. X with X, budget 1: 0. 9. budget 0: 10
    ∷ record {
      pages = 1;
      stamp = 1;
      steps = MakeRegion 0 ∷ MakeVar 1 0 ∷ Unify 1 1 1 ∷ Unify 1 1 0 ∷ [];
      answered = gives 1 ∷ ok ∷ took 0 1 ∷ took 10 0 ∷ [];
      heap = 1 ↤ cell_word 12 Unbound ∷ [];
      free = 0;
      choices = 0;
      next = 2;
    }
    -- 10. stamp 4,294,967,294: the first make gives it, the second 7
    ∷ record {
      pages = 2;
      stamp = 4294967294;
      steps = MakeRegion 0 ∷ MakeRegion 1 ∷ [];
      answered = gives 4294967294 ∷ plain 7 ∷ [];
      heap = [];
      free = 1;
      choices = 0;
      next = 4294967295;
    }
    -- 11. killing twice: 3
    ∷ record {
      pages = 1;
      stamp = 1;
      steps = MakeRegion 0 ∷ KillRegion 0 ∷ KillRegion 0 ∷ [];
      answered = gives 1 ∷ ok ∷ plain 3 ∷ [];
      heap = 0 ↤ 0 ∷ [];
      free = 1;
      choices = 0;
      next = 2;
    }
    -- 12. backtrack at once after opening: 9
    ∷ record { pages = 1; stamp = 1; steps = Backtrack ∷ []; answered = plain 9 ∷ []; heap = []; free = 1; choices = 0; next = 1 }
    -- By program: X1 = f(X1), X2 = f(X2), unify at 4,095: 10, nothing bound beside the two cycles
    ∷ record {
      pages = 1;
      stamp = 1;
      steps =
          MakeRegion 0
          ∷ MakeVar 1 0
          ∷ Structure 2 0 1 6 1
          ∷ Unify 1 2 1
          ∷ MakeVar 3 0
          ∷ Structure 4 0 3 6 1
          ∷ Unify 3 4 1
          ∷ Unify 1 3 4095
          ∷ [];
      answered = gives 1 ∷ ok ∷ ok ∷ took 0 1 ∷ ok ∷ ok ∷ took 0 1 ∷ took 10 4095 ∷ [];
      heap = 1 ↤ cell_word 12 (Bound (ref 1 2)) ∷ 4 ↤ cell_word 12 (Bound (ref 1 5)) ∷ [];
      free = 0;
      choices = 0;
      next = 2;
    }
    -- By program: 32 pushes pass, the 33rd is 8
    ∷ record {
      pages = 256;
      stamp = 1;
      steps = replicate 33 PushChoice;
      answered = replicate 32 ok ++ (plain 8 ∷ []);
      heap = [];
      free = 256;
      choices = 32;
      next = 1;
    }
    -- Fault 1. A binding undone through a page that has since gone to another region: the page of stamp 2 goes to stamp 3, whose integer must stay at
    -- the first backtrack, and the page must be free and zero after the second
    ∷ record {
      pages = 2;
      stamp = 1;
      steps =
          MakeRegion 0
          ∷ PushChoice
          ∷ MakeRegion 1
          ∷ MakeVar 2 1
          ∷ Integer 3 0 (pos 7)
          ∷ PushChoice
          ∷ Unify 2 3 1
          ∷ Cut
          ∷ KillRegion 1
          ∷ MakeRegion 1
          ∷ Integer 2 1 (pos 42)
          ∷ PushChoice
          ∷ Backtrack
          ∷ Deref 4 2
          ∷ Backtrack
          ∷ [];
      answered = gives 1 ∷ ok ∷ gives 2 ∷ ok ∷ ok ∷ ok ∷ took 0 1 ∷ ok ∷ ok ∷ gives 3 ∷ ok ∷ ok ∷ ok ∷ sees 3 42 ∷ ok ∷ [];
      heap = 1 ↤ 0 ∷ 16 ↤ 0 ∷ 17 ↤ 0 ∷ [];
      free = 1;
      choices = 0;
      next = 4;
    }
    -- Fault 2. A kill under a choice point: backtrack must show the pages again ..
    ∷ record {
      pages = 2;
      stamp = 1;
      steps = MakeRegion 0 ∷ Integer 1 0 (pos 5) ∷ PushChoice ∷ KillRegion 0 ∷ MakeRegion 2 ∷ Integer 3 2 (pos 6) ∷ Backtrack ∷ Deref 4 1 ∷ Deref 4 3 ∷ [];
      answered = gives 1 ∷ ok ∷ ok ∷ ok ∷ gives 2 ∷ ok ∷ ok ∷ sees 3 5 ∷ plain 4 ∷ [];
      heap = 0 ↤ link_word 12 1 None ∷ 1 ↤ cell_word 12 (Int (pos 5)) ∷ 16 ↤ 0 ∷ 17 ↤ 0 ∷ [];
      free = 1;
      choices = 0;
      next = 3;
    }
    -- .. and cut must free them
    ∷ record {
      pages = 1;
      stamp = 1;
      steps = MakeRegion 0 ∷ Integer 1 0 (pos 5) ∷ PushChoice ∷ KillRegion 0 ∷ MakeRegion 2 ∷ Cut ∷ MakeRegion 2 ∷ KillRegion 2 ∷ [];
      answered = gives 1 ∷ ok ∷ ok ∷ ok ∷ plain 5 ∷ ok ∷ gives 2 ∷ ok ∷ [];
      heap = 0 ↤ 0 ∷ 1 ↤ 0 ∷ [];
      free = 1;
      choices = 0;
      next = 3;
    }
    -- Fault 3. A stamp counter restored by backtrack: the region made afterwards has a stamp of its own
    ∷ record {
      pages = 1;
      stamp = 1;
      steps = PushChoice ∷ MakeRegion 0 ∷ Backtrack ∷ MakeRegion 0 ∷ [];
      answered = ok ∷ gives 1 ∷ ok ∷ gives 2 ∷ [];
      heap = 0 ↤ link_word 12 2 None ∷ [];
      free = 0;
      choices = 0;
      next = 3;
    }
    -- Fault 4. Bindings left behind by a unification that differed: f(X, Y, 1) with f(2, 3, 4)
    ∷ record {
      pages = 2;
      stamp = 1;
      steps =
          MakeRegion 0
          ∷ MakeVar 1 0
          ∷ MakeVar 2 0
          ∷ Integer 3 0 (pos 1)
          ∷ Structure 7 0 1 6 3
          ∷ Integer 4 0 (pos 2)
          ∷ Integer 5 0 (pos 3)
          ∷ Integer 6 0 (pos 4)
          ∷ Structure 8 0 4 6 3
          ∷ Unify 7 8 9
          ∷ Deref 9 1
          ∷ Deref 9 2
          ∷ [];
      answered = gives 1 ∷ ok ∷ ok ∷ ok ∷ ok ∷ ok ∷ ok ∷ ok ∷ ok ∷ took 1 4 ∷ sees 1 0 ∷ sees 1 0 ∷ [];
      heap = 1 ↤ cell_word 12 Unbound ∷ 2 ↤ cell_word 12 Unbound ∷ [];
      free = 1;
      choices = 0;
      next = 2;
    }
    -- Fault 5. A cut that drops the older record of a region where both choice points have one: X is bound after the first push, Y after the second
    ∷ record {
      pages = 1;
      stamp = 1;
      steps =
          MakeRegion 0
          ∷ MakeVar 1 0
          ∷ MakeVar 2 0
          ∷ PushChoice
          ∷ Integer 3 0 (pos 5)
          ∷ Unify 1 3 1
          ∷ PushChoice
          ∷ Unify 2 3 1
          ∷ Cut
          ∷ Deref 4 2
          ∷ Backtrack
          ∷ Deref 4 1
          ∷ Deref 4 2
          ∷ [];
      answered = gives 1 ∷ ok ∷ ok ∷ ok ∷ ok ∷ took 0 1 ∷ ok ∷ took 0 1 ∷ ok ∷ sees 3 5 ∷ ok ∷ sees 1 0 ∷ sees 1 0 ∷ [];
      heap = 1 ↤ cell_word 12 Unbound ∷ 2 ↤ cell_word 12 Unbound ∷ 3 ↤ 0 ∷ [];
      free = 0;
      choices = 0;
      next = 2;
    }
    -- Beyond these: destruct: another functor, another arity, an integer: 1; the right one gives the argument; an unbound variable: 11
    ∷ record {
      pages = 1;
      stamp = 1;
      steps =
          MakeRegion 0
          ∷ Integer 1 0 (pos 5)
          ∷ Structure 2 0 1 9 1
          ∷ Destruct 3 2 8 1
          ∷ Destruct 3 2 9 2
          ∷ Destruct 3 1 9 1
          ∷ Destruct 3 2 9 1
          ∷ Deref 4 3
          ∷ MakeVar 5 0
          ∷ Destruct 6 5 9 1
          ∷ [];
      answered = gives 1 ∷ ok ∷ ok ∷ plain 1 ∷ plain 1 ∷ plain 1 ∷ ok ∷ sees 3 5 ∷ ok ∷ plain 11 ∷ [];
      heap = [];
      free = 0;
      choices = 0;
      next = 2;
    }
    -- an argument of op 5 is dead: 4; then no region: 3 comes first
    ∷ record {
      pages = 2;
      stamp = 1;
      steps = MakeRegion 0 ∷ MakeVar 1 0 ∷ MakeRegion 2 ∷ KillRegion 0 ∷ Structure 3 2 1 9 1 ∷ Structure 3 0 1 9 1 ∷ [];
      answered = gives 1 ∷ ok ∷ gives 2 ∷ ok ∷ plain 4 ∷ plain 3 ∷ [];
      heap = 0 ↤ 0 ∷ 1 ↤ 0 ∷ [];
      free = 1;
      choices = 0;
      next = 3;
    }
    -- variables of two regions, either order: the larger stamp is bound, though its address is the smaller
    ∷ record {
      pages = 2;
      stamp = 1;
      steps = MakeRegion 0 ∷ MakeRegion 1 ∷ KillRegion 0 ∷ MakeRegion 0 ∷ MakeVar 2 1 ∷ MakeVar 3 0 ∷ Unify 2 3 1 ∷ [];
      answered = gives 1 ∷ gives 2 ∷ ok ∷ gives 3 ∷ ok ∷ ok ∷ took 0 1 ∷ [];
      heap = 1 ↤ cell_word 12 (Bound (ref 2 17)) ∷ 17 ↤ cell_word 12 Unbound ∷ [];
      free = 0;
      choices = 0;
      next = 4;
    }
    -- f(g(X), 1) with f(g(2), 3): depth first, so that the pair X, 2 is taken before the pair that differs
    ∷ record {
      pages = 1;
      stamp = 1;
      steps =
          MakeRegion 0
          ∷ MakeVar 1 0
          ∷ Structure 2 0 1 7 1
          ∷ Integer 3 0 (pos 1)
          ∷ Structure 4 0 2 6 2
          ∷ Integer 1 0 (pos 2)
          ∷ Structure 5 0 1 7 1
          ∷ Integer 6 0 (pos 3)
          ∷ Structure 7 0 5 6 2
          ∷ Unify 4 7 9
          ∷ [];
      answered = gives 1 ∷ ok ∷ ok ∷ ok ∷ ok ∷ ok ∷ ok ∷ ok ∷ ok ∷ took 1 4 ∷ [];
      heap = 1 ↤ cell_word 12 Unbound ∷ [];
      free = 0;
      choices = 0;
      next = 2;
    }
    -- the greatest stamps, bound and followed
    ∷ record {
      pages = 2;
      stamp = 4294967293;
      steps = MakeRegion 0 ∷ MakeRegion 1 ∷ MakeVar 2 0 ∷ MakeVar 3 1 ∷ Unify 2 3 1 ∷ Deref 4 3 ∷ Integer 5 0 (pos 7) ∷ Unify 3 5 1 ∷ Deref 4 3 ∷ [];
      answered = gives 4294967293 ∷ gives 4294967294 ∷ ok ∷ ok ∷ took 0 1 ∷ sees 1 0 ∷ ok ∷ took 0 1 ∷ sees 3 7 ∷ [];
      heap = [];
      free = 0;
      choices = 0;
      next = 4294967295;
    }
    -- integers at their ends
    ∷ record {
      pages = 1;
      stamp = 1;
      steps = MakeRegion 0 ∷ Integer 1 0 (negsuc 2147483647) ∷ Integer 2 0 (pos 2147483647) ∷ Deref 3 1 ∷ Deref 3 2 ∷ Unify 1 2 1 ∷ [];
      answered = gives 1 ∷ ok ∷ ok ∷ sees 3 2147483648 ∷ sees 3 2147483647 ∷ took 1 1 ∷ [];
      heap = 1 ↤ 0x3800000000000000 ∷ 2 ↤ 0x37FFFFFFF0000000 ∷ [];
      free = 0;
      choices = 0;
      next = 2;
    }
    -- destruct into two registers, the first of which held the structure; deref of a structure tells functor and arity in the top 20 bits
    ∷ record {
      pages = 1;
      stamp = 1;
      steps =
          MakeRegion 0 ∷ Integer 1 0 (pos 5) ∷ MakeVar 2 0 ∷ Structure 3 0 1 9 2 ∷ Deref 4 3 ∷ Destruct 3 3 9 2 ∷ Deref 5 3 ∷ Deref 5 4 ∷ [];
      answered = gives 1 ∷ ok ∷ ok ∷ ok ∷ sees 4 598016 ∷ ok ∷ sees 3 5 ∷ sees 1 0 ∷ [];
      heap = 3 ↤ cell_word 12 (Head 9 2) ∷ 4 ↤ cell_word 12 (Argument (ref 1 1)) ∷ 5 ↤ cell_word 12 (Argument (ref 1 2)) ∷ [];
      free = 0;
      choices = 0;
      next = 2;
    }
    -- a term that does not fit starts a page that joins; the slack before it stays lost; the next terms go to the newest page; links name the next page
    ∷ record {
      pages = 4;
      stamp = 1;
      steps = MakeRegion 0 ∷ MakeVar 1 0 ∷ MakeVar 1 0 ∷ spread 12 2 1 ++ (Structure 15 0 1 9 13 ∷ MakeVar 1 0 ∷ MakeVar 1 0 ∷ []);
      answered = gives 1 ∷ ok ∷ ok ∷ oks 12 1 ++ (ok ∷ ok ∷ ok ∷ []);
      heap =
          0 ↤ link_word 12 1 (Some 1)
          ∷ 2 ↤ cell_word 12 Unbound
          ∷ 3 ↤ 0
          ∷ 16 ↤ link_word 12 1 (Some 2)
          ∷ 17 ↤ cell_word 12 (Head 9 13)
          ∷ 31 ↤ cell_word 12 Unbound
          ∷ 32 ↤ link_word 12 1 None
          ∷ 33 ↤ cell_word 12 Unbound
          ∷ [];
      free = 1;
      choices = 0;
      next = 2;
    }
    -- a backtrack takes that page off the list, and the older one is the newest again with its old fill
    ∷ record {
      pages = 2;
      stamp = 1;
      steps = MakeRegion 0 ∷ MakeVar 1 0 ∷ MakeVar 1 0 ∷ spread 12 2 1 ++ (PushChoice ∷ Structure 15 0 1 9 13 ∷ Backtrack ∷ MakeVar 1 0 ∷ []);
      answered = gives 1 ∷ ok ∷ ok ∷ oks 12 1 ++ (ok ∷ ok ∷ ok ∷ ok ∷ []);
      heap = 0 ↤ link_word 12 1 None ∷ 3 ↤ cell_word 12 Unbound ∷ 4 ↤ 0 ∷ 16 ↤ 0 ∷ 17 ↤ 0 ∷ [];
      free = 1;
      choices = 0;
      next = 2;
    }
    -- a stamp takes a slot while a saved copy has the region: the 65th stamp is refused until the cut
    ∷ record {
      pages = 65;
      stamp = 1;
      steps = replicate 64 (MakeRegion 0) ++ (PushChoice ∷ KillRegion 0 ∷ MakeRegion 0 ∷ Cut ∷ MakeRegion 0 ∷ MakeRegion 1 ∷ []);
      answered = makes 64 1 ++ (ok ∷ ok ∷ plain 6 ∷ ok ∷ gives 65 ∷ plain 6 ∷ []);
      heap = [];
      free = 1;
      choices = 0;
      next = 66;
    }
    -- a register that holds no region: 3; no term: 4, at budget 0 too; a live variable bound to a dead cell passes unify's register test, and gives 4
    -- with the pair counted; it is a good argument of op 5, and the argument is handed out dead or not
    ∷ record {
      pages = 2;
      stamp = 1;
      steps =
          MakeRegion 0
          ∷ MakeRegion 1
          ∷ MakeVar 2 0
          ∷ Integer 3 1 (pos 5)
          ∷ Unify 2 3 1
          ∷ KillRegion 1
          ∷ MakeVar 4 2
          ∷ MakeVar 4 1
          ∷ Unify 0 2 0
          ∷ Unify 3 2 1
          ∷ Unify 2 2 1
          ∷ Deref 4 2
          ∷ Structure 4 0 2 9 1
          ∷ Destruct 5 4 9 1
          ∷ Destruct 6 5 9 1
          ∷ [];
      answered =
          gives 1 ∷ gives 2 ∷ ok ∷ ok ∷ took 0 1 ∷ ok ∷ plain 3 ∷ plain 3 ∷ plain 4 ∷ plain 4 ∷ took 4 1 ∷ plain 4 ∷ ok ∷ ok ∷ plain 4 ∷ [];
      heap = 1 ↤ cell_word 12 (Bound (ref 2 17)) ∷ 16 ↤ 0 ∷ 17 ↤ 0 ∷ [];
      free = 1;
      choices = 0;
      next = 3;
    }
    ∷ []
