-- Op 1, makeregion, over the lent memory: what it answers, and the tables and the memory after it.
use Rattle.std.specs.Prelude.{List, ℕ, ◌+◌, ◌*◌, ◌%◌, ◌^◌, leb, eqb, get_or, set, if◌then◌else◌, None}
use Rattle.laws.specs.Base.{on_some}
use Rattle.words.specs.declared.Register.TheVariants.{Region}
use Rattle.words.specs.declared.Answer.{Answer}
use Rattle.words.specs.Words.{link_word, register_word}
use Rattle.words.specs.Answers.{plain}
use Rattle.machine.specs.Run.{last_stamp}
use Rattle.store.specs.Pages.{lowest_free, slot_count}
use Rattle.store.specs.Rows.{present, register_set}
use Rattle.store.specs.Memory.{Memory, fill_at}

-- page p becomes the newest page of the region of stamp s, in copy n: its link has no next page
unfoldable pub page_started : ℕ → ℕ → ℕ → Memory → Memory
page_started n p s m = fill_at n (p * 16) (link_word 12 s None) m

-- the next stamp, 32 bits of word 0 of the tables
unfoldable pub next_stamp : List ℕ → ℕ
next_stamp t = get_or t 0 0 % 2 ^ 32

-- register d of copy n holds the region of stamp s, and the next stamp is the one after
unfoldable pub region_noted : ℕ → ℕ → ℕ → List ℕ → List ℕ
region_noted n d s t = set (register_set t n d (register_word 12 (Region s))) 0 (s + 1)

-- makeregion is refused with 7, then 6, then 5; else the region has the lowest free page
unfoldable pub on_make : {A : Type 0} → ℕ → ℕ → ℕ → List ℕ → List ℕ → (ℕ → A) → (ℕ → A) → A
on_make first pages slots t h refused made =
    if eqb (next_stamp t) last_stamp then refused 7
    else if leb slots (slot_count first pages h) then refused 6
    else on_some (lowest_free first pages h) made (refused 5)

abbrev pub stamp_given : ℕ → Answer
stamp_given s = record { status = 0; kind = 0; pairs = 0; payload = s }

unfoldable pub make_answer : ℕ → ℕ → ℕ → List ℕ → List ℕ → Answer
make_answer first pages slots t h = on_make first pages slots t h (λ s. plain s) (λ p. stamp_given (next_stamp t))

unfoldable pub make_tables : ℕ → ℕ → ℕ → ℕ → List ℕ → List ℕ → List ℕ
make_tables first pages slots d t h = on_make first pages slots t h (λ s. t) (λ p. region_noted (present t) d (next_stamp t) t)

unfoldable pub make_memory : ℕ → ℕ → ℕ → List ℕ → Memory → Memory
make_memory first pages slots t m = on_make first pages slots t m.heap (λ s. m) (λ p. page_started (present t) p (next_stamp t) m)
