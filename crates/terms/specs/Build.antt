-- Ops 3, 4 and 5 over the lent memory: the words of a term go into a region, and a register refers to the first of them.
use Rattle.std.specs.Prelude.{Bool, List, [], ◌∷◌, ℕ, zero, suc, ◌+◌, ◌*◌, ◌%◌, ◌^◌, leb, ℤ, length, set, Option, Some, None, is_some, if◌then◌else◌}
use Rattle.laws.specs.Base.{on_some}
use Rattle.laws.specs.Loops.{all_of}
use Rattle.words.specs.declared.Ref.{Ref}
use Rattle.words.specs.declared.Cell.TheVariants.{Unbound, Int, Head, Argument}
use Rattle.words.specs.declared.Register.TheVariants.{Term}
use Rattle.words.specs.declared.Answer.{Answer}
use Rattle.words.specs.Words.{cell_word, link_word, register_word, ref_of}
use Rattle.words.specs.Exact.{in_range}
use Rattle.words.specs.Answers.{plain}
use Rattle.store.specs.Pages.{lowest_free, fill}
use Rattle.store.specs.Rows.{present, register_at, register_set}
use Rattle.store.specs.Memory.{Memory, fill_all, next_at}
use Rattle.store.specs.Make.{page_started}
use Rattle.store.specs.declared.NewestPage.{NewestPage}
use Rattle.store.specs.Regions.{home_at, on_home}
use Rattle.terms.specs.Deref.{operand_at}

-- ---- where a term goes. n is the present copy, p the newest page of the region of stamp s

-- page q joins the list after page p
unfoldable pub page_joined : ℕ → ℕ → ℕ → ℕ → Memory → Memory
page_joined n p s q m = next_at (p * 16) (link_word 12 s (Some (q % 2 ^ 16))) (page_started n q s m)

-- the address of a term's first word: after the last filled word of page p if the term fits in the 15 words there, otherwise on the lowest free page
unfoldable pub place_of : ℕ → ℕ → ℕ → List ℕ → List ℕ → Option ℕ
place_of first pages p ws h =
    if leb (fill h p + length ws) 15 then Some (p * 16 + fill h p + 1)
    else on_some (lowest_free first pages h) (λ q. Some (q * 16 + 1)) None

-- the memory with the term there; without a page nothing changes
unfoldable pub placed : ℕ → ℕ → ℕ → ℕ → ℕ → List ℕ → Memory → Memory
placed first pages n p s ws m =
    if leb (fill m.heap p + length ws) 15 then fill_all n (p * 16 + fill m.heap p + 1) ws m
    else on_some (lowest_free first pages m.heap) (λ q. fill_all n (q * 16 + 1) ws (page_joined n p s q m)) m

-- ---- the term is placed, and register d of copy n refers to its first word

-- the cell at an address of 16 bits
abbrev pub cell_of : ℕ → ℕ → Ref
cell_of s a = record { stamp = s; address = a % 2 ^ 16 }

unfoldable pub put_answer : ℕ → ℕ → ℕ → List ℕ → List ℕ → Answer
put_answer first pages p ws h = on_some (place_of first pages p ws h) (λ a. plain 0) (plain 5)

unfoldable pub put_tables : ℕ → ℕ → ℕ → ℕ → ℕ → ℕ → List ℕ → List ℕ → List ℕ → List ℕ
put_tables first pages n d p s ws t h = on_some (place_of first pages p ws h) (λ a. register_set t n d (register_word 12 (Term (cell_of s a)))) t

-- ---- a term of these words goes into the region in register a: 3 without the region, then 4 unless the term is good, then 5 for lack of a page

abbrev pub on_build : {A : Type 0} → Option NewestPage → Bool → (ℕ → A) → (ℕ → ℕ → A) → A
on_build home good refused put = on_home home (λ p s. if good then put p s else refused 4) (refused 3)

unfoldable pub build_answer : ℕ → ℕ → ℕ → Bool → List ℕ → List ℕ → List ℕ → List ℕ → Answer
build_answer first pages a good ws h t u = on_build (home_at first pages h t u a) good (λ s. plain s) (λ p s. put_answer first pages p ws h)

unfoldable pub build_tables : ℕ → ℕ → ℕ → ℕ → Bool → List ℕ → List ℕ → List ℕ → List ℕ → List ℕ
build_tables first pages d a good ws h t u =
    on_build (home_at first pages h t u a) good (λ s. t) (λ p s. put_tables first pages (present t) d p s ws t h)

unfoldable pub build_memory : ℕ → ℕ → ℕ → Bool → List ℕ → List ℕ → Memory → Memory
build_memory first pages a good ws t m =
    on_build (home_at first pages m.heap t m.turned a) good (λ s. m) (λ p s. placed first pages (present t) p s ws m)

-- ---- op 3 and op 4: a variable and an integer, one word each

abbrev pub variable_words : List ℕ
variable_words = cell_word 12 Unbound ∷ []

abbrev pub integer_words : ℤ → List ℕ
integer_words v = cell_word 12 (Int v) ∷ []

-- ---- op 5: a structure of n arguments, in the registers from b on

-- each argument is a term whose region is in the present copy
unfoldable pub arguments_live : ℕ → ℕ → List ℕ → List ℕ → List ℕ → Bool
arguments_live n b h t u = all_of (λ i. is_some (operand_at h t u i)) n b

-- the reference in register i as it stands, not followed, as an argument
unfoldable pub argument_word : List ℕ → ℕ → ℕ
argument_word t i = cell_word 12 (Argument (ref_of 12 (register_at t (present t) i)))

unfoldable pub argument_words : List ℕ → ℕ → ℕ → List ℕ
argument_words t zero b = []
argument_words t (suc n) b = argument_word t b ∷ argument_words t n (suc b)

abbrev pub structure_words : ℕ → ℕ → ℕ → List ℕ → List ℕ
structure_words f n b t = cell_word 12 (Head f n) ∷ argument_words t n b

-- the same words, put one after another from word k of a list on
unfoldable pub arguments_put : List ℕ → ℕ → ℕ → ℕ → List ℕ → List ℕ
arguments_put t zero b k x = x
arguments_put t (suc n) b k x = arguments_put t n (suc b) (suc k) (set x k (argument_word t b))

-- 2 unless the arity is at most 14 and no register is past 31
abbrev pub on_structure : {A : Type 0} → ℕ → ℕ → A → A → A
on_structure n b refused built = if in_range b n then built else refused

unfoldable pub structure_answer : ℕ → ℕ → ℕ → ℕ → ℕ → ℕ → List ℕ → List ℕ → List ℕ → Answer
structure_answer first pages a b f n h t u =
    on_structure n b (plain 2) (build_answer first pages a (arguments_live n b h t u) (structure_words f n b t) h t u)

unfoldable pub structure_tables : ℕ → ℕ → ℕ → ℕ → ℕ → ℕ → ℕ → List ℕ → List ℕ → List ℕ → List ℕ
structure_tables first pages d a b f n h t u =
    on_structure n b t (build_tables first pages d a (arguments_live n b h t u) (structure_words f n b t) h t u)

unfoldable pub structure_memory : ℕ → ℕ → ℕ → ℕ → ℕ → ℕ → List ℕ → Memory → Memory
structure_memory first pages a b f n t m =
    on_structure n b m (build_memory first pages a (arguments_live n b m.heap t m.turned) (structure_words f n b t) t m)
