-- The values that a word's format has room for, by the widths of document 01, "Words", "Steps" and "Answer words". What fits is packed without loss.
-- k is the width of an address, and k - 4 the width of a page's number.
use Rattle.std.specs.Prelude.{Option, Some, None, ℕ, ◌-◌, ◌^◌, ◌≤◌, ◌<◌}
use Rattle.words.specs.declared.Ref.{Ref}
use Rattle.words.specs.declared.Cell.{Cell}
use Rattle.words.specs.declared.Cell.TheVariants.{Unbound, Bound, Int, Head, Argument}
use Rattle.words.specs.declared.Link.{Link}
use Rattle.words.specs.declared.Word.{Word}
use Rattle.words.specs.declared.Register.{Register}
use Rattle.words.specs.declared.Register.TheVariants.{Empty, Region, Term}
use Rattle.words.specs.declared.Step.{Step}
use Rattle.words.specs.declared.Step.TheVariants.{Refused, MakeRegion, KillRegion, MakeVar, Integer, Structure, Unify, Deref, Destruct, PushChoice, Cut, Backtrack}
use Rattle.words.specs.declared.Answer.{Answer}
use Rattle.words.specs.Integers.{IntIn}

-- stamp 32, address k
pub record RefFits (k : ℕ) (r : Ref) : Type 0 where
  pub stamp : r.stamp < 2 ^ 32
  pub address : r.address < 2 ^ k

-- an integer of 32 bits; functor 16, arity 0 to 14
unfoldable pub CellFits : ℕ → Cell → Type 0
CellFits k Unbound = Unit {0}
CellFits k (Bound r) = RefFits k r
CellFits k (Int v) = IntIn v
CellFits k (Head f n) = (f < 2 ^ 16) × (n ≤ 14)
CellFits k (Argument r) = RefFits k r

-- the tag of a cell's word
unfoldable pub cell_tag : Cell → ℕ
cell_tag Unbound = 1
cell_tag (Bound r) = 2
cell_tag (Int v) = 3
cell_tag (Head f n) = 4
cell_tag (Argument r) = 5

-- a next page, if there is one
unfoldable pub NextFits : ℕ → Option ℕ → Type 0
NextFits k None = Unit {0}
NextFits k (Some next) = next < 2 ^ (k - 4)

-- a link's fields has-next and next page: both 0 if there is none
unfoldable pub has_next : Option ℕ → ℕ
has_next None = 0
has_next (Some next) = 1

unfoldable pub next_page : Option ℕ → ℕ
next_page None = 0
next_page (Some next) = next

pub record LinkFits (k : ℕ) (l : Link) : Type 0 where
  pub stamp : l.stamp < 2 ^ 32
  pub next : NextFits k l.next

-- a broken word has no format
unfoldable pub WordFits : ℕ → Word → Type 0
WordFits k Word.Empty = Unit {0}
WordFits k (Word.Filled c) = CellFits k c
WordFits k (Word.Linked l) = LinkFits k l
WordFits k Word.Broken = ⊥

unfoldable pub RegisterFits : ℕ → Register → Type 0
RegisterFits k Empty = Unit {0}
RegisterFits k (Region s) = s < 2 ^ 32
RegisterFits k (Term r) = RefFits k r

-- the tag of a register's word
unfoldable pub register_tag : Register → ℕ
register_tag Empty = 0
register_tag (Region s) = 7
register_tag (Term r) = 8

-- registers 5 bits each, functor 16, arity 4, budget 12; what is refused is no step
unfoldable pub StepFits : Step → Type 0
StepFits Refused = ⊥
StepFits (MakeRegion d) = d < 2 ^ 5
StepFits (KillRegion a) = a < 2 ^ 5
StepFits (MakeVar d a) = (d < 2 ^ 5) × (a < 2 ^ 5)
StepFits (Integer d a value) = (d < 2 ^ 5) × (a < 2 ^ 5) × IntIn value
StepFits (Structure d a b f n) = (d < 2 ^ 5) × (a < 2 ^ 5) × (b < 2 ^ 5) × (f < 2 ^ 16) × (n < 2 ^ 4)
StepFits (Unify a b budget) = (a < 2 ^ 5) × (b < 2 ^ 5) × (budget < 2 ^ 12)
StepFits (Deref d a) = (d < 2 ^ 5) × (a < 2 ^ 5)
StepFits (Destruct d a f n) = (d < 2 ^ 5) × (a < 2 ^ 5) × (f < 2 ^ 16) × (n < 2 ^ 4)
StepFits PushChoice = Unit {0}
StepFits Cut = Unit {0}
StepFits Backtrack = Unit {0}

pub record AnswerFits (a : Answer) : Type 0 where
  pub status : a.status < 2 ^ 4
  pub kind : a.kind < 2 ^ 4
  pub pairs : a.pairs < 2 ^ 12
  pub payload : a.payload < 2 ^ 32
