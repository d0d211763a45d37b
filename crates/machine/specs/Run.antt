-- Document 01, "Steps" and "Answer words": what each step answers and does, and a run over a list of steps.
use Rattle.std.specs.Prelude.{◌&&◌, not, List, [], ◌∷◌, ◌++◌, map, ℕ, zero, suc, ◌+◌, ◌-◌, ◌*◌, ◌^◌, leb, eqb, length, get_or, set, if◌then◌else◌, Option, Some, None}
use Rattle.laws.specs.Base.{keep, first}
use Rattle.words.specs.declared.Ref.{Ref}
use Rattle.words.specs.declared.Cell.{Cell}
use Rattle.words.specs.declared.Cell.TheVariants.{Unbound, Bound, Int, Head, Argument}
use Rattle.words.specs.declared.Register.{Register}
use Rattle.words.specs.declared.Register.TheVariants as Reg
use Rattle.words.specs.declared.Step.{Step}
use Rattle.words.specs.declared.Step.TheVariants.{Refused, MakeRegion, KillRegion, MakeVar, Integer, Structure, Unify, Deref, Destruct, PushChoice, Cut, Backtrack}
use Rattle.words.specs.declared.Answer.{Answer}
use Rattle.words.specs.Integers.{bits_of}
use Rattle.words.specs.Steps.{decode}
use Rattle.words.specs.Answers.{plain}
use Rattle.machine.specs.declared.Found.{Found}
use Rattle.machine.specs.declared.Found.TheVariants.{Dead, At}
use Rattle.machine.specs.declared.State.{State}
use Rattle.machine.specs.Copies.{Page, Region, Copy, Machine, with_copies, Put, free, lowest, stamped, live, slots, put}
use Rattle.machine.specs.Unify.{arguments_at, Solved, solve, deref}

-- ---- answers

-- what a step answers, and the present copy after it
pub record Reply : Type 0 where
  pub answer : Answer
  pub copy : Copy

-- a status other than 0 changes nothing
abbrev pub refuse : Copy → ℕ → Reply
refuse c s = record { answer = plain s; copy = c }

abbrev pub done : Copy → Reply
done c = record { answer = plain 0; copy = c }

-- ---- registers

abbrev pub reg : Copy → ℕ → Register
reg c i = get_or c.registers i Reg.Empty

abbrev pub set_reg : Copy → ℕ → Register → Copy
set_reg c i r = record { registers = set c.registers i r; regions = c.regions }

-- the region in a register, if it is in the copy
unfoldable pub as_region : Copy → Register → Option Region
as_region c Reg.Empty = None
as_region c (Reg.Region s) = first (stamped s) c.regions
as_region c (Reg.Term r) = None

-- the term in a register, if there is one
unfoldable pub as_term : Register → Option Ref
as_term Reg.Empty = None
as_term (Reg.Region s) = None
as_term (Reg.Term r) = Some r

-- the same, and its region is in the copy
unfoldable pub as_live : Copy → Register → Option Ref
as_live c Reg.Empty = None
as_live c (Reg.Region s) = None
as_live c (Reg.Term r) = if live c r.stamp then Some r else None

-- what register i holds, as one of these
abbrev pub region_at : Copy → ℕ → Option Region
region_at c i = as_region c (reg c i)

abbrev pub term_at : Copy → ℕ → Option Ref
term_at c i = as_term (reg c i)

abbrev pub live_at : Copy → ℕ → Option Ref
live_at c i = as_live c (reg c i)

-- ---- op 2: the region leaves the present copy

unfoldable pub kill : Copy → Option Region → Reply
kill c None = refuse c 3
kill c (Some g) = done (record { registers = c.registers; regions = keep (λ h. not (stamped g.stamp h)) c.regions })

-- ---- ops 3 to 5: a term is put into a region, and d refers to its first cell

abbrev pub with_pages : ℕ → List Page → Region → Region
with_pages s ps g = if stamped s g then record { stamp = s; pages = ps } else g

unfoldable pub placed : Copy → ℕ → ℕ → Option Put → Reply
placed c d s None = refuse c 5
placed c d s (Some p) =
    done (record {
      registers = set c.registers d (Reg.Term (record { stamp = s; address = p.address }));
      regions = map (with_pages s p.pages) c.regions;
    })

unfoldable pub build : Option ℕ → Copy → ℕ → Option Region → Option (List Cell) → Reply
build page c d None ws = refuse c 3
build page c d (Some g) None = refuse c 4
build page c d (Some g) (Some ws) = placed c d g.stamp (put page ws g.pages)

-- the arguments of op 5, as they stand in the registers b, b + 1, ..: each a term, none dead
unfoldable pub operand : Option Ref → Option (List Cell) → Option (List Cell)
operand None ws = None
operand (Some r) None = None
operand (Some r) (Some ws) = Some (Argument r ∷ ws)

unfoldable pub operands : ℕ → Copy → ℕ → Option (List Cell)
operands zero c b = Some []
operands (suc n) c b = operand (live_at c b) (operands n c (suc b))

unfoldable pub headed : Cell → Option (List Cell) → Option (List Cell)
headed w None = None
headed w (Some ws) = Some (w ∷ ws)

-- ---- op 6

-- unless the answer is 0, no binding of this step remains
unfoldable pub unified : Copy → ℕ → Solved → Reply
unified c budget r =
    record {
      answer = record { status = r.status; kind = 0; pairs = budget - r.left; payload = 0 };
      copy = if eqb r.status 0 then r.copy else c;
    }

unfoldable pub unify_terms : Copy → Option Ref → Option Ref → ℕ → Reply
unify_terms c None y budget = refuse c 4
unify_terms c (Some r) None budget = refuse c 4
unify_terms c (Some r) (Some s) budget = unified c budget (solve budget c (record { left = r; right = s } ∷ []))

-- ---- op 7

unfoldable pub kind_of : Cell → ℕ
kind_of Unbound = 1
kind_of (Bound r) = 2
kind_of (Int v) = 3
kind_of (Head f n) = 4
kind_of (Argument r) = 5

-- an integer's 32 bits, or functor and arity in the top 20, or 0
unfoldable pub payload_of : Cell → ℕ
payload_of Unbound = 0
payload_of (Bound r) = 0
payload_of (Int v) = bits_of v
payload_of (Head f n) = f * 2 ^ 16 + n * 2 ^ 12
payload_of (Argument r) = 0

unfoldable pub seen : Copy → ℕ → Found → Reply
seen c d Dead = refuse c 4
seen c d (At r w) =
    record { answer = record { status = 0; kind = kind_of w; pairs = 0; payload = payload_of w }; copy = set_reg c d (Reg.Term r) }

unfoldable pub found_from : Copy → Option Ref → Found
found_from c None = Dead
found_from c (Some r) = deref c r

-- ---- op 8

unfoldable pub set_terms : List Ref → ℕ → Copy → Copy
set_terms [] d c = c
set_terms (r ∷ rs) d c = set_terms rs (suc d) (set_reg c d (Reg.Term r))

unfoldable pub apart : Copy → ℕ → ℕ → ℕ → Found → Reply
apart c d f n Dead = refuse c 4
apart c d f n (At r Unbound) = refuse c 11
apart c d f n (At r (Bound s)) = refuse c 4
apart c d f n (At r (Int v)) = refuse c 1
apart c d f n (At r (Head g k)) = if eqb f g && eqb n k then done (set_terms (arguments_at n c r) d c) else refuse c 1
apart c d f n (At r (Argument s)) = refuse c 4

-- ---- the machine

-- what a step answers, and the machine after it
pub record Outcome : Type 0 where
  pub answer : Answer
  pub machine : Machine

abbrev pub refused : Machine → ℕ → Outcome
refused m s = record { answer = plain s; machine = m }

-- a step that changes at most the present copy
abbrev pub within : Machine → Reply → Outcome
within m r = record { answer = r.answer; machine = with_copies m r.copy m.saved }

-- the next stamp that makeregion does not give
abbrev pub last_stamp : ℕ
last_stamp = 4294967295

-- op 1: the next stamp, and the lowest free page, empty
unfoldable pub new_region : Machine → ℕ → Option ℕ → Outcome
new_region m d None = refused m 5
new_region m d (Some p) =
    record {
      answer = record { status = 0; kind = 0; pairs = 0; payload = m.next };
      machine = record {
        limits = m.limits;
        present = record {
          registers = set m.present.registers d (Reg.Region m.next);
          regions = m.present.regions ++ (record { stamp = m.next; pages = record { number = p; words = [] } ∷ [] } ∷ []);
        };
        saved = m.saved;
        next = suc m.next;
      };
    }

-- ops 10 and 11, by the saved copies: the newest leaves the stack; cut keeps the present copy, backtrack puts the newest in its place
unfoldable pub cut_to : Machine → List Copy → Outcome
cut_to m [] = refused m 9
cut_to m (c ∷ cs) = record { answer = plain 0; machine = with_copies m m.present cs }

unfoldable pub back_to : Machine → List Copy → Outcome
back_to m [] = refused m 9
back_to m (c ∷ cs) = record { answer = plain 0; machine = with_copies m c cs }

-- ops 3 to 5: a term of these cells goes into the region in register a; 3, then 4 where there are no cells, then 5
abbrev pub building : Machine → ℕ → ℕ → Option (List Cell) → Outcome
building m d a cells = within m (build (lowest (free m)) m.present d (region_at m.present a) cells)

unfoldable pub exec : Machine → Step → Outcome
exec m Refused = refused m 2
exec m (MakeRegion d) =
    if eqb m.next last_stamp then refused m 7 else
    if leb m.limits.slots (slots m) then refused m 6 else
    new_region m d (lowest (free m))
exec m (KillRegion a) = within m (kill m.present (region_at m.present a))
exec m (MakeVar d a) = building m d a (Some (Unbound ∷ []))
exec m (Integer d a v) = building m d a (Some (Int v ∷ []))
exec m (Structure d a b f n) = building m d a (headed (Head f n) (operands n m.present b))
exec m (Unify a b budget) = within m (unify_terms m.present (live_at m.present a) (live_at m.present b) budget)
exec m (Deref d a) = within m (seen m.present d (found_from m.present (term_at m.present a)))
exec m (Destruct d a f n) = within m (apart m.present d f n (found_from m.present (term_at m.present a)))
exec m PushChoice =
    if leb m.limits.choices (length m.saved) then refused m 8 else
    record { answer = plain 0; machine = with_copies m m.present (m.present ∷ m.saved) }
exec m Cut = cut_to m m.saved
exec m Backtrack = back_to m m.saved

-- ---- a run over step words

abbrev pub answer : Machine → ℕ → Answer
answer m w = (exec m (decode w)).answer

abbrev pub after : Machine → ℕ → Machine
after m w = (exec m (decode w)).machine

unfoldable pub answers : Machine → List ℕ → List Answer
answers m [] = []
answers m (w ∷ ws) = answer m w ∷ answers (after m w) ws

unfoldable pub final : Machine → List ℕ → Machine
final m [] = m
final m (w ∷ ws) = final (after m w) ws

-- ---- what the state call answers: free pages, saved copies, next stamp

unfoldable pub state_of : Machine → State
state_of m = record { free = length (free m); choices = length m.saved; next = m.next }
