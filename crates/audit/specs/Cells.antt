-- The cells of a held page: whole terms, no gap before the fill's end, marks in order, references that name filled words in every copy.
use Rattle.std.specs.Prelude.{Bool, false, not, ◌&&◌, ℕ, zero, suc, ◌+◌, ◌-◌, eqb, leb, get_or, if◌then◌else◌}
use Rattle.laws.specs.Loops.{all_of}
use Rattle.words.specs.declared.Ref.{Ref}
use Rattle.words.specs.declared.Cell.{Cell}
use Rattle.words.specs.declared.Cell.TheVariants.{Unbound, Bound, Int, Head, Argument}
use Rattle.words.specs.declared.Word.{Word}
use Rattle.words.specs.Words.{unpack_heap}
use Rattle.audit.specs.declared.Fill.{Fill}
use Rattle.audit.specs.declared.Home.{Home}
use Rattle.audit.specs.declared.Place.{Place}
use Rattle.audit.specs.Session.{Session, place}
use Rattle.audit.specs.Live.{ref_ok, order_ok}

-- What is known of a page stands in `home`: its region's stamp, the newest copy that has the region, and the newest copy that may have filled a word of
-- the page (the copy in which the next page joined, if there is one). What was seen of the words before stands in `fill`: how many arguments are still to
-- come, and the copy in which the last of these words was filled.

-- a word that is empty in all copies, with its marks
abbrev pub blank : Session → ℕ → Bool
blank s a = eqb (get_or s.heap a 0) 0 && eqb (get_or s.born a 0) 0 && eqb (get_or s.turned a 0) 0

-- so many words from address a on are such words
unfoldable pub all_blank : Session → ℕ → ℕ → Bool
all_blank s count a = all_of (blank s) count a

-- how many arguments are still to come after a cell, if `more` were to come before it
unfoldable pub more_after : Cell → ℕ → ℕ
more_after Unbound more = 0
more_after (Bound r) more = 0
more_after (Int v) more = 0
more_after (Head f k) more = k
more_after (Argument r) more = more - 1

-- the fill after a cell c at address a
abbrev pub fill_after : Session → Cell → ℕ → Fill → Fill
fill_after s c a fill = record { more = more_after c fill.more; last = get_or s.born a 0 }

-- a word that says a cell, and what holds of that cell
abbrev pub on_cell : Word → (Cell → Bool) → Bool
on_cell Word.Empty ok = false
on_cell (Word.Filled c) ok = ok c
on_cell (Word.Linked l) ok = false
on_cell Word.Broken ok = false

-- the word at a place starts a term and is no bound variable: no argument is to come, and it never turned
abbrev pub fresh_ok : Place → ℕ → Bool
fresh_ok at more = eqb more 0 && eqb at.turned 0

-- words are filled one after another: no later word in an older copy
abbrev pub born_ok : Home → Place → ℕ → Bool
born_ok home at last = leb last at.born && leb at.born home.full

-- a bound variable, filled from a copy on, is bound from a copy on that has it
abbrev pub turned_ok : Home → Place → ℕ → Bool
turned_ok home at more = eqb more 0 && leb at.born at.turned && leb at.turned home.newest

-- a bound variable
unfoldable pub bound_ok : Session → Home → Ref → Place → ℕ → Bool
bound_ok s home r at more =
    turned_ok home at more
    && ref_ok s r (record { since = at.turned; upto = home.newest })
    && order_ok s home.stamp at.address r (record { since = at.turned; upto = home.newest })

-- an argument is filled with its structure's head, in the same copy
unfoldable pub argument_ok : Session → Home → Ref → Place → Fill → Bool
argument_ok s home r at fill =
    not (eqb fill.more 0) && eqb at.turned 0 && eqb at.born fill.last && ref_ok s r (record { since = at.born; upto = home.newest })

-- the cell c at a place
unfoldable pub cell_ok : Session → Home → Cell → Place → Fill → Bool
cell_ok s home Unbound at fill = fresh_ok at fill.more
cell_ok s home (Bound r) at fill = bound_ok s home r at fill.more
cell_ok s home (Int v) at fill = fresh_ok at fill.more
cell_ok s home (Head f k) at fill = fresh_ok at fill.more
cell_ok s home (Argument r) at fill = argument_ok s home r at fill

-- the same, with the order of the marks
unfoldable pub filled_ok : Session → Home → Cell → Place → Fill → Bool
filled_ok s home c at fill = born_ok home at fill.last && cell_ok s home c at fill

-- the fill has ended before address a: no argument is to come, and the words that are left of the page are empty
unfoldable pub rest_ok : Session → ℕ → ℕ → ℕ → Bool
rest_ok s more left a = eqb more 0 && all_blank s left a

-- k words of the page are left, from address a on
unfoldable pub cells_ok : Session → Home → ℕ → ℕ → Fill → Bool
cells_ok s home zero a fill = eqb fill.more 0
cells_ok s home (suc k) a fill =
    if eqb (get_or s.heap a 0) 0
    then rest_ok s fill.more (suc k) a
    else on_cell (unpack_heap 12 (get_or s.heap a 0)) (λ c. filled_ok s home c (place s a) fill && cells_ok s home k (a + 1) (fill_after s c a fill))
