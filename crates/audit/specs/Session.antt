-- What is looked at: what is lent, with the numbers that its head says.
use Rattle.std.specs.Prelude.{List, ℕ, get_or}
use Rattle.store.specs.Rows.{present}
use Rattle.machine.specs.Tables.{Lent}
use Rattle.audit.specs.declared.Session.{Session as Lending}
use Rattle.audit.specs.declared.Place.{Place}

-- the pages are `pages` of them from `first` on
pub record Session : Type 0 where
  pub first : ℕ
  pub pages : ℕ
  pub heap : List ℕ
  pub tables : List ℕ
  pub born : List ℕ
  pub turned : List ℕ
  -- the number of the present copy, and the next stamp
  pub present : ℕ
  pub next : ℕ

-- what the code's session lends
abbrev pub session_of : Lending → Session
session_of s =
    record {
      first = s.view.pages.first;
      pages = s.view.pages.count;
      heap = s.view.words.now;
      tables = s.tables.now;
      born = s.view.born.now;
      turned = s.view.turned.now;
      present = s.present;
      next = s.next;
    }

-- the session that four lent slices are, on these pages
abbrev pub session : ℕ → ℕ → Lent → Session
session first pages l =
    record {
      first = first;
      pages = pages;
      heap = l.heap;
      tables = l.tables;
      born = l.born;
      turned = l.turned;
      present = present l.tables;
      next = get_or l.tables 0 0;
    }

-- a word's address with its marks
abbrev pub place : Session → ℕ → Place
place s a = record { address = a; born = get_or s.born a 0; turned = get_or s.turned a 0 }
