-- Document 01, "What is answered": for each case of an answer its number and what it gives. The meaning answers by these numbers and
-- values; a promise says that the enum's answer is that.
-- Assumes nothing: these are definitions.
use Rattle.std.specs.Prelude.{ℕ, Bool, true, false, not, cond, ◌||◌, eqb, Result, Ok, Err}
use Rattle.meaning.specs.declared.Received.{Received}
use Rattle.meaning.specs.declared.Received.TheVariants as D
use Rattle.meaning.specs.declared.ReceiveError.{ReceiveError}
use Rattle.meaning.specs.declared.ReceiveError.TheVariants as R
use Rattle.meaning.specs.declared.Made.{Made}
use Rattle.meaning.specs.declared.EditError.{EditError}
use Rattle.meaning.specs.declared.EditError.TheVariants as E
use Rattle.meaning.specs.declared.ShortBuffer.{ShortBuffer}
use Rattle.meaning.specs.declared.BadLine.{BadLine}
use Rattle.meaning.specs.declared.ReadError.{ReadError}
use Rattle.meaning.specs.declared.ReadError.TheVariants as G

-- What the operations answer: what came of it, or the refusal.

abbrev pub Receipt : Type 0
Receipt = Result Received ReceiveError

abbrev pub Edited : Type 0
Edited = Result Made EditError

abbrev pub Saved : Type 0
Saved = Result ℕ ShortBuffer

abbrev pub Loaded : Type 0
Loaded = Result (Unit {0}) BadLine

abbrev pub Reading : Type 0
Reading = Result ℕ ReadError

-- The number of the table; with 0 how many operations the call applied and dropped, and the bytes written (of an edit, save or read);
-- with 12 the number of the first line that breaks a rule; with 13 the bytes needed. What doesn't come with a number is 0.
pub record Answer : Type 0 where
  pub number : ℕ
  pub applied : ℕ
  pub dropped : ℕ
  pub written : ℕ
  pub line : ℕ
  pub needed : ℕ

abbrev pub done : ℕ → ℕ → ℕ → Answer
done a d w = record { number = 0; applied = a; dropped = d; written = w; line = 0; needed = 0 }

-- the number alone
abbrev pub only : ℕ → Answer
only n = record { number = n; applied = 0; dropped = 0; written = 0; line = 0; needed = 0 }

abbrev pub bad_line : ℕ → Answer
bad_line l = record { number = 12; applied = 0; dropped = 0; written = 0; line = l; needed = 0 }

abbrev pub short : ℕ → Answer
short n = record { number = 13; applied = 0; dropped = 0; written = 0; line = 0; needed = n }

-- all but 0 and 5 leave document, waiting messages and buffers unchanged
abbrev pub refuses : ℕ → Bool
refuses n = not (eqb n 0 || eqb n 5)

-- a test that has come out true
abbrev pub So : Bool → Type 0
So true = Unit {0}
So false = ⊥

abbrev pub Refusal : Answer → Type 0
Refusal a = So (refuses a.number)

abbrev pub receipt_answer : Receipt → Answer
receipt_answer (Ok (D.Applied a d)) = done a d 0
receipt_answer (Ok D.Waiting) = only 5
receipt_answer (Err R.Layout) = only 1
receipt_answer (Err R.Counter) = only 2
receipt_answer (Err R.Repeat) = only 3
receipt_answer (Err R.OwnDeps) = only 4
receipt_answer (Err R.WaitsAlready) = only 6
receipt_answer (Err R.WaitingFull) = only 7
receipt_answer (Err R.NoElement) = only 8
receipt_answer (Err R.NotSmaller) = only 9
receipt_answer (Err R.NoRoom) = only 10

abbrev pub edited_answer : Edited → Answer
edited_answer (Ok m) = done m.applied m.dropped m.written
edited_answer (Err E.Layout) = only 1
edited_answer (Err E.NoElement) = only 8
edited_answer (Err E.NotSmaller) = only 9
edited_answer (Err E.NoRoom) = only 10
edited_answer (Err E.LastCounter) = only 11
edited_answer (Err (E.ShortBuffer n)) = short n

abbrev pub saved_answer : Saved → Answer
saved_answer (Ok w) = done 0 0 w
saved_answer (Err b) = short b.needed

abbrev pub loaded_answer : Loaded → Answer
loaded_answer (Ok u) = done 0 0 0
loaded_answer (Err b) = bad_line b.line

abbrev pub reading_answer : Reading → Answer
reading_answer (Ok w) = done 0 0 w
reading_answer (Err G.Layout) = only 1
reading_answer (Err G.NotThere) = only 14
reading_answer (Err (G.ShortBuffer n)) = short n

-- The case that a number names, where the operation can answer it.

abbrev has : Answer → ℕ → Bool
has a n = eqb a.number n

unfoldable pub receipt_of : Answer → Receipt
receipt_of a =
    cond (has a 0) (Ok (D.Applied a.applied a.dropped))
    (cond (has a 1) (Err R.Layout)
    (cond (has a 2) (Err R.Counter)
    (cond (has a 3) (Err R.Repeat)
    (cond (has a 4) (Err R.OwnDeps)
    (cond (has a 5) (Ok D.Waiting)
    (cond (has a 6) (Err R.WaitsAlready)
    (cond (has a 7) (Err R.WaitingFull)
    (cond (has a 8) (Err R.NoElement)
    (cond (has a 9) (Err R.NotSmaller) (Err R.NoRoom))))))))))

unfoldable pub edited_of : Answer → Edited
edited_of a =
    cond (has a 0) (Ok (record { applied = a.applied; dropped = a.dropped; written = a.written }))
    (cond (has a 1) (Err E.Layout)
    (cond (has a 8) (Err E.NoElement)
    (cond (has a 9) (Err E.NotSmaller)
    (cond (has a 10) (Err E.NoRoom)
    (cond (has a 11) (Err E.LastCounter) (Err (E.ShortBuffer a.needed)))))))

unfoldable pub saved_of : Answer → Saved
saved_of a = cond (has a 0) (Ok a.written) (Err (record { needed = a.needed }))

unfoldable pub loaded_of : Answer → Loaded
loaded_of a = cond (has a 0) (Ok tt) (Err (record { line = a.line }))

unfoldable pub reading_of : Answer → Reading
reading_of a =
    cond (has a 0) (Ok a.written)
    (cond (has a 1) (Err G.Layout) (cond (has a 14) (Err G.NotThere) (Err (G.ShortBuffer a.needed))))
