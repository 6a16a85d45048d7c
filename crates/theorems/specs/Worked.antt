-- Worked refusals and a load, beside the tables of `meaning`: 1 and 12 speak of all texts, so they are shown by argument and not by
-- computing.
-- Assumes nothing.
use Rattle.std.specs.Prelude.{ℕ, ◌≤◌, ◌≡◌, refl, Ok, Err}
use Rattle.std.proofs.Common.{arith, subst}
use mathlib.Core.List.{List, [], ◌∷◌, ◌++◌, head-eq_of_cons-eq, tail-eq_of_cons-eq, nil≢cons}
use Rattle.meaning.specs.Ascii.{ascii, page}
use Rattle.meaning.specs.Ids.{zeros}
use Rattle.meaning.specs.Ways.{Operation}
use Rattle.meaning.specs.Text.{digits, width_from, width, decimal, comma_text, counters_text}
use Rattle.meaning.specs.Valid.{ValidOperation}
use Rattle.meaning.specs.Message.{message}
use Rattle.meaning.specs.Receive.{Terminal, new_terminal}
use Rattle.meaning.specs.Sheet.{Line, sheet_line, seen_line, place_line, mark_line, value_line, end_line, line_text, lines_text}
use Rattle.meaning.specs.Load.{Later, Accepted}
use Rattle.meaning.specs.Answers.{Answer}
use Rattle.meaning.specs.Promises.{says_nothing, accepted, broken, Receives, Edits, Loads}
use Rattle.meaning.specs.Examples.{Example, Answered, Holds, sheet1}
use Rattle.meaning.specs.Twelve.{examples}
use Rattle.meaning.specs.declared.ReceiveError.TheVariants as R
use Rattle.meaning.specs.declared.EditError.TheVariants as E
use Rattle.theorems.specs.Soundness.{sound_empty}
use Rattle.theorems.specs.Invariant.{Steady, steady_receives, steady_new}
use Rattle.theorems.specs.Accepting.{sheet_accepted}

-- 1: no bytes are no message.
pub nothing_refused : (T : Terminal) → Receives T [] (Err R.Layout) T
unfolding message
nothing_refused T = record { reads = says_nothing none; answers = refl; leaves = refl }
  where
    none : (o : Operation) → ValidOperation o → [] ≡ message o → ⊥
    none o v e = nil≢cons e

-- 1: the device's number is not 1 to 8, whatever the lines say.
pub device_refused : (T : Terminal) (r : ℕ) (bytes buffer : List ℕ) → (1 ≤ r → r ≤ 8 → ⊥) → Edits T r bytes buffer (Err E.Layout) T buffer
device_refused T r bytes buffer h =
    record { reads = says_nothing (λ l v e. h v.low v.high); answers = refl; leaves = refl; writes = refl }

-- 12: a sheet of no places whose last line counts one breaks at that line; so does one that ends before it.

abbrev started : List Line
started = sheet_line ∷ seen_line zeros ∷ []

-- what follows is no line that may stand there: neither a place line nor `end=0`
wrong_end : (l : Line) (t : List ℕ) → Later zeros [] l → ascii "end=1\n" ≡ line_text l ++ t → ⊥
unfolding line_text decimal width width_from digits
wrong_end sheet_line t a e = a
wrong_end (seen_line s) t a e = a
wrong_end (place_line n p m l) t a e = let z = head-eq_of_cons-eq e in omega arith
wrong_end (mark_line i) t a e = a
wrong_end (value_line v) t a e = a
wrong_end (end_line n) t a e =
    let u = subst (λ n. ascii "end=1\n" ≡ (ascii "end=" ++ (decimal n ++ ascii "\n")) ++ t) a e in
    let z =
    head-eq_of_cons-eq (tail-eq_of_cons-eq (tail-eq_of_cons-eq (tail-eq_of_cons-eq (tail-eq_of_cons-eq u)))) in
    omega arith

no_end : (l : Line) (t : List ℕ) → Later zeros [] l → [] ≡ line_text l ++ t → ⊥
unfolding line_text
no_end sheet_line t a e = a
no_end (seen_line s) t a e = a
no_end (place_line n p m l) t a e = nil≢cons e
no_end (mark_line i) t a e = a
no_end (value_line v) t a e = a
no_end (end_line n) t a e = nil≢cons e

pub wrong_end_refused : (T : Terminal) → Loads T (page ("sheet=1" ∷ "seen=0,0,0,0,0,0,0,0" ∷ "end=1" ∷ [])) (Err (record { line = 3 })) T
unfolding lines_text line_text counters_text comma_text decimal width width_from digits
wrong_end_refused T = record {
  reads = broken 3 (record {
    lines = started;
    rest = ascii "end=1\n";
    spells = refl;
    runs = (tt, (sound_empty.seen, tt));
    number = refl;
    unfinished = tt;
    never = wrong_end;
  });
  answers = refl;
  leaves = refl;
}

pub no_end_refused : (T : Terminal) → Loads T (page ("sheet=1" ∷ "seen=0,0,0,0,0,0,0,0" ∷ [])) (Err (record { line = 3 })) T
unfolding lines_text line_text counters_text comma_text decimal width width_from digits
no_end_refused T = record {
  reads = broken 3 (record {
    lines = started;
    rest = [];
    spells = refl;
    runs = (tt, (sound_empty.seen, tt));
    number = refl;
    unfinished = tt;
    never = no_end;
  });
  answers = refl;
  leaves = refl;
}

-- 0: document 01's sheet is loaded; the document is the one that the five messages make, and nothing waits.

steady_answered : (T : Terminal) (ms : List (List ℕ)) (answers : List Answer) (exit : Terminal) → Answered T ms answers exit → Steady T
    → Steady exit
steady_answered T [] [] exit p s = rw p s
steady_answered T [] (a ∷ answers) exit p s = absurd p
steady_answered T (m ∷ ms) [] exit p s = absurd p
steady_answered T (m ∷ ms) (a ∷ answers) exit p s =
    steady_answered p.1 ms answers exit p.4 (steady_receives T m p.0 p.1 p.2 s)

steady_example : (e : Example) (h : Holds e) → Steady h.exit
steady_example e h = steady_answered new_terminal e.messages e.answers h.exit h.answered steady_new

abbrev five : Terminal
five = examples.0.exit

pub sheet-loaded : (T : Terminal) → Loads T sheet1 (Ok tt) (record { document = five.document; waiting = [] })
sheet-loaded T =
    let s = steady_example _ examples.0 in
    record {
      reads =
          accepted five.document
          (subst (λ text. Accepted text five.document) examples.0.saves (sheet_accepted five.document s.sound s.room));
      answers = refl;
      leaves = refl;
    }
