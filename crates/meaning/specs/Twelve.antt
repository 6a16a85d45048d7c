-- The twelve examples hold. What each message says is given as an operation; that the operation is valid, that its text is the message, and
-- what the terminal answers and holds, is computed.
-- Assumes nothing.
use Rattle.std.specs.Prelude.{ℕ, ◌≡◌, refl, Bool, true, false, ◌&&◌, pos}
use Rattle.std.proofs.Common.{sym, ap, ◌∙◌}
use mathlib.Core.List.{List, [], ◌∷◌, map, nil≢cons, head-eq_of_cons-eq, tail-eq_of_cons-eq}
use Rattle.meaning.specs.Ascii.{ascii}
use Rattle.meaning.specs.Ids.{id_of, covered, at_most, all_below, ready}
use Rattle.meaning.specs.Sets.{keep, smaller, greater, put}
use Rattle.meaning.specs.Places.{null, bool, integer, string, order}
use Rattle.meaning.specs.Ways.{plain, empty_map, empty_list, head, after}
use Rattle.meaning.specs.Ways.{Way, assign, delete, insert, into_map, into_list, Operation, steps, deletes, makes}
use Rattle.meaning.specs.Clear.{clear_marks, clear_values, clear}
use Rattle.meaning.specs.Apply.{mark, drop_values, add_value, on_map, on_list, give, at_key, at_element, step_on, step_from, insert_after}
use Rattle.meaning.specs.Apply.{passing, run, change, apply}
use Rattle.meaning.specs.Limits.{size, within, fits}
use Rattle.meaning.specs.Judge.{not_above, repeated, own_deps_behind, look, find, elements_found, astray, upward, downward}
use Rattle.meaning.specs.Answers.{Answer, receipt_answer, receipt_of}
use Rattle.meaning.specs.Members.{All}
use Rattle.meaning.specs.Receive.{Terminal, new_terminal, receive, dead, able, first, without, onward, settle_in, settle}
use Rattle.meaning.specs.Receive.{waits, judge_ready, judge_early, judge, finish}
use Rattle.meaning.specs.Text.{digits, width_from, width, decimal, integer_text, id_text, comma_text, counters_text, hex_digit, hex}
use Rattle.meaning.specs.Text.{plain_text, assigned_text}
use Rattle.meaning.specs.Message.{prev_text, steps_text, do_text, edit_text, message}
use Rattle.meaning.specs.Sheet.{rows, rows_of, spot_text, line_text, lines_text, row_lines, rows_lines, sheet_lines, sheet}
use Rattle.meaning.specs.Promises.{says}
use Rattle.meaning.specs.Checked.{ok_id, ok_key, ok_plain, ok_assigned, ok_prev, ok_way, ok_edit, ok_counters, ok, both, valid}
use Rattle.meaning.specs.Examples.{Example, table, Answered, Holds, Claim}

-- The play of some operations: their validity and texts, the answers, the terminal at the end.

-- `answers` are those of the meaning, `cases` those of the enum's cases that their numbers name
pub record Play : Type 0 where
  pub valid : Bool
  pub messages : List (List ℕ)
  pub answers : List Answer
  pub cases : List Answer
  pub exit : Terminal

unfoldable pub play : List Operation → Terminal → Play
play [] T = record { valid = true; messages = []; answers = []; cases = []; exit = T }
play (o ∷ os) T =
    let r = receive o T in
    let p = play os r.terminal in
    record {
      valid = ok o && p.valid;
      messages = message o ∷ p.messages;
      answers = r.answer ∷ p.answers;
      cases = receipt_answer (receipt_of r.answer) ∷ p.cases;
      exit = p.exit;
    }

pub played : (os : List Operation) (T : Terminal) → (play os T).valid ≡ true → (play os T).cases ≡ (play os T).answers
    → Answered T (play os T).messages (play os T).answers (play os T).exit
unfolding play
played [] T e c = refl
played (o ∷ os) T e c =
    let t = both (ok o) _ e in
    let same = head-eq_of_cons-eq c in (
      receipt_of (receive o T).answer,
      (receive o T).terminal,
      record { reads = says o (valid o t.0) refl; answers = same; leaves = refl },
      same,
      played os (receive o T).terminal t.1 (tail-eq_of_cons-eq c),
    )

-- what a row of the table says, and what the play shows of it
record Row : Type 0 where
  valid : Bool
  messages : List (List ℕ)
  answers : List Answer
  cases : List Answer
  sheet : List ℕ
  waiting : List (List ℕ)

abbrev wanted : Example → Row
wanted e = record {
  valid = true;
  messages = e.messages;
  answers = e.answers;
  cases = e.answers;
  sheet = e.sheet;
  waiting = e.waiting;
}

abbrev shown : List Operation → Row
shown os =
    let p = play os new_terminal in
    record {
      valid = p.valid;
      messages = p.messages;
      answers = p.answers;
      cases = p.cases;
      sheet = sheet p.exit.document;
      waiting = map message p.exit.waiting;
    }

holds : (e : Example) (os : List Operation) → shown os ≡ wanted e → Holds e
holds e os s = record {
  exit = (play os new_terminal).exit;
  answered =
      rw (ap (λ r. r.answers) s) at (rw (ap (λ r. r.messages) s) at
      (played os new_terminal (ap (λ r. r.valid) s) (ap (λ r. r.cases) s ∙ sym (ap (λ r. r.answers) s))));
  saves = ap (λ r. r.sheet) s;
  waits = ap (λ r. r.waiting) s;
}

all_hold : (es : List Example) (ps : List (List Operation)) → map shown ps ≡ map wanted es → All Holds es
all_hold [] ps e = tt
all_hold (x ∷ es) [] e = absurd (nil≢cons e)
all_hold (x ∷ es) (os ∷ ps) e = (holds x os (head-eq_of_cons-eq e), all_hold es ps (tail-eq_of_cons-eq e))

-- The operations.

abbrev pub two : ℕ → ℕ → List ℕ
two a b = a ∷ b ∷ 0 ∷ 0 ∷ 0 ∷ 0 ∷ 0 ∷ 0 ∷ []

-- c.r with deps a, b, 0, ..
abbrev pub op : ℕ → ℕ → ℕ → ℕ → List ℕ → Way → Operation
op c r a b top w = record { id = id_of c r; deps = two a b; top = top; way = w }

abbrev pub i : ℕ → Way
i n = assign (plain (integer (pos n)))

abbrev pub s : List ℕ
s = ascii "s"

abbrev pub m : List ℕ
m = ascii "m"

abbrev pub m1 : Operation
m1 = op 1 1 0 0 s (assign empty_list)

abbrev pub m2 : Operation
m2 = op 2 1 1 0 s (insert head (plain (string (ascii "a"))))

abbrev pub m3 : Operation
m3 = op 3 1 2 0 s (insert (after (id_of 2 1)) (plain (string (ascii "b"))))

abbrev pub m4 : Operation
m4 = op 3 2 2 0 s (insert (after (id_of 2 1)) (plain (string (ascii "c"))))

abbrev pub m5 : Operation
m5 = op 4 1 3 0 s (into_list (id_of 2 1) delete)

abbrev pub a1 : Operation
a1 = op 1 1 0 0 m (i 1)

abbrev pub a2 : Operation
a2 = op 1 2 0 0 m (i 2)

abbrev b1 : Operation
b1 = op 1 1 0 0 m (assign empty_map)

abbrev b2 : Operation
b2 = op 2 1 1 0 m (into_map (ascii "a") (i 1))

abbrev c2 : Operation
c2 = op 2 1 1 0 s (insert head empty_map)

abbrev c3 : Operation
c3 = op 3 1 2 0 s (into_list (id_of 2 1) delete)

abbrev c4 : Operation
c4 = op 3 2 2 0 s (into_list (id_of 2 1) (into_map (ascii "a") (assign (plain (bool true)))))

-- for each row of the table what its messages say
abbrev plays : List (List Operation)
plays =
    (m1 ∷ m2 ∷ m3 ∷ m4 ∷ m5 ∷ []) ∷
    (m1 ∷ m2 ∷ m3 ∷ m5 ∷ m4 ∷ []) ∷
    (m1 ∷ m2 ∷ m4 ∷ m3 ∷ m5 ∷ []) ∷
    (m5 ∷ m4 ∷ m3 ∷ m2 ∷ m1 ∷ []) ∷
    (a1 ∷ a2 ∷ []) ∷
    (a1 ∷ a2 ∷ op 2 1 1 1 m (i 3) ∷ []) ∷
    (a1 ∷ a2 ∷ op 2 1 1 0 m delete ∷ []) ∷
    (b1 ∷ b2 ∷ op 3 1 2 0 m (i 2) ∷ []) ∷
    (b1 ∷ b2 ∷ op 3 1 2 0 m (assign empty_map) ∷ []) ∷
    (m1 ∷ c2 ∷ c3 ∷ c4 ∷ []) ∷
    (m1 ∷ c2 ∷ c4 ∷ c3 ∷ []) ∷
    (m1 ∷ m1 ∷ []) ∷
    (m2 ∷ m2 ∷ []) ∷
    (op 2 1 2 0 m (assign (plain null)) ∷ []) ∷
    (m1 ∷ m2 ∷ op 3 2 1 0 s (into_list (id_of 2 1) (into_map (ascii "a") (assign (plain (bool false))))) ∷ []) ∷
    (m1 ∷ op 2 1 1 0 s (insert (after (id_of 5 2)) (plain null)) ∷ []) ∷
    (op 1 1 0 0 m delete ∷ []) ∷
    []

pub examples : Claim
unfolding play receipt_of ok ok_id ok_key ok_plain ok_assigned ok_prev ok_way ok_edit ok_counters
    covered at_most all_below ready keep smaller greater put order steps deletes makes clear_marks clear_values clear
    mark drop_values add_value on_map on_list give at_key at_element step_on step_from insert_after passing run change apply
    size within fits not_above repeated own_deps_behind look find elements_found astray upward downward
    receive dead able first without onward settle_in settle waits judge_ready judge_early judge finish
    digits width_from width decimal integer_text id_text comma_text counters_text hex_digit hex plain_text assigned_text
    prev_text steps_text do_text edit_text message rows rows_of spot_text line_text lines_text row_lines rows_lines sheet_lines sheet
examples = all_hold table plays refl
