-- The worked edits, reads and saves hold. What each call says is given; that it is valid, that its text is the call's, what is answered,
-- written and held then, is computed.
-- Assumes nothing.
use Rattle.std.specs.Prelude.{ℕ, ◌≡◌, refl, Bool, true, ◌&&◌, leb}
use Rattle.std.proofs.Common.{sym, ap, subst, ◌∙◌, leb-true}
use mathlib.Core.List.{List, [], ◌∷◌, map, nil≢cons, head-eq_of_cons-eq, tail-eq_of_cons-eq}
use Rattle.meaning.specs.Ascii.{ascii}
use Rattle.meaning.specs.Ids.{id_of, covered, at_most, all_below, ready}
use Rattle.meaning.specs.Sets.{keep, smaller, greater, put}
use Rattle.meaning.specs.Places.{order, Document}
use Rattle.meaning.specs.Ways.{empty_map, assign, delete, into_list, Operation, steps, deletes, makes}
use Rattle.meaning.specs.Clear.{clear_marks, clear_values, clear}
use Rattle.meaning.specs.Apply.{mark, drop_values, add_value, on_map, on_list, give, at_key, at_element, step_on, step_from, insert_after}
use Rattle.meaning.specs.Apply.{passing, run, change, apply}
use Rattle.meaning.specs.Limits.{size, within, fits}
use Rattle.meaning.specs.Judge.{not_above, repeated, own_deps_behind, look, find, elements_found, astray, upward, downward}
use Rattle.meaning.specs.Answers.{Answer, edited_answer, saved_answer, reading_answer, receipt_of, edited_of, saved_of, reading_of}
use Rattle.meaning.specs.Members.{All}
use Rattle.meaning.specs.Receive.{Terminal, new_terminal, receive, dead, able, first, without, onward, settle_in, settle}
use Rattle.meaning.specs.Receive.{waits, judge_ready, judge_early, judge, finish}
use Rattle.meaning.specs.Text.{digits, width_from, width, decimal, integer_text, id_text, comma_text, counters_text, hex_digit, hex}
use Rattle.meaning.specs.Text.{plain_text, assigned_text, over}
use Rattle.meaning.specs.Message.{prev_text, steps_text, do_text, edit_text, message}
use Rattle.meaning.specs.Edit.{largest, edit_of, spent, judge_edit, finish_edit, edit}
use Rattle.meaning.specs.Sheet.{rows, rows_of, spot_text, line_text, lines_text, row_lines, rows_lines, sheet_lines, sheet, save}
use Rattle.meaning.specs.Read.{Trail, here, by_key, by_element, trail_text, trail_steps, ValidTrail}
use Rattle.meaning.specs.Read.{PlaceWay, ValidPlaceWay, place_way_text}
use Rattle.meaning.specs.Read.{KeysWay, of_root, of_place, ValidKeysWay, keys_way_text, element_way_text, lookup, entered, follow, seek}
use Rattle.meaning.specs.Read.{Finding, keys_text, values_text, present_ids, nth_text, at_place, keys, values, nth_element, answer_read}
use Rattle.meaning.specs.Promises.{says, Lines, lines_of, Reads}
use Rattle.meaning.specs.Checked.{ok_id, ok_key, ok_plain, ok_assigned, ok_prev, ok_way, ok_edit, ok_counters, ok, both}
use Rattle.meaning.specs.Checked.{valid_id, valid_key, valid_edit}
use Rattle.meaning.specs.Twelve.{play, played, op, i, m, m1, m2, m3, m4, m5, a1, a2}
use Rattle.meaning.specs.Worked.{Call, edits, saves, reads_keys, reads_values, reads_element, Start, received, given, Worked, table}
use Rattle.meaning.specs.Answers.{Reading}
use Rattle.meaning.specs.Worked.{many, points, full, last, hidden, Begins, Meets, Holds, Claim}

-- Whether a way of a read is valid.

ok_trail : Trail → Bool
ok_trail here = true
ok_trail (by_key k t) = ok_key k && ok_trail t
ok_trail (by_element e t) = ok_id e && ok_trail t

ok_place : PlaceWay → Bool
ok_place w = ok_key w.top && (ok_trail w.trail && leb (trail_steps w.trail) 7)

valid_trail : (t : Trail) → ok_trail t ≡ true → ValidTrail t
unfolding ok_trail
valid_trail here e = tt
valid_trail (by_key k t) e = let b = both (ok_key k) _ e in (valid_key k b.0, valid_trail t b.1)
valid_trail (by_element g t) e = let b = both (ok_id g) _ e in (valid_id g b.0, valid_trail t b.1)

valid_place : (w : PlaceWay) → ok_place w ≡ true → ValidPlaceWay w
unfolding ok_place
valid_place w e =
    let t = both (ok_key w.top) _ e in
    let r = both (ok_trail w.trail) _ t.1 in
    record { first = valid_key w.top t.0; rest = valid_trail w.trail r.0; reach = leb-true _ 7 r.1 }

ok_keys : KeysWay → Bool
ok_keys of_root = true
ok_keys (of_place w) = ok_place w

valid_keys : (w : KeysWay) → ok_keys w ≡ true → ValidKeysWay w
unfolding ok_keys
valid_keys of_root e = tt
valid_keys (of_place w) e = valid_place w e

-- What is asked.

data Ask : Type 0 where
  editing : ℕ → Lines → Ask
  saving : Ask
  keys_of : KeysWay → Ask
  values_of : PlaceWay → Ask
  element_of : ℕ → PlaceWay → Ask

ok_ask : Ask → Bool
ok_ask (editing r l) = leb 1 r && (leb r 8 && ok_edit l.top l.way)
ok_ask saving = true
ok_ask (keys_of w) = ok_keys w
ok_ask (values_of w) = ok_place w
ok_ask (element_of n w) = ok_place w

call_of : Ask → Call
call_of (editing r l) = edits r (lines_of l)
call_of saving = saves
call_of (keys_of w) = reads_keys (keys_way_text w)
call_of (values_of w) = reads_values (place_way_text w)
call_of (element_of n w) = reads_element n (element_way_text w)

-- the answer, that of the enum's case which its number names, the buffer and the terminal
record Shown : Type 0 where
  answer : Answer
  case : Answer
  written : List ℕ
  exit : Terminal

ask : Ask → Terminal → List ℕ → Shown
ask (editing r l) T buffer =
    let o = edit r l.top l.way T buffer in
    record { answer = o.answer; case = edited_answer (edited_of o.answer); written = o.buffer; exit = o.terminal }
ask saving T buffer =
    let o = save T.document buffer in
    record { answer = o.answer; case = saved_answer (saved_of o.answer); written = o.buffer; exit = T }
ask (keys_of w) T buffer =
    let o = answer_read (keys w T.document) buffer in
    record { answer = o.answer; case = reading_answer (reading_of o.answer); written = o.buffer; exit = T }
ask (values_of w) T buffer =
    let o = answer_read (values w T.document) buffer in
    record { answer = o.answer; case = reading_answer (reading_of o.answer); written = o.buffer; exit = T }
ask (element_of n w) T buffer =
    let o = answer_read (nth_element n w T.document) buffer in
    record { answer = o.answer; case = reading_answer (reading_of o.answer); written = o.buffer; exit = T }

-- a read of a valid way
read : {A : Type 0} {Valid : A → Type 0} {text : A → List ℕ} (w : A) → Valid w → (find : A → Document → Finding) (T : Terminal)
    (buffer : List ℕ)
    → reading_answer (reading_of (answer_read (find w T.document) buffer).answer) ≡ (answer_read (find w T.document) buffer).answer
    → (a : Reading) × Reads Valid text find T.document (text w) buffer a (answer_read (find w T.document) buffer).buffer
    × (reading_answer a ≡ (answer_read (find w T.document) buffer).answer) × (T ≡ T)
read w v find T buffer e =
    (reading_of (answer_read (find w T.document) buffer).answer, record { reads = says w v refl; answers = e; writes = refl }, e, refl)

asked : (a : Ask) (T : Terminal) (buffer : List ℕ) → ok_ask a ≡ true → (ask a T buffer).case ≡ (ask a T buffer).answer
    → Meets T (call_of a) buffer (ask a T buffer).answer (ask a T buffer).written (ask a T buffer).exit
unfolding ok_ask call_of ask
asked (editing r l) T buffer v e =
    let t = both (leb 1 r) _ v in
    let u = both (leb r 8) _ t.1 in (
      edited_of (edit r l.top l.way T buffer).answer,
      record {
        reads =
            says l
            (record { low = leb-true 1 r t.0; high = leb-true r 8 u.0; edit = valid_edit l.top l.way u.1 }) refl;
        answers = e;
        leaves = refl;
        writes = refl;
      },
      e,
    )
asked saving T buffer v e = (saved_of (save T.document buffer).answer, record { answers = e; writes = refl }, e, refl)
asked (keys_of w) T buffer v e = read w (valid_keys w v) keys T buffer e
asked (values_of w) T buffer v e = read w (valid_place w v) values T buffer e
asked (element_of n w) T buffer v e = read w (valid_place w v) (nth_element n) T buffer e

-- Where a row begins: operations are played on an empty terminal, or a terminal is given.

data Source : Type 0 where
  plays : List Operation → Source
  gives : Terminal → Source

terminal_of : Source → Terminal
terminal_of (plays os) = (play os new_terminal).exit
terminal_of (gives T) = T

start_of : Source → Start
start_of (plays os) = received (play os new_terminal).messages (play os new_terminal).answers
start_of (gives T) = given T

ok_source : Source → Bool
ok_source (plays os) = (play os new_terminal).valid
ok_source (gives T) = true

cases_of : Source → List Answer
cases_of (plays os) = (play os new_terminal).cases
cases_of (gives T) = []

abbrev answers_of : Start → List Answer
answers_of (received ms answers) = answers
answers_of (given T) = []

begun : (s : Source) → ok_source s ≡ true → cases_of s ≡ answers_of (start_of s) → Begins (start_of s) (terminal_of s)
unfolding ok_source cases_of start_of terminal_of
begun (plays os) v e = played os new_terminal v e
begun (gives T) v e = refl

-- A row of the table, and what is shown of it.

record Row : Type 0 where
  source : Bool
  start : Start
  cases : List Answer
  asked : Bool
  call : Call
  answer : Answer
  case : Answer
  written : List ℕ
  sheet : List ℕ

abbrev wanted : Worked → Row
wanted w = record {
  source = true;
  start = w.start;
  cases = answers_of w.start;
  asked = true;
  call = w.call;
  answer = w.answer;
  case = w.answer;
  written = w.written;
  sheet = w.sheet;
}

-- the source, what is asked, and the buffer
record Work : Type 0 where
  source : Source
  ask : Ask
  buffer : List ℕ

abbrev shown : Work → Row
shown x =
    let r = ask x.ask (terminal_of x.source) x.buffer in
    record {
      source = ok_source x.source;
      start = start_of x.source;
      cases = cases_of x.source;
      asked = ok_ask x.ask;
      call = call_of x.ask;
      answer = r.answer;
      case = r.case;
      written = r.written;
      sheet = sheet r.exit.document;
    }

holds : (w : Worked) (x : Work) → x.buffer ≡ w.buffer → shown x ≡ wanted w → Holds w
holds w x b s =
    let T = terminal_of x.source in
    let r = ask x.ask T x.buffer in
    record {
      terminal = T;
      begins =
          subst (λ s. Begins s T) (ap (λ r. r.start) s)
          (begun x.source (ap (λ r. r.source) s) (ap (λ r. r.cases) s ∙ ap (λ s. answers_of s) (sym (ap (λ r. r.start) s))));
      exit = r.exit;
      meets =
          subst (λ y. Meets T y.call w.buffer y.answer y.written r.exit) s
          (subst (λ y. Meets T (call_of x.ask) y r.answer r.written r.exit) b
          (asked x.ask T x.buffer (ap (λ r. r.asked) s) (ap (λ r. r.case) s ∙ sym (ap (λ r. r.answer) s))));
      saves = ap (λ r. r.sheet) s;
    }

all_hold : (ws : List Worked) (xs : List Work) → map (λ x. x.buffer) xs ≡ map (λ w. w.buffer) ws → map shown xs ≡ map wanted ws
    → All Holds ws
all_hold [] xs b e = tt
all_hold (w ∷ ws) [] b e = absurd (nil≢cons e)
all_hold (w ∷ ws) (x ∷ xs) b e =
    (holds w x (head-eq_of_cons-eq b) (head-eq_of_cons-eq e), all_hold ws xs (tail-eq_of_cons-eq b) (tail-eq_of_cons-eq e))

-- For each row what its call says.

abbrev five : Source
five = plays (m1 ∷ m2 ∷ m3 ∷ m4 ∷ m5 ∷ [])

abbrev pair : Source
pair = plays (a1 ∷ a2 ∷ op 2 1 1 1 (ascii "a") (assign empty_map) ∷ op 3 1 2 1 (ascii "a") delete ∷ [])

abbrev early : Source
early = plays (op 2 2 1 0 m (i 2) ∷ op 2 1 0 1 m (i 3) ∷ [])

abbrev hiding : Start → Source
hiding (received ms answers) = gives new_terminal
hiding (given T) = gives T

abbrev seven : Lines
seven = record { top = ascii "k"; way = i 7 }

abbrev gone : Lines
gone = record { top = ascii "s"; way = into_list (id_of 7 7) delete }

abbrev at : List ℕ → PlaceWay
at k = record { top = k; trail = here }

abbrev work : Source → Ask → List ℕ → Work
work s a buffer = record { source = s; ask = a; buffer = buffer }

abbrev works : List Work
works =
    work five (editing 3 seven) (points 61) ∷
    work five (editing 3 seven) (points 57) ∷
    work early (editing 1 (record { top = m; way = i 1 })) (points 58) ∷
    work five (editing 1 gone) (points 99) ∷
    work (gives (full 256)) (editing 1 seven) [] ∷
    work (gives last) (editing 1 gone) (points 5) ∷
    work pair (keys_of of_root) (points 4) ∷
    work pair (keys_of of_root) (points 2) ∷
    work five (keys_of (of_place (at (ascii "s")))) (points 1) ∷
    work pair (keys_of (of_place (at (ascii "a")))) (points 1) ∷
    work (hiding hidden) (values_of (record { top = m; trail = by_key (ascii "a") here })) (points 9) ∷
    work pair (values_of (at (ascii "n"))) (points 9) ∷
    work pair (values_of (at m)) (points 14) ∷
    work five (element_of 1 (at (ascii "s"))) (points 5) ∷
    work five (element_of 2 (at (ascii "s"))) (points 4) ∷
    work five (element_of 3 (at (ascii "s"))) (points 4) ∷
    work five (element_of 0 (at (ascii "s"))) (points 4) ∷
    work five saving (points 170) ∷
    work five saving (points 167) ∷
    []

pub worked : Claim
unfolding play receipt_of edited_of saved_of reading_of ok ok_id ok_key ok_plain ok_assigned ok_prev ok_way ok_edit ok_counters
    ok_trail ok_place ok_keys ok_ask ok_source cases_of start_of terminal_of call_of ask many points
    covered at_most all_below ready keep smaller greater put order steps deletes makes clear_marks clear_values clear
    mark drop_values add_value on_map on_list give at_key at_element step_on step_from insert_after passing run change apply
    size within fits not_above repeated own_deps_behind look find elements_found astray upward downward
    receive dead able first without onward settle_in settle waits judge_ready judge_early judge finish
    largest edit_of spent judge_edit finish_edit edit
    trail_text trail_steps place_way_text keys_way_text element_way_text lookup entered follow seek keys_text values_text present_ids
    nth_text at_place
    keys values nth_element answer_read over save
    digits width_from width decimal integer_text id_text comma_text counters_text hex_digit hex plain_text assigned_text
    prev_text steps_text do_text edit_text message rows rows_of spot_text line_text lines_text row_lines rows_lines sheet_lines sheet
worked = all_hold table works refl refl
