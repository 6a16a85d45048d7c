-- Document 01, "What is answered", "Reads": worked edits, reads and saves beside the twelve examples, one table under one claim. Each row
-- pins what the twelve examples don't reach: 8, 10, 11, 13 and 14, counts and bytes of an edit, places without marks, absent elements.
-- 1 and 12 speak of all texts: 1 by `theorems/Worked` and the layout questions of the gate, 12 and a load by `theorems/Worked`.
-- Assumes nothing.
use Rattle.std.specs.Prelude.{ℕ, zero, suc, ◌≡◌, true, false, List, [], ◌∷◌, ◌++◌, pos}
use Prim.Native.String.{String}
use Rattle.meaning.specs.Ascii.{ascii, page}
use Rattle.meaning.specs.Ids.{id_of}
use Rattle.meaning.specs.Places.{Value, integer, place, childless, child, empty}
use Rattle.meaning.specs.Answers.{Answer, done, only, short, edited_answer, saved_answer, reading_answer}
use Rattle.meaning.specs.Members.{All}
use Rattle.meaning.specs.Receive.{Terminal, new_terminal}
use Rattle.meaning.specs.Sheet.{sheet}
use Rattle.meaning.specs.Promises.{Edits, Saves, ReadsKeys, ReadsValues, ReadsElement}
use Rattle.meaning.specs.Examples.{Answered, sheet1, m1, m2, m3, m4, m5, a1, a2, m}
use Rattle.meaning.specs.Answers.{Edited}
use Rattle.meaning.specs.Answers.{Saved}
use Rattle.meaning.specs.Answers.{Reading}

-- what is asked of a terminal: a device edits by these lines; the document is saved; keys, values or the n-th element of a way
pub data Call : Type 0 where
  edits : ℕ → List ℕ → Call
  saves : Call
  reads_keys : List ℕ → Call
  reads_values : List ℕ → Call
  reads_element : ℕ → List ℕ → Call

-- where a row begins: an empty terminal has received messages and answered them so; or a terminal is given
pub data Start : Type 0 where
  received : List (List ℕ) → List Answer → Start
  given : Terminal → Start

-- what is answered, what the buffer holds then, and the sheet of the document then
pub record Worked : Type 0 where
  pub start : Start
  pub call : Call
  pub buffer : List ℕ
  pub answer : Answer
  pub written : List ℕ
  pub sheet : List ℕ

-- The starts.

abbrev applied : Answer
applied = done 1 0 0

-- the five messages of document 01: a list with an element without marks, then 3.2, 3.1
abbrev five : Start
five = received (m1 ∷ m2 ∷ m3 ∷ m4 ∷ m5 ∷ []) (applied ∷ applied ∷ applied ∷ applied ∷ applied ∷ [])

-- two values at 6d; the key 61 was assigned and deleted
abbrev pair : Start
pair =
    received
    (a1 ∷ a2 ∷ m "id=2.1" "deps=1,1,0,0,0,0,0,0" ("at=61" ∷ "do=assign" ∷ "value={" ∷ []) ∷
    m "id=3.1" "deps=2,1,0,0,0,0,0,0" ("at=61" ∷ "do=delete" ∷ []) ∷ [])
    (applied ∷ applied ∷ applied ∷ applied ∷ [])

abbrev pair_sheet : List ℕ
pair_sheet =
    page ("sheet=1" ∷ "seen=3,1,0,0,0,0,0,0" ∷ "place=1{m61" ∷
    "place=1{-6d" ∷ "mark=1.1" ∷ "mark=1.2" ∷ "value=1.1:i1" ∷ "value=1.2:i2" ∷ "end=2" ∷ [])

-- two messages wait for 1.1: 2.2 becomes ready by it, and 2.1, which knows nothing of it, is 4 then
abbrev early : Start
early =
    received
    (m "id=2.2" "deps=1,0,0,0,0,0,0,0" ("at=6d" ∷ "do=assign" ∷ "value=i2" ∷ []) ∷
    m "id=2.1" "deps=0,1,0,0,0,0,0,0" ("at=6d" ∷ "do=assign" ∷ "value=i3" ∷ []) ∷ [])
    (only 5 ∷ only 5 ∷ [])

abbrev one : Value
one = record { id = id_of 1 1; val = integer (pos 1) }

-- a place without marks, and under it, as no sound document has it, one with a mark: the first trouble from the root decides
abbrev pub hidden : Start
hidden =
    given (record {
      document = record {
        seen = 1 ∷ 0 ∷ 0 ∷ 0 ∷ 0 ∷ 0 ∷ 0 ∷ 0 ∷ [];
        root =
            child (ascii "m") (place true false [] []
            (child (ascii "a") (place false false (id_of 1 1 ∷ []) (one ∷ []) childless empty) childless) empty) childless;
      };
      waiting = [];
    })

abbrev hidden_sheet : List ℕ
hidden_sheet =
    page ("sheet=1" ∷ "seen=1,0,0,0,0,0,0,0" ∷ "place=1{m6d" ∷ "place=2{-61" ∷ "mark=1.1" ∷ "value=1.1:i1" ∷ "end=2" ∷ [])

-- n values, and a document that has them at one key
unfoldable pub many : ℕ → List Value
many zero = []
many (suc n) = one ∷ many n

abbrev pub full : ℕ → Terminal
full n = record {
  document = record {
    seen = 1 ∷ 0 ∷ 0 ∷ 0 ∷ 0 ∷ 0 ∷ 0 ∷ 0 ∷ [];
    root = child (ascii "m") (place false false (id_of 1 1 ∷ []) (many n) childless empty) childless;
  };
  waiting = [];
}

-- a terminal whose last counter was seen
abbrev pub last : Terminal
last = record { document = record { seen = 0 ∷ 4294967295 ∷ 0 ∷ 0 ∷ 0 ∷ 0 ∷ 0 ∷ 0 ∷ []; root = childless }; waiting = [] }

-- an edit's lines, and a buffer of points
abbrev lines : String → List String → List ℕ
lines at more = page (at ∷ more)

abbrev seven : List ℕ
seven = lines "at=6b" ("do=assign" ∷ "value=i7" ∷ [])

-- the message that `seven` gives on terminal 3 after the five messages: 58 bytes
abbrev message1 : List ℕ
message1 = m "id=5.3" "deps=4,3,0,0,0,0,0,0" ("at=6b" ∷ "do=assign" ∷ "value=i7" ∷ [])

unfoldable pub points : ℕ → List ℕ
points zero = []
points (suc n) = ascii "." ++ points n

abbrev pub table : List Worked
table =
    -- an edit: applied alone; its message fills the buffer's start, and the rest is untouched
    record {
      start = five;
      call = edits 3 seven;
      buffer = points 61;
      answer = done 1 0 58;
      written = message1 ++ points 3;
      sheet =
          page ("sheet=1" ∷ "seen=4,3,5,0,0,0,0,0" ∷ "place=1{-6b" ∷ "mark=5.3" ∷ "value=5.3:i7" ∷ "place=1{l73" ∷
          "mark=1.1" ∷ "mark=2.1" ∷ "mark=3.1" ∷ "mark=3.2" ∷ "place=2[-2.1" ∷ "place=2[-3.2" ∷ "mark=3.2" ∷ "value=3.2:s63" ∷
          "place=2[-3.1" ∷ "mark=3.1" ∷ "value=3.1:s62" ∷ "end=5" ∷ []);
    } ∷
    -- 13: one byte short; nothing changes
    record { start = five; call = edits 3 seven; buffer = points 57; answer = short 58; written = points 57; sheet = sheet1 } ∷
    -- an edit that lets one message through, and by which another is dropped
    record {
      start = early;
      call = edits 1 (lines "at=6d" ("do=assign" ∷ "value=i1" ∷ []));
      buffer = points 58;
      answer = done 2 1 58;
      written = m "id=1.1" "deps=0,0,0,0,0,0,0,0" ("at=6d" ∷ "do=assign" ∷ "value=i1" ∷ []);
      sheet =
          page ("sheet=1" ∷ "seen=1,2,0,0,0,0,0,0" ∷ "place=1{-6d" ∷ "mark=1.1" ∷ "mark=2.2" ∷ "value=2.2:i2" ∷ "end=1" ∷ []);
    } ∷
    -- 8: no such element, however long the buffer is
    record {
      start = five;
      call = edits 1 (lines "at=73[7.7" ("do=delete" ∷ []));
      buffer = points 99;
      answer = only 8;
      written = points 99;
      sheet = sheet1;
    } ∷
    -- 10 before 13: 256 values, and one more
    record {
      start = given (full 256);
      call = edits 1 seven;
      buffer = [];
      answer = only 10;
      written = [];
      sheet = sheet (full 256).document;
    } ∷
    -- 11 before 8: a seen entry is 4294967295
    record {
      start = given last;
      call = edits 1 (lines "at=73[7.7" ("do=delete" ∷ []));
      buffer = points 5;
      answer = only 11;
      written = points 5;
      sheet = page ("sheet=1" ∷ "seen=0,4294967295,0,0,0,0,0,0" ∷ "end=0" ∷ []);
    } ∷
    -- the root's keys, by no bytes at all: 61 has no marks
    record {
      start = pair;
      call = reads_keys [];
      buffer = points 4;
      answer = done 0 0 3;
      written = page ("6d" ∷ []) ++ points 1;
      sheet = pair_sheet;
    } ∷
    -- 13: one byte short
    record { start = pair; call = reads_keys []; buffer = points 2; answer = short 3; written = points 2; sheet = pair_sheet } ∷
    -- a present place without a map has no keys
    record { start = five; call = reads_keys (ascii "73{"); buffer = points 1; answer = done 0 0 0; written = points 1; sheet = sheet1 } ∷
    -- 14: a place without marks
    record { start = pair; call = reads_keys (ascii "61{"); buffer = points 1; answer = only 14; written = points 1; sheet = pair_sheet } ∷
    -- 14: a way through a place without marks
    record {
      start = hidden;
      call = reads_values (ascii "6d{61");
      buffer = points 9;
      answer = only 14;
      written = points 9;
      sheet = hidden_sheet;
    } ∷
    -- 14: an unknown key
    record { start = pair; call = reads_values (ascii "6e"); buffer = points 9; answer = only 14; written = points 9; sheet = pair_sheet } ∷
    -- two values in id order
    record {
      start = pair;
      call = reads_values (ascii "6d");
      buffer = points 14;
      answer = done 0 0 14;
      written = page ("1.1:i1" ∷ "1.2:i2" ∷ []);
      sheet = pair_sheet;
    } ∷
    -- the first present element stands behind an absent one; index 0 and one beyond the end are 14
    record {
      start = five;
      call = reads_element 1 (ascii "73[");
      buffer = points 5;
      answer = done 0 0 4;
      written = page ("3.2" ∷ []) ++ points 1;
      sheet = sheet1;
    } ∷
    record {
      start = five;
      call = reads_element 2 (ascii "73[");
      buffer = points 4;
      answer = done 0 0 4;
      written = page ("3.1" ∷ []);
      sheet = sheet1;
    } ∷
    record { start = five; call = reads_element 3 (ascii "73["); buffer = points 4; answer = only 14; written = points 4; sheet = sheet1 } ∷
    record { start = five; call = reads_element 0 (ascii "73["); buffer = points 4; answer = only 14; written = points 4; sheet = sheet1 } ∷
    -- a save: 168 bytes, and one byte short
    record { start = five; call = saves; buffer = points 170; answer = done 0 0 168; written = sheet1 ++ points 2; sheet = sheet1 } ∷
    record { start = five; call = saves; buffer = points 167; answer = short 168; written = points 167; sheet = sheet1 } ∷
    []

-- The claim.

abbrev pub Begins : Start → Terminal → Type 0
Begins (received ms answers) T = Answered new_terminal ms answers T
Begins (given S) T = T ≡ S

-- the promise of the call is met with this answer and buffer, and leaves this terminal
abbrev pub Meets : Terminal → Call → List ℕ → Answer → List ℕ → Terminal → Type 0
Meets T (edits r bytes) buffer answer written exit =
    (a : Edited) × Edits T r bytes buffer a exit written × (edited_answer a ≡ answer)
Meets T saves buffer answer written exit = (a : Saved) × Saves T.document buffer a written × (saved_answer a ≡ answer) × (exit ≡ T)
Meets T (reads_keys bytes) buffer answer written exit =
    (a : Reading) × ReadsKeys T.document bytes buffer a written × (reading_answer a ≡ answer) × (exit ≡ T)
Meets T (reads_values bytes) buffer answer written exit =
    (a : Reading) × ReadsValues T.document bytes buffer a written × (reading_answer a ≡ answer) × (exit ≡ T)
Meets T (reads_element n bytes) buffer answer written exit =
    (a : Reading) × ReadsElement n T.document bytes buffer a written × (reading_answer a ≡ answer) × (exit ≡ T)

pub record Holds (w : Worked) : Type 0 where
  pub terminal : Terminal
  pub begins : Begins w.start terminal
  pub exit : Terminal
  pub meets : Meets terminal w.call w.buffer w.answer w.written exit
  pub saves : sheet exit.document ≡ w.sheet

abbrev pub Claim : Type 0
Claim = All Holds table
