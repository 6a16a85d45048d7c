-- Document 01, "Twelve examples to prove": one table under one claim. Each row has the messages that an empty terminal receives, what it
-- answers to each, and what it then holds: the document by its sheet, and the waiting messages.
-- Assumes nothing.
use Rattle.std.specs.Prelude.{ℕ, ◌≡◌, List, [], ◌∷◌, map}
use Prim.Native.String.{String}
use Rattle.meaning.specs.Ascii.{page}
use Rattle.meaning.specs.Answers.{Answer, done, only, receipt_answer}
use Rattle.meaning.specs.Members.{All}
use Rattle.meaning.specs.Message.{message}
use Rattle.meaning.specs.Receive.{Terminal, new_terminal}
use Rattle.meaning.specs.Sheet.{sheet}
use Rattle.meaning.specs.Promises.{Receives}
use Rattle.meaning.specs.Answers.{Receipt}

pub record Example : Type 0 where
  pub messages : List (List ℕ)
  pub answers : List Answer
  pub sheet : List ℕ
  pub waiting : List (List ℕ)

-- a message by its lines behind `op=1`
abbrev pub m : String → String → List String → List ℕ
m id deps lines = page ("op=1" ∷ id ∷ deps ∷ lines)

-- applied, with nothing settled
abbrev applied : Answer
applied = done 1 0 0

-- the five messages of document 01
abbrev pub m1 : List ℕ
m1 = m "id=1.1" "deps=0,0,0,0,0,0,0,0" ("at=73" ∷ "do=assign" ∷ "value=[" ∷ [])

abbrev pub m2 : List ℕ
m2 = m "id=2.1" "deps=1,0,0,0,0,0,0,0" ("at=73[^" ∷ "do=insert" ∷ "value=s61" ∷ [])

abbrev pub m3 : List ℕ
m3 = m "id=3.1" "deps=2,0,0,0,0,0,0,0" ("at=73[2.1" ∷ "do=insert" ∷ "value=s62" ∷ [])

abbrev pub m4 : List ℕ
m4 = m "id=3.2" "deps=2,0,0,0,0,0,0,0" ("at=73[2.1" ∷ "do=insert" ∷ "value=s63" ∷ [])

abbrev pub m5 : List ℕ
m5 = m "id=4.1" "deps=3,0,0,0,0,0,0,0" ("at=73[2.1" ∷ "do=delete" ∷ [])

-- the sheet of document 01, letter by letter
abbrev pub sheet1 : List ℕ
sheet1 =
    page ("sheet=1" ∷
    "seen=4,3,0,0,0,0,0,0" ∷
    "place=1{l73" ∷
    "mark=1.1" ∷
    "mark=2.1" ∷
    "mark=3.1" ∷
    "mark=3.2" ∷
    "place=2[-2.1" ∷
    "place=2[-3.2" ∷
    "mark=3.2" ∷
    "value=3.2:s63" ∷
    "place=2[-3.1" ∷
    "mark=3.1" ∷
    "value=3.1:s62" ∷
    "end=4" ∷ [])

-- two terminals assign at one key
abbrev pub a1 : List ℕ
a1 = m "id=1.1" "deps=0,0,0,0,0,0,0,0" ("at=6d" ∷ "do=assign" ∷ "value=i1" ∷ [])

abbrev pub a2 : List ℕ
a2 = m "id=1.2" "deps=0,0,0,0,0,0,0,0" ("at=6d" ∷ "do=assign" ∷ "value=i2" ∷ [])

-- a map with one key
abbrev b1 : List ℕ
b1 = m "id=1.1" "deps=0,0,0,0,0,0,0,0" ("at=6d" ∷ "do=assign" ∷ "value={" ∷ [])

abbrev b2 : List ℕ
b2 = m "id=2.1" "deps=1,0,0,0,0,0,0,0" ("at=6d{61" ∷ "do=assign" ∷ "value=i1" ∷ [])

abbrev pub empty_sheet : List ℕ
empty_sheet = page ("sheet=1" ∷ "seen=0,0,0,0,0,0,0,0" ∷ "end=0" ∷ [])

abbrev pub table : List Example
table =
    -- 1: the five messages, in their order, and with the last two exchanged
    record {
      messages = m1 ∷ m2 ∷ m3 ∷ m4 ∷ m5 ∷ [];
      answers = applied ∷ applied ∷ applied ∷ applied ∷ applied ∷ [];
      sheet = sheet1;
      waiting = [];
    } ∷
    record {
      messages = m1 ∷ m2 ∷ m3 ∷ m5 ∷ m4 ∷ [];
      answers = applied ∷ applied ∷ applied ∷ applied ∷ applied ∷ [];
      sheet = sheet1;
      waiting = [];
    } ∷
    -- the two inserts exchanged: the smaller id steps on over the greater one
    record {
      messages = m1 ∷ m2 ∷ m4 ∷ m3 ∷ m5 ∷ [];
      answers = applied ∷ applied ∷ applied ∷ applied ∷ applied ∷ [];
      sheet = sheet1;
      waiting = [];
    } ∷
    -- and the other way round: the last one to come lets the four others through
    record {
      messages = m5 ∷ m4 ∷ m3 ∷ m2 ∷ m1 ∷ [];
      answers = only 5 ∷ only 5 ∷ only 5 ∷ only 5 ∷ done 5 0 0 ∷ [];
      sheet = sheet1;
      waiting = [];
    } ∷
    -- 2: two values
    record {
      messages = a1 ∷ a2 ∷ [];
      answers = applied ∷ applied ∷ [];
      sheet =
          page ("sheet=1" ∷ "seen=1,1,0,0,0,0,0,0" ∷
          "place=1{-6d" ∷ "mark=1.1" ∷ "mark=1.2" ∷ "value=1.1:i1" ∷ "value=1.2:i2" ∷ "end=1" ∷ []);
      waiting = [];
    } ∷
    -- 3: one value, marks 1.1, 1.2, 2.1
    record {
      messages = a1 ∷ a2 ∷ m "id=2.1" "deps=1,1,0,0,0,0,0,0" ("at=6d" ∷ "do=assign" ∷ "value=i3" ∷ []) ∷ [];
      answers = applied ∷ applied ∷ applied ∷ [];
      sheet =
          page ("sheet=1" ∷ "seen=2,1,0,0,0,0,0,0" ∷
          "place=1{-6d" ∷ "mark=1.1" ∷ "mark=1.2" ∷ "mark=2.1" ∷ "value=2.1:i3" ∷ "end=1" ∷ []);
      waiting = [];
    } ∷
    -- 4: mark and value 1.2 stay
    record {
      messages = a1 ∷ a2 ∷ m "id=2.1" "deps=1,0,0,0,0,0,0,0" ("at=6d" ∷ "do=delete" ∷ []) ∷ [];
      answers = applied ∷ applied ∷ applied ∷ [];
      sheet = page ("sheet=1" ∷ "seen=2,1,0,0,0,0,0,0" ∷ "place=1{-6d" ∷ "mark=1.2" ∷ "value=1.2:i2" ∷ "end=1" ∷ []);
      waiting = [];
    } ∷
    -- 5: 2.1's value stays
    record {
      messages = b1 ∷ b2 ∷ m "id=3.1" "deps=2,0,0,0,0,0,0,0" ("at=6d" ∷ "do=assign" ∷ "value=i2" ∷ []) ∷ [];
      answers = applied ∷ applied ∷ applied ∷ [];
      sheet =
          page ("sheet=1" ∷ "seen=3,0,0,0,0,0,0,0" ∷
          "place=1{m6d" ∷ "mark=1.1" ∷ "mark=2.1" ∷ "mark=3.1" ∷ "value=3.1:i2" ∷
          "place=2{-61" ∷ "mark=2.1" ∷ "value=2.1:i1" ∷ "end=2" ∷ []);
      waiting = [];
    } ∷
    -- 6: key 61 keeps its place, no marks
    record {
      messages = b1 ∷ b2 ∷ m "id=3.1" "deps=2,0,0,0,0,0,0,0" ("at=6d" ∷ "do=assign" ∷ "value={" ∷ []) ∷ [];
      answers = applied ∷ applied ∷ applied ∷ [];
      sheet = page ("sheet=1" ∷ "seen=3,0,0,0,0,0,0,0" ∷ "place=1{m6d" ∷ "mark=3.1" ∷ "place=2{-61" ∷ "end=2" ∷ []);
      waiting = [];
    } ∷
    -- 7: a deleted element under which the neighbour assigns is present with mark 3.2
    record {
      messages =
          m1 ∷ m "id=2.1" "deps=1,0,0,0,0,0,0,0" ("at=73[^" ∷ "do=insert" ∷ "value={" ∷ []) ∷
          m "id=3.1" "deps=2,0,0,0,0,0,0,0" ("at=73[2.1" ∷ "do=delete" ∷ []) ∷
          m "id=3.2" "deps=2,0,0,0,0,0,0,0" ("at=73[2.1{61" ∷ "do=assign" ∷ "value=t" ∷ []) ∷ [];
      answers = applied ∷ applied ∷ applied ∷ applied ∷ [];
      sheet =
          page ("sheet=1" ∷ "seen=3,3,0,0,0,0,0,0" ∷ "place=1{l73" ∷ "mark=1.1" ∷ "mark=2.1" ∷ "mark=3.2" ∷
          "place=2[m2.1" ∷ "mark=3.2" ∷ "place=3{-61" ∷ "mark=3.2" ∷ "value=3.2:t" ∷ "end=3" ∷ []);
      waiting = [];
    } ∷
    -- and the neighbour's edit ahead of the delete
    record {
      messages =
          m1 ∷ m "id=2.1" "deps=1,0,0,0,0,0,0,0" ("at=73[^" ∷ "do=insert" ∷ "value={" ∷ []) ∷
          m "id=3.2" "deps=2,0,0,0,0,0,0,0" ("at=73[2.1{61" ∷ "do=assign" ∷ "value=t" ∷ []) ∷
          m "id=3.1" "deps=2,0,0,0,0,0,0,0" ("at=73[2.1" ∷ "do=delete" ∷ []) ∷ [];
      answers = applied ∷ applied ∷ applied ∷ applied ∷ [];
      sheet =
          page ("sheet=1" ∷ "seen=3,3,0,0,0,0,0,0" ∷ "place=1{l73" ∷ "mark=1.1" ∷ "mark=2.1" ∷ "mark=3.2" ∷
          "place=2[m2.1" ∷ "mark=3.2" ∷ "place=3{-61" ∷ "mark=3.2" ∷ "value=3.2:t" ∷ "end=3" ∷ []);
      waiting = [];
    } ∷
    -- 8: the first message again
    record {
      messages = m1 ∷ m1 ∷ [];
      answers = applied ∷ only 3 ∷ [];
      sheet = page ("sheet=1" ∷ "seen=1,0,0,0,0,0,0,0" ∷ "place=1{l73" ∷ "mark=1.1" ∷ "end=1" ∷ []);
      waiting = [];
    } ∷
    -- 9: own entry ahead of seen, and once more
    record { messages = m2 ∷ m2 ∷ []; answers = only 5 ∷ only 6 ∷ []; sheet = empty_sheet; waiting = m2 ∷ [] } ∷
    -- 10: counter not above every deps entry
    record {
      messages = m "id=2.1" "deps=2,0,0,0,0,0,0,0" ("at=6d" ∷ "do=assign" ∷ "value=n" ∷ []) ∷ [];
      answers = only 2 ∷ [];
      sheet = empty_sheet;
      waiting = [];
    } ∷
    -- 11: a way through an uncovered element
    record {
      messages = m1 ∷ m2 ∷ m "id=3.2" "deps=1,0,0,0,0,0,0,0" ("at=73[2.1{61" ∷ "do=assign" ∷ "value=f" ∷ []) ∷ [];
      answers = applied ∷ applied ∷ only 8 ∷ [];
      sheet =
          page ("sheet=1" ∷ "seen=2,0,0,0,0,0,0,0" ∷ "place=1{l73" ∷ "mark=1.1" ∷ "mark=2.1" ∷
          "place=2[-2.1" ∷ "mark=2.1" ∷ "value=2.1:s61" ∷ "end=2" ∷ []);
      waiting = [];
    } ∷
    -- an insert after an uncovered element whose id is not smaller: 8 is tried before 9
    record {
      messages = m1 ∷ m "id=2.1" "deps=1,0,0,0,0,0,0,0" ("at=73[5.2" ∷ "do=insert" ∷ "value=n" ∷ []) ∷ [];
      answers = applied ∷ only 8 ∷ [];
      sheet = page ("sheet=1" ∷ "seen=1,0,0,0,0,0,0,0" ∷ "place=1{l73" ∷ "mark=1.1" ∷ "end=1" ∷ []);
      waiting = [];
    } ∷
    -- 12: delete of an unknown key: no place, seen moves
    record {
      messages = m "id=1.1" "deps=0,0,0,0,0,0,0,0" ("at=6d" ∷ "do=delete" ∷ []) ∷ [];
      answers = applied ∷ [];
      sheet = page ("sheet=1" ∷ "seen=1,0,0,0,0,0,0,0" ∷ "end=0" ∷ []);
      waiting = [];
    } ∷
    []

-- The claim.

-- the messages are received one after another, and answered so
abbrev pub Answered : Terminal → List (List ℕ) → List Answer → Terminal → Type 0
Answered T [] [] exit = exit ≡ T
Answered T [] (a ∷ answers) exit = ⊥
Answered T (m ∷ ms) [] exit = ⊥
Answered T (m ∷ ms) (a ∷ answers) exit =
    (r : Receipt) × (next : Terminal) × Receives T m r next × (receipt_answer r ≡ a) × Answered next ms answers exit

pub record Holds (e : Example) : Type 0 where
  pub exit : Terminal
  pub answered : Answered new_terminal e.messages e.answers exit
  pub saves : sheet exit.document ≡ e.sheet
  pub waits : map message exit.waiting ≡ e.waiting

abbrev pub Claim : Type 0
Claim = All Holds table
