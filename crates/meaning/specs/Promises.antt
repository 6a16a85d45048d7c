-- What each public operation promises, for every input: answer, document, waiting messages and every byte of the caller's buffer. The
-- answer is an enum, and the promise is about its number and values in document 01 (specs/Answers).
-- Theorem (crate `theorems`): any two outcomes that meet a promise are equal.
-- Assumes nothing: these are definitions.
use Rattle.std.specs.Prelude.{ℕ, ◌≤◌, ◌≡◌, List, [], ◌∷◌}
use Rattle.meaning.specs.Places.{Document}
use Rattle.meaning.specs.Ways.{Way}
use Rattle.meaning.specs.Valid.{ValidEdit, ValidOperation}
use Rattle.meaning.specs.Message.{message, edit_text}
use Rattle.meaning.specs.Receive.{Terminal, new_terminal, Received, refusing, receive}
use Rattle.meaning.specs.Edit.{EditOutcome, edit}
use Rattle.meaning.specs.Sheet.{save, sheet}
use Rattle.meaning.specs.Load.{Accepted, Broken}
use Rattle.meaning.specs.Read.{ValidPlaceWay, place_way_text, ValidKeysWay, keys_way_text, element_way_text}
use Rattle.meaning.specs.Read.{Finding, keys, values, nth_element, ReadOutcome, answer_read}
use Rattle.meaning.specs.Stream.{messages}
use Rattle.meaning.specs.Answers.{Answer, done, only, bad_line}
use Rattle.meaning.specs.Answers.{receipt_answer, edited_answer, saved_answer, loaded_answer, reading_answer}
use Rattle.meaning.specs.Answers.{Receipt}
use Rattle.meaning.specs.Answers.{Edited}
use Rattle.meaning.specs.Answers.{Saved}
use Rattle.meaning.specs.Answers.{Loaded}
use Rattle.meaning.specs.Answers.{Reading}

-- What bytes say in a layout: they are the text of a valid thing, or of none.
pub data Says {A : Type 0} (Valid : A → Type 0) (text : A → List ℕ) (bytes : List ℕ) : Type 0 where
  says : (a : A) → Valid a → bytes ≡ text a → Says Valid text bytes
  says_nothing : ((a : A) → Valid a → bytes ≡ text a → ⊥) → Says Valid text bytes

-- Receiving.

abbrev pub received : {bytes : List ℕ} → Says ValidOperation message bytes → Terminal → Received
received (says o v e) T = receive o T
received (says_nothing n) T = refusing (only 1) T

pub record Receives (T : Terminal) (bytes : List ℕ) (answer : Receipt) (exit : Terminal) : Type 0 where
  pub reads : Says ValidOperation message bytes
  pub answers : receipt_answer answer ≡ (received reads T).answer
  pub leaves : exit ≡ (received reads T).terminal

-- A local edit: the device's number, and a message's lines from `at=` on.

pub record Lines : Type 0 where
  pub top : List ℕ
  pub way : Way

-- the device's number is 1 to 8, and the lines are in the layout
pub record ValidLines (r : ℕ) (l : Lines) : Type 0 where
  pub low : 1 ≤ r
  pub high : r ≤ 8
  pub edit : ValidEdit l.top l.way

abbrev pub lines_of : Lines → List ℕ
lines_of l = edit_text l.top l.way

abbrev pub edited : {bytes : List ℕ} (r : ℕ) → Says (ValidLines r) lines_of bytes → Terminal → List ℕ → EditOutcome
edited r (says l v e) T buffer = edit r l.top l.way T buffer
edited r (says_nothing n) T buffer = record { answer = only 1; terminal = T; buffer = buffer; applied = [] }

pub record Edits (T : Terminal) (r : ℕ) (bytes buffer : List ℕ) (answer : Edited) (exit : Terminal) (written : List ℕ) : Type 0 where
  pub reads : Says (ValidLines r) lines_of bytes
  pub answers : edited_answer answer ≡ (edited r reads T buffer).answer
  pub leaves : exit ≡ (edited r reads T buffer).terminal
  pub writes : written ≡ (edited r reads T buffer).buffer

-- Saving.

pub record Saves (D : Document) (buffer : List ℕ) (answer : Saved) (written : List ℕ) : Type 0 where
  pub answers : saved_answer answer ≡ (save D buffer).answer
  pub writes : written ≡ (save D buffer).buffer

-- Loading: nothing waits in a loaded terminal, and a refusal leaves it as it was.

-- what bytes say as a sheet: a document, or that a line is the first to break a rule
pub data SheetSays (bytes : List ℕ) : Type 0 where
  accepted : (D : Document) → Accepted bytes D → SheetSays bytes
  broken : (n : ℕ) → Broken bytes n → SheetSays bytes

pub record LoadOutcome : Type 0 where
  pub answer : Answer
  pub terminal : Terminal

abbrev pub loaded : {bytes : List ℕ} → SheetSays bytes → Terminal → LoadOutcome
loaded (accepted D a) T = record { answer = done 0 0 0; terminal = record { document = D; waiting = [] } }
loaded (broken n b) T = record { answer = bad_line n; terminal = T }

pub record Loads (T : Terminal) (bytes : List ℕ) (answer : Loaded) (exit : Terminal) : Type 0 where
  pub reads : SheetSays bytes
  pub answers : loaded_answer answer ≡ (loaded reads T).answer
  pub leaves : exit ≡ (loaded reads T).terminal

-- The three reads.

abbrev pub asked : {A : Type 0} {Valid : A → Type 0} {text : A → List ℕ} {bytes : List ℕ}
    → (A → Document → Finding) → Says Valid text bytes → Document → List ℕ → ReadOutcome
asked look (says w v e) D buffer = answer_read (look w D) buffer
asked look (says_nothing n) D buffer = record { answer = only 1; buffer = buffer }

pub record Reads {A : Type 0} (Valid : A → Type 0) (text : A → List ℕ) (look : A → Document → Finding)
    (D : Document) (bytes buffer : List ℕ) (answer : Reading) (written : List ℕ) : Type 0 where
  pub reads : Says Valid text bytes
  pub answers : reading_answer answer ≡ (asked look reads D buffer).answer
  pub writes : written ≡ (asked look reads D buffer).buffer

abbrev pub ReadsKeys : Document → List ℕ → List ℕ → Reading → List ℕ → Type 0
ReadsKeys = Reads ValidKeysWay keys_way_text keys

abbrev pub ReadsValues : Document → List ℕ → List ℕ → Reading → List ℕ → Type 0
ReadsValues = Reads ValidPlaceWay place_way_text values

abbrev pub ReadsElement : ℕ → Document → List ℕ → List ℕ → Reading → List ℕ → Type 0
ReadsElement n = Reads ValidPlaceWay element_way_text (nth_element n)

-- The program `merge`.

-- the messages are received one after another
abbrev pub ReceivesAll : Terminal → List (List ℕ) → Terminal → Type 0
ReceivesAll T [] exit = exit ≡ T
ReceivesAll T (m ∷ ms) exit = (answer : Receipt) × (next : Terminal) × Receives T m answer next × ReceivesAll next ms exit

pub record Merges (input output : List ℕ) : Type 0 where
  pub exit : Terminal
  pub receives : ReceivesAll new_terminal (messages input) exit
  pub prints : output ≡ sheet exit.document
