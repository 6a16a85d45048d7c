-- Document 01, "Reads": what `keys`, `values` and `element` promise. If the tables hold a document, the answer and every byte of the buffer
-- are those that document 01 says. Whatever they hold, a refusal leaves the buffer as it was; and of counts that have no room in the tables
-- 14 is answered. That any two results are equal is proved in proofs/Once.
-- Assumes nothing: these are definitions.
use Rattle.std.specs.Prelude.{ℕ, ◌≡◌, false, List, Err}
use Rattle.meaning.specs.Places.{Document}
use Rattle.meaning.specs.Read.{ValidPlaceWay, place_way_text, ValidKeysWay, keys_way_text, element_way_text}
use Rattle.meaning.specs.Read.{Finding, keys, values, nth_element}
use Rattle.meaning.specs.Promises.{Reads}
use Rattle.meaning.specs.Answers.{Refusal, Reading, reading_answer}
use Rattle.meaning.specs.declared.ReadError.TheVariants.{NotThere}
use Rattle.tables.specs.Holding.{within_tables, four}
use Rattle.tables.specs.declared.Counts.{Counts}
use Rattle.keeping.specs.Storing.{Stores}

-- memory that holds the document, with these heads and keys; and with these values
abbrev pub HoldsKeys : List ℕ → List ℕ → Counts → Document → Type 0
HoldsKeys h k c D = (m : List ℕ) × (v : List ℕ) × (seen : List ℕ) × Stores (four h k m v) c seen D

abbrev pub HoldsValues : List ℕ → List ℕ → List ℕ → Counts → Document → Type 0
HoldsValues h k v c D = (m : List ℕ) × (seen : List ℕ) × Stores (four h k m v) c seen D

pub record Asks {A : Type 0} (Valid : A → Type 0) (text : A → List ℕ) (look : A → Document → Finding) (Held : Document → Type 0)
    (c : Counts) (bytes before : List ℕ) (answer : Reading) (after : List ℕ) : Type 0 where
  pub reads : (D : Document) → Held D → Reads Valid text look D bytes before answer after
  pub stays : Refusal (reading_answer answer) → after ≡ before
  pub beyond : within_tables c ≡ false → answer ≡ Err NotThere

abbrev pub KeysAsked : List ℕ → List ℕ → Counts → List ℕ → List ℕ → Reading → List ℕ → Type 0
KeysAsked h k c = Asks ValidKeysWay keys_way_text keys (HoldsKeys h k c) c

abbrev pub ValuesAsked : List ℕ → List ℕ → List ℕ → Counts → List ℕ → List ℕ → Reading → List ℕ → Type 0
ValuesAsked h k v c = Asks ValidPlaceWay place_way_text values (HoldsValues h k v c) c

abbrev pub ElementAsked : List ℕ → List ℕ → Counts → ℕ → List ℕ → List ℕ → Reading → List ℕ → Type 0
ElementAsked h k c index = Asks ValidPlaceWay element_way_text (nth_element index) (HoldsKeys h k c) c
