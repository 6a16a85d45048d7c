-- What the public readers promise: the bytes are the text of a valid thing, and what is answered means it; or they are the text of none,
-- and nothing is answered. That two answers to the same bytes are equal is proved in proofs/Settled.
-- Assumes nothing: these are definitions.
use Rattle.std.specs.Prelude.{ℕ, ◌≡◌, List, [], Option, None, Some}
use Rattle.meaning.specs.Valid.{ValidEdit, ValidOperation}
use Rattle.meaning.specs.Message.{message}
use Rattle.meaning.specs.Read.{ValidPlaceWay, place_way_text, KeysWay, of_root, of_place, ValidKeysWay}
use Rattle.meaning.specs.Read.{keys_way_text, element_way_text}
use Rattle.meaning.specs.Promises.{Says, says, says_nothing, Lines, lines_of}
use Rattle.message.specs.Means.{pad, MeansEdit, Means, MeansPlace}
use Rattle.message.specs.declared.Way.{Way}
use Rattle.message.specs.declared.Edit.{Edit}
use Rattle.message.specs.declared.Operation.{Operation}

-- if the bytes are in the layout, something is answered, and it means what they say; if not, nothing is
abbrev pub Answers : {A R : Type 0} {Valid : A → Type 0} {text : A → List ℕ} {bytes : List ℕ}
    → (R → A → Type 0) → Option R → Says Valid text bytes → Type 0
Answers means (Some r) (says x v e) = means r x
Answers means None (says x v e) = ⊥
Answers means (Some r) (says_nothing n) = ⊥
Answers means None (says_nothing n) = Unit {0}

pub record Reads {A R : Type 0} (Valid : A → Type 0) (text : A → List ℕ) (means : R → A → Type 0) (bytes : List ℕ) (r : Option R)
    : Type 0 where
  pub says : Says Valid text bytes
  pub answers : Answers means r says

abbrev pub ValidLines : Lines → Type 0
ValidLines l = ValidEdit l.top l.way

abbrev pub MeansLines : Edit → Lines → Type 0
MeansLines e l = MeansEdit e.way e.deed l.top l.way

abbrev pub ReadsEdit : List ℕ → Option Edit → Type 0
ReadsEdit = Reads ValidLines lines_of MeansLines

abbrev pub ReadsMessage : List ℕ → Option Operation → Type 0
ReadsMessage = Reads ValidOperation message Means

abbrev pub ReadsPlaceWay : List ℕ → Option Way → Type 0
ReadsPlaceWay = Reads ValidPlaceWay place_way_text MeansPlace

-- the way of the root has no keys
abbrev pub MeansKeys : Way → KeysWay → Type 0
MeansKeys way of_root = (way.keys ≡ pad 24 []) × (way.n ≡ 0)
MeansKeys way (of_place w) = MeansPlace way w

abbrev pub ReadsKeysWay : List ℕ → Option Way → Type 0
ReadsKeysWay = Reads ValidKeysWay keys_way_text MeansKeys

abbrev pub ReadsElementWay : List ℕ → Option Way → Type 0
ReadsElementWay = Reads ValidPlaceWay element_way_text MeansPlace
