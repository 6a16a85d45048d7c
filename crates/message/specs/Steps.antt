-- A way, taken apart: its first key, and its steps. A step is `{` and a key, `[` and an element id, or `[^`. A way stands before a line
-- feed or the end of the text.
-- Assumes nothing: these are definitions.
use Rattle.std.specs.Prelude.{ℕ, ◌≤◌, ◌≡◌, List, [], ◌∷◌, ◌++◌, length}
use Rattle.meaning.specs.Ascii.{ascii, byte}
use Rattle.meaning.specs.Valid.{ValidId, ValidKey, ValidAssigned}
use Rattle.meaning.specs.Text.{id_text, hex, assigned_text}
use Rattle.meaning.specs.Ways.{Assigned}
use Rattle.theorems.specs.Decimal.{Stops}
use Rattle.decimal.specs.Take.{Layout}
use Rattle.decimal.specs.Numbers.{NoDigit}
use Rattle.readers.specs.Words.{key_words}
use Rattle.message.specs.Means.{element_words, head_words}

pub data Step : Type 0 where
  key : List ℕ → Step
  element : ℕ → Step
  caret : Step

unfoldable pub step_text : Step → List ℕ
step_text (key k) = ascii "{" ++ hex k
step_text (element e) = ascii "[" ++ id_text e
step_text caret = ascii "[^"

unfoldable pub all_text : List Step → List ℕ
all_text [] = []
all_text (x ∷ xs) = step_text x ++ all_text xs

unfoldable pub step_words : Step → List ℕ
step_words (key k) = key_words k
step_words (element e) = element_words e
step_words caret = head_words

unfoldable pub all_words : List Step → List ℕ
all_words [] = []
all_words (x ∷ xs) = step_words x ++ all_words xs

abbrev pub ValidStep : Step → Type 0
ValidStep (key k) = ValidKey k
ValidStep (element e) = ValidId e
ValidStep caret = Unit {0}

abbrev pub MoreStep : Step → List ℕ → Type 0
MoreStep (key k) t = Stops t
MoreStep (element e) t = NoDigit t
MoreStep caret t = Unit {0}

abbrev pub steps : Layout Step
steps = record { Valid = ValidStep; text = step_text; More = MoreStep }

-- the text ends here, or its line does
abbrev pub Finished : List ℕ → Type 0
Finished [] = Unit {0}
Finished (c ∷ t) = c ≡ byte "\n"

-- steps into places: no `^` among them
abbrev pub Open : List Step → Type 0
Open [] = Unit {0}
Open (key k ∷ xs) = ValidKey k × Open xs
Open (element e ∷ xs) = ValidId e × Open xs
Open (caret ∷ xs) = ⊥

-- `^` only last
abbrev pub Good : List Step → Type 0
Good [] = Unit {0}
Good (key k ∷ xs) = ValidKey k × Good xs
Good (element e ∷ xs) = ValidId e × Good xs
Good (caret ∷ []) = Unit {0}
Good (caret ∷ x ∷ xs) = ⊥

-- the last step is into a list: an element id or `^`
abbrev pub InList : List Step → Type 0
InList [] = ⊥
InList (key k ∷ []) = ⊥
InList (element e ∷ []) = Unit {0}
InList (caret ∷ []) = Unit {0}
InList (x ∷ y ∷ xs) = InList (y ∷ xs)

-- one to eight keys, the first among them
abbrev pub trails : Layout (List Step)
trails = record { Valid = λ xs. (length xs ≤ 7) × Good xs; text = all_text; More = λ xs. Finished }

-- what is done, and its lines
pub data Action : Type 0 where
  assigns : Assigned → Action
  inserts : Assigned → Action
  deletes : Action

unfoldable pub action_text : Action → List ℕ
action_text (assigns a) = ascii "do=assign\nvalue=" ++ (assigned_text a ++ ascii "\n")
action_text (inserts a) = ascii "do=insert\nvalue=" ++ (assigned_text a ++ ascii "\n")
action_text deletes = ascii "do=delete\n"

abbrev pub ValidAction : Action → Type 0
ValidAction (assigns a) = ValidAssigned a
ValidAction (inserts a) = ValidAssigned a
ValidAction deletes = Unit {0}

abbrev pub actions : Layout Action
actions = record { Valid = ValidAction; text = action_text; More = λ x t. Unit {0} }
