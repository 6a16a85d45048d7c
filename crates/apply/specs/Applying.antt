-- What carrying out and applying promise of memory that holds a document. On a refusal not one word has changed.
-- Assumes nothing: these are definitions.
use Rattle.std.specs.Prelude.{ℕ, ◌≡◌, true, false, List, Ok}
use Rattle.meaning.specs.Places.{Document}
use Rattle.meaning.specs.Apply.{apply}
use Rattle.meaning.specs.Valid.{ValidOperation}
use Rattle.meaning.specs.Ways as M
use Rattle.meaning.specs.Sheet.{rows_of}
use Rattle.meaning.specs.declared.Counters.{Counters}
use Rattle.message.specs.Means.{Means}
use Rattle.message.specs.declared.Operation.{Operation}
use Rattle.tables.specs.declared.Tables.{Tables}
use Rattle.tables.specs.Holding.{Holds, four}
use Rattle.tables.specs.declared.Counts.{Counts}
use Rattle.tables.specs.declared.Position.{Position}
use Rattle.keeping.specs.Storing.{Stores, StoresIn}
use Rattle.keeping.specs.declared.Document as K
use Rattle.judging.specs.Judging.{Judgement, is_taken, ready_verdict, verdict, Newer, top_position}

-- a document of the words of its four tables, its counts and its counters
abbrev pub held : List ℕ → List ℕ → List ℕ → List ℕ → Counts → Counters → K.Document
held h k m v c seen = record { tables = four h k m v; counts = c; seen = seen }

-- with the stop s, from which the way is looked for
abbrev pub CarriesOut : Tables → Counts → Position → Operation → Counts → Tables → Type 0
CarriesOut T c s op e U =
    (D : Document) (o : M.Operation) → Stores T c D.seen D → Means op o → ValidOperation o → Newer D o → s ≡ top_position o D
    → Holds U e (rows_of (apply o D))

-- an operation that is ready and may be taken leaves the document that it makes
abbrev pub TakesAt : K.Document → Position → Operation → K.Document → Type 0
TakesAt d s op e =
    (D : Document) (o : M.Operation) → StoresIn d D → Means op o → ValidOperation o → Newer D o → ready_verdict o D ≡ Ok tt
    → s ≡ top_position o D → StoresIn e (apply o D)

-- the same, where nothing is known but the verdict
abbrev pub TakesOn : K.Document → Operation → K.Document → Type 0
TakesOn d op e =
    (D : Document) (o : M.Operation) → StoresIn d D → Means op o → ValidOperation o → is_taken (verdict o D) ≡ true
    → StoresIn e (apply o D)

-- answer, document and every word; for any memory a refusal changes nothing
pub record Applies (d : K.Document) (op : Operation) (a : Judgement) (e : K.Document) : Type 0 where
  pub answers : (D : Document) (o : M.Operation) → StoresIn d D → Means op o → ValidOperation o → a ≡ verdict o D
  pub takes : (D : Document) (o : M.Operation) → StoresIn d D → Means op o → ValidOperation o → is_taken a ≡ true
      → StoresIn e (apply o D)
  pub refuses : is_taken a ≡ false → e ≡ d
