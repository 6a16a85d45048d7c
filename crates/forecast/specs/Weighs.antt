-- What an operation comes to on tables, before anything is changed: answer 8, and the count of answer 10.
-- A place under a key is looked for among the rows that stand behind a place, its children of depth n first; rows that are shallower
-- end them. Each promise says: if the tables hold rows, the answer is that of the rows.
-- Assumes nothing: these are definitions.
use Rattle.std.specs.Prelude.{ℕ, ◌+◌, ◌≤◌, ◌≡◌, Bool, true, false, cond, List, [], ◌∷◌, ◌++◌, length}
use Rattle.std.specs.Prelude.{Option, Some, Result, Ok, Err, is_ok}
use Rattle.meaning.specs.Ways.{Way, steps}
use Rattle.meaning.specs.Valid.{ValidWay}
use Rattle.meaning.specs.Sheet.{Spot, Row}
use Rattle.rows.specs.Blocks.{Block, join}
use Rattle.rows.specs.Locate.{Located, nowhere, here, elements_found_rows}
use Rattle.rows.specs.Counting.{Change, gone_values, new_block, run_change}
use Rattle.rows.specs.Within.{under_change}
use Rattle.readers.specs.declared.Given.{Given}
use Rattle.readers.specs.declared.Given.TheVariants as G
use Rattle.message.specs.Means.{way_words, deed_of}
use Rattle.message.specs.declared.Act.{Act}
use Rattle.message.specs.declared.Deed.{Deed}
use Rattle.message.specs.declared.Deed.TheVariants as D
use Rattle.deeds.specs.Deeds.{is_delete, is_insert}
use Rattle.tables.specs.Holding.{Holds, four}
use Rattle.tables.specs.declared.Counts.{Counts}
use Rattle.tables.specs.declared.Position.{Position}
use Rattle.finder.specs.Looks.{Sees, hanging, HangsBehind}
use Rattle.forecast.specs.declared.Lost.{Lost}
use Rattle.forecast.specs.declared.Weight.{Weight}
use Rattle.forecast.specs.Goes.{Goes}

-- the block that was found, or that of a new place
abbrev pub or_new : ℕ → Spot → Located → Block
or_new n p nowhere = new_block n p
or_new n p (here b) = b

-- what goes there: of the place's own values, or of its block
abbrev pub GoesAt : Bool → List ℕ → Block → Lost → Type 0
GoesAt true d b g = (g.marks ≡ 0) × (g.values ≡ gone_values d (b.own ∷ []))
GoesAt false d b g = Goes d (join b) g

-- Deeds.

unfoldable pub plain_given : Given → Bool
plain_given G.Null = true
plain_given G.True = true
plain_given G.False = true
plain_given (G.NonNeg n) = true
plain_given (G.Neg n) = true
plain_given (G.String n) = true
plain_given G.Map = false
plain_given G.List = false

-- a plain value is assigned or inserted
abbrev pub gives_plain : Deed → Bool
gives_plain (D.Assign g) = plain_given g
gives_plain (D.Insert g) = plain_given g
gives_plain D.Delete = false

-- Two deeds are alike in what a weight depends on; the words of a string or of an integer are no part of that.
pub record Alike (deed other : Deed) : Type 0 where
  pub deletes : is_delete deed ≡ is_delete other
  pub inserts : is_insert deed ≡ is_insert other
  pub plain : gives_plain deed ≡ gives_plain other

abbrev pub SightGone : List ℕ → List ℕ → List ℕ → ℕ → Option Position → Deed → List ℕ → Lost → Type 0
SightGone h m v rows s deed d g =
    (k : List ℕ) (c : Counts) (rs : List Row) (n : ℕ) (p : Spot) (l : Located) → Holds (four h k m v) c rs → rows ≡ c.rows
    → Sees rs n s l → GoesAt (gives_plain deed) d (or_new n p l) g

-- Weights.

-- the weight says what changes
pub record Counted (c : Change) (x : Weight) : Type 0 where
  pub places : x.places ≡ c.more.places
  pub marks : x.marks ≡ c.more.marks
  pub values : x.values ≡ c.more.values
  pub gone_marks : x.gone_marks ≡ c.less.marks
  pub gone-values : x.gone_values ≡ c.less.values

-- what a way comes to; as an error where an element on it isn't there, or isn't covered
abbrev pub Forecast : Type 0
Forecast = Result Weight Weight

-- the numbers, whether the way is led or not
abbrev pub weight_of : Forecast → Weight
weight_of (Ok u) = u
weight_of (Err u) = u

-- whether the way is led, and what changes
pub record Weighs (found : Bool) (c : Change) (x : Forecast) : Type 0 where
  pub found_is : is_ok x ≡ found
  pub counted : Counted c (weight_of x)

abbrev pub nothing_weighed : Weight
nothing_weighed = record { places = 0; marks = 0; values = 0; gone_marks = 0; gone_values = 0 }

-- the mark and the value that come at a deed's place
abbrev pub put_weighed : Deed → Weight
put_weighed deed = record {
  places = 0;
  marks = cond (is_delete deed) 0 1;
  values = cond (gives_plain deed) 1 0;
  gone_marks = 0;
  gone_values = 0;
}

abbrev pub element_weighed : Deed → Weight
element_weighed deed = record {
  places = 1;
  marks = cond (is_delete deed) 0 1;
  values = cond (gives_plain deed) 1 0;
  gone_marks = 0;
  gone_values = 0;
}

-- the same way, with other numbers
abbrev pub each : (Weight → Weight) → Forecast → Forecast
each f (Ok u) = Ok (f u)
each f (Err u) = Err (f u)

abbrev pub with_mark : Deed → Weight → Weight
with_mark deed u = record {
  places = u.places;
  marks = cond (is_delete deed) u.marks (u.marks + 1);
  values = u.values;
  gone_marks = u.gone_marks;
  gone_values = u.gone_values;
}

unfoldable pub marked : Forecast → Deed → Forecast
marked u deed = each (with_mark deed) u

-- the same numbers, of a way that isn't led
abbrev pub unled : Forecast → Forecast
unled u = Err (weight_of u)

abbrev pub placed : Weight → Weight
placed u = record {
  places = u.places + 1;
  marks = u.marks;
  values = u.values;
  gone_marks = u.gone_marks;
  gone_values = u.gone_values;
}

unfoldable pub carried : Forecast → Bool → Bool → Bool → Bool → Forecast
carried u there list covers makes =
    cond there (cond list (cond covers u (unled u)) u)
    (cond list (Err nothing_weighed) (each (λ w. cond makes (placed w) nothing_weighed) u))

-- an assign or a delete at its place
pub record PlaceWeighed (h m v : List ℕ) (rows : ℕ) (s : Option Position) (d : List ℕ) (deed : Deed) (x : Weight) : Type 0 where
  pub few_places : x.places ≤ 0
  pub few_marks : x.marks ≤ 1
  pub is : (k : List ℕ) (c : Counts) (rs : List Row) (n : ℕ) (p : Spot) (l : Located) (w : Way) → Holds (four h k m v) c rs
      → rows ≡ c.rows → Sees rs n s l → way_words w ≡ [] → Alike deed (deed_of w) → Counted (run_change d n w (or_new n p l)) x

-- a way from a place on; n is the depth of the rows that hang there, if any do
pub record WayWeighed (h k m v : List ℕ) (rows : ℕ) (from : Option Position) (n : ℕ) (d : List ℕ) (deed : Deed) (way : List ℕ)
    (x : Forecast) : Type 0 where
  pub few_places : (weight_of x).places ≤ length way
  pub few_marks : (weight_of x).marks ≤ length way
  pub is : (c : Counts) (A B : List Row) (w : Way) → Holds (four h k m v) c (A ++ B) → rows ≡ c.rows
      → HangsBehind from A → way ≡ way_words w → Alike deed (deed_of w) → ValidWay w → n + steps w ≤ 9
      → Weighs (elements_found_rows d n w (hanging from B)) (under_change d n w (hanging from B)) x

-- the way of an operation that does o, from the root on
abbrev pub Weighed : List ℕ → List ℕ → List ℕ → List ℕ → ℕ → Position → Act → List ℕ → Forecast → Type 0
Weighed h k m v rows top o way x = WayWeighed h k m v rows (Some top) 1 o.deps.at o.deed way x
