-- What judging promises of memory that holds a document. An operation is judged on the document as it stands: 2, 3, 4; if it isn't ready it
-- comes too early; else 8, 9, 10; else it is taken.
-- Assumes nothing: these are definitions.
use Rattle.std.specs.Prelude.{ℕ, ◌+◌, ◌≤◌, ◌<◌, ◌≡◌, Bool, true, false, cond, ◌&&◌, List, ◌++◌, leb, ltb, eqb, Result, Ok, Err}
use Rattle.meaning.specs.Ids.{counter_of, entry_of, entry}
use Rattle.meaning.specs.Places.{Document}
use Rattle.meaning.specs.Apply.{apply}
use Rattle.meaning.specs.Limits.{fits}
use Rattle.meaning.specs.Judge.{not_above, repeated, own_deps_behind, astray, downward}
use Rattle.meaning.specs.Receive.{ready_in}
use Rattle.meaning.specs.Valid.{ValidOperation}
use Rattle.meaning.specs.Ways as M
use Rattle.meaning.specs.Sheet.{rows_of}
use Rattle.meaning.specs.declared.Counters.{Counters}
use Rattle.rows.specs.Blocks.{passed, key_below, over}
use Rattle.readers.specs.Words.{key_words}
use Rattle.message.specs.Means.{way_words, pad, Means}
use Rattle.message.specs.declared.Deed.{Deed}
use Rattle.message.specs.declared.Operation.{Operation}
use Rattle.tables.specs.declared.Tables.{Tables}
use Rattle.tables.specs.Holding.{four}
use Rattle.tables.specs.Standing.{behind}
use Rattle.tables.specs.declared.Counts.{Counts}
use Rattle.tables.specs.declared.Position.{Position}
use Rattle.keeping.specs.Storing.{Stores}
use Rattle.forecast.specs.declared.Weight.{Weight}
use Rattle.deeds.specs.Deeds.{is_insert}
use Rattle.judging.specs.declared.Refusal.{Refusal}
use Rattle.judging.specs.declared.Refusal.TheVariants as F
use Rattle.judging.specs.declared.Readiness.{Readiness}
use Rattle.judging.specs.declared.Readiness.TheVariants as B
use Rattle.judging.specs.Errors.{refusal_of}
use Rattle.judging.specs.declared.Unfit.{Unfit}
use Rattle.judging.specs.declared.Unfit.TheVariants as Y

-- the numbers of memory that holds a document, and of an operation on it
pub record Small (c : Counts) (w : Weight) : Type 0 where
  pub rows : c.rows ≤ 264
  pub marks : c.marks ≤ 1032
  pub values : c.values ≤ 257
  pub more_places : w.places ≤ 24
  pub more_marks : w.marks ≤ 24
  pub more_values : w.values ≤ 1
  pub less_marks : w.gone_marks ≤ 1056
  pub less_values : w.gone_values ≤ 258

-- what was there and comes is at most the limit and what goes
unfoldable pub has_room : Counts → Weight → Bool
has_room c w =
    leb (c.rows + w.places) 256 && leb (c.marks + w.marks) (1024 + w.gone_marks)
    && leb (c.values + w.values) (256 + w.gone_values)

-- the last key is an element's, whose id isn't smaller
unfoldable pub goes_down : Deed → ℕ → ℕ → ℕ → Bool
goes_down deed i hi len = cond (eqb len 17) (cond (ltb hi i) false (is_insert deed)) false

-- The verdict on a document.

-- it is ready and may be taken, it comes too early, or it is refused
abbrev pub Judgement : Type 0
Judgement = Result Readiness Refusal

-- of an operation that is ready: it may be taken, or it is refused
abbrev pub ReadyJudgement : Type 0
ReadyJudgement = Result (Unit {0}) Unfit

abbrev pub is_taken : Judgement → Bool
is_taken (Ok B.Ready) = true
is_taken (Ok B.Early) = false
is_taken (Err r) = false

abbrev pub judgement_of : ReadyJudgement → Judgement
judgement_of (Ok u) = Ok B.Ready
judgement_of (Err y) = Err (refusal_of y)

-- 2, 3, 4, and whether it is ready or comes too early
unfoldable pub by_counters : M.Operation → Document → Judgement
by_counters o D =
    cond (not_above o) (Err F.Counter)
    (cond (repeated D.seen o) (Err F.Repeat)
    (cond (own_deps_behind D.seen o) (Err F.OwnDeps)
    (cond (ready_in D o) (Ok B.Ready) (Ok B.Early))))

-- 8, 9, 10, of an operation that is ready
unfoldable pub ready_verdict : M.Operation → Document → ReadyJudgement
ready_verdict o D =
    cond (astray D o) (Err Y.NoElement) (cond (downward o) (Err Y.NotSmaller) (cond (fits (apply o D)) (Ok tt) (Err Y.NoRoom)))

-- the one, and where it is ready the other
abbrev pub verdict_by : Judgement → ReadyJudgement → Judgement
verdict_by (Ok B.Ready) y = judgement_of y
verdict_by (Ok B.Early) y = Ok B.Early
verdict_by (Err r) y = Err r

unfoldable pub verdict : M.Operation → Document → Judgement
verdict o D = verdict_by (by_counters o D) (ready_verdict o D)

-- The promises.

-- an operation that is newer than what was seen of its terminal
abbrev pub Newer : Document → M.Operation → Type 0
Newer D o = entry D.seen (entry_of o.id) < counter_of o.id

-- where the search for the way's first key stops, among the rows of the document
abbrev pub top_position : M.Operation → Document → Position
top_position o D = behind (passed (over 1 (key_below o.top)) (rows_of D))

abbrev pub Tops : Tables → Counts → List ℕ → Position → Type 0
Tops T c ks s =
    (D : Document) (o : M.Operation) → Stores T c D.seen D → ks ≡ pad 24 (key_words o.top ++ way_words o.way) → ValidOperation o
    → s ≡ top_position o D

-- the same of tables with any marks and values
abbrev pub TopsIn : List ℕ → List ℕ → ℕ → List ℕ → Position → Type 0
TopsIn h k rows ks s = (m v : List ℕ) (c : Counts) → rows ≡ c.rows → Tops (four h k m v) c ks s

abbrev pub JudgesCounters : Counters → Operation → Judgement → Type 0
JudgesCounters seen op r = (D : Document) (o : M.Operation) → seen.at ≡ D.seen → Means op o → r ≡ by_counters o D

-- with the stop s, from which the way is looked for
abbrev pub JudgesReady : Tables → Counts → Position → Operation → ReadyJudgement → Type 0
JudgesReady T c s op r =
    (D : Document) (o : M.Operation) → Stores T c D.seen D → Means op o → ValidOperation o → Newer D o → s ≡ top_position o D
    → r ≡ ready_verdict o D

-- the whole judgement
abbrev pub Judges : Tables → Counts → Counters → Operation → Judgement → Type 0
Judges T c seen op r = (D : Document) (o : M.Operation) → Stores T c seen.at D → Means op o → ValidOperation o → r ≡ verdict o D
