-- What the readers of steps, ways and deeds answer.
-- Assumes nothing: these are definitions.
use Rattle.std.specs.Prelude.{ℕ, suc, ◌+◌, ◌*◌, ◌≤◌, ◌≡◌, Bool, not, List, [], ◌∷◌, ◌++◌, leb, eqb, length, slice_set, Option, None, Some}
use Rattle.meaning.specs.Ascii.{ascii}
use Rattle.meaning.specs.Ways.{Assigned}
use Rattle.meaning.specs.Valid.{ValidAssigned}
use Rattle.meaning.specs.Text.{assigned_text}
use Rattle.meaning.specs.declared.Counters.{Counters}
use Rattle.decimal.specs.Take.{Layout, Took, Never, fixed, then}
use Rattle.readers.specs.Words.{key_words}
use Rattle.readers.specs.Reads.{keys, ids, counters}
use Rattle.readers.specs.Hex.{words_in}
use Rattle.readers.specs.Given.{given_of, ReadsGiven}
use Rattle.readers.specs.declared.Given.{Given}
use Rattle.readers.specs.declared.Key.{Key}
use Rattle.message.specs.Means.{element_words, head_words, pad}
use Rattle.message.specs.Steps.{Step, element, caret, steps, step_words, all_words, Open, InList, trails}
use Rattle.message.specs.Steps.{Action, assigns, inserts, deletes, actions}
use Rattle.message.specs.declared.Way.{Way}
use Rattle.message.specs.declared.ways.WayRead.{WayRead}
use Rattle.message.specs.declared.Deed.{Deed}
use Rattle.message.specs.declared.Deed.TheVariants as D

-- the way with a key more
abbrev pub with_key : Way → Key → Way
with_key way k = record {
  keys = slice_set (slice_set (slice_set way.keys (3 * way.n) k.hi) (3 * way.n + 1) k.lo) (3 * way.n + 2) k.len;
  n = way.n + 1;
}

-- a step was taken, and these are its three words
pub record StepTook (s : List ℕ) (a : ℕ) (k : Key) (n : ℕ) : Type 0 where
  pub step : Step
  pub took : Took steps s a step n
  pub words : words_in k ≡ step_words step

-- behind `[`: `^`, or an element id
pub data Listed (s : List ℕ) (a : ℕ) (k : Key) (n : ℕ) : Type 0 where
  is_caret : Took (fixed (ascii "^")) s a tt n → words_in k ≡ head_words → Listed s a k n
  is_element : (e : ℕ) → Never (fixed (ascii "^")) s a → Took ids s a e n → words_in k ≡ element_words e → Listed s a k n

abbrev pub ReadsListStep : List ℕ → ℕ → Option (Key × ℕ) → Type 0
ReadsListStep s a (Some (k, n)) = Listed s a k n
ReadsListStep s a None = Never (fixed (ascii "^")) s a × Never ids s a

abbrev pub ReadsStep : List ℕ → ℕ → Option (Key × ℕ) → Type 0
ReadsStep s a (Some (k, n)) = StepTook s a k n
ReadsStep s a None = Never steps s a

-- the last key is one of a map, an element id, or `^`: its third word says which
pub data Tail (last : ℕ) (xs : List Step) : Type 0 where
  at_key : last ≤ 16 → Open xs → (InList xs → ⊥) → Tail last xs
  at_element : last ≡ 17 → (ys : List Step) (e : ℕ) → xs ≡ ys ++ (element e ∷ []) → Open xs → Tail last xs
  at_caret : last ≡ 18 → (ys : List Step) → xs ≡ ys ++ (caret ∷ []) → Open ys → Tail last xs

abbrev pub ways : Layout (List ℕ × List Step)
ways = then keys trails

pub record WayTook (s : List ℕ) (a : ℕ) (r : WayRead) : Type 0 where
  pub top : List ℕ
  pub xs : List Step
  pub took : Took ways s a (top, xs) r.next
  pub tail : Tail r.last xs
  pub keys : r.way.keys ≡ pad 24 (key_words top ++ all_words xs)
  pub count : r.way.n ≡ suc (length xs)

abbrev pub ReadsWay : List ℕ → ℕ → Option WayRead → Type 0
ReadsWay s a (Some r) = WayTook s a r
ReadsWay s a None = Never ways s a

-- a value, and the end of its line
abbrev pub value_lines : Layout Assigned
value_lines = record { Valid = ValidAssigned; text = λ v. assigned_text v ++ ascii "\n"; More = λ v t. Unit {0} }

abbrev pub ReadsValueLine : List ℕ → ℕ → Option (Given × ℕ) → Type 0
ReadsValueLine = ReadsGiven value_lines (λ v. v)

unfoldable pub action_deed : Action → Deed
action_deed (assigns v) = D.Assign (given_of v)
action_deed (inserts v) = D.Insert (given_of v)
action_deed deletes = D.Delete

pub record DeedTook (s : List ℕ) (a : ℕ) (d : Deed) (n : ℕ) : Type 0 where
  pub action : Action
  pub took : Took actions s a action n
  pub deed : d ≡ action_deed action

abbrev pub ReadsDeed : List ℕ → ℕ → Option (Deed × ℕ) → Type 0
ReadsDeed s a (Some (d, n)) = DeedTook s a d n
ReadsDeed s a None = Never actions s a

-- what may be done at a way with this last key: an insert behind an element id or `^`, anything else not at `^`
abbrev pub suits : ℕ → Deed → Bool
suits last (D.Assign g) = not (eqb last 18)
suits last (D.Insert g) = leb 17 last
suits last D.Delete = not (eqb last 18)

-- a message's lines ahead of `at=`
abbrev pub heads : Layout (Unit {0} × (ℕ × (Unit {0} × (List ℕ × Unit {0}))))
heads = then (fixed (ascii "op=1\nid=")) (then ids (then (fixed (ascii "\ndeps=")) (then counters (fixed (ascii "\n")))))

abbrev pub ReadsHead : List ℕ → Option (ℕ × Counters × ℕ) → Type 0
ReadsHead s (Some (i, deps, n)) = Took heads s 0 (tt, (i, (tt, (deps.at, tt)))) n
ReadsHead s None = Never heads s 0
