-- What an edit promises: of memory that keeps a terminal, the answer, the terminal that it keeps afterwards and every byte of the caller's
-- buffer are document 01's; memory that counts more than has room in its tables is answered 10, whatever the edit; of any memory, a
-- refusal changes not one word of it and not one byte of the buffer.
-- Assumes nothing: these are definitions.
use Rattle.std.specs.Prelude.{ℕ, suc, ◌≡◌, false, cond, List, ltb, length, Ok, Err}
use Rattle.meaning.specs.Ids.{id_of}
use Rattle.meaning.specs.Answers.{short, Edited, edited_answer, Refusal}
use Rattle.meaning.specs.Ways.{Operation}
use Rattle.meaning.specs.Valid.{ValidOperation}
use Rattle.meaning.specs.Message.{message, edit_text}
use Rattle.meaning.specs.Receive.{Terminal}
use Rattle.meaning.specs.Edit.{spent, EditVerdict, refused, taken, judge_edit, EditOutcome, finish_edit}
use Rattle.meaning.specs.Promises.{Edits}
use Rattle.meaning.specs.declared.Counters.{Counters}
use Rattle.meaning.specs.declared.EditError.TheVariants as E
use Rattle.tables.specs.declared.Position.{Position}
use Rattle.message.specs.Means.{Means}
use Rattle.message.specs.declared.Edit.{Edit}
use Rattle.message.specs.declared.Operation as Held
use Rattle.judging.specs.Judging.{ready_verdict, Newer, top_position}
use Rattle.keeping.specs.Keeping.{Keeps, within_memory}
use Rattle.keeping.specs.declared.Memory.{Memory}

-- A memory and the caller's buffer, as they are lent to an edit and as it leaves them: a refusal has changed not one word and not one byte.
abbrev pub Stays : Memory → List ℕ → Edited → Memory → List ℕ → Type 0
Stays M before r N after = Refusal (edited_answer r) → (N ≡ M) × (after ≡ before)

-- the operation of an edit that was read: its id has the counter behind the largest, and its deps are what was seen
abbrev pub Forms : Counters → ℕ → ℕ → Edit → Held.Operation → Type 0
Forms seen largest device e op =
    op ≡ record { act = record { id = id_of (suc largest) device; deps = seen; deed = e.deed }; way = e.way }

-- o is the operation of an edit on this terminal, in these lines: it is valid, newer than what was seen, and 11 doesn't refuse it
pub record Drafts (X : Terminal) (op : Held.Operation) (lines : List ℕ) (o : Operation) : Type 0 where
  pub valid : ValidOperation o
  pub means : Means op o
  pub text : lines ≡ edit_text o.top o.way
  pub newer : Newer X.document o
  pub unspent : spent X.document.seen ≡ false

-- the answer, the terminal that is kept, and the buffer
pub record Comes (r : Edited) (N : Memory) (after : List ℕ) (e : EditOutcome) : Type 0 where
  pub answers : edited_answer r ≡ e.answer
  pub keeps : Keeps N e.terminal
  pub writes : after ≡ e.buffer

-- 13, else it is applied
unfoldable pub by_buffer : Operation → ℕ → EditVerdict
by_buffer o n = cond (ltb n (length (message o))) (refused (short (length (message o)))) taken

-- an edit that 8, 9 and 10 don't refuse, from where the search for its first key stops
pub record Finishes (M : Memory) (before : List ℕ) (top : Position) (op : Held.Operation) (lines : List ℕ) (r : Edited) (N : Memory)
    (after : List ℕ) : Type 0 where
  pub finishes : (X : Terminal) (o : Operation) → Keeps M X → Drafts X op lines o → top ≡ top_position o X.document
      → ready_verdict o X.document ≡ Ok tt → Comes r N after (finish_edit o X before (by_buffer o (length before)))
  pub stays : Stays M before r N after

-- an edit's operation
pub record Carries (M : Memory) (before : List ℕ) (op : Held.Operation) (lines : List ℕ) (r : Edited) (N : Memory) (after : List ℕ)
    : Type 0 where
  pub carries : (X : Terminal) (o : Operation) → Keeps M X → Drafts X op lines o
      → Comes r N after (finish_edit o X before (judge_edit o X (length before)))
  pub stays : Stays M before r N after

-- an edit was made, and the terminal that it leaves is kept
pub record Kept (X : Terminal) (before : List ℕ) (device : ℕ) (lines : List ℕ) (r : Edited) (N : Memory) (after : List ℕ) : Type 0 where
  pub exit : Terminal
  pub edits : Edits X device lines before r exit after
  pub keeps : Keeps N exit

pub record Editing (M : Memory) (before : List ℕ) (device : ℕ) (lines : List ℕ) (r : Edited) (N : Memory) (after : List ℕ) : Type 0 where
  pub edits : (X : Terminal) → Keeps M X → Kept X before device lines r N after
  pub beyond : within_memory M ≡ false → r ≡ Err E.NoRoom
  pub stays : Stays M before r N after
