-- What receiving promises: of memory that keeps a terminal, the answer and the terminal that it keeps afterwards are document 01's; memory
-- that counts more than has room in its tables is answered 10, whatever the message; of any memory, a refusal changes not one word.
-- Assumes nothing: these are definitions.
use Rattle.std.specs.Prelude.{◌≡◌, false, List, ℕ, Err, replicate}
use Rattle.meaning.specs.Answers.{Receipt, receipt_answer, Refusal}
use Rattle.meaning.specs.Ways.{Operation}
use Rattle.meaning.specs.Ids.{zeros}
use Rattle.meaning.specs.Receive.{Terminal, new_terminal, judge_early, finish}
use Rattle.tables.specs.Holding.{heads_room, keys_room, marks_room, values_room, four}
use Rattle.waiting.specs.Waits.{room}
use Rattle.meaning.specs.Receive as Meaning
use Rattle.meaning.specs.Promises.{Receives}
use Rattle.meaning.specs.declared.ReceiveError.TheVariants as R
use Rattle.theorems.specs.Invariant.{Sent}
use Rattle.message.specs.Means.{Means}
use Rattle.message.specs.declared.Operation as Held
use Rattle.keeping.specs.Keeping.{Keeps, within_memory}
use Rattle.keeping.specs.declared.Memory.{Memory}

-- memory whose words are all 0, and none of it is live
abbrev pub zero_memory : Memory
zero_memory = record {
  document = record {
    tables = four (replicate heads_room 0) (replicate keys_room 0) (replicate marks_room 0) (replicate values_room 0);
    counts = record { rows = 0; marks = 0; values = 0 };
    seen = record { at = zeros };
  };
  waiting = replicate room 0;
  count = 0;
}

-- it is that memory, and keeps a new terminal
abbrev pub Empties : Memory → Type 0
Empties m = (m ≡ zero_memory) × Keeps m new_terminal

-- the answer, and the terminal that is kept
pub record Comes (a : Receipt) (N : Memory) (e : Meaning.Received) : Type 0 where
  pub answers : receipt_answer a ≡ e.answer
  pub keeps : Keeps N e.terminal

-- an operation that comes too early
pub record Awaits (M : Memory) (op : Held.Operation) (a : Receipt) (N : Memory) : Type 0 where
  pub waits : (X : Terminal) (o : Operation) → Keeps M X → Means op o → Sent o → Comes a N (finish o X (judge_early o X.waiting))
  pub stays : Refusal (receipt_answer a) → N ≡ M
  pub document : N.document ≡ M.document

-- a message is received, and the terminal that it leaves is kept
pub record Kept (X : Terminal) (bytes : List ℕ) (a : Receipt) (N : Memory) : Type 0 where
  pub exit : Terminal
  pub receives : Receives X bytes a exit
  pub keeps : Keeps N exit

pub record Receiving (M : Memory) (bytes : List ℕ) (a : Receipt) (N : Memory) : Type 0 where
  pub receives : (X : Terminal) → Keeps M X → Kept X bytes a N
  pub beyond : within_memory M ≡ false → (a ≡ Err R.NoRoom) × (N ≡ M)
  pub stays : Refusal (receipt_answer a) → N ≡ M
