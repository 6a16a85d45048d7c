-- Document 01, "The saved sheet", last paragraph: a whole stream, read chunk by chunk and fed to a terminal, as `merge` does it.
-- Theorems (proofs/Whole): the terminal that is kept at the end has received the messages of the stream one after another; its sheet is
-- what `merge` prints.
-- Assumes nothing: these are definitions.
use Rattle.std.specs.Prelude.{ℕ, ◌≡◌, Bool, true, false, List, [], ◌∷◌, ◌++◌, take, Ok}
use Rattle.meaning.specs.Receive.{Terminal, new_terminal}
use Rattle.meaning.specs.Stream.{messages}
use Rattle.meaning.specs.Promises.{ReceivesAll, Merges}
use Rattle.meaning.specs.Answers.{Saved}
use Rattle.stream.specs.Pieces.{held}
use Rattle.stream.specs.declared.Cut.{Cut}
use Rattle.keeping.specs.Keeping.{Keeps}
use Rattle.keeping.specs.declared.Memory.{Memory}
use Rattle.feed.specs.Feeding.{AllFed}

-- a chunk is read behind the bytes that are held
pub record ReadsOn (b : List ℕ) (c : Cut) (chunk : List ℕ) (b' : List ℕ) (c' : Cut) : Type 0 where
  pub bytes : held b' c' ≡ held b c ++ chunk
  pub passing : c'.passing ≡ c.passing

-- A run of a program: from memory, buffer and cut, over these chunks, to memory. Each chunk is read behind the bytes that are held, and
-- what is held is fed. In a run to the end (`true`) the last chunk, which may have no bytes, is fed as the last; a run that stops before
-- it (`false`) feeds each chunk as one that others may follow.
pub data FeedsAll : Memory → List ℕ → Cut → List (List ℕ) → Bool → Memory → Type 0 where
  onward : {M N P : Memory} {b b' : List ℕ} {c c' : Cut} {chunk : List ℕ} {chunks : List (List ℕ)} {whole : Bool} (d : Cut)
      → ReadsOn b c chunk b' c' → AllFed M b' c' false d N → FeedsAll N b' d chunks whole P → FeedsAll M b c (chunk ∷ chunks) whole P
  ends : {M N : Memory} {b b' : List ℕ} {c c' : Cut} {chunk : List ℕ} (d : Cut) → ReadsOn b c chunk b' c' → AllFed M b' c' true d N
      → FeedsAll M b c (chunk ∷ []) true N
  stops : {M : Memory} {b : List ℕ} {c : Cut} → FeedsAll M b c [] false M

-- nothing is read yet
pub record Unread (c : Cut) : Type 0 where
  pub empty : c.from ≡ c.to
  pub fresh : c.passing ≡ false

-- memory keeps a terminal that has received the messages of a stream, one after another, into an empty document
pub record Merged (input : List ℕ) (N : Memory) : Type 0 where
  pub exit : Terminal
  pub receives : ReceivesAll new_terminal (messages input) exit
  pub keeps : Keeps N exit

-- the sheet was written, and the bytes that were written are what `merge` prints
pub record Prints (input : List ℕ) (answer : Saved) (after : List ℕ) : Type 0 where
  pub written : ℕ
  pub answers : answer ≡ Ok written
  pub merges : Merges input (take written after)
