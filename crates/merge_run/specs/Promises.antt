-- Document 01, "The saved sheet", last paragraph: what the functions of `merge` promise, from reading to the bytes that are written. No
-- contract of `read` says which bytes come, so 'the bytes that were read' are those that stand in the buffer behind the ones that
-- were held, as many as the read answered (specs/Run).
-- Assumes nothing: these are definitions.
use Rattle.std.specs.Prelude.{ℕ, ◌≡◌, true, false, List, take, drop, ⊤, Option, Some, None, Result, Ok, Err, is_ok}
use Rattle.std.specs.declared.io.Error.{Error}
use Rattle.meaning.specs.Promises.{Merges}
use Rattle.stream.specs.Pieces.{CutInside}
use Rattle.stream.specs.declared.Cut.{Cut}
use Rattle.keeping.specs.declared.Document.{Document}
use Rattle.keeping.specs.declared.Memory.{Memory}
use Rattle.feed.specs.Whole.{ReadsOn, FeedsAll, Merged}
use Rattle.merge_run.specs.Run.{Told, onward, end, failure, told, brought, Read, tells, chunks, input, Ending, ended, Ends, well, closed}
use Rattle.merge_run.specs.declared.Input.{Input}

-- a read that answered `got` has put so many bytes behind the held ones
abbrev pub read_bytes : List ℕ → Cut → Result ℕ Error → List ℕ
read_bytes b c got = take (brought got) (drop c.to b)

-- reading goes on, or nothing more is read: the input has ended, or reading has failed
abbrev pub says : Option (Result ⊤ Error) → Told
says None = onward
says (Some (Ok unit)) = end
says (Some (Err e)) = failure

-- Every byte that a read has put behind the held ones is held with them.
pub record Came (b : List ℕ) (c : Cut) (got : Result ℕ Error) (r : Input) : Type 0 where
  pub holds : CutInside b r.cut
  pub reads : ReadsOn b c (read_bytes b c got) b r.cut
  pub told : says r.end ≡ told got

-- A read was made: the bytes that it brought stand behind the held ones, none of which is lost; and it is told whether it was the last,
-- and whether it has failed.
pub record ReadOn (b : List ℕ) (c : Cut) (r : Input) (b' : List ℕ) : Type 0 where
  pub read : Read
  pub holds : CutInside b' r.cut
  pub reads : ReadsOn b c read.chunk b' r.cut
  pub told : says r.end ≡ tells read

-- nothing is read yet
abbrev pub unread : Cut
unread = record { from = 0; to = 0; passing = false }

-- All that was read is taken: from memory and an unread buffer, a run over the chunks of these reads has come to this memory. It is ok
-- exactly if reading ended with the input, that is, if the last read brought no bytes; otherwise that read failed, or the turns were used
-- up. If what was read is fed to its end, memory keeps the terminal that has received the messages of the chunks, one after another.
pub record TookAll (M : Memory) (b : List ℕ) (answer : Result ⊤ Error) (N : Memory) : Type 0 where
  pub reads : List Read
  pub ending : Ending
  pub ends : Ends reads ending
  pub told : is_ok answer ≡ well ending
  pub run : FeedsAll M b unread (chunks reads) (closed ending) N
  pub merged : closed ending ≡ true → Merged (input reads) N

-- the document of memory that keeps the terminal that has received the messages of all that was read, up to the input's end
pub record KeepsMerged (d : Document) : Type 0 where
  pub reads : List Read
  pub ends : Ends reads ended
  pub memory : Memory
  pub document : memory.document ≡ d
  pub merged : Merged (input reads) memory

-- whatever input has come to memory with this document, these bytes are what `merge` prints of it
abbrev pub SheetOf : Document → List ℕ → Type 0
SheetOf d bytes = (input : List ℕ) (M : Memory) → M.document ≡ d → Merged input M → Merges input bytes

-- bytes that `merge` prints of all that was read, up to the input's end
pub record Printable (bytes : List ℕ) : Type 0 where
  pub reads : List Read
  pub ends : Ends reads ended
  pub merges : Merges (input reads) bytes
