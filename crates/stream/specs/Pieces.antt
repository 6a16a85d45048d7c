-- Document 01, "Messages" and "The saved sheet": a stream for a program that reads it chunk by chunk and holds no more than one message.
-- Each message of at most 463 bytes is handed over whole; a longer one, which is no message's text, is one that is too
-- long, however long it is.
-- Assumes nothing: these are definitions.
use Rattle.std.specs.Prelude.{ℕ, ◌-◌, ◌≤◌, ◌<◌, ◌≡◌, Bool, true, false, cond, List, [], ◌∷◌, ◌++◌, map, ltb, length, take, drop}
use Rattle.meaning.specs.Stream.{messages}
use Rattle.stream.specs.declared.Cut.{Cut}
use Rattle.stream.specs.declared.Step.{Step}
use Rattle.stream.specs.declared.Step.TheVariants.{Message, TooLong, More}

pub data Piece : Type 0 where
  whole : List ℕ → Piece
  too_long : Piece

abbrev pub judged : List ℕ → Piece
judged m = cond (ltb 463 (length m)) too_long (whole m)

-- What is still to be handed over of a stream's bytes, the start of which, if `passing`, goes on with a message that is too long.
unfoldable pub pieces : Bool → List ℕ → List Piece
pieces false t = map judged (messages t)
pieces true t = too_long ∷ map judged (drop 1 (messages t))

-- the bytes of the buffer s that are read and not handed over
abbrev pub held : List ℕ → Cut → List ℕ
held s c = take (c.to - c.from) (drop c.from s)

-- a cut lies in the buffer, and a message that is passed over has begun
pub record CutInside (s : List ℕ) (c : Cut) : Type 0 where
  pub low : c.from ≤ c.to
  pub high : c.to ≤ length s
  pub begun : c.passing ≡ true → c.from < c.to

-- A piece is handed over, and the next ones stand behind it, whatever bytes t follow; none follow the last chunk.
pub record Hands (s : List ℕ) (c : Cut) (last : Bool) (piece : Piece) (next : Cut) : Type 0 where
  pub holds : CutInside s next
  pub onward : c.from < next.from
  pub same : next.to ≡ c.to
  pub rest : (t : List ℕ) → (last ≡ true → t ≡ []) → pieces c.passing (held s c ++ t) ≡ piece ∷ pieces next.passing (held s next ++ t)

-- More bytes are needed: at most 468 are held on to, and they come to the same; behind the last chunk nothing is left.
pub record Waits (s : List ℕ) (c : Cut) (last : Bool) (next : Cut) : Type 0 where
  pub holds : CutInside s next
  pub short : next.to - next.from ≤ 468
  pub same : next.to ≡ c.to
  pub rest : (t : List ℕ) → pieces c.passing (held s c ++ t) ≡ pieces next.passing (held s next ++ t)
  pub done : last ≡ true → pieces next.passing (held s next) ≡ []

abbrev pub Steps : List ℕ → Cut → Bool → Step → Type 0
Steps s c last (Message next) = Hands s c last (whole (take (next.from - c.from) (drop c.from s))) next
Steps s c last (TooLong next) = Hands s c last too_long next
Steps s c last (More next) = Waits s c last next

-- the held bytes stand at the buffer's start
pub record Moved (s : List ℕ) (c : Cut) (after : List ℕ) (next : Cut) : Type 0 where
  pub holds : CutInside after next
  pub start : next.from ≡ 0
  pub end : next.to ≡ c.to - c.from
  pub passing : next.passing ≡ c.passing
  pub same : held after next ≡ held s c

abbrev pub joined : List (List ℕ) → List ℕ
joined [] = []
joined (chunk ∷ chunks) = chunk ++ joined chunks

-- A run over a stream that comes in chunks: pieces are handed over; or more bytes are needed, and a chunk is read behind those that are
-- held; or none is left.
pub data Run : List ℕ → Cut → List (List ℕ) → List Piece → Type 0 where
  message : {s : List ℕ} {c next : Cut} {chunks : List (List ℕ)} {ps : List Piece} (last : Bool) → (last ≡ true → chunks ≡ [])
      → Steps s c last (Message next) → Run s next chunks ps → Run s c chunks (whole (take (next.from - c.from) (drop c.from s)) ∷ ps)
  long : {s : List ℕ} {c next : Cut} {chunks : List (List ℕ)} {ps : List Piece} (last : Bool) → (last ≡ true → chunks ≡ [])
      → Steps s c last (TooLong next) → Run s next chunks ps → Run s c chunks (too_long ∷ ps)
  more : {s s' : List ℕ} {c next c' : Cut} {chunk : List ℕ} {chunks : List (List ℕ)} {ps : List Piece} → Steps s c false (More next)
      → c'.passing ≡ next.passing → held s' c' ≡ held s next ++ chunk → Run s' c' chunks ps → Run s c (chunk ∷ chunks) ps
  done : {s : List ℕ} {c next : Cut} → Steps s c true (More next) → Run s c [] []
