-- What feeding promises: the pieces that are handed over are received one after another, and what is still held comes to the rest of the
-- stream, whatever bytes follow. Which pieces these are, and which bytes are still held, is settled by the bytes alone (`Cuts` of
-- `stream`); so any two outcomes are equal (`take_in_once`, proofs/Once).
-- Assumes nothing: these are definitions.
use Rattle.std.specs.Prelude.{ℕ, ◌-◌, ◌≤◌, ◌≡◌, Bool, true, List, [], ◌∷◌, ◌++◌}
use Rattle.meaning.specs.Receive.{Terminal}
use Rattle.meaning.specs.Promises.{Receives}
use Rattle.meaning.specs.Answers.{Receipt}
use Rattle.stream.specs.Pieces.{Piece, whole, too_long, pieces, held, CutInside}
use Rattle.stream.specs.Steps.{Cuts}
use Rattle.stream.specs.declared.Cut.{Cut}
use Rattle.keeping.specs.Keeping.{Keeps}
use Rattle.keeping.specs.declared.Memory.{Memory}

-- pieces of a stream, received one after another; one that is too long is passed over
pub data Takes : Terminal → List Piece → Terminal → Type 0 where
  none : {X : Terminal} → Takes X [] X
  receives : {X Y Z : Terminal} {m : List ℕ} {ps : List Piece} (answer : Receipt) → Receives X m answer Y → Takes Y ps Z
      → Takes X (whole m ∷ ps) Z
  passes : {X Z : Terminal} {ps : List Piece} → Takes X ps Z → Takes X (too_long ∷ ps) Z

-- memory keeps the terminal that has taken these pieces
pub record Took (X : Terminal) (ps : List Piece) (N : Memory) : Type 0 where
  pub exit : Terminal
  pub takes : Takes X ps exit
  pub keeps : Keeps N exit

-- From one memory and cut to others: some pieces are handed over and taken, and the rest of the stream stands from the new cut on.
pub record Feeds (M : Memory) (b : List ℕ) (c : Cut) (last : Bool) (N : Memory) (d : Cut) : Type 0 where
  pub holds : CutInside b d
  pub same : d.to ≡ c.to
  pub handed : List Piece
  pub rest : (more : List ℕ) → (last ≡ true → more ≡ [])
      → pieces c.passing (held b c ++ more) ≡ handed ++ pieces d.passing (held b d ++ more)
  pub takes : (X : Terminal) → Keeps M X → Took X handed N

-- No message ends in what is held: it is short, and behind the last bytes of the stream it is nothing.
pub record Rests (b : List ℕ) (last : Bool) (c : Cut) : Type 0 where
  pub short : c.to - c.from ≤ 468
  pub done : last ≡ true → pieces c.passing (held b c) ≡ []

pub record AllFed (M : Memory) (b : List ℕ) (c : Cut) (last : Bool) (d : Cut) (N : Memory) : Type 0 where
  pub feeds : Feeds M b c last N d
  pub rests : Rests b last d
  pub cuts : Cuts b last c feeds.handed d
