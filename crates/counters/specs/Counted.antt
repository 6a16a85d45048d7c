-- What the functions of this crate promise beyond the definitions of `meaning`.
-- Assumes nothing: these are definitions.
use Rattle.std.specs.Prelude.{ℕ, ◌≡◌, Bool, cond, List, leb}
use Rattle.meaning.specs.Ids.{counter_of, raise}
use Rattle.meaning.specs.Ways.{Operation}

-- Seen after the operation with id i, where the id's counter is one that a message can carry; any other id leaves seen as it is.
unfoldable pub raised : List ℕ → ℕ → List ℕ
raised s i = cond (leb (counter_of i) 4294967295) (raise s i) s

-- r is what the test says of every operation with this id and these deps
abbrev pub Says : (Operation → Bool) → ℕ → List ℕ → Bool → Type 0
Says test id deps r = (o : Operation) → o.id ≡ id → o.deps ≡ deps → r ≡ test o
