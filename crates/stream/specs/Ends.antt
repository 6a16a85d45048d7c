-- Document 01, "The saved sheet", last paragraph: where a message of a stream ends, byte by byte. `messages` of the meaning goes by lines;
-- the laws in proofs/Messages say that this is the same.
-- Assumes nothing: these are definitions.
use Rattle.std.specs.Prelude.{ℕ, suc, ◌+◌, ◌-◌, ◌≤◌, ◌<◌, ◌≡◌, Bool, true, false, cond, ◌&&◌, List, [], ◌∷◌, eqb, length, take, drop}
use Rattle.meaning.specs.Ascii.{ascii, byte}
use Rattle.meaning.specs.Stream.{messages}

unfoldable pub starts_with : List ℕ → List ℕ → Bool
starts_with [] t = true
starts_with (x ∷ xs) [] = false
starts_with (x ∷ xs) (y ∷ t) = eqb y x && starts_with xs t

-- an `op=1` line stands at the start
abbrev pub opens : List ℕ → Bool
opens t = starts_with (ascii "op=1\n") t

-- how many bytes the first message of a text has
unfoldable pub first : List ℕ → ℕ
first [] = 0
first (b ∷ t) = cond (eqb b (byte "\n") && opens t) 1 (suc (first t))

-- The message that begins at the place a ends at e: it is the first message of what stands there, and the others stand behind it.
pub record Ends (s : List ℕ) (a e : ℕ) : Type 0 where
  pub place : e ≡ a + first (drop a s)
  pub cuts : a < length s → messages (drop a s) ≡ take (e - a) (drop a s) ∷ messages (drop e s)
  pub onward : a < length s → a < e
  pub within : a ≤ length s → e ≤ length s
  pub none : length s ≤ a → e ≡ a

-- Cutting a text at these places, from the place a on: the pieces.
pub data Cutting (s : List ℕ) : ℕ → List (List ℕ) → Type 0 where
  done : {a : ℕ} → length s ≤ a → Cutting s a []
  cut : {a e : ℕ} {ms : List (List ℕ)} → a < length s → Ends s a e → Cutting s e ms → Cutting s a (take (e - a) (drop a s) ∷ ms)
