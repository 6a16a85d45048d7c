-- What a step over a stream answers, as the code decides it, and what all steps come to until more bytes are needed.
-- Assumes nothing: these are definitions.
use Rattle.std.specs.Prelude.{ℕ, ◌+◌, ◌-◌, ◌≡◌, Bool, true, false, cond, ◌||◌, List, [], ◌∷◌, eqb, ltb, take, drop}
use Rattle.stream.specs.Ends.{first}
use Rattle.stream.specs.Pieces.{Piece, whole, too_long, held}
use Rattle.stream.specs.declared.Cut.{Cut}
use Rattle.stream.specs.declared.Step.{Step}
use Rattle.stream.specs.declared.Step.TheVariants.{Message, TooLong, More}

-- the cut behind a message that ends at e
abbrev pub behind : Cut → ℕ → Cut
behind c e = record { from = e; to = c.to; passing = false }

unfoldable pub handed : Cut → ℕ → Step
handed c e = cond c.passing (TooLong (behind c e)) (cond (ltb 463 (e - c.from)) (TooLong (behind c e)) (Message (behind c e)))

-- the cut whose last five bytes go on with a message that is too long
abbrev pub tail : Cut → Cut
tail c = record { from = c.to - 5; to = c.to; passing = true }

unfoldable pub waiting : Cut → Cut
waiting c = cond (ltb 468 (c.to - c.from)) (tail c) c

-- where the message ends that goes on from the cut, in the bytes that are held
abbrev pub end_of : List ℕ → Cut → ℕ
end_of s c = c.from + first (held s c)

-- The next step. The message's end is known if a byte follows it, or if none follows what is held; otherwise more bytes are needed.
unfoldable pub step : List ℕ → Cut → Bool → Step
step s c last =
    cond (eqb c.from c.to) (More c) (cond (ltb (end_of s c) c.to || last) (handed c (end_of s c)) (More (waiting c)))

-- Step after step until more bytes are needed: the pieces that are handed over, and the cut that is left.
pub data Cuts (s : List ℕ) (last : Bool) : Cut → List Piece → Cut → Type 0 where
  rests : {c end : Cut} → step s c last ≡ More end → Cuts s last c [] end
  hands : {c next end : Cut} {ps : List Piece} → step s c last ≡ Message next → Cuts s last next ps end
      → Cuts s last c (whole (take (next.from - c.from) (drop c.from s)) ∷ ps) end
  passes : {c next end : Cut} {ps : List Piece} → step s c last ≡ TooLong next → Cuts s last next ps end → Cuts s last c (too_long ∷ ps) end
