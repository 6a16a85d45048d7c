-- docs/REPLAY.md, "Scripts": the numbers of a call's first line, each behind the text that stands before it (the name and a space, or a
-- space), and the block of bytes behind the line. Looser than REPLAY.md: no limit of 40 bytes for the first line.
-- Assumes nothing.
use Rattle.std.specs.Prelude.{ℕ, ◌+◌, ◌-◌, ◌≤◌, ◌≡◌, refl, cond, ◌&&◌, List, [], ◌++◌, leb, length, take, drop, Option, None, Some}
use Rattle.meaning.specs.Ascii.{ascii}
use Rattle.meaning.specs.Text.{decimal, digits, width, width_from}
use Rattle.decimal.specs.Take.{Layout, Took, Never, fixed, then}
use Rattle.decimal.specs.Numbers.{numbers}
use Rattle.script.specs.declared.BlockFound.{BlockFound}

-- a text, and a number that is at most `most`
abbrev pub asks : ℕ → List ℕ → Layout (Unit {0} × ℕ)
asks most text = then (fixed text) (numbers 0 most)

-- the LF of a first line, n bytes, and one LF
abbrev pub blocks : ℕ → Layout (List ℕ)
blocks n =
    record { Valid = λ block. length block ≡ n; text = λ block. ascii "\n" ++ (block ++ ascii "\n"); More = λ block t. Unit {0} }

-- REPLAY.md's last call; and a block of no bytes is one LF behind the line's
last_call : (asks 512 (ascii "iskeysway ")).text (tt, 3) ++ (blocks 3).text (ascii "73{") ≡ ascii "iskeysway 3\n73{\n"
unfolding decimal digits width width_from
last_call = refl

no_bytes : (blocks 0).text [] ≡ ascii "\n\n"
no_bytes = refl

-- the bytes of s from one place up to another; none if they aren't places of s, in this order
abbrev pub part_of : ℕ → ℕ → List ℕ → List ℕ
part_of from to s = cond (leb from to && leb to (length s)) (take (to - from) (drop from s)) []

-- The text stands at a with a number behind it; or there is no such thing.
abbrev pub FindsNumber : ℕ → List ℕ → List ℕ → ℕ → Option (ℕ × ℕ) → Type 0
FindsNumber most text s a (Some (v, n)) = Took (asks most text) s a (tt, v) n
FindsNumber most text s a None = Never (asks most text) s a

-- Behind a first line that ends at a, its block is the part from one place up to another; one LF stands behind it, and then the next call.
pub record Found (n : ℕ) (s : List ℕ) (a : ℕ) (b : BlockFound) : Type 0 where
  pub took : Took (blocks n) s a (part_of b.from b.to s) b.next
  pub order : b.from ≤ b.to
  pub behind : b.next ≡ b.to + 1

-- A block of n bytes stands there; or none does.
abbrev pub FindsBlock : ℕ → List ℕ → ℕ → Option BlockFound → Type 0
FindsBlock n s a (Some b) = Found n s a b
FindsBlock n s a None = Never (blocks n) s a
