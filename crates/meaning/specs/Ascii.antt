-- Texts spelled as texts: `ascii "mark="` is the list of its bytes, and computes to it.
-- Assumes nothing: these are definitions.
use Prim.Native.Char.{Char, code}
use Rattle.std.specs.Prelude.{ℕ, List}
use Prim.Native.String.{String, [], ◌∷◌}
use mathlib.Core.List as List

abbrev pub ascii : String → List ℕ
ascii [] = List.[]
ascii (c ∷ text) = List.◌∷◌ (code c) (ascii text)

-- one letter's byte
abbrev pub byte : Char → ℕ
byte c = code c

-- lines of text, each with its LF
abbrev pub page : List.List String → List ℕ
page List.[] = List.[]
page (List.◌∷◌ line lines) = List.◌++◌ (ascii line) (List.◌∷◌ (code "\n") (page lines))
