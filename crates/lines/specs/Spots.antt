-- Document 01, "The saved sheet": where a place hangs, as the tables hold it. A key's bytes stand in words.
-- Assumes nothing: these are definitions.
use Rattle.std.specs.Prelude.{◌≤◌, [], ◌∷◌}
use Rattle.meaning.specs.Sheet as sheet
use Rattle.writers.specs.Words.{bytes_of}
use Rattle.lines.specs.declared.place.Spot.{Spot}
use Rattle.lines.specs.declared.place.Spot.TheVariants.{Key, Element}

-- where a place hangs
abbrev pub spot_of : Spot → sheet.Spot
spot_of (Key k) = sheet.in_map (bytes_of (k.hi ∷ k.lo ∷ []) k.len)
spot_of (Element id) = sheet.in_list id

-- a key has at most 16 bytes
abbrev pub ShortKey : Spot → Type 0
ShortKey (Key k) = k.len ≤ 16
ShortKey (Element id) = Unit {0}
