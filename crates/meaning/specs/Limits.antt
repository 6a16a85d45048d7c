-- Document 01, answer 10: how many places, marks and values a document has, and whether it keeps the limits.
-- Assumes nothing: these are definitions.
use Rattle.std.specs.Prelude.{ℕ, ◌+◌, Bool, ◌&&◌, leb, length}
use Rattle.meaning.specs.Places.{Place, place, Children, childless, child, Elements, empty, element, Document}

pub record Size : Type 0 where
  pub places : ℕ
  pub marks : ℕ
  pub values : ℕ

abbrev pub plus : Size → Size → Size
plus a b = record { places = a.places + b.places; marks = a.marks + b.marks; values = a.values + b.values }

abbrev pub nothing : Size
nothing = record { places = 0; marks = 0; values = 0 }

unfoldable mutual
  pub size : Place → Size
  size (place m l ms vs ks es) =
      plus (record { places = 1; marks = length ms; values = length vs }) (plus (size_children ks) (size_elements es))

  pub size_children : Children → Size
  size_children childless = nothing
  size_children (child k c ks) = plus (size c) (size_children ks)

  pub size_elements : Elements → Size
  size_elements empty = nothing
  size_elements (element i c es) = plus (size c) (size_elements es)

-- at most 256 places, 1,024 marks and 256 values
unfoldable pub within : Size → Bool
within s = leb s.places 256 && leb s.marks 1024 && leb s.values 256

unfoldable pub fits : Document → Bool
fits D = within (size_children D.root)
