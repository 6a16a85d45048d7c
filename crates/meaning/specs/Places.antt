-- Document 01, "Places": plain values, keys and their order, places.
-- Assumes nothing: these are definitions.
use Rattle.std.specs.Prelude.{ℕ, Bool, true, false, List, [], ◌∷◌, ltb, ℤ}

-- null, true and false, integers, strings of bytes
pub data Plain : Type 0 where
  null : Plain
  bool : Bool → Plain
  integer : ℤ → Plain
  string : List ℕ → Plain

-- a value of a place: the id of the operation that gave it, and the plain value
pub record Value : Type 0 where
  pub id : ℕ
  pub val : Plain

-- keys in byte order, a shorter key before its extension
pub data Turn : Type 0 where
  before equal beyond : Turn

unfoldable pub order : List ℕ → List ℕ → Turn
order [] [] = equal
order [] (y ∷ ys) = before
order (x ∷ xs) [] = beyond
order (x ∷ xs) (y ∷ ys) = elim (ltb x y) [ true ↦ before | false ↦ elim (ltb y x) [ true ↦ beyond | false ↦ order xs ys ] ]

-- A place: the flag of its map branch, that of its list branch; its marks; its values; the places under its map branch, by key;
-- the elements of its list, by id, in their order. Marks and values ascend by id, keys ascend; a place is present when it has a mark.
mutual
  pub data Place : Type 0 where
    place : Bool → Bool → List ℕ → List Value → Children → Elements → Place

  pub data Children : Type 0 where
    childless : Children
    child : List ℕ → Place → Children → Children

  pub data Elements : Type 0 where
    empty : Elements
    element : ℕ → Place → Elements → Elements

-- a place that was made just now
abbrev pub bare : Place
bare = place false false [] [] childless empty

abbrev pub marks_of : Place → List ℕ
marks_of (place m l ms vs ks es) = ms

abbrev pub values_of : Place → List Value
values_of (place m l ms vs ks es) = vs

abbrev pub children_of : Place → Children
children_of (place m l ms vs ks es) = ks

abbrev pub elements_of : Place → Elements
elements_of (place m l ms vs ks es) = es

-- The root is a map, always there, without marks: it is its children.
pub record Document : Type 0 where
  pub seen : List ℕ
  pub root : Children
