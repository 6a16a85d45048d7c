-- What an operation does, told from its deed and its value.
-- Assumes nothing: these are definitions.
use Rattle.std.specs.Prelude.{ℕ, ◌+◌, Bool, true, false, cond, not, List, [], ◌∷◌, ltb, eqb, Option, None, Some}
use Rattle.readers.specs.declared.Given.{Given}
use Rattle.readers.specs.declared.Given.TheVariants as G
use Rattle.tables.specs.declared.Side.{Side}
use Rattle.tables.specs.declared.Side.TheVariants as S
use Rattle.message.specs.declared.Deed.{Deed}
use Rattle.message.specs.declared.Deed.TheVariants as D

abbrev pub is_delete : Deed → Bool
is_delete (D.Assign g) = false
is_delete (D.Insert g) = false
is_delete D.Delete = true

abbrev pub is_insert : Deed → Bool
is_insert (D.Assign g) = false
is_insert (D.Insert g) = true
is_insert D.Delete = false

abbrev pub given_in : Deed → Given
given_in (D.Assign g) = g
given_in (D.Insert g) = g
given_in D.Delete = G.Null

-- the branch of an empty map or list; none of a plain value
abbrev pub branch_of : Given → Option Side
branch_of G.Null = None
branch_of G.True = None
branch_of G.False = None
branch_of (G.NonNeg n) = None
branch_of (G.Neg n) = None
branch_of (G.String b) = None
branch_of G.Map = Some S.Map
branch_of G.List = Some S.List

unfoldable pub string_kind : ℕ → ℕ
string_kind n = cond (ltb 32 n) 5 (5 + n)

-- a plain value's kind and words, as the tables hold them
abbrev pub kind_of : Given → ℕ
kind_of G.Null = 0
kind_of G.True = 1
kind_of G.False = 2
kind_of (G.NonNeg n) = 3
kind_of (G.Neg n) = 4
kind_of (G.String b) = string_kind b.len
kind_of G.Map = 0
kind_of G.List = 0

abbrev pub parts_of : Given → List ℕ
parts_of G.Null = 0 ∷ 0 ∷ 0 ∷ 0 ∷ []
parts_of G.True = 0 ∷ 0 ∷ 0 ∷ 0 ∷ []
parts_of G.False = 0 ∷ 0 ∷ 0 ∷ 0 ∷ []
parts_of (G.NonNeg n) = n ∷ 0 ∷ 0 ∷ 0 ∷ []
parts_of (G.Neg n) = n ∷ 0 ∷ 0 ∷ 0 ∷ []
parts_of (G.String b) = b.words
parts_of G.Map = 0 ∷ 0 ∷ 0 ∷ 0 ∷ []
parts_of G.List = 0 ∷ 0 ∷ 0 ∷ 0 ∷ []

-- whether an unknown place is made: it has a key, and isn't the target of a delete; `left` words of the way are left behind the key
unfoldable pub may_make : ℕ → ℕ → Deed → Bool
may_make len left deed = cond (ltb 16 len) false (cond (ltb 0 left) true (not (is_delete deed)))

-- whether the way's last key is the predecessor of a new element; `left` words of the way are left
unfoldable pub inserts_here : ℕ → Deed → Bool
inserts_here left deed = cond (eqb left 3) (is_insert deed) false
