-- Ways and operations as the code holds them. A way is words, three for a key: those of its bytes for a map key, (id, 0, 17) for an
-- element id, (0, 0, 18) for `^`; and the number of its keys. What is done is an enum case, with its value.
-- Assumes nothing: these are definitions.
use Rattle.std.specs.Prelude.{ℕ, zero, suc, ◌≡◌, List, [], ◌∷◌, ◌++◌}
use Rattle.meaning.specs.Ways.{Prev, head, after, assign, delete, insert, into_map, into_list, steps}
use Rattle.meaning.specs.Ways as M
use Rattle.meaning.specs.Read.{Trail, here, by_key, by_element, trail_steps, PlaceWay}
use Rattle.readers.specs.Words.{key_words}
use Rattle.readers.specs.Given.{given_of}
use Rattle.message.specs.declared.Way.{Way}
use Rattle.message.specs.declared.Deed.{Deed}
use Rattle.message.specs.declared.Deed.TheVariants as D
use Rattle.message.specs.declared.Operation.{Operation}

abbrev pub element_words : ℕ → List ℕ
element_words e = e ∷ 0 ∷ 17 ∷ []

abbrev pub head_words : List ℕ
head_words = 0 ∷ 0 ∷ 18 ∷ []

unfoldable pub prev_words : Prev → List ℕ
prev_words head = head_words
prev_words (after e) = element_words e

-- the words of what follows the first key
unfoldable pub way_words : M.Way → List ℕ
way_words (assign a) = []
way_words delete = []
way_words (insert p a) = prev_words p
way_words (into_map k w) = key_words k ++ way_words w
way_words (into_list e w) = element_words e ++ way_words w

unfoldable pub trail_words : Trail → List ℕ
trail_words here = []
trail_words (by_key k t) = key_words k ++ trail_words t
trail_words (by_element e t) = element_words e ++ trail_words t

-- n words, of which w are the first and the others 0
unfoldable pub pad : ℕ → List ℕ → List ℕ
pad zero w = []
pad (suc n) [] = 0 ∷ pad n []
pad (suc n) (x ∷ w) = x ∷ pad n w

-- what is done at a way's end
unfoldable pub deed_of : M.Way → Deed
deed_of (assign a) = D.Assign (given_of a)
deed_of delete = D.Delete
deed_of (insert p a) = D.Insert (given_of a)
deed_of (into_map k w) = deed_of w
deed_of (into_list e w) = deed_of w

-- the way of an edit, and what is done there
pub record MeansEdit (way : Way) (d : Deed) (top : List ℕ) (w : M.Way) : Type 0 where
  pub keys : way.keys ≡ pad 24 (key_words top ++ way_words w)
  pub count : way.n ≡ suc (steps w)
  pub deed : d ≡ deed_of w

pub record Means (op : Operation) (o : M.Operation) : Type 0 where
  pub id : op.act.id ≡ o.id
  pub deps : op.act.deps.at ≡ o.deps
  pub edit : MeansEdit op.way op.act.deed o.top o.way

-- the way of a place
pub record MeansPlace (way : Way) (w : PlaceWay) : Type 0 where
  pub keys : way.keys ≡ pad 24 (key_words w.top ++ trail_words w.trail)
  pub count : way.n ≡ suc (trail_steps w.trail)
