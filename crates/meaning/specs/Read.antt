-- Document 01, "Reads": keys, values, element.
-- Assumes nothing: these are definitions.
use Rattle.std.specs.Prelude.{ℕ, zero, suc, ◌≤◌, Bool, true, false, cond, List, [], ◌∷◌, ◌++◌, ltb, length}
use Rattle.meaning.specs.Ascii.{ascii}
use Rattle.meaning.specs.Places.{Value, before, equal, beyond, order, Place, place}
use Rattle.meaning.specs.Places.{Children, childless, child, Elements, empty, element}
use Rattle.meaning.specs.Places.{values_of, children_of, elements_of, Document}
use Rattle.meaning.specs.Judge.{Found, found, unknown, find}
use Rattle.meaning.specs.Text.{id_text, hex, stored_text, over}
use Rattle.meaning.specs.Valid.{ValidId, ValidKey}
use Rattle.meaning.specs.Answers.{Answer, done, only, short}

-- A read's way, behind its first key: the place itself, or a step further.
pub data Trail : Type 0 where
  here : Trail
  by_key : List ℕ → Trail → Trail
  by_element : ℕ → Trail → Trail

unfoldable pub trail_text : Trail → List ℕ
trail_text here = []
trail_text (by_key k t) = ascii "{" ++ (hex k ++ trail_text t)
trail_text (by_element e t) = ascii "[" ++ (id_text e ++ trail_text t)

unfoldable pub trail_steps : Trail → ℕ
trail_steps here = 0
trail_steps (by_key k t) = suc (trail_steps t)
trail_steps (by_element e t) = suc (trail_steps t)

abbrev pub ValidTrail : Trail → Type 0
ValidTrail here = Unit {0}
ValidTrail (by_key k t) = ValidKey k × ValidTrail t
ValidTrail (by_element e t) = ValidId e × ValidTrail t

-- the way of a place: written as a message's, one to eight keys
pub record PlaceWay : Type 0 where
  pub top : List ℕ
  pub trail : Trail

pub record ValidPlaceWay (w : PlaceWay) : Type 0 where
  pub first : ValidKey w.top
  pub rest : ValidTrail w.trail
  pub reach : trail_steps w.trail ≤ 7

unfoldable pub place_way_text : PlaceWay → List ℕ
place_way_text w = hex w.top ++ trail_text w.trail

-- for keys a `{` follows the last key too, and no bytes at all name the root
pub data KeysWay : Type 0 where
  of_root : KeysWay
  of_place : PlaceWay → KeysWay

abbrev pub ValidKeysWay : KeysWay → Type 0
ValidKeysWay of_root = Unit {0}
ValidKeysWay (of_place w) = ValidPlaceWay w

unfoldable pub keys_way_text : KeysWay → List ℕ
keys_way_text of_root = []
keys_way_text (of_place w) = place_way_text w ++ ascii "{"

-- for an element a `[` follows the last key
unfoldable pub element_way_text : PlaceWay → List ℕ
element_way_text w = place_way_text w ++ ascii "["

-- Finding a place. Every place on the way must be known, and present too: the first trouble from the root decides.
pub data Sought : Type 0 where
  missing : Sought
  without_marks : Sought
  present : Place → Sought

-- the place under a key
unfoldable pub lookup : List ℕ → Children → Found
lookup k childless = unknown
lookup k (child j c ks) = elim (order k j) [ before ↦ unknown | equal ↦ found c | beyond ↦ lookup k ks ]

abbrev pub is_marked : Place → Bool
is_marked (place m l [] vs ks es) = false
is_marked (place m l (i ∷ ms) vs ks es) = true

unfoldable pub entered : (Place → Sought) → Found → Sought
entered go unknown = missing
entered go (found c) = cond (is_marked c) (go c) without_marks

unfoldable pub follow : Trail → Place → Sought
follow here c = present c
follow (by_key k t) c = entered (follow t) (lookup k (children_of c))
follow (by_element e t) c = entered (follow t) (find e (elements_of c))

unfoldable pub seek : PlaceWay → Document → Sought
seek w D = entered (follow w.trail) (lookup w.top D.root)

-- What is read, as text: each key, value or element id with an LF behind it.

unfoldable pub keys_text : Children → List ℕ
keys_text childless = []
keys_text (child k c ks) = cond (is_marked c) (hex k ++ (ascii "\n" ++ keys_text ks)) (keys_text ks)

unfoldable pub values_text : List Value → List ℕ
values_text [] = []
values_text (v ∷ vs) = id_text v.id ++ (ascii ":" ++ (stored_text v.val ++ (ascii "\n" ++ values_text vs)))

unfoldable pub present_ids : Elements → List ℕ
present_ids empty = []
present_ids (element i c es) = cond (is_marked c) (i ∷ present_ids es) (present_ids es)

-- what a read finds: a place on the way is unknown, or there is no such index; a place on the way has no marks; or there is such a thing,
-- with this text
pub data Finding : Type 0 where
  not_there : Finding
  unmarked : Finding
  listed : List ℕ → Finding

-- the n-th, from 1
unfoldable pub nth_text : ℕ → List ℕ → Finding
nth_text n [] = not_there
nth_text zero (i ∷ is) = not_there
nth_text (suc zero) (i ∷ is) = listed (id_text i ++ ascii "\n")
nth_text (suc (suc n)) (i ∷ is) = nth_text (suc n) is

unfoldable pub at_place : (Place → Finding) → Sought → Finding
at_place f missing = not_there
at_place f without_marks = unmarked
at_place f (present c) = f c

unfoldable pub keys : KeysWay → Document → Finding
keys of_root D = listed (keys_text D.root)
keys (of_place w) D = at_place (λ c. listed (keys_text (children_of c))) (seek w D)

unfoldable pub values : PlaceWay → Document → Finding
values w D = at_place (λ c. listed (values_text (values_of c))) (seek w D)

unfoldable pub nth_element : ℕ → PlaceWay → Document → Finding
nth_element n w D = at_place (λ c. nth_text n (present_ids (elements_of c))) (seek w D)

-- what a read comes to: 14, 13 with the bytes needed, or the text at the buffer's start
pub record ReadOutcome : Type 0 where
  pub answer : Answer
  pub buffer : List ℕ

unfoldable pub answer_read : Finding → List ℕ → ReadOutcome
answer_read not_there buffer = record { answer = only 14; buffer = buffer }
answer_read unmarked buffer = record { answer = only 14; buffer = buffer }
answer_read (listed t) buffer =
    cond (ltb (length buffer) (length t))
    (record { answer = short (length t); buffer = buffer })
    (record { answer = done 0 0 (length t); buffer = over t buffer })
