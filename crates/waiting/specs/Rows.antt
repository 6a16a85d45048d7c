-- An operation as forty words: its id; the eight deps; the 24 words of its way; the number of its keys; a code for what is done, and the
-- number that comes with it; the four words of its value. So an operation that waits is never read from a text again.
-- Assumes nothing: these are definitions.
use Rattle.std.specs.Prelude.{ℕ, suc, ◌+◌, ◌-◌, ◌%◌, ◌≡◌, cond, List, [], ◌∷◌, ◌++◌, eqb, ltb, get_or}
use Rattle.meaning.specs.Ways.{Operation, steps}
use Rattle.words.specs.Words.{run}
use Rattle.readers.specs.Words.{key_words}
use Rattle.readers.specs.declared.Given.{Given}
use Rattle.readers.specs.declared.Given.TheVariants as G
use Rattle.message.specs.Means.{way_words, pad, deed_of}
use Rattle.message.specs.declared.Deed.{Deed}
use Rattle.message.specs.declared.Deed.TheVariants as D
use Rattle.message.specs.declared.Operation as M
use Rattle.waiting.specs.declared.row.Coded.{Coded}

-- the code of a value, the number that comes with it, and the words of a string
abbrev pub given_code : Given → ℕ
given_code G.Null = 0
given_code G.True = 1
given_code G.False = 2
given_code (G.NonNeg n) = 3
given_code (G.Neg n) = 4
given_code (G.String b) = 5
given_code G.Map = 6
given_code G.List = 7

abbrev pub given_number : Given → ℕ
given_number G.Null = 0
given_number G.True = 0
given_number G.False = 0
given_number (G.NonNeg n) = n
given_number (G.Neg n) = n
given_number (G.String b) = b.len
given_number G.Map = 0
given_number G.List = 0

abbrev pub no_words : List ℕ
no_words = 0 ∷ 0 ∷ 0 ∷ 0 ∷ []

abbrev pub given_words : Given → List ℕ
given_words G.Null = no_words
given_words G.True = no_words
given_words G.False = no_words
given_words (G.NonNeg n) = no_words
given_words (G.Neg n) = no_words
given_words (G.String b) = b.words
given_words G.Map = no_words
given_words G.List = no_words

-- the same of what is done: a delete, an assign, an insert
abbrev pub coded : Deed → Coded
coded (D.Assign g) = record { code = 1 + given_code g; number = given_number g; words = given_words g }
coded (D.Insert g) = record { code = 9 + given_code g; number = given_number g; words = given_words g }
coded D.Delete = record { code = 0; number = 0; words = no_words }

-- the value with this code, this number and these words, if it is one's
unfoldable pub given_by : ℕ → ℕ → List ℕ → Given
given_by c n ws =
    cond (eqb c 0) G.Null
    (cond (eqb c 1) G.True
    (cond (eqb c 2) G.False
    (cond (eqb c 3) (G.NonNeg n)
    (cond (eqb c 4) (G.Neg n)
    (cond (eqb c 5) (G.String (record { words = ws; len = n }))
    (cond (eqb c 6) G.Map G.List))))))

unfoldable pub deed_by : Coded → Deed
deed_by c =
    cond (eqb c.code 0) D.Delete
    (cond (ltb c.code 9) (D.Assign (given_by (c.code - 1) c.number c.words)) (D.Insert (given_by (c.code - 9) c.number c.words)))

-- a counter's 32 bits, of each word
unfoldable pub counters : List ℕ → List ℕ
counters [] = []
counters (x ∷ xs) = x % 4294967296 ∷ counters xs

-- the words of an operation in parts
abbrev pub row_words : ℕ → List ℕ → List ℕ → ℕ → Coded → List ℕ
row_words id deps keys n c = id ∷ (deps ++ (keys ++ (n ∷ c.code ∷ c.number ∷ c.words)))

unfoldable pub op_words : Operation → List ℕ
op_words o =
    row_words o.id (pad 8 o.deps) (pad 24 (key_words o.top ++ way_words o.way)) (suc (steps o.way)) (coded (deed_of o.way))

-- of one as the code holds it
abbrev pub held_words : M.Operation → List ℕ
held_words op = row_words op.act.id op.act.deps.at op.way.keys op.way.n (coded op.act.deed)

-- r is the operation whose words stand at a place
pub record ReadsRow (t : List ℕ) (at : ℕ) (r : M.Operation) : Type 0 where
  pub id : r.act.id ≡ get_or t at 0
  pub deps : r.act.deps.at ≡ counters (run (at + 1) 8 t)
  pub keys : r.way.keys ≡ run (at + 9) 24 t
  pub count : r.way.n ≡ get_or t (at + 33) 0
  pub deed : r.act.deed ≡ deed_by (record { code = get_or t (at + 34) 0; number = get_or t (at + 35) 0; words = run (at + 36) 4 t })
