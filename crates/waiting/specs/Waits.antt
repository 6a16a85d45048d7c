-- The table of waiting operations, and what the functions over it promise: if the table held these operations, the answer is that, and the
-- table holds those afterwards. Memory that holds no operations is promised nothing.
-- Assumes nothing: these are definitions.
use Rattle.std.specs.Prelude.{ℕ, ◌+◌, ◌≤◌, ◌<◌, ◌≡◌, Bool, false, not, ◌&&◌, List, ◌∷◌, ◌++◌, ◌⊎◌, length, Option, None, Some}
use Rattle.meaning.specs.Ids.{ready}
use Rattle.meaning.specs.Judge.{own_deps_behind}
use Rattle.meaning.specs.Members.{All, Ascending}
use Rattle.meaning.specs.Receive.{waits}
use Rattle.meaning.specs.Sets.{put}
use Rattle.meaning.specs.Valid.{ValidOperation}
use Rattle.meaning.specs.Ways.{Operation}
use Rattle.words.specs.Words.{pad}
use Rattle.words.specs.Rows.{flat}
use Rattle.message.specs.Means.{Means}
use Rattle.message.specs.declared.Operation as M
use Rattle.waiting.specs.Rows.{op_words}

-- 64 operations of 40 words
abbrev pub room : ℕ
room = 2560

abbrev pub id_of : Operation → ℕ
id_of o = o.id

-- the table t holds the n operations os, by ascending id, then zeros
pub record Waits (t : List ℕ) (n : ℕ) (os : List Operation) : Type 0 where
  pub table : t ≡ pad room (flat op_words os)
  pub count : n ≡ length os
  pub fit : n ≤ 64
  pub ascending : Ascending id_of os
  pub valid : All ValidOperation os

-- whether the operation at i comes too early where s is seen
unfoldable pub TellsEarly : List ℕ → ℕ → ℕ → List ℕ → Bool → Type 0
TellsEarly t n i s r =
    (A R : List Operation) (o : Operation) → Waits t n (A ++ o ∷ R) → i ≡ length A
    → r ≡ (not (own_deps_behind s o) && not (ready s o.id o.deps))

-- an operation is told, and it means o
abbrev pub MeansOne : Option M.Operation → Operation → Type 0
MeansOne (Some r) o = Means r o
MeansOne None o = ⊥

-- the operation at i
unfoldable pub Tells : List ℕ → ℕ → ℕ → Option M.Operation → Type 0
Tells t n i r = (A R : List Operation) (o : Operation) → Waits t n (A ++ o ∷ R) → i ≡ length A → MeansOne r o

-- whether one with this id waits
unfoldable pub TellsWaits : List ℕ → ℕ → ℕ → Bool → Type 0
TellsWaits t n id r = (os : List Operation) → Waits t n os → r ≡ waits id os

-- the table holds these operations afterwards, so many
abbrev pub Holds : List ℕ → Option ℕ → List Operation → Type 0
Holds t (Some n) os = Waits t n os
Holds t None os = ⊥

-- One more, which didn't wait. A full table, or one that is too short, stays as it was.
pub record Puts (op : M.Operation) (t : List ℕ) (n : ℕ) (t' : List ℕ) (r : Option ℕ) : Type 0 where
  pub waits :
      (os : List Operation) (o : Operation) → Means op o → ValidOperation o → Waits t n os → waits o.id os ≡ false → n < 64
      → Holds t' r (put id_of o os)
  pub stays : (64 ≤ n) ⊎ (length t < room) → (t' ≡ t) × (r ≡ None)
  pub nothing : r ≡ None → t' ≡ t

-- the operation at i is gone
pub record TakesOut (t : List ℕ) (n i : ℕ) (t' : List ℕ) (r : Option ℕ) : Type 0 where
  pub waits : (A R : List Operation) (o : Operation) → Waits t n (A ++ o ∷ R) → i ≡ length A → Holds t' r (A ++ R)
  pub fewer : (k : ℕ) → r ≡ Some k → k + 1 ≡ n
  pub nothing : r ≡ None → t' ≡ t
