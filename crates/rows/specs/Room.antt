-- Answer 10 on rows: the count that tells it. Theorem (proofs/Room): the limits after an operation are told by the count alone.
-- Assumes nothing.
use Rattle.std.specs.Prelude.{ℕ, ◌+◌, ◌<◌, Bool, ◌&&◌, List, [], ◌∷◌, leb, length}
use Rattle.meaning.specs.Ids.{counter_of, entry_of, entry}
use Rattle.meaning.specs.Places.{Document}
use Rattle.meaning.specs.Ways.{Operation}
use Rattle.meaning.specs.Members.{Has, own}
use Rattle.meaning.specs.Load.{marks_in, values_in, Seen}
use Rattle.meaning.specs.Sound.{Sound}
use Rattle.meaning.specs.Sheet.{Row, rows_of}
use Rattle.theorems.specs.Counters.{unseen}
use Rattle.theorems.specs.Fit.{FitOn}
use Rattle.theorems.specs.Saved.{sound_fits}
use Rattle.theorems.specs.Running.{MarksSeen, holder_seen}
use Rattle.rows.specs.Counting.{Change, change, Fresh}

-- what was there and comes is at most the limit and what goes
unfoldable pub room : Change → List Row → Bool
room c rs =
    leb (length rs + c.more.places) (256 + c.less.places)
    && leb (marks_in rs + c.more.marks) (1024 + c.less.marks)
    && leb (values_in rs + c.more.values) (256 + c.less.values)

-- 10 isn't given
unfoldable pub room_for : Operation → List Row → Bool
room_for o rs = room (change o rs) rs

-- An operation that is newer than what is seen marks nothing yet.

all_seen : (s : List ℕ) (xs rs : List Row) → FitOn s rs xs → MarksSeen s rs → MarksSeen s xs
all_seen s [] rs f m = tt
all_seen s (x ∷ xs) rs f m =
    let h : (j : ℕ) → Has own j x.marks → Seen s j = λ j u. holder_seen s x.depth rs j m (f.0.owns.among j u) in
    (h, all_seen s xs (x ∷ rs) f.1 (h, m))

fresh_seen : (s : List ℕ) (i : ℕ) → (Seen s i → ⊥) → (xs rs : List Row) → FitOn s rs xs → MarksSeen s xs → Fresh i xs
fresh_seen s i n [] rs f m = tt
fresh_seen s i n (x ∷ xs) rs f m =
    ((λ u. n (m.0 i u)), (λ u. n (m.0 i (f.0.owns.marked i u))), fresh_seen s i n xs (x ∷ rs) f.1 m.1)

pub sound_fresh : (D : Document) (i : ℕ) → Sound D → entry D.seen (entry_of i) < counter_of i → Fresh i (rows_of D)
unfolding rows_of
sound_fresh D i s h =
    let f = sound_fits D.seen D.root s.places in
    fresh_seen D.seen i (unseen D.seen i h) (rows_of D) [] f (all_seen D.seen (rows_of D) [] f tt)
