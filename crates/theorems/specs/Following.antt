-- What a terminal settles it applies in an order that readiness lets through, none of it dead, and its document follows from what was
-- applied alone. `Receivers` goes on from here.
-- Assumes nothing.
use Rattle.std.specs.Prelude.{◌≡◌, refl, false, List, [], ◌∷◌}
use Rattle.meaning.specs.Places.{Document}
use Rattle.meaning.specs.Ways.{Operation}
use Rattle.meaning.specs.Apply.{apply, apply_all}
use Rattle.meaning.specs.Members.{All}
use Rattle.meaning.specs.Receive.{Terminal, dead, Settled, settle}
use Rattle.theorems.specs.Converge.{Ready, Goes}
use Rattle.theorems.specs.Tests.{Checked, is-ready, living}
use Rattle.theorems.specs.Settling.{left, rid, next, left-all, next-all, chosen_ready, Course, cut, over, round, course}

-- none of the operations is dead when its turn comes
abbrev pub Alive : Document → List Operation → Type 0
Alive D [] = Unit {0}
Alive D (o ∷ os) = (dead D o ≡ false) × Alive (apply o D) os

-- from document D a terminal came to T, and applied these operations
pub record Follows (D : Document) (applied : List Operation) (T : Terminal) : Type 0 where
  pub document : T.document ≡ apply_all applied D
  pub goes : Goes D.seen applied
  pub alive : Alive D applied
  pub waiting : All Checked T.waiting

-- nothing was applied
pub unchanged : (T : Terminal) → All Checked T.waiting → Follows T.document [] T
unfolding apply_all
unchanged T h = record { document = refl; goes = tt; alive = tt; waiting = h }

-- a course applies what is ready then and not dead
pub course_follows : (T : Terminal) (os : List Operation) (U : Terminal) → Course T os U → All Checked T.waiting
    → Follows T.document os U
unfolding apply_all apply
course_follows T os U cut h = unchanged T h
course_follows T os U over h = unchanged (rid T) (left-all Checked T h)
course_follows T os U (round {os = ps} o c r) h =
    let D = T.document in
    let u = course_follows (next T o) ps U r (next-all Checked T o h) in
    let now = chosen_ready D (left T) o c in
    record {
      document = u.document;
      goes = (is-ready D o (c.among Checked (left-all Checked T h)) now ((living D o c.lives).leads now), u.goes);
      alive = (c.lives, u.alive);
      waiting = u.waiting;
    }

-- an operation that is applied, and what is settled then
abbrev applied-then : Operation → Terminal → Settled
applied-then o T = settle (record { document = apply o T.document; waiting = T.waiting })

pub settle_follows : (o : Operation) (T : Terminal) → All Checked T.waiting → Ready T.document.seen o → dead T.document o ≡ false
    → Follows T.document (o ∷ (applied-then o T).applied) (applied-then o T).terminal
unfolding apply_all apply
settle_follows o T h r a =
    let u = course_follows _ _ _ (course (record { document = apply o T.document; waiting = T.waiting })) h in
    record { document = u.document; goes = (r, u.goes); alive = (a, u.alive); waiting = u.waiting }
