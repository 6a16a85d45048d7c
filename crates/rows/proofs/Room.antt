-- Answer 10 on rows: the limits after an operation, told by the count alone.
-- Assumes nothing.
use Rattle.std.specs.Prelude.{ℕ, ◌+◌, ◌<◌, ◌≡◌, refl, Bool, true, false, ◌&&◌, leb, length}
use Rattle.std.proofs.Common.{arith, sym, ap, ap₂, ◌∙◌, subst, leb-true, leb-false, le-leb}
use Rattle.std.proofs.lemmas.Bool.{lt-leb}
use Rattle.meaning.specs.Ids.{counter_of, entry_of, entry}
use Rattle.meaning.specs.Places.{Document}
use Rattle.meaning.specs.Ways.{Operation}
use Rattle.meaning.specs.Apply.{apply}
use Rattle.meaning.specs.Limits.{within, fits}
use Rattle.meaning.specs.Load.{marks_in, values_in}
use Rattle.meaning.specs.Sound.{Sound}
use Rattle.meaning.specs.Sheet.{rows_of}
use Rattle.theorems.specs.Accepting.{size_children_lem}
use Rattle.rows.proofs.Follows.{apply_rows_lem}
use Rattle.rows.specs.Counting.{change, Balance}
use Rattle.rows.proofs.Balanced.{apply_balance}
use Rattle.rows.specs.Room.{room, room_for, sound_fresh}

leb_shift : (a b n l : ℕ) → a + l ≡ b → leb a n ≡ leb b (n + l)
leb_shift a b n l e = go (leb a n) refl
  where
    go : (t : Bool) → leb a n ≡ t → t ≡ leb b (n + l)
    go true f = sym (le-leb b (n + l) (omega (arith, leb-true a n f)))
    go false f = sym (lt-leb b (n + l) (omega (arith, leb-false a n f)))

fits_size : (D : Document) → fits D ≡ (leb (length (rows_of D)) 256 && leb (marks_in (rows_of D)) 1024 && leb (values_in (rows_of D)) 256)
unfolding fits within rows_of
fits_size D =
    let z = size_children_lem D.root 1 in
    ap₂ ◌&&◌ (ap₂ (λ p m. leb p 256 && leb m 1024) z.places z.marks) (ap (λ v. leb v 256) z.values)

-- the limits hold after an operation exactly if the count says so
pub room_rows : (o : Operation) (D : Document) → Sound D → entry D.seen (entry_of o.id) < counter_of o.id
    → fits (apply o D) ≡ room_for o (rows_of D)
unfolding room_for room
room_rows o D s h =
    let c = change o (rows_of D) in
    let b = subst (λ us. Balance (rows_of D) us c) (apply_rows_lem o D) (apply_balance o (rows_of D) (sound_fresh D o.id s h)) in
    fits_size (apply o D)
    ∙ ap₂ ◌&&◌ (ap₂ ◌&&◌ (leb_shift _ _ 256 c.less.places b.places) (leb_shift _ _ 1024 c.less.marks b.marks))
    (leb_shift _ _ 256 c.less.values b.values)
