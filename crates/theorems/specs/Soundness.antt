-- Soundness is kept: a valid operation whose counter is above its terminal's seen entry leaves a sound document sound.
-- Assumes nothing.
use Rattle.std.specs.Prelude.{ℕ, zero, suc, ◌+◌, ◌<◌, ◌≤◌, ◌≡◌, refl, true}
use Rattle.std.proofs.Common.{arith, eq-eqb, ne_eqb}
use Rattle.meaning.specs.Ids.{counter_of, entry_of, entry, zeros, raise}
use Rattle.meaning.specs.Places.{Document}
use Rattle.meaning.specs.Ways.{Operation}
use Rattle.meaning.specs.Apply.{apply, empty_document}
use Rattle.meaning.specs.Limits.{size_children, within, fits}
use Rattle.meaning.specs.Valid.{ValidOperation}
use Rattle.meaning.specs.Sheet.{rows_of, rows_children}
use Rattle.meaning.specs.Load.{Seen, times}
use Rattle.meaning.specs.Sound.{Sound}
use Rattle.theorems.specs.Decide.{Same, is, isnt, alike}
use Rattle.theorems.specs.SoundAtoms.{wider_children}
use Rattle.theorems.specs.SoundRun.{sound_change}
use Rattle.theorems.specs.Once.{one, times_tally, tally_change}
use Rattle.theorems.specs.Counters.{each_le, raise_valid, seen_stays, seen_self, unseen}

-- an operation's new element is counted once more, and only that one
one_self : (i : ℕ) → one i i ≡ 1
one_self i = rw (eq-eqb i i refl)

one_other : (e i : ℕ) → (e ≡ i → ⊥) → one e i ≡ 0
one_other e i n = rw (ne_eqb e i n)

none : (n : ℕ) → (0 < n → ⊥) → n ≡ 0
none zero h = refl
none (suc n) h = absurd (h (omega arith))

times-apply : (e : ℕ) (o : Operation) (D : Document) → times e (rows_of (apply o D)) ≤ times e (rows_of D) + one e o.id
unfolding apply
times-apply e o D = omega (arith, times_tally e (apply o D), times_tally e D, tally_change e o D.root)

pub sound_apply : (o : Operation) (D : Document) → ValidOperation o → entry D.seen (entry_of o.id) < counter_of o.id → Sound D
    → Sound (apply o D)
unfolding apply
sound_apply o D v h s = record {
  seen = raise_valid D.seen o.id s.seen v.id;
  places = sound_change (Seen (raise D.seen o.id)) o D.root v.edit self
      (wider_children (Seen D.seen) (Seen (raise D.seen o.id)) stays 1 D.root s.places);
  once = λ e. once e (alike e o.id);
  known = λ e u. known e u (alike e o.id);
}
  where
    stays : (j : ℕ) → Seen D.seen j → Seen (raise D.seen o.id) j
    stays = seen_stays D.seen o.id s.seen.eight h

    self : Seen (raise D.seen o.id) o.id
    self = seen_self D.seen o.id s.seen.eight v.id

    fresh : times o.id (rows_of D) ≡ 0
    fresh = none (times o.id (rows_of D)) (λ u. unseen D.seen o.id h (s.known o.id u))

    once : (e : ℕ) → Same e o.id → times e (rows_of (apply o D)) ≤ 1
    once e (is q) = rw q (omega (arith, times-apply o.id o D, one_self o.id, fresh))
    once e (isnt n) = omega (arith, times-apply e o D, one_other e o.id n, s.once e)

    known : (e : ℕ) → 0 < times e (rows_of (apply o D)) → Same e o.id → Seen (raise D.seen o.id) e
    known e u (is q) = rw q self
    known e u (isnt n) = stays e (s.known e (omega (arith, times-apply e o D, one_other e o.id n)))

pub sound_empty : Sound empty_document
unfolding times rows_of rows_children
sound_empty = record {
  seen = record { eight = refl; each = each_le 4294967295 zeros (omega arith) };
  places = tt;
  once = λ e. omega arith;
  known = λ e u. absurd (omega arith);
}

pub fits_empty : fits empty_document ≡ true
unfolding fits within size_children
fits_empty = refl
