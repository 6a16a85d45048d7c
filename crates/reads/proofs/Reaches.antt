-- The way of a place, cut out of the 24 words that it is read into, is followed.
-- Assumes nothing.
use Prim.Native.Nat.{ℕ, ◌*◌, ◌<◌}
use native.Mathlib.Omega.{arith}
use mathlib.Core.Path.{◌≡◌, sym, ap, ap₂, ◌∙◌, subst}
use mathlib.Core.List.{List, ◌++◌}
use Rattle.std.specs.Prelude.{Err}
use lib.ListN.{length, take}
use Rattle.meaning.specs.Read.{Trail, here, by_key, by_element, trail_steps, seek}
use Rattle.meaning.specs.Sheet.{rows_of}
use Rattle.readers.specs.Words.{key_words}
use Rattle.message.specs.Means.{trail_words}
use Rattle.message.specs.declared.Way.{Way}
use Rattle.message.proofs.Padded.{pad_long, take-pad}
use Rattle.finder.specs.Follows.{Followed, Leads, Follows}
use Rattle.finder.specs.declared.Absence.TheVariants.{Missing}
use Rattle.reads.specs.Gives.{Reaches}

trail_count : (t : Trail) → length (trail_words t) ≡ 3 * trail_steps t
unfolding trail_words trail_steps
trail_count here = omega arith
trail_count (by_key k t) = omega (arith, trail_count t)
trail_count (by_element e t) = omega (arith, trail_count t)

module _ (h k : List ℕ) (rows : ℕ) (way : Way) where
  -- no place's way has so many keys
  pub reaches_none : 8 < way.n → Reaches h k rows way (Err Missing)
  reaches_none l m v c D w H q means valid = absurd (omega (arith, means.count, valid.reach))

  -- no place's way has more keys than there are words for
  pub reaches_cut : length way.keys < 3 * way.n → Reaches h k rows way (Err Missing)
  reaches_cut l m v c D w H q means valid =
      absurd (omega (arith, means.count, valid.reach, ap length means.keys, pad_long 24 (key_words w.top ++ trail_words w.trail)))

  pub reaches : (r : Followed) → Follows h k rows (take (3 * way.n) way.keys) r → Reaches h k rows way r
  reaches r F m v c D w H q means valid =
      let all = key_words w.top ++ trail_words w.trail in
      let l : 3 * way.n ≡ length all = omega (arith, means.count, trail_count w.trail) in
      let e : take (3 * way.n) way.keys ≡ all =
      ap₂ (λ n ks. take n ks) l means.keys ∙ take-pad 24 all (omega (arith, valid.reach, trail_count w.trail)) in
      subst (λ n. Leads (rows_of D) n r (seek w D)) (sym means.count) (F m v c D w H q e valid)
