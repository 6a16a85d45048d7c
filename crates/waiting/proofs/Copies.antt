-- Words as counters, and counters as words.
-- Assumes nothing.
use Prim.Native.Nat.{ℕ, zero, suc, ◌+◌, ◌%◌, ◌≤◌, ◌<◌}
use mathlib.Core.Path.{◌≡◌, refl, sym, ap, ◌∙◌}
use mathlib.Core.List.{List, [], ◌∷◌}
use native.Mathlib.Omega.{arith}
use lib.ListN.{length, get_or}
use lib.Seq.{ext_get_or}
use Rattle.words.specs.Words.{run}
use Rattle.words.proofs.Over.{run_length}
use Rattle.words.proofs.Moves.{run_at}
use Rattle.waiting.specs.Rows.{counters}

pub counters-length : (xs : List ℕ) → length (counters xs) ≡ length xs
unfolding counters
counters-length [] = refl
counters-length (x ∷ xs) = ap suc (counters-length xs)

counters-at : (xs : List ℕ) (i : ℕ) → get_or (counters xs) i 0 ≡ get_or xs i 0 % 4294967296
unfolding counters
counters-at [] i = refl
counters-at (x ∷ xs) zero = refl
counters-at (x ∷ xs) (suc i) = counters-at xs i

-- eight counters, each of which is what stands at its place
pub counters_from : (from : ℕ) (t at : List ℕ) → from + 8 ≤ length t → length at ≡ 8
    → ((i : ℕ) → i < 8 → get_or at i 0 ≡ get_or t (from + i) 0 % 4294967296) → at ≡ counters (run from 8 t)
counters_from from t at k e each =
    let l = counters-length (run from 8 t) ∙ run_length from 8 t k in
    ext_get_or 0 at (counters (run from 8 t)) (e ∙ sym l)
    (λ i h. each i (omega (arith, e, h)) ∙ sym (counters-at (run from 8 t) i ∙ ap (λ (x : ℕ). x % 4294967296) (run_at from 8 i t (omega (arith, e, h)))))
