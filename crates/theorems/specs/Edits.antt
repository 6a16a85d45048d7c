-- A local edit's operation: unless a seen entry is the last counter it is valid; its counter is above every entry; it is ready at once.
-- Assumes nothing.
use Rattle.std.specs.Prelude.{ℕ, suc, ◌≤◌, ◌≡◌, refl, true, false, List}
use Rattle.std.proofs.Common.{arith, le-ltb}
use Rattle.std.proofs.lemmas.Bool.{lt-leb}
use Rattle.meaning.specs.Ids.{id_of, counter_of, entry_of, entry, ready}
use Rattle.meaning.specs.Ways.{Way}
use Rattle.meaning.specs.Judge.{not_above, repeated, own_deps_behind}
use Rattle.meaning.specs.Edit.{largest, spent, edit_of}
use Rattle.meaning.specs.Valid.{ValidCounters, ValidEdit, ValidOperation}
use Rattle.theorems.specs.Counters.{own_others_ready, le_largest, largest_lt}
use Rattle.theorems.specs.Commute.{Known}
use Rattle.theorems.specs.Converge.{Ready}
use Rattle.theorems.specs.Tests.{Checked, checked_above}

counter_is : (c r : ℕ) → r ≤ 8 → counter_of (id_of c r) ≡ c
counter_is c r h = omega arith

pub edit_counter : (s : List ℕ) (r : ℕ) (top : List ℕ) (w : Way) → r ≤ 8 → counter_of (edit_of s r top w).id ≡ suc (largest s)
unfolding edit_of
edit_counter s r top w h = counter_is (suc (largest s)) r h

pub edit_valid : (s : List ℕ) (r : ℕ) (top : List ℕ) (w : Way) → r ≤ 8 → ValidCounters s → spent s ≡ false → ValidEdit top w
    → ValidOperation (edit_of s r top w)
unfolding edit_of
edit_valid s r top w h v e y =
    let c : counter_of (edit_of s r top w).id ≡ suc (largest s) = edit_counter s r top w h in
    record { id = record { low = omega arith; high = omega (arith, largest_lt s v.each e) }; deps = v; edit = y }

-- it is not 3, 2 or 4
pub edit_new : (s : List ℕ) (r : ℕ) (top : List ℕ) (w : Way) → r ≤ 8 → repeated s (edit_of s r top w) ≡ false
unfolding repeated
edit_new s r top w h =
    lt-leb (counter_of (edit_of s r top w).id) _ (omega (arith, edit_counter s r top w h, le_largest s (entry_of (edit_of s r top w).id)))

pub edit_checked : (s : List ℕ) (r : ℕ) (top : List ℕ) (w : Way) → r ≤ 8 → Checked (edit_of s r top w)
unfolding edit_of
edit_checked s r top w h k = omega (arith, edit_counter s r top w h, le_largest s k)

pub edit_above : (s : List ℕ) (r : ℕ) (top : List ℕ) (w : Way) → r ≤ 8 → not_above (edit_of s r top w) ≡ false
edit_above s r top w h = checked_above (edit_of s r top w) (edit_checked s r top w h)

pub edit-own : (s : List ℕ) (r : ℕ) (top : List ℕ) (w : Way) → own_deps_behind s (edit_of s r top w) ≡ false
unfolding own_deps_behind edit_of
edit-own s r top w = le-ltb (entry s (entry_of (edit_of s r top w).id)) _ (omega arith)

-- it is ready: as the test says, and as convergence asks for it
pub edit-ready : (s : List ℕ) (r : ℕ) (top : List ℕ) (w : Way) → ready s (edit_of s r top w).id (edit_of s r top w).deps ≡ true
unfolding edit_of
edit-ready s r top w = own_others_ready s (edit_of s r top w).id s refl (λ k. omega arith)

pub edit_goes : (s : List ℕ) (r : ℕ) (top : List ℕ) (w : Way) → r ≤ 8 → Known s w → Ready s (edit_of s r top w)
unfolding edit_of
edit_goes s r top w h u = record { own = refl; others = λ k. omega arith; above = edit_checked s r top w h; known = u }
