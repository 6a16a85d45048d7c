-- The library's moves and writes, as words laid over a table.
-- Assumes nothing.
use Prim.Native.Nat.{ℕ, ◌+◌, ◌-◌, ◌≤◌, ◌<◌}
use mathlib.Core.Path.{◌≡◌, refl, sym, ◌∙◌}
use mathlib.Core.List.{List, append_assoc}
use native.Mathlib.Omega.{arith}
use borrow.Rule.Slice.PartMut.{put_mid}
use lib.ListN.{length, length-set, set, take, drop, get_or, replicate}
use lib.Seq.{paste, get_or-take, get_or-drop}
use Rattle.std.specs.List.{copy_within}
use Rattle.std.proofs.lemmas.Slice.{put_mid-paste}
use Rattle.std.proofs.lemmas.List.Edits.{paste_none, paste_more, paste_all}
use Rattle.words.specs.Words.{run, over_at, closed}
use Rattle.words.proofs.Over.{run_length, over_above, over-then}

pub run_at : (from n i : ℕ) (t : List ℕ) → i < n → get_or (run from n t) i 0 ≡ get_or t (from + i) 0
unfolding run
run_at from n i t h = get_or-take n (drop from t) i 0 h ∙ get_or-drop from t i 0

-- `copy_within`: the words are the table's own
pub within_over : (from n end to : ℕ) (t : List ℕ) → end ≡ from + n → end ≤ length t → copy_within t from end to ≡ over_at to (run from n t) t
unfolding over_at run
within_over from n end to t e h =
    let l : length (take n (drop from t)) ≡ n = run_length from n t (omega arith) in
    let m : end - from ≡ n = omega arith in
    rw (m, l) (append_assoc (take to t) (take n (drop from t)) (drop (to + n) t))

-- the same word by word, from the first on: k of them are copied
pub record Lowering (from to k : ℕ) (t₀ t : List ℕ) : Type 0 where
  pub len : length t ≡ length t₀
  pub is : t ≡ copy_within t₀ from (from + k) to

pub lowering_start : (from to : ℕ) (t : List ℕ) → Lowering from to 0 t t
lowering_start from to t =
    let z : from + 0 - from ≡ 0 = omega arith in
    record { len = refl; is = rw z (paste_none t to (drop from t)) }

pub lowering_more : (from to k : ℕ) (t₀ t : List ℕ) → to ≤ from → from + k < length t₀ → Lowering from to k t₀ t
    → Lowering from to (k + 1) t₀ (set t (to + k) (get_or t (from + k) 0))
lowering_more from to k t₀ t h g L =
    let l : length (run from k t₀) ≡ k = run_length from k t₀ (omega arith) in
    let a : from + k - from ≡ k = omega arith in
    let b : from + (k + 1) - from ≡ k + 1 = omega arith in
    let o : t ≡ over_at to (run from k t₀) t₀ = L.is ∙ within_over from k (from + k) to t₀ refl (omega arith) in
    let r : get_or t (from + k) 0 ≡ get_or (drop from t₀) k 0 =
    rw o (over_above to (run from k t₀) t₀ (omega arith) (from + k) 0 (omega arith)) ∙ sym (get_or-drop from t₀ k 0) in
    let p : t ≡ paste t₀ to (drop from t₀) k = rw a at L.is in
    let d = lib.ListN.length-drop from t₀ in
    record {
      len = length-set t (to + k) (get_or t (from + k) 0) ∙ L.len;
      is = rw (r, p, b) (paste_more t₀ to (drop from t₀) k 0 (omega arith) (omega arith));
    }

-- a part of the table written: `fill`, `copy_from_slice`
pub part_over : (at end : ℕ) (t new part : List ℕ) → part ≡ new → end ≡ at + length new → put_mid at (end - at) t part ≡ over_at at new t
unfolding over_at
part_over at end t new part e f =
    put_mid-paste at (end - at) t part new (length new) e (omega arith) refl ∙ paste_all t at new (length new) refl

-- `close`: moved down, then blanked
pub lower_blank : (live from to : ℕ) (t t₁ t₂ : List ℕ) → to ≤ from → from ≤ live → live ≤ length t
    → t₁ ≡ over_at to (run from (live - from) t) t → t₂ ≡ over_at (to + (live - from)) (replicate (from - to) 0) t₁
    → t₂ ≡ closed 0 live from to t
unfolding closed
lower_blank live from to t t₁ t₂ h k l p q =
    let n = run_length from (live - from) t (omega arith) in
    let e : to + length (run from (live - from) t) ≡ to + (live - from) = omega arith in
    q ∙ rw (p, ← e) (over-then to (run from (live - from) t) t (omega arith) (replicate (from - to) 0))
