-- The bound on the rounds of settling is enough, and when it is done no waiting message is left to drop or to apply.
-- Assumes nothing.
use Rattle.std.specs.Prelude.{ℕ, zero, suc, ◌+◌, ◌-◌, ◌<◌, ◌≡◌, refl, false, not, [], ◌∷◌, length}
use Rattle.std.proofs.Common.{arith, ap}
use Rattle.std.proofs.lemmas.Bool.{not-true}
use Rattle.meaning.specs.Sets.{keep}
use Rattle.meaning.specs.Ways.{Operation}
use Rattle.meaning.specs.Members.{All}
use Rattle.meaning.specs.Receive.{Terminal, dead, able, Pick, nobody, picked, first, onward, settle_in, settle}
use Rattle.theorems.specs.Members.{all_map, all_both, all_pass, keep_all, keep_empty, keep_length}
use Rattle.theorems.specs.Picking.{nobody_passes, picked_shorter}
use Rattle.theorems.specs.Settling.{left, next}

next_shorter : (T : Terminal) (o : Operation) → first (keep (able T.document) (left T)) ≡ picked o
    → length (next T o).waiting < length T.waiting
next_shorter T o e =
    omega (arith, picked_shorter (able T.document) (left T) o e, keep_length (λ o. not (dead T.document o)) T.waiting)

-- any two bounds above the number of waiting messages give the same
enough : (n m : ℕ) (T : Terminal) → length T.waiting < n → length T.waiting < m → settle_in n T ≡ settle_in m T
unfolding settle_in onward
enough zero m T p q = absurd (omega arith)
enough (suc n) zero T p q = absurd (omega arith)
enough (suc n) (suc m) T p q = go (first (keep (able T.document) (left T))) refl (λ U u v. enough n m U u v)
  where
    gone : ℕ
    gone = length T.waiting - length (left T)

    go : (k : Pick) → first (keep (able T.document) (left T)) ≡ k
        → ((U : Terminal) → length U.waiting < n → length U.waiting < m → settle_in n U ≡ settle_in m U)
        → onward (settle_in n) T.document (left T) gone k ≡ onward (settle_in m) T.document (left T) gone k
    go nobody e h = refl
    go (picked o) e h =
        let s = next_shorter T o e in
        ap (λ r. record { terminal = r.terminal; applied = o ∷ r.applied; dropped = gone + r.dropped })
        (h (next T o) (omega arith) (omega arith))

-- the bound in `settle` is enough: with any greater one the same comes out
pub bound_enough : (n : ℕ) (T : Terminal) → length T.waiting < n → settle_in n T ≡ settle T
unfolding settle
bound_enough n T p = enough n (suc (length T.waiting)) T p (omega arith)

-- no waiting message is left to drop or to apply
abbrev pub Quiet : Terminal → Type 0
Quiet T = All (λ o. (dead T.document o ≡ false) × (able T.document o ≡ false)) T.waiting

settle_in_quiet : (n : ℕ) (T : Terminal) → length T.waiting < n → Quiet (settle_in n T).terminal
unfolding settle_in onward
settle_in_quiet zero T p = absurd (omega arith)
settle_in_quiet (suc n) T p = go (first (keep (able T.document) (left T))) refl (λ U u. settle_in_quiet n U u)
  where
    alive : All (λ o. dead T.document o ≡ false) (left T)
    alive = all_map (λ o e. not-true (dead T.document o) e) (left T) (all_pass _ T.waiting)

    go : (k : Pick) → first (keep (able T.document) (left T)) ≡ k
        → ((U : Terminal) → length U.waiting < n → Quiet (settle_in n U).terminal)
        → Quiet (onward (settle_in n) T.document (left T) (length T.waiting - length (left T)) k).terminal
    go nobody e h = all_both _ _ (left T) alive (nobody_passes (able T.document) (left T) e)
    go (picked o) e h = let s = next_shorter T o e in h (next T o) (omega arith)

pub settle_quiet : (T : Terminal) → Quiet (settle T).terminal
unfolding settle
settle_quiet T = settle_in_quiet (suc (length T.waiting)) T (omega arith)

-- settling changes nothing where nothing is left to do
pub quiet_settle : (T : Terminal) → Quiet T → settle T ≡ record { terminal = T; applied = []; dropped = 0 }
unfolding settle settle_in onward first
quiet_settle T h =
    let D = T.document in
    let same : left T ≡ T.waiting = keep_all _ T.waiting (all_map (λ o u. ap not u.0) T.waiting h) in
    let none : keep (able D) T.waiting ≡ [] = keep_empty (able D) T.waiting (all_map (λ o u. u.1) T.waiting h) in
    let zero : length T.waiting - length T.waiting ≡ 0 = omega arith in
    rw (same, none, zero) refl

-- so to settle again changes nothing
pub settled : (T : Terminal) → settle (settle T).terminal ≡ record { terminal = (settle T).terminal; applied = []; dropped = 0 }
settled T = quiet_settle (settle T).terminal (settle_quiet T)
