-- A row written part by part.
-- Assumes nothing.
use Prim.Native.Nat.{ℕ, ◌+◌, ◌≤◌}
use mathlib.Core.Path.{◌≡◌, ap, ◌∙◌}
use mathlib.Core.List.{List, [], ◌∷◌, ◌++◌, append_assoc}
use native.Mathlib.Omega.{arith}
use lib.ListN.{length, set, length-append}
use Rattle.words.specs.Words.{over_at}
use Rattle.words.proofs.Over.{over-one, over-then}

-- Y written where X ends
behind : (a b : ℕ) (X Y t : List ℕ) → a ≤ length t → b ≡ a + length X → over_at b Y (over_at a X t) ≡ over_at a (X ++ Y) t
behind a b X Y t h e = rw e (over-then a X t h Y)

pub written : (at id n code number : ℕ) (deps keys value t t₁ t₂ t₃ t₄ : List ℕ) → length deps ≡ 8 → length keys ≡ 24 → at + 40 ≤ length t
    → t₁ ≡ over_at (at + 1) deps (set t at id) → t₂ ≡ over_at (at + 9) keys t₁ → t₃ ≡ over_at (at + 33) (n ∷ code ∷ number ∷ []) t₂
    → t₄ ≡ over_at (at + 36) value t₃ → t₄ ≡ over_at at (id ∷ (deps ++ (keys ++ (n ∷ code ∷ number ∷ value)))) t
written at id n code number deps keys value t t₁ t₂ t₃ t₄ d k h e₁ e₂ e₃ e₄ =
    let K : List ℕ = id ∷ (deps ++ keys) in
    let N : List ℕ = n ∷ code ∷ number ∷ [] in
    let a : at ≤ length t = omega arith in
    let l : length K ≡ 33 = simp length-append (omega arith) in
    let m : length (K ++ N) ≡ 36 = simp length-append (omega arith) in
    let f₁ : t₁ ≡ over_at at (id ∷ deps) t =
    e₁ ∙ (ap (over_at (at + 1) deps) (over-one at t id (omega arith)) ∙ behind at (at + 1) (id ∷ []) deps t a (omega arith)) in
    let f₂ : t₂ ≡ over_at at K t = e₂ ∙ (ap (over_at (at + 9) keys) f₁ ∙ behind at (at + 9) (id ∷ deps) keys t a (omega arith)) in
    let f₃ : t₃ ≡ over_at at (K ++ N) t = e₃ ∙ (ap (over_at (at + 33) N) f₂ ∙ behind at (at + 33) K N t a (omega arith)) in
    let r : (K ++ N) ++ value ≡ id ∷ (deps ++ (keys ++ (n ∷ code ∷ number ∷ value))) = simp append_assoc in
    e₄ ∙ (ap (over_at (at + 36) value) f₃ ∙ (behind at (at + 36) (K ++ N) value t a (omega arith) ∙ ap (λ z. over_at at z t) r))
