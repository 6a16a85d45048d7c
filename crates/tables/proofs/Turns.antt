-- The comparisons that are derived for keys say what the order of their words says.
-- Assumes nothing.
use Prim.Native.Nat.{ℕ}
use native.Mathlib.Omega.{arith}
use mathlib.Core.Path.{◌≡◌, refl, ap, ◌∙◌}
use mathlib.Core.Bool.{Bool, true, false, ◌&&◌}
use borrow.Author.Tests.{ltb-true, ltb-false, eq-eqb, ne_eqb}
use Rattle.std.specs.Prelude.{Option, Some, ltb, eqb}
use Rattle.std.specs.declared.cmp.Ordering.{Ordering}
use Rattle.std.specs.declared.cmp.Ordering.TheVariants as O
use Rattle.std.specs.Ordering.{nat_cmp, is_eq, is_gt, is_some_and, partial_ordering_then}
use Rattle.meaning.specs.Places.{Turn, before, equal, beyond, order}
use Rattle.readers.specs.declared.Key.{Key}
use Rattle.tables.specs.Seek.{turn, ordering_of}

module _ (x y : ℕ) (t : Turn) where
  word_cmp : (o : Option Ordering) → o ≡ Some (ordering_of t) → partial_ordering_then (Some (nat_cmp x y)) o
      ≡ Some (ordering_of (elim (ltb x y) [ true ↦ before | false ↦ elim (ltb y x) [ true ↦ beyond | false ↦ t ] ]))
  word_cmp o q = go (ltb x y) refl (ltb y x) refl
    where
      go : (b : Bool) → ltb x y ≡ b → (e : Bool) → ltb y x ≡ e → partial_ordering_then (Some (nat_cmp x y)) o
          ≡ Some (ordering_of (elim (ltb x y) [ true ↦ before | false ↦ elim (ltb y x) [ true ↦ beyond | false ↦ t ] ]))
      go true p e r = rw p refl
      go false p true r = rw (p, r, ne_eqb x y (λ e. omega (arith, e, ltb-true y x r))) refl
      go false p false r = rw (p, r, eq-eqb x y (omega (arith, ltb-false x y p, ltb-false y x r))) q

  word_eq : (o : Bool) → o ≡ is_eq (ordering_of t) → eqb x y && o
      ≡ is_eq (ordering_of (elim (ltb x y) [ true ↦ before | false ↦ elim (ltb y x) [ true ↦ beyond | false ↦ t ] ]))
  word_eq o q = go (ltb x y) refl (ltb y x) refl
    where
      go : (b : Bool) → ltb x y ≡ b → (e : Bool) → ltb y x ≡ e → eqb x y && o
          ≡ is_eq (ordering_of (elim (ltb x y) [ true ↦ before | false ↦ elim (ltb y x) [ true ↦ beyond | false ↦ t ] ]))
      go true p e r = rw (p, ne_eqb x y (λ e. omega (arith, e, ltb-true x y p))) refl
      go false p true r = rw (p, r, ne_eqb x y (λ e. omega (arith, e, ltb-true y x r))) refl
      go false p false r = rw (p, r, eq-eqb x y (omega (arith, ltb-false x y p, ltb-false y x r))) q

alone : (o : Ordering) → Some o ≡ partial_ordering_then (Some o) (Some O.Equal)
alone O.Less = refl
alone O.Equal = refl
alone O.Greater = refl

alone_eq : (b : Bool) → b ≡ b && true
alone_eq true = refl
alone_eq false = refl

last_cmp : (x y : ℕ) → Some (nat_cmp x y) ≡ Some (ordering_of (elim (ltb x y) [ true ↦ before | false ↦ elim (ltb y x) [ true ↦ beyond | false ↦ equal ] ]))
last_cmp x y = alone (nat_cmp x y) ∙ word_cmp x y equal _ refl

last_eq : (x y : ℕ) → eqb x y ≡ is_eq (ordering_of (elim (ltb x y) [ true ↦ before | false ↦ elim (ltb y x) [ true ↦ beyond | false ↦ equal ] ]))
last_eq x y = alone_eq (eqb x y) ∙ word_eq x y equal _ refl

module _ (w k : Key) where
  pub turn_greater :
      is_some_and is_gt (partial_ordering_then (Some (nat_cmp w.hi k.hi))
      (partial_ordering_then (Some (nat_cmp w.lo k.lo)) (Some (nat_cmp w.len k.len)))) ≡ is_gt (ordering_of (turn w k))
  unfolding order
  turn_greater =
      ap (is_some_and is_gt) (word_cmp w.hi k.hi _ _ (word_cmp w.lo k.lo _ _ (last_cmp w.len k.len)))

  pub turn_same : eqb w.hi k.hi && (eqb w.lo k.lo && eqb w.len k.len) ≡ is_eq (ordering_of (turn w k))
  unfolding order
  turn_same = word_eq w.hi k.hi _ _ (word_eq w.lo k.lo _ _ (last_eq w.len k.len))
