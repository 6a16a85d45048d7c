-- The small tests of a deed, case by case.
-- Assumes nothing.
use Prim.Native.Nat.{ℕ, ◌+◌, ◌≤◌, ◌<◌}
use mathlib.Core.Path.{◌≡◌}
use mathlib.Core.Bool.{true, false, not}
use borrow.Author.Tests.{lt-ltb, le-ltb, eq-eqb, ne_eqb}
use Rattle.message.specs.declared.Deed.{Deed}
use Rattle.deeds.specs.Deeds.{is_delete, is_insert, string_kind, may_make, inserts_here}

module _ (len left : ℕ) (deed : Deed) where
  -- an unknown place without a key isn't made
  pub make_never : 16 < len → false ≡ may_make len left deed
  unfolding may_make
  make_never h = rw (lt-ltb 16 len h)

  -- one with a key and more of the way behind it is
  pub make_going : len ≤ 16 → 0 < left → true ≡ may_make len left deed
  unfolding may_make
  make_going h g = rw (le-ltb 16 len h, lt-ltb 0 left g)

  -- one with the last key is, unless it is deleted
  pub make-last : len ≤ 16 → left ≤ 0 → not (is_delete deed) ≡ may_make len left deed
  unfolding may_make
  make-last h g = rw (le-ltb 16 len h, le-ltb 0 left g)

-- the kind of a string that is too long
pub kind_long : (n : ℕ) → 32 < n → 5 ≡ string_kind n
unfolding string_kind
kind_long n h = rw (lt-ltb 32 n h)

-- the kind of a string that isn't
pub kind-short : (n : ℕ) → n ≤ 32 → 5 + n ≡ string_kind n
unfolding string_kind
kind-short n h = rw (le-ltb 32 n h)

-- at the last key an insert puts in a new element
pub inserts_last : (left : ℕ) (deed : Deed) → left ≡ 3 → is_insert deed ≡ inserts_here left deed
unfolding inserts_here
inserts_last left deed e = rw (eq-eqb left 3 e)

-- before it none does
pub inserts_not : (left : ℕ) (deed : Deed) → (left ≡ 3 → ⊥) → false ≡ inserts_here left deed
unfolding inserts_here
inserts_not left deed n = rw (ne_eqb left 3 n)
