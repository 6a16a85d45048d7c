use Prim.Native.Nat.{ℕ, ◌+◌, ◌*◌, ◌<◌}
use native.Mathlib.Omega.{arith}
use mathlib.Core.Path.{refl, sym, ap, ◌∙◌}
use mathlib.Core.List.{List}
use lib.ListN.{length}
use Rattle.tables.specs.declared.Position.{Position}
use Rattle.tables.specs.Seek.{Searches}
use Rattle.tables.proofs.Seeks.{sought_end, sought_stop, sought_on, searches_on}
use Rattle.tables.proofs.seek.Goals as goal

-- the row that is looked at lies in both tables
record Inside (heads keys : List ℕ) (row : ℕ) : Type 0 where
  low : row < 1024
  in_heads : row < length heads
  in_keys : 3 * row + 2 < length keys

inside : (heads keys : List ℕ) (rows : ℕ) (at : Position) → Searches heads keys rows at → at.row < rows → Inside heads keys at.row
inside heads keys rows at s h = record {
  low = omega (arith, s.few, h);
  in_heads = omega (arith, s.in_heads, h);
  in_keys = omega (arith, s.in_keys, h);
}

pub returns-then-not-goes_over : goal.returns-then-not-goes_over
returns-then-not-goes_over c =
    sym (sought_stop _ _ _ _ _ c.loop-at.invariant.ok c.loop-at-test.true _ c.head_in-h.ensures
    (sym c.goes_over.ensures ∙ c.if-not-goes_over.true)) ∙ c.loop-at.invariant.same

pub overflow_add-at-in-loop-at : goal.overflow_add-at-in-loop-at
overflow_add-at-in-loop-at c =
    let l = c.loop-at.invariant.ok in
    omega (arith, l.few, l.begins, l.marks, ap (λ h. h.marks) c.head_in-h.ensures)

pub overflow_add-at-in-loop-at-2 : goal.overflow_add-at-in-loop-at-2
overflow_add-at-in-loop-at-2 c =
    let l = c.loop-at.invariant.ok in
    omega (arith, l.few, l.begins, l.values, ap (λ h. h.values) c.head_in-h.ensures)

pub loop-at-preserved : goal.loop-at-preserved
loop-at-preserved c =
    let w = c.args.w in
    rw c.head_in-h.ensures
    (record {
      ok = searches_on w _ _ _ _ c.loop-at.invariant.ok c.loop-at-test.true;
      same =
          sym (sought_on w _ _ _ _ c.loop-at.invariant.ok c.loop-at-test.true _ c.head_in-h.ensures
          (sym c.goes_over.ensures ∙ c.if-not-goes_over.false)) ∙ c.loop-at.invariant.same;
    })

pub returns : goal.returns
returns c = sym (sought_end _ _ _ _ _ c.loop-at.invariant.ok c.loop-at-test.false) ∙ c.loop-at.invariant.same

pub loop-at-init : goal.loop-at-init
loop-at-init c = record { ok = c.requires; same = refl }

pub offset_bounds-heads-row : goal.offset_bounds-heads-row
offset_bounds-heads-row c = let i = inside _ _ _ _ c.loop-at.invariant.ok c.loop-at-test.true in omega (arith, i.low, i.in_heads, i.in_keys)

pub bounds-heads-row : goal.bounds-heads-row
bounds-heads-row c = let i = inside _ _ _ _ c.loop-at.invariant.ok c.loop-at-test.true in omega (arith, i.low, i.in_heads, i.in_keys)

pub overflow_mul-k : goal.overflow_mul-k
overflow_mul-k c = let i = inside _ _ _ _ c.loop-at.invariant.ok c.loop-at-test.true in omega (arith, i.low, i.in_heads, i.in_keys)

pub offset_bounds-keys-row : goal.offset_bounds-keys-row
offset_bounds-keys-row c = let i = inside _ _ _ _ c.loop-at.invariant.ok c.loop-at-test.true in omega (arith, i.low, i.in_heads, i.in_keys)

pub bounds-keys-row : goal.bounds-keys-row
bounds-keys-row c = let i = inside _ _ _ _ c.loop-at.invariant.ok c.loop-at-test.true in omega (arith, i.low, i.in_heads, i.in_keys)

pub overflow_mul-k-in-loop-at : goal.overflow_mul-k-in-loop-at
overflow_mul-k-in-loop-at c = let i = inside _ _ _ _ c.loop-at.invariant.ok c.loop-at-test.true in omega (arith, i.low, i.in_heads, i.in_keys)

pub overflow_add-k : goal.overflow_add-k
overflow_add-k c = let i = inside _ _ _ _ c.loop-at.invariant.ok c.loop-at-test.true in omega (arith, i.low, i.in_heads, i.in_keys)

pub offset_bounds-keys-row-in-loop-at : goal.offset_bounds-keys-row-in-loop-at
offset_bounds-keys-row-in-loop-at c = let i = inside _ _ _ _ c.loop-at.invariant.ok c.loop-at-test.true in omega (arith, i.low, i.in_heads, i.in_keys)

pub bounds-keys-row-in-loop-at : goal.bounds-keys-row-in-loop-at
bounds-keys-row-in-loop-at c = let i = inside _ _ _ _ c.loop-at.invariant.ok c.loop-at-test.true in omega (arith, i.low, i.in_heads, i.in_keys)

pub overflow_mul-k-in-loop-at-2 : goal.overflow_mul-k-in-loop-at-2
overflow_mul-k-in-loop-at-2 c = let i = inside _ _ _ _ c.loop-at.invariant.ok c.loop-at-test.true in omega (arith, i.low, i.in_heads, i.in_keys)

pub overflow_add-k-in-loop-at : goal.overflow_add-k-in-loop-at
overflow_add-k-in-loop-at c = let i = inside _ _ _ _ c.loop-at.invariant.ok c.loop-at-test.true in omega (arith, i.low, i.in_heads, i.in_keys)

pub offset_bounds-keys-row-in-loop-at-2 : goal.offset_bounds-keys-row-in-loop-at-2
offset_bounds-keys-row-in-loop-at-2 c = let i = inside _ _ _ _ c.loop-at.invariant.ok c.loop-at-test.true in omega (arith, i.low, i.in_heads, i.in_keys)

pub bounds-keys-row-in-loop-at-2 : goal.bounds-keys-row-in-loop-at-2
bounds-keys-row-in-loop-at-2 c = let i = inside _ _ _ _ c.loop-at.invariant.ok c.loop-at-test.true in omega (arith, i.low, i.in_heads, i.in_keys)

pub overflow_add-at : goal.overflow_add-at
overflow_add-at c = let i = inside _ _ _ _ c.loop-at.invariant.ok c.loop-at-test.true in omega (arith, i.low, i.in_heads, i.in_keys)

pub loop-at-smaller : goal.loop-at-smaller
loop-at-smaller c = omega (arith, c.loop-at-test.true)
