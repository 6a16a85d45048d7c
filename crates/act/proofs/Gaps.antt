-- The gap that the marks of a way travel through: how many marks are put in, where the marks of a row stand, and a gap behind the last
-- mark.
-- Assumes nothing.
use Prim.Native.Nat.{ℕ, ◌+◌, ◌≤◌}
use native.Mathlib.Omega.{arith}
use mathlib.Core.Path.{◌≡◌}
use mathlib.Core.Bool.{Bool, true, false, cond}
use mathlib.Core.List.{List, [], ◌∷◌, ◌++◌}
use lib.ListN.{length}
use Rattle.meaning.specs.Load.{marks_in}
use Rattle.meaning.specs.Sheet.{Row}
use Rattle.theorems.specs.Accepting.{marks_append}
use Rattle.message.specs.declared.Deed.{Deed}
use Rattle.words.specs.Gap.{Leaves}
use Rattle.tables.specs.declared.Tables.{Tables}
use Rattle.tables.specs.Standing.{behind}
use Rattle.tables.specs.Holding.{Holds}
use Rattle.tables.specs.Parts.{at-behind}
use Rattle.tables.specs.declared.Counts.{Counts}
use Rattle.tables.specs.declared.Position.{Position}
use Rattle.steps.proofs.Marked.{holds_gap}
use Rattle.deeds.specs.Deeds.{is_delete}
use Rattle.act.specs.Acting.{marks_by}

pub marks_none : (d : Deed) (n : ℕ) → is_delete d ≡ true → marks_by d n ≡ 0
unfolding marks_by
marks_none d n e = rw e

pub marks_all : (d : Deed) (n : ℕ) → is_delete d ≡ false → marks_by d n ≡ n
unfolding marks_by
marks_all d n e = rw e

pub marks_most : (d : Deed) (n : ℕ) → marks_by d n ≤ n
unfolding marks_by
marks_most d n = go (is_delete d)
  where
    go : (b : Bool) → cond b 0 n ≤ n
    go true = omega arith
    go false = omega arith

-- the marks of the rows in front are among all
pub mark_low : (s : Position) (T : Tables) (c : Counts) (A B : List Row) → Holds T c (A ++ B) → s ≡ behind A → s.mark ≤ c.marks
mark_low s T c A B H e = omega (arith, (at-behind s A e).mark, H.marks_are, marks_append A B)

-- a place further on has as many marks before it, or more
pub mark-further : (s u : Position) (A P : List Row) → s ≡ behind A → u ≡ behind (A ++ P) → s.mark ≤ u.mark
mark-further s u A P e f = omega (arith, (at-behind s A e).mark, (at-behind u (A ++ P) f).mark, marks_append A P)

-- behind a row
pub mark-next : (s u : Position) (A : List Row) (r : Row) → s ≡ behind A → u ≡ behind (A ++ r ∷ []) → s.mark + length r.marks ≡ u.mark
unfolding marks_in
mark-next s u A r e f = omega (arith, (at-behind s A e).mark, (at-behind u (A ++ r ∷ []) f).mark, marks_append A (r ∷ []))

-- nothing is put in: a gap stands behind the last mark
pub leaves_still : (g : ℕ) (s : Position) (T : Tables) (c : Counts) (A B : List Row) (P : List ℕ → Type 0) → Holds T c (A ++ B) → s ≡ behind A
    → c.marks + g ≤ 1032 → P T.marks → Leaves g s.mark c.marks T.marks P
leaves_still g s T c A B P H e h x =
    record { table = T.marks; gap = holds_gap g T c (A ++ B) H h; before = mark_low s T c A B H e; is = x }
