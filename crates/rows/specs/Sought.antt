-- A read's way on rows. Each key leads from a place to one that hangs under it, found by the search of specs/Locate. Where a place stands,
-- its own row comes first, then the rows of what hangs under it, and behind these no deeper row.
-- Assumes nothing.
use Rattle.std.specs.Prelude.{ℕ, suc, ◌≡◌, refl, true, false, List, [], ◌∷◌, ◌++◌, length}
use Rattle.std.proofs.Common.{arith, sym, ◌∙◌, true≢false, append-nil}
use Rattle.std.proofs.Math.Path.{ap}
use Rattle.std.proofs.Math.Bool.{cond}
use Rattle.meaning.specs.Places.{Place, place, children_of, elements_of, empty, Document}
use Rattle.meaning.specs.Judge.{Found, found, unknown, find}
use Rattle.meaning.specs.Read.{Trail, by_key, by_element, PlaceWay, Sought, without_marks, lookup, is_marked, entered, follow, seek}
use Rattle.meaning.specs.Sheet.{Spot, in_map, in_list, Row, row_of, rows, rows_children, rows_of}
use Rattle.rows.specs.Blocks.{passed, rest, Block, deeper}
use Rattle.rows.specs.Spans.{Shallow}
use Rattle.rows.specs.Seeking.{block_of}
use Rattle.rows.specs.Locate.{Located, nowhere, here, locate_key, locate_element, is_located, as_block, under_key, under_element}
use Rattle.rows.specs.Balanced.{passed-rest}
use Rattle.rows.specs.Within.{shallow_rest, key_within, element_within}

-- One key of a way.

abbrev pub onward : Spot → Trail → Trail
onward (in_map k) t = by_key k t
onward (in_list e) t = by_element e t

-- the place that hangs under another at a spot
abbrev pub place_at : Spot → Place → Found
place_at (in_map k) x = lookup k (children_of x)
place_at (in_list e) x = find e (elements_of x)

pub follow-onward : (p : Spot) (t : Trail) (x : Place) → follow (onward p t) x ≡ entered (follow t) (place_at p x)
unfolding follow
follow-onward (in_map k) t x = refl
follow-onward (in_list e) t x = refl

-- the same on rows
abbrev pub locate_spot : ℕ → Spot → List Row → Located
locate_spot n (in_map k) rs = locate_key n k rs
locate_spot n (in_list e) rs = locate_element n e rs

pub locate_place : (n : ℕ) (p : Spot) (x : Place) (B : List Row) → Shallow n B
    → locate_spot (suc n) p (rows (suc n) x ++ B) ≡ as_block (suc n) p (place_at p x)
locate_place n (in_map k) x B h = key_within n B h k (rows (suc n) x) ∙ under_key (suc n) k x
locate_place n (in_list e) x B h = element_within n B h e (rows (suc n) x) ∙ under_element (suc n) e x

-- The root is a place without marks that has only a map.

abbrev pub root_place : Document → Place
root_place D = place true false [] [] D.root empty

pub seek-entered : (w : PlaceWay) (D : Document) → seek w D ≡ entered (follow w.trail) (place_at (in_map w.top) (root_place D))
unfolding seek
seek-entered w D = refl

pub root_rows : (D : Document) → rows_of D ≡ rows 1 (root_place D) ++ []
unfolding rows_of rows
root_rows D = sym (append-nil (rows_children 1 D.root)) ∙ sym (append-nil (rows_children 1 D.root ++ []))

-- Where a place stands.

-- the rows are A, the place y of depth n with what hangs under it, and others
pub record Stands (rs A : List Row) (n : ℕ) (p : Spot) (y : Place) : Type 0 where
  pub back : List Row
  pub all : rs ≡ A ++ row_of n p y ∷ (rows (suc n) y ++ back)
  pub ends : Shallow n back

-- what the search found
pub found_stands : (rs A : List Row) (n : ℕ) (p : Spot) (y : Place) (r : Row) (R : List Row) → rs ≡ A ++ r ∷ R
    → here (block_of n p y) ≡ here (record { own = r; under = passed (deeper n) R }) → Stands rs A n p y
found_stands rs A n p y r R e f =
    let b : block_of n p y ≡ record { own = r; under = passed (deeper n) R } = cc in
    let o : r ≡ row_of n p y = sym (ap (λ (b : Block). b.own) b) in
    let u : passed (deeper n) R ≡ rows (suc n) y = sym (ap (λ (b : Block). b.under) b) in
    let w : R ≡ rows (suc n) y ++ rest (deeper n) R = sym (passed-rest (deeper n) R) ∙ ap (◌++ rest (deeper n) R) u in
    record { back = rest (deeper n) R; all = e ∙ (ap (λ r. A ++ r ∷ R) o ∙ ap (λ R. A ++ row_of n p y ∷ R) w); ends = shallow_rest n R }

pub no_block : (n : ℕ) (p : Spot) (f : Found) → as_block n p f ≡ nowhere → f ≡ unknown
no_block n p unknown e = refl
no_block n p (found y) e = absurd (true≢false (ap is_located e))

-- A place is present if its row has marks.

pub row_marked : (n : ℕ) (p : Spot) (y : Place) → (length (row_of n p y).marks ≡ 0 → ⊥) → is_marked y ≡ true
row_marked n p (place m l [] vs ks es) h = absurd (h refl)
row_marked n p (place m l (i ∷ ms) vs ks es) h = refl

pub row_unmarked : (n : ℕ) (p : Spot) (y : Place) → length (row_of n p y).marks ≡ 0 → is_marked y ≡ false
row_unmarked n p (place m l [] vs ks es) h = refl
row_unmarked n p (place m l (i ∷ ms) vs ks es) h = absurd (omega arith)

module _ (go : Place → Sought) (y : Place) where
  pub entered-marked : is_marked y ≡ true → entered go (found y) ≡ go y
  unfolding entered
  entered-marked e = ap (λ b. cond b (go y) without_marks) e

  pub entered_unmarked : is_marked y ≡ false → entered go (found y) ≡ without_marks
  unfolding entered
  entered_unmarked e = ap (λ b. cond b (go y) without_marks) e
