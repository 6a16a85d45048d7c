-- Tables that hold rows, among which a new one is opened.
-- Assumes nothing.
use Prim.Native.Nat.{ℕ, ◌+◌, ◌*◌, ◌≤◌, ◌<◌}
use native.Mathlib.Omega.{arith}
use mathlib.Core.Path.{◌≡◌, refl, sym, ap, ◌∙◌}
use mathlib.Core.List.{List, [], ◌∷◌, ◌++◌}
use lib.ListN.{length, set, length-append}
use Rattle.meaning.specs.Sheet.{Row}
use Rattle.theorems.specs.Accepting.{marks_append, values-append}
use Rattle.rows.specs.Blocks.{new_row}
use Rattle.words.specs.Words.{over_at, opened, inserted}
use Rattle.words.proofs.Over.{open_write}
use Rattle.words.proofs.Tables.{open_one}
use Rattle.tables.specs.Words.{head_word, spot_words, each_value, heads_of, keys_of, marks_of, values_of, pad}
use Rattle.tables.specs.Heads.{new_head}
use Rattle.tables.specs.Standing.{heads-append, keys-append, heads-length, keys_length}
use Rattle.tables.specs.Holding.{heads_room, keys_room, marks_room, values_room, Good, Holds, four}
use Rattle.tables.specs.Parts.{marks_of_append, values_of_append, all_left, all_right, all_both, heads_long, keys_long}
use Rattle.tables.specs.declared.Counts.{Counts}
use Rattle.tables.specs.declared.Side.{Side}
use Rattle.steps.specs.Steps.{Opens}
use Rattle.tables.specs.Changed.{marks_between, values-between, rows_between}
use Rattle.tables.specs.Rewritten.{new_word}
use Rattle.words.proofs.Padded.{inserted_pad}

-- Among rows that tables hold there is room for one more.
pub record Room (h k : List ℕ) (rows at : ℕ) : Type 0 where
  pub among : at ≤ rows
  pub heads : rows < length h
  pub keys : 3 * rows + 3 ≤ length k

pub room : (h k m v : List ℕ) (c : Counts) (A R : List Row) (at : ℕ) → Holds (four h k m v) c (A ++ R) → at ≡ length A → c.rows < 264
    → Room h k c.rows at
room h k m v c A R at H e l =
    let q = length-append A R in
    record {
      among = omega (arith, H.rows_are);
      heads = omega (arith, heads_long _ c (A ++ R) H);
      keys = omega (arith, keys_long _ c (A ++ R) H);
    }

-- The table of heads, and that of keys, with a row's words put in.
module _ (A R : List Row) (r : Row) where
  heads_opened : (h : List ℕ) (at rows : ℕ) → h ≡ pad heads_room (heads_of (A ++ R)) → at ≡ length A → rows ≡ length (A ++ R) → rows < 264
      → inserted rows at (head_word r ∷ []) h ≡ pad heads_room (heads_of (A ++ r ∷ R))
  unfolding heads_of
  heads_opened h at rows e f g l =
      let q = length-append A R in
      ap (inserted rows at (head_word r ∷ [])) (e ∙ ap (pad heads_room) (heads-append A R))
      ∙ (inserted_pad heads_room at rows (heads_of A) (heads_of R) (head_word r ∷ []) (heads-length A ∙ sym f)
      (omega (arith, heads-length R)) (omega arith)
      ∙ ap (pad heads_room) (sym (heads-append A (r ∷ R))))

  keys_opened : (k : List ℕ) (at rows : ℕ) → k ≡ pad keys_room (keys_of (A ++ R)) → at ≡ length A → rows ≡ length (A ++ R) → rows < 264
      → length (spot_words r.spot) ≡ 3
      → inserted (3 * rows) (3 * at) (spot_words r.spot) k ≡ pad keys_room (keys_of (A ++ r ∷ R))
  unfolding keys_of
  keys_opened k at rows e f g l w =
      let q = length-append A R in
      ap (inserted (3 * rows) (3 * at) (spot_words r.spot)) (e ∙ ap (pad keys_room) (keys-append A R))
      ∙ (inserted_pad keys_room (3 * at) (3 * rows) (keys_of A) (keys_of R) (spot_words r.spot) (omega (arith, keys_length A))
      (omega (arith, keys_length R)) (omega arith)
      ∙ ap (pad keys_room) (sym (keys-append A (r ∷ R))))

  -- a row without marks and values leaves those tables as they are
  marks_stay : r.marks ≡ [] → marks_of (A ++ R) ≡ marks_of (A ++ r ∷ R)
  unfolding marks_of
  marks_stay e =
      marks_of_append A R ∙ (ap (λ (l : List ℕ). marks_of A ++ (l ++ marks_of R)) (sym e) ∙ sym (marks_of_append A (r ∷ R)))

  values_stay : r.values ≡ [] → values_of (A ++ R) ≡ values_of (A ++ r ∷ R)
  unfolding values_of each_value
  values_stay e =
      values_of_append A R ∙ (ap (λ l. values_of A ++ (each_value l ++ values_of R)) (sym e) ∙ sym (values_of_append A (r ∷ R)))

pub opens : (at depth hi lo len head : ℕ) (s : Side) (c : Counts) (h h₁ k k₁ k₂ : List ℕ) → at ≤ c.rows → c.rows < length h → 3 * c.rows + 3 ≤ length k
    → h₁ ≡ opened c.rows at 1 h → k₁ ≡ opened (3 * c.rows) (3 * at) 3 k → k₂ ≡ over_at (3 * at) (hi ∷ lo ∷ len ∷ []) k₁
    → head ≡ new_head depth s
    → Opens at depth s (hi ∷ lo ∷ len ∷ []) c h k (record { rows = c.rows + 1; marks = c.marks; values = c.values })
    (set h₁ at head) k₂
unfolding Opens
opens at depth hi lo len head s c h h₁ k k₁ k₂ a b d z e f o m v A R p H x l n g w t =
    let r : Row = new_row depth p in
    let u : List ℕ = hi ∷ lo ∷ len ∷ [] in
    let hw : head ≡ head_word r = o ∙ rw t (new_word depth p) in
    let q = length-append A R in
    record {
      heads =
          ap (λ (l : List ℕ). set l at head) z ∙ (open_one c.rows at head h a (omega arith)
          ∙ rw hw (heads_opened A R r h at c.rows H.heads x H.rows_are l));
      keys =
          f ∙ (ap (over_at (3 * at) u) e
          ∙ (open_write (3 * c.rows) (3 * at) k (omega arith) u (omega arith)
          ∙ (ap (λ (z : List ℕ). inserted (3 * c.rows) (3 * at) z k) (sym w)
          ∙ keys_opened A R r k at c.rows H.keys x H.rows_are l (ap length w))));
      marks = H.marks ∙ ap (pad marks_room) (marks_stay A R r refl);
      values = H.values ∙ ap (pad values_room) (values_stay A R r refl);
      rows_are = omega (arith, H.rows_are, rows_between A r R);
      marks_are = omega (arith, H.marks_are, marks_between A r R, marks_append A R);
      values_are = omega (arith, H.values_are, values-between A r R, values-append A R);
      rows_fit = omega arith;
      marks_fit = H.marks_fit;
      values_fit = H.values_fit;
      good =
          all_both Good A (r ∷ R) (all_left Good A R H.good)
          (record { spot = g; depth = n; marks = tt; values = tt }, all_right Good A R H.good);
    }
