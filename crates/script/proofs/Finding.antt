-- The number behind a text; the LF of a first line, as many bytes as it says, and one LF. What stands there, or doesn't.
-- Assumes nothing.
use Prim.Native.Nat.{ℕ, ◌+◌, ◌-◌, ◌≤◌, ◌<◌}
use native.Mathlib.Omega.{arith}
use mathlib.Core.Path.{◌≡◌, refl, sym, ap, ◌∙◌, subst}
use mathlib.Core.Bool.{Bool, true, false, cond, ◌&&◌}
use mathlib.Core.List.{List, [], ◌++◌, append_assoc}
use lib.Dec.{leb}
use lib.ListN.{length, take, drop, take-append-drop, length-append, length-drop}
use lib.Seq.{take_at, drop_at, drop-drop, length-take-le}
use borrow.Author.Tests.{lt-leb}
use Rattle.std.proofs.Common.{Option, Some, None}
use Rattle.meaning.specs.Ascii.{ascii}
use Rattle.decimal.specs.Take.{Layout, Took, Never, fixed}
use Rattle.decimal.specs.Numbers.{numbers, ReadsNumber}
use Rattle.decimal.proofs.Layouts.{no_first, no_second, both}
use Rattle.script.specs.Calls.{asks, blocks, part_of, FindsNumber, Found}
use Rattle.script.specs.Once.{took_past, part_is}

abbrev feed : Layout (Unit {0})
feed = fixed (ascii "\n")

-- A number behind a text.

module _ (most : ℕ) (text s : List ℕ) (a : ℕ) where
  pub no_text : Never (fixed text) s a → Never (asks most text) s a
  no_text h = no_first (fixed text) (numbers 0 most) (λ x y t v m. tt) s a h

  module _ (n : ℕ) (k : Took (fixed text) s a tt n) where
    pub behind_text : (r : Option (ℕ × ℕ)) → ReadsNumber (numbers 0 most) s n r → FindsNumber most text s a r
    behind_text (Some (v, m)) l = both (fixed text) (numbers 0 most) (λ x y t v m. tt) s a tt n k v m l
    behind_text None h = no_second (fixed text) (numbers 0 most) (λ x y t v m. tt) s a tt n k h

-- Blocks of n bytes.

module _ (n : ℕ) (s : List ℕ) (a : ℕ) where
  -- the text of a block, and what follows
  spelled : (block t : List ℕ) → drop a s ≡ (blocks n).text block ++ t → drop a s ≡ ascii "\n" ++ (block ++ (ascii "\n" ++ t))
  spelled block t e =
      e ∙ (append_assoc (ascii "\n") (block ++ ascii "\n") t ∙ ap (λ l. ascii "\n" ++ l) (append_assoc block (ascii "\n") t))

  pub no_line_end : Never feed s a → Never (blocks n) s a
  no_line_end h = record { not = λ block t v m e. h.not tt (block ++ (ascii "\n" ++ t)) tt tt (spelled block t e) }

  module _ (from : ℕ) (k : Took feed s a tt from) where
    -- the place behind the line
    pub line_end : (from ≤ length s) × (from ≡ a + 1)
    line_end = took_past feed s a tt from k (omega arith)

    -- what a block there is followed by
    behind_line : (block t : List ℕ) → drop a s ≡ (blocks n).text block ++ t → block ++ (ascii "\n" ++ t) ≡ drop from s
    behind_line block t e = (k.only tt (block ++ (ascii "\n" ++ t)) tt tt (spelled block t e)).1

    pub too_few : length s - from < n → Never (blocks n) s a
    too_few l = record {
      not = λ block t v m e.
          omega (arith, l, v, length-append block (ascii "\n" ++ t), ap length (behind_line block t e), length-drop from s);
    }

    behind_block : (block t : List ℕ) → length block ≡ n → drop a s ≡ (blocks n).text block ++ t → drop (from + n) s ≡ ascii "\n" ++ t
    behind_block block t v e =
        sym (drop-drop n from s) ∙ (ap (λ l. drop n l) (sym (behind_line block t e)) ∙ drop_at block (ascii "\n" ++ t) n v)

    pub no_end : Never feed s (from + n) → Never (blocks n) s a
    no_end h = record { not = λ block t v m e. h.not tt t tt tt (behind_block block t v e) }

    module _ (next : ℕ) (end : Took feed s (from + n) tt next) where
      -- the LF behind the block
      last : (next ≤ length s) × (next ≡ from + n + 1)
      last = took_past feed s (from + n) tt next end (omega arith)

      block_took : Took (blocks n) s a (take n (drop from s)) next
      block_took =
          let block = take n (drop from s) in
          let e : drop from s ≡ (block ++ ascii "\n") ++ drop next s =
          sym (take-append-drop n (drop from s))
          ∙ (ap (λ t. block ++ t) (drop-drop n from s ∙ end.text) ∙ sym (append_assoc block (ascii "\n") (drop next s))) in
          record {
            valid = length-take-le n (drop from s) (omega (arith, length-drop from s, last));
            text =
                k.text
                ∙ (ap (λ t. ascii "\n" ++ t) e ∙ sym (append_assoc (ascii "\n") (block ++ ascii "\n") (drop next s)));
            rest = tt;
            within = λ h. last.0;
            only = λ other t v m f. (
              sym (take_at other (ascii "\n" ++ t) n v) ∙ ap (λ l. take n l) (behind_line other t f),
              (end.only tt t tt tt (behind_block other t v f)).1,
            );
          }

      pub a_block : Found n s a (record { from = from; to = from + n; next = next })
      a_block =
          let i : n ≡ from + n - from = omega arith in
          let p : take n (drop from s) ≡ part_of from (from + n) s =
          ap (λ k. take k (drop from s)) i ∙ sym (part_is from (from + n) s (omega arith) (omega (arith, last))) in
          record { took = subst (λ block. Took (blocks n) s a block next) p block_took; order = omega arith; behind = last.1 }

-- Parts.

-- nothing stands between two places that have crossed
pub part_crossed : (from to : ℕ) (s : List ℕ) → to < from → [] ≡ part_of from to s
part_crossed from to s h = rw (lt-leb from to h)

-- nothing is told up to a place beyond the end
pub part_beyond : (from to : ℕ) (s : List ℕ) → length s < to → [] ≡ part_of from to s
part_beyond from to s h = rw (lt-leb to (length s) h) (go (leb from to) (take (to - from) (drop from s)))
  where
    go : (b : Bool) (part : List ℕ) → [] ≡ cond (b && false) part []
    go true part = refl
    go false part = refl
