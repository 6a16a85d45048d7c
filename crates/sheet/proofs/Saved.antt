-- What `save` answers is what document 01 says, by whether the sheet fits. And the values of a sound document are within bounds.
-- Assumes nothing.
use Prim.Native.Nat.{ℕ, ◌≤◌, ◌<◌}
use native.Mathlib.Omega.{arith}
use mathlib.Core.Path.{◌≡◌, refl, sym, ap, ◌∙◌}
use mathlib.Core.Bool.{true, false, true≢false}
use mathlib.Core.List.{List, [], ◌∷◌}
use borrow.Author.Tests.{lt-ltb, le-ltb}
use lib.ListN.{length}
use Rattle.meaning.specs.Places.{Document}
use Rattle.meaning.specs.Members.{All}
use Rattle.meaning.specs.Sheet.{Row, rows_of, sheet, save}
use Rattle.meaning.specs.Sound.{Sound}
use Rattle.meaning.specs.Promises.{Saves}
use Rattle.meaning.specs.declared.Counters.{Counters}
use Rattle.meaning.specs.Answers.{Saved}
use Rattle.std.specs.Prelude.{Ok, Err}
use Rattle.theorems.specs.Fit.{FitOn}
use Rattle.theorems.specs.Saved.{sound_fits}
use Rattle.theorems.specs.Determined.{saves_once}
use Rattle.decimal.specs.Take.{Wrote}
use Rattle.tables.specs.declared.Tables.{Tables}
use Rattle.tables.specs.Holding.{Holds, within_tables, holds_within}
use Rattle.tables.specs.declared.Counts.{Counts}
use Rattle.sheet.specs.Texts.{sheet_text}
use Rattle.sheet.specs.Saving.{ValidRow, unbounded, Saving}
use Rattle.sheet.proofs.Sheets.{sheet-is}

-- a sound document's values
fit_valid : (s : List ℕ) (xs rs : List Row) → FitOn s rs xs → All ValidRow xs
fit_valid s [] rs h = tt
fit_valid s (x ∷ xs) rs h = (h.0.owns.valid, fit_valid s xs (x ∷ rs) h.1)

pub sound_valid : (D : Document) → Sound D → All ValidRow (rows_of D)
unfolding rows_of
sound_valid D s = fit_valid D.seen (rows_of D) [] (sound_fits D.seen D.root s.places)

saves_short : (D : Document) (buffer : List ℕ) (n : ℕ) → n ≡ length (sheet D) → length buffer < n → Saves D buffer (Err (record { needed = n })) buffer
unfolding save
saves_short D buffer n e h =
    let l : length buffer < length (sheet D) = omega arith in
    record { answers = rw (lt-ltb (length buffer) (length (sheet D)) l, e); writes = rw (lt-ltb (length buffer) (length (sheet D)) l) }

saves_whole : (D : Document) (buffer after : List ℕ) (n : ℕ) → length (sheet D) ≤ length buffer → Wrote (sheet D) buffer after n
    → Saves D buffer (Ok n) after
unfolding save
saves_whole D buffer after n h w =
    record {
      answers = rw (le-ltb (length buffer) (length (sheet D)) h, w.size);
      writes = rw (le-ltb (length buffer) (length (sheet D)) h) w.buffer;
    }

-- What `save` answers: the counts have no room in the tables; the sheet doesn't fit; it is written.
module _ (T : Tables) (c : Counts) (seen : Counters) (buffer : List ℕ) where
  abbrev text : List ℕ
  text = sheet_text T c.rows seen.at

  text_is : (D : Document) → Holds T c (rows_of D) → All ValidRow (rows_of D) → seen.at ≡ D.seen → text ≡ sheet D
  text_is D H valid e = ap (sheet_text T c.rows) e ∙ sheet-is T.heads T.keys T.marks T.values c D H valid

  pub too_many : within_tables c ≡ false → Saving T c seen buffer (Err (record { needed = unbounded })) buffer
  too_many l = record {
    saves = λ D H valid e. absurd (true≢false (sym (holds_within H) ∙ l));
    untouched = λ n e. refl;
    beyond = λ e. refl;
  }

  module _ (room : within_tables c ≡ true) where
    pub too_short : (n : ℕ) → n ≡ length text → length buffer < n → Saving T c seen buffer (Err (record { needed = n })) buffer
    too_short n e l = record {
      saves = λ D H valid s. saves_short D buffer n (e ∙ ap length (text_is D H valid s)) l;
      untouched = λ n e. refl;
      beyond = λ e. absurd (true≢false (sym room ∙ e));
    }

    pub written : (n size : ℕ) (after : List ℕ) → size ≡ length text → size ≤ length buffer → Wrote text buffer after n
        → Saving T c seen buffer (Ok n) after
    written n size after e l w = record {
      saves = λ D H valid s. let t = text_is D H valid s in saves_whole D buffer after n (omega (arith, ap length t)) (rw t at w);
      untouched = λ n e. absurd (let z : ◌≡◌ {A = ℕ} 0 1 = cc in omega arith);
      beyond = λ e. absurd (true≢false (sym room ∙ e));
    }

-- Two results of a save are equal, of every memory that holds a document, and of counts that have no room in the tables.
module _ {T : Tables} {c : Counts} {seen : Counters} {buffer : List ℕ} {a b : Saved} {x y : List ℕ} (p : Saving T c seen buffer a x)
    (q : Saving T c seen buffer b y) where
  pub save_once : (D : Document) → Holds T c (rows_of D) → Sound D → seen.at ≡ D.seen → (a ≡ b) × (x ≡ y)
  save_once D H s e =
      saves_once D buffer a b x y (p.saves D H (sound_valid D s) e) (q.saves D H (sound_valid D s) e)

  pub save_once_beyond : within_tables c ≡ false → (a ≡ b) × (x ≡ y)
  save_once_beyond e =
      (p.beyond e ∙ sym (q.beyond e), p.untouched unbounded (p.beyond e) ∙ sym (q.untouched unbounded (q.beyond e)))
