-- What a read answers of what is found: the text doesn't fit, it is written, or nothing is there.
-- Assumes nothing.
use Prim.Native.Nat.{ℕ, ◌≤◌, ◌<◌}
use native.Mathlib.Omega.{arith}
use mathlib.Core.Path.{◌≡◌, refl, sym, ◌∙◌, subst}
use mathlib.Core.List.{List}
use Rattle.std.specs.Prelude.{Ok, Err}
use borrow.Author.Tests.{lt-ltb, le-ltb}
use lib.ListN.{length}
use Rattle.meaning.specs.Places.{Place}
use Rattle.meaning.specs.Read.{Finding, not_there, unmarked, listed, answer_read}
use Rattle.meaning.specs.Answers.{Reading, Refusal}
use Rattle.meaning.specs.declared.ReadError.TheVariants.{NotThere, ShortBuffer}
use Rattle.theorems.specs.Decide.{Tri, less, same, more, tri}
use Rattle.decimal.specs.Take.{Wrote}
use Rattle.listings.specs.Lists.{Answers, Lists}

module _ (text before : List ℕ) where
  -- 13
  pub too_short : {n : ℕ} → n ≡ length text → length before < n → Answers (listed text) before (Err (ShortBuffer n)) before
  unfolding answer_read
  too_short {n} e l =
      let h : length before < length text = omega arith in
      record { answers = rw (lt-ltb (length before) (length text) h, e); writes = rw (lt-ltb (length before) (length text) h) }

  -- 0
  pub written : {n : ℕ} {after : List ℕ} → length text ≤ length before → Wrote text before after n
      → Answers (listed text) before (Ok n) after
  unfolding answer_read
  written {n} {after} l w = record {
    answers = rw (le-ltb (length before) (length text) l, w.size);
    writes = rw (le-ltb (length before) (length text) l) w.buffer;
  }

-- 14
pub not_there_lem : (before : List ℕ) → Answers not_there before (Err NotThere) before
unfolding answer_read
not_there_lem before = record { answers = refl; writes = refl }

-- a refusal leaves the buffer as it was
read_stays : (found : Finding) (before : List ℕ) → Refusal (answer_read found before).answer → (answer_read found before).buffer ≡ before
unfolding answer_read
read_stays not_there before h = refl
read_stays unmarked before h = refl
read_stays (listed text) before h = by_size (tri (length before) (length text))
  where
    whole : length text ≤ length before → (answer_read (listed text) before).buffer ≡ before
    whole l = absurd (rw (le-ltb (length before) (length text) l) at h)

    by_size : Tri (length before) (length text) → (answer_read (listed text) before).buffer ≡ before
    by_size (less l) = rw (lt-ltb (length before) (length text) l)
    by_size (same e) = whole (omega arith)
    by_size (more l) = whole (omega arith)

-- what is answered is what is found, and what document 01 finds of the place is that
pub gives : {Stands : Place → Type 0} {find : Place → Finding} {before after : List ℕ} {r : Reading} (found : Finding)
    → ((p : Place) → Stands p → find p ≡ found) → Answers found before r after → Lists Stands find before r after
gives {before = before} {after = after} {r = r} found e a = record {
  lists = λ p s. subst (λ f. Answers f before r after) (sym (e p s)) a;
  stays = λ h. a.writes ∙ read_stays found before (subst Refusal a.answers h);
}
