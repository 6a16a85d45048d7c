-- One of two facts, by a test.
-- Assumes nothing: this is a definition, and its two laws.
use Rattle.std.specs.Prelude.{◌≡◌, Bool, true, false}
use Rattle.std.proofs.Common.{sym, true≢false}

abbrev pub either : Bool → Type 0 → Type 0 → Type 0
either true A B = A
either false A B = B

module _ (A B : Type 0) where
  pub yes : (b : Bool) → b ≡ true → either b A B → A
  yes true e x = x
  yes false e x = absurd (true≢false (sym e))

  pub no : (b : Bool) → b ≡ false → either b A B → B
  no true e x = absurd (true≢false e)
  no false e x = x
