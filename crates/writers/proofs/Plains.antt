-- A plain value's text and bounds, by its kind.
-- Assumes nothing.
use Prim.Native.Nat.{ℕ, ◌+◌, ◌≤◌}
use native.Mathlib.Numerals.{add-one}
use mathlib.Core.Path.{◌≡◌, sym, ap, ◌∙◌, subst}
use mathlib.Core.List.{List, ◌++◌}
use lib.ListN.{get_or}
use Rattle.meaning.specs.Ascii.{ascii}
use Rattle.meaning.specs.Text.{decimal, integer_text, hex, plain_text}
use Rattle.writers.specs.Words.{bytes_of}
use Rattle.writers.specs.Held.{kind_in, plain_of, plain_in, InBounds}
use Rattle.writers.specs.declared.plain.Kind.{Kind}
use Rattle.writers.specs.declared.plain.Kind.TheVariants.{Null, True, False, NonNeg, Neg, String}

-- of the kind j
module _ (kind : ℕ) (words : List ℕ) {k j : Kind} (o : k ≡ kind_in kind (get_or words 0 0)) where
  by_kind : k ≡ j → plain_text (plain_in kind words) ≡ plain_text (plain_of j words)
  by_kind e = ap (λ i. plain_text (plain_of i words)) (sym o ∙ e)

module _ (kind : ℕ) (words : List ℕ) {k : Kind} (o : k ≡ kind_in kind (get_or words 0 0)) where
  pub null_text : k ≡ Null → plain_text (plain_in kind words) ≡ ascii "n"
  unfolding plain_text
  null_text e = by_kind kind words o e

  pub true_text : k ≡ True → plain_text (plain_in kind words) ≡ ascii "t"
  unfolding plain_text
  true_text e = by_kind kind words o e

  pub false_text : k ≡ False → plain_text (plain_in kind words) ≡ ascii "f"
  unfolding plain_text
  false_text e = by_kind kind words o e

  pub nonneg_text : {n : ℕ} → k ≡ NonNeg n → plain_text (plain_in kind words) ≡ ascii "i" ++ decimal n
  unfolding plain_text integer_text
  nonneg_text e = by_kind kind words o e

  pub neg_text : {n : ℕ} → k ≡ Neg n → plain_text (plain_in kind words) ≡ ascii "i-" ++ decimal (n + 1)
  unfolding plain_text integer_text
  neg_text {n} e = by_kind kind words o e ∙ ap (λ m. ascii "i-" ++ decimal m) (sym (add-one n))

  pub string_text : {n : ℕ} → k ≡ String n → plain_text (plain_in kind words) ≡ ascii "s" ++ hex (bytes_of words n)
  unfolding plain_text
  string_text e = by_kind kind words o e

pub string_bound : {k : Kind} {n : ℕ} → k ≡ String n → InBounds k → n ≤ 32
string_bound e b = subst InBounds e b
