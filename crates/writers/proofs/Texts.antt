-- An id as it is written, piece by piece; and the size of a text that is spelled otherwise, or in pieces.
-- Assumes nothing.
use Prim.Native.Nat.{ℕ, ◌+◌, ◌/◌, ◌%◌, ◌≤◌}
use native.Mathlib.Numerals.{add-one}
use native.Mathlib.Omega.{arith}
use mathlib.Core.Path.{◌≡◌, sym, ap, ◌∙◌}
use mathlib.Core.List.{List, ◌++◌}
use lib.ListN.{length, length-append}
use Rattle.meaning.specs.Ascii.{ascii}
use Rattle.meaning.specs.Text.{decimal, id_text}
use Rattle.writers.specs.Sized.{Sized}

-- an id is its counter, a point and its replica's number
pub id_text_lem : (i : ℕ) → id_text i ≡ decimal (i / 8) ++ (ascii "." ++ decimal (i % 8 + 1))
unfolding id_text
id_text_lem i = ap (λ n. decimal (i / 8) ++ (ascii "." ++ decimal n)) (sym (add-one (i % 8)))

-- the size of an id is that of its pieces
pub id_length : (i : ℕ) → length (id_text i) ≡ length (decimal (i / 8)) + 1 + length (decimal (i % 8 + 1))
id_length i = omega (arith, ap length (id_text_lem i), length-append (decimal (i / 8)) (ascii "." ++ decimal (i % 8 + 1)))

-- a text's size is that of its pieces
pub sized : {text : List ℕ} {limit n : ℕ} (pieces : List ℕ) → text ≡ pieces → n ≡ length pieces → n ≤ limit → Sized text limit n
sized pieces e s m = record { size = s ∙ ap length (sym e); most = m }

-- of a text that is spelled otherwise, with another limit
pub sized-of : {t u : List ℕ} {limit bound n : ℕ} → t ≡ u → limit ≤ bound → Sized u limit n → Sized t bound n
sized-of e h s = record { size = s.size ∙ ap length (sym e); most = omega (arith, s.most) }

pub fits_as : {t u : List ℕ} {n : ℕ} → t ≡ u → length t ≤ n → length u ≤ n
fits_as e h = rw e at h
