-- The line of a place, by what it hangs on.
-- Assumes nothing.
use Prim.Native.Nat.{ℕ, ◌≤◌}
use mathlib.Core.Path.{◌≡◌, sym, ap, subst, ◌∙◌}
use mathlib.Core.Bool.{Bool}
use mathlib.Core.List.{List, [], ◌∷◌, ◌++◌, append_assoc}
use Rattle.meaning.specs.Ascii.{ascii, byte}
use Rattle.meaning.specs.Text.{decimal, id_text, hex}
use Rattle.meaning.specs.Sheet.{flags_text, spot_text, line_text, place_line}
use Rattle.writers.specs.Words.{bytes_of}
use Rattle.lines.specs.Spots.{spot_of, ShortKey}
use Rattle.readers.specs.declared.Key.{Key as KeyWords}
use Rattle.lines.specs.declared.place.Spot.{Spot}
use Rattle.lines.specs.declared.place.Spot.TheVariants.{Key, Element}

module _ {p : Spot} {flags : List ℕ} {f : ℕ} (one : flags ≡ f ∷ []) where
  pub key_spot : {k : KeyWords} → p ≡ Key k
      → spot_text (spot_of p) flags ≡ (byte "{" ∷ f ∷ []) ++ hex (bytes_of (k.hi ∷ k.lo ∷ []) k.len)
  unfolding spot_text
  key_spot {k} e = ap (λ q. spot_text (spot_of q) flags) e ∙ ap (λ l. byte "{" ∷ (l ++ hex (bytes_of (k.hi ∷ k.lo ∷ []) k.len))) one

  pub element_spot : {id : ℕ} → p ≡ Element id → spot_text (spot_of p) flags ≡ (byte "[" ∷ f ∷ []) ++ id_text id
  unfolding spot_text
  element_spot {id} e = ap (λ q. spot_text (spot_of q) flags) e ∙ ap (λ l. byte "[" ∷ (l ++ id_text id)) one

-- a place's line is its lead, its depth and where it hangs, and an LF
place_parts : (n : ℕ) (p : Spot) (m l : Bool) {t : List ℕ} → spot_text (spot_of p) (flags_text m l) ≡ t
    → line_text (place_line n (spot_of p) m l) ≡ ascii "place=" ++ ((decimal n ++ t) ++ ascii "\n")
unfolding line_text
place_parts n p m l {t} e =
    ap (λ u. ascii "place=" ++ (decimal n ++ (u ++ ascii "\n"))) e
    ∙ ap (λ u. ascii "place=" ++ u) (sym (append_assoc (decimal n) t (ascii "\n")))

pub key_short : {p : Spot} {k : KeyWords} → p ≡ Key k → ShortKey p → k.len ≤ 16
key_short e h = subst ShortKey e h

module _ (n : ℕ) {p : Spot} (m l : Bool) {f : ℕ} (one : flags_text m l ≡ f ∷ []) where
  pub key_line : {k : KeyWords} → p ≡ Key k
      → line_text (place_line n (spot_of p) m l)
      ≡ ascii "place=" ++ ((decimal n ++ ((byte "{" ∷ f ∷ []) ++ hex (bytes_of (k.hi ∷ k.lo ∷ []) k.len))) ++ ascii "\n")
  key_line e = place_parts n p m l (key_spot one e)

  pub element_line : {id : ℕ} → p ≡ Element id
      → line_text (place_line n (spot_of p) m l) ≡ ascii "place=" ++ ((decimal n ++ ((byte "[" ∷ f ∷ []) ++ id_text id)) ++ ascii "\n")
  element_line e = place_parts n p m l (element_spot one e)
