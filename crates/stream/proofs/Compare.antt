-- The library's `starts_with` is `starts_with` of specs/Ends, and no text begins with a longer one.
-- Assumes nothing.
use Prim.Native.Nat.{ℕ, ◌-◌, ◌≤◌, ◌<◌}
use mathlib.Core.Path.{◌≡◌, refl, sym, ap, ◌∙◌}
use mathlib.Core.Bool.{Bool, true, false, ◌&&◌}
use mathlib.Core.List.{List, [], ◌∷◌}
use native.Mathlib.Omega.{arith}
use borrow.Author.Tests.{ne_eqb}
use lib.Dec.{eqb}
use lib.ListN.{length, take, drop, length-drop}
use lib.Seq.{take_all}
use Rattle.std.specs.List as std
use Rattle.meaning.specs.Ascii.{ascii}
use Rattle.theorems.specs.Decide.{Tri, less, same, more, tri}
use Rattle.stream.specs.Ends.{starts_with, opens}

eqb_comm : (x y : ℕ) → eqb x y ≡ eqb y x
eqb_comm x y = go (tri x y)
  where
    go : Tri x y → eqb x y ≡ eqb y x
    go (less h) = rw (ne_eqb x y (λ e. omega arith), ne_eqb y x (λ e. omega arith))
    go (same h) = rw h
    go (more h) = rw (ne_eqb x y (λ e. omega arith), ne_eqb y x (λ e. omega arith))

same_start : (p t : List ℕ) → std.starts_with eqb t p ≡ starts_with p t
unfolding starts_with
same_start [] t = refl
same_start (x ∷ p) [] = refl
same_start (x ∷ p) (y ∷ t) = rw (eqb_comm x y) (ap (λ b. eqb y x && b) (same_start p t))

-- of the part of a text from a place on
pub opens_there : (s : List ℕ) (e : ℕ) → std.starts_with eqb (take (length s - e) (drop e s)) (ascii "op=1\n") ≡ opens (drop e s)
opens_there s e =
    let h : length (drop e s) ≤ length s - e = simp length-drop (omega arith) in
    ap (λ t. std.starts_with eqb t (ascii "op=1\n")) (take_all (length s - e) (drop e s) h) ∙ same_start (ascii "op=1\n") (drop e s)

-- a text that is longer doesn't stand there
starts_short : (p t : List ℕ) → length t < length p → starts_with p t ≡ false
unfolding starts_with
starts_short [] t h = absurd (omega arith)
starts_short (x ∷ p) [] h = refl
starts_short (x ∷ p) (y ∷ t) h = go (eqb y x) (starts_short p t (omega arith))
  where
    go : (c : Bool) → starts_with p t ≡ false → c && starts_with p t ≡ false
    go true e = e
    go false e = refl

-- nor at a place that has too few bytes behind it
pub too_short : (s p : List ℕ) (a : ℕ) → length s - a < length p → false ≡ starts_with p (drop a s)
too_short s p a h = sym (starts_short p (drop a s) (simp length-drop h))
