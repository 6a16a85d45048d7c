-- The flag of a row's side, or of its map, in tables that hold rows.
-- Assumes nothing.
use Prim.Native.Nat.{ℕ, ◌+◌, ◌<◌}
use native.Mathlib.Omega.{arith}
use mathlib.Core.Path.{◌≡◌, refl, ap, ◌∙◌}
use mathlib.Core.List.{List, ◌∷◌, ◌++◌}
use lib.ListN.{length, set, get_or}
use Rattle.meaning.specs.Sheet.{Row}
use Rattle.tables.specs.Words.{head_word, pad}
use Rattle.tables.specs.Heads.{with_flag}
use Rattle.tables.specs.Holding.{marks_room, values_room, Good, Holds, four, flag_row}
use Rattle.tables.specs.Parts.{all_right}
use Rattle.tables.specs.Stands.{head_at_lem}
use Rattle.tables.specs.Changed.{marks_same, values_same, changed}
use Rattle.tables.specs.Rewritten.{flag_word}
use Rattle.tables.specs.declared.Counts.{Counts}
use Rattle.tables.specs.declared.Side.{Side}
use Rattle.tables.specs.declared.Side.TheVariants as S
use Rattle.steps.specs.Steps.{Flags}

pub flagged_row : (h k m v : List ℕ) (c : Counts) (A R : List Row) (r : Row) (side : Side) → Holds (four h k m v) c (A ++ r ∷ R)
    → Holds (four (set h (length A) (head_word (flag_row side r))) k m v) c (A ++ flag_row side r ∷ R)
flagged_row h k m v c A R r side H = go side
  where
    there : (r' : Row) → r.spot ≡ r'.spot → r.marks ≡ r'.marks → r.values ≡ r'.values → (Good r → Good r')
        → Holds (four (set h (length A) (head_word r')) k m v) c (A ++ r' ∷ R)
    there r' s e f g =
        changed A r r' R h k m v m v c c H s g (H.marks ∙ ap (pad marks_room) (marks_same A r r' R e))
        (H.values ∙ ap (pad values_room) (values_same A r r' R f)) refl (ap (λ l. c.marks + length l) e) (ap (λ l. c.values + length l) f)
        H.marks_fit H.values_fit

    go : (b : Side) → Holds (four (set h (length A) (head_word (flag_row b r))) k m v) c (A ++ flag_row b r ∷ R)
    go S.List = there _ refl refl refl (λ g. record { spot = g.spot; depth = g.depth; marks = g.marks; values = g.values })
    go S.Map = there _ refl refl refl (λ g. record { spot = g.spot; depth = g.depth; marks = g.marks; values = g.values })

pub flags : (side : Side) (row w : ℕ) (h : List ℕ) → w ≡ with_flag side (get_or h row 0) → Flags side row h (set h row w)
unfolding Flags
flags side row w h f k m v c A R r H e =
    let G = all_right Good A (r ∷ R) H.good in
    let d : r.depth < 16 = omega (arith, G.0.depth) in
    let q : w ≡ head_word (flag_row side r) = f ∙ (ap (with_flag side) (rw e (head_at_lem h k m v c A R r H)) ∙ flag_word r d side) in
    rw (q, e) (flagged_row h k m v c A R r side H)
