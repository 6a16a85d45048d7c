-- What goes at a place that was looked for, in tables that hold rows.
-- Assumes nothing.
use Prim.Native.Nat.{ℕ}
use mathlib.Core.Path.{◌≡◌, refl, sym, ◌∙◌, subst}
use mathlib.Core.Bool.{Bool, true, false}
use mathlib.Core.List.{List, ◌∷◌}
use Rattle.meaning.specs.Sheet.{Spot}
use Rattle.rows.specs.Blocks.{join, passed, deeper, at}
use Rattle.rows.specs.Counting.{gone_marks, gone_values, new_block}
use Rattle.tables.specs.Holding.{Holds, four}
use Rattle.forecast.specs.declared.Lost.{Lost}
use Rattle.message.specs.declared.Deed.{Deed}
use Rattle.tables.specs.declared.Position.{Position}
use Rattle.finder.specs.Looks.{missing, standing}
use Rattle.forecast.specs.Goes.{Goes, RowGone, BlockGone}
use Rattle.forecast.specs.Weighs.{GoesAt, gives_plain, SightGone}
use Rattle.forecast.proofs.Goes.{nothing}
use Rattle.std.specs.Prelude.{Option, None, Some}
use Rattle.std.proofs.lemmas.Option.{none-some, same_Some}

-- of a new place nothing
new_none : (d : List ℕ) (n : ℕ) (p : Spot) → Goes d (join (new_block n p)) nothing
unfolding gone_marks gone_values Rattle.meaning.specs.Clear.clear_marks Rattle.meaning.specs.Clear.clear_values Rattle.meaning.specs.Sets.keep
new_none d n p = record { marks = refl; values = refl }

new_at : (b : Bool) (d : List ℕ) (n : ℕ) (p : Spot) → GoesAt b d (new_block n p) nothing
new_at true d n p = (refl, (new_none d n p).values)
new_at false d n p = new_none d n p

pub sight_none : (h m v : List ℕ) (rows : ℕ) (s : Option Position) (deed : Deed) (d : List ℕ) → s ≡ None
    → SightGone h m v rows s deed d nothing
sight_none h m v rows s deed d f k c rs n p l H q (standing at F r R y e g z x) = absurd (none-some at (sym f ∙ y))
sight_none h m v rows s deed d f k c rs n p l H q (missing y x) = rw x (new_at (gives_plain deed) d n p)

module _ (h m v : List ℕ) (rows : ℕ) (s : Option Position) (deed : Deed) (d : List ℕ) (g : Lost) (at : Position) (y : s ≡ Some at) where
  pub sight_row : gives_plain deed ≡ true → RowGone h m v at d g → SightGone h m v rows s deed d (record { marks = 0; values = g.values })
  sight_row a W k c rs n p l H q (missing f x) = absurd (none-some at (sym f ∙ y))
  sight_row a W k c rs n p l H q (standing at' F r R y' e b z x) =
      rw (a, x) (refl, (W.is k c F r R (subst (Holds (four h k m v) c) e H) (same_Some at at' (sym y ∙ y') ∙ b)).values)

  pub sight_block : gives_plain deed ≡ false → BlockGone h m v rows at d g → SightGone h m v rows s deed d g
  sight_block a W k c rs n p l H q (missing f x) = absurd (none-some at (sym f ∙ y))
  sight_block a W k c rs n p l H q (standing at' F r R y' e b z x) =
      rw (a, x) (subst (λ n. Goes d (r ∷ passed (deeper n) R) g) z (W.is k c F r R q (subst (Holds (four h k m v) c) e H)
      (same_Some at at' (sym y ∙ y') ∙ b)))
