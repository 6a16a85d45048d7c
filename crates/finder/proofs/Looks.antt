-- Looking for a place under a key, in tables that hold rows.
-- Assumes nothing.
use Prim.Native.Nat.{ℕ}
use mathlib.Core.Path.{◌≡◌, refl, sym, ap, ◌∙◌, subst}
use mathlib.Core.Bool.{Bool, true, false, cond}
use mathlib.Core.List.{List, [], ◌∷◌, ◌++◌}
use Rattle.std.specs.Prelude.{Option, None, Some}
use Rattle.std.specs.Bool.{then_some}
use borrow.Author.Tests.{eqb-true}
use lib.Dec.{eqb}
use Rattle.meaning.specs.Sheet.{Spot, Row}
use Rattle.theorems.specs.Decide.{and_left}
use Rattle.rows.specs.Blocks.{passed, rest, deeper, over, at}
use Rattle.rows.specs.Locate.{nowhere, here, locate_here, locate}
use Rattle.rows.specs.Balanced.{passed-rest-behind}
use Rattle.readers.specs.declared.Key.{Key}
use Rattle.tables.specs.Finds.{Agrees, Tells}
use Rattle.tables.specs.Wants.{search_of}
use Rattle.tables.specs.Standing.{behind}
use Rattle.tables.specs.Holding.{Holds, four, begins}
use Rattle.tables.specs.Parts.{at-behind}
use Rattle.tables.specs.Stands.{FindsIn, Knows}
use Rattle.tables.specs.declared.Position.{Position}
use Rattle.tables.specs.declared.Search.{Search}
use Rattle.finder.specs.Looks.{Sees, missing, standing, hanging, Looks}

-- nothing hangs there
pub looks_none : (h k : List ℕ) (rows : ℕ) (from : Option Position) (n : ℕ) (y : Key) (s : Option Position) → from ≡ None → s ≡ None
    → Looks h k rows from n y s
unfolding locate rest locate_here
looks_none h k rows from n y s e none m v c A B pass meant H q f a t = missing none (ap (λ i. locate n pass meant (hanging i B)) e)

-- the first row that isn't passed over, if it is the one that is meant
sees_first : (rs : List Row) (n : ℕ) (meant : Spot → Bool) (s : Position) (F B : List Row) → rs ≡ F ++ B → s ≡ behind F
    → Sees rs n (then_some (begins n meant B) s) (locate_here n meant B)
unfolding locate_here
sees_first rs n meant s F [] e f = missing refl refl
sees_first rs n meant s F (r ∷ R) e f = go (at n meant r) refl
  where
    go : (b : Bool) → at n meant r ≡ b
        → Sees rs n (then_some b s) (cond b (here (record { own = r; under = passed (deeper n) R })) nowhere)
    go true y = standing s F r R refl e f (eqb-true r.depth n (and_left (eqb r.depth n) (meant r.spot) y)) refl
    go false y = missing refl refl

looks_from : (h k : List ℕ) (rows : ℕ) (from : Position) (n : ℕ) (y : Key) (w : Search) (s : Position) (b : Bool)
    → w ≡ search_of n y → FindsIn h k rows from w s → Knows h k rows s.row w b → Looks h k rows (Some from) n y (then_some b s)
unfolding locate search_of
looks_from h k rows from n y w s b e find know m v c A B pass meant H q f a t =
    let o = over n pass in
    let F = A ++ passed o B in
    let a' : Agrees w pass = subst (λ w. Agrees w pass) (sym e) a in
    let t' : Tells w meant = subst (λ w. Tells w meant) (sym e) t in
    let d : w.depth ≡ n = ap (λ w. w.depth) e in
    let g : s ≡ behind F = find m v c A B pass H q f a' ∙ ap (λ n. behind (A ++ passed (over n pass) B)) d in
    let z = passed-rest-behind A o B in
    let K = subst (Holds (four h k m v) c) z H in
    let y : b ≡ begins n meant (rest o B) =
    know m v c F (rest o B) meant K q (at-behind s F g).row t' ∙ ap (λ n. begins n meant (rest o B)) d in
    subst (λ b. Sees (A ++ B) n (then_some b s) (locate_here n meant (rest o B))) (sym y)
    (sees_first (A ++ B) n meant s F (rest o B) z g)

pub looks_found : (h k : List ℕ) (rows : ℕ) (at : Option Position) (from : Position) (n : ℕ) (y : Key) (w : Search) (s : Position) (b : Bool)
    (r : Option Position) → at ≡ Some from → w ≡ search_of n y → FindsIn h k rows from w s → Knows h k rows s.row w b → r ≡ then_some b s
    → Looks h k rows at n y r
looks_found h k rows at from n y w s b r i e find know j =
    rw (i, j) (looks_from h k rows from n y w s b e find know)
