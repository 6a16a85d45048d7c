-- One more at the end of a map or of a list: its rows, and that it stays sound.
-- Assumes nothing.
use Rattle.std.specs.Prelude.{ℕ, suc, ◌≤◌, ◌≡◌, refl, List, [], ◌∷◌, ◌++◌}
use Rattle.std.proofs.Common.{sym, ap, ◌∙◌, subst, append_assoc, append-nil}
use mathlib.Core.List.{reverse_aux}
use Rattle.meaning.specs.Places.{before, order, Place, place, Children, childless, child, Elements, empty, element}
use Rattle.meaning.specs.Valid.{ValidKey}
use Rattle.meaning.specs.Sheet.{in_map, in_list, Row, row_of, rows, rows_children, rows_elements}
use Rattle.meaning.specs.Load.{elder, Ordered, Follows}
use Rattle.meaning.specs.Sound.{Below, SoundPlace, SoundChildren, SoundElements}
use Rattle.theorems.specs.Keys.{order_trans}
use Rattle.theorems.specs.Rows.{row_spot}
use Rattle.theorems.specs.Fit.{on_top}
use Rattle.theorems.specs.Fit.{block_elder, top_then}

-- the place that a row says, with nothing under it
abbrev pub leaf : Row → Place
leaf r = place r.map r.list r.marks r.values childless empty

pub leaf-bare : (r : Row) (n : ℕ) → rows n (leaf r) ≡ []
unfolding rows
leaf-bare r n = refl

-- One more at the end of a map, of a list.

unfoldable pub last_child : Children → List ℕ → Place → Children
last_child childless k c = child k c childless
last_child (child j x ks) k c = child j x (last_child ks k c)

unfoldable pub last_element : Elements → ℕ → Place → Elements
last_element empty i c = element i c empty
last_element (element j x es) i c = element j x (last_element es i c)

pub last_child_rows : (n : ℕ) (ks : Children) (k : List ℕ) (c : Place) → rows (suc n) c ≡ []
    → rows_children n (last_child ks k c) ≡ rows_children n ks ++ (row_of n (in_map k) c ∷ [])
unfolding last_child rows
last_child_rows n childless k c e = simp (e, append-nil)
last_child_rows n (child j x ks) k c e =
    ap (λ rs. row_of n (in_map j) x ∷ (rows (suc n) x ++ rs)) (last_child_rows n ks k c e)
    ∙ ap (row_of n (in_map j) x ∷◌) (sym (append_assoc (rows (suc n) x) _ _))

pub last_element_rows : (n : ℕ) (es : Elements) (i : ℕ) (c : Place) → rows (suc n) c ≡ []
    → rows_elements n (last_element es i c) ≡ rows_elements n es ++ (row_of n (in_list i) c ∷ [])
unfolding last_element rows
last_element_rows n empty i c e = simp (e, append-nil)
last_element_rows n (element j x es) i c e =
    ap (λ rs. row_of n (in_list j) x ∷ (rows (suc n) x ++ rs)) (last_element_rows n es i c e)
    ∙ ap (row_of n (in_list j) x ∷◌) (sym (append_assoc (rows (suc n) x) _ _))

-- every key comes before k
abbrev pub Before : Children → List ℕ → Type 0
Before childless k = Unit {0}
Before (child j c ks) k = (order j k ≡ before) × Before ks k

-- the last one comes before k, and so do all
pub all_before : (n : ℕ) (Q : ℕ → Type 0) (k : List ℕ) (ks : Children) (rs : List Row) → SoundChildren Q n ks
    → Follows (elder n (reverse_aux (rows_children n ks) rs)) (in_map k) → Before ks k
unfolding rows
all_before n Q k childless rs o f = tt
all_before n Q k (child j c childless) rs o f =
    let z : reverse_aux (rows (suc n) c ++ []) (row_of n (in_map j) c ∷ rs) ≡ on_top n (in_map j) c rs = top_then n (in_map j) c [] rs in (
      subst (λ p. Ordered p (in_map k)) (row_spot n (in_map j) c)
          (subst (λ e. Follows e (in_map k)) (block_elder n (in_map j) c rs) (subst (λ us. Follows (elder n us) (in_map k)) z f)),
      tt,
    )
all_before n Q k (child j c (child i x ks)) rs o f =
    let h = all_before n Q k (child i x ks) (on_top n (in_map j) c rs) o.3
    (subst (λ us. Follows (elder n us) (in_map k)) (top_then n (in_map j) c (rows_children n (child i x ks)) rs) f) in
    (order_trans j i k o.1.0 h.0, h)

below_last : (j : List ℕ) (ks : Children) (k : List ℕ) (c : Place) → Below j ks → order j k ≡ before → Below j (last_child ks k c)
unfolding last_child
below_last j childless k c b e = (e, tt)
below_last j (child i x ks) k c b e = (b.0, below_last j ks k c b.1 e)

pub last_child_sound : (n : ℕ) (Q : ℕ → Type 0) (ks : Children) (k : List ℕ) (c : Place) → Before ks k → ValidKey k → n ≤ 8
    → SoundPlace Q (suc n) c → SoundChildren Q n ks → SoundChildren Q n (last_child ks k c)
unfolding last_child
last_child_sound n Q childless k c b v d s o = ((v, d), tt, s, tt)
last_child_sound n Q (child j x ks) k c b v d s o =
    (o.0, below_last j ks k c o.1 b.0, o.2, last_child_sound n Q ks k c b.1 v d s o.3)

pub last_element_sound : (n : ℕ) (Q : ℕ → Type 0) (es : Elements) (i : ℕ) (c : Place) → n ≤ 8 → SoundPlace Q (suc n) c
    → SoundElements Q n es → SoundElements Q n (last_element es i c)
unfolding last_element
last_element_sound n Q empty i c d s o = (d, s, tt)
last_element_sound n Q (element j x es) i c d s o = (o.0, o.1, last_element_sound n Q es i c d s o.2)

-- behind an element no key may follow
pub no_key : (n : ℕ) (k : List ℕ) (i : ℕ) (c : Place) (es : Elements) (rs : List Row)
    → Follows (elder n (reverse_aux (rows_elements n (element i c es)) rs)) (in_map k) → ⊥
unfolding rows
no_key n k i c empty rs f =
    let z : reverse_aux (rows (suc n) c ++ []) (row_of n (in_list i) c ∷ rs) ≡ on_top n (in_list i) c rs = top_then n (in_list i) c [] rs in
    subst (λ p. Ordered p (in_map k)) (row_spot n (in_list i) c)
    (subst (λ e. Follows e (in_map k)) (block_elder n (in_list i) c rs) (subst (λ us. Follows (elder n us) (in_map k)) z f))
no_key n k i c (element j x es) rs f =
    no_key n k j x es (on_top n (in_list i) c rs)
    (subst (λ us. Follows (elder n us) (in_map k)) (top_then n (in_list i) c (rows_elements n (element j x es)) rs) f)
