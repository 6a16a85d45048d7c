-- A row's values that are covered go, and one comes: written over the only one, or put among those that are left.
-- Assumes nothing.
use Prim.Native.Nat.{ℕ, ◌+◌, ◌*◌, ◌≤◌}
use native.Mathlib.Omega.{arith}
use mathlib.Core.Path.{◌≡◌, refl, sym, ap, subst, ◌∙◌}
use mathlib.Core.Bool.{true, false, not}
use mathlib.Core.List.{List, [], ◌∷◌, ◌++◌}
use lib.ListN.{length, set, get_or}
use lib.Seq.{set-get_or}
use Rattle.meaning.specs.Clear.{clear_values}
use Rattle.meaning.specs.Ids.{covered, uncovered}
use Rattle.meaning.specs.Members.{id_of_value}
use Rattle.meaning.specs.Places.{Value}
use Rattle.meaning.specs.Sets.{keep, put}
use Rattle.meaning.specs.Sheet.{Row}
use Rattle.theorems.specs.Members.{asc_keep, asc_put, keep_length}
use Rattle.rows.specs.Blocks.{drop_row, add_row}
use Rattle.words.specs.Words.{over_at}
use Rattle.tables.specs.Words.{head_word, value_words, values_at, values_of, pad}
use Rattle.tables.specs.Holding.{marks_room, values_room, Holds, four}
use Rattle.tables.specs.Parts.{at-behind}
use Rattle.tables.specs.declared.Counts.{Counts}
use Rattle.tables.specs.declared.Position.{Position}
use Rattle.values.specs.Values.{Drops, Adds, One, Sets}
use Rattle.tables.specs.Changed.{marks_same, values-between, changed}
use Rattle.tables.specs.Placed.{placed}
use Rattle.values.proofs.Values.{value_first, value_over}

only : (vs : List Value) → length vs ≡ 1 → (y : Value) × (vs ≡ y ∷ [])
only [] e = absurd (omega arith)
only (y ∷ []) e = (y, refl)
only (y ∷ z ∷ vs) e = absurd (omega arith)

pub has_one : (s : Position) (d h v : List ℕ) → 1 ≡ values_at (get_or h s.row 0) → s.value ≤ 256 → 6 * s.value + 6 ≤ length v
    → covered d (get_or v (6 * s.value) 0) ≡ true → One s d h v
has_one s d h v n f l u = record {
  low = f;
  long = l;
  one = λ k m c A R r H t.
      let P = placed _ c s A R r H t in
      let O = only r.values (sym P.values ∙ sym n) in
      let e = value_first A R r v H.values (6 * s.value) (omega (arith, (at-behind s A t).value)) O.0 [] O.1 in
      (O.0, O.1, ap not (sym (ap (covered d) e) ∙ u));
}

-- where the only one goes, the new one is alone
put_alone : (d : List ℕ) (new y : Value) (vs : List Value) → vs ≡ y ∷ [] → uncovered d y.id ≡ false
    → put id_of_value new (clear_values d vs) ≡ new ∷ []
unfolding clear_values keep put
put_alone d new y vs e g = rw (e, g)

pub sets_one : (s : Position) (d : List ℕ) (id kind : ℕ) (words : List ℕ) (c : Counts) (h v v' : List ℕ) → One s d h v
    → v' ≡ over_at (6 * s.value) (id ∷ kind ∷ words) v → Sets s d id (kind ∷ words) c h v c h v'
unfolding Sets clear_values
sets_one s d id kind words c h v v' O o k m A R r x H t u l w =
    let p = at-behind s A t in
    let P = placed _ c s A R r H t in
    let Y = O.one k m c A R r H t in
    let new : Value = record { id = id; val = x } in
    let r' : Row = add_row id x (drop_row d r) in
    let q : r'.values ≡ new ∷ [] = put_alone d new Y.0 r.values Y.1 Y.2 in
    let W : id ∷ kind ∷ words ≡ value_words new = ap (id ∷◌) (sym w) in
    let G : get_or h s.row 0 ≡ head_word r' = omega (arith, P.head, ap length Y.1, ap length q) in
    let M : v' ≡ pad values_room (values_of (A ++ r' ∷ R)) =
    o ∙ (ap (λ j. over_at (6 * s.value) j v) W
    ∙ value_over A R r v H.values (6 * s.value) (omega (arith, p.value)) Y.0 new r' Y.1 q) in
    let S : set h (length A) (head_word r') ≡ h = rw (← G, ← p.row) (set-get_or h s.row 0) in
    subst (λ z. Holds (four z k m v') c (A ++ r' ∷ R)) S
    (changed A r r' R h k m v m v' c c H refl
    (λ g. record {
      spot = g.spot;
      depth = g.depth;
      marks = g.marks;
      values = asc_put id_of_value new _
          (asc_keep id_of_value _ r.values g.values);
    })
    (H.marks ∙ ap (pad marks_room) (marks_same A r r' R refl)) M refl refl (omega (arith, ap length Y.1, ap length q)) H.marks_fit
    H.values_fit)

pub sets_many : (s : Position) (d : List ℕ) (id : ℕ) (w : List ℕ) (c b e : Counts) (h h₁ h' v v₁ v' : List ℕ) → Drops s d c h v b h₁ v₁
    → Adds s id w b h₁ v₁ e h' v' → Sets s d id w c h v e h' v'
unfolding Drops Adds Sets clear_values
sets_many s d id w c b e h h₁ h' v v₁ v' D X k m A R r x H t u l p =
    let N = D k m A R r H t in
    let j = keep_length (λ v. uncovered d v.id) r.values in
    X k m A R (drop_row d r) x N t u
    (omega (arith, H.values_are, N.values_are, values-between A r R, values-between A (drop_row d r) R)) p
