-- A place that the way goes on from, in tables that hold rows.
-- Assumes nothing.
use Prim.Native.Nat.{ℕ, ◌-◌}
use native.Mathlib.Omega.{arith}
use mathlib.Core.Path.{◌≡◌, refl, sym, ap, ◌∙◌, subst}
use mathlib.Core.Bool.{Bool, true, false, cond}
use mathlib.Core.List.{List, ◌∷◌, ◌++◌}
use Rattle.meaning.specs.Ways.{Way, assign, delete, insert, into_map, into_list, deletes}
use Rattle.meaning.specs.Sheet.{Row}
use Rattle.rows.specs.Blocks.{mark_row, list_row, map_row}
use Rattle.rows.specs.Within.{of_list, enter_row}
use Rattle.message.specs.Means.{deed_of}
use Rattle.tables.specs.Holding.{four, flag_row}
use Rattle.tables.specs.Parts.{at-behind}
use Rattle.tables.specs.declared.Counts.{Counts}
use Rattle.tables.specs.declared.Side.{Side}
use Rattle.tables.specs.declared.Side.TheVariants as S
use Rattle.tables.specs.declared.Position.{Position}
use Rattle.steps.specs.Steps.{Flags, Marks}
use Rattle.deeds.specs.Deeds.{is_delete}
use Rattle.act.specs.Acting.{Does}
use Rattle.message.specs.declared.Act.{Act}
use Rattle.act.proofs.Gaps.{marks_none, marks_all}
use Rattle.act.proofs.Counted.{row_does, marked_more, flag_marks, flag_values}
use Rattle.descend.specs.Doing.{Enters}

-- a deed deletes where its way does
pub deed_deletes : (w : Way) → is_delete (deed_of w) ≡ deletes w
unfolding deed_of deletes
deed_deletes (assign a) = refl
deed_deletes delete = refl
deed_deletes (insert p a) = refl
deed_deletes (into_map k w) = deed_deletes w
deed_deletes (into_list e w) = deed_deletes w

flag_enter : (b : Bool) (r : Row) → flag_row (cond b S.List S.Map) r ≡ cond b (list_row r) (map_row r)
flag_enter true r = refl
flag_enter false r = refl

module _ (o : Act) (side : Side) (n : ℕ) (s : Position) (c : Counts) (p : ℕ) (h m : List ℕ) where
  -- a delete leaves no mark
  pub enter_deleting : (h' : List ℕ) → is_delete o.deed ≡ true → Flags side s.row h h' → Enters o side n s c p h m c p h' m
  unfolding Flags
  enter_deleting h' x F k t v A R r w G H b l e f sp some low =
      let y : deletes w ≡ true = sym (deed_deletes w) ∙ (ap is_delete (sym e) ∙ x) in
      let q : flag_row side r ≡ enter_row o.id w r = rw (l, y) (flag_enter (of_list w) r) in
      let N = F k t v c A R r H (at-behind s A b).row in
      record {
        table = t;
        gap = rw (marks_none o.deed (n - 1) x) (rw (marks_none o.deed n x) at G);
        before = omega (arith, low);
        is = subst (λ q. Does (four h' k t v) c c 0 1 0 (A ++ q ∷ R)) q
            (row_does _ _ c c A R r (flag_row side r) 1 0 H N (omega (arith, flag_marks side r)) (omega (arith, flag_values side r)));
      }

  pub enter_marking : (e : Counts) (p' : ℕ) (h₁ h' m' : List ℕ) → is_delete o.deed ≡ false → Marks s o.id c p n h m e p' h₁ m'
      → Flags side s.row h₁ h' → Enters o side n s c p h m e p' h' m'
  unfolding Flags Marks
  enter_marking e p' h₁ h' m' x M F k t v A R r w G H b l d f sp some low =
      let y : deletes w ≡ false = sym (deed_deletes w) ∙ (ap is_delete (sym d) ∙ x) in
      let q : flag_row side (mark_row o.id r) ≡ enter_row o.id w r = rw (l, y) (flag_enter (of_list w) (mark_row o.id r)) in
      let a = (at-behind s A b).row in
      let L = M k t v A R r (rw (marks_all o.deed n x) at G) H b f.0 (omega (arith, sp.marks_spare)) some low in
      let t₁ = L.table in
      let N = F k t₁ v e A R (mark_row o.id r) L.is a in
      record {
        table = t₁;
        gap = rw (marks_all o.deed (n - 1) x) L.gap;
        before = L.before;
        is = subst (λ q. Does (four h' k t₁ v) c e 0 1 0 (A ++ q ∷ R)) q
            (row_does _ _ c e A R r (flag_row side (mark_row o.id r)) 1 0 H N
            (omega (arith, marked_more o.id r, flag_marks side (mark_row o.id r)))
            (omega (arith, flag_values side (mark_row o.id r))));
      }
