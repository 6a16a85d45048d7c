-- A new element, in tables that hold rows.
-- Assumes nothing.
use Prim.Native.Nat.{ℕ, ◌-◌}
use native.Mathlib.Omega.{arith}
use mathlib.Core.Path.{◌≡◌, refl, sym, ap, ap₂, ◌∙◌, subst}
use Rattle.std.specs.Prelude.{Option, None, Some}
use mathlib.Core.List.{List, [], ◌∷◌, ◌++◌, append_assoc}
use Rattle.meaning.specs.Sheet.{in_list, Row}
use Rattle.rows.specs.Blocks.{join, rest, passed, deeper, new_row, give_block, insert_rows}
use Rattle.readers.specs.declared.Given.{Given}
use Rattle.tables.specs.Holding.{Holds, four}
use Rattle.tables.specs.Parts.{at-behind}
use Rattle.tables.specs.declared.Counts.{Counts}
use Rattle.tables.specs.declared.Side.TheVariants as Sides
use Rattle.tables.specs.declared.Position.{Position}
use Rattle.steps.specs.Steps.{Opens}
use Rattle.deeds.specs.Deeds.{given_in}
use Rattle.seats.specs.Seats.{Sits, SitsNot, SitsIf, Seats}
use Rattle.act.specs.Acting.{Gives, Inserts}
use Rattle.message.specs.declared.Act.{Act}
use Rattle.act.proofs.Gaps.{mark-further, leaves_still}
use Rattle.act.proofs.Counted.{opened_counts}

module _ (o : Act) (n hi len : ℕ) (from : Position) (c : Counts) (h k m v : List ℕ) (x : Option Position)
    (S : Seats n hi len o.id c.rows from h k x) where
  -- the predecessor isn't there
  pub insert_stays : x ≡ None → Inserts o n hi len from c (four h k m v) c c.marks (four h k m v)
  insert_stays t A B p a H b w va ed nd f some sp =
      let N : SitsNot n o.id p B = subst (λ x. SitsIf n o.id p x A B) t (S m v c A B p H refl b w) in
      leaves_still (n - 1) from _ c A B _ H b (omega (arith, sp.marks_spare)) (record {
        holds = subst (λ R. Holds (four h k m v) c (A ++ R)) (sym (N _)) H;
        rows_more = omega arith;
        marks_more = omega arith;
        values_more = omega arith;
      })

  pub insert_new : (at : Position) (e₁ e : Counts) (p' : ℕ) (h₁ h' k' m' v' : List ℕ) (g : Given) → x ≡ Some at
      → Opens at.row n Sides.List (o.id ∷ 0 ∷ 17 ∷ []) c h k e₁ h₁ k' → g ≡ given_in o.deed
      → Gives o.id o.deps.at g n at e₁ h₁ m v e p' h' m' v'
      → Inserts o n hi len from c (four h k m v) e p' (four h' k' m' v')
  unfolding Opens
  insert_new at e₁ e p' h₁ h' k' m' v' g t O eg G A B p a H b w va ed nd f some sp =
      let s : Sits n o.id p at A B = subst (λ x. SitsIf n o.id p x A B) t (S m v c A B p H refl b w) in
      let P = s.before in
      let Y = s.beyond in
      let r = new_row n (in_list o.id) in
      let q : A ++ B ≡ (A ++ P) ++ Y = ap (A ++◌) s.rows ∙ sym (append_assoc A P Y) in
      let H₁ = subst (Holds (four h k m v) c) q H in
      let N₁ = O m v (A ++ P) Y (in_list o.id) H₁ (at-behind at _ s.here).row (omega (arith, sp.rows_spare)) nd tt refl refl in
      let Z = opened_counts _ _ c e₁ (A ++ P) Y n (in_list o.id) H₁ N₁ in
      let L = G k' (A ++ P) Y r a N₁ s.here va (eg ∙ ap given_in ed) ((λ u. u), (λ u. u), tt) some (record {
        rows_spare = omega (arith, Z.rows, sp.rows_spare);
        marks_spare = omega (arith, Z.marks, sp.marks_spare);
        values_spare = omega (arith, Z.values, sp.values_spare);
      }) in
      let J = L.is in
      let new : List Row → List Row = λ us. join (give_block o.id o.deps.at a (record { own = r; under = us })) in
      let y : (A ++ P) ++ (new (passed (deeper n) Y) ++ rest (deeper n) Y) ≡ A ++ insert_rows n p o.id (new []) B =
      ap₂ (λ us X. (A ++ P) ++ (new us ++ X)) s.ends s.stays
      ∙ (append_assoc A P (new [] ++ Y) ∙ ap (A ++◌) (sym (s.inserts (new [])))) in
      record {
        table = L.table;
        gap = L.gap;
        before = omega (arith, L.before, mark-further from at A P b s.here);
        is = record {
          holds = subst (Holds (four h' k' L.table v') e) y J.holds;
          rows_more = omega (arith, J.rows_more, Z.rows);
          marks_more = omega (arith, J.marks_more, Z.marks);
          values_more = omega (arith, J.values_more, Z.values);
        };
      }
