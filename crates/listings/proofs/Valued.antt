-- The values of a place: the text of the table's words is the one that document 01 reads.
-- Assumes nothing.
use Prim.Native.Nat.{ℕ, ◌+◌, ◌≤◌}
use native.Mathlib.Omega.{arith}
use mathlib.Core.Path.{◌≡◌, refl, sym, ap, ap₂, ◌∙◌}
use mathlib.Core.List.{List, [], ◌∷◌, ◌++◌}
use lib.ListN.{length}
use Rattle.meaning.specs.Places as places
use Rattle.meaning.specs.Places.{Place, place, values_of}
use Rattle.meaning.specs.Members.{All}
use Rattle.meaning.specs.Load.{values_in}
use Rattle.meaning.specs.Read.{values_text}
use Rattle.meaning.specs.Sheet.{Spot, Row, row_of}
use Rattle.theorems.specs.Accepting.{values-append}
use Rattle.writers.proofs.Runs.{texts_of}
use Rattle.lines.specs.Rows.{value_of, value_row}
use Rattle.lines.proofs.Texts.{values_more}
use Rattle.lines.proofs.Words.{plain_back}
use Rattle.tables.specs.Heads.{head_in, values-said}
use Rattle.tables.specs.Finds.{values_in_lem}
use Rattle.tables.specs.Holding.{four}
use Rattle.tables.specs.Parts.{at-behind, narrow_at}
use Rattle.tables.specs.Saying.{ValidValue}
use Rattle.tables.specs.Stands.{head_at_lem}
use Rattle.tables.specs.Values.{ValuesStand, value_first, value_next, values_stand}
use Rattle.tables.specs.declared.Head.{Head}
use Rattle.tables.specs.declared.Position.{Position}
use Rattle.listings.specs.Texts.{head_of, value_text, values_from}
use Rattle.listings.specs.Lists.{Owns}

-- values that stand in the table
module _ (table : List ℕ) where
  abbrev pub Valued : ℕ → List places.Value → Type 0
  Valued i vs = ValuesStand table i vs × All ValidValue vs

  pub value_is : (lead : List ℕ) {i : ℕ} {v : places.Value} {vs : List places.Value} → Valued i (v ∷ vs)
      → value_text lead table i ≡ lead ++ value_row v
  value_is lead {v = v} h =
      ap (λ t. lead ++ value_row (value_of t.id t.kind t.words)) (value_first h.0)
      ∙ ap (λ x. lead ++ value_row (record { id = v.id; val = x })) (plain_back v.val h.1.0)

  pub valued-next : {i : ℕ} {v : places.Value} {vs : List places.Value} → Valued i (v ∷ vs) → Valued (i + 1) vs
  valued-next h = (value_next h.0, h.1.1)

  values_read : (i : ℕ) (vs : List places.Value) → Valued i vs → values_from [] table i (length vs) ≡ values_text vs
  unfolding values_text
  values_read =
      texts_of (value_text [] table) (λ i. i + 1) value_row values_text Valued refl values_more (λ i v vs h. (value_is [] h, valued-next h))

row_values : (n : ℕ) (s : Spot) (p : Place) → (row_of n s p).values ≡ values_of p
row_values n s (place m l ms vs ks es) = refl

module _ (h v : List ℕ) (at : Position) (p : Place) (o : Owns h v at p) where
  abbrev r : Row
  r = row_of o.depth o.spot p

  -- no more values stand before it than have room
  pub values_low : at.value ≤ 257
  unfolding values_in
  values_low =
      omega (
        arith,
        (at-behind at o.ahead o.here).value,
        o.holds.values_are,
        o.holds.values_fit,
        values-append o.ahead (r ∷ o.later),
      )

  -- as many as its head says
  pub values_are : {g : Head} → g ≡ head_of h at.row → values_text (values_of p) ≡ values_from [] v at.value g.values
  values_are {g} e =
      let A = o.ahead in
      let a = at-behind at A o.here in
      let n = narrow_at (four h o.keys o.marks v) o.counts A r o.later o.holds in
      let w = ap (λ i. (head_of h i).values) a.row
      ∙ (ap (λ w. (head_in w).values) (head_at_lem h o.keys o.marks v o.counts A o.later r o.holds) ∙ values_in_lem r n) in
      ap values_text (sym (row_values o.depth o.spot p))
      ∙ (sym (values_read v (values_in A) r.values
      (values_stand h o.keys o.marks v o.counts A o.later r o.holds, o.valid))
      ∙ ap₂ (values_from [] v) (sym a.value) (sym (values-said e ∙ w)))
