-- Tables that hold rows, of which one has fewer values.
-- Assumes nothing.
use Prim.Native.Nat.{ℕ, ◌+◌, ◌*◌, ◌-◌, ◌/◌, ◌≤◌}
use native.Mathlib.Omega.{arith}
use mathlib.Core.Path.{◌≡◌, refl, sym, ap, ◌∙◌}
use mathlib.Core.List.{List, ◌∷◌, ◌++◌}
use lib.ListN.{length, set, get_or, drop}
use Rattle.meaning.specs.Ids.{uncovered}
use Rattle.meaning.specs.Load.{values_in}
use Rattle.meaning.specs.Clear.{clear_values}
use Rattle.meaning.specs.Members.{id_of_value}
use Rattle.meaning.specs.Places.{Value}
use Rattle.meaning.specs.Sets.{keep}
use Rattle.meaning.specs.Sheet.{Row}
use Rattle.theorems.specs.Members.{asc_keep, keep_length}
use Rattle.rows.specs.Blocks.{drop_row}
use Rattle.words.specs.Words.{closed}
use Rattle.words.specs.Rows.{keep_rows, flat, Kept}
use Rattle.words.proofs.Flat.{flat_length}
use Rattle.words.proofs.Tables.{kept_closed}
use Rattle.tables.specs.Words.{head_word, value_words, values_of, pad}
use Rattle.tables.specs.Heads.{head_in, with_counts, marks_said, values-said}
use Rattle.tables.specs.Holding.{marks_room, values_room}
use Rattle.tables.specs.Parts.{at-behind}
use Rattle.tables.specs.Values.{strides_value}
use Rattle.tables.specs.declared.Counts.{Counts}
use Rattle.tables.specs.declared.Head.{Head}
use Rattle.tables.specs.declared.Position.{Position}
use Rattle.values.specs.Values.{Drops}
use Rattle.tables.specs.Changed.{marks_same, changed}
use Rattle.tables.specs.Rewritten.{counts_word}
use Rattle.tables.specs.Placed.{placed}
use Rattle.values.proofs.Values.{among-is, kept_is, values_kept}

pub drops : (s : Position) (d : List ℕ) (head : Head) (end w : ℕ) (c : Counts) (h v v₁ v₂ : List ℕ) → 6 * c.values ≤ length v → s.value ≤ c.values
    → head.values ≤ c.values - s.value → head ≡ head_in (get_or h s.row 0)
    → Kept (6 * s.value) (head.values * 6) (keep_rows 6 (uncovered d) head.values (drop (6 * s.value) v)) v end v₁
    → v₂ ≡ closed 0 (6 * c.values) (6 * s.value + head.values * 6) end v₁
    → w ≡ with_counts (get_or h s.row 0) head.marks ((end - 6 * s.value) / 6)
    → Drops s d c h v (record { rows = c.rows; marks = c.marks; values = c.values - (head.values - (end - 6 * s.value) / 6) })
    (set h s.row w) v₂
unfolding Drops clear_values
drops s d head end w c h v v₁ v₂ a b x y K o z k m A R r H t =
    let p = at-behind s A t in
    let P = placed _ c s A R r H t in
    let r' : Row = drop_row d r in
    let F : ℕ = 6 * s.value in
    let left : List Value = keep (λ v. uncovered d v.id) r.values in
    let n : ℕ = head.values in
    let i : n ≡ length r.values = values-said y ∙ P.values in
    let f : F ≡ 6 * values_in A = omega (arith, p.value) in
    let W : keep_rows 6 (uncovered d) n (drop F v) ≡ flat value_words left = rw i (kept_is A R r v H.values F f (uncovered d)) in
    let u : length (flat value_words left) ≡ length left * 6 = flat_length 6 value_words id_of_value strides_value left in
    let j : length left ≤ length r.values = keep_length (λ v. uncovered d v.id) r.values in
    let q : end ≡ F + length left * 6 = K.next ∙ ap (λ l. F + length l) W ∙ ap (F +◌) u in
    let g : (end - F) / 6 ≡ length left = omega arith in
    let G : w ≡ head_word r' = z ∙ (rw (marks_said y ∙ P.marks, g, P.head) (counts_word r (omega (arith, P.good.depth)) r.marks left)) in
    let S = kept_closed (6 * c.values) (F + n * 6) F (n * 6) end (keep_rows 6 (uncovered d) n (drop F v)) v v₁ v₂ K.high
    (omega arith) a K o in
    let M : v₂ ≡ pad values_room (values_of (A ++ r' ∷ R)) =
    rw (W, i) at S
    ∙ (values_kept A R r v H.values F f (6 * c.values) (omega (arith, H.values_are)) (λ v. uncovered d v.id)
    (omega (arith, H.values_fit))
    ∙ ap (pad values_room) (sym (among-is A r' R))) in
    rw (G, p.row)
    (changed A r r' R h k m v m v₂ c _ H refl
    (λ g. record { spot = g.spot; depth = g.depth; marks = g.marks; values = asc_keep id_of_value _ r.values g.values })
    (H.marks ∙ ap (pad marks_room) (marks_same A r r' R refl)) M refl refl (omega (arith, P.values_low)) H.marks_fit
    (omega (arith, H.values_fit)))
