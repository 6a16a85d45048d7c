-- Tables that hold rows, of which one has a value more.
-- Assumes nothing.
use Prim.Native.Nat.{ℕ, ◌+◌, ◌*◌, ◌-◌, ◌≤◌}
use native.Mathlib.Omega.{arith}
use mathlib.Core.Path.{◌≡◌, refl, sym, ap, ◌∙◌}
use mathlib.Core.List.{List, ◌∷◌, ◌++◌}
use lib.ListN.{length, set, get_or, drop}
use Rattle.meaning.specs.Load.{values_in}
use Rattle.meaning.specs.Members.{id_of_value}
use Rattle.meaning.specs.Places.{Value}
use Rattle.meaning.specs.Sets.{put}
use Rattle.meaning.specs.Sheet.{Row}
use Rattle.theorems.specs.Members.{asc_put}
use Rattle.rows.specs.Blocks.{add_row}
use Rattle.words.specs.Words.{over_at, opened, inserted}
use Rattle.words.specs.Rows.{rank_of, rank_rows, Ranked}
use Rattle.words.proofs.Over.{open_write}
use Rattle.tables.specs.Words.{head_word, value_words, values_of, pad}
use Rattle.tables.specs.Heads.{head_in, with_counts, marks_said, values-said}
use Rattle.tables.specs.Holding.{marks_room, values_room}
use Rattle.tables.specs.Parts.{at-behind, plain_six}
use Rattle.tables.specs.declared.Counts.{Counts}
use Rattle.tables.specs.declared.Head.{Head}
use Rattle.tables.specs.declared.Position.{Position}
use Rattle.values.specs.Values.{Adds}
use Rattle.words.proofs.Padded.{put_more}
use Rattle.tables.specs.Changed.{marks_same, changed}
use Rattle.tables.specs.Rewritten.{counts_word}
use Rattle.tables.specs.Placed.{placed}
use Rattle.values.proofs.Values.{among-is, rank_is, value_put}

pub adds : (s : Position) (id kind : ℕ) (words : List ℕ) (head : Head) (k w : ℕ) (c : Counts) (h v v₁ v₂ : List ℕ) → 6 * c.values + 6 ≤ length v
    → s.value ≤ c.values → head.values ≤ c.values - s.value → head ≡ head_in (get_or h s.row 0)
    → Ranked head.values (rank_rows 6 id head.values (drop (6 * s.value) v)) k → v₁ ≡ opened (6 * c.values) (6 * s.value + k * 6) 6 v
    → v₂ ≡ over_at (6 * s.value + k * 6) (id ∷ kind ∷ words) v₁
    → w ≡ with_counts (get_or h s.row 0) head.marks (head.values + 1)
    → Adds s id (kind ∷ words) c h v (record { rows = c.rows; marks = c.marks; values = c.values + 1 })
    (set h s.row w) v₂
unfolding Adds
adds s id kind words head k w c h v v₁ v₂ a b x y K o z e keys m A R r plain H t u l d =
    let p = at-behind s A t in
    let P = placed _ c s A R r H t in
    let r' : Row = add_row id plain r in
    let new : Value = record { id = id; val = plain } in
    let F : ℕ = 6 * s.value in
    let g = P.good.values in
    let i : head.values ≡ length r.values = values-said y ∙ P.values in
    let f : F ≡ 6 * values_in A = omega (arith, p.value) in
    let q : k ≡ rank_of id_of_value id r.values = K.is ∙ rw i (rank_is A R r v H.values F f id) in
    let j : length (put id_of_value new r.values) ≡ length r.values + 1 = put_more id_of_value new r.values g u in
    let four : length words ≡ 4 = omega (arith, plain_six plain, ap length d) in
    let L : 6 ≡ length (id ∷ kind ∷ words) = omega (arith, four) in
    let W : id ∷ kind ∷ words ≡ value_words new = ap (id ∷◌) (sym d) in
    let G : w ≡ head_word r' =
    e ∙ rw (marks_said y ∙ P.marks, i, ← j, P.head) (counts_word r (omega (arith, P.good.depth)) r.marks r'.values) in
    let M : v₂ ≡ pad values_room (values_of (A ++ r' ∷ R)) =
    z ∙ (ap (over_at (F + k * 6) (id ∷ kind ∷ words)) o
    ∙ (ap (λ n. over_at (F + k * 6) (id ∷ kind ∷ words) (opened (6 * c.values) (F + k * 6) n v)) L
    ∙ (open_write (6 * c.values) (F + k * 6) v (omega (arith, K.high)) (id ∷ kind ∷ words) (omega arith)
    ∙ (ap (λ j. inserted (6 * c.values) (F + k * 6) j v) W
    ∙ (value_put A R r v H.values F f (6 * c.values) (omega (arith, H.values_are)) new k (F + k * 6) g u q refl (omega arith)
    ∙ ap (pad values_room) (sym (among-is A r' R))))))) in
    rw (G, p.row)
    (changed A r r' R h keys m v m v₂ c _ H refl
    (λ g. record { spot = g.spot; depth = g.depth; marks = g.marks; values = asc_put id_of_value new r.values g.values })
    (H.marks ∙ ap (pad marks_room) (marks_same A r r' R refl)) M refl refl (omega arith) H.marks_fit (omega arith))
