-- Tables that hold rows, of which one has a mark more.
-- Assumes nothing.
use Prim.Native.Nat.{ℕ, ◌+◌, ◌-◌, ◌≤◌, ◌<◌}
use native.Mathlib.Omega.{arith}
use mathlib.Core.Path.{◌≡◌, refl, sym, ap, ◌∙◌}
use mathlib.Core.List.{List, [], ◌∷◌, ◌++◌}
use lib.ListN.{length, set, get_or, replicate}
use Rattle.meaning.specs.Members.{Has, Ascending, own}
use Rattle.meaning.specs.Sets.{put}
use Rattle.meaning.specs.Load.{marks_in}
use Rattle.meaning.specs.Sheet.{Row}
use Rattle.theorems.specs.Members.{asc_put}
use Rattle.rows.specs.Blocks.{mark_row}
use Rattle.words.specs.Words.{run, opened, inserted}
use Rattle.words.specs.Rows.{rank_of, Ranked}
use Rattle.words.proofs.Over.{run-parts}
use Rattle.words.proofs.Flat.{alone, flat_own, strides_own}
use Rattle.words.specs.Gap.{Gap}
use Rattle.words.proofs.Gap.{gap_open, gap_run, gap_put, zeros-behind}
use Rattle.tables.specs.Words.{head_word, marks_at, marks_of, pad}
use Rattle.tables.specs.declared.Tables.{Tables}
use Rattle.tables.specs.Heads.{with_mark}
use Rattle.tables.specs.Holding.{marks_room, values_room, Holds}
use Rattle.tables.specs.Parts.{at-behind, marks_length, marks_long, marks_of_append, marks_parts}
use Rattle.tables.specs.declared.Counts.{Counts}
use Rattle.tables.specs.declared.Position.{Position}
use Rattle.steps.specs.Steps.{Marks}
use Rattle.words.proofs.Padded.{put_more, put_pad}
use Rattle.tables.specs.Changed.{marks_between, values_same, changed}
use Rattle.tables.specs.Placed.{placed}

module _ (A R : List Row) (r : Row) (m : List ℕ) (e : m ≡ pad marks_room (marks_of (A ++ r ∷ R))) (from : ℕ) (f : from ≡ marks_in A) where
  -- the row's marks
  marks_here : run from (length r.marks) m ≡ r.marks
  marks_here =
      let z : List ℕ = replicate (marks_room - length (marks_of (A ++ r ∷ R))) 0 in
      rw (e, marks_parts A r R z) (run-parts (marks_of A) r.marks (marks_of R ++ z) from (length r.marks) (marks_length A ∙ sym f) refl)

  -- one more among them
  mark_put : (id k live : ℕ) → Ascending own r.marks → (Has own id r.marks → ⊥) → k ≡ rank_of own id r.marks
      → live ≡ marks_in (A ++ r ∷ R) → live < 1032 → inserted live (from + k) (id ∷ []) m ≡ pad marks_room (marks_of (A ++ mark_row id r ∷ R))
  unfolding marks_of
  mark_put id k live s o q l h =
      let d = marks_between A r R in
      let P =
      put_pad 1 alone own strides_own marks_room from k (from + k) live (marks_of A) (marks_of R) id r.marks s o
      (marks_length A ∙ sym f) q (omega arith) (omega (arith, marks_length R)) (omega arith) in
      let Q : inserted live (from + k) (id ∷ []) (pad marks_room (marks_of A ++ (r.marks ++ marks_of R)))
      ≡ pad marks_room (marks_of A ++ (put own id r.marks ++ marks_of R)) = rw
      (flat_own r.marks, flat_own (put own id r.marks)) at P in
      ap (inserted live (from + k) (id ∷ [])) (e ∙ ap (pad marks_room) (marks_of_append A (r ∷ R)))
      ∙ (Q ∙ ap (pad marks_room) (sym (marks_of_append A (mark_row id r ∷ R))))

-- behind the marks stand zeros
holds_zeros : (T : Tables) (c : Counts) (rs : List Row) → Holds T c rs → (j : ℕ) → c.marks ≤ j → j < length T.marks
    → get_or T.marks j 0 ≡ 0
holds_zeros T c rs H j a b =
    ap (λ (t : List ℕ). get_or t j 0) H.marks
    ∙ zeros-behind marks_room (marks_of rs) j (omega (arith, marks_length rs, H.marks_are)) (omega (arith, b, marks_long T c rs H))

-- so that a gap stands there, if they have room for it
pub holds_gap : (g : ℕ) (T : Tables) (c : Counts) (rs : List Row) → Holds T c rs → c.marks + g ≤ 1032
    → Gap g c.marks T.marks T.marks
holds_gap g T c rs H h = gap_open g c.marks T.marks (omega (arith, marks_long T c rs H)) (holds_zeros T c rs H)

pub marks : (s : Position) (id n k p g w : ℕ) (c : Counts) (h m m₁ : List ℕ) → s.mark ≤ p → n ≤ p - s.mark
    → n ≡ marks_at (get_or h s.row 0) → Ranked n (rank_of own id (run s.mark n m)) k → m₁ ≡ opened p (s.mark + k) g m
    → w ≡ with_mark (get_or h s.row 0)
    → Marks s id c p g h m (record { rows = c.rows; marks = c.marks + 1; values = c.values }) (s.mark + k)
    (set h s.row w) (set m₁ (s.mark + k + g - 1) id)
unfolding Marks
marks s id n k p g w c h m m₁ b d x K o W keys t v A R r G H e u l some low =
    let a = at-behind s A e in
    let P = placed _ c s A R r H e in
    let f = P.good.marks in
    let y : n ≡ length r.marks = x ∙ P.marks in
    let j : run s.mark n m ≡ r.marks =
    gap_run g p s.mark n m t G (omega arith) ∙ rw y (marks_here A R r t H.marks s.mark a.mark) in
    let q : k ≡ rank_of own id r.marks = K.is ∙ ap (rank_of own id) j in
    let i : length (put own id r.marks) ≡ length r.marks + 1 = put_more own id r.marks f u in
    let z : w ≡ head_word (mark_row id r) = omega (arith, P.head) in
    let M = mark_put A R r t H.marks s.mark a.mark id k c.marks f u q H.marks_are l in
    record {
      table = inserted c.marks (s.mark + k) (id ∷ []) t;
      gap = rw o (gap_put g p (s.mark + k) c.marks id m t G some (omega (arith, K.high)) (omega (arith, K.high, P.marks_low))
          (omega (arith, P.marks_long, l)) (holds_zeros _ c _ H));
      before = omega arith;
      is = rw (z, a.row)
          (changed A r (mark_row id r) R h keys t v _ v c _ H refl
          (λ G. record { spot = G.spot; depth = G.depth; marks = asc_put own id r.marks G.marks; values = G.values }) M
          (H.values ∙ ap (pad values_room) (values_same A r (mark_row id r) R refl)) refl (omega arith) refl (omega arith) H.values_fit);
    }
