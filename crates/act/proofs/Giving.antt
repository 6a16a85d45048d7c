-- What is done at the way's end, in tables that hold rows.
-- Assumes nothing.
use Prim.Native.Nat.{ℕ, ◌+◌, ◌-◌, ◌≤◌, ◌<◌}
use native.Mathlib.Omega.{arith}
use mathlib.Core.Path.{◌≡◌, refl, sym, ap, ◌∙◌, subst}
use mathlib.Core.Bool.{true, false, true≢false}
use mathlib.Core.List.{List, [], ◌∷◌, ◌++◌, map}
use lib.IntN.{pos, negsuc}
use lib.ListN.{length}
use borrow.Author.Tests.{le-ltb}
use Rattle.meaning.specs.Places.{Plain, null, bool, integer, string}
use Rattle.meaning.specs.Members.{id_of_value}
use Rattle.meaning.specs.Ways.{plain, empty_map, empty_list, Way, assign, delete, insert, head, after, into_map, into_list}
use Rattle.meaning.specs.Valid.{ValidPlain}
use Rattle.meaning.specs.Sheet.{Row}
use Rattle.theorems.specs.Members.{put_length}
use Rattle.rows.specs.Blocks.{passed, rest, mark_row, drop_row, add_row, clear_row, deeper, give_block, run_block}
use Rattle.rows.specs.Counting.{Fresh}
use Rattle.rows.specs.Within.{GoesOn}
use Rattle.rows.specs.Balanced.{clear_marks_length, fresh_clear, clear_values-length, fresh_clear_values, clears_rows, passed-rest}
use Rattle.readers.specs.Words.{plain_words}
use Rattle.readers.specs.Given.{given_of}
use Rattle.readers.specs.declared.Given.{Given}
use Rattle.message.specs.Means.{prev_words, way_words, deed_of}
use Rattle.tables.specs.Standing.{behind}
use Rattle.tables.specs.Holding.{Holds, four, flag_row}
use Rattle.tables.specs.Parts.{at-behind}
use Rattle.tables.specs.declared.Counts.{Counts}
use Rattle.tables.specs.declared.Side.{Side}
use Rattle.tables.specs.declared.Side.TheVariants as S
use Rattle.std.specs.Prelude.{None, Some}
use Rattle.std.proofs.lemmas.Option.{none-some, same_Some}
use Rattle.tables.specs.declared.Position.{Position}
use Rattle.steps.specs.Steps.{Flags, Marks}
use Rattle.values.specs.Values.{Sets}
use Rattle.clear.specs.Clear.{Clears}
use Rattle.deeds.specs.Deeds.{is_delete, given_in, branch_of, string_kind, kind_of, parts_of}
use Rattle.act.specs.Acting.{Spare, Does, Gives, Finishes}
use Rattle.message.specs.declared.Act.{Act}
use Rattle.words.specs.Gap.{Leaves}
use Rattle.tables.specs.Placed.{placed}
use Rattle.steps.proofs.Marked.{holds_gap}
use Rattle.act.proofs.Gaps.{marks_none, marks_all, leaves_still}
use Rattle.act.proofs.Counted.{block_does, row_does, marked_more, flag_marks, flag_values}

-- What was read of a value, as the tables hold it.

branch_plain : (x : Plain) → branch_of (given_of (plain x)) ≡ None
unfolding given_of
branch_plain null = refl
branch_plain (bool true) = refl
branch_plain (bool false) = refl
branch_plain (integer (pos n)) = refl
branch_plain (integer (negsuc n)) = refl
branch_plain (string b) = refl

branch_map : branch_of (given_of empty_map) ≡ Some S.Map
unfolding given_of
branch_map = refl

branch_list : branch_of (given_of empty_list) ≡ Some S.List
unfolding given_of
branch_list = refl

held_plain : (x : Plain) → ValidPlain x → plain_words x ≡ kind_of (given_of (plain x)) ∷ parts_of (given_of (plain x))
unfolding given_of string_kind
held_plain null h = refl
held_plain (bool true) h = refl
held_plain (bool false) h = refl
held_plain (integer (pos n)) h = refl
held_plain (integer (negsuc n)) h = refl
held_plain (string b) h = rw (le-ltb 32 (length b) h.short)

module _ (i : ℕ) (d : List ℕ) (g : Given) (n : ℕ) (s : Position) (c : Counts) (h m v : List ℕ) where
  -- a plain value
  pub give_plain : (a e : Counts) (p' : ℕ) (h₁ h' m' v' : List ℕ) (kind : ℕ) (parts : List ℕ) → branch_of g ≡ None → kind ≡ kind_of g
      → parts ≡ parts_of g → Marks s i c c.marks n h m a p' h₁ m' → Sets s d i (kind ∷ parts) a h₁ v e h' v'
      → Gives i d g n s c h m v e p' h' m' v'
  unfolding Marks Sets give_block
  give_plain a e p' h₁ h' m' v' kind parts q ek ep M X k A R r empty_map H t va eg f some p =
      absurd (none-some _ (sym q ∙ (ap branch_of eg ∙ branch_map)))
  give_plain a e p' h₁ h' m' v' kind parts q ek ep M X k A R r empty_list H t va eg f some p =
      absurd (none-some _ (sym q ∙ (ap branch_of eg ∙ branch_list)))
  give_plain a e p' h₁ h' m' v' kind parts q ek ep M X k A R r (plain x) H t va eg f some p =
      let r₁ = mark_row i r in
      let r₂ = add_row i x (drop_row d r₁) in
      let L = M k m v A R r (holds_gap n _ c _ H p.marks_spare) H t f.0 (omega (arith, some, p.marks_spare)) some
      (placed _ c s A R r H t).marks_low in
      let m₁ = L.table in
      let L₁ = row_does _ _ c a A R r r₁ 1 0 H L.is (marked_more i r) (omega arith) in
      let w : plain_words x ≡ kind ∷ parts = held_plain x va ∙ rw (ek, ep, eg) in
      let N = X k m₁ A R r₁ x L.is t (fresh_clear_values d r i f.1) (omega (arith, L₁.values_more, p.values_spare)) w in
      let l : length r₂.values ≤ length r.values + 1 =
      omega (arith, put_length id_of_value (record { id = i; val = x }) (drop_row d r₁).values, clear_values-length d r) in
      let J = row_does _ _ c e A R r r₂ 1 1 H N (marked_more i r) l in
      record {
        table = m₁;
        gap = L.gap;
        before = L.before;
        is = subst (λ R. Does (four h' k m₁ v') c e 0 1 1 (A ++ r₂ ∷ R)) (sym (passed-rest (deeper r.depth) R)) J;
      }

  -- an empty map or list
  module _ (a e : Counts) (p' : ℕ) (h₁ h₂ h' m₁ m' v' : List ℕ) (side : Side) (C : Clears d h m v c s h₁ m₁ v' a)
      (M : Marks s i a a.marks n h₁ m₁ e p' h₂ m') (F : Flags side s.row h₂ h') where
    branch_done : (k : List ℕ) (A R : List Row) (r : Row) → Holds (four h k m v) c (A ++ r ∷ R) → s ≡ behind A → Fresh i (r ∷ [])
        → 0 < n → Spare c 0 n 1
        → Leaves (n - 1) s.mark p' m' (λ t. Does (four h' k t v') c e 0 1 1
        (A ++ flag_row side (mark_row i (clear_row d r)) ∷ (map (clear_row d) (passed (deeper r.depth) R) ++ rest (deeper r.depth) R)))
    unfolding Marks Flags
    branch_done k A R r H t f some p =
        let us = passed (deeper r.depth) R in
        let X = map (clear_row d) us ++ rest (deeper r.depth) R in
        let q = mark_row i (clear_row d r) in
        let N₁ = C.holds k A R r H t in
        let L = M k m₁ v' A X (clear_row d r) (holds_gap n _ a _ N₁ (omega (arith, C.marks_fewer, p.marks_spare))) N₁ t
        (fresh_clear d r.marks i f.0) (omega (arith, some, C.marks_fewer, p.marks_spare)) some
        (placed _ a s A X (clear_row d r) N₁ t).marks_low in
        let N₃ = F k L.table v' e A X q L.is (at-behind s A t).row in
        let H' = subst (λ X. Holds (four h k m v) c (A ++ r ∷ X)) (sym (passed-rest (deeper r.depth) R)) H in
        let B = clears_rows d us in
        record {
          table = L.table;
          gap = L.gap;
          before = L.before;
          is = block_does _ _ c e A (rest (deeper r.depth) R) us (map (clear_row d) us) r (flag_row side q) 1 1 H' N₃
              (omega (arith, B.places)) (omega (arith, B.marks)) (omega (arith, B.values))
              (omega (arith, flag_marks side q, marked_more i (clear_row d r), clear_marks_length d r.marks))
              (omega (arith, flag_values side q, clear_values-length d r));
        }

    pub give_branch : branch_of g ≡ Some side → Gives i d g n s c h m v e p' h' m' v'
    unfolding give_block
    give_branch q k A R r (plain x) H t va eg f some p = absurd (none-some _ (sym (branch_plain x) ∙ (ap branch_of (sym eg) ∙ q)))
    give_branch q k A R r empty_map H t va eg f some p =
        let w : side ≡ S.Map = same_Some _ _ (sym q ∙ (ap branch_of eg ∙ branch_map)) in
        rw w at (branch_done k A R r H t f some p)
    give_branch q k A R r empty_list H t va eg f some p =
        let w : side ≡ S.List = same_Some _ _ (sym q ∙ (ap branch_of eg ∙ branch_list)) in
        rw w at (branch_done k A R r H t f some p)

-- The way's end.

-- a way that goes on has words
pub no_words : (w : Way) → GoesOn w → way_words w ≡ [] → ⊥
unfolding way_words prev_words
no_words (assign a) g e = g
no_words delete g e = g
no_words (insert head a) g e = omega (arith, ap length e)
no_words (insert (after i) a) g e = omega (arith, ap length e)
no_words (into_map k w) g e = omega (arith, ap length e)
no_words (into_list i w) g e = omega (arith, ap length e)

module _ (o : Act) (n : ℕ) (s : Position) (c e : Counts) (h m v h' m' v' : List ℕ) where
  pub finish_clear : is_delete o.deed ≡ true → Clears o.deps.at h m v c s h' m' v' e → Finishes o n s c h m v e e.marks h' m' v'
  unfolding run_block deed_of
  finish_clear t C k A R r (assign a) H b z va d f some p = absurd (true≢false (sym t ∙ ap is_delete d))
  finish_clear t C k A R r delete H b z va d f some p =
      let N = C.holds k A R r H b in
      rw (marks_none o.deed (n - 1) t)
      (leaves_still 0 s _ e A _ _ N b (omega (arith, N.marks_fit)) (record {
        holds = N;
        rows_more = omega (arith, C.rows_same);
        marks_more = omega (arith, C.marks_fewer);
        values_more = omega (arith, C.values_fewer);
      }))
  finish_clear t C k A R r (insert q a) H b z va d f some p = absurd (true≢false (sym t ∙ ap is_delete d))
  finish_clear t C k A R r (into_map j w) H b z va d f some p = absurd (no_words (into_map j w) tt z)
  finish_clear t C k A R r (into_list j w) H b z va d f some p = absurd (no_words (into_list j w) tt z)

  pub finish-give : (p' : ℕ) (g : Given) → is_delete o.deed ≡ false → g ≡ given_in o.deed
      → Gives o.id o.deps.at g n s c h m v e p' h' m' v' → Finishes o n s c h m v e p' h' m' v'
  unfolding run_block deed_of
  finish-give p' g t y G k A R r (assign a) H b z va d f some p =
      rw (marks_all o.deed (n - 1) t) (G k A R r a H b va (y ∙ ap given_in d) f some p)
  finish-give p' g t y G k A R r delete H b z va d f some p = absurd (true≢false (sym (ap is_delete d) ∙ t))
  finish-give p' g t y G k A R r (insert q a) H b z va d f some p = absurd (no_words (insert q a) tt z)
  finish-give p' g t y G k A R r (into_map j w) H b z va d f some p = absurd (no_words (into_map j w) tt z)
  finish-give p' g t y G k A R r (into_list j w) H b z va d f some p = absurd (no_words (into_list j w) tt z)
