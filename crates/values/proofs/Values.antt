-- A row's values in the table: six words each, the first of which is the id.
-- Assumes nothing.
use Prim.Native.Nat.{ℕ, ◌+◌, ◌*◌, ◌-◌, ◌≤◌}
use native.Mathlib.Nat.{add-zero}
use native.Mathlib.Omega.{arith}
use mathlib.Core.Path.{◌≡◌, refl, sym, ap, ◌∙◌}
use mathlib.Core.Bool.{Bool}
use mathlib.Core.List.{List, [], ◌∷◌, ◌++◌, append-nil}
use lib.ListN.{length, drop, get_or, replicate}
use lib.Seq.{drop_at, get_or-drop}
use Rattle.meaning.specs.Members.{Has, Ascending, id_of_value}
use Rattle.meaning.specs.Places.{Value}
use Rattle.meaning.specs.Sets.{keep, put}
use Rattle.meaning.specs.Load.{values_in}
use Rattle.meaning.specs.Sheet.{Row}
use Rattle.words.specs.Words.{over_at, inserted, shrunk}
use Rattle.words.specs.Rows.{rank_of, rank_rows, keep_rows, flat}
use Rattle.words.proofs.Over.{over-parts}
use Rattle.words.proofs.Flat.{flat_keep, flat_rank}
use Rattle.tables.specs.Words.{value_words, each_value, values_of, pad}
use Rattle.tables.specs.Holding.{values_room}
use Rattle.tables.specs.Parts.{values_length, values_of_append, values-parts}
use Rattle.tables.specs.Values.{strides_value, each_flat}
use Rattle.words.proofs.Padded.{put_pad, keep_pad}
use Rattle.tables.specs.Changed.{values-between}

-- The words of the rows A, then of the values vs, then of the rows R.
abbrev pub among : List Row → List Value → List Row → List ℕ
among A vs R = values_of A ++ (flat value_words vs ++ values_of R)

pub among-is : (A : List Row) (r : Row) (R : List Row) → values_of (A ++ r ∷ R) ≡ among A r.values R
unfolding values_of
among-is A r R = values_of_append A (r ∷ R) ∙ ap (λ l. values_of A ++ (l ++ values_of R)) (each_flat r.values)

module _ (A R : List Row) (r : Row) (v : List ℕ) (e : v ≡ pad values_room (values_of (A ++ r ∷ R))) (from : ℕ)
    (f : from ≡ 6 * values_in A) where
  -- the words behind the row's values
  later : List ℕ
  later = values_of R ++ replicate (values_room - length (values_of (A ++ r ∷ R))) 0

  values_from_lem : drop from v ≡ flat value_words r.values ++ later
  unfolding later
  values_from_lem =
      let z : List ℕ = replicate (values_room - length (values_of (A ++ r ∷ R))) 0 in
      rw (e, values-parts A r R z, each_flat r.values)
      (drop_at (values_of A) (flat value_words r.values ++ (values_of R ++ z)) from (omega (arith, values_length A)))

  -- the first word of the first
  pub value_first : (y : Value) (ys : List Value) → r.values ≡ y ∷ ys → get_or v from 0 ≡ y.id
  unfolding flat
  value_first y ys q =
      ap (λ i. get_or v i 0) (sym (add-zero from))
      ∙ (sym (get_or-drop from v 0 0) ∙ ap (λ l. get_or l 0 0) (values_from_lem ∙ ap (λ vs. flat value_words vs ++ later) q))

  -- another in the place of the only one
  pub value_over : (y a : Value) (r' : Row) → r.values ≡ y ∷ [] → r'.values ≡ a ∷ []
      → over_at from (value_words a) v ≡ pad values_room (values_of (A ++ r' ∷ R))
  unfolding each_value
  value_over y a r' p q =
      let z : List ℕ = replicate (values_room - length (values_of (A ++ r ∷ R))) 0 in
      let w : each_value r'.values ≡ value_words a = ap each_value q ∙ append-nil (value_words a) in
      let b : each_value r.values ≡ value_words y = ap each_value p ∙ append-nil (value_words y) in
      let l : length (values_of (A ++ r ∷ R)) ≡ length (values_of (A ++ r' ∷ R)) =
      omega (
        arith,
        values_length (A ++ r ∷ R),
        values_length (A ++ r' ∷ R),
        values-between A r R,
        values-between A r' R,
        ap length
            p,
        ap length q,
      ) in
      ap (over_at from (value_words a)) (e ∙ values-parts A r R z)
      ∙ (over-parts (values_of A) (each_value r.values) (values_of R ++ z) (value_words a) from (omega (arith, values_length A))
      (omega (arith, strides_value.wide a, strides_value.wide y, ap length b))
      ∙ (ap (λ l. values_of A ++ (l ++ (values_of R ++ z))) (sym w)
      ∙ (sym (values-parts A r' R z) ∙ ap (λ n. values_of (A ++ r' ∷ R) ++ replicate (values_room - n) 0) l)))

  pub rank_is : (id : ℕ) → rank_rows 6 id (length r.values) (drop from v) ≡ rank_of id_of_value id r.values
  rank_is id = rw values_from_lem (flat_rank 6 value_words id_of_value strides_value id r.values later)

  pub kept_is : (p : ℕ → Bool) → keep_rows 6 p (length r.values) (drop from v) ≡ flat value_words (keep (λ x. p x.id) r.values)
  kept_is p = rw values_from_lem (flat_keep 6 value_words id_of_value strides_value p r.values later)

  module _ (live : ℕ) (l : live ≡ 6 * values_in (A ++ r ∷ R)) where
    -- one more among them
    pub value_put : (a : Value) (k at : ℕ) → Ascending id_of_value r.values → (Has id_of_value a.id r.values → ⊥)
        → k ≡ rank_of id_of_value a.id r.values → at ≡ from + k * 6 → live + 6 ≤ values_room
        → inserted live at (value_words a) v ≡ pad values_room (among A (put id_of_value a r.values) R)
    value_put a k at s o q p h =
        let d = values-between A r R in
        ap (inserted live at (value_words a)) (e ∙ ap (pad values_room) (among-is A r R))
        ∙ put_pad 6 value_words id_of_value strides_value values_room from k at live (values_of A) (values_of R) a r.values s o
        (omega (arith, values_length A)) q p (omega (arith, values_length R)) h

    -- fewer of them
    pub values_kept : (q : Value → Bool) → live ≤ values_room
        → shrunk 0 live (from + length r.values * 6) from (flat value_words (keep q r.values)) v
        ≡ pad values_room (among A (keep q r.values) R)
    values_kept q h =
        let d = values-between A r R in
        ap (shrunk 0 live (from + length r.values * 6) from (flat value_words (keep q r.values)))
        (e ∙ ap (pad values_room) (among-is A r R))
        ∙ keep_pad 6 value_words id_of_value strides_value values_room from (from + length r.values * 6) live (values_of A) (values_of R) q
        r.values (omega (arith, values_length A)) refl (omega (arith, values_length R)) h
