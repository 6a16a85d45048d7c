-- Values as rows of six words, the first of which is the id: what is said of rows of words holds of values. And the values of a row as
-- `value_at` reads them: `value_first`, `value_next`, `values_stand`.
-- Assumes nothing.
use Rattle.std.specs.Prelude.{ℕ, ◌+◌, ◌*◌, ◌-◌, ◌≡◌, refl, true, false, pos, negsuc, get_or, drop, length, replicate}
use Rattle.std.proofs.Common.{arith, sym, ap, ◌∙◌, get_or-drop, drop-drop, drop_at}
use mathlib.Core.List.{List, [], ◌∷◌, ◌++◌, append_assoc}
use Rattle.meaning.specs.Places.{Plain, null, bool, integer, string}
use Rattle.meaning.specs.Places as places
use Rattle.meaning.specs.Members.{id_of_value}
use Rattle.meaning.specs.Load.{values_in}
use Rattle.meaning.specs.Sheet.{Row}
use Rattle.words.specs.Rows.{flat, Strides}
use Rattle.readers.specs.Words.{words_of, plain_words}
use Rattle.tables.specs.Words.{value_words, each_value, values_of}
use Rattle.tables.specs.Heads.{value_at}
use Rattle.tables.specs.Holding.{values_room, Holds, four}
use Rattle.tables.specs.Parts.{plain_six, values_length, values-parts}
use Rattle.tables.specs.declared.Counts.{Counts}
use Rattle.tables.specs.declared.Value.{Value}

pub strides_value : Strides 6 value_words id_of_value
strides_value = record { some = omega arith; wide = λ v. omega (arith, plain_six v.val); first = λ v. refl }

pub each_flat : (vs : List places.Value) → each_value vs ≡ flat value_words vs
unfolding each_value flat
each_flat [] = refl
each_flat (v ∷ vs) = ap (value_words v ++◌) (each_flat vs)

-- a value as the table holds it
abbrev pub stored_value : places.Value → Value
stored_value v = record { id = v.id; kind = get_or (plain_words v.val) 0 0; words = drop 1 (plain_words v.val) }

-- from value i of a table on there are these, and then other words
pub record ValuesStand (table : List ℕ) (i : ℕ) (vs : List places.Value) : Type 0 where
  pub later : List ℕ
  pub there : drop (6 * i) table ≡ each_value vs ++ later

value_in : List ℕ → Value
value_in ws =
    record { id = get_or ws 0 0; kind = get_or ws 1 0; words = get_or ws 2 0 ∷ get_or ws 3 0 ∷ get_or ws 4 0 ∷ get_or ws 5 0 ∷ [] }

value_stored : (id : ℕ) (x : Plain) (rest : List ℕ)
    → value_in (value_words (record { id = id; val = x }) ++ rest) ≡ stored_value (record { id = id; val = x })
unfolding value_in words_of
value_stored id null rest = refl
value_stored id (bool true) rest = refl
value_stored id (bool false) rest = refl
value_stored id (integer (pos n)) rest = refl
value_stored id (integer (negsuc n)) rest = refl
value_stored id (string b) rest = refl

value_drop : (table : List ℕ) (i : ℕ) → value_at table i ≡ value_in (drop (6 * i) table)
unfolding value_in
value_drop table i =
    let e : 6 * i ≡ 6 * i + 0 = omega arith in
    let p : (j : ℕ) → get_or table (6 * i + j) 0 ≡ get_or (drop (6 * i) table) j 0 = λ j. sym (get_or-drop (6 * i) table j 0) in
    rw (ap (λ j. get_or table j 0) e ∙ p 0, p 1, p 2, p 3, p 4, p 5)

module _ {table : List ℕ} {i : ℕ} {v : places.Value} {vs : List places.Value} (s : ValuesStand table i (v ∷ vs)) where
  here : drop (6 * i) table ≡ value_words v ++ (each_value vs ++ s.later)
  unfolding each_value
  here = s.there ∙ append_assoc (value_words v) (each_value vs) s.later

  pub value_first : value_at table i ≡ stored_value v
  value_first = value_drop table i ∙ (ap value_in here ∙ value_stored v.id v.val (each_value vs ++ s.later))

  pub value_next : ValuesStand table (i + 1) vs
  value_next =
      let e : 6 * (i + 1) ≡ 6 * i + 6 = omega arith in
      record {
        later = s.later;
        there = ap (λ n. drop n table) e ∙ (sym (drop-drop 6 (6 * i) table) ∙ (ap (drop 6) here
            ∙ drop_at (value_words v) (each_value vs ++ s.later) 6 (omega (arith, plain_six v.val))));
      }

-- the values of a row
pub values_stand : (h k m v : List ℕ) (c : Counts) (A R : List Row) (r : Row) → Holds (four h k m v) c (A ++ r ∷ R)
    → ValuesStand v (values_in A) r.values
values_stand h k m v c A R r H =
    let z : List ℕ = replicate (values_room - length (values_of (A ++ r ∷ R))) 0 in
    record {
      later = values_of R ++ z;
      there = ap (drop (6 * values_in A)) (H.values ∙ values-parts A r R z)
          ∙ drop_at (values_of A) (each_value r.values ++ (values_of R ++ z)) (6 * values_in A) (omega (arith, values_length A));
    }
