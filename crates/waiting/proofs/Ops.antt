-- The forty words of an operation: they are forty, the first is its id, and an operation is read from them as it was written.
-- Assumes nothing.
use Prim.Native.Nat.{ℕ, zero, suc, ◌+◌, ◌≤◌, ◌<◌}
use mathlib.Core.Path.{◌≡◌, refl, ap, ◌∙◌}
use mathlib.Core.Bool.{true, false}
use mathlib.Core.List.{List, [], ◌∷◌, ◌++◌, append_assoc, append-nil}
use native.Mathlib.Nat.{mod-eq_of_lt}
use native.Mathlib.Omega.{arith}
use lib.ListN.{length, take, drop, get_or, length-append, get_or-append}
use lib.IntN.{pos, negsuc}
use lib.Seq.{take-append-le, drop-append-le, drop-append-add, get_or-append-add}
use Rattle.meaning.specs.Places.{null, bool, integer, string}
use Rattle.meaning.specs.Ways.{Assigned, plain, empty_map, empty_list, Way, assign, delete, insert, into_map, into_list, Operation, steps}
use Rattle.meaning.specs.Valid.{ValidOperation}
use Rattle.words.specs.Words.{run}
use Rattle.words.specs.Rows.{Strides}
use Rattle.words.proofs.Over.{run-parts}
use Rattle.readers.specs.Words.{key_words, words_of}
use Rattle.readers.specs.declared.Given.TheVariants as G
use Rattle.message.specs.Means.{way_words, pad, deed_of, Means}
use Rattle.message.specs.declared.Deed.{Deed}
use Rattle.message.specs.declared.Deed.TheVariants as D
use Rattle.message.specs.declared.Operation as M
use Rattle.message.proofs.Padded.{pad_long}
use Rattle.readers.specs.Given.{given_of}
use Rattle.waiting.specs.declared.row.Coded.{Coded}
use Rattle.waiting.specs.Rows.{given_words, given_by, coded, deed_by}
use Rattle.waiting.specs.Rows.{counters, row_words, op_words, held_words, ReadsRow}
use Rattle.waiting.specs.Waits.{id_of}

pad_same : (n : ℕ) (w : List ℕ) → length w ≡ n → pad n w ≡ w
unfolding pad
pad_same zero [] e = refl
pad_same zero (x ∷ w) e = absurd (omega arith)
pad_same (suc n) [] e = absurd (omega arith)
pad_same (suc n) (x ∷ w) e = ap (x ∷◌) (pad_same n w (omega arith))

words_long : (n : ℕ) (k : List ℕ) → length (words_of n k) ≡ n
unfolding words_of
words_long zero k = refl
words_long (suc n) k = ap suc (words_long n (drop 8 k))

given_long : (a : Assigned) → length (given_words (given_of a)) ≡ 4
unfolding given_of
given_long (plain null) = refl
given_long (plain (bool true)) = refl
given_long (plain (bool false)) = refl
given_long (plain (integer (pos n))) = refl
given_long (plain (integer (negsuc n))) = refl
given_long (plain (string k)) = words_long 4 k
given_long empty_map = refl
given_long empty_list = refl

deed_long : (w : Way) → length (coded (deed_of w)).words ≡ 4
unfolding deed_of
deed_long (assign a) = given_long a
deed_long delete = refl
deed_long (insert p a) = given_long a
deed_long (into_map k w) = deed_long w
deed_long (into_list e w) = deed_long w

-- A row in parts.
module _ (id : ℕ) (deps keys : List ℕ) (n : ℕ) (c : Coded) (e : length deps ≡ 8) (f : length keys ≡ 24) where
  pub row_long : length c.words ≡ 4 → length (row_words id deps keys n c) ≡ 40
  row_long g = simp length-append (omega arith)

  row_deps : run 1 8 (row_words id deps keys n c) ≡ deps
  row_deps = run-parts (id ∷ []) deps (keys ++ (n ∷ c.code ∷ c.number ∷ c.words)) 1 8 refl e

  row_entry : (k : ℕ) → k < 8 → get_or (row_words id deps keys n c) (1 + k) 0 ≡ get_or deps k 0
  row_entry k h =
      let R : List ℕ = keys ++ (n ∷ c.code ∷ c.number ∷ c.words) in
      get_or-append-add (id ∷ []) (deps ++ R) k 0 ∙ get_or-append deps R 0 k (omega arith)

  row_keys : run 9 24 (row_words id deps keys n c) ≡ keys
  row_keys = run-parts (id ∷ deps) keys (n ∷ c.code ∷ c.number ∷ c.words) 9 24 (omega arith) f

  row_numbers : (j : ℕ) → get_or (row_words id deps keys n c) (33 + j) 0 ≡ get_or (n ∷ c.code ∷ c.number ∷ c.words) j 0
  row_numbers j =
      let l : length (id ∷ (deps ++ keys)) ≡ 33 = simp length-append (omega arith) in
      rw (← append_assoc deps keys (n ∷ c.code ∷ c.number ∷ c.words), ← l)
      (get_or-append-add (id ∷ (deps ++ keys)) (n ∷ c.code ∷ c.number ∷ c.words) j 0)

  row_value : length c.words ≡ 4 → run 36 4 (row_words id deps keys n c) ≡ c.words
  row_value g =
      let X : List ℕ = id ∷ (deps ++ (keys ++ (n ∷ c.code ∷ c.number ∷ []))) in
      let l : length X ≡ 36 = simp length-append (omega arith) in
      let r : row_words id deps keys n c ≡ X ++ (c.words ++ []) = simp (append_assoc, append-nil) in
      rw r (run-parts X c.words [] 36 4 l g)

-- The row of an operation.
module _ (o : Operation) where
  pub op_long : length (op_words o) ≡ 40
  unfolding op_words
  op_long =
      row_long o.id (pad 8 o.deps) (pad 24 (key_words o.top ++ way_words o.way)) (suc (steps o.way)) (coded (deed_of o.way)) (pad_long 8 o.deps) (pad_long 24 _) (deed_long o.way)

pub strides_ops : Strides 40 op_words id_of
unfolding op_words
strides_ops = record { some = omega arith; wide = op_long; first = λ o. refl }

-- Written from what the code holds.
pub means_words : (op : M.Operation) (o : Operation) → Means op o → ValidOperation o → held_words op ≡ op_words o
unfolding op_words
means_words op o m v =
    let d = pad_same 8 o.deps v.deps.eight in
    rw (m.id, m.deps, m.edit.keys, m.edit.count, m.edit.deed, d)

-- What is done, by its code and its number.
deed_back : (d : Deed) → deed_by (coded d) ≡ d
unfolding deed_by given_by
deed_back (D.Assign G.Null) = refl
deed_back (D.Assign G.True) = refl
deed_back (D.Assign G.False) = refl
deed_back (D.Assign (G.NonNeg n)) = refl
deed_back (D.Assign (G.Neg n)) = refl
deed_back (D.Assign (G.String n)) = refl
deed_back (D.Assign G.Map) = refl
deed_back (D.Assign G.List) = refl
deed_back (D.Insert G.Null) = refl
deed_back (D.Insert G.True) = refl
deed_back (D.Insert G.False) = refl
deed_back (D.Insert (G.NonNeg n)) = refl
deed_back (D.Insert (G.Neg n)) = refl
deed_back (D.Insert (G.String n)) = refl
deed_back (D.Insert G.Map) = refl
deed_back (D.Insert G.List) = refl
deed_back D.Delete = refl

-- Counters that fit are read as they are.
counters_same : (xs : List ℕ) → ((n : ℕ) → get_or xs n 0 ≤ 4294967295) → counters xs ≡ xs
unfolding counters
counters_same [] h = refl
counters_same (x ∷ xs) h =
    let b : x < 4294967296 = omega (arith, h 0) in
    rw (mod-eq_of_lt b, counters_same xs (λ n. h (suc n)))

-- Words of a row that stands between others.
module _ (X W Y : List ℕ) (a : ℕ) (e : length X ≡ a) where
  pub run_inside : (j n : ℕ) → j + n ≤ length W → run (a + j) n (X ++ (W ++ Y)) ≡ run j n W
  unfolding run
  run_inside j n h =
      let l : n ≤ length (drop j W) = simp lib.ListN.length-drop (omega arith) in
      rw (← e, drop-append-add X (W ++ Y) j, drop-append-le j W Y (omega arith)) (take-append-le n (drop j W) Y l)

  pub get_inside : (j : ℕ) → j < length W → get_or (X ++ (W ++ Y)) (a + j) 0 ≡ get_or W j 0
  get_inside j h = rw (← e) (get_or-append-add X (W ++ Y) j 0 ∙ get_or-append W Y 0 j h)

-- An operation whose row stands at `at`.
module _ (X Y : List ℕ) (o : Operation) (at : ℕ) (e : length X ≡ at) (v : ValidOperation o) where
  pub id_there : get_or (X ++ (op_words o ++ Y)) at 0 ≡ o.id
  unfolding op_words
  id_there =
      let z : at ≡ at + 0 = omega arith in
      rw z (get_inside X (op_words o) Y at e 0 (omega (arith, op_long o)))

  pub deps_there : counters (run (at + 1) 8 (X ++ (op_words o ++ Y))) ≡ o.deps
  unfolding op_words
  deps_there =
      rw (
        run_inside X (op_words o) Y at e 1 8 (omega (arith, op_long o)),
        row_deps o.id (pad 8 o.deps) (pad 24 (key_words o.top ++ way_words o.way)) (suc (steps o.way)) (coded (deed_of o.way)) (pad_long 8 o.deps) (pad_long 24 _),
        pad_same 8 o.deps v.deps.eight,
      ) (counters_same o.deps v.deps.each)

  pub entry_there : (k : ℕ) → k < 8 → get_or (X ++ (op_words o ++ Y)) (at + (1 + k)) 0 ≡ get_or o.deps k 0
  unfolding op_words
  entry_there k h =
      get_inside X (op_words o) Y at e (1 + k) (omega (arith, op_long o))
      ∙ (row_entry o.id (pad 8 o.deps) (pad 24 (key_words o.top ++ way_words o.way)) (suc (steps o.way)) (coded (deed_of o.way)) (pad_long 8 o.deps) (pad_long 24 _) k h ∙ ap (λ d. get_or d k 0) (pad_same 8 o.deps v.deps.eight))

  -- the words of the row at j
  number_there : (j : ℕ) → j < 3
      → get_or (X ++ (op_words o ++ Y)) (at + (33 + j)) 0
      ≡ get_or (suc (steps o.way) ∷ (coded (deed_of o.way)).code ∷ (coded (deed_of o.way)).number ∷ (coded (deed_of o.way)).words) j 0
  unfolding op_words
  number_there j h =
      get_inside X (op_words o) Y at e (33 + j) (omega (arith, op_long o))
      ∙ row_numbers o.id (pad 8 o.deps) (pad 24 (key_words o.top ++ way_words o.way)) (suc (steps o.way)) (coded (deed_of o.way)) (pad_long 8 o.deps) (pad_long 24 _) j

  pub row_means : (r : M.Operation) → ReadsRow (X ++ (op_words o ++ Y)) at r → Means r o
  unfolding op_words
  row_means r R =
      let K : List ℕ = pad 24 (key_words o.top ++ way_words o.way) in
      let l = op_long o in
      let f = pad_long 8 o.deps in
      let g = pad_long 24 (key_words o.top ++ way_words o.way) in
      record {
        id = R.id ∙ id_there;
        deps = R.deps ∙ deps_there;
        edit = record {
          keys =
              R.keys ∙ (run_inside X (op_words o) Y at e 9 24 (omega arith)
              ∙ row_keys o.id (pad 8 o.deps) K (suc (steps o.way)) (coded (deed_of o.way)) f g);
          count = R.count ∙ number_there 0 (omega arith);
          deed =
              let c = coded (deed_of o.way) in
              let w : run (at + 36) 4 (X ++ (op_words o ++ Y)) ≡ c.words =
              run_inside X (op_words o) Y at e 36 4 (omega arith)
              ∙ row_value o.id (pad 8 o.deps) K (suc (steps o.way)) c f g (deed_long o.way) in
              rw (R.deed, number_there 1 (omega arith), number_there 2 (omega arith), w) (deed_back (deed_of o.way));
        };
      }
