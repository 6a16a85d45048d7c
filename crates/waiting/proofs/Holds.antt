-- A table that holds operations: where the rows stand, ranks among them, one more, one less.
-- Assumes nothing.
use Prim.Native.Nat.{ℕ, suc, ◌+◌, ◌*◌, ◌-◌, ◌≤◌, ◌<◌}
use mathlib.Core.Path.{◌≡◌, refl, sym, ap, ◌∙◌}
use mathlib.Core.Bool.{Bool, true, false, ◌||◌}
use mathlib.Core.List.{List, [], ◌∷◌, ◌++◌, append_assoc, append-nil}
use mathlib.Core.Logic.{inl, inr}
use native.Mathlib.Omega.{arith}
use borrow.Author.Tests.{eq-eqb, ne_eqb}
use lib.Dec.{eqb}
use lib.ListN.{length, drop, get_or, replicate, length-append}
use lib.Seq.{get_or-append-add}
use Rattle.meaning.specs.Members.{All, Has, Ascending}
use Rattle.meaning.specs.Receive.{waits}
use Rattle.meaning.specs.Sets.{put}
use Rattle.meaning.specs.Valid.{ValidOperation}
use Rattle.meaning.specs.Ways.{Operation}
use Rattle.theorems.specs.Decide.{Tri, less, same, more, tri}
use Rattle.theorems.specs.Members.{all_put, asc_put}
use Rattle.words.specs.Words.{closed, inserted, pad}
use Rattle.words.specs.Rows.{rank_rows, rank_of, flat}
use Rattle.words.proofs.Flat.{rank_yes, rank_no, flat_append, flat_between, flat_length, flat_rank}
use Rattle.words.proofs.Padded.{pad-length, closed-pad, put_more, put_pad}
use Rattle.waiting.specs.Rows.{op_words}
use Rattle.waiting.specs.Waits.{room, id_of, Waits}
use Rattle.waiting.proofs.Ops.{op_long, strides_ops}

rows_long : (os : List Operation) → length (flat op_words os) ≡ length os * 40
rows_long os = flat_length 40 op_words id_of strides_ops os

-- Any table that holds operations.
module _ (t : List ℕ) (n : ℕ) (os : List Operation) (W : Waits t n os) where
  pub table_long : length t ≡ 2560
  table_long = ap length W.table ∙ pad-length room (flat op_words os) (omega (arith, rows_long os, W.count, W.fit))

  pub rank_is : (id : ℕ) → rank_rows 40 id n (drop 0 t) ≡ rank_of id_of id os
  rank_is id = rw (W.table, W.count) (flat_rank 40 op_words id_of strides_ops id os (replicate (room - length (flat op_words os)) 0))

-- the words behind a row
abbrev pub behind : List Operation → Operation → List Operation → List ℕ
behind A o R = flat op_words R ++ replicate (room - length (flat op_words (A ++ o ∷ R))) 0

-- The operation at i.
module _ (t : List ℕ) (n i : ℕ) (A R : List Operation) (o : Operation) (W : Waits t n (A ++ o ∷ R)) (e : i ≡ length A) where
  pub there : t ≡ flat op_words A ++ (op_words o ++ behind A o R)
  there =
      W.table
      ∙ (ap (λ z. z ++ replicate (room - length (flat op_words (A ++ o ∷ R))) 0) (flat_between 40 op_words id_of strides_ops A o R)
      ∙ simp append_assoc)

  pub before_long : length (flat op_words A) ≡ 40 * i
  before_long = omega (arith, rows_long A)

  pub among : i < n
  among =
      let l = length-append A (o ∷ R) in
      omega (arith, W.count)

pub all-at : {X : Type 0} (P : X → Type 0) (A R : List X) (o : X) → All P (A ++ o ∷ R) → P o
all-at P [] R o h = h.0
all-at P (x ∷ A) R o h = all-at P A R o h.1

pub all_but : {X : Type 0} (P : X → Type 0) (A R : List X) (o : X) → All P (A ++ o ∷ R) → All P (A ++ R)
all_but P [] R o h = h.1
all_but P (x ∷ A) R o h = (h.0, all_but P A R o h.1)

has_but : {X : Type 0} (number : X → ℕ) (A R : List X) (o : X) (j : ℕ) → Has number j (A ++ R) → Has number j (A ++ o ∷ R)
has_but number [] R o j h = inr h
has_but number (x ∷ A) R o j (inl e) = inl e
has_but number (x ∷ A) R o j (inr h) = inr (has_but number A R o j h)

asc_but : {X : Type 0} (number : X → ℕ) (A R : List X) (o : X) → Ascending number (A ++ o ∷ R) → Ascending number (A ++ R)
asc_but number [] R o s = s.1
asc_but number (x ∷ A) R o s = (λ j h. s.0 j (has_but number A R o j h), asc_but number A R o s.1)

-- One less.
pub taken_out : (t t' : List ℕ) (n i : ℕ) (A R : List Operation) (o : Operation) → Waits t n (A ++ o ∷ R) → i ≡ length A
    → t' ≡ closed 0 (40 * n) (40 * i + 40) (40 * i) t → Waits t' (n - 1) (A ++ R)
taken_out t t' n i A R o W e c =
    let l = length-append A (o ∷ R) in
    let m = length-append A R in
    let a = rows_long A in
    let b = op_long o in
    let r = rows_long R in
    let k = W.count in
    let f = W.fit in
    record {
      table =
          c ∙ (ap (closed 0 (40 * n) (40 * i + 40) (40 * i)) (W.table ∙ ap (pad room) (flat_between 40 op_words id_of strides_ops A o R))
          ∙ (closed-pad room (40 * i) (40 * i + 40) (40 * n) (flat op_words A) (op_words o) (flat op_words R) (omega arith) (omega arith)
          (omega arith) (omega arith)
          ∙ ap (pad room) (sym (flat_append 40 op_words id_of strides_ops A R))));
      count = omega arith;
      fit = omega arith;
      ascending = asc_but id_of A R o W.ascending;
      valid = all_but ValidOperation A R o W.valid;
    }

-- Whether one waits, by its rank.
waits-has : (id : ℕ) (os : List Operation) → Has id_of id os → waits id os ≡ true
unfolding waits
waits-has id [] h = absurd h
waits-has id (x ∷ xs) (inl e) = rw (eq-eqb id x.id e)
waits-has id (x ∷ xs) (inr h) = rw (waits-has id xs h) (or_true (eqb id x.id))
  where
    or_true : (b : Bool) → (b || true) ≡ true
    or_true true = refl
    or_true false = refl

waits_above : (id : ℕ) (os : List Operation) → ((j : ℕ) → Has id_of j os → id < j) → waits id os ≡ false
unfolding waits
waits_above id [] h = refl
waits_above id (x ∷ xs) h =
    let q = h x.id (inl refl) in
    rw (ne_eqb id x.id (λ e. omega arith), waits_above id xs (λ j m. h j (inr m)))

pub waits_past : (id : ℕ) (os : List Operation) → length os ≤ rank_of id_of id os → waits id os ≡ false
unfolding waits
waits_past id [] h = refl
waits_past id (x ∷ xs) h = go (tri x.id id) (λ q. waits_past id xs q)
  where
    go : Tri x.id id → (length xs ≤ rank_of id_of id xs → waits id xs ≡ false) → (eqb id x.id || waits id xs) ≡ false
    go (less q) w = rw (ne_eqb id x.id (λ e. omega arith), w (omega (arith, rank_yes id_of id x xs q)))
    go (same e) w = absurd (omega (arith, rank_no id_of id x xs (omega arith)))
    go (more q) w = absurd (omega (arith, rank_no id_of id x xs (omega arith)))

first : (x : Operation) (xs rest : List ℕ) → get_or ((op_words x ++ xs) ++ rest) 0 0 ≡ x.id
unfolding op_words
first x xs rest = refl

pub waits-at : (id : ℕ) (os : List Operation) (rest : List ℕ) → Ascending id_of os → rank_of id_of id os < length os
    → waits id os ≡ eqb id (get_or (flat op_words os ++ rest) (40 * rank_of id_of id os) 0)
unfolding waits flat
waits-at id [] rest s h = absurd (omega arith)
waits-at id (x ∷ xs) rest s h = go (tri x.id id) (λ q. waits-at id xs rest s.1 q)
  where
    go : Tri x.id id
        → (rank_of id_of id xs < length xs → waits id xs ≡ eqb id (get_or (flat op_words xs ++ rest) (40 * rank_of id_of id xs) 0))
        → (eqb id x.id || waits id xs) ≡ eqb id (get_or ((op_words x ++ flat op_words xs) ++ rest) (40 * rank_of id_of id (x ∷ xs)) 0)
    go (less q) w =
        let r = rank_yes id_of id x xs q in
        let l = op_long x in
        let k : 40 * suc (rank_of id_of id xs) ≡ length (op_words x) + 40 * rank_of id_of id xs = omega arith in
        rw (
          ne_eqb id x.id (λ e. omega arith),
          r,
          k,
          append_assoc (op_words x) (flat op_words xs) rest,
          get_or-append-add (op_words x) (flat op_words xs ++ rest) (40 * rank_of id_of id xs) 0,
        )
        (w (omega arith))
    go (same e) w = rw (rank_no id_of id x xs (omega arith), first x (flat op_words xs) rest, eq-eqb id x.id (sym e))
    go (more q) w =
        let b = waits_above id xs (λ j m. omega (arith, s.0 j m)) in
        rw (rank_no id_of id x xs (omega arith), first x (flat op_words xs) rest, b, ne_eqb id x.id (λ e. omega arith))

pub new : (id : ℕ) (os : List Operation) → waits id os ≡ false → Has id_of id os → ⊥
new id os e h = absurd (cc_true (sym (waits-has id os h) ∙ e))
  where
    cc_true : ◌≡◌ {A = Bool} true false → ⊥
    cc_true p = let z : ◌≡◌ {A = ℕ} 0 1 = cc in omega arith

-- One more.
pub put_in : (t t' : List ℕ) (n k : ℕ) (os : List Operation) (o : Operation) → Waits t n os → ValidOperation o → waits o.id os ≡ false
    → n < 64 → k ≡ rank_rows 40 o.id n (drop 0 t) → t' ≡ inserted (40 * n) (40 * k) (op_words o) t → Waits t' (n + 1) (put id_of o os)
put_in t t' n k os o W v u h q c =
    let x = new o.id os u in
    let m = put_more id_of o os W.ascending x in
    let l = W.count in
    record {
      table =
          c ∙ (ap (inserted (40 * n) (40 * k) (op_words o)) (W.table ∙ ap (pad room) (sym (append-nil (flat op_words os))))
          ∙ (put_pad 40 op_words id_of strides_ops room 0 k (40 * k) (40 * n) [] [] o os W.ascending x refl (q ∙ rank_is t n os W o.id)
          (omega arith) (omega arith) (omega arith)
          ∙ ap (pad room) (append-nil (flat op_words (put id_of o os)))));
      count = omega arith;
      fit = omega arith;
      ascending = asc_put id_of o os W.ascending;
      valid = all_put ValidOperation id_of o os v W.valid;
    }
