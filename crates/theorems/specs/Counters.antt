-- Eight counters: what the tests on them say entry by entry; what raising an entry does to them and to what they cover; the largest entry.
-- Assumes nothing.
use Rattle.std.specs.Prelude.{ℕ, zero, suc, ◌<◌, ◌≤◌, ◌≡◌, refl, true, false, List, [], ◌∷◌, ◌≢◌, leb, ltb, eqb, length}
use Rattle.std.proofs.Common.{arith, mod-lt, ◌∙◌, length-set, get_or-set_same, get_or-set_other, le-leb, leb-true}
use Rattle.std.proofs.Common.{lt-ltb, ltb-true, eq-eqb, eqb-true}
use Rattle.std.proofs.lemmas.Bool.{lt-leb, eqb-false}
use Rattle.meaning.specs.Ids.{counter_of, entry_of, entry, covered, uncovered, at_most, all_below, ready, raise}
use Rattle.meaning.specs.Edit.{largest, spent}
use Rattle.meaning.specs.Members.{All}
use Rattle.meaning.specs.Valid.{ValidCounters, ValidId}
use Rattle.meaning.specs.Load.{Seen}
use Rattle.theorems.specs.Decide.{Same, is, isnt, alike, and_left, and_right, or_left, or_right}

-- an entry is one of the counters, or 0
pub each_le : (c : ℕ) (s : List ℕ) → All (λ x. x ≤ c) s → (n : ℕ) → entry s n ≤ c
each_le c [] h n = omega arith
each_le c (x ∷ s) h zero = h.0
each_le c (x ∷ s) h (suc n) = each_le c s h.1 n

-- What the tests say.

pub covered_le : (d : List ℕ) (i : ℕ) → covered d i ≡ true → counter_of i ≤ entry d (entry_of i)
unfolding covered
covered_le d i e = leb-true (counter_of i) (entry d (entry_of i)) e

pub le_covered : (d : List ℕ) (i : ℕ) → counter_of i ≤ entry d (entry_of i) → covered d i ≡ true
unfolding covered
le_covered d i h = le-leb (counter_of i) (entry d (entry_of i)) h

pub lt_uncovered : (d : List ℕ) (i : ℕ) → entry d (entry_of i) < counter_of i → uncovered d i ≡ true
unfolding covered
lt_uncovered d i h = rw (lt-leb (counter_of i) (entry d (entry_of i)) h)

pub at_most_each : (d s : List ℕ) → at_most d s ≡ true → (n : ℕ) → entry d n ≤ entry s n
unfolding at_most
at_most_each [] s e n = omega arith
at_most_each (x ∷ d) [] e zero = leb-true x 0 (and_left (leb x 0) _ e)
at_most_each (x ∷ d) (y ∷ s) e zero = leb-true x y (and_left (leb x y) _ e)
at_most_each (x ∷ d) [] e (suc n) = at_most_each d [] (and_right (leb x 0) _ e) n
at_most_each (x ∷ d) (y ∷ s) e (suc n) = at_most_each d s (and_right (leb x y) _ e) n

pub each_at_most : (d s : List ℕ) → ((n : ℕ) → entry d n ≤ entry s n) → at_most d s ≡ true
unfolding at_most
each_at_most [] s h = refl
each_at_most (x ∷ d) [] h = rw (le-leb x 0 (h zero)) (each_at_most d [] (λ n. h (suc n)))
each_at_most (x ∷ d) (y ∷ s) h = rw (le-leb x y (h zero)) (each_at_most d s (λ n. h (suc n)))

pub all_below_each : (c : ℕ) (d : List ℕ) → 0 < c → all_below c d ≡ true → (n : ℕ) → entry d n < c
unfolding all_below
all_below_each c [] p e n = p
all_below_each c (x ∷ d) p e zero = ltb-true x c (and_left (ltb x c) _ e)
all_below_each c (x ∷ d) p e (suc n) = all_below_each c d p (and_right (ltb x c) _ e) n

pub each_all_below : (c : ℕ) (d : List ℕ) → ((n : ℕ) → entry d n < c) → all_below c d ≡ true
unfolding all_below
each_all_below c [] h = refl
each_all_below c (x ∷ d) h = rw (lt-ltb x c (h zero)) (each_all_below c d (λ n. h (suc n)))

-- of eight counters there is one, so what all are below is above 0
pub all_below_above : (c : ℕ) (d : List ℕ) → length d ≡ 8 → all_below c d ≡ true → 0 < c
unfolding all_below
all_below_above c [] e h = omega arith
all_below_above c (x ∷ d) e h = omega (arith, ltb-true x c (and_left (ltb x c) _ h))

pub ready-own : (s : List ℕ) (i : ℕ) (d : List ℕ) → ready s i d ≡ true → entry d (entry_of i) ≡ entry s (entry_of i)
unfolding ready
ready-own s i d r = eqb-true _ _ (and_left (eqb (entry d (entry_of i)) (entry s (entry_of i))) _ r)

pub ready_others : (s : List ℕ) (i : ℕ) (d : List ℕ) → ready s i d ≡ true → (n : ℕ) → entry d n ≤ entry s n
unfolding ready
ready_others s i d r = at_most_each d s (and_right (eqb (entry d (entry_of i)) (entry s (entry_of i))) _ r)

pub own_others_ready : (s : List ℕ) (i : ℕ) (d : List ℕ) → entry d (entry_of i) ≡ entry s (entry_of i)
    → ((n : ℕ) → entry d n ≤ entry s n) → ready s i d ≡ true
unfolding ready
own_others_ready s i d e h = rw (eq-eqb (entry d (entry_of i)) (entry s (entry_of i)) e) (each_at_most d s h)

-- Raising.

-- a terminal's number is below eight
pub entry_of_lt : (i : ℕ) → entry_of i < 8
entry_of_lt i = mod-lt i {m = 8} (omega arith)

pub raise-length : (s : List ℕ) (i : ℕ) → length s ≡ 8 → length (raise s i) ≡ 8
raise-length s i e = length-set s (entry_of i) (counter_of i) ∙ e

-- the raised entry, and the others
pub raise-own : (s : List ℕ) (i : ℕ) → length s ≡ 8 → entry (raise s i) (entry_of i) ≡ counter_of i
raise-own s i e = get_or-set_same s (entry_of i) (counter_of i) 0 (omega (arith, entry_of_lt i))

pub raise_other : (s : List ℕ) (i n : ℕ) → n ≢ entry_of i → entry (raise s i) n ≡ entry s n
raise_other s i n h = get_or-set_other s (entry_of i) n (counter_of i) 0 h

pub raise_grows : (s : List ℕ) (i : ℕ) → length s ≡ 8 → entry s (entry_of i) < counter_of i → (n : ℕ) → entry s n ≤ entry (raise s i) n
raise_grows s i e h n = go (alike n (entry_of i))
  where
    go : Same n (entry_of i) → entry s n ≤ entry (raise s i) n
    go (is q) = rw q (omega (arith, raise-own s i e))
    go (isnt m) = omega (arith, raise_other s i n m)

pub raise_valid : (s : List ℕ) (i : ℕ) → ValidCounters s → ValidId i → ValidCounters (raise s i)
raise_valid s i v w = record {
  eight = raise-length s i v.eight;
  each = λ n. go n (alike n (entry_of i));
}
  where
    go : (n : ℕ) → Same n (entry_of i) → entry (raise s i) n ≤ 4294967295
    go n (is q) = rw q (omega (arith, raise-own s i v.eight, w.high))
    go n (isnt m) = omega (arith, raise_other s i n m, v.each n)

-- what was seen stays seen, and the operation's own id is seen
pub seen_stays : (s : List ℕ) (i : ℕ) → length s ≡ 8 → entry s (entry_of i) < counter_of i → (j : ℕ) → Seen s j → Seen (raise s i) j
seen_stays s i e h j v = record {
  low = v.low;
  covers = le_covered (raise s i) j (omega (arith, covered_le s j v.covers, raise_grows s i e h (entry_of j)));
}

pub seen_self : (s : List ℕ) (i : ℕ) → length s ≡ 8 → ValidId i → Seen (raise s i) i
seen_self s i e w = record { low = w.low; covers = le_covered (raise s i) i (omega (arith, raise-own s i e)) }

-- an id above its terminal's entry isn't seen
pub unseen : (s : List ℕ) (i : ℕ) → entry s (entry_of i) < counter_of i → Seen s i → ⊥
unseen s i h v = omega (arith, covered_le s i v.covers)

-- The largest entry.

pub le_largest : (s : List ℕ) (n : ℕ) → entry s n ≤ largest s
unfolding largest
le_largest [] n = omega arith
le_largest (x ∷ s) zero = omega arith
le_largest (x ∷ s) (suc n) = omega (arith, le_largest s n)

-- no entry is the last counter: there is one more
pub largest_lt : (s : List ℕ) → ((n : ℕ) → entry s n ≤ 4294967295) → spent s ≡ false → largest s < 4294967295
unfolding largest spent
largest_lt [] v e = omega arith
largest_lt (x ∷ s) v e =
    let here : x ≢ 4294967295 = eqb-false x 4294967295 (or_left (eqb x 4294967295) (spent s) e) in
    let least : x ≤ 4294967295 = v 0 in
    omega (arith, largest_lt s (λ n. v (suc n)) (or_right (eqb x 4294967295) (spent s) e))
