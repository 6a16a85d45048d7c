-- Texts one behind the other: their sizes summed, each written into the lent rest of a buffer, and what they are the texts of.
-- Assumes nothing.
use Prim.Native.Nat.{ℕ, zero, suc, ◌+◌, ◌*◌, ◌-◌, ◌≤◌, ◌<◌}
use native.Mathlib.Nat.{mul-suc}
use native.Mathlib.Numerals.{add-one}
use native.Mathlib.Omega.{arith}
use mathlib.Core.Path.{◌≡◌, refl, sym, ap, ap₂, ◌∙◌}
use mathlib.Core.List.{List, [], ◌∷◌, ◌++◌, append_assoc}
use lib.ListN.{length, length-append}
use Rattle.decimal.specs.Take.{Wrote}
use Rattle.writers.specs.Sized.{Sized}
use Rattle.writers.specs.Texts.{texts}
use Rattle.writers.specs.Wrote.{WroteAt}
use Rattle.writers.proofs.Over.{append_none, wrote_none, Writing, to_come, all, room, next}

-- Of n texts, from one on, the first i are counted or written, and the others are still to come from `from` on.
module _ {S : Type 0} (piece : S → List ℕ) (on : S → S) (Has : S → ℕ → Type 0) where
  pub more : (s : S) (n m : ℕ) → n ≡ suc m → texts piece on s n ≡ piece s ++ texts piece on (on s) m
  unfolding texts
  more s n m e = rw e

  none : (s : S) (n : ℕ) → n ≡ 0 → texts piece on s n ≡ []
  unfolding texts
  none s n e = rw e

  -- where one is to come, it stands here, and the others from the next on
  pub onward_at : (Here : S → Type 0) → ((s : S) (n : ℕ) → Has s (suc n) → Here s × Has (on s) n)
      → {s : S} {n i : ℕ} → i < n → Has s (n - i) → Here s × Has (on s) (n - (i + 1))
  onward_at Here f {s} {n} {i} h k = let e : n - i ≡ suc (n - (i + 1)) = omega arith in f s (n - (i + 1)) (rw e at k)

  -- the size of the whole is `sum` and that of what is to come; each has at most `each` bytes
  pub record Summing (first : S) (n each : ℕ) (s : S) (i sum : ℕ) : Type 0 where
    pub within : i ≤ n
    pub has : Has s (n - i)
    pub size : length (texts piece on first n) ≡ sum + length (texts piece on s (n - i))
    pub most : sum + each * (n - i) ≤ each * n

  module _ {first : S} {n each : ℕ} {s : S} {i sum : ℕ} (g : Summing first n each s i sum) where
    pub sum_more : i < n → Has (on s) (n - (i + 1)) → {limit m : ℕ} → limit ≤ each → Sized (piece s) limit m
        → Summing first n each (on s) (i + 1) (sum + m)
    sum_more h k {limit} {m} l z =
        let e : n - i ≡ suc (n - (i + 1)) = omega arith in
        let d : each * (n - i) ≡ each * (n - (i + 1)) + each = ap (λ n. each * n) e ∙ mul-suc each (n - (i + 1)) in
        record {
          within = omega arith;
          has = k;
          size = omega (
            arith,
            g.size,
            z.size,
            ap length (more s (n - i) (n - (i + 1)) e),
            length-append (piece s) (texts piece on (on s) (n - (i + 1))),
          );
          most = omega (arith, g.most, z.most, d);
        }

    pub summed : n ≤ i → Sized (texts piece on first n) (each * n) sum
    summed h =
        let e : n - i ≡ 0 = omega arith in
        record { size = omega (arith, g.size, ap length (none s (n - i) e)); most = omega (arith, g.most) }

  -- the whole is what is written and what is to come
  pub record Putting (first : S) (n : ℕ) (before : List ℕ) (s : S) (i : ℕ) (after : List ℕ) (at : ℕ) : Type 0 where
    pub within : i ≤ n
    pub has : Has s (n - i)
    pub writing : Writing (texts piece on first n) before (texts piece on s (n - i)) after at

  pub put_begun : (first : S) (n : ℕ) (before : List ℕ) → Has first n → length (texts piece on first n) ≤ length before
      → Putting first n before first 0 before 0
  put_begun first n before h fits =
      let e : n - 0 ≡ n = omega arith in
      record {
        within = omega arith;
        has = rw e h;
        writing = record { start = []; text = rw e refl; fits = fits; wrote = wrote_none before };
      }

  module _ {first : S} {n : ℕ} {before : List ℕ} {s : S} {i : ℕ} {after : List ℕ} {at : ℕ} (g : Putting first n before s i after at) where
    coming : i < n → Writing (texts piece on first n) before (piece s ++ texts piece on (on s) (n - (i + 1))) after at
    coming h = let e : n - i ≡ suc (n - (i + 1)) = omega arith in to_come (more s (n - i) (n - (i + 1)) e) g.writing

    pub put_room : i < n → at + length (piece s) ≤ length after
    put_room h = room (piece s) _ (coming h)

    pub put_more : i < n → Has (on s) (n - (i + 1)) → {later : List ℕ} {m : ℕ} → WroteAt (piece s) at after later m
        → Putting first n before (on s) (i + 1) later m
    put_more h k w = record { within = omega arith; has = k; writing = next w _ (coming h) }

    pub put_all : n ≤ i → Wrote (texts piece on first n) before after at
    put_all h = let e : n - i ≡ 0 = omega arith in all (to_come (none s (n - i) e) g.writing)

-- The texts of numbers, from i on, and one more: their size.
module _ (piece : ℕ → List ℕ) where
  texts-last : (i n : ℕ) → texts piece (λ i. i + 1) i (suc n) ≡ texts piece (λ i. i + 1) i n ++ piece (i + n)
  unfolding texts
  texts-last i zero = let e : i ≡ i + 0 = omega arith in append_none (piece i) ∙ ap piece e
  texts-last i (suc n) =
      let e : i + 1 + n ≡ i + suc n = omega arith in
      let l = texts piece (λ i. i + 1) (i + 1) n in
      ap (piece i ++◌) (texts-last (i + 1) n ∙ ap (λ j. l ++ piece j) e) ∙ sym (append_assoc (piece i) l (piece (i + suc n)))

  pub sized_more : (i n limit : ℕ) {s m : ℕ} → Sized (texts piece (λ i. i + 1) i n) (limit * n) s → Sized (piece (i + n)) limit m
      → Sized (texts piece (λ i. i + 1) i (n + 1)) (limit * (n + 1)) (s + m)
  sized_more i n limit y z =
      let l = length-append (texts piece (λ i. i + 1) i n) (piece (i + n)) in
      rw (add-one n) (record {
        size = omega (arith, y.size, z.size, ap length (texts-last i n), l);
        most = omega (arith, y.most, z.most, mul-suc limit n);
      })

-- Texts one behind the other are those of things, if each thing stands where its text is taken from.
module _ {S A : Type 0} (piece : S → List ℕ) (on : S → S) (text : A → List ℕ) (many : List A → List ℕ) (Stands : S → List A → Type 0) where
  pub texts_of : many [] ≡ [] → ((a : A) (xs : List A) → many (a ∷ xs) ≡ text a ++ many xs)
      → ((s : S) (a : A) (xs : List A) → Stands s (a ∷ xs) → (piece s ≡ text a) × Stands (on s) xs)
      → (s : S) (xs : List A) → Stands s xs → texts piece on s (length xs) ≡ many xs
  unfolding texts
  texts_of e f step s [] h = sym e
  texts_of e f step s (a ∷ xs) h =
      let x = step s a xs h in
      ap₂ (λ t u. t ++ u) x.0 (texts_of e f step (on s) xs x.1) ∙ sym (f a xs)

-- Texts one behind the other, told by other things.
module _ {S T : Type 0} (piece : S → List ℕ) (on : S → S) (text : T → List ℕ) (next : T → T) (of : T → S) where
  pub texts_along : ((t : T) → piece (of t) ≡ text t) → ((t : T) → on (of t) ≡ of (next t))
      → (t : T) (n : ℕ) → texts piece on (of t) n ≡ texts text next t n
  unfolding texts
  texts_along e f t zero = refl
  texts_along e f t (suc n) = ap₂ (λ t u. t ++ u) (e t) (ap (λ s. texts piece on s n) (f t) ∙ texts_along e f (next t) n)
