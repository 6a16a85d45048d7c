-- A table with a gap in memory: none is open at first, a word put in makes the gap smaller by one, and at last the memory is the table.
-- Assumes nothing.
use Prim.Native.Nat.{ℕ, ◌+◌, ◌-◌, ◌≤◌, ◌<◌}
use mathlib.Core.Path.{◌≡◌, refl, sym, ap, ◌∙◌}
use mathlib.Core.List.{List, [], ◌∷◌, ◌++◌}
use native.Mathlib.Nat.{add-zero}
use native.Mathlib.Omega.{arith}
use lib.ListN.{length, get_or, set, replicate, length-set, get_or-replicate}
use lib.Seq.{ext_get_or, get_or-set_same, get_or-set_other, get_or-append-add}
use Rattle.theorems.specs.Decide.{Tri, less, same, more, tri}
use Rattle.words.specs.Words.{run, over_at, opened, inserted, pad}
use Rattle.words.specs.Gap.{Gap}
use Rattle.words.proofs.Over.{run_length, over-length, over_above, over_below, over-at, opened_length}
use Rattle.words.proofs.Moves.{run_at}

-- no gap
pub gap_closed : (p : ℕ) (m t : List ℕ) → Gap 0 p m t → m ≡ t
gap_closed p m t G = ext_get_or 0 m t G.long (λ j h. go j (omega (arith, G.long, h)) (tri j p))
  where
    go : (j : ℕ) → j < length t → Tri j p → get_or m j 0 ≡ get_or t j 0
    go j h (less l) = G.front j l
    go j h (same e) = rw (add-zero j) at (G.back j (omega (arith, e)) (omega arith))
    go j h (more l) = rw (add-zero j) at (G.back j (omega (arith, l)) (omega arith))

-- zeros behind the live words
pub zeros-behind : (n : ℕ) (L : List ℕ) (j : ℕ) → length L ≤ j → j < n → get_or (pad n L) j 0 ≡ 0
zeros-behind n L j h k =
    let e : j ≡ length L + (j - length L) = omega arith in
    ap (λ (i : ℕ). get_or (pad n L) i 0) e
    ∙ (get_or-append-add L (replicate (n - length L) 0) (j - length L) 0 ∙ get_or-replicate (n - length L) (j - length L) 0 0 (omega arith))

-- where zeros stand, a gap stands
pub gap_open : (g live : ℕ) (t : List ℕ) → live + g ≤ length t → ((j : ℕ) → live ≤ j → j < length t → get_or t j 0 ≡ 0) → Gap g live t t
gap_open g live t h z = record {
  long = refl;
  fits = h;
  front = λ j l. refl;
  back = λ j l k. z (j + g) (omega arith) k ∙ sym (z j l (omega arith));
}

-- the words before the gap
pub gap_run : (g p from n : ℕ) (m t : List ℕ) → Gap g p m t → from + n ≤ p → run from n m ≡ run from n t
gap_run g p from n m t G h =
    let a : length (run from n m) ≡ n = run_length from n m (omega (arith, G.long, G.fits)) in
    let b : length (run from n t) ≡ n = run_length from n t (omega (arith, G.fits)) in
    ext_get_or 0 (run from n m) (run from n t) (a ∙ sym b)
    (λ j k. run_at from n j m (omega (arith, a, k))
    ∙ (G.front (from + j) (omega (arith, a, k)) ∙ sym (run_at from n j t (omega (arith, a, k)))))

-- The words of `opened`, one by one.
module _ (live at n : ℕ) (t : List ℕ) (h : at ≤ live) (k : live + n ≤ length t) where
  moved : length (run at (live - at) t) ≡ live - at
  moved = run_length at (live - at) t (omega arith)

  opened_below : (j : ℕ) → j < at + n → get_or (opened live at n t) j 0 ≡ get_or t j 0
  unfolding opened
  opened_below j q = over_below (at + n) (run at (live - at) t) t (omega arith) j 0 q

  opened_moved : (j : ℕ) → at ≤ j → j < live → get_or (opened live at n t) (j + n) 0 ≡ get_or t j 0
  unfolding opened
  opened_moved j l q =
      let e : j + n ≡ at + n + (j - at) = omega arith in
      let f : at + (j - at) ≡ j = omega arith in
      ap (λ (i : ℕ). get_or (over_at (at + n) (run at (live - at) t) t) i 0) e
      ∙ (over-at (at + n) (run at (live - at) t) t (omega arith) (j - at) 0 (omega (arith, moved))
      ∙ (run_at at (live - at) (j - at) t (omega arith) ∙ ap (λ (i : ℕ). get_or t i 0) f))

  opened_above : (j : ℕ) → live + n ≤ j → get_or (opened live at n t) j 0 ≡ get_or t j 0
  unfolding opened
  opened_above j q = over_above (at + n) (run at (live - at) t) t (omega arith) j 0 (omega (arith, moved))

-- The words of `inserted`, one by one.
module _ (live at x : ℕ) (t : List ℕ) (h : at ≤ live) (k : live < length t) where
  X : List ℕ
  X = (x ∷ []) ++ run at (live - at) t

  X-long : length X ≡ live - at + 1
  unfolding X
  X-long = omega (arith, run_length at (live - at) t (omega arith))

  inserted_long : length (inserted live at (x ∷ []) t) ≡ length t
  unfolding inserted X
  inserted_long = over-length at X t (omega arith) (omega (arith, X-long))

  inserted_below : (j : ℕ) → j < at → get_or (inserted live at (x ∷ []) t) j 0 ≡ get_or t j 0
  unfolding inserted X
  inserted_below j q = over_below at X t (omega arith) j 0 q

  inserted_here : get_or (inserted live at (x ∷ []) t) at 0 ≡ x
  unfolding inserted X
  inserted_here =
      let e : at ≡ at + 0 = omega arith in
      ap (λ (i : ℕ). get_or (over_at at X t) i 0) e ∙ over-at at X t (omega arith) 0 0 (omega (arith, X-long))

  inserted_moved : (j : ℕ) → at ≤ j → j < live → get_or (inserted live at (x ∷ []) t) (j + 1) 0 ≡ get_or t j 0
  unfolding inserted X
  inserted_moved j l q =
      let e : j + 1 ≡ at + (1 + (j - at)) = omega arith in
      let f : at + (j - at) ≡ j = omega arith in
      ap (λ (i : ℕ). get_or (over_at at X t) i 0) e
      ∙ (over-at at X t (omega arith) (1 + (j - at)) 0 (omega (arith, X-long))
      ∙ (get_or-append-add (x ∷ []) (run at (live - at) t) (j - at) 0
      ∙ (run_at at (live - at) (j - at) t (omega arith) ∙ ap (λ (i : ℕ). get_or t i 0) f)))

  inserted_above : (j : ℕ) → live < j → get_or (inserted live at (x ∷ []) t) j 0 ≡ get_or t j 0
  unfolding inserted X
  inserted_above j q = over_above at X t (omega arith) j 0 (omega (arith, X-long))

-- A word is put in before the gap: the words between them move up over the gap, and a smaller gap stands before them.
module _ (g p q live x : ℕ) (m t : List ℕ) (G : Gap g p m t) (some : 0 < g) (h : q ≤ p) (k : q ≤ live) (l : live < length t)
    (z : (j : ℕ) → live ≤ j → j < length t → get_or t j 0 ≡ 0) where
  O : List ℕ
  O = opened p q g m

  O-long : length O ≡ length t
  unfolding O
  O-long = opened_length p q m h g (omega (arith, G.long, G.fits)) ∙ G.long

  -- a word behind the new one, in memory
  behind_memory : (i : ℕ) → q ≤ i → i + g < length t → get_or O (i + g) 0 ≡ get_or t i 0
  unfolding O
  behind_memory i a b = go (tri i p)
    where
      go : Tri i p → get_or (opened p q g m) (i + g) 0 ≡ get_or t i 0
      go (less c) = opened_moved p q g m h (omega (arith, G.long, G.fits)) i a c ∙ G.front i c
      go (same e) = opened_above p q g m h (omega (arith, G.long, G.fits)) (i + g) (omega (arith, e)) ∙ G.back i (omega (arith, e)) b
      go (more c) = opened_above p q g m h (omega (arith, G.long, G.fits)) (i + g) (omega (arith, c)) ∙ G.back i (omega (arith, c)) b

  -- and in the table
  behind-table : (i : ℕ) → q ≤ i → i + 1 < length t → get_or (inserted live q (x ∷ []) t) (i + 1) 0 ≡ get_or t i 0
  behind-table i a b = go (tri i live)
    where
      far : live ≤ i → get_or (inserted live q (x ∷ []) t) (i + 1) 0 ≡ get_or t i 0
      far c = inserted_above live q x t k l (i + 1) (omega arith) ∙ (z (i + 1) (omega arith) b ∙ sym (z i c (omega arith)))

      go : Tri i live → get_or (inserted live q (x ∷ []) t) (i + 1) 0 ≡ get_or t i 0
      go (less c) = inserted_moved live q x t k l i a c
      go (same e) = far (omega (arith, e))
      go (more c) = far (omega (arith, c))

  gap_behind : (j : ℕ) → q ≤ j → j + (g - 1) < length t → get_or (set O (q + g - 1) x) (j + (g - 1)) 0 ≡ get_or (inserted live q (x ∷ []) t) j 0
  gap_behind j a b = go (tri q j)
    where
      go : Tri q j → get_or (set O (q + g - 1) x) (j + (g - 1)) 0 ≡ get_or (inserted live q (x ∷ []) t) j 0
      go (less c) =
          let e : j + (g - 1) ≡ j - 1 + g = omega arith in
          let f : j - 1 + 1 ≡ j = omega arith in
          get_or-set_other O (q + g - 1) (j + (g - 1)) x 0 (λ y. omega (arith, y))
          ∙ (ap (λ (i : ℕ). get_or O i 0) e ∙ (behind_memory (j - 1) (omega arith) (omega arith)
          ∙ (sym (behind-table (j - 1) (omega arith) (omega arith)) ∙ ap (λ (i : ℕ). get_or (inserted live q (x ∷ []) t) i 0) f)))
      go (same c) =
          let e : j + (g - 1) ≡ q + g - 1 = omega (arith, c) in
          ap (λ (i : ℕ). get_or (set O (q + g - 1) x) i 0) e
          ∙ (get_or-set_same O (q + g - 1) x 0 (omega (arith, O-long)) ∙ (sym (inserted_here live q x t k l)
          ∙ ap (λ (i : ℕ). get_or (inserted live q (x ∷ []) t) i 0) c))
      go (more c) = absurd (omega (arith, a, c))

  gap_before : (j : ℕ) → j < q → get_or (set O (q + g - 1) x) j 0 ≡ get_or (inserted live q (x ∷ []) t) j 0
  unfolding O
  gap_before j a =
      get_or-set_other O (q + g - 1) j x 0 (λ y. omega (arith, y))
      ∙ (opened_below p q g m h (omega (arith, G.long, G.fits)) j (omega arith)
      ∙ (G.front j (omega arith) ∙ sym (inserted_below live q x t k l j a)))

  pub gap_put : Gap (g - 1) q (set (opened p q g m) (q + g - 1) x) (inserted live q (x ∷ []) t)
  unfolding O
  gap_put =
      let e = inserted_long live q x t k l in
      record {
        long = simp length-set (O-long ∙ sym e);
        fits = omega (arith, e, G.fits);
        front = gap_before;
        back = λ j a b. gap_behind j a (omega (arith, e, b));
      }
