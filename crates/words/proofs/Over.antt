-- The laws of `run` and `over_at`, on lists of any element type, and of what is made of them: opened then written is inserted; kept then
-- closed is shrunk.
-- Assumes nothing.
use Prim.Native.Nat.{ℕ, ◌+◌, ◌-◌, ◌≤◌, ◌<◌}
use mathlib.Core.Path.{◌≡◌, refl, sym, ap, ◌∙◌}
use mathlib.Core.List.{List, [], ◌∷◌, ◌++◌, append_assoc}
use native.Mathlib.Numerals.{add-one}
use native.Mathlib.Nat.{add-zero}
use native.Mathlib.Omega.{arith}
use lib.ListN.{length, take, drop, get_or, set, replicate}
use lib.ListN.{length-append, length-take, length-drop, length-replicate, take-append-drop, get_or-append}
use lib.Seq.{drop-cons, length-take-le, take_at, drop_at, take-append-le, take-take, drop-drop, take-add, get_or-take, get_or-drop}
use lib.Seq.{drop-append-add, get_or-append-add, set_split}
use Rattle.words.specs.Words.{run, over_at, opened, closed, inserted, shrunk}

module _ {A : Type 0} where
  -- a run of no words
  pub run_none : (from : ℕ) (t : List A) → run from 0 t ≡ []
  unfolding run
  run_none from t = refl

  pub run_length : (from n : ℕ) (t : List A) → from + n ≤ length t → length (run from n t) ≡ n
  unfolding run
  run_length from n t h = simp (length-take, length-drop) (omega arith)

  pub run_add : (from n m : ℕ) (t : List A) → run from (n + m) t ≡ run from n t ++ run (from + n) m t
  unfolding run
  run_add from n m t = rw (take-add n m (drop from t), drop-drop n from t)

  -- a run of one word
  pub run-one : (from : ℕ) (t : List A) (z : A) → from < length t → run from 1 t ≡ get_or t from z ∷ []
  unfolding run
  run-one from t z h = rw (drop-cons t from z h)

  -- a run with one word more behind it
  pub run_more : (from n : ℕ) (t : List A) (z : A) → from + n < length t → run from (n + 1) t ≡ run from n t ++ (get_or t (from + n) z ∷ [])
  run_more from n t z h = rw (run_add from n 1 t, run-one (from + n) t z h)

  -- a run with one word more before it
  pub run_cons : (from n : ℕ) (t : List A) (z : A) → from < length t → run from (1 + n) t ≡ get_or t from z ∷ run (from + 1) n t
  run_cons from n t z h = rw (run_add from 1 n t, run-one from t z h)

  pub over_none : (a : ℕ) (t : List A) → over_at a [] t ≡ t
  unfolding over_at
  over_none a t = rw (add-zero a) (take-append-drop a t)

  pub over-one : (a : ℕ) (t : List A) (x : A) → a < length t → set t a x ≡ over_at a (x ∷ []) t
  unfolding over_at
  over-one a t x h = set_split t a x h ∙ rw (add-one a)

  module _ (a : ℕ) (X t : List A) (h : a ≤ length t) where
    front : length (take a t) ≡ a
    front = length-take-le a t h

    pub over-length : a + length X ≤ length t → length (over_at a X t) ≡ length t
    unfolding over_at
    over-length k = simp (length-append, length-take, length-drop) (omega arith)

    pub over-drop : (k : ℕ) → a + length X ≤ k → drop k (over_at a X t) ≡ drop k t
    unfolding over_at
    over-drop k q =
        let l : length (take a t ++ X) ≡ a + length X = simp (length-append, front) in
        let e : k ≡ length (take a t ++ X) + (k - (a + length X)) = omega arith in
        let f : a + length X + (k - (a + length X)) ≡ k = omega arith in
        rw (← append_assoc (take a t) X (drop (a + length X) t), e)
        (drop-append-add (take a t ++ X) (drop (a + length X) t) (k - (a + length X))
        ∙ drop-drop (k - (a + length X)) (a + length X) t ∙ rw (l))

    pub over-take : take (a + length X) (over_at a X t) ≡ take a t ++ X
    unfolding over_at
    over-take =
        let l : length (take a t ++ X) ≡ a + length X = simp (length-append, front) in
        rw (← append_assoc (take a t) X (drop (a + length X) t)) (take_at (take a t ++ X) (drop (a + length X) t) (a + length X) l)

    pub over-run : (from n : ℕ) → a + length X ≤ from → run from n (over_at a X t) ≡ run from n t
    unfolding run
    over-run from n q = rw (over-drop from q)

    pub over_above : (j : ℕ) (z : A) → a + length X ≤ j → get_or (over_at a X t) j z ≡ get_or t j z
    over_above j z q =
        let e : j ≡ j + 0 = omega arith in
        rw e (sym (get_or-drop j (over_at a X t) 0 z) ∙ rw (over-drop j q) (get_or-drop j t 0 z))

    pub over_below : (j : ℕ) (z : A) → j < a → get_or (over_at a X t) j z ≡ get_or t j z
    unfolding over_at
    over_below j z q =
        let l = front in
        get_or-append (take a t) (X ++ drop (a + length X) t) z j (omega arith) ∙ get_or-take a t j z q

    pub over-at : (i : ℕ) (z : A) → i < length X → get_or (over_at a X t) (a + i) z ≡ get_or X i z
    unfolding over_at
    over-at i z q =
        let l = front in
        let e : a + i ≡ length (take a t) + i = omega arith in
        ap (λ (j : ℕ). get_or (take a t ++ (X ++ drop (a + length X) t)) j z) e
        ∙ (get_or-append-add (take a t) (X ++ drop (a + length X) t) i z ∙ get_or-append X (drop (a + length X) t) z i q)

    -- more words behind those laid over
    pub over-then : (Y : List A) → over_at (a + length X) Y (over_at a X t) ≡ over_at a (X ++ Y) t
    unfolding over_at
    over-then Y =
        let e : a + length X + length Y ≡ a + length (X ++ Y) = simp length-append (omega arith) in
        rw (over-take, over-drop (a + length X + length Y) (omega arith), e) (simp append_assoc)

    -- one word more stored behind those laid over
    pub over_push : (x : A) → a + length X < length t → set (over_at a X t) (a + length X) x ≡ over_at a (X ++ (x ∷ [])) t
    over_push x k =
        let l = over-length (omega arith) in
        over-one (a + length X) (over_at a X t) x (omega arith) ∙ over-then (x ∷ [])

    -- words laid right before others
    pub over_under : (Y : List A) → a + length X ≤ length t → over_at a X (over_at (a + length X) Y t) ≡ over_at a (X ++ Y) t
    unfolding over_at
    over_under Y k =
        let b : ℕ = a + length X in
        let l : length (take b t) ≡ b = length-take-le b t k in
        let e : b + length Y ≡ a + length (X ++ Y) = simp length-append (omega arith) in
        let R : List A = Y ++ drop (b + length Y) t in
        let f : take a (take b t ++ R) ≡ take a t = take-append-le a (take b t) R (omega arith) ∙ take-take a b t (omega arith) in
        rw (f, drop_at (take b t) R b l, e) (simp append_assoc)

  -- What the moves come to.

  module _ (live at : ℕ) (t : List A) (h : at ≤ live) where
    -- opened behind the last live word, where nothing moves
    pub opened_none : (n : ℕ) → opened live live n t ≡ t
    unfolding opened
    opened_none n =
        let e : live - live ≡ 0 = omega arith in
        rw (e, run_none live t) (over_none (live + n) t)

    pub opened_length : (n : ℕ) → live + n ≤ length t → length (opened live at n t) ≡ length t
    unfolding opened
    opened_length n k =
        let m = run_length at (live - at) t (omega arith) in
        over-length (at + n) (run at (live - at) t) t (omega arith) (omega arith)

    -- opened by as many places as there are words to write, then written
    pub open_write : (new : List A) → live + length new ≤ length t → over_at at new (opened live at (length new) t) ≡ inserted live at new t
    unfolding opened inserted
    open_write new k = over_under at new t (omega arith) (run at (live - at) t) (omega arith)

    -- what opening leaves, written out
    pub opened_is : (n : ℕ) → live + n ≤ length t → opened live at n t ≡ take (at + n) t ++ (run at (live - at) t ++ drop (live + n) t)
    unfolding opened over_at
    opened_is n k =
        let m = run_length at (live - at) t (omega arith) in
        let e : at + n + length (run at (live - at) t) ≡ live + n = omega arith in
        rw e

  pub closed_is : (z : A) (live from to : ℕ) (t : List A) → to ≤ from → from ≤ live → live ≤ length t
      → closed z live from to t ≡ take to t ++ (run from (live - from) t ++ (replicate (from - to) z ++ drop live t))
  unfolding closed over_at
  closed_is z live from to t h k l =
      let m = run_length from (live - from) t (omega arith) in
      let Y : List A = run from (live - from) t ++ replicate (from - to) z in
      let e : to + length Y ≡ live = simp (length-append, length-replicate) (omega arith) in
      rw e (simp append_assoc)

  -- nothing taken out
  pub closed_none : (z : A) (live from : ℕ) (t : List A) → from ≤ live → live ≤ length t → closed z live from from t ≡ t
  unfolding run
  closed_none z live from t h k =
      let e : from - from ≡ 0 = omega arith in
      let f : from + (live - from) ≡ live = omega arith in
      let d : drop live t ≡ drop (live - from) (drop from t) = sym (drop-drop (live - from) from t ∙ rw f) in
      closed_is z live from from t (omega arith) h k ∙ rw (e, d, take-append-drop (live - from) (drop from t)) (take-append-drop from t)

  -- fewer words laid over those from `to` up to `from`, then the rest closed up to them
  pub keep_close : (z : A) (live from to : ℕ) (new t : List A) → to + length new ≤ from → from ≤ live → live ≤ length t
      → closed z live from (to + length new) (over_at to new t) ≡ shrunk z live from to new t
  unfolding closed shrunk
  keep_close z live from to new t h k l =
      rw (over-run to new t (omega arith) from (live - from) h) (over-then to new t (omega arith) _)

  -- The same of a table in parts.

  pub run-parts : (X B Y : List A) (a n : ℕ) → length X ≡ a → length B ≡ n → run a n (X ++ (B ++ Y)) ≡ B
  unfolding run
  run-parts X B Y a n e f = rw (drop_at X (B ++ Y) a e) (take_at B Y n f)

  pub over-parts : (X B Y new : List A) (a : ℕ) → length X ≡ a → length new ≡ length B → over_at a new (X ++ (B ++ Y)) ≡ X ++ (new ++ Y)
  unfolding over_at
  over-parts X B Y new a e f =
      let g : drop (a + length new) (X ++ (B ++ Y)) ≡ Y = rw (← e, f)
      (drop-append-add X (B ++ Y) (length B) ∙ drop_at B Y (length B) refl) in
      rw (take_at X (B ++ Y) a e, g)

  -- X, then B up to `live`, then room Z for the new words, behind which stands Y
  pub inserted_parts : (X B Z Y new : List A) (at live : ℕ) → length X ≡ at → at + length B ≡ live → length Z ≡ length new
      → inserted live at new (X ++ (B ++ (Z ++ Y))) ≡ X ++ (new ++ (B ++ Y))
  unfolding inserted
  inserted_parts X B Z Y new at live e f g =
      let n : length B ≡ live - at = omega arith in
      let m : length (new ++ B) ≡ length (B ++ Z) = simp length-append (omega arith) in
      rw (run-parts X B (Z ++ Y) at (live - at) e n, ← append_assoc B Z Y)
      (over-parts X (B ++ Z) Y (new ++ B) at e m ∙ rw (append_assoc new B Y))

  -- X, then B whose words are replaced by fewer, then C up to `live`, then Y
  pub shrunk_parts : (z : A) (X B C Y new : List A) (to from live : ℕ) → length X ≡ to → to + length B ≡ from → from + length C ≡ live
      → length new ≤ length B
      → shrunk z live from to new (X ++ (B ++ (C ++ Y))) ≡ X ++ (new ++ (C ++ (replicate (length B - length new) z ++ Y)))
  unfolding shrunk
  shrunk_parts z X B C Y new to from live e f g h =
      let b : length (X ++ B) ≡ from = simp length-append (omega arith) in
      let c : length C ≡ live - from = omega arith in
      let d : from - (to + length new) ≡ length B - length new = omega arith in
      let R : List A = C ++ replicate (length B - length new) z in
      let m : length (new ++ R) ≡ length (B ++ C) = simp (length-append, length-replicate) (omega arith) in
      let r : run from (live - from) (X ++ (B ++ (C ++ Y))) ≡ C = rw (← append_assoc X B (C ++ Y))
      (run-parts (X ++ B) C Y from (live - from) b c) in
      rw (r, d, ← append_assoc B C Y) (over-parts X (B ++ C) Y (new ++ R) to e m ∙ simp append_assoc)
