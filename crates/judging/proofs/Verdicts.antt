-- The verdicts 8, 9 and 10 on memory that holds a document.
-- Assumes nothing.
use Prim.Native.Nat.{ℕ, ◌*◌, ◌-◌, ◌≤◌, ◌<◌}
use native.Mathlib.Omega.{arith}
use mathlib.Core.Path.{◌≡◌, refl, sym, ap, ap₂, ◌∙◌, subst}
use mathlib.Core.Bool.{Bool, true, false, not, true≢false, false≢true}
use mathlib.Core.List.{List}
use Rattle.std.specs.Prelude.{Ok, Err, is_ok}
use Rattle.std.specs.Result.{result_or}
use lib.ListN.{length, get_or, take}
use Rattle.meaning.specs.Places.{Document}
use Rattle.meaning.specs.Apply.{apply}
use Rattle.meaning.specs.Limits.{fits}
use Rattle.meaning.specs.Judge.{upward, astray, downward}
use Rattle.meaning.specs.Valid.{ValidOperation}
use Rattle.meaning.specs.Ways.{into_map, steps}
use Rattle.meaning.specs.Ways as M
use Rattle.meaning.specs.Sheet.{rows_of}
use Rattle.rows.specs.Balanced.{passed-rest}
use Rattle.rows.specs.Blocks.{passed, rest, key_below, over}
use Rattle.rows.specs.Locate.{elements_found_rows, astray_rows_lem}
use Rattle.rows.specs.Counting.{change}
use Rattle.rows.specs.Within.{under_change, change_under, astray_under}
use Rattle.message.specs.Means.{way_words, deed_of, pad, Means}
use Rattle.message.specs.declared.Operation.{Operation}
use Rattle.message.proofs.Padded.{pad_long, take-pad}
use Rattle.tables.specs.declared.Tables.{Tables}
use Rattle.tables.specs.Holding.{Holds, four}
use Rattle.tables.specs.declared.Counts.{Counts}
use Rattle.tables.specs.declared.Position.{Position}
use Rattle.deeds.specs.Deeds.{is_delete, is_insert}
use Rattle.forecast.specs.Weighs.{gives_plain, Alike, Forecast, weight_of, Weighs, Weighed}
use Rattle.forecast.specs.declared.Weight.{Weight}
use Rattle.keeping.specs.Storing.{Stores}
use Rattle.judging.specs.Judging.{ReadyJudgement, Small, has_room, goes_down, ready_verdict, top_position, Newer, JudgesReady}
use Rattle.judging.specs.declared.Unfit.{Unfit}
use Rattle.judging.specs.declared.Unfit.TheVariants as Y
use Rattle.judging.proofs.Words.{words_count, down_pad}
use Rattle.judging.proofs.Rooms.{weight_small, room-is}
use Rattle.judging.proofs.Tops.{found_top, change_top}

-- the whole way, from the root
abbrev pub whole : M.Operation → M.Way
whole o = into_map o.top o.way

twice : (b : Bool) → b ≡ not (not b)
twice true = refl
twice false = refl

-- the numbers of a way that is led, and else the refusal
pub or_led : (x : Forecast) (f : Unfit) (u : Weight) → result_or x (Err f) ≡ Ok u → x ≡ Ok u
or_led (Ok w) f u e = let i : w ≡ u = cc in ap Ok i
or_led (Err w) f u e = absurd (false≢true (ap is_ok e))

pub or_lost : (x : Forecast) (f y : Unfit) → result_or x (Err f) ≡ Err y → (is_ok x ≡ false) × (y ≡ f)
or_lost (Ok w) f y e = absurd (true≢false (ap is_ok e))
or_lost (Err w) f y e = (refl, cc)

-- 9, of an operation by the words of its last key
abbrev goes_down_at : Operation → ℕ → ℕ → Bool
goes_down_at op hi len = goes_down op.act.deed op.act.id hi len

module _ (op : Operation) (o : M.Operation) (e : Means op o) (v : ValidOperation o) where
  pub steps-whole : (op.way.n ≡ steps (whole o)) × (steps (whole o) ≤ 8)
  unfolding steps
  steps-whole = (e.edit.count, omega (arith, v.edit.reach))

  pub words_whole : op.way.keys ≡ pad 24 (way_words (whole o))
  unfolding way_words
  words_whole = e.edit.keys

  pub deed_whole : op.act.deed ≡ deed_of (whole o)
  unfolding deed_of
  deed_whole = e.edit.deed

  -- the words that a way has, of the 24
  pub way_part : take (3 * op.way.n) op.way.keys ≡ way_words (whole o)
  way_part =
      let s = steps-whole in
      let c = words_count (whole o) in
      let l : 3 * op.way.n ≡ length (way_words (whole o)) = omega (arith, s.0, c) in
      ap₂ (λ n ks. take n ks) l words_whole ∙ take-pad 24 (way_words (whole o)) (omega (arith, s.1, c))

  pub cut_short : length op.way.keys < 3 * op.way.n → ⊥
  cut_short l = omega (arith, l, ap length words_whole, pad_long 24 (way_words (whole o)), steps-whole.0, steps-whole.1)

  pub down_is : goes_down_at op (get_or op.way.keys (3 * op.way.n - 3) 0) (get_or op.way.keys (3 * op.way.n - 1) 0) ≡ downward o
  unfolding downward upward
  down_is =
      let s = steps-whole in
      rw (deed_whole, e.id, words_whole, s.0) (down_pad o.id (whole o) tt s.1)

module _ (h k m v : List ℕ) (c : Counts) (op : Operation) (way : List ℕ) (part : way ≡ take (3 * op.way.n) op.way.keys)
    (from : Position) (x : Forecast) (W : Weighed h k m v c.rows from op.act way x) where
  module _ (D : Document) (o : M.Operation) (S : Stores (four h k m v) c D.seen D) (e : Means op o)
      (val : ValidOperation o) (f : from ≡ top_position o D) where
    weighed : Weighs (not (astray D o)) (change o (rows_of D)) x
    unfolding steps
    weighed =
        let p = over 1 (key_below o.top) in
        let R = rest p (rows_of D) in
        let H = subst (Holds (four h k m v) c) (sym (passed-rest p (rows_of D))) S.rows in
        let d = op.act.deps.at in
        let q = deed_whole op o e val in
        let t : Alike op.act.deed (deed_of (whole o)) =
        record { deletes = ap is_delete q; inserts = ap is_insert q; plain = ap gives_plain q } in
        let w = W.is c (passed p (rows_of D)) R (whole o) H refl f (part ∙ way_part op o e val) t
        (val.edit.first, val.edit.rest) (omega (arith, val.edit.reach)) in
        let a : elements_found_rows d 1 (whole o) R ≡ not (astray D o) =
        found_top 1 o.top o.way (rows_of D) d ∙ (ap (λ d. elements_found_rows d 1 (whole o) (rows_of D)) e.deps
        ∙ (twice (elements_found_rows o.deps 1 (whole o) (rows_of D)) ∙ ap not (sym (astray_under o (rows_of D)) ∙ astray_rows_lem o D))) in
        let b : under_change d 1 (whole o) R ≡ change o (rows_of D) =
        change_top 1 o.top o.way (rows_of D) d
        ∙ (ap (λ d. under_change d 1 (whole o) (rows_of D)) e.deps ∙ sym (change_under o (rows_of D))) in
        subst (λ l. Weighs l (change o (rows_of D)) x) a (subst (λ q. Weighs (elements_found_rows d 1 (whole o) R) q x) b w)

    long : length way ≤ 24
    long = omega (arith, ap length (part ∙ way_part op o e val), words_count (whole o), (steps-whole op o e val).1)

    stray : (b : Bool) → is_ok x ≡ b → astray D o ≡ not b
    stray b t = twice (astray D o) ∙ ap not (sym weighed.found_is ∙ t)

    small : Newer D o → Small c (weight_of x)
    small y =
        weight_small (four h k m v) c D o S y (weight_of x) weighed.counted (omega (arith, W.few_places, long)) (omega (arith, W.few_marks, long))

    room : Newer D o → has_room c (weight_of x) ≡ fits (apply o D)
    room y = room-is (four h k m v) c D o S y (weight_of x) weighed.counted (omega (arith, W.few_places, long)) (omega (arith, W.few_marks, long))

  pub judge_eight : is_ok x ≡ false → JudgesReady (four h k m v) c from op (Err Y.NoElement)
  unfolding ready_verdict
  judge_eight t D o S e val y f = rw (stray D o S e val f false t)

  module _ (u : Weight) (t : x ≡ Ok u) where
    led : (D : Document) (o : M.Operation) → Stores (four h k m v) c D.seen D → Means op o → ValidOperation o → from ≡ top_position o D
        → astray D o ≡ false
    led D o S e val f = stray D o S e val f true (ap is_ok t)

    fit : (D : Document) (o : M.Operation) → Stores (four h k m v) c D.seen D → Means op o → ValidOperation o → from ≡ top_position o D
        → Newer D o → has_room c u ≡ fits (apply o D)
    fit D o S e val f y = subst (λ x. has_room c (weight_of x) ≡ fits (apply o D)) t (room D o S e val f y)

    pub judge_large : (Small c u → ⊥) → (r : ReadyJudgement) → JudgesReady (four h k m v) c from op r
    judge_large l r D o S e val y f = absurd (l (subst (λ x. Small c (weight_of x)) t (small D o S e val f y)))

    module _ (hi len : ℕ) (a : hi ≡ get_or op.way.keys (3 * op.way.n - 3) 0) (b : len ≡ get_or op.way.keys (3 * op.way.n - 1) 0) where
      down : (o : M.Operation) → Means op o → ValidOperation o → (y : Bool) → goes_down_at op hi len ≡ y → downward o ≡ y
      down o e val y g = sym (down_is op o e val) ∙ (rw (← a, ← b) g)

      pub judge_nine : goes_down_at op hi len ≡ true → JudgesReady (four h k m v) c from op (Err Y.NotSmaller)
      unfolding ready_verdict
      judge_nine g D o S e val y f = rw (led D o S e val f, down o e val true g)

      pub judge_ten : goes_down_at op hi len ≡ false → has_room c u ≡ false → JudgesReady (four h k m v) c from op (Err Y.NoRoom)
      unfolding ready_verdict
      judge_ten g r D o S e val y f =
          rw (led D o S e val f, down o e val false g, sym (fit D o S e val f y) ∙ r)

      pub judge_taken : goes_down_at op hi len ≡ false → has_room c u ≡ true → JudgesReady (four h k m v) c from op (Ok tt)
      unfolding ready_verdict
      judge_taken g r D o S e val y f =
          rw (led D o S e val f, down o e val false g, sym (fit D o S e val f y) ∙ r)

-- a way has one to eight keys
module _ (T : Tables) (c : Counts) (from : Position) (op : Operation) (r : ReadyJudgement) where
  pub judge_long : 8 < op.way.n → JudgesReady T c from op r
  judge_long l D o S e val y f =
      absurd (omega (arith, l, (steps-whole op o e val).0, (steps-whole op o e val).1))

  pub judge_none : op.way.n ≡ 0 → JudgesReady T c from op r
  judge_none l D o S e val y f = absurd (omega (arith, l, e.edit.count))

  pub judge_cut : length op.way.keys < 3 * op.way.n → JudgesReady T c from op r
  judge_cut l D o S e val y f = absurd (cut_short op o e val l)
