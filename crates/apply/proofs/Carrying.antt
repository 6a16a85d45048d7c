-- An operation carried out on memory that holds a document.
-- Assumes nothing.
use Prim.Native.Nat.{ℕ, ◌+◌, ◌*◌, ◌<◌}
use native.Mathlib.Omega.{arith}
use mathlib.Core.Path.{◌≡◌, refl, sym, ap, ap₂, ◌∙◌, subst}
use mathlib.Core.Bool.{Bool, true, false, cond, true≢false, false≢true}
use mathlib.Core.List.{List, ◌++◌}
use lib.ListN.{length, take}
use Rattle.std.specs.Prelude.{Ok, Err}
use borrow.Author.Tests.{le-leb}
use Rattle.meaning.specs.Ids.{counter_of, raise}
use Rattle.meaning.specs.Places.{Document}
use Rattle.meaning.specs.Apply.{apply}
use Rattle.meaning.specs.Limits.{fits}
use Rattle.meaning.specs.Judge.{not_above, repeated, own_deps_behind, astray, downward}
use Rattle.meaning.specs.Receive.{ready_in}
use Rattle.meaning.specs.Valid.{ValidOperation}
use Rattle.meaning.specs.Ways.{steps}
use Rattle.meaning.specs.Ways as M
use Rattle.meaning.specs.Sheet.{Row, rows_of}
use Rattle.meaning.specs.declared.Counters.{Counters}
use Rattle.theorems.specs.Accepting.{fits_limits}
use Rattle.theorems.specs.Soundness.{sound_apply}
use Rattle.rows.specs.Balanced.{passed-rest, fresh_parts}
use Rattle.rows.specs.Blocks.{passed, rest, key_below, over, apply_rows}
use Rattle.rows.proofs.Follows.{apply_rows_lem}
use Rattle.rows.specs.Within.{under_rows, apply_under}
use Rattle.rows.specs.Counting.{Fresh}
use Rattle.rows.specs.Room.{sound_fresh}
use Rattle.counters.specs.Counted.{raised}
use Rattle.message.specs.Means.{Means}
use Rattle.message.specs.declared.Operation.{Operation}
use Rattle.tables.specs.declared.Tables.{Tables}
use Rattle.tables.specs.Holding.{Holds}
use Rattle.tables.specs.declared.Counts.{Counts}
use Rattle.tables.specs.declared.Position.{Position}
use Rattle.words.specs.Gap.{Gap}
use Rattle.words.proofs.Gap.{gap_closed}
use Rattle.act.specs.Acting.{marks_by, with_marks}
use Rattle.descend.specs.Doing.{Descends}
use Rattle.act.proofs.Gaps.{marks_most}
use Rattle.judging.specs.Judging.{Judgement, ReadyJudgement, is_taken, judgement_of, by_counters, ready_verdict, verdict_by, verdict, Newer, Tops, Judges}
use Rattle.judging.specs.declared.Refusal.TheVariants as F
use Rattle.judging.specs.declared.Readiness.TheVariants as B
use Rattle.judging.specs.declared.Unfit.TheVariants as Y
use Rattle.judging.proofs.Tops.{rows_top}
use Rattle.judging.proofs.Verdicts.{whole, steps-whole, deed_whole, way_part, cut_short}
use Rattle.judging.proofs.Judged.{newer, here_stores}
use Rattle.apply.specs.Applying.{CarriesOut, TakesAt, TakesOn, Applies}
use Rattle.keeping.specs.declared.Document as K

module _ (T : Tables) (c : Counts) (s : Position) (op : Operation) where
  pub carry_long : 8 < op.way.n → CarriesOut T c s op c T
  carry_long l D o S m val y t = absurd (omega (arith, l, (steps-whole op o m val).0, (steps-whole op o m val).1))

  -- no operation means a way with more keys than there are words for
  pub carry_cut : length op.way.keys < 3 * op.way.n → CarriesOut T c s op c T
  carry_cut l D o S m val y t = absurd (cut_short op o m val l)

module _ (T U : Tables) (c e : Counts) (s : Position) (op : Operation) where
  same_rows : (o : M.Operation) (rs : List Row) → Means op o
      → under_rows op.act.id op.act.deps.at 1 (whole o) rs ≡ apply_rows o rs
  same_rows o rs m = ap₂ (λ i d. under_rows i d 1 (whole o) rs) m.id m.deps ∙ sym (apply_under o rs)

  -- below the root no mark is left to be put in: the gap is closed
  pub carry_way : (way : List ℕ) (p : ℕ) → way ≡ take (3 * op.way.n) op.way.keys → Descends op.act 1 way s c T e p U
      → CarriesOut T c s op e U
  unfolding steps
  carry_way way p part X D o S m val y t =
      let a = op.act in
      let l = fits_limits D S.limits in
      let r = val.edit.reach in
      let over-it = over 1 (key_below o.top) in
      let H = subst (Holds T c) (sym (passed-rest over-it (rows_of D))) S.rows in
      let f = subst (λ i. Fresh i (rows_of D)) (sym m.id) (sound_fresh D o.id S.sound y) in
      let d = X (passed over-it (rows_of D)) (rest over-it (rows_of D)) (whole o) H t (part ∙ way_part op o m val)
      (val.edit.first, val.edit.rest) (deed_whole op o m val) (omega (arith, r))
      (fresh_parts a.id over-it (rows_of D) f).1 (omega arith) (record {
        rows_spare = omega (arith, r, l.places, S.rows.rows_are);
        marks_spare = omega (arith, r, l.marks, S.rows.marks_are);
        values_spare = omega (arith, l.values, S.rows.values_are);
      }) in
      let none : marks_by a.deed 0 ≡ 0 = omega (arith, marks_most a.deed 0) in
      let shut : d.table ≡ U.marks =
      sym (gap_closed p U.marks d.table (subst (λ g. Gap g p U.marks d.table) none d.gap)) in
      let rows = passed over-it (rows_of D) ++ under_rows a.id a.deps.at 1 (whole o) (rest over-it (rows_of D)) in
      subst (Holds U e)
      (rows_top 1 o.top o.way (rows_of D) a.id a.deps.at ∙ (same_rows o (rows_of D) m ∙ apply_rows_lem o D))
      (subst (λ t. Holds (with_marks U t) e rows) shut d.is.holds)

-- An operation that is taken.

-- by the counters
taken_ready : (a b c d : Bool) (y : ReadyJudgement)
    → is_taken (verdict_by (cond a (Err F.Counter) (cond b (Err F.Repeat) (cond c (Err F.OwnDeps) (cond d (Ok B.Ready) (Ok B.Early))))) y)
    ≡ true
    → (b ≡ false) × (is_taken (judgement_of y) ≡ true)
taken_ready true b c d y t = absurd (false≢true t)
taken_ready false true c d y t = absurd (false≢true t)
taken_ready false false true d y t = absurd (false≢true t)
taken_ready false false false true y t = (refl, t)
taken_ready false false false false y t = absurd (false≢true t)

-- by the rest
taken_is : (y : ReadyJudgement) → is_taken (judgement_of y) ≡ true → y ≡ Ok tt
taken_is (Ok u) t = refl
taken_is (Err y) t = absurd (false≢true t)

abbrev fit_by : Bool → Bool → Bool → ReadyJudgement
fit_by a b c = cond a (Err Y.NoElement) (cond b (Err Y.NotSmaller) (cond c (Ok tt) (Err Y.NoRoom)))

taken_fits : (a b c : Bool) → fit_by a b c ≡ Ok tt → c ≡ true
taken_fits true b c t = absurd (false≢true (ap (λ y. is_taken (judgement_of y)) t))
taken_fits false true c t = absurd (false≢true (ap (λ y. is_taken (judgement_of y)) t))
taken_fits false false true t = refl
taken_fits false false false t = absurd (false≢true (ap (λ y. is_taken (judgement_of y)) t))

room-left : (o : M.Operation) (D : Document) → ready_verdict o D ≡ Ok tt → fits (apply o D) ≡ true
unfolding ready_verdict
room-left o D t = taken_fits (astray D o) (downward o) (fits (apply o D)) t

-- a verdict that takes it: it is newer, and was judged so where it is ready
record Taken (o : M.Operation) (D : Document) : Type 0 where
  new : Newer D o
  is : ready_verdict o D ≡ Ok tt

verdict_taken : (o : M.Operation) (D : Document) → is_taken (verdict o D) ≡ true → Taken o D
unfolding verdict by_counters
verdict_taken o D t =
    let a = taken_ready (not_above o) (repeated D.seen o) (own_deps_behind D.seen o) (ready_in D o) (ready_verdict o D) t in
    record { new = newer D o a.0; is = taken_is (ready_verdict o D) a.1 }

raised_seen : (s : List ℕ) (o : M.Operation) → ValidOperation o → raised s o.id ≡ raise s o.id
unfolding raised
raised_seen s o val = rw (le-leb (counter_of o.id) 4294967295 val.id.high)

module _ (d : K.Document) (op : Operation) where
  pub takes_at : (U : Tables) (e : Counts) (after : Counters) (s : Position) → CarriesOut d.tables d.counts s op e U
      → after.at ≡ raised d.seen.at op.act.id → TakesAt d s op (record { tables = U; counts = e; seen = after })
  unfolding apply
  takes_at U e after s C r D o S m val n y t =
      record {
        rows = C D o (here_stores d.tables d.counts d.seen.at D S) m val n t;
        counters = r ∙ (ap₂ raised S.counters m.id ∙ raised_seen D.seen o val);
        sound = sound_apply o D val n S.sound;
        limits = room-left o D y;
      }

  pub takes_on : (e : K.Document) (s : Position) → Tops d.tables d.counts op.way.keys s → TakesAt d s op e → TakesOn d op e
  takes_on e s P K D o S m val y =
      let k = verdict_taken o D y in
      K D o S m val k.new k.is (P D o (here_stores d.tables d.counts d.seen.at D S) m.edit.keys val)

  module _ (a : Judgement) (G : Judges d.tables d.counts d.seen op a) where
    pub applies_taken : (e : K.Document) → is_taken a ≡ true → TakesOn d op e → Applies d op a e
    applies_taken e t K = record {
      answers = G;
      takes = λ D o S m val y. K D o S m val (ap is_taken (sym (G D o S m val)) ∙ t);
      refuses = λ y. absurd (true≢false (sym t ∙ y));
    }

    pub applies_refused : is_taken a ≡ false → Applies d op a d
    applies_refused t = record {
      answers = G;
      takes = λ D o S m val y. absurd (true≢false (sym y ∙ t));
      refuses = λ y. refl;
    }
