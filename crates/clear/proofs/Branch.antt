-- A place and the places under it cleared: how the pass goes from row to row, and where it stops.
-- Assumes nothing.
use Prim.Native.Nat.{ℕ, suc, ◌+◌, ◌-◌, ◌%◌, ◌≤◌, ◌<◌}
use native.Mathlib.Omega.{arith}
use mathlib.Core.Path.{◌≡◌, refl, sym, ap, ◌∙◌}
use mathlib.Core.Bool.{Bool, true, false, cond}
use mathlib.Core.List.{List, [], ◌∷◌, ◌++◌, map, append_assoc, append-nil, map-append}
use lib.Dec.{ltb}
use lib.ListN.{length, get_or}
use borrow.Author.Tests.{ltb-true}
use Rattle.meaning.specs.Members.{All}
use Rattle.meaning.specs.Sheet.{Row}
use Rattle.theorems.specs.Members.{all_append}
use Rattle.theorems.specs.Fit.{Deep}
use Rattle.rows.specs.Blocks.{passed, rest, deeper, clear_row}
use Rattle.rows.specs.Balanced.{passed-rest}
use Rattle.rows.specs.Spans.{Splits, split_all, deep_deeper, Shallow, shallow_stop}
use Rattle.tables.specs.Finds.{depth_in_lem}
use Rattle.tables.specs.Holding.{Good}
use Rattle.tables.specs.declared.Counts.{Counts}
use Rattle.clear.specs.Clear.{Pass, Gaps, Starts, ClearsRow, ClearsBranch, ClearsPlace}
use Rattle.clear.proofs.Steps.{head_here, narrow_here}

-- of the rows us those that are done have been cleared, all of them deeper than n
pub record Walked (d : List ℕ) (n : ℕ) (c : Counts) (y : Pass) (A us : List Row) : Type 0 where
  pub done : List Row
  pub todo : List Row
  pub split : us ≡ done ++ todo
  pub deep : Deep (suc n) done
  pub gaps : Gaps c y (A ++ map (clear_row d) done) todo

-- the loop over the rows deeper than n
pub record Walks (d : List ℕ) (rows n left : ℕ) (x y : Pass) : Type 0 where
  pub low : x.at.row ≤ y.at.row
  pub starts : Starts rows y
  pub walks : (c : Counts) (A us : List Row) → c.rows ≡ rows → 8 ≤ n + left → Gaps c x A us → Walked d n c y A us

pub walks_start : (d : List ℕ) (rows n left : ℕ) (x : Pass) → Starts rows x → Walks d rows n left x x
walks_start d rows n left x S = record {
  low = omega arith;
  starts = S;
  walks = λ c A us e l G. record { done = []; todo = us; split = refl; deep = tt; gaps = rw (append-nil A) G };
}

-- at the row of the cursor
module _ (c : Counts) (x : Pass) (A us : List Row) (r : Row) (G : Gaps c x A (r ∷ us)) where
  pub depth_here : get_or x.heads x.at.row 0 % 16 ≡ r.depth
  depth_here =
      ap (◌% 16) (head_here c x.heads x.marks x.values x.at A us r G)
      ∙ depth_in_lem r (narrow_here c x.heads x.marks x.values x.at A us r G)

-- the rows passed are those done
splits : (n : ℕ) (us done todo : List Row) → us ≡ done ++ todo → Deep (suc n) done → Shallow n todo → Splits (deeper n) us done todo
splits n us done todo e p s =
    let t = split_all (deeper n) done todo [] todo (deep_deeper n done p) (shallow_stop n todo s) in
    rw e (rw (append-nil done) at t)

module _ (d : List ℕ) (rows n left : ℕ) (x y : Pass) (W : Walks d rows n left x y) where
  -- where what is left to do isn't deeper than n, the branch is done
  finished : ((c : Counts) (A us : List Row) → c.rows ≡ rows → Gaps c y A us → Shallow n us) → ClearsBranch d rows n left x y
  finished s = record {
    low = W.low;
    high = W.starts.row_in;
    within = W.starts.within;
    clears = λ c A us e l G.
        let w = W.walks c A us e l G in
        let t = splits n us w.done w.todo w.split w.deep (s c _ w.todo e w.gaps) in
        rw (t.front, t.back) w.gaps;
  }

  pub walks_end : rows ≤ y.at.row → ClearsBranch d rows n left x y
  walks_end l = finished go
    where
      go : (c : Counts) (A us : List Row) → c.rows ≡ rows → Gaps c y A us → Shallow n us
      go c A [] e G = tt
      go c A (r ∷ us) e G = absurd (omega (arith, G.rows_are, G.row_is))

  module _ (h : y.at.row < rows) where
    pub walks_stop : get_or y.heads y.at.row 0 % 16 ≤ n → ClearsBranch d rows n left x y
    walks_stop l = finished go
      where
        go : (c : Counts) (A us : List Row) → c.rows ≡ rows → Gaps c y A us → Shallow n us
        go c A [] e G = tt
        go c A (r ∷ us) e G = omega (arith, depth_here c y A us r G)

-- no levels are left: what could be deeper isn't there
pub branch_none : (d : List ℕ) (rows n left : ℕ) (x : Pass) → Starts rows x → left ≡ 0 → ClearsBranch d rows n left x x
branch_none d rows n left x S z = record {
  low = omega arith;
  high = S.row_in;
  within = S.within;
  clears = λ c A us e l G.
      let t = shallow_stop n us (go us (omega arith) G.good_behind) in
      rw (t.front, t.back, append-nil A) G;
}
  where
    go : (us : List Row) → 8 ≤ n → All Good us → Shallow n us
    go [] l g = tt
    go (r ∷ us) l g = omega (arith, g.0.depth)

passed_deep : (n k : ℕ) (us : List Row) → n ≤ k → Deep (suc n) (passed (deeper k) us)
unfolding passed
passed_deep n k [] l = tt
passed_deep n k (r ∷ us) l = go (ltb k r.depth) refl (passed_deep n k us l)
  where
    go : (b : Bool) → ltb k r.depth ≡ b → Deep (suc n) (passed (deeper k) us)
        → Deep (suc n) (cond b (r ∷ passed (deeper k) us) [])
    go true e h = (omega (arith, ltb-true k r.depth e), h)
    go false e h = tt

-- one place more
module _ (d : List ℕ) (rows n left : ℕ) (x y z : Pass) (W : Walks d rows n left x y) (h : y.at.row < rows)
    (k : n < get_or y.heads y.at.row 0 % 16) (P : ClearsPlace d rows (left - 1) y z) where
  one_more : (c : Counts) (A us : List Row) → c.rows ≡ rows → 8 ≤ n + left → (done todo : List Row) → us ≡ done ++ todo
      → Deep (suc n) done → Gaps c y (A ++ map (clear_row d) done) todo → Walked d n c z A us
  one_more c A us e l done [] s p G =
      absurd (omega (arith, G.rows_are, G.row_is))
  one_more c A us e l done (r ∷ todo) s p G =
      let f = depth_here c y (A ++ map (clear_row d) done) todo r G in
      let D : List Row = passed (deeper r.depth) todo in
      let E : List Row = rest (deeper r.depth) todo in
      let g : A ++ map (clear_row d) (done ++ r ∷ D) ≡ (A ++ map (clear_row d) done) ++ clear_row d r ∷ map (clear_row d) D =
      ap (A ++◌) (map-append (clear_row d) done (r ∷ D)) ∙ sym
      (append_assoc A (map (clear_row d) done) (clear_row d r ∷ map (clear_row d) D)) in
      record {
        done = done ++ r ∷ D;
        todo = E;
        split = s ∙ (ap (λ l. done ++ r ∷ l) (sym (passed-rest (deeper r.depth) todo)) ∙ sym (append_assoc done (r ∷ D) E));
        deep = all_append (λ r. suc n ≤ r.depth) done (r ∷ D) p (omega arith, passed_deep n r.depth todo (omega arith));
        gaps = rw g (P.clears c (A ++ map (clear_row d) done) todo r e (omega arith) G);
      }

  pub walks_on : rows ≤ length z.heads → Walks d rows n left x z
  walks_on a = record {
    low = omega (arith, W.low, P.low);
    starts = record { rows_in = a; row_in = P.high; within = P.within };
    walks = λ c A us e l G.
        let w = W.walks c A us e l G in
        one_more c A us e l w.done w.todo w.split w.deep w.gaps;
  }

-- A row, then the branch under it.
module _ (d : List ℕ) (rows n left : ℕ) (x y z : Pass) (e : n ≡ get_or x.heads x.at.row 0 % 16) (h : x.at.row < rows)
    (R : ClearsRow d x y) where
  pub row_starts : rows ≤ length y.heads → Starts rows y
  row_starts a = record { rows_in = a; row_in = omega (arith, R.next); within = R.within }

  pub place_done : ClearsBranch d rows n left y z → ClearsPlace d rows left x z
  place_done B = record {
    low = omega (arith, R.next, B.low);
    high = B.high;
    within = B.within;
    clears = λ c A us r k l G.
        let f : n ≡ r.depth = e ∙ depth_here c x A us r G in
        rw (append_assoc A (clear_row d r ∷ []) (map (clear_row d) (passed (deeper n) us)), f) at
        (B.clears c (A ++ clear_row d r ∷ []) us k (omega arith) (R.clears c A us r G));
  }
