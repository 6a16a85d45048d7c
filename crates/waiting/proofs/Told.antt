-- What the functions over the table come to, from what the parts of their code leave.
-- Assumes nothing.
use Prim.Native.Nat.{ℕ, ◌+◌, ◌*◌, ◌-◌, ◌%◌, ◌≤◌, ◌<◌}
use mathlib.Core.Path.{◌≡◌, refl, sym, ap, ◌∙◌}
use mathlib.Core.Bool.{Bool, true, false, not}
use mathlib.Core.List.{List, ◌∷◌, ◌++◌}
use Rattle.std.proofs.Common.{Some, None}
use Rattle.std.proofs.lemmas.Option.{none-some, same_Some}
use mathlib.Core.Logic.{◌⊎◌, ⊎_elim}
use native.Mathlib.Omega.{arith}
use borrow.Author.Tests.{lt-ltb, le-ltb, eq-eqb, ne_eqb}
use lib.Dec.{eqb}
use lib.ListN.{length, drop, get_or, replicate}
use Rattle.meaning.specs.Ids.{entry_of, entry, at_most, ready}
use Rattle.meaning.specs.Judge.{own_deps_behind}
use Rattle.meaning.specs.Ways.{Operation}
use Rattle.meaning.specs.Valid.{ValidOperation}
use Rattle.words.specs.Words.{run, over_at, opened, closed}
use Rattle.words.specs.Rows.{rank_rows, rank_of, flat, Ranked}
use Rattle.words.proofs.Over.{open_write}
use Rattle.message.specs.declared.Operation as M
use Rattle.waiting.specs.Rows.{counters, held_words, op_words, ReadsRow}
use Rattle.waiting.specs.Waits.{room, id_of, Waits, TellsEarly, Tells, TellsWaits, Puts, TakesOut}
use Rattle.waiting.proofs.Ops.{op_long, means_words, id_there, entry_there, deps_there, row_means}
use Rattle.waiting.proofs.Holds.{table_long, among, rank_is, behind, there, before_long, all-at, taken_out, waits_past, waits-at, put_in}

module _ (t : List ℕ) (n i : ℕ) where
  valid_there : (A R : List Operation) (o : Operation) → Waits t n (A ++ o ∷ R) → ValidOperation o
  valid_there A R o W = all-at ValidOperation A R o W.valid

  -- of its deps the entry of its own terminal, and all of them
  own_there : (A R : List Operation) (o : Operation) → Waits t n (A ++ o ∷ R) → i ≡ length A
      → (get_or t (40 * i) 0 % 8 ≡ entry_of o.id) × (get_or t (40 * i + 1 + get_or t (40 * i) 0 % 8) 0 ≡ entry o.deps (entry_of o.id))
  own_there A R o W e =
      let b = before_long t n i A R o W e in
      let v = valid_there A R o W in
      let d = id_there (flat op_words A) (behind A o R) o (40 * i) b v in
      let a : 40 * i + 1 + o.id % 8 ≡ 40 * i + (1 + o.id % 8) = omega arith in
      rw (there t n i A R o W e, d, a) (refl, entry_there (flat op_words A) (behind A o R) o (40 * i) b v (o.id % 8) (omega arith))

  all_there : (A R : List Operation) (o : Operation) → Waits t n (A ++ o ∷ R) → i ≡ length A → counters (run (40 * i + 1) 8 t) ≡ o.deps
  all_there A R o W e =
      rw (there t n i A R o W e)
      (deps_there (flat op_words A) (behind A o R) o (40 * i) (before_long t n i A R o W e) (valid_there A R o W))

  module _ (s : List ℕ) (last own : ℕ) (l : last ≡ get_or s (get_or t (40 * i) 0 % 8) 0)
      (w : own ≡ get_or t (40 * i + 1 + get_or t (40 * i) 0 % 8) 0) where
    record Entries (o : Operation) : Type 0 where
      own_is : own ≡ entry o.deps (entry_of o.id)
      last-is : last ≡ entry s (entry_of o.id)

    entries : (A R : List Operation) (o : Operation) → Waits t n (A ++ o ∷ R) → i ≡ length A → Entries o
    entries A R o W e =
        let q = own_there A R o W e in
        record { own_is = w ∙ q.1; last-is = l ∙ ap (λ k. get_or s k 0) q.0 }

    pub early-dead : own < last → TellsEarly t n i s false
    unfolding TellsEarly own_deps_behind
    early-dead h A R o W e =
        let q = entries A R o W e in
        rw (lt-ltb (entry o.deps (entry_of o.id)) (entry s (entry_of o.id)) (omega (arith, q.own_is, q.last-is)))

    pub early-ahead : last < own → TellsEarly t n i s true
    unfolding TellsEarly own_deps_behind ready
    early-ahead h A R o W e =
        let q = entries A R o W e in
        rw (
          le-ltb (entry o.deps (entry_of o.id)) (entry s (entry_of o.id)) (omega (arith, q.own_is, q.last-is)),
          ne_eqb (entry o.deps (entry_of o.id)) (entry s (entry_of o.id)) (λ z. omega (arith, q.own_is, q.last-is)),
        )

    pub early_even : last ≤ own → own ≤ last → (deps : List ℕ) → deps ≡ counters (run (40 * i + 1) 8 t) → (r : Bool) → r ≡ at_most deps s
        → TellsEarly t n i s (not r)
    unfolding TellsEarly own_deps_behind ready
    early_even h k deps d r y A R o W e =
        let q = entries A R o W e in
        rw (
          le-ltb (entry o.deps (entry_of o.id)) (entry s (entry_of o.id)) (omega (arith, q.own_is, q.last-is)),
          eq-eqb (entry o.deps (entry_of o.id)) (entry s (entry_of o.id)) (omega (arith, q.own_is, q.last-is)),
          y,
          d,
          all_there A R o W e,
        )

  pub tells : (r : M.Operation) → ReadsRow t (40 * i) r → Tells t n i (Some r)
  unfolding Tells
  tells r q A R o W e =
      row_means (flat op_words A) (behind A o R) o (40 * i) (before_long t n i A R o W e) (valid_there A R o W) r
      (rw (there t n i A R o W e) at q)

  pub takes_out : i < n → (t' : List ℕ) → t' ≡ closed 0 (40 * n) (40 * i + 40) (40 * i) t → TakesOut t n i t' (Some (n - 1))
  takes_out h t' c = record {
    waits = λ A R o W e. taken_out t t' n i A R o W e c;
    fewer = λ k e. omega (arith, h, same_Some _ _ e);
    nothing = λ e. absurd (none-some _ (sym e));
  }

  -- where nothing can be taken out
  pub takes_none : (length t < room) ⊎ ((64 < n) ⊎ (n ≤ i)) → TakesOut t n i t None
  takes_none z = record {
    waits = λ A R o W e.
        let l = table_long t n (A ++ o ∷ R) W in
        let f = W.fit in
        let a = among t n i A R o W e in
        absurd (⊎_elim (λ p. omega arith) (⊎_elim (λ p. omega arith) (λ p. omega arith)) z);
    fewer = λ k e. absurd (none-some _ e);
    nothing = λ _. refl;
  }

module _ (t : List ℕ) (n id k : ℕ) (K : Ranked n (rank_rows 40 id n (drop 0 t)) k) where
  pub waits_none : n ≤ k → TellsWaits t n id false
  unfolding TellsWaits
  waits_none h os W = sym (waits_past id os (omega (arith, K.is, rank_is t n os W id, W.count)))

  pub waits_one : k < n → TellsWaits t n id (eqb id (get_or t (40 * k) 0))
  unfolding TellsWaits
  waits_one h os W =
      let r : k ≡ rank_of id_of id os = K.is ∙ rank_is t n os W id in
      rw (W.table, r) (sym (waits-at id os (replicate (room - length (flat op_words os)) 0) W.ascending (omega (arith, W.count))))

-- a row is written where it was opened
pub puts : (op : M.Operation) (t t₁ t₂ : List ℕ) (n k : ℕ) → room ≤ length t → n < 64 → Ranked n (rank_rows 40 op.act.id n (drop 0 t)) k
    → t₁ ≡ opened (40 * n) (40 * k) 40 t
    → t₂ ≡ over_at (40 * k) (held_words op) t₁
    → Puts op t n t₂ (Some (n + 1))
puts op t t₁ t₂ n k x y K a b =
    record {
      waits = λ os o m v W u h.
          let l = op_long o in
          let w = open_write (40 * n) (40 * k) t (omega (arith, K.high)) (op_words o) (omega arith) in
          put_in t t₂ n k os o W v u h (rw m.id at K.is)
          (b ∙ (rw (means_words op o m v, a) (ap (λ z. over_at (40 * k) (op_words o) (opened (40 * n) (40 * k) z t)) (sym l) ∙ w)));
      stays = λ z. absurd (⊎_elim (λ p. omega arith) (λ p. omega arith) z);
      nothing = λ e. absurd (none-some _ (sym e));
    }

-- a full table
pub full : (op : M.Operation) (t : List ℕ) (n : ℕ) → 64 ≤ n → Puts op t n t None
full op t n x = record { waits = λ os o m v W u h. absurd (omega arith); stays = λ _. (refl, refl); nothing = λ _. refl }

-- one that is too short
pub short : (op : M.Operation) (t : List ℕ) (n : ℕ) → length t < room → Puts op t n t None
short op t n x = record { waits = λ os o m v W u h. absurd (omega (arith, table_long t n os W)); stays = λ _. (refl, refl); nothing = λ _. refl }
