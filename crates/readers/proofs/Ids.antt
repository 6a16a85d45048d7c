-- An id is a counter, a point and a terminal.
-- Assumes nothing.
use Prim.Native.Nat.{ℕ, suc, ◌+◌, ◌-◌, ◌*◌, ◌/◌, ◌%◌}
use native.Mathlib.Omega.{arith}
use mathlib.Core.Path.{◌≡◌, refl, ap, ◌∙◌}
use mathlib.Core.List.{List, ◌++◌}
use Rattle.meaning.specs.Ascii.{ascii}
use Rattle.meaning.specs.Text.{decimal, id_text}
use Rattle.decimal.specs.Take.{Layout, Took, Never, fixed, then}
use Rattle.decimal.specs.Numbers.{numbers}
use Rattle.decimal.proofs.Layouts.{Alike, no_first, no_second, both, none_alike, took_alike}
use Rattle.readers.specs.Reads.{ids}

abbrev pub parts : Layout (ℕ × (Unit {0} × ℕ))
parts = then (numbers 1 4294967295) (then (fixed (ascii ".")) (numbers 1 8))

an_id : Alike ids parts
unfolding id_text
an_id = record {
  from = λ i. (i / 8, (tt, suc (i % 8)));
  to = λ p. p.0 * 8 + (p.1.1 - 1);
  back = λ i v. omega arith;
  valid = λ i v. ((v.low, v.high), (tt, (omega arith, omega arith)));
  text = λ i v. refl;
  more = λ i t h. h;
  made = λ p v. record { low = omega arith; high = omega arith };
  same = λ p v.
      let c : (p.0 * 8 + (p.1.1 - 1)) / 8 ≡ p.0 = omega arith in
      let r : suc ((p.0 * 8 + (p.1.1 - 1)) % 8) ≡ p.1.1 = omega arith in
      ap (λ n. decimal n ++ (ascii "." ++ decimal (suc ((p.0 * 8 + (p.1.1 - 1)) % 8)))) c ∙ ap
      (λ n. decimal p.0 ++ (ascii "." ++ decimal n)) r;
  less = λ p t h. h;
}

module _ (s : List ℕ) (a : ℕ) where
  pub no_counter : Never (numbers 1 4294967295) s a → Never ids s a
  no_counter h = none_alike ids parts an_id s a
      (no_first (numbers 1 4294967295) (then (fixed (ascii ".")) (numbers 1 8)) (λ x y t v m. refl) s a h)

  module _ (c n : ℕ) (k : Took (numbers 1 4294967295) s a c n) where
    behind : Never (then (fixed (ascii ".")) (numbers 1 8)) s n → Never ids s a
    behind h =
        none_alike ids parts an_id s a
        (no_second (numbers 1 4294967295) (then (fixed (ascii ".")) (numbers 1 8)) (λ x y t v m. refl) s a c n k h)

    pub no_point : Never (fixed (ascii ".")) s n → Never ids s a
    no_point h = behind (no_first (fixed (ascii ".")) (numbers 1 8) (λ x y t v m. tt) s n h)

    module _ (m : ℕ) (l : Took (fixed (ascii ".")) s n tt m) where
      pub no_terminal : Never (numbers 1 8) s m → Never ids s a
      no_terminal h = behind (no_second (fixed (ascii ".")) (numbers 1 8) (λ x y t v m. tt) s n tt m l h)

      pub found : (r o : ℕ) → Took (numbers 1 8) s m r o → Took ids s a (c * 8 + (r - 1)) o
      unfolding an_id
      found r o j =
          took_alike ids parts an_id s a (c, (tt, r)) o
          (both (numbers 1 4294967295) (then (fixed (ascii ".")) (numbers 1 8)) (λ x y t v m. refl) s a c n k (tt, r) o
          (both (fixed (ascii ".")) (numbers 1 8) (λ x y t v m. tt) s n tt m l r o j))
