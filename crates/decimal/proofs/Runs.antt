-- The digits that a reader has passed, and those that a writer has written.
-- Assumes nothing.
use Prim.Native.Nat.{ℕ, zero, suc, ◌+◌, ◌-◌, ◌*◌, ◌/◌, ◌%◌, ◌^◌, ◌≤◌, ◌<◌}
use native.Mathlib.Omega.{arith}
use native.Mathlib.Nat.{pow-suc}
use mathlib.Core.Path.{◌≡◌, refl, sym, ap, ◌∙◌, subst}
use mathlib.Core.Bool.{false}
use mathlib.Core.List.{List, [], ◌∷◌, ◌++◌, append_assoc, append-nil}
use lib.ListN.{length, get_or, take, drop, set, drop_of_length-le, length-set, length-drop, take-append-drop}
use lib.Seq.{drop-cons, drop-drop}
use Rattle.meaning.specs.Ascii.{byte}
use Rattle.meaning.specs.Text.{digits, width, decimal, over}
use Rattle.theorems.specs.Decimal.{length-decimal, is_digit}
use Rattle.decimal.specs.Take.{Layout, Took, Never, Wrote}
use Rattle.decimal.specs.Numbers.{NoDigit, numbers, Spells, ReadsNumber}
use Rattle.std.specs.Prelude.{Option, None, Some}
use Rattle.decimal.proofs.Digits.{digits_last, scan, scan_stop, scan-run, scan_grows, scan-decimal, decimal_once}

-- Reading.

-- r is what stands from a on; it begins with n digits, whose number v is at most max
pub record Run (max : ℕ) (s : List ℕ) (a : ℕ) (r : List ℕ) (n v : ℕ) : Type 0 where
  pub at : r ≡ drop a s
  pub text : r ≡ digits n v ++ drop n r
  pub fits : v < 10 ^ n
  pub most : v ≤ max
  pub within : n ≤ length r

pub start : (max : ℕ) (s : List ℕ) (a : ℕ) (r : List ℕ) → r ≡ drop a s → Run max s a r 0 0
unfolding digits
start max s a r e = record { at = e; text = refl; fits = omega arith; most = omega arith; within = omega arith }

-- no digit at n, or nothing
pub stops : (r : List ℕ) (n : ℕ) → n < length r → is_digit (get_or r n 0) ≡ false → NoDigit (drop n r)
stops r n h e = rw (drop-cons r n 0 h) e

pub end_stops : (r : List ℕ) (n : ℕ) → length r ≤ n → NoDigit (drop n r)
end_stops r n h = rw (drop_of_length-le r h) tt

-- a digit at n, with which the number v goes on to w
pub record Next (r : List ℕ) (n v w : ℕ) : Type 0 where
  pub inside : n < length r
  pub low : byte "0" ≤ get_or r n 0
  pub high : get_or r n 0 ≤ byte "9"
  pub goes : w ≡ v * 10 + (get_or r n 0 - byte "0")

module _ (max : ℕ) (s : List ℕ) (a : ℕ) (r : List ℕ) (n v : ℕ) (k : Run max s a r n v) where
  -- one digit more, were there no limit
  longer : (w : ℕ) → Next r n v w → (r ≡ digits (n + 1) w ++ drop (n + 1) r) × (w < 10 ^ (n + 1))
  longer w x =
      let m : suc n ≡ n + 1 = omega arith in
      let q : w / 10 ≡ v = omega (arith, x.goes, x.high) in
      let c : get_or r n 0 ≡ byte "0" + w % 10 = omega (arith, x.goes, x.low, x.high) in
      let l : digits (suc n) w ≡ digits n v ++ ((byte "0" + w % 10) ∷ []) =
      digits_last n w ∙ ap (λ y. digits n y ++ ((byte "0" + w % 10) ∷ [])) q in (
        k.text
            ∙ (ap (λ t. digits n v ++ t) (drop-cons r n 0 x.inside
            ∙ (ap (λ y. y ∷ drop (suc n) r) c ∙ ap (λ i. (byte "0" + w % 10) ∷ drop i r) m))
            ∙ (sym (append_assoc (digits n v) ((byte "0" + w % 10) ∷ []) (drop (n + 1) r))
            ∙ (ap (λ t. t ++ drop (n + 1) r) (sym l) ∙ ap (λ i. digits i w ++ drop (n + 1) r) m))),
        subst (λ (i : ℕ). w < 10 ^ i) m (omega (arith, pow-suc 10 n, k.fits, x.goes, x.high)),
      )

  pub more : (w : ℕ) → Next r n v w → w ≤ max → Run max s a r (n + 1) w
  more w x h = let l = longer w x in record { at = k.at; text = l.0; fits = l.1; most = h; within = omega (arith, x.inside) }

  -- with one digit more the number is above max, and so is every number that goes on so
  pub above : (w : ℕ) → Next r n v w → max < w → Never (numbers 0 max) s a
  above w x h = record {
    not = λ y t ok st e.
        let l = longer w x in
        let z = sym (scan-run (n + 1) w (drop (n + 1) r) l.1) ∙ (ap (scan 0 0) (sym l.0 ∙ (k.at ∙ e)) ∙ scan-decimal y t st) in
        omega (arith, ap (λ p. p.0) z, scan_grows w (n + 1) (drop (n + 1) r), ok.1);
  }

  -- where the digits end, they are the decimal of v if their number is its width
  pub settled : NoDigit (drop n r) → (w : Option (ℕ × ℕ)) → Spells n v (a + n) w → ReadsNumber (numbers 0 max) s a w
  unfolding decimal
  settled h (Some (w, m)) (p, q, g) =
      rw (p, q) (record {
        valid = (omega arith, k.most);
        text = stands;
        rest = subst NoDigit behind h;
        within = λ i. omega (arith, k.within, ap length k.at, length-drop a s);
        only = λ y t ok st f. decimal_once y v t (drop (a + n) s) st (subst NoDigit behind h) (sym f ∙ stands);
      })
    where
      behind : drop n r ≡ drop (a + n) s
      behind = ap (drop n) k.at ∙ drop-drop n a s

      stands : drop a s ≡ decimal v ++ drop (a + n) s
      stands = sym k.at ∙ (k.text ∙ (ap (λ j. digits j v ++ drop n r) (sym g) ∙ ap (λ t. decimal v ++ t) behind))
  settled h None p = record {
    not = λ y t ok st f.
        let z = sym (scan_stop v n (drop n r) h)
        ∙ (sym (scan-run n v (drop n r) k.fits) ∙ (ap (scan 0 0) (sym k.text ∙ (k.at ∙ f)) ∙ scan-decimal y t st)) in
        let j : v ≡ y = ap (λ w. w.0) z in
        let g : n ≡ width y = ap (λ w. w.1) z in
        p (ap width j ∙ sym g);
  }

-- From min on.

-- where no number up to max stands, none from min to max does
pub none_between : (min max : ℕ) (s : List ℕ) (a : ℕ) → Never (numbers 0 max) s a → Never (numbers min max) s a
none_between min max s a r = record { not = λ y t ok st e. r.not y t (omega arith, ok.1) st e }

module _ (min max : ℕ) (s : List ℕ) (a v n : ℕ) (r : Took (numbers 0 max) s a v n) where
  -- nor does one where the number that stands there is below min
  pub too_small : v < min → Never (numbers min max) s a
  too_small z = record { not = λ y t ok st e. omega (arith, ok.0, (r.only y t (omega arith, ok.1) st e).0) }

  -- where it is at least min, it is the one that stands there
  pub between : min ≤ v → Took (numbers min max) s a v n
  between z =
      record {
        valid = (z, r.valid.1);
        text = r.text;
        rest = r.rest;
        within = r.within;
        only = λ y t ok st e. r.only y t (omega arith, ok.1) st e;
      }

-- Writing.

-- the digits from i on are written in the buffer, which was b; x is what stands in front of them
pub record Writing (v n : ℕ) (b e : List ℕ) (x i : ℕ) : Type 0 where
  pub done : List ℕ
  pub text : decimal v ≡ digits i x ++ done
  pub buffer : e ≡ take i b ++ (done ++ drop n b)
  pub long : length e ≡ length b
  pub most : i ≤ n

pub unwritten : (v n : ℕ) (b : List ℕ) → n ≡ length (decimal v) → Writing v n b b v n
unfolding decimal
unwritten v n b e =
    let w : width v ≡ n = sym (e ∙ length-decimal v) in
    record {
      done = [];
      text = ap (λ k. digits k v) w ∙ sym (append-nil (digits n v));
      buffer = sym (take-append-drop n b);
      long = refl;
      most = omega arith;
    }

-- what is stored at the last place of a list's start
store : (j c : ℕ) (b t : List ℕ) → j < length b → set (take (suc j) b ++ t) j c ≡ take j b ++ (c ∷ t)
store j c [] t h = absurd (omega arith)
store zero c (x ∷ b) t h = refl
store (suc j) c (x ∷ b) t h = ap (λ l. x ∷ l) (store j c b t (omega arith))

pub one_more : (v n : ℕ) (b buffer : List ℕ) (x i : ℕ) → Writing v n b buffer x i → 0 < i → n ≤ length b
    → Writing v n b (set buffer (i - 1) (byte "0" + x % 10)) (x / 10) (i - 1)
one_more v n b buffer x zero w h l = absurd (omega arith)
one_more v n b buffer x (suc j) w h l = let e : j ≡ suc j - 1 = omega arith in subst
    (λ (k : ℕ). Writing v n b (set buffer k (byte "0" + x % 10)) (x / 10) k) e at_j
  where
    at_j : Writing v n b (set buffer j (byte "0" + x % 10)) (x / 10) j
    at_j = record {
      done = (byte "0" + x % 10) ∷ w.done;
      text = w.text ∙ (ap (λ t. t ++ w.done) (digits_last j x) ∙ append_assoc (digits j (x / 10)) ((byte "0" + x % 10) ∷ []) w.done);
      buffer = ap (λ t. set t j (byte "0" + x % 10)) w.buffer ∙ store j (byte "0" + x % 10) b (w.done ++ drop n b)
          (omega (arith, w.most));
      long = length-set buffer j (byte "0" + x % 10) ∙ w.long;
      most = omega (arith, w.most);
    }

pub written : (v n : ℕ) (b buffer : List ℕ) (x i : ℕ) → Writing v n b buffer x i → n ≡ length (decimal v) → i ≡ 0 → Wrote
    (decimal v) b buffer n
unfolding over digits
written v n b buffer x i w e z =
    let t : decimal v ≡ w.done = w.text ∙ ap (λ k. digits k x ++ w.done) z in
    record {
      size = e;
      buffer = w.buffer ∙ (ap (λ k. take k b ++ (w.done ++ drop n b)) z
          ∙ (ap (λ l. l ++ drop n b) (sym t) ∙ ap (λ k. decimal v ++ drop k b) e));
    }

-- What a reader of a number said, where its answer is known.

pub number_took : {L : Layout ℕ} {s : List ℕ} {a v n : ℕ} (r : Option (ℕ × ℕ)) → r ≡ Some (v, n) → ReadsNumber L s a r → Took L s a v n
number_took {L} {s} {a} r e k = subst (ReadsNumber L s a) e k

pub number_none : {L : Layout ℕ} {s : List ℕ} {a : ℕ} (r : Option (ℕ × ℕ)) → r ≡ None → ReadsNumber L s a r → Never L s a
number_none {L} {s} {a} r e k = subst (ReadsNumber L s a) e k
