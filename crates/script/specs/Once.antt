-- The promises of `script` settle its answers: two answers that meet one are equal, `number_once` and `block_once`. (What `part` promises
-- is an equation.)
-- Assumes nothing.
use Rattle.std.specs.Prelude.{ℕ, ◌+◌, ◌-◌, ◌≤◌, ◌<◌, ◌≡◌, refl, List, ◌++◌, length, take, drop, Option, None, Some}
use Rattle.std.proofs.Common.{arith, sym, ap, ◌∙◌, length-append, length-drop, length-take-le, le-leb}
use Rattle.meaning.specs.Ascii.{ascii}
use Rattle.meaning.specs.Text.{decimal}
use Rattle.theorems.specs.Decimal.{length-decimal, width_sized}
use Rattle.decimal.specs.Take.{Layout, Took, Never}
use Rattle.script.specs.Calls.{asks, blocks, part_of, FindsNumber, Found, FindsBlock}
use Rattle.script.specs.declared.BlockFound.{BlockFound}

-- Layouts whose texts have a byte or more.

module _ {X : Type 0} (L : Layout X) (s : List ℕ) (a : ℕ) where
  -- a text ends within s, as many places behind its start as it has bytes
  pub took_past : (x : X) (n : ℕ) → Took L s a x n → 0 < length (L.text x) → (n ≤ length s) × (n ≡ a + length (L.text x))
  took_past x n k h =
      let e : length s - a ≡ length (L.text x) + (length s - n) =
      sym (length-drop a s)
      ∙ (ap length k.text ∙ (length-append (L.text x) (drop n s) ∙ ap (λ m. length (L.text x) + m) (length-drop n s))) in
      let w : n ≤ length s = k.within (omega arith) in
      (w, omega arith)

  pub took_once : (x y : X) (n m : ℕ) → Took L s a x n → Took L s a y m → 0 < length (L.text x) → 0 < length (L.text y)
      → (x ≡ y) × (n ≡ m)
  took_once x y n m k l h i =
      let e : x ≡ y = (l.only x (drop n s) k.valid k.rest k.text).0 in
      (e, (took_past x n k h).1 ∙ (ap (λ z. a + length (L.text z)) e ∙ sym (took_past y m l i).1))

  took_never : {A : Type 0} (x : X) (n : ℕ) → Took L s a x n → Never L s a → A
  took_never x n k h = absurd (h.not x (drop n s) k.valid k.rest k.text)

-- A number has a digit or more; a block has two LFs beside it.

ask_long : (most : ℕ) (text : List ℕ) (v : ℕ) → 0 < length ((asks most text).text (tt, v))
ask_long most text v = omega (arith, length-append text (decimal v), length-decimal v, (width_sized v).above)

block_long : (n : ℕ) (block : List ℕ) → 0 < length ((blocks n).text block)
block_long n block = omega (arith, length-append (ascii "\n") (block ++ ascii "\n"))

-- A part within s.

pub part_is : (from to : ℕ) (s : List ℕ) → from ≤ to → to ≤ length s → part_of from to s ≡ take (to - from) (drop from s)
part_is from to s h l = rw (le-leb from to h, le-leb to (length s) l)

-- Any two answers.

pub number_once : (most : ℕ) (text s : List ℕ) (a : ℕ) (q r : Option (ℕ × ℕ)) → FindsNumber most text s a q
    → FindsNumber most text s a r → q ≡ r
number_once most text s a (Some (v, n)) (Some (w, m)) k l =
    let o = took_once (asks most text) s a (tt, v) (tt, w) n m k l (ask_long most text v) (ask_long most text w) in
    λ i. Some (((o.0 i).1), o.1 i)
number_once most text s a (Some (v, n)) None k l = took_never (asks most text) s a (tt, v) n k l
number_once most text s a None (Some (w, m)) k l = took_never (asks most text) s a (tt, w) m l k
number_once most text s a None None k l = refl

pub block_once : (n : ℕ) (s : List ℕ) (a : ℕ) (q r : Option BlockFound) → FindsBlock n s a q → FindsBlock n s a r → q ≡ r
block_once n s a (Some b) (Some d) k l = same
  where
    long : {b : BlockFound} → Found n s a b → b.to - b.from ≡ n
    long {b} k =
        let w = (took_past (blocks n) s a (part_of b.from b.to s) b.next k.took (block_long n (part_of b.from b.to s))).0 in
        sym (length-take-le (b.to - b.from) (drop b.from s) (omega (arith, length-drop b.from s, k.behind, k.order, w)))
        ∙ (ap length (sym (part_is b.from b.to s k.order (omega (arith, k.behind, w)))) ∙ k.took.valid)

    ends : b.next ≡ d.next
    ends =
        (took_once (blocks n) s a (part_of b.from b.to s) (part_of d.from d.to s) b.next d.next k.took l.took
        (block_long n (part_of b.from b.to s)) (block_long n (part_of d.from d.to s))).1

    to_same : b.to ≡ d.to
    to_same = omega (arith, ends, k.behind, l.behind)

    from_same : b.from ≡ d.from
    from_same = omega (arith, to_same, k.order, l.order, long k, long l)

    same : Some b ≡ Some d
    same = λ i. Some (record { from = from_same i; to = to_same i; next = ends i })
block_once n s a (Some b) None k l = took_never (blocks n) s a (part_of b.from b.to s) b.next k.took l
block_once n s a None (Some d) k l = took_never (blocks n) s a (part_of d.from d.to s) d.next l.took k
block_once n s a None None k l = refl
