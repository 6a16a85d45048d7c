-- Laws of a buffer whose start is overwritten: a byte more, a text more, and reading off what was written.
-- Assumes nothing.
use Prim.Native.Nat.{ℕ, suc, ◌+◌, ◌≤◌, ◌<◌}
use native.Mathlib.Omega.{arith}
use native.Mathlib.Numerals.{add-one}
use mathlib.Core.Path.{◌≡◌, refl, sym, ap, ◌∙◌}
use mathlib.Core.List.{List, [], ◌∷◌, ◌++◌, append_assoc}
use lib.ListN.{length, take, drop, get_or, set, length-append, length-drop, length-take, length-set}
use lib.Seq.{drop-drop, take-append_seam, drop-append_seam, take_all, drop-cons, take-suc, set_at}
use Rattle.meaning.specs.Text.{over}
use Rattle.decimal.specs.Take.{Wrote}
use Rattle.writers.specs.Wrote.{WroteAt}

pub append_none : (l : List ℕ) → l ++ [] ≡ l
append_none [] = refl
append_none (x ∷ l) = ap (λ m. x ∷ m) (append_none l)

module _ (t buffer : List ℕ) where
  pub over-length : length t ≤ length buffer → length (over t buffer) ≡ length buffer
  unfolding over
  over-length fits = simp (length-append, length-drop) (omega arith)

  over_more : (x : ℕ) → length t < length buffer → set (over t buffer) (length t) x ≡ over (t ++ (x ∷ [])) buffer
  unfolding over
  over_more x h =
      rw (drop-cons buffer (length t) 0 h)
      (simp (set_at t (get_or buffer (length t) 0) (drop (suc (length t)) buffer) x (length t) refl, length-append, append_assoc, add-one))

  over-over : (u : List ℕ) → take (length t) (over t buffer) ++ over u (drop (length t) (over t buffer)) ≡ over (t ++ u) buffer
  unfolding over
  over-over u = simp (take-append_seam, drop-append_seam, append_assoc, drop-drop, length-append)

-- nothing is written yet
pub wrote_none : (buffer : List ℕ) → Wrote [] buffer buffer 0
unfolding over
wrote_none buffer = record { size = refl; buffer = refl }

-- the same text, spelled otherwise
pub wrote_as : {t u before after : List ℕ} {n : ℕ} → t ≡ u → Wrote t before after n → Wrote u before after n
wrote_as {before = before} {after = after} {n = n} e w = rw e at w

module _ {t before after : List ℕ} {n : ℕ} (w : Wrote t before after n) where
  wrote_length : length t ≤ length before → length after ≡ length before
  wrote_length h = rw w.buffer (over-length t before h)

  -- one byte more
  pub wrote_byte : (x : ℕ) → length t < length before → Wrote (t ++ (x ∷ [])) before (set after n x) (n + 1)
  wrote_byte x h = record {
    size = rw (length-append t (x ∷ [])) (omega (arith, w.size));
    buffer = rw (w.buffer, w.size) (over_more t before x h);
  }

  -- a text more
  pub wrote_more : {u next : List ℕ} {m : ℕ} → WroteAt u n after next m → Wrote (t ++ u) before next m
  wrote_more {u} {next} {m} v = record {
    size = rw (length-append t u) (omega (arith, w.size, v.size));
    buffer = rw (v.buffer, w.buffer, w.size) (over-over t before u);
  }

-- Of a whole text the start is written, and `rest` is still to come.
pub record Writing (whole before rest after : List ℕ) (n : ℕ) : Type 0 where
  pub start : List ℕ
  pub text : whole ≡ start ++ rest
  pub fits : length whole ≤ length before
  pub wrote : Wrote start before after n

-- what is still to come, spelled otherwise
pub to_come : {whole before rest rest' after : List ℕ} {n : ℕ} → rest ≡ rest' → Writing whole before rest after n
    → Writing whole before rest' after n
to_come e g = record { start = g.start; text = g.text ∙ ap (λ l. g.start ++ l) e; fits = g.fits; wrote = g.wrote }

module _ {whole before after : List ℕ} {n : ℕ} where
  -- the whole is written
  pub all : Writing whole before [] after n → Wrote whole before after n
  all g = wrote_as (sym (append_none g.start) ∙ sym g.text) g.wrote

  pub last-room : {u : List ℕ} → Writing whole before u after n → n + length u ≤ length after
  last-room {u} g =
      let l = length-append g.start u in
      let e = ap length g.text in
      omega (arith, g.wrote.size, wrote_length g.wrote (omega (arith, g.fits)), g.fits)

  pub room : (u rest : List ℕ) → Writing whole before (u ++ rest) after n → n + length u ≤ length after
  room u rest g = omega (arith, last-room g, length-append u rest)

  pub next : {u next : List ℕ} {m : ℕ} → WroteAt u n after next m → (rest : List ℕ) → Writing whole before (u ++ rest) after n
      → Writing whole before rest next m
  next {u} w rest g = record {
    start = g.start ++ u;
    text = g.text ∙ sym (append_assoc g.start u rest);
    fits = g.fits;
    wrote = wrote_more g.wrote w;
  }

-- The first i bytes of a text are copied to the start of the buffer.
pub record Copying (text before after : List ℕ) (i : ℕ) : Type 0 where
  pub most : i ≤ length text
  pub long : length after ≡ length before
  pub wrote : Wrote (take i text) before after i

pub copy_none : (text before : List ℕ) → Copying text before before 0
copy_none text before = record { most = omega arith; long = refl; wrote = wrote_none before }

module _ {text before after : List ℕ} {i : ℕ} (k : Copying text before after i) where
  pub copy_more : length text ≤ length before → i < length text → Copying text before (set after i (get_or text i 0)) (i + 1)
  copy_more fits h =
      let l : length (take i text) < length before = simp length-take (omega arith) in
      let w : Wrote (take i text ++ (get_or text i 0 ∷ [])) before (set after i (get_or text i 0)) (i + 1) = wrote_byte k.wrote
      (get_or text i 0) l in
      let e : take i text ++ (get_or text i 0 ∷ []) ≡ take (i + 1) text = rw add-one (sym (take-suc text i 0 h)) in
      record { most = omega arith; long = length-set after i (get_or text i 0) ∙ k.long; wrote = wrote_as e w }

  pub copy_all : length text ≤ i → Wrote text before after i
  copy_all h = wrote_as (take_all i text h) k.wrote
