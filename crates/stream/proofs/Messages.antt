-- The messages of a stream, byte by byte: a byte begins a message of its own if it is an LF ahead of an `op=1` line, and joins the message
-- of what follows otherwise.
-- Assumes nothing.
use Prim.Native.Nat.{ℕ, suc, ◌≤◌, ◌<◌}
use native.Mathlib.Omega.{arith}
use mathlib.Core.Path.{◌≡◌, refl, sym, ap, ◌∙◌}
use mathlib.Core.Bool.{Bool, true, false, cond, ◌&&◌}
use mathlib.Core.List.{List, [], ◌∷◌}
use lib.Dec.{eqb}
use lib.ListN.{length, take, drop}
use borrow.Author.Tests.{eq-eqb, ne_eqb, eqb-true, lt-ltb, le-ltb}
use Rattle.meaning.specs.Ascii.{ascii, byte}
use Rattle.meaning.specs.Places.{Turn, before, equal, beyond, order}
use Rattle.meaning.specs.Stream.{ahead, lines, is_op_line, gather, messages}
use Rattle.theorems.specs.Decide.{Tri, less, same, more, tri}
use Rattle.stream.specs.Ends.{starts_with, opens, first}

-- Whether a line is a given one.

abbrev alike : Turn → Bool
alike before = false
alike equal = true
alike beyond = false

is_line : List ℕ → List ℕ → Bool
is_line p l = alike (order l p)

line_none : (x : ℕ) (p : List ℕ) → is_line (x ∷ p) [] ≡ false
unfolding is_line order
line_none x p = refl

line_end : is_line [] [] ≡ true
unfolding is_line order
line_end = refl

module _ (x y : ℕ) (p l : List ℕ) where
  turn_less : y < x → order (y ∷ l) (x ∷ p) ≡ before
  unfolding order
  turn_less h = rw (lt-ltb y x h, order)

  turn_same : y ≡ x → order (y ∷ l) (x ∷ p) ≡ order l p
  unfolding order
  turn_same h = rw (le-ltb y x (omega arith), le-ltb x y (omega arith), order)

  turn_more : x < y → order (y ∷ l) (x ∷ p) ≡ beyond
  unfolding order
  turn_more h = rw (le-ltb y x (omega arith), lt-ltb x y h, order)

  line_cons : is_line (x ∷ p) (y ∷ l) ≡ eqb y x && is_line p l
  unfolding is_line
  line_cons = go (tri y x)
    where
      go : Tri y x → alike (order (y ∷ l) (x ∷ p)) ≡ eqb y x && alike (order l p)
      go (less h) = rw (turn_less h, ne_eqb y x (λ e. omega arith))
      go (same h) = rw (turn_same h, eq-eqb y x h)
      go (more h) = rw (turn_more h, ne_eqb y x (λ e. omega arith))

-- The first line of a text.

head_line : List ℕ → List ℕ
head_line [] = []
head_line (b ∷ t) = cond (eqb b (byte "\n")) (b ∷ []) (b ∷ head_line t)

-- a line has its LF last
data Line : List ℕ → Type 0 where
  line_feed : Line (byte "\n" ∷ [])
  longer : {x : ℕ} {p : List ℕ} → eqb (byte "\n") x ≡ false → Line p → Line (x ∷ p)

-- the first line is p where the text begins with p
head_starts : {p : List ℕ} → Line p → (t : List ℕ) → is_line p (head_line t) ≡ starts_with p t
unfolding head_line starts_with
head_starts line_feed [] = line_none (byte "\n") []
head_starts line_feed (b ∷ t) = go (eqb b (byte "\n")) refl
  where
    go : (c : Bool) → eqb b (byte "\n") ≡ c → is_line (byte "\n" ∷ []) (cond c (b ∷ []) (b ∷ head_line t)) ≡ c && true
    go true e = line_cons (byte "\n") b [] [] ∙ rw (e, line_end)
    go false e = line_cons (byte "\n") b [] (head_line t) ∙ rw e
head_starts (longer {x} {p} n l) [] = line_none x p
head_starts (longer {x} {p} n l) (b ∷ t) = go (eqb b (byte "\n")) refl (head_starts l t)
  where
    go : (c : Bool) → eqb b (byte "\n") ≡ c → is_line p (head_line t) ≡ starts_with p t
        → is_line (x ∷ p) (cond c (b ∷ []) (b ∷ head_line t)) ≡ eqb b x && starts_with p t
    go true e h =
        let f : eqb b x ≡ false = ap (λ m. eqb m x) (eqb-true b (byte "\n") e) ∙ n in
        line_cons x b p [] ∙ rw f
    go false e h = line_cons x b p (head_line t) ∙ ap (λ c. eqb b x && c) h

op_line : Line (ascii "op=1\n")
op_line = longer refl (longer refl (longer refl (longer refl line_feed)))

op-opens : (t : List ℕ) → is_op_line (head_line t) ≡ opens t
unfolding is_op_line is_line
op-opens t = head_starts op_line t

-- The lines of a text that is not empty: the first one, and others.
Headed : List ℕ → List (List ℕ) → Type 0
Headed l ls = (rest : List (List ℕ)) × (ls ≡ l ∷ rest)

head_line_lem : (b : ℕ) (t : List ℕ) → Headed (b ∷ head_line t) (ahead (b ∷ []) (lines t)) → Headed (head_line (b ∷ t)) (lines (b ∷ t))
unfolding Headed lines head_line
head_line_lem b t h = go (eqb b (byte "\n"))
  where
    go : (c : Bool) → Headed (cond c (b ∷ []) (b ∷ head_line t)) (cond c ((b ∷ []) ∷ lines t) (ahead (b ∷ []) (lines t)))
    go true = (lines t, refl)
    go false = h

head_lines : (b : ℕ) (t : List ℕ) → Headed (head_line (b ∷ t)) (lines (b ∷ t))
unfolding Headed lines head_line ahead
head_lines b [] = head_line_lem b [] ([], refl)
head_lines b (c ∷ t) = let h = head_lines c t in head_line_lem b (c ∷ t) (h.0, ap (ahead (b ∷ [])) h.1)

-- The messages of a text by its first byte.

gather-ahead : (b : ℕ) (l : List ℕ) (ls : List (List ℕ)) → gather ((b ∷ l) ∷ ls) ≡ ahead (b ∷ []) (gather (l ∷ ls))
unfolding gather ahead
gather-ahead b l [] = refl
gather-ahead b l (n ∷ ls) = go (is_op_line n) (gather (n ∷ ls))
  where
    go : (c : Bool) (g : List (List ℕ)) → cond c ((b ∷ l) ∷ g) (ahead (b ∷ l) g) ≡ ahead (b ∷ []) (cond c (l ∷ g) (ahead l g))
    go true g = refl
    go false [] = refl
    go false (p ∷ ps) = refl

abbrev by_byte : Bool → ℕ → List (List ℕ) → List (List ℕ)
by_byte alone b ms = cond alone ((b ∷ []) ∷ ms) (ahead (b ∷ []) ms)

-- ahead of lines with the first line l
by_lines : (b : ℕ) (l : List ℕ) (ls : List (List ℕ)) (c : Bool)
    → gather (cond c ((b ∷ []) ∷ l ∷ ls) (ahead (b ∷ []) (l ∷ ls))) ≡ by_byte (c && is_op_line l) b (gather (l ∷ ls))
unfolding gather ahead
by_lines b l ls true = refl
by_lines b l ls false = gather-ahead b l ls

by_none : (b : ℕ) (c : Bool) → gather (cond c ((b ∷ []) ∷ []) (ahead (b ∷ []) [])) ≡ by_byte (c && opens []) b (gather [])
unfolding gather ahead starts_with
by_none b true = refl
by_none b false = refl

pub messages_none : messages [] ≡ []
unfolding messages gather lines
messages_none = refl

messages_cons : (b : ℕ) (t : List ℕ) → messages (b ∷ t) ≡ by_byte (eqb b (byte "\n") && opens t) b (messages t)
unfolding messages lines Headed
messages_cons b [] = by_none b (eqb b (byte "\n"))
messages_cons b (c ∷ t) =
    let h = head_lines c t in
    let o : is_op_line (head_line (c ∷ t)) ≡ opens (c ∷ t) = op-opens (c ∷ t) in
    ap (λ ls. gather (cond (eqb b (byte "\n")) ((b ∷ []) ∷ ls) (ahead (b ∷ []) ls))) h.1
    ∙ (by_lines b (head_line (c ∷ t)) h.0 (eqb b (byte "\n"))
    ∙ (ap (λ d. by_byte (eqb b (byte "\n") && d) b (gather (head_line (c ∷ t) ∷ h.0))) o
    ∙ ap (λ ls. by_byte (eqb b (byte "\n") && opens (c ∷ t)) b (gather ls)) (sym h.1)))

-- The first message of a text has `first` bytes, and the others stand behind it.

pub first_some : (b : ℕ) (t : List ℕ) → 1 ≤ first (b ∷ t)
unfolding first
first_some b t = go (eqb b (byte "\n") && opens t)
  where
    go : (c : Bool) → 1 ≤ cond c 1 (suc (first t))
    go true = omega arith
    go false = omega arith

pub first_most : (t : List ℕ) → first t ≤ length t
unfolding first
first_most [] = omega arith
first_most (b ∷ t) = go (eqb b (byte "\n") && opens t) (first_most t)
  where
    go : (c : Bool) → first t ≤ length t → cond c 1 (suc (first t)) ≤ suc (length t)
    go true h = omega arith
    go false h = omega arith

Cuts : List ℕ → Type 0
Cuts t = messages t ≡ take (first t) t ∷ messages (drop (first t) t)

cut_by : (b : ℕ) (t : List ℕ) → ahead (b ∷ []) (messages t) ≡ (b ∷ take (first t) t) ∷ messages (drop (first t) t) → Cuts (b ∷ t)
unfolding Cuts first
cut_by b t h = messages_cons b t ∙ go (eqb b (byte "\n") && opens t)
  where
    go : (c : Bool) → by_byte c b (messages t) ≡ take (cond c 1 (suc (first t))) (b ∷ t) ∷ messages (drop (cond c 1 (suc (first t))) (b ∷ t))
    go true = refl
    go false = h

cut_first : (b : ℕ) (t : List ℕ) → Cuts (b ∷ t)
unfolding ahead first Cuts
cut_first b [] = cut_by b [] (rw messages_none)
cut_first b (c ∷ t) = cut_by b (c ∷ t) (ap (ahead (b ∷ [])) (cut_first c t))

pub first_cuts : (t : List ℕ) → 0 < length t → messages t ≡ take (first t) t ∷ messages (drop (first t) t)
unfolding Cuts
first_cuts [] h = absurd (omega arith)
first_cuts (b ∷ t) h = cut_first b t
