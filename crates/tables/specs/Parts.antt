-- Tables that hold rows, in parts: the words of a row stand behind those of the rows before it, and before those of the rows behind it.
-- Assumes nothing.
use Rattle.std.specs.Prelude.{ℕ, ◌+◌, ◌*◌, ◌<◌, ◌≡◌, refl, true, false, pos, negsuc, length}
use Rattle.std.proofs.Common.{arith, sym, ◌∙◌, length-append}
use Rattle.std.proofs.Math.Path.{ap}
use mathlib.Core.List.{List, [], ◌∷◌, ◌++◌, append_assoc}
use Rattle.meaning.specs.Places.{Plain, null, bool, integer, string, Value}
use Rattle.meaning.specs.Members.{All}
use Rattle.meaning.specs.Load.{marks_in, values_in}
use Rattle.meaning.specs.Sheet.{Row}
use Rattle.words.proofs.Padded.{pad-length}
use Rattle.readers.specs.Words.{plain_words}
use Rattle.tables.specs.Words.{value_words, each_value, head_word}
use Rattle.tables.specs.declared.Tables.{Tables}
use Rattle.tables.specs.Words.{heads_of, keys_of, marks_of, values_of}
use Rattle.tables.specs.Finds.{Narrow, AllNarrow, next_row, after}
use Rattle.tables.specs.Standing.{first, behind, heads-append, heads-length, keys_length}
use Rattle.tables.specs.Holding.{heads_room, keys_room, marks_room, values_room, Good, Holds}
use Rattle.tables.specs.declared.Counts.{Counts}
use Rattle.tables.specs.declared.Position.{Position}

-- How long the live words are.

pub marks_length : (rs : List Row) → length (marks_of rs) ≡ marks_in rs
unfolding marks_of marks_in
marks_length [] = refl
marks_length (r ∷ rs) = length-append r.marks (marks_of rs) ∙ ap (length r.marks +◌) (marks_length rs)

pub plain_six : (x : Plain) → length (plain_words x) ≡ 5
unfolding Rattle.readers.specs.Words.words_of
plain_six null = refl
plain_six (bool true) = refl
plain_six (bool false) = refl
plain_six (integer (pos n)) = refl
plain_six (integer (negsuc n)) = refl
plain_six (string b) = refl

pub each_length : (vs : List Value) → length (each_value vs) ≡ length vs * 6
unfolding each_value
each_length [] = refl
each_length (v ∷ vs) =
    omega (arith, length-append (value_words v) (each_value vs), plain_six v.val, each_length vs)

pub values_length : (rs : List Row) → length (values_of rs) ≡ values_in rs * 6
unfolding values_of values_in
values_length [] = refl
values_length (r ∷ rs) =
    omega (arith, length-append (each_value r.values) (values_of rs), each_length r.values, values_length rs)

-- Rows before, and rows behind.

pub marks_of_append : (a b : List Row) → marks_of (a ++ b) ≡ marks_of a ++ marks_of b
unfolding marks_of
marks_of_append [] b = refl
marks_of_append (r ∷ a) b = ap (r.marks ++◌) (marks_of_append a b) ∙ sym (append_assoc r.marks (marks_of a) (marks_of b))

pub values_of_append : (a b : List Row) → values_of (a ++ b) ≡ values_of a ++ values_of b
unfolding values_of
values_of_append [] b = refl
values_of_append (r ∷ a) b =
    ap (each_value r.values ++◌) (values_of_append a b) ∙ sym (append_assoc (each_value r.values) (values_of a) (values_of b))

after_is : (s : Position) (a : List Row)
    → after s a ≡ record { row = s.row + length a; mark = s.mark + marks_in a; value = s.value + values_in a }
unfolding after marks_in values_in
after_is s [] =
    let e : s.row ≡ s.row + 0 = omega arith in
    let f : s.mark ≡ s.mark + 0 = omega arith in
    let g : s.value ≡ s.value + 0 = omega arith in
    rw (← e, ← f, ← g)
after_is s (r ∷ a) =
    let e : s.row + 1 + length a ≡ s.row + length (r ∷ a) = omega arith in
    let f : s.mark + length r.marks + marks_in a ≡ s.mark + (length r.marks + marks_in a) = omega arith in
    let g : s.value + length r.values + values_in a ≡ s.value + (length r.values + values_in a) = omega arith in
    after_is (next_row s r) a ∙ rw (e, f, g)

-- where the first of the rows behind `a` stands
pub behind-is : (a : List Row) → behind a ≡ record { row = length a; mark = marks_in a; value = values_in a }
behind-is a =
    let e : 0 + length a ≡ length a = omega arith in
    let f : 0 + marks_in a ≡ marks_in a = omega arith in
    let g : 0 + values_in a ≡ values_in a = omega arith in
    after_is first a ∙ rw (e, f, g)

pub record At (s : Position) (a : List Row) : Type 0 where
  pub row : s.row ≡ length a
  pub mark : s.mark ≡ marks_in a
  pub value : s.value ≡ values_in a

pub at-behind : (s : Position) (a : List Row) → s ≡ behind a → At s a
at-behind s a e =
    let f = e ∙ behind-is a in
    record { row = ap (λ s. s.row) f; mark = ap (λ s. s.mark) f; value = ap (λ s. s.value) f }

pub behind-at : (s : Position) (a : List Row) → At s a → s ≡ behind a
behind-at s a h = rw (sym h.row, sym h.mark, sym h.value) at (sym (behind-is a))

-- all of some rows, and of others
module _ {A : Type 0} (P : A → Type 0) where
  pub all_left : (a b : List A) → All P (a ++ b) → All P a
  all_left [] b h = tt
  all_left (x ∷ a) b h = (h.0, all_left a b h.1)

  pub all_right : (a b : List A) → All P (a ++ b) → All P b
  all_right [] b h = h
  all_right (x ∷ a) b h = all_right a b h.1

  pub all_both : (a b : List A) → All P a → All P b → All P (a ++ b)
  all_both [] b h k = k
  all_both (x ∷ a) b h k = (h.0, all_both a b h.1 k)

-- Rows that tables hold can be told from their words.

few_narrow : (rs : List Row) → All Good rs → marks_in rs < 2048 → values_in rs < 512 → AllNarrow rs
unfolding AllNarrow marks_in values_in
few_narrow [] g m v = tt
few_narrow (r ∷ rs) g m v = (
  record { spot = g.0.spot; depth = omega (arith, g.0.depth); marks = omega arith; values = omega arith },
  few_narrow rs g.1 (omega arith) (omega arith),
)

pub holds_narrow : (T : Tables) (c : Counts) (rs : List Row) → Holds T c rs → AllNarrow rs
holds_narrow T c rs h =
    few_narrow rs h.good (omega (arith, h.marks_are, h.marks_fit)) (omega (arith, h.values_are, h.values_fit))

pub all_narrow_left : (a b : List Row) → AllNarrow (a ++ b) → AllNarrow a
unfolding AllNarrow
all_narrow_left [] b h = tt
all_narrow_left (r ∷ a) b h = (h.0, all_narrow_left a b h.1)

pub all_narrow_right : (a b : List Row) → AllNarrow (a ++ b) → AllNarrow b
unfolding AllNarrow
all_narrow_right [] b h = h
all_narrow_right (r ∷ a) b h = all_narrow_right a b h.1

pub narrow_at : (T : Tables) (c : Counts) (a : List Row) (r : Row) (b : List Row) → Holds T c (a ++ r ∷ b) → Narrow r
unfolding AllNarrow
narrow_at T c a r b h = (all_narrow_right a (r ∷ b) (holds_narrow T c (a ++ r ∷ b) h)).0

-- the lengths of the tables
module _ (T : Tables) (c : Counts) (rs : List Row) (h : Holds T c rs) where
  pub heads_long : length T.heads ≡ heads_room
  heads_long = ap length h.heads ∙ pad-length heads_room (heads_of rs) (omega (arith, heads-length rs, h.rows_are, h.rows_fit))

  pub keys_long : length T.keys ≡ keys_room
  keys_long = ap length h.keys ∙ pad-length keys_room (keys_of rs) (omega (arith, keys_length rs, h.rows_are, h.rows_fit))

  pub marks_long : length T.marks ≡ marks_room
  marks_long = ap length h.marks ∙ pad-length marks_room (marks_of rs) (omega (arith, marks_length rs, h.marks_are, h.marks_fit))

  pub values_long : length T.values ≡ values_room
  values_long =
      ap length h.values ∙ pad-length values_room (values_of rs) (omega (arith, values_length rs, h.values_are, h.values_fit))

-- a row between others, with the words that come behind: z are the zeros
module _ (a : List Row) (r : Row) (b : List Row) (z : List ℕ) where
  pub heads-parts : heads_of (a ++ r ∷ b) ++ z ≡ heads_of a ++ head_word r ∷ (heads_of b ++ z)
  unfolding heads_of
  heads-parts = ap (◌++ z) (heads-append a (r ∷ b)) ∙ append_assoc (heads_of a) (head_word r ∷ heads_of b) z

  pub marks_parts : marks_of (a ++ r ∷ b) ++ z ≡ marks_of a ++ (r.marks ++ (marks_of b ++ z))
  unfolding marks_of
  marks_parts =
      ap (◌++ z) (marks_of_append a (r ∷ b)) ∙ (append_assoc (marks_of a) (r.marks ++ marks_of b) z
      ∙ ap (marks_of a ++◌) (append_assoc r.marks (marks_of b) z))

  pub values-parts : values_of (a ++ r ∷ b) ++ z ≡ values_of a ++ (each_value r.values ++ (values_of b ++ z))
  unfolding values_of
  values-parts =
      ap (◌++ z) (values_of_append a (r ∷ b)) ∙ (append_assoc (values_of a) (each_value r.values ++ values_of b) z
      ∙ ap (values_of a ++◌) (append_assoc (each_value r.values) (values_of b) z))
