-- Sizes: a message has at most 463 bytes, and one has as many; the sheet of a sound document within the limits has at most 65,536.
-- Assumes nothing.
use Rattle.std.specs.Prelude.{ℕ, zero, suc, ◌+◌, ◌*◌, ◌≤◌, ◌≡◌, refl, Bool, true, false, List, [], ◌∷◌, ◌++◌, map, pos}
use Rattle.std.specs.Prelude.{negsuc, length, replicate}
use Rattle.std.proofs.Common.{arith, mod-lt, sym, ap, ◌∙◌, append_assoc, inl, inr, length-append, leb-true}
use Rattle.meaning.specs.Ascii.{ascii}
use Rattle.meaning.specs.Ids.{id_of, counter_of, entry_of, entry, covered}
use Rattle.meaning.specs.Places.{Plain, null, bool, integer, string, Value, Document}
use Rattle.meaning.specs.Ways.{Assigned, plain, empty_map, empty_list, Prev, head, after}
use Rattle.meaning.specs.Ways.{Way, assign, delete, insert, into_map, into_list, Operation, steps}
use Rattle.meaning.specs.Limits.{fits}
use Rattle.meaning.specs.Members.{All, Has, own, id_of_value}
use Rattle.meaning.specs.Valid.{ValidCounters, ValidPlain, ValidAssigned, ValidPrev, ValidWay, ValidEdit, ValidOperation}
use Rattle.meaning.specs.Text.{digits, width_from, width, decimal, integer_text, id_text, comma_text, counters_text}
use Rattle.meaning.specs.Text.{hex_digit, hex, plain_text}
use Rattle.meaning.specs.Text.{assigned_text}
use Rattle.meaning.specs.Message.{prev_text, steps_text, do_text, edit_text, message}
use Rattle.meaning.specs.Sheet.{Spot, in_map, in_list, Row, rows_of, flags_text, spot_text, line_text, lines_text, row_lines, rows_lines}
use Rattle.meaning.specs.Sheet.{Line, place_line, mark_line, value_line, end_line, sheet_lines, sheet}
use Rattle.meaning.specs.Load.{marks_in, values_in, Seen, Named}
use Rattle.meaning.specs.Sound.{Sound}
use Rattle.theorems.specs.Decimal.{decimal-short}
use Rattle.theorems.specs.Fit.{RowRule, FitOn}
use Rattle.theorems.specs.Saved.{sound_fits}
use Rattle.theorems.specs.Running.{Room, holder_seen, moves, named}
use Rattle.theorems.specs.Accepting.{fits_limits, sound_room}

-- The parts.

counter_short : (x : ℕ) → x ≤ 4294967295 → length (decimal x) ≤ 10
counter_short x h = decimal-short 10 x (omega arith) (omega arith)

id_short : (i : ℕ) → counter_of i ≤ 4294967295 → length (id_text i) ≤ 12
unfolding id_text
id_short i h =
    let c = counter_short (counter_of i) h in
    let r = decimal-short 1 (suc (entry_of i)) (omega arith) (omega (arith, mod-lt i {m = 8} (omega arith))) in
    omega (arith, length-append (decimal (counter_of i)) (ascii "." ++ decimal (suc (entry_of i))))

commas_short : (xs : List ℕ) → ((n : ℕ) → entry xs n ≤ 4294967295) → length (comma_text xs) ≤ 11 * length xs
unfolding comma_text
commas_short [] h = omega arith
commas_short (x ∷ xs) h =
    omega (arith, length-append (decimal x) (comma_text xs), counter_short x (h 0), commas_short xs (λ n. h (suc n)))

counters-short : (s : List ℕ) → ValidCounters s → length (counters_text s) ≤ 87
unfolding counters_text
counters-short [] v = omega arith
counters-short (x ∷ xs) v =
    omega (arith, length-append (decimal x) (comma_text xs), counter_short x (v.each 0), commas_short xs (λ n. v.each (suc n)), v.eight)

hex-length : (k : List ℕ) → length (hex k) ≡ 2 * length k
unfolding hex
hex-length [] = refl
hex-length (b ∷ k) = omega (arith, hex-length k)

plain_short : (v : Plain) → ValidPlain v → length (plain_text v) ≤ 65
unfolding plain_text integer_text
plain_short null h = omega arith
plain_short (bool true) h = omega arith
plain_short (bool false) h = omega arith
plain_short (integer (pos n)) h = omega (arith, decimal-short 19 n (omega arith) (omega arith))
plain_short (integer (negsuc n)) h = omega (arith, decimal-short 19 (suc n) (omega arith) (omega arith))
plain_short (string b) h = omega (arith, hex-length b, h.short)

assigned-short : (a : Assigned) → ValidAssigned a → length (assigned_text a) ≤ 65
unfolding assigned_text
assigned-short (plain v) h = plain_short v h
assigned-short empty_map h = omega arith
assigned-short empty_list h = omega arith

-- Messages.

prev_short : (p : Prev) → ValidPrev p → length (prev_text p) ≤ 12
unfolding prev_text
prev_short head h = omega arith
prev_short (after e) h = id_short e h.high

-- a key of the way takes at most 33 bytes with its bracket
steps-short : (w : Way) → ValidWay w → length (steps_text w) ≤ 33 * steps w
unfolding steps_text steps
steps-short (assign a) v = omega arith
steps-short delete v = omega arith
steps-short (insert p a) v = omega (arith, prev_short p v.0)
steps-short (into_map k w) v = omega (arith, length-append (hex k) (steps_text w), hex-length k, v.0.short, steps-short w v.1)
steps-short (into_list e w) v = omega (arith, length-append (id_text e) (steps_text w), id_short e v.0.high, steps-short w v.1)

do_short : (w : Way) → ValidWay w → length (do_text w) ≤ 82
unfolding do_text
do_short (assign a) v = omega (arith, length-append (assigned_text a) (ascii "\n"), assigned-short a v)
do_short delete v = omega arith
do_short (insert p a) v = omega (arith, length-append (assigned_text a) (ascii "\n"), assigned-short a v.1)
do_short (into_map k w) v = do_short w v.1
do_short (into_list e w) v = do_short w v.1

edit-short : (top : List ℕ) (w : Way) → ValidEdit top w → length (edit_text top w) ≤ 349
unfolding edit_text
edit-short top w v =
    omega (
      arith,
      length-append (hex top) (steps_text w ++ (ascii "\n" ++ do_text w)),
      length-append (steps_text w) (ascii "\n" ++ do_text w),
      hex-length top,
      v.first.short,
      steps-short w v.rest,
      v.reach,
      do_short w v.rest,
    )

-- a message has at most 463 bytes
pub message-short : (o : Operation) → ValidOperation o → length (message o) ≤ 463
unfolding message
message-short o v =
    let e = ascii "\n" ++ edit_text o.top o.way in
    let d = ascii "\ndeps=" ++ (counters_text o.deps ++ e) in
    omega (
      arith,
      length-append (id_text o.id) d,
      length-append (counters_text o.deps) e,
      id_short o.id v.id.high,
      counters-short o.deps v.deps,
      edit-short o.top o.way v.edit,
    )

-- and this one has as many: eight keys of sixteen bytes, a string of thirty-two, all counters of ten digits
long_key : List ℕ
long_key = replicate 16 0

long_way : ℕ → Way
long_way zero = assign (plain (string (replicate 32 0)))
long_way (suc n) = into_map long_key (long_way n)

pub longest : Operation
longest = record { id = id_of 4294967295 8; deps = replicate 8 4294967294; top = long_key; way = long_way 7 }

pub longest_long : length (message longest) ≡ 463
unfolding longest long_key long_way message edit_text steps_text do_text assigned_text plain_text hex hex_digit
    counters_text comma_text id_text decimal width width_from digits
longest_long = refl

-- Sheets.

seen_short : (s : List ℕ) (i : ℕ) → ValidCounters s → Seen s i → length (id_text i) ≤ 12
unfolding covered
seen_short s i c h = id_short i (omega (arith, leb-true (counter_of i) (entry s (entry_of i)) h.covers, c.each (entry_of i)))

flags_length : (m l : Bool) → length (flags_text m l) ≡ 1
flags_length true true = refl
flags_length true false = refl
flags_length false true = refl
flags_length false false = refl

spot_short : (s : List ℕ) (rs : List Row) (p : Spot) (m l : Bool) → ValidCounters s → Named s rs p
    → length (spot_text p (flags_text m l)) ≤ 34
unfolding spot_text
spot_short s rs (in_map k) m l c h =
    omega (arith, length-append (flags_text m l) (hex k), flags_length m l, hex-length k, h.short)
spot_short s rs (in_list i) m l c h =
    omega (arith, length-append (flags_text m l) (id_text i), flags_length m l, seen_short s i c h.0)

-- lines behind lines, as text
pub lines-append : (xs ys : List Line) → lines_text (xs ++ ys) ≡ lines_text xs ++ lines_text ys
unfolding lines_text
lines-append [] ys = refl
lines-append (x ∷ xs) ys = ap (line_text x ++◌) (lines-append xs ys) ∙ sym (append_assoc (line_text x) (lines_text xs) (lines_text ys))

lines-length : (xs ys : List Line) → length (lines_text (xs ++ ys)) ≡ length (lines_text xs) + length (lines_text ys)
lines-length xs ys = ap length (lines-append xs ys) ∙ length-append (lines_text xs) (lines_text ys)

marks_short : (s : List ℕ) (ms : List ℕ) → ValidCounters s → ((j : ℕ) → Has own j ms → Seen s j)
    → length (lines_text (map mark_line ms)) ≤ 18 * length ms
unfolding lines_text line_text
marks_short s [] c h = omega arith
marks_short s (i ∷ ms) c h =
    omega (
      arith,
      length-append (line_text (mark_line i)) (lines_text (map mark_line ms)),
      length-append (id_text i) (ascii "\n"),
      seen_short s i c (h i (inl refl)),
      marks_short s ms c (λ j u. h j (inr u)),
    )

values-short : (s : List ℕ) (vs : List Value) → ValidCounters s → ((j : ℕ) → Has id_of_value j vs → Seen s j)
    → All (λ v. ValidPlain v.val) vs → length (lines_text (map value_line vs)) ≤ 85 * length vs
unfolding lines_text line_text
values-short s [] c h a = omega arith
values-short s (v ∷ vs) c h a =
    let t = ascii ":" ++ (plain_text v.val ++ ascii "\n") in
    omega (
      arith,
      length-append (line_text (value_line v)) (lines_text (map value_line vs)),
      length-append (id_text v.id) t,
      length-append (plain_text v.val) (ascii "\n"),
      seen_short s v.id c (h v.id (inl refl)),
      plain_short v.val a.0,
      values-short s vs c (λ j u. h j (inr u)) a.1,
    )

row_short : (s : List ℕ) (rs : List Row) (x : Row) (xs : List Row) → ValidCounters s → RowRule s x rs → Room s rs (x ∷ xs)
    → length (lines_text (row_lines x)) ≤ 42 + (18 * length x.marks + 85 * length x.values)
unfolding row_lines lines_text line_text
row_short s rs x xs c r m =
    let f = flags_text x.map x.list in
    let t = spot_text x.spot f ++ ascii "\n" in
    let o = r.owns in
    let seen : (j : ℕ) → Has own j x.marks → Seen s j = λ j u. holder_seen s x.depth rs j m.seen (o.among j u) in
    let l : Line = place_line x.depth x.spot x.map x.list in
    omega (
      arith,
      length-append (line_text l) (lines_text (map mark_line x.marks ++ map value_line x.values)),
      lines-length (map mark_line x.marks) (map value_line x.values),
      length-append (decimal x.depth) t,
      length-append (spot_text x.spot f) (ascii "\n"),
      decimal-short 1 x.depth (omega arith) (omega (arith, r.high)),
      spot_short s rs x.spot x.map x.list c (named s rs x xs m r.key),
      marks_short s x.marks c seen,
      values-short s x.values c (λ j u. seen j (o.marked j u)) o.valid,
    )

rows_short : (s : List ℕ) (rs xs : List Row) → ValidCounters s → FitOn s rs xs → Room s rs xs
    → length (lines_text (rows_lines xs)) ≤ 42 * length xs + (18 * marks_in xs + 85 * values_in xs)
unfolding rows_lines lines_text marks_in values_in
rows_short s rs [] c f m = omega arith
rows_short s rs (x ∷ xs) c f m =
    omega (
      arith,
      lines-length (row_lines x) (rows_lines xs),
      row_short s rs x xs c f.0 m,
      rows_short s (x ∷ rs) xs c f.1 (moves s rs x xs f.0 m),
    )

end_short : (n : ℕ) → n ≤ 256 → length (lines_text (end_line n ∷ [])) ≤ 8
unfolding lines_text line_text
end_short n h =
    omega (
      arith,
      length-append (decimal n ++ ascii "\n") [],
      length-append (decimal n) (ascii "\n"),
      decimal-short 3 n (omega arith) (omega arith),
    )

-- a sheet within the limits has at most 65,536 bytes
pub sheet-short : (D : Document) → Sound D → fits D ≡ true → length (sheet D) ≤ 65536
unfolding sheet sheet_lines lines_text line_text rows_of
sheet-short D s f =
    let m = sound_room D s f in
    let l = fits_limits D f in
    let xs = rows_of D in
    let e : List Line = end_line (length xs) ∷ [] in
    let t = lines_text (rows_lines xs ++ e) in
    omega (
      arith,
      length-append (counters_text D.seen ++ ascii "\n") t,
      length-append (counters_text D.seen) (ascii "\n"),
      lines-length (rows_lines xs) e,
      counters-short D.seen s.seen,
      end_short (length xs) l.places,
      rows_short D.seen [] xs s.seen (sound_fits D.seen D.root s.places) m,
      l.places,
      l.marks,
      l.values,
    )
