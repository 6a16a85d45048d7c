-- Document 01, the table of "What is answered", row by row: the number of each case of an answer, and what comes with it. An edit of any
-- line of specs/Answers is refused here.
-- Assumes nothing.
use Rattle.std.specs.Prelude.{ℕ, ◌≡◌, refl, List, [], ◌∷◌, map, true, false, Ok, Err}
use Rattle.meaning.specs.Answers.{Answer, receipt_answer, edited_answer, saved_answer, loaded_answer, reading_answer, refuses}
use Rattle.meaning.specs.declared.Received.TheVariants as D
use Rattle.meaning.specs.declared.ReceiveError.TheVariants as R
use Rattle.meaning.specs.declared.EditError.TheVariants as E
use Rattle.meaning.specs.declared.ReadError.TheVariants as G

-- the number; how many were applied and dropped; the bytes written; the line; the bytes needed
abbrev given : ℕ → ℕ → ℕ → ℕ → ℕ → ℕ → Answer
given n a d w l b = record { number = n; applied = a; dropped = d; written = w; line = l; needed = b }

-- a number that gives nothing
abbrev bare : ℕ → Answer
bare n = given n 0 0 0 0 0

-- a case of an answer, and what the table says of it
pub record Case : Type 0 where
  pub case : Answer
  pub says : Answer

abbrev is : Answer → Answer → Case
is a b = record { case = a; says = b }

-- a operations were applied and d dropped, w bytes written, line l is the first that breaks a rule, b bytes are needed
abbrev pub table : ℕ → ℕ → ℕ → ℕ → ℕ → List Case
table a d w l b =
    -- 0: applied, saved, loaded or read
    is (receipt_answer (Ok (D.Applied a d))) (given 0 a d 0 0 0) ∷
    is (edited_answer (Ok (record { applied = a; dropped = d; written = w }))) (given 0 a d w 0 0) ∷
    is (saved_answer (Ok w)) (given 0 0 0 w 0 0) ∷
    is (loaded_answer (Ok tt)) (given 0 0 0 0 0 0) ∷
    is (reading_answer (Ok w)) (given 0 0 0 w 0 0) ∷
    -- 1: message, edit or way not in the layout, or the device's number not 1 to 8
    is (receipt_answer (Err R.Layout)) (bare 1) ∷
    is (edited_answer (Err E.Layout)) (bare 1) ∷
    is (reading_answer (Err G.Layout)) (bare 1) ∷
    -- 2: counter not above every deps entry
    is (receipt_answer (Err R.Counter)) (bare 2) ∷
    -- 3: counter not above seen entry r
    is (receipt_answer (Err R.Repeat)) (bare 3) ∷
    -- 4: own deps entry below seen entry r
    is (receipt_answer (Err R.OwnDeps)) (bare 4) ∷
    -- 5: not ready: now waiting
    is (receipt_answer (Ok D.Waiting)) (bare 5) ∷
    -- 6: not ready, and the same id waits already
    is (receipt_answer (Err R.WaitsAlready)) (bare 6) ∷
    -- 7: not ready, 64 wait
    is (receipt_answer (Err R.WaitingFull)) (bare 7) ∷
    -- 8: an element id in the way isn't covered by deps, or isn't an element of that list
    is (receipt_answer (Err R.NoElement)) (bare 8) ∷
    is (edited_answer (Err E.NoElement)) (bare 8) ∷
    -- 9: insert after an element whose id is not smaller
    is (receipt_answer (Err R.NotSmaller)) (bare 9) ∷
    is (edited_answer (Err E.NotSmaller)) (bare 9) ∷
    -- 10: over 256 places, 1,024 marks or 256 values
    is (receipt_answer (Err R.NoRoom)) (bare 10) ∷
    is (edited_answer (Err E.NoRoom)) (bare 10) ∷
    -- 11: local edit, a seen entry is 4294967295
    is (edited_answer (Err E.LastCounter)) (bare 11) ∷
    -- 12: sheet breaks a rule: number of the first line that breaks one
    is (loaded_answer (Err (record { line = l }))) (given 12 0 0 0 l 0) ∷
    -- 13: caller's buffer too short: bytes needed
    is (edited_answer (Err (E.ShortBuffer b))) (given 13 0 0 0 0 b) ∷
    is (saved_answer (Err (record { needed = b }))) (given 13 0 0 0 0 b) ∷
    is (reading_answer (Err (G.ShortBuffer b))) (given 13 0 0 0 0 b) ∷
    -- 14: read: way unknown, place without marks, or no such index
    is (reading_answer (Err G.NotThere)) (bare 14) ∷
    []

pub numbers : (a d w l b : ℕ) → map (λ c. c.case) (table a d w l b) ≡ map (λ c. c.says) (table a d w l b)
numbers a d w l b = refl

-- "All but 0 and 5 leave document, waiting messages and buffers unchanged": the numbers 0 to 14 in turn
pub refusals : map refuses (0 ∷ 1 ∷ 2 ∷ 3 ∷ 4 ∷ 5 ∷ 6 ∷ 7 ∷ 8 ∷ 9 ∷ 10 ∷ 11 ∷ 12 ∷ 13 ∷ 14 ∷ [])
    ≡ false ∷ true ∷ true ∷ true ∷ true ∷ false ∷ true ∷ true ∷ true ∷ true ∷ true ∷ true ∷ true ∷ true ∷ true ∷ []
refusals = refl
