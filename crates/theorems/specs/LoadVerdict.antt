-- A text has one verdict: it is accepted with one document, or one line is the first that breaks a rule. And what the loader makes of the
-- lines of a document.
-- Assumes nothing.
use Rattle.std.specs.Prelude.{ℕ, suc, ◌<◌, ◌≡◌, refl, length}
use Rattle.std.proofs.Common.{arith, sym, ap, ◌∙◌, subst}
use mathlib.Core.List.{List, [], ◌∷◌, ◌++◌, map, append_assoc, append-nil, reverse, reverse_aux}
use Rattle.meaning.specs.Places.{Value, Document}
use Rattle.meaning.specs.Sheet.{Spot, in_map, in_list, Row, rows_of, line_text, lines_text, row_lines, rows_lines, sheet_lines}
use Rattle.meaning.specs.Sheet.{Line, sheet_line, seen_line, place_line, mark_line, value_line, end_line}
use Rattle.meaning.specs.Load.{Loading, begin, headed, reading, ended, Allowed, next, Runs, next_all, Named, Accepted, Broken, Unfinished}
use Rattle.theorems.specs.Back.{spelled}
use Rattle.theorems.specs.Lines.{SpelledSpot, SpelledLine, line_once}
use Rattle.theorems.specs.Rows.{rows_once}

-- Lines.

spelled_spot : (s : List ℕ) (rs : List Row) (p : Spot) → Named s rs p → SpelledSpot p
spelled_spot s rs (in_map k) h = h.bytes
spelled_spot s rs (in_list i) h = tt

-- an allowed line is spelled as lines are
pub spelled_line : (L : Loading) (l : Line) → Allowed L l → SpelledLine l
spelled_line begin sheet_line h = tt
spelled_line begin (seen_line s) h = absurd h
spelled_line begin (place_line n p m l) h = absurd h
spelled_line begin (mark_line i) h = tt
spelled_line begin (value_line v) h = absurd h
spelled_line begin (end_line n) h = tt
spelled_line headed sheet_line h = tt
spelled_line headed (seen_line s) h = h.eight
spelled_line headed (place_line n p m l) h = absurd h
spelled_line headed (mark_line i) h = tt
spelled_line headed (value_line v) h = absurd h
spelled_line headed (end_line n) h = tt
spelled_line (reading s rs) sheet_line h = tt
spelled_line (reading s rs) (seen_line c) h = absurd h
spelled_line (reading s rs) (place_line n p m l) h = spelled_spot s rs p h.named
spelled_line (reading s rs) (mark_line i) h = tt
spelled_line (reading s []) (value_line v) h = absurd h
spelled_line (reading s (r ∷ rs)) (value_line v) h = spelled v.val h.valid
spelled_line (reading s rs) (end_line n) h = tt
spelled_line (ended s rs) l h = absurd h

-- no allowed line stands at the start of t
abbrev Stuck : Loading → List ℕ → Type 0
Stuck L t = (l : Line) (u : List ℕ) → Allowed L l → t ≡ line_text l ++ u → ⊥

-- two runs of lines over one text that can't go on are the same run
meet : (L : Loading) (a b : List Line) (t u : List ℕ) → Runs L a → Runs L b → Stuck (next_all L a) t → Stuck (next_all L b) u
    → lines_text a ++ t ≡ lines_text b ++ u → (a ≡ b) × (t ≡ u)
unfolding lines_text
meet L [] [] t u p q x y e = (refl, e)
meet L [] (m ∷ b) t u p q x y e = absurd (x m (lines_text b ++ u) q.0 (e ∙ append_assoc (line_text m) (lines_text b) u))
meet L (l ∷ a) [] t u p q x y e = absurd (y l (lines_text a ++ t) p.0 (sym e ∙ append_assoc (line_text l) (lines_text a) t))
meet L (l ∷ a) (m ∷ b) t u p q x y e =
    let z = sym (append_assoc (line_text l) (lines_text a) t) ∙ (e ∙ append_assoc (line_text m) (lines_text b) u) in
    let o = line_once l m _ _ (spelled_line L l p.0) (spelled_line L m q.0) z in
    let k : m ≡ l = sym o.0 in
    let r = meet (next L l) a b t u p.1 (subst (λ m. Runs (next L m) b) k q.1) x
    (subst (λ m. Stuck (next_all (next L m) b) u) k y) o.1 in
    (cc (o.0, r.0), r.1)

-- What the loader makes of lines.

abbrev pub with_marks : Row → List ℕ → Row
with_marks r ms = record { depth = r.depth; spot = r.spot; map = r.map; list = r.list; marks = ms; values = r.values }

abbrev pub with_values : Row → List Value → Row
with_values r vs = record { depth = r.depth; spot = r.spot; map = r.map; list = r.list; marks = r.marks; values = vs }

load_marks : (s : List ℕ) (r : Row) (rs : List Row) (ms : List ℕ) (ls : List Line)
    → next_all (reading s (r ∷ rs)) (map mark_line ms ++ ls) ≡ next_all (reading s (with_marks r (r.marks ++ ms) ∷ rs)) ls
load_marks s r rs [] ls = ap (λ ms. next_all (reading s (with_marks r ms ∷ rs)) ls) (sym (append-nil r.marks))
load_marks s r rs (i ∷ ms) ls =
    load_marks s (with_marks r (r.marks ++ (i ∷ []))) rs ms ls
    ∙ ap (λ ms. next_all (reading s (with_marks r ms ∷ rs)) ls) (append_assoc r.marks (i ∷ []) ms)

load_values : (s : List ℕ) (r : Row) (rs : List Row) (vs : List Value) (ls : List Line)
    → next_all (reading s (r ∷ rs)) (map value_line vs ++ ls) ≡ next_all (reading s (with_values r (r.values ++ vs) ∷ rs)) ls
load_values s r rs [] ls = ap (λ vs. next_all (reading s (with_values r vs ∷ rs)) ls) (sym (append-nil r.values))
load_values s r rs (v ∷ vs) ls =
    load_values s (with_values r (r.values ++ (v ∷ []))) rs vs ls
    ∙ ap (λ vs. next_all (reading s (with_values r vs ∷ rs)) ls) (append_assoc r.values (v ∷ []) vs)

load_row : (s : List ℕ) (r : Row) (rs : List Row) (ls : List Line)
    → next_all (reading s rs) (row_lines r ++ ls) ≡ next_all (reading s (r ∷ rs)) ls
unfolding row_lines
load_row s r rs ls =
    let b : Row = record { depth = r.depth; spot = r.spot; map = r.map; list = r.list; marks = []; values = [] } in
    ap (next_all (reading s (b ∷ rs))) (append_assoc (map mark_line r.marks) (map value_line r.values) ls)
    ∙ (load_marks s b rs r.marks (map value_line r.values ++ ls) ∙ load_values s (with_marks b r.marks) rs r.values ls)

pub load_rows : (s : List ℕ) (xs rs : List Row) (ls : List Line)
    → next_all (reading s rs) (rows_lines xs ++ ls) ≡ next_all (reading s (reverse_aux xs rs)) ls
unfolding rows_lines
load_rows s [] rs ls = refl
load_rows s (x ∷ xs) rs ls =
    ap (next_all (reading s rs)) (append_assoc (row_lines x) (rows_lines xs) ls)
    ∙ (load_row s x rs (rows_lines xs ++ ls) ∙ load_rows s xs (x ∷ rs) ls)

-- the lines of a document say the document
pub says_document : (D : Document) → next_all begin (sheet_lines D) ≡ ended D.seen (reverse (rows_of D))
unfolding sheet_lines
says_document D = load_rows D.seen (rows_of D) [] (end_line (length (rows_of D)) ∷ [])

-- Verdicts.

pub ended_eq : (s t : List ℕ) (rs us : List Row) → ended s rs ≡ ended t us → (s ≡ t) × (rs ≡ us)
ended_eq s t rs us e = (cc, cc)

reverse_eq : (xs ys : List Row) → reverse xs ≡ reverse ys → xs ≡ ys
reverse_eq xs ys e = sym (mathlib.Core.List.reverse-reverse xs) ∙ (ap reverse e ∙ mathlib.Core.List.reverse-reverse ys)

-- two documents that the lines say are equal
pub same_document : (D E : Document) → ended D.seen (reverse (rows_of D)) ≡ ended E.seen (reverse (rows_of E)) → D ≡ E
same_document D E e = let t = ended_eq _ _ _ _ e in rows_once D E t.0 (reverse_eq (rows_of D) (rows_of E) t.1)

ended_stuck : {L : Loading} (s : List ℕ) (rs : List Row) (t : List ℕ) → L ≡ ended s rs → Stuck L t
ended_stuck s rs t e l u a f = subst (λ L. Allowed L l) e a

ended_unfinished : {L : Loading} (s : List ℕ) (rs : List Row) (t : List ℕ) → L ≡ ended s rs → Unfinished L t → 0 < length t
ended_unfinished s rs t e h = subst (λ L. Unfinished L t) e h

pub accepted_once : (text : List ℕ) (D E : Document) → Accepted text D → Accepted text E → D ≡ E
accepted_once text D E a b =
    let m = meet begin a.lines b.lines [] [] a.runs b.runs (ended_stuck _ _ [] a.says) (ended_stuck _ _ [] b.says)
    (append-nil _ ∙ (sym a.spells ∙ (b.spells ∙ sym (append-nil _)))) in
    same_document D E (sym a.says ∙ (ap (next_all begin) m.0 ∙ b.says))

pub accepted_not_broken : (text : List ℕ) (D : Document) (n : ℕ) → Accepted text D → Broken text n → ⊥
accepted_not_broken text D n a b =
    let m = meet begin a.lines b.lines [] b.rest a.runs b.runs (ended_stuck _ _ [] a.says) b.never
    (append-nil _ ∙ (sym a.spells ∙ b.spells)) in
    let e = ap (next_all begin) (sym m.0) ∙ a.says in
    omega (arith, ended_unfinished _ _ b.rest e b.unfinished, ap length m.1)

pub broken_once : (text : List ℕ) (n m : ℕ) → Broken text n → Broken text m → n ≡ m
broken_once text n m a b =
    let r = meet begin a.lines b.lines a.rest b.rest a.runs b.runs a.never b.never (sym a.spells ∙ b.spells) in
    a.number ∙ (ap (λ ls. suc (length ls)) r.0 ∙ sym b.number)
