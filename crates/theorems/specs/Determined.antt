-- Tight promises: any two outcomes that a public operation's promise allows are equal.
-- Assumes nothing.
use Rattle.std.specs.Prelude.{ℕ, ◌≡◌, refl, List, [], ◌∷◌}
use Rattle.std.proofs.Common.{sym, ap, ◌∙◌, subst}
use Rattle.meaning.specs.Places.{Document}
use Rattle.meaning.specs.Valid.{ValidOperation}
use Rattle.meaning.specs.Message.{message}
use Rattle.meaning.specs.Receive.{Terminal, new_terminal, receive}
use Rattle.meaning.specs.Answers.{done, bad_line}
use Rattle.meaning.specs.Edit.{edit}
use Rattle.meaning.specs.Sheet.{sheet}
use Rattle.meaning.specs.Read.{ValidPlaceWay, place_way_text, ValidKeysWay, keys_way_text, element_way_text}
use Rattle.meaning.specs.Read.{Finding, keys, values, nth_element, answer_read}
use Rattle.meaning.specs.Stream.{messages}
use Rattle.meaning.specs.Promises.{Says, says, says_nothing, received, Receives, Lines, ValidLines, lines_of, edited, Edits, Saves}
use Rattle.meaning.specs.Promises.{SheetSays, accepted, broken, loaded, Loads}
use Rattle.meaning.specs.Promises.{asked, Reads, ReadsKeys, ReadsValues, ReadsElement, ReceivesAll, Merges}
use Rattle.meaning.specs.Answers.{Receipt}
use Rattle.meaning.specs.Answers.{Edited}
use Rattle.meaning.specs.Answers.{Saved}
use Rattle.meaning.specs.Answers.{Loaded}
use Rattle.meaning.specs.Answers.{Reading}
use Rattle.theorems.specs.Numbered.{receipt_settled, edited_settled, saved_settled, loaded_settled, reading_settled}
use Rattle.theorems.specs.Spelling.{message_once, edit_once, place_way_once, element_way_once, keys_way_once}
use Rattle.theorems.specs.LoadVerdict.{accepted_once, accepted_not_broken, broken_once}

-- a layout with one spelling
abbrev OneSpelling : {A : Type 0} → (A → Type 0) → (A → List ℕ) → Type 0
OneSpelling {A} Valid text = (a b : A) → Valid a → Valid b → text a ≡ text b → a ≡ b

-- Receiving.

received_once : {bytes : List ℕ} (p q : Says ValidOperation message bytes) (T : Terminal) → received p T ≡ received q T
received_once (says a v e) (says b w g) T = ap (λ o. receive o T) (message_once a b v w (sym e ∙ g))
received_once (says a v e) (says_nothing n) T = absurd (n a v e)
received_once (says_nothing n) (says b w g) T = absurd (n b w g)
received_once (says_nothing n) (says_nothing m) T = refl

pub receives_once : (T : Terminal) (bytes : List ℕ) (a b : Receipt) (U V' : Terminal) → Receives T bytes a U → Receives T bytes b V'
    → (a ≡ b) × (U ≡ V')
receives_once T bytes a b U V' p q =
    let z = received_once p.reads q.reads T in (
      receipt_settled a b (p.answers ∙ (ap (λ r. r.answer) z ∙ sym q.answers)),
      p.leaves ∙ (ap (λ r. r.terminal) z ∙ sym q.leaves),
    )

-- A local edit.

lines_once : (l m : Lines) (r : ℕ) → ValidLines r l → ValidLines r m → lines_of l ≡ lines_of m → l ≡ m
lines_once l m r v w e =
    let z = edit_once l.top l.way m.top m.way v.edit w.edit e in
    λ i. record { top = z.0 i; way = z.1 i }

edited_once : {bytes : List ℕ} (r : ℕ) (p q : Says (ValidLines r) lines_of bytes) (T : Terminal) (buffer : List ℕ)
    → edited r p T buffer ≡ edited r q T buffer
edited_once r (says a v e) (says b w g) T buffer = ap (λ l. edit r l.top l.way T buffer) (lines_once a b r v w (sym e ∙ g))
edited_once r (says a v e) (says_nothing n) T buffer = absurd (n a v e)
edited_once r (says_nothing n) (says b w g) T buffer = absurd (n b w g)
edited_once r (says_nothing n) (says_nothing m) T buffer = refl

pub edits_once : (T : Terminal) (r : ℕ) (bytes buffer : List ℕ) (a b : Edited) (U V' : Terminal) (x y : List ℕ)
    → Edits T r bytes buffer a U x → Edits T r bytes buffer b V' y → (a ≡ b) × (U ≡ V') × (x ≡ y)
edits_once T r bytes buffer a b U V' x y p q =
    let z = edited_once r p.reads q.reads T buffer in (
      edited_settled a b (p.answers ∙ (ap (λ o. o.answer) z ∙ sym q.answers)),
      p.leaves ∙ (ap (λ o. o.terminal) z ∙ sym q.leaves),
      p.writes ∙ (ap (λ o. o.buffer) z ∙ sym q.writes),
    )

-- Saving and loading.

pub saves_once : (D : Document) (buffer : List ℕ) (a b : Saved) (x y : List ℕ) → Saves D buffer a x → Saves D buffer b y → (a ≡ b) × (x ≡ y)
saves_once D buffer a b x y p q = (saved_settled a b (p.answers ∙ sym q.answers), p.writes ∙ sym q.writes)

loaded_once : {bytes : List ℕ} (p q : SheetSays bytes) (T : Terminal) → loaded p T ≡ loaded q T
loaded_once {bytes} (accepted D p) (accepted E q) T =
    ap (λ D. record { answer = done 0 0 0; terminal = record { document = D; waiting = [] } }) (accepted_once bytes D E p q)
loaded_once {bytes} (accepted D p) (broken n q) T = absurd (accepted_not_broken bytes D n p q)
loaded_once {bytes} (broken n p) (accepted D q) T = absurd (accepted_not_broken bytes D n q p)
loaded_once {bytes} (broken n p) (broken m q) T = ap (λ n. record { answer = bad_line n; terminal = T }) (broken_once bytes n m p q)

pub loads_once : (T : Terminal) (bytes : List ℕ) (a b : Loaded) (U V' : Terminal) → Loads T bytes a U → Loads T bytes b V'
    → (a ≡ b) × (U ≡ V')
loads_once T bytes a b U V' p q =
    let z = loaded_once p.reads q.reads T in (
      loaded_settled a b (p.answers ∙ (ap (λ o. o.answer) z ∙ sym q.answers)),
      p.leaves ∙ (ap (λ o. o.terminal) z ∙ sym q.leaves),
    )

-- The three reads.

module _ {A : Type 0} (Valid : A → Type 0) (text : A → List ℕ) (one : OneSpelling Valid text) (look : A → Document → Finding) where
  asked_once : {bytes : List ℕ} (p q : Says Valid text bytes) (D : Document) (buffer : List ℕ)
      → asked look p D buffer ≡ asked look q D buffer
  asked_once (says a v e) (says b w g) D buffer = ap (λ w. answer_read (look w D) buffer) (one a b v w (sym e ∙ g))
  asked_once (says a v e) (says_nothing n) D buffer = absurd (n a v e)
  asked_once (says_nothing n) (says b w g) D buffer = absurd (n b w g)
  asked_once (says_nothing n) (says_nothing m) D buffer = refl

  reads_once : (D : Document) (bytes buffer : List ℕ) (a b : Reading) (x y : List ℕ) → Reads Valid text look D bytes buffer a x
      → Reads Valid text look D bytes buffer b y → (a ≡ b) × (x ≡ y)
  reads_once D bytes buffer a b x y p q =
      let z = asked_once p.reads q.reads D buffer in (
        reading_settled a b (p.answers ∙ (ap (λ o. o.answer) z ∙ sym q.answers)),
        p.writes ∙ (ap (λ o. o.buffer) z ∙ sym q.writes),
      )

pub keys_once : (D : Document) (bytes buffer : List ℕ) (a b : Reading) (x y : List ℕ) → ReadsKeys D bytes buffer a x
    → ReadsKeys D bytes buffer b y → (a ≡ b) × (x ≡ y)
keys_once = reads_once ValidKeysWay keys_way_text keys_way_once keys

pub values_once : (D : Document) (bytes buffer : List ℕ) (a b : Reading) (x y : List ℕ) → ReadsValues D bytes buffer a x
    → ReadsValues D bytes buffer b y → (a ≡ b) × (x ≡ y)
values_once = reads_once ValidPlaceWay place_way_text place_way_once values

pub element_once : (n : ℕ) (D : Document) (bytes buffer : List ℕ) (a b : Reading) (x y : List ℕ) → ReadsElement n D bytes buffer a x
    → ReadsElement n D bytes buffer b y → (a ≡ b) × (x ≡ y)
element_once n = reads_once ValidPlaceWay element_way_text element_way_once (nth_element n)

-- The program `merge`.

receives_all_once : (ms : List (List ℕ)) (T U V' : Terminal) → ReceivesAll T ms U → ReceivesAll T ms V' → U ≡ V'
receives_all_once [] T U V' p q = p ∙ sym q
receives_all_once (m ∷ ms) T U V' p q =
    let z = receives_once T m p.0 q.0 p.1 q.1 p.2 q.2 in
    receives_all_once ms q.1 U V' (subst (λ N. ReceivesAll N ms U) z.1 p.3) q.3

pub merges_once : (input x y : List ℕ) → Merges input x → Merges input y → x ≡ y
merges_once input x y p q =
    let z = receives_all_once (messages input) new_terminal p.exit q.exit p.receives q.receives in
    p.prints ∙ (ap (λ T. sheet T.document) z ∙ sym q.prints)
