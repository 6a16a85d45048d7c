-- What every terminal satisfies: its document is sound and within the limits; at most 64 messages wait, by ascending id, each valid and
-- with its counter above its deps. It holds of a new and of a loaded terminal; settling, receiving and editing keep it.
-- Assumes nothing.
use Rattle.std.specs.Prelude.{ℕ, ◌≤◌, ◌≡◌, Bool, true, false, not, List, [], ◌∷◌, eqb, length}
use Rattle.std.proofs.Common.{arith, leb-false}
use Rattle.meaning.specs.Sets.{keep, put}
use Rattle.meaning.specs.Places.{Document}
use Rattle.meaning.specs.Ways.{Way, Operation}
use Rattle.meaning.specs.Apply.{apply}
use Rattle.meaning.specs.Limits.{fits}
use Rattle.meaning.specs.Members.{All, Ascending}
use Rattle.meaning.specs.Sound.{Sound}
use Rattle.meaning.specs.Valid.{ValidEdit, ValidOperation}
use Rattle.meaning.specs.Judge.{not_above, repeated}
use Rattle.meaning.specs.Receive.{Terminal, new_terminal, dead, without, settle, Verdict, judge, finish, receive}
use Rattle.meaning.specs.Edit.{EditVerdict, spent, edit_of, judge_edit, finish_edit, edit}
use Rattle.meaning.specs.Message.{message}
use Rattle.meaning.specs.Load.{Accepted}
use Rattle.meaning.specs.Promises.{Says, says, says_nothing, received, Receives, ReceivesAll, ValidLines, lines_of, edited, Edits}
use Rattle.meaning.specs.Promises.{SheetSays, accepted, broken, loaded, Loads}
use Rattle.meaning.specs.Answers.{Receipt}
use Rattle.meaning.specs.Answers.{Edited}
use Rattle.meaning.specs.Answers.{Loaded}
use Rattle.theorems.specs.Members.{all_keep, all_put, keep_length, put_length, asc_keep, asc_put}
use Rattle.theorems.specs.Tests.{living}
use Rattle.theorems.specs.Edits.{edit_valid, edit_new}
use Rattle.theorems.specs.Soundness.{sound_apply, sound_empty, fits_empty}
use Rattle.theorems.specs.Settling.{Chosen, chosen_fits, settles}
use Rattle.theorems.specs.Verdicts.{new_lt, Keeps, Judged, refuses, keeps, takes, judged}
use Rattle.theorems.specs.Verdicts.{JudgedEdit, refuses_edit, takes_edit, judged_edit}

-- a waiting message
pub record Sent (o : Operation) : Type 0 where
  pub valid : ValidOperation o
  pub above : not_above o ≡ false

pub record Steady (T : Terminal) : Type 0 where
  pub sound : Sound T.document
  pub room : fits T.document ≡ true
  pub ascends : Ascending (λ o. o.id) T.waiting
  pub sent : All Sent T.waiting
  pub few : length T.waiting ≤ 64

-- a terminal in which nothing waits: a loaded one, a new one
pub steady_loaded : (D : Document) → Sound D → fits D ≡ true → Steady (record { document = D; waiting = [] })
steady_loaded D s f = record { sound = s; room = f; ascends = tt; sent = tt; few = omega arith }

pub steady_new : Steady new_terminal
steady_new = steady_loaded _ sound_empty fits_empty

-- fewer messages wait
steady_keep : (p : Operation → Bool) (D : Document) (os : List Operation) → Steady (record { document = D; waiting = os })
    → Steady (record { document = D; waiting = keep p os })
steady_keep p D os s = record {
  sound = s.sound;
  room = s.room;
  ascends = asc_keep (λ o. o.id) p os s.ascends;
  sent = all_keep Sent p os s.sent;
  few = omega (arith, s.few, keep_length p os);
}

-- an operation that isn't a repeat and after which the limits hold is applied
steady_apply : (o : Operation) (T : Terminal) → ValidOperation o → repeated T.document.seen o ≡ false
    → fits (apply o T.document) ≡ true → Steady T → Steady (record { document = apply o T.document; waiting = T.waiting })
steady_apply o T v r f s = record {
  sound = sound_apply o T.document v (new_lt T.document.seen o r) s.sound;
  room = f;
  ascends = s.ascends;
  sent = s.sent;
  few = s.few;
}

steady_chosen : (D : Document) (left : List Operation) (o : Operation) → Chosen D left o → Steady (record { document = D; waiting = left })
    → Steady (record { document = apply o D; waiting = without o.id left })
unfolding without
steady_chosen D left o c s =
    steady_keep (λ x. not (eqb o.id x.id)) (apply o D) left
    (steady_apply o (record { document = D; waiting = left }) (c.among Sent s.sent).valid (living D o c.lives).new
    (chosen_fits D left o c) s)

pub steady_settle : (T : Terminal) → Steady T → Steady (settle T).terminal
steady_settle T s =
    settles Steady (λ T s. steady_keep (λ o. not (dead T.document o)) T.document T.waiting s) steady_chosen T s

-- Receiving.

steady_wait : (o : Operation) (T : Terminal) → ValidOperation o → Keeps o T → Steady T
    → Steady (record { document = T.document; waiting = put (λ o. o.id) o T.waiting })
steady_wait o T v k s = record {
  sound = s.sound;
  room = s.room;
  ascends = asc_put (λ o. o.id) o T.waiting s.ascends;
  sent = all_put Sent (λ o. o.id) o T.waiting (record { valid = v; above = k.admitted.above }) s.sent;
  few = omega (arith, put_length (λ o. o.id) o T.waiting, leb-false 64 (length T.waiting) k.few);
}

steady_finish : (o : Operation) (T : Terminal) (v : Verdict) → ValidOperation o → Judged o T v → Steady T → Steady (finish o T v).terminal
unfolding finish
steady_finish o T v y (refuses a x) s = s
steady_finish o T v y (keeps k) s = steady_wait o T y k s
steady_finish o T v y (takes t) s =
    steady_settle _ (steady_apply o T y t.admitted.new t.room s)

pub steady_receive : (o : Operation) (T : Terminal) → ValidOperation o → Steady T → Steady (receive o T).terminal
unfolding receive
steady_receive o T y s = steady_finish o T (judge o T) y (judged o T) s

-- Editing.

steady_finish_edit : (o : Operation) (T : Terminal) (buffer : List ℕ) (v : EditVerdict)
    → (spent T.document.seen ≡ false → ValidOperation o) → (spent T.document.seen ≡ false → repeated T.document.seen o ≡ false)
    → JudgedEdit o T (length buffer) v → Steady T → Steady (finish_edit o T buffer v).terminal
unfolding finish_edit
steady_finish_edit o T buffer v y n (refuses_edit a x) s = s
steady_finish_edit o T buffer v y n (takes_edit t) s =
    steady_settle _ (steady_apply o T (y t.counter) (n t.counter) t.room s)

pub steady_edit : (r : ℕ) (top : List ℕ) (w : Way) (T : Terminal) (buffer : List ℕ) → r ≤ 8 → ValidEdit top w → Steady T
    → Steady (edit r top w T buffer).terminal
unfolding edit
steady_edit r top w T buffer q y s =
    let o = edit_of T.document.seen r top w in
    steady_finish_edit o T buffer (judge_edit o T (length buffer)) (λ e. edit_valid T.document.seen r top w q s.sound.seen e y)
    (λ e. edit_new T.document.seen r top w q) (judged_edit o T (length buffer)) s

-- Every promise that is met keeps it.

pub steady_receives : (T : Terminal) (bytes : List ℕ) (answer : Receipt) (exit : Terminal) → Receives T bytes answer exit → Steady T
    → Steady exit
steady_receives T bytes answer exit p s = rw p.leaves (go p.reads)
  where
    go : (m : Says ValidOperation message bytes) → Steady (received m T).terminal
    go (says o v e) = steady_receive o T v s
    go (says_nothing n) = s

pub steady_receives_all : (T : Terminal) (ms : List (List ℕ)) (exit : Terminal) → ReceivesAll T ms exit → Steady T → Steady exit
steady_receives_all T [] exit p s = rw p s
steady_receives_all T (m ∷ ms) exit p s =
    steady_receives_all p.1 ms exit p.3 (steady_receives T m p.0 p.1 p.2 s)

pub steady_edits : (T : Terminal) (r : ℕ) (bytes buffer : List ℕ) (answer : Edited) (exit : Terminal) (written : List ℕ)
    → Edits T r bytes buffer answer exit written → Steady T → Steady exit
steady_edits T r bytes buffer answer exit written p s = rw p.leaves (go p.reads)
  where
    go : (m : Says (ValidLines r) lines_of bytes) → Steady (edited r m T buffer).terminal
    go (says l v e) = steady_edit r l.top l.way T buffer v.high v.edit s
    go (says_nothing n) = s

-- loading, once it is known that an accepted sheet says a sound document within the limits
pub steady_loads : (T : Terminal) (bytes : List ℕ) (answer : Loaded) (exit : Terminal)
    → ((D : Document) → Accepted bytes D → Sound D × (fits D ≡ true)) → Loads T bytes answer exit → Steady T → Steady exit
steady_loads T bytes answer exit k p s = rw p.leaves (go p.reads)
  where
    go : (m : SheetSays bytes) → Steady (loaded m T).terminal
    go (accepted D a) = steady_loaded D (k D a).0 (k D a).1
    go (broken n b) = s
