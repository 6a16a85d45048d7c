-- What an outcome says, of any terminal: a refusal leaves all as it was; what is answered 5 waits and the document stays; after an
-- application the limits hold.
-- Assumes nothing.
use Rattle.std.specs.Prelude.{ℕ, ◌≡◌, refl, true, List, [], length}
use Rattle.std.proofs.Common.{arith, sym, ap}
use Rattle.meaning.specs.Sets.{put}
use Rattle.meaning.specs.Ways.{Way, Operation}
use Rattle.meaning.specs.Limits.{fits}
use Rattle.meaning.specs.Receive.{Terminal, Verdict, judge, Received, refusing, finish, receive}
use Rattle.meaning.specs.Edit.{EditVerdict, edit_of, judge_edit, EditOutcome, finish_edit, edit}
use Rattle.meaning.specs.Answers.{Answer, done, only, Refusal}
use Rattle.theorems.specs.Settling.{settle-fits}
use Rattle.theorems.specs.Verdicts.{Takes, Keeps, Judged, refuses, keeps, takes, judged}
use Rattle.theorems.specs.Verdicts.{TakesEdit, JudgedEdit, refuses_edit, takes_edit, judged_edit}

-- 0 and 5 are two numbers
differ : (a d : ℕ) {n : ℕ} → done a d n ≡ only 5 → ⊥
differ a d h = let z : ◌≡◌ {A = ℕ} 0 5 = ap (λ a. a.number) h in omega arith

-- Receiving.

finish_refused : (o : Operation) (T : Terminal) (v : Verdict) → Judged o T v → Refusal (finish o T v).answer
    → finish o T v ≡ refusing (finish o T v).answer T
unfolding finish
finish_refused o T v (refuses a x) h = refl
finish_refused o T v (keeps k) h = absurd h
finish_refused o T v (takes t) h = absurd h

-- all but 0 and 5 leave the terminal as it was
pub receive_refused : (o : Operation) (T : Terminal) → Refusal (receive o T).answer → receive o T ≡ refusing (receive o T).answer T
unfolding receive
receive_refused o T h = finish_refused o T (judge o T) (judged o T) h

abbrev pub waiting : Operation → Terminal → Received
waiting o T =
    record { answer = only 5; terminal = record { document = T.document; waiting = put (λ o. o.id) o T.waiting }; applied = [] }

finish-waiting : (o : Operation) (T : Terminal) (v : Verdict) → Judged o T v → (finish o T v).answer ≡ only 5
    → Keeps o T × (finish o T v ≡ waiting o T)
unfolding finish
finish-waiting o T v (refuses a x) h = absurd (rw h at x)
finish-waiting o T v (keeps k) h = (k, refl)
finish-waiting o T v (takes t) h = absurd (differ _ _ h)

-- what is answered 5 was not ready, and joins the waiting messages
pub receive-waiting : (o : Operation) (T : Terminal) → (receive o T).answer ≡ only 5 → Keeps o T × (receive o T ≡ waiting o T)
unfolding receive
receive-waiting o T h = finish-waiting o T (judge o T) (judged o T) h

finish-applied : (o : Operation) (T : Terminal) (v : Verdict) (a d : ℕ) → Judged o T v → (finish o T v).answer ≡ done a d 0
    → Takes o T × (fits (finish o T v).terminal.document ≡ true)
unfolding finish
finish-applied o T v a d (refuses r x) h = absurd (rw h at x)
finish-applied o T v a d (keeps k) h = absurd (differ a d (sym h))
finish-applied o T v a d (takes t) h = (t, settle-fits _ t.room)

-- what is answered 0 was ready, and the limits hold afterwards
pub receive-applied : (o : Operation) (T : Terminal) (a d : ℕ) → (receive o T).answer ≡ done a d 0
    → Takes o T × (fits (receive o T).terminal.document ≡ true)
unfolding receive
receive-applied o T a d h = finish-applied o T (judge o T) a d (judged o T) h

-- Editing.

abbrev pub refusing_edit : Answer → Terminal → List ℕ → EditOutcome
refusing_edit a T buffer = record { answer = a; terminal = T; buffer = buffer; applied = [] }

finish_edit_refused : (o : Operation) (T : Terminal) (buffer : List ℕ) (v : EditVerdict) → JudgedEdit o T (length buffer) v
    → Refusal (finish_edit o T buffer v).answer → finish_edit o T buffer v ≡ refusing_edit (finish_edit o T buffer v).answer T buffer
unfolding finish_edit
finish_edit_refused o T buffer v (refuses_edit a x) h = refl
finish_edit_refused o T buffer v (takes_edit t) h = absurd h

-- all but 0 leave the terminal and the buffer as they were
pub edit_refused : (r : ℕ) (top : List ℕ) (w : Way) (T : Terminal) (buffer : List ℕ) → Refusal (edit r top w T buffer).answer
    → edit r top w T buffer ≡ refusing_edit (edit r top w T buffer).answer T buffer
unfolding edit
edit_refused r top w T buffer h =
    let o = edit_of T.document.seen r top w in
    finish_edit_refused o T buffer (judge_edit o T (length buffer)) (judged_edit o T (length buffer)) h

finish_edit-applied : (o : Operation) (T : Terminal) (buffer : List ℕ) (v : EditVerdict) (a d n : ℕ) → JudgedEdit o T (length buffer) v
    → (finish_edit o T buffer v).answer ≡ done a d n
    → TakesEdit o T (length buffer) × (fits (finish_edit o T buffer v).terminal.document ≡ true)
unfolding finish_edit
finish_edit-applied o T buffer v a d n (refuses_edit r x) h = absurd (rw h at x)
finish_edit-applied o T buffer v a d n (takes_edit t) h = (t, settle-fits _ t.room)

pub edit-applied : (r : ℕ) (top : List ℕ) (w : Way) (T : Terminal) (buffer : List ℕ) (a d n : ℕ)
    → (edit r top w T buffer).answer ≡ done a d n
    → TakesEdit (edit_of T.document.seen r top w) T (length buffer) × (fits (edit r top w T buffer).terminal.document ≡ true)
unfolding edit
edit-applied r top w T buffer a d n h =
    let o = edit_of T.document.seen r top w in
    finish_edit-applied o T buffer (judge_edit o T (length buffer)) a d n (judged_edit o T (length buffer)) h
