-- In a terminal where no waiting message is left to drop or to apply, that stays so whatever happens: to settle after each application is
-- enough.
-- Assumes nothing.
use Rattle.std.specs.Prelude.{ℕ, ◌≡◌, false, List, [], ◌∷◌, length}
use Rattle.meaning.specs.Places.{Document}
use Rattle.meaning.specs.Ways.{Way, Operation}
use Rattle.meaning.specs.Receive.{Terminal, ready_in, dead, able, Verdict, judge, finish, receive}
use Rattle.meaning.specs.Edit.{edit_of, EditVerdict, judge_edit, finish_edit, edit}
use Rattle.theorems.specs.Members.{all_put}
use Rattle.theorems.specs.Verdicts.{Judged, refuses, keeps, takes, judged, keeps_alive}
use Rattle.theorems.specs.Verdicts.{JudgedEdit, refuses_edit, takes_edit, judged_edit}
use Rattle.theorems.specs.Rounds.{Quiet, settle_quiet}
use Rattle.theorems.specs.Receivers.{Event, arrives, edits, happen, live}

early_unable : (D : Document) (o : Operation) → ready_in D o ≡ false → able D o ≡ false
unfolding able
early_unable D o r = rw r

finish_quiet : (o : Operation) (T : Terminal) (v : Verdict) → Judged o T v → Quiet T → Quiet (finish o T v).terminal
unfolding finish
finish_quiet o T v (refuses a x) h = h
finish_quiet o T v (keeps k) h =
    all_put (λ o. (dead T.document o ≡ false) × (able T.document o ≡ false)) (λ o. o.id) o T.waiting
    (keeps_alive o T k, early_unable T.document o k.early) h
finish_quiet o T v (takes t) h = settle_quiet _

receive_quiet : (o : Operation) (T : Terminal) → Quiet T → Quiet (receive o T).terminal
unfolding receive
receive_quiet o T h = finish_quiet o T (judge o T) (judged o T) h

finish_edit_quiet : (o : Operation) (T : Terminal) (buffer : List ℕ) (v : EditVerdict) → JudgedEdit o T (length buffer) v → Quiet T
    → Quiet (finish_edit o T buffer v).terminal
unfolding finish_edit
finish_edit_quiet o T buffer v (refuses_edit a x) h = h
finish_edit_quiet o T buffer v (takes_edit t) h = settle_quiet _

edit_quiet : (r : ℕ) (top : List ℕ) (w : Way) (T : Terminal) (buffer : List ℕ) → Quiet T → Quiet (edit r top w T buffer).terminal
unfolding edit
edit_quiet r top w T buffer h =
    let o = edit_of T.document.seen r top w in
    finish_edit_quiet o T buffer (judge_edit o T (length buffer)) (judged_edit o T (length buffer)) h

pub live_quiet : (es : List Event) (T : Terminal) → Quiet T → Quiet (live es T)
live_quiet [] T h = h
live_quiet (arrives o ∷ es) T h = live_quiet es (happen (arrives o) T) (receive_quiet o T h)
live_quiet (edits r top w buffer ∷ es) T h = live_quiet es (happen (edits r top w buffer) T) (edit_quiet r top w T buffer h)
