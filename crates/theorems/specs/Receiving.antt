-- Receiving an operation and editing: what is applied goes as readiness lets it, none of it dead, and the document follows from it.
-- Assumes nothing.
use Rattle.std.specs.Prelude.{ℕ, ◌≤◌, ◌≡◌, refl, List, length}
use Rattle.meaning.specs.Ways.{Way, Operation}
use Rattle.meaning.specs.Apply.{apply_all}
use Rattle.meaning.specs.Members.{All}
use Rattle.meaning.specs.Receive.{Terminal, Verdict, judge, finish, receive}
use Rattle.meaning.specs.Edit.{edit_of, EditVerdict, judge_edit, finish_edit, edit}
use Rattle.theorems.specs.Members.{all_put}
use Rattle.theorems.specs.Tests.{Checked, above_checked, is-ready, alive_now}
use Rattle.theorems.specs.Verdicts.{Judged, refuses, keeps, takes, judged, takes_alive}
use Rattle.theorems.specs.Verdicts.{JudgedEdit, refuses_edit, takes_edit, judged_edit}
use Rattle.theorems.specs.Edits.{edit_checked, edit_new, edit-own, edit-ready}
use Rattle.theorems.specs.Following.{Follows, settle_follows, unchanged}

finish_follows : (o : Operation) (T : Terminal) (v : Verdict) → length o.deps ≡ 8 → All Checked T.waiting → Judged o T v
    → Follows T.document (finish o T v).applied (finish o T v).terminal
unfolding finish apply_all
finish_follows o T v e h (refuses a x) = unchanged T h
finish_follows o T v e h (keeps k) =
    let c = above_checked o e k.admitted.above in
    record { document = refl; goes = tt; alive = tt; waiting = all_put Checked (λ o. o.id) o T.waiting c h }
finish_follows o T v e h (takes t) =
    settle_follows o T h (is-ready T.document o (above_checked o e t.admitted.above) t.ready t.leads) (takes_alive o T t)

pub receive_follows : (o : Operation) (T : Terminal) → length o.deps ≡ 8 → All Checked T.waiting
    → Follows T.document (receive o T).applied (receive o T).terminal
unfolding receive
receive_follows o T e h = finish_follows o T (judge o T) e h (judged o T)

pub edit_follows : (r : ℕ) (top : List ℕ) (w : Way) (T : Terminal) (buffer : List ℕ) → r ≤ 8 → All Checked T.waiting
    → Follows T.document (edit r top w T buffer).applied (edit r top w T buffer).terminal
unfolding edit finish_edit
edit_follows r top w T buffer q h = go (judge_edit o T (length buffer)) (judged_edit o T (length buffer))
  where
    s : List ℕ
    s = T.document.seen

    o : Operation
    o = edit_of s r top w

    go : (v : EditVerdict) → JudgedEdit o T (length buffer) v
        → Follows T.document (finish_edit o T buffer v).applied (finish_edit o T buffer v).terminal
    go v (refuses_edit a x) = unchanged T h
    go v (takes_edit t) =
        settle_follows o T h (is-ready T.document o (edit_checked s r top w q) (edit-ready s r top w) t.leads)
        (alive_now T.document o (edit_new s r top w q) (edit-own s r top w) t.leads t.smaller)
