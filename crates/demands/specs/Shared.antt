-- An edit that was applied, and a terminal that holds the same document as the one that edited: the bytes that the edit wrote are the
-- message of one operation, and receiving it applies it there too.
-- Assumes nothing.
use Prim.Native.Nat.{ℕ}
use Rattle.std.specs.Prelude.{◌≡◌, refl, length, drop, Ok}
use Rattle.std.proofs.Common.{sym, ◌∙◌, subst}
use Rattle.std.proofs.Math.Path.{ap}
use mathlib.Core.List.{List}
use Rattle.std.proofs.Math.ListN.{take}
use Rattle.std.proofs.Math.Seq.{take-append_seam}
use Rattle.meaning.specs.Apply.{apply}
use Rattle.meaning.specs.Ways.{Operation}
use Rattle.meaning.specs.Valid.{ValidCounters, ValidOperation}
use Rattle.meaning.specs.Message.{message}
use Rattle.meaning.specs.Text.{over}
use Rattle.meaning.specs.Answers.{Refusal, edited_answer}
use Rattle.meaning.specs.Receive.{Terminal, taken, judge, judge_ready, settle}
use Rattle.meaning.specs.Edit.{EditVerdict, edit_of, finish_edit, edit}
use Rattle.meaning.specs.Promises.{Says, says, says_nothing, Lines, ValidLines, lines_of, edited, Edits}
use Rattle.meaning.specs.declared.Made.{Made}
use Rattle.theorems.specs.Edits.{edit_valid, edit_above, edit_new, edit-own, edit-ready}
use Rattle.theorems.specs.Verdicts.{JudgedEdit, refuses_edit, takes_edit, judged_edit}

-- a terminal with this operation applied, and what waits for it settled
abbrev pub behind : Operation → Terminal → Terminal
behind o X = (settle (record { document = apply o X.document; waiting = X.waiting })).terminal

-- The operation of an edit of X that wrote n bytes and left the terminal `exit` and the buffer `after`.
pub record Shared (X exit : Terminal) (n : ℕ) (after : List ℕ) : Type 0 where
  pub operation : Operation
  pub valid : ValidOperation operation
  pub text : take n after ≡ message operation
  pub leaves : exit ≡ behind operation X
  pub taken : (Y : Terminal) → Y.document ≡ X.document → judge operation Y ≡ taken

-- the start of a buffer over which a text was written
written_start : (t buffer : List ℕ) → take (length t) (over t buffer) ≡ t
unfolding over
written_start t buffer = take-append_seam t (drop (length t) buffer)

module _ (X : Terminal) (valid : ValidCounters X.document.seen) (device : ℕ) (lines before : List ℕ) (made : Made) (exit : Terminal)
    (after : List ℕ) where
  by-verdict : (l : Lines) → ValidLines device l → (v : EditVerdict)
      → let o = edit_of X.document.seen device l.top l.way in
      JudgedEdit o X (length before) v → edited_answer (Ok made) ≡ (finish_edit o X before v).answer
      → exit ≡ (finish_edit o X before v).terminal → after ≡ (finish_edit o X before v).buffer → Shared X exit made.written after
  unfolding finish_edit judge judge_ready
  by-verdict l y v (refuses_edit b r) p q z = absurd (subst Refusal (sym p) r)
  by-verdict l y v (takes_edit t) p q z = record {
    operation = o;
    valid = edit_valid s device l.top l.way y.high valid t.counter y.edit;
    text = ap (take made.written) z
        ∙ (ap (λ k. take k (over (message o) before)) (ap (λ a. a.written) p) ∙ written_start (message o) before);
    leaves = q;
    taken = there;
  }
    where
      s : List ℕ
      s = X.document.seen

      o : Operation
      o = edit_of s device l.top l.way

      there : (Y : Terminal) → Y.document ≡ X.document → judge o Y ≡ taken
      there Y e =
          rw (
            e,
            edit_above s device l.top l.way y.high,
            edit_new s device l.top l.way y.high,
            edit-own s device l.top l.way,
            edit-ready s device l.top l.way,
            t.leads,
            t.smaller,
            t.room,
          ) refl

  pub shared : Edits X device lines before (Ok made) exit after → Shared X exit made.written after
  unfolding edit
  shared e = go e.reads e.answers e.leaves e.writes
    where
      go : (y : Says (ValidLines device) lines_of lines) → edited_answer (Ok made) ≡ (edited device y X before).answer
          → exit ≡ (edited device y X before).terminal → after ≡ (edited device y X before).buffer → Shared X exit made.written after
      go (says l v e) p q z =
          let o = edit_of X.document.seen device l.top l.way in
          by-verdict l v _ (judged_edit o X (length before)) p q z
      go (says_nothing m) p q z = absurd (subst Refusal (sym p) tt)
