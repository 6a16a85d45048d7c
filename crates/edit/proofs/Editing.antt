-- A local edit: refused, or applied with its message written and the waiting messages settled.
-- Assumes nothing.
use Prim.Native.Nat.{ℕ, suc, ◌+◌, ◌≤◌, ◌<◌}
use native.Mathlib.Omega.{arith}
use mathlib.Core.Path.{◌≡◌, refl, sym, ap, ◌∙◌}
use mathlib.Core.Bool.{Bool, true, false, cond}
use mathlib.Core.List.{List, ◌++◌}
use Rattle.std.specs.Prelude.{Ok, Err}
use lib.ListN.{length}
use borrow.Author.Tests.{lt-ltb, le-ltb}
use Rattle.meaning.specs.Apply.{apply}
use Rattle.meaning.specs.Limits.{fits}
use Rattle.meaning.specs.Ways.{Operation}
use Rattle.meaning.specs.Message.{message}
use Rattle.meaning.specs.Answers.{only, short, edited_answer}
use Rattle.meaning.specs.Judge.{astray, downward}
use Rattle.meaning.specs.Receive.{Terminal, settle}
use Rattle.meaning.specs.Edit.{EditVerdict, refused, judge_edit, spent, finish_edit}
use Rattle.meaning.specs.Text.{over}
use Rattle.meaning.specs.Answers.{Edited}
use Rattle.meaning.specs.declared.EditError.TheVariants as E
use Rattle.decimal.specs.Take.{Wrote}
use Rattle.writers.specs.Sized.{Sized}
use Rattle.lines.specs.Rows.{message_head}
use Rattle.lines.proofs.Texts.{message_text}
use Rattle.tables.specs.declared.Position.{Position}
use Rattle.message.specs.declared.Operation as Held
use Rattle.judging.specs.Errors.{edit_error}
use Rattle.judging.specs.Judging.{ReadyJudgement, ready_verdict, top_position, Tops, JudgesReady}
use Rattle.judging.specs.declared.Unfit.{Unfit}
use Rattle.judging.specs.declared.Unfit.TheVariants as Y
use Rattle.judging.proofs.Judged.{here_stores}
use Rattle.apply.specs.Applying.{TakesAt}
use Rattle.keeping.specs.Storing.{Stores}
use Rattle.keeping.specs.Keeping.{Keeps}
use Rattle.keeping.specs.declared.Document as K
use Rattle.keeping.specs.declared.Memory.{Memory}
use Rattle.settling.specs.Settling.{Settles}
use Rattle.settling.specs.declared.Settled.{Settled}
use Rattle.edit.specs.Promises.{Drafts, by_buffer, Finishes, Carries}

-- 8, 9 and 10 by name; v is the verdict on an edit that they don't refuse.
abbrev sort : EditVerdict → ReadyJudgement → EditVerdict
sort v (Ok u) = v
sort v (Err y) = refused (edited_answer (Err (edit_error y)))

sorted : (a w f : Bool) (v : EditVerdict) → cond a (refused (only 8)) (cond w (refused (only 9)) (cond f v (refused (only 10))))
    ≡ sort v (cond a (Err Y.NoElement) (cond w (Err Y.NotSmaller) (cond f (Ok tt) (Err Y.NoRoom))))
sorted true w f v = refl
sorted false true f v = refl
sorted false false true v = refl
sorted false false false v = refl

judge_sorted : (o : Operation) (X : Terminal) (n : ℕ) → spent X.document.seen ≡ false
    → judge_edit o X n ≡ sort (by_buffer o n) (ready_verdict o X.document)
unfolding judge_edit ready_verdict by_buffer
judge_sorted o X n e = rw e (sorted (astray X.document o) (downward o) (fits (apply o X.document)) _)

-- An edit that 8, 9 and 10 don't refuse.
module _ (M : Memory) (before : List ℕ) (top : Position) (op : Held.Operation) (lines : List ℕ) (head : List ℕ)
    (h : head ≡ message_head op.act.id op.act.deps.at) where
  -- the text is the operation's message
  text_is : (X : Terminal) (o : Operation) → Drafts X op lines o → head ++ lines ≡ message o
  text_is X o d = rw (h, d.means.id, d.means.deps, d.text) (sym (message_text o))

  module _ {most n : ℕ} (z : Sized (head ++ lines) most n) where
    pub finish-short : length before < n → Finishes M before top op lines (Err (E.ShortBuffer n)) M before
    unfolding finish_edit by_buffer
    finish-short l = record {
      finishes = λ X o K d p y.
          let e : n ≡ length (message o) = z.size ∙ ap length (text_is X o d) in
          rw (lt-ltb (length before) (length (message o)) (omega (arith, e, l)))
          (record { answers = ap short e; keeps = K; writes = refl });
      stays = λ _. (refl, refl);
    }

    module _ (room : n ≤ length before) (e : K.Document) (A : TakesAt M.document top op e) (after : List ℕ) (m : ℕ)
        (W : Wrote (head ++ lines) before after m) (r : Settled) (N : Memory)
        (S : Settles (record { document = e; waiting = M.waiting; count = M.count }) r N) where
      pub finish-applied : Finishes M before top op lines
          (Ok (record { applied = r.applied + 1; dropped = r.dropped; written = m })) N after
      unfolding finish_edit by_buffer
      finish-applied = record {
        finishes = λ X o K d p y.
            let q = text_is X o d in
            let l : n ≡ length (message o) = z.size ∙ ap length q in
            let b : m ≡ length (message o) = W.size ∙ ap length q in
            let Z : Terminal = record { document = apply o X.document; waiting = X.waiting } in
            let k = A X.document o K.document d.means d.valid d.newer y p in
            let h = S.settles Z (record { document = k; waiting = K.waiting; sent = K.sent }) in
            let a : r.applied + 1 ≡ suc (length (settle Z).applied) = omega (arith, h.applied) in
            rw (le-ltb (length before) (length (message o)) (omega (arith, l, room)))
            (record { answers = rw (a, h.dropped, b) refl; keeps = h.keeps; writes = W.buffer ∙ ap (λ x. over x before) q });
        stays = λ u. absurd u;
      }

-- An edit's operation is judged.
module _ (M : Memory) (before : List ℕ) (op : Held.Operation) (lines : List ℕ) (top : Position)
    (P : Tops M.document.tables M.document.counts op.way.keys top) (j : ReadyJudgement)
    (G : JudgesReady M.document.tables M.document.counts top op j) where
  module _ (X : Terminal) (o : Operation) (K : Keeps M X) (d : Drafts X op lines o) where
    stores : Stores M.document.tables M.document.counts X.document.seen X.document
    stores = here_stores _ _ _ X.document K.document

    at_top : top ≡ top_position o X.document
    at_top = P X.document o stores d.means.edit.keys d.valid

    judged : j ≡ ready_verdict o X.document
    judged = G X.document o stores d.means d.valid d.newer at_top

    verdict-is : (y : ReadyJudgement) (n : ℕ) → j ≡ y → judge_edit o X n ≡ sort (by_buffer o n) y
    verdict-is y n e = judge_sorted o X n d.unspent ∙ ap (sort (by_buffer o n)) (sym judged ∙ e)

  pub carry_refused : (y : Unfit) → j ≡ Err y → Carries M before op lines (Err (edit_error y)) M before
  unfolding finish_edit
  carry_refused y e = record {
    carries = λ X o K d. rw (verdict-is X o K d (Err y) (length before) e) (record { answers = refl; keeps = K; writes = refl });
    stays = λ _. (refl, refl);
  }

  pub carry_taken : j ≡ Ok tt → (r : Edited) (N : Memory) (after : List ℕ) → Finishes M before top op lines r N after
      → Carries M before op lines r N after
  carry_taken e r N after F = record {
    carries = λ X o K d.
        rw (verdict-is X o K d (Ok tt) (length before) e) (F.finishes X o K d (at_top X o K d) (sym (judged X o K d) ∙ e));
    stays = F.stays;
  }
