-- Every edit is answered: 10 where memory has no room, 1, 11, and then as its operation is judged. Two results of an edit are equal.
-- Assumes nothing.
use Prim.Native.Nat.{ℕ, ◌≤◌, ◌<◌}
use native.Mathlib.Omega.{arith}
use mathlib.Core.Path.{◌≡◌, refl, sym, ap, ◌∙◌, subst}
use mathlib.Core.Bool.{Bool, true, false, true≢false}
use mathlib.Core.List.{List}
use Rattle.std.specs.Prelude.{Option, Some, None, Err}
use lib.ListN.{length}
use Rattle.meaning.specs.Receive.{Terminal}
use Rattle.meaning.specs.Edit.{largest, spent, edit_of, judge_edit, finish_edit, edit}
use Rattle.meaning.specs.Promises.{Says, says, says_nothing, Lines, ValidLines, lines_of}
use Rattle.meaning.specs.Answers.{Edited}
use Rattle.meaning.specs.declared.EditError.TheVariants as E
use Rattle.theorems.specs.Counters.{largest_lt}
use Rattle.theorems.specs.Determined.{edits_once}
use Rattle.message.specs.Means.{MeansEdit}
use Rattle.message.specs.Promises.{Answers, ReadsEdit, MeansLines}
use Rattle.message.specs.Promises as Read
use Rattle.message.specs.declared.Edit.{Edit}
use Rattle.message.specs.declared.Operation as Held
use Rattle.keeping.specs.Keeping.{Keeps, within_memory, keeps_within}
use Rattle.keeping.specs.Once.{keeps_once}
use Rattle.keeping.specs.declared.Memory.{Memory}
use Rattle.edit.specs.Promises.{Forms, Carries, Editing}
use Rattle.edit.proofs.Drafts.{drafts, lines-short}

-- Lines that were read.
module _ (lines : List ℕ) (r : Option Edit) (R : ReadsEdit lines r) (e : Edit) (is : r ≡ Some e) where
  -- what is left to show, for what they say
  reading : {A : Type 0} → ((l : Lines) → Read.ValidLines l → lines ≡ lines_of l → MeansEdit e.way e.deed l.top l.way → A) → A
  reading {A} h = go R.says (subst (λ r. Answers MeansLines r R.says) is R.answers)
    where
      go : (y : Says Read.ValidLines lines_of lines) → Answers MeansLines (Some e) y → A
      go (says l v q) a = h l v q a
      go (says_nothing n) a = absurd a

  pub edit-short : length lines ≤ 463
  edit-short = reading (λ l v q m. omega (arith, ap length q, lines-short l.top l.way v))

module _ (M : Memory) (before : List ℕ) (device : ℕ) (lines : List ℕ) where
  pub edit_beyond : within_memory M ≡ false → Editing M before device lines (Err E.NoRoom) M before
  edit_beyond e = record {
    edits = λ X K. absurd (true≢false (sym (keeps_within K) ∙ e));
    beyond = λ _. refl;
    stays = λ _. (refl, refl);
  }

  module _ (room : within_memory M ≡ true) where
    inside : {r : Edited} → within_memory M ≡ false → r ≡ Err E.NoRoom
    inside e = absurd (true≢false (sym room ∙ e))

    -- 1: no lines of this device are these
    edits_nothing : ((l : Lines) → ValidLines device l → lines ≡ lines_of l → ⊥) → Editing M before device lines (Err E.Layout) M before
    edits_nothing n = record {
      edits = λ X K. record {
        exit = X;
        edits = record { reads = says_nothing n; answers = refl; leaves = refl; writes = refl };
        keeps = K;
      };
      beyond = inside;
      stays = λ _. (refl, refl);
    }

    pub edit_low : device ≡ 0 → Editing M before device lines (Err E.Layout) M before
    edit_low e = edits_nothing (λ l v q. absurd (omega (arith, e, v.low)))

    pub edit_high : 8 < device → Editing M before device lines (Err E.Layout) M before
    edit_high h = edits_nothing (λ l v q. absurd (omega (arith, h, v.high)))

    module _ (r : Option Edit) (R : ReadsEdit lines r) where
      pub edit_layout : r ≡ None → Editing M before device lines (Err E.Layout) M before
      edit_layout f = edits_nothing (go R.says (subst (λ r. Answers MeansLines r R.says) f R.answers))
        where
          go : (y : Says Read.ValidLines lines_of lines) → Answers MeansLines None y
              → (l : Lines) → ValidLines device l → lines ≡ lines_of l → ⊥
          go (says x v q) a = absurd a
          go (says_nothing n) a = λ l v q. n l v.edit q

      module _ (e : Edit) (is : r ≡ Some e) (low : 1 ≤ device) (high : device ≤ 8) (n : ℕ)
          (count : n ≡ largest M.document.seen.at) where
        -- 11
        pub edit-last : 4294967295 ≤ n → Editing M before device lines (Err E.LastCounter) M before
        unfolding edit judge_edit finish_edit edit_of
        edit-last h = record {
          edits = λ X K. reading lines r R e is (λ l v q m. record {
            exit = X;
            edits = record {
              reads = says l (record { low = low; high = high; edit = v }) q;
              answers = rw (last X K) refl;
              leaves = rw (last X K) refl;
              writes = rw (last X K) refl;
            };
            keeps = K;
          });
          beyond = inside;
          stays = λ _. (refl, refl);
        }
          where
            last : (X : Terminal) → Keeps M X → spent X.document.seen ≡ true
            last X K = go (spent X.document.seen) refl
              where
                go : (b : Bool) → spent X.document.seen ≡ b → spent X.document.seen ≡ true
                go true q = q
                go false q =
                    let l = largest_lt X.document.seen K.document.sound.seen.each q in
                    absurd (omega (arith, h, l, count, ap largest K.document.counters))

        pub edit-carried : n < 4294967295 → (op : Held.Operation) → Forms M.document.seen n device e op → (a : Edited) (N : Memory)
            (after : List ℕ) → Carries M before op lines a N after → Editing M before device lines a N after
        unfolding edit
        edit-carried h op F a N after C = record {
          edits = λ X K. reading lines r R e is (λ l v q m.
              let d = drafts X M.document.seen n device e op F K.document.counters K.document.sound.seen count h high lines l.top l.way
              v m q in
              let c = C.carries X (edit_of X.document.seen device l.top l.way) K d in
              record {
                exit = (edit device l.top l.way X before).terminal;
                edits = record {
                  reads = says l (record { low = low; high = high; edit = v }) q;
                  answers = c.answers;
                  leaves = refl;
                  writes = c.writes;
                };
                keeps = c.keeps;
              });
          beyond = inside;
          stays = C.stays;
        }

-- Two results of an edit are equal, of every memory that keeps a terminal, and of memory that has no room: answer, every word and every
-- byte.
module _ {M U W : Memory} {before u w : List ℕ} {device : ℕ} {lines : List ℕ} {r q : Edited}
    (f : Editing M before device lines r U u) (g : Editing M before device lines q W w) where
  pub edit_once : (X : Terminal) → Keeps M X → (r ≡ q) × (U ≡ W) × (u ≡ w)
  edit_once X K =
      let m = f.edits X K in
      let n = g.edits X K in
      let e = edits_once X device lines before r q m.exit n.exit u w m.edits n.edits in
      (e.0, keeps_once (subst (Keeps U) e.1 m.keeps) n.keeps, e.2)

  pub edit_once_beyond : within_memory M ≡ false → (r ≡ q) × (U ≡ W) × (u ≡ w)
  edit_once_beyond e =
      let a = f.stays (rw (f.beyond e) tt) in
      let b = g.stays (rw (g.beyond e) tt) in
      (f.beyond e ∙ sym (g.beyond e), a.0 ∙ sym b.0, a.1 ∙ sym b.1)
