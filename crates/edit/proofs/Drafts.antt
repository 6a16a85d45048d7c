-- The operation of an edit that was read, of the terminal's seen counters and the device's number.
-- Assumes nothing.
use Prim.Native.Nat.{ℕ, suc, ◌+◌, ◌*◌, ◌-◌, ◌≤◌, ◌<◌}
use native.Mathlib.Omega.{arith}
use mathlib.Core.Path.{◌≡◌, refl, sym, ap, ◌∙◌, subst}
use mathlib.Core.Bool.{false}
use mathlib.Core.List.{List, [], ◌∷◌}
use lib.ListN.{length, length-append}
use borrow.Author.Tests.{ne_eqb}
use Rattle.meaning.specs.Ids.{zeros}
use Rattle.meaning.specs.Ways.{Way}
use Rattle.meaning.specs.Valid.{ValidCounters, ValidEdit}
use Rattle.meaning.specs.Members.{All}
use Rattle.meaning.specs.Message.{edit_text}
use Rattle.meaning.specs.Edit.{largest, spent, edit_of}
use Rattle.meaning.specs.Receive.{Terminal}
use Rattle.meaning.specs.declared.Counters.{Counters}
use Rattle.theorems.specs.Edits.{edit_valid, edit_new}
use Rattle.theorems.specs.Counters.{each_le}
use Rattle.theorems.specs.Sizes.{message-short}
use Rattle.lines.proofs.Texts.{message_text}
use Rattle.lines.specs.Rows.{message_head}
use Rattle.message.specs.Means.{MeansEdit, Means}
use Rattle.message.specs.declared.Edit.{Edit}
use Rattle.message.specs.declared.Operation as Held
use Rattle.judging.proofs.Judged.{newer}
use Rattle.edit.specs.Promises.{Forms, Drafts}

-- no entry is the last counter if the largest isn't
pub unspent : (s : List ℕ) → largest s < 4294967295 → spent s ≡ false
unfolding largest spent
unspent [] h = refl
unspent (x ∷ s) h =
    let l : x < 4294967295 = omega (arith, h) in
    rw (ne_eqb x 4294967295 (λ e. omega (arith, l, e))) (unspent s (omega (arith, h)))

-- the lines of an edit are no longer than the longest message
pub lines-short : (top : List ℕ) (w : Way) → ValidEdit top w → length (edit_text top w) ≤ 463
unfolding spent edit_of
lines-short top w v =
    let o = edit_of zeros 1 top w in
    let least : 0 ≤ 4294967295 = omega arith in
    let low : All (λ x. x ≤ 4294967295) zeros = (least, (least, (least, (least, (least, (least, (least, (least, tt)))))))) in
    let none : ValidCounters zeros = record { eight = refl; each = each_le 4294967295 zeros low } in
    let m = message-short o (edit_valid zeros 1 top w (omega arith) none refl v) in
    omega (arith, m, ap length (message_text o), length-append (message_head o.id o.deps) (edit_text top w))

-- the operation is the edit's
module _ (X : Terminal) (seen : Counters) (n device : ℕ) (e : Edit) (op : Held.Operation) (F : Forms seen n device e op)
    (same : seen.at ≡ X.document.seen) (valid : ValidCounters X.document.seen) (count : n ≡ largest seen.at)
    (few : n < 4294967295) (high : device ≤ 8) where
  counted : n ≡ largest X.document.seen
  counted = count ∙ ap largest same

  none_spent : spent X.document.seen ≡ false
  none_spent = unspent X.document.seen (omega (arith, counted, few))

  pub drafts : (lines top : List ℕ) (w : Way) → ValidEdit top w → MeansEdit e.way e.deed top w → lines ≡ edit_text top w
      → Drafts X op lines (edit_of X.document.seen device top w)
  unfolding edit_of
  drafts lines top w v m t =
      let s = X.document.seen in
      record {
        valid = edit_valid s device top w high valid none_spent v;
        means = subst (λ op. Means op (edit_of s device top w)) (sym F)
            (record { id = ap (λ c. suc c * 8 + (device - 1)) counted; deps = same; edit = m });
        text = t;
        newer = newer X.document (edit_of s device top w) (edit_new s device top w high);
        unspent = none_spent;
      }
