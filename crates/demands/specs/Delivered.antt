-- An edit's message, received by another terminal that holds the same document: it is the same operation, the other answers 0, and both
-- keep the document with it applied and what waits settled. If the same messages wait there, both keep the same memory.
-- Assumes nothing.
use Prim.Native.Nat.{ℕ, suc}
use Rattle.std.specs.Prelude.{◌≡◌, List, length, take, Ok}
use Rattle.std.proofs.Math.Path.{refl, subst}
use Rattle.meaning.specs.Apply.{apply}
use Rattle.meaning.specs.Ways.{Operation}
use Rattle.meaning.specs.Message.{message}
use Rattle.meaning.specs.Receive.{Terminal, finish, receive, settle}
use Rattle.meaning.specs.Promises.{says, Edits, Receives}
use Rattle.meaning.specs.Answers.{Edited, Receipt}
use Rattle.meaning.specs.declared.Made.{Made}
use Rattle.meaning.specs.declared.Received.TheVariants as R
use Rattle.theorems.specs.Determined.{receives_once}
use Rattle.keeping.specs.Keeping.{Keeps}
use Rattle.keeping.specs.Once.{keeps_once}
use Rattle.keeping.specs.declared.Memory.{Memory}
use Rattle.terminal.specs.Promises.{Receiving}
use Rattle.edit.specs.Promises.{Editing}
use Rattle.demands.specs.Shared.{behind, shared}

-- X edits, and keeps N afterwards, with the buffer `after`; Y receives, with the answer a, and keeps V afterwards.
pub record Delivered (X Y : Terminal) (n : ℕ) (N : Memory) (after : List ℕ) (a : Receipt) (V : Memory) : Type 0 where
  pub operation : Operation
  pub text : take n after ≡ message operation
  pub applied : ℕ
  pub dropped : ℕ
  pub answer : a ≡ Ok (R.Applied applied dropped)
  pub here : Keeps N (behind operation X)
  pub there : Keeps V (behind operation Y)

module _ {M N : Memory} {before after : List ℕ} {device : ℕ} {lines : List ℕ} {r : Edited} (e : Editing M before device lines r N after)
    (made : Made) (yes : r ≡ Ok made) {U V : Memory} {a : Receipt}
    (m : Receiving U (take made.written after) a V) (X Y : Terminal) (K : Keeps M X) (J : Keeps U Y)
    (same : Y.document ≡ X.document) where
  pub delivered : Delivered X Y made.written N after a V
  unfolding receive finish
  delivered =
      let k = e.edits X K in
      let w = shared X K.document.sound.seen device lines before made k.exit after
      (subst (λ r. Edits X device lines before r k.exit after) yes k.edits) in
      let o = w.operation in
      let Z : Terminal = record { document = apply o Y.document; waiting = Y.waiting } in
      let answer : Receipt = Ok (R.Applied (suc (length (settle Z).applied)) (settle Z).dropped) in
      let j = w.taken Y same in
      let f : Receives Y (take made.written after) answer (behind o Y) =
      record { reads = says o w.valid w.text; answers = rw j refl; leaves = rw j refl } in
      let g = m.receives Y J in
      let h = receives_once Y (take made.written after) a answer g.exit (behind o Y) g.receives f in
      record {
        operation = o;
        text = w.text;
        applied = suc (length (settle Z).applied);
        dropped = (settle Z).dropped;
        answer = h.0;
        here = subst (Keeps N) w.leaves k.keeps;
        there = subst (Keeps V) h.1 g.keeps;
      }

  -- with the same messages waiting both end with the same memory
  pub delivered_alike : Y.waiting ≡ X.waiting → N ≡ V
  delivered_alike w =
      let x = delivered in
      let both : Y ≡ X = λ i. record { document = same i; waiting = w i } in
      keeps_once x.here (subst (λ Y. Keeps V (behind x.operation Y)) both x.there)
