-- What a terminal does is a list of events: an operation arrives, or it edits. Messages that aren't in the layout, saves and reads leave
-- it as it is, so they are no events; a load starts a new list. Whatever happens, the document follows from the operations applied, each
-- ready when it was applied, and two terminals that applied the same operations hold equal documents and save equal sheets.
-- Assumes nothing.
use Rattle.std.specs.Prelude.{ℕ, ◌≤◌, ◌≡◌, refl, List, [], ◌∷◌, ◌++◌, length}
use Rattle.std.proofs.Common.{sym, ap, ◌∙◌, subst}
use Rattle.meaning.specs.Places.{Document}
use Rattle.meaning.specs.Ways.{Way, Operation}
use Rattle.meaning.specs.Apply.{apply, apply_all}
use Rattle.meaning.specs.Members.{All}
use Rattle.meaning.specs.Receive.{Terminal, receive}
use Rattle.meaning.specs.Edit.{edit}
use Rattle.meaning.specs.Sheet.{sheet}
use Rattle.meaning.specs.Valid.{ValidOperation}
use Rattle.meaning.specs.Promises.{ValidLines}
use Rattle.theorems.specs.Converge.{Goes}
use Rattle.theorems.specs.Same.{Once, SameMembers, goes_once, same_operations}
use Rattle.theorems.specs.Tests.{Checked}
use Rattle.theorems.specs.Following.{Alive, Follows, unchanged}
use Rattle.theorems.specs.Receiving.{receive_follows, edit_follows}

pub data Event : Type 0 where
  arrives : Operation → Event
  edits : (r : ℕ) (top : List ℕ) (w : Way) (buffer : List ℕ) → Event

abbrev pub happen : Event → Terminal → Terminal
happen (arrives o) T = (receive o T).terminal
happen (edits r top w buffer) T = (edit r top w T buffer).terminal

abbrev pub applied_by : Event → Terminal → List Operation
applied_by (arrives o) T = (receive o T).applied
applied_by (edits r top w buffer) T = (edit r top w T buffer).applied

-- one event after another
abbrev pub live : List Event → Terminal → Terminal
live [] T = T
live (e ∷ es) T = live es (happen e T)

abbrev pub applied_in : List Event → Terminal → List Operation
applied_in [] T = []
applied_in (e ∷ es) T = applied_by e T ++ applied_in es (happen e T)

-- what the layout gives of an event, as far as it is needed here: deps are eight counters, the device's number is at most 8
abbrev pub Formed : Event → Type 0
Formed (arrives o) = length o.deps ≡ 8
Formed (edits r top w buffer) = r ≤ 8

-- an event as document 01's layout has it
abbrev pub InLayout : Event → Type 0
InLayout (arrives o) = ValidOperation o
InLayout (edits r top w buffer) = ValidLines r (record { top = top; way = w })

pub layout_formed : (e : Event) → InLayout e → Formed e
layout_formed (arrives o) v = v.deps.eight
layout_formed (edits r top w buffer) v = v.high

happen_follows : (e : Event) (T : Terminal) → Formed e → All Checked T.waiting → Follows T.document (applied_by e T) (happen e T)
happen_follows (arrives o) T f h = receive_follows o T f h
happen_follows (edits r top w buffer) T f h = edit_follows r top w T buffer f h

apply_all-append : (xs ys : List Operation) (D : Document) → apply_all (xs ++ ys) D ≡ apply_all ys (apply_all xs D)
unfolding apply_all
apply_all-append [] ys D = refl
apply_all-append (x ∷ xs) ys D = apply_all-append xs ys (apply x D)

goes_append : (xs ys : List Operation) (D : Document) → Goes D.seen xs → Goes (apply_all xs D).seen ys → Goes D.seen (xs ++ ys)
unfolding apply_all apply
goes_append [] ys D g h = h
goes_append (x ∷ xs) ys D g h = (g.0, goes_append xs ys (apply x D) g.1 h)

alive_append : (xs ys : List Operation) (D : Document) → Alive D xs → Alive (apply_all xs D) ys → Alive D (xs ++ ys)
unfolding apply_all
alive_append [] ys D g h = h
alive_append (x ∷ xs) ys D g h = (g.0, alive_append xs ys (apply x D) g.1 h)

follows_on : (D : Document) (xs ys : List Operation) (T U : Terminal) → Follows D xs T → Follows T.document ys U → Follows D (xs ++ ys) U
follows_on D xs ys T U a b = record {
  document = b.document ∙ (ap (apply_all ys) a.document ∙ sym (apply_all-append xs ys D));
  goes = goes_append xs ys D a.goes (rw a.document at b.goes);
  alive = alive_append xs ys D a.alive (rw a.document at b.alive);
  waiting = b.waiting;
}

-- the document at the end is that at the start with the operations applied, each of which was ready then and not dead
pub live_follows : (es : List Event) (T : Terminal) → All Formed es → All Checked T.waiting
    → Follows T.document (applied_in es T) (live es T)
live_follows [] T f h = unchanged T h
live_follows (e ∷ es) T f h =
    let a = happen_follows e T f.0 h in
    follows_on T.document (applied_by e T) _ (happen e T) _ a (live_follows es (happen e T) f.1 a.waiting)

-- no operation is applied twice
pub applied_once : (es : List Event) (T : Terminal) → length T.document.seen ≡ 8 → All Formed es → All Checked T.waiting
    → Once (applied_in es T)
applied_once es T e f h = goes_once T.document.seen (applied_in es T) e (live_follows es T f h).goes

-- two terminals that start from equal documents, whatever checked messages wait, and apply the same operations end with equal documents
pub equal_ends : (es fs : List Event) (T U : Terminal) → T.document ≡ U.document → length T.document.seen ≡ 8
    → All Formed es → All Formed fs → All Checked T.waiting → All Checked U.waiting
    → SameMembers (applied_in es T) (applied_in fs U) → (live es T).document ≡ (live fs U).document
equal_ends es fs T U q e f g h k m =
    let a = live_follows es T f h in
    let b = live_follows fs U g k in
    let goes = subst (λ D. Goes D.seen (applied_in fs U)) (sym q) b.goes in
    let same = same_operations (applied_in es T) (applied_in fs U) T.document e a.goes goes m in
    a.document ∙ (same ∙ (ap (apply_all (applied_in fs U)) q ∙ sym b.document))

-- the same from one document with nothing waiting, as after a load
pub equal_terminals : (es fs : List Event) (D : Document) → length D.seen ≡ 8 → All Formed es → All Formed fs
    → let T : Terminal = record { document = D; waiting = [] } in
    SameMembers (applied_in es T) (applied_in fs T) → (live es T).document ≡ (live fs T).document
equal_terminals es fs D e f g m = equal_ends es fs _ _ refl e f g tt tt m

-- and so they save equal sheets
pub equal_sheets : (es fs : List Event) (D : Document) → length D.seen ≡ 8 → All Formed es → All Formed fs
    → let T : Terminal = record { document = D; waiting = [] } in
    SameMembers (applied_in es T) (applied_in fs T) → sheet (live es T).document ≡ sheet (live fs T).document
equal_sheets es fs D e f g m = ap sheet (equal_terminals es fs D e f g m)
