-- Document 01, "What is answered": a terminal receives an operation; the waiting messages are settled.
-- Assumes nothing: these are definitions.
use Rattle.std.specs.Prelude.{ℕ, zero, suc, ◌+◌, ◌-◌, Bool, false, not, cond, ◌&&◌, ◌||◌, List, [], ◌∷◌, leb, eqb, length}
use Rattle.meaning.specs.Ids.{ready}
use Rattle.meaning.specs.Sets.{keep, put}
use Rattle.meaning.specs.Places.{Document}
use Rattle.meaning.specs.Ways.{Operation}
use Rattle.meaning.specs.Apply.{apply, empty_document}
use Rattle.meaning.specs.Limits.{fits}
use Rattle.meaning.specs.Judge.{not_above, repeated, own_deps_behind, astray, downward}
use Rattle.meaning.specs.Answers.{Answer, done, only}

-- What a terminal keeps: the document, and the waiting messages by ascending id.
pub record Terminal : Type 0 where
  pub document : Document
  pub waiting : List Operation

abbrev pub new_terminal : Terminal
new_terminal = record { document = empty_document; waiting = [] }

abbrev pub ready_in : Document → Operation → Bool
ready_in D o = ready D.seen o.id o.deps

-- Settling.

-- a waiting message that is dropped: it is now 3, 4 or (ready) 8 or 9
unfoldable pub dead : Document → Operation → Bool
dead D o = repeated D.seen o || own_deps_behind D.seen o || (ready_in D o && (astray D o || downward o))

-- one that can be applied: it is ready, and 10 doesn't stop it
unfoldable pub able : Document → Operation → Bool
able D o = ready_in D o && fits (apply o D)

-- the first of some messages, if there is any
pub data Pick : Type 0 where
  nobody : Pick
  picked : Operation → Pick

unfoldable pub first : List Operation → Pick
first [] = nobody
first (o ∷ os) = picked o

-- all but the one with this id
unfoldable pub without : ℕ → List Operation → List Operation
without i os = keep (λ o. not (eqb i o.id)) os

-- what settling comes to: the terminal, the operations applied in their order, how many messages were dropped
pub record Settled : Type 0 where
  pub terminal : Terminal
  pub applied : List Operation
  pub dropped : ℕ

-- a round: the dead are gone, and the one picked, if any, is applied; then the rest is settled
unfoldable pub onward : (Terminal → Settled) → Document → List Operation → ℕ → Pick → Settled
onward rest D left gone nobody = record { terminal = record { document = D; waiting = left }; applied = []; dropped = gone }
onward rest D left gone (picked o) =
    let r = rest (record { document = apply o D; waiting = without o.id left }) in
    record { terminal = r.terminal; applied = o ∷ r.applied; dropped = gone + r.dropped }

-- The number bounds the rounds. Each but the last applies one message, so there is at most one more than messages wait.
unfoldable pub settle_in : ℕ → Terminal → Settled
settle_in zero T = record { terminal = T; applied = []; dropped = 0 }
settle_in (suc n) T =
    let D = T.document in
    let left = keep (λ o. not (dead D o)) T.waiting in
    onward (settle_in n) D left (length T.waiting - length left) (first (keep (able D) left))

unfoldable pub settle : Terminal → Settled
settle T = settle_in (suc (length T.waiting)) T

-- Receiving.

unfoldable pub waits : ℕ → List Operation → Bool
waits i [] = false
waits i (o ∷ os) = eqb i o.id || waits i os

pub data Verdict : Type 0 where
  refused : Answer → Verdict
  kept taken : Verdict

-- ready: 8, 9, 10, else it is applied
unfoldable pub judge_ready : Operation → Document → Verdict
judge_ready o D =
    cond (astray D o) (refused (only 8))
    (cond (downward o) (refused (only 9))
    (cond (fits (apply o D)) taken (refused (only 10))))

-- not ready: 6, 7, else it waits
unfoldable pub judge_early : Operation → List Operation → Verdict
judge_early o os = cond (waits o.id os) (refused (only 6)) (cond (leb 64 (length os)) (refused (only 7)) kept)

-- 2, 3, 4; then by readiness
unfoldable pub judge : Operation → Terminal → Verdict
judge o T =
    let D = T.document in
    cond (not_above o) (refused (only 2))
    (cond (repeated D.seen o) (refused (only 3))
    (cond (own_deps_behind D.seen o) (refused (only 4))
    (cond (ready_in D o) (judge_ready o D) (judge_early o T.waiting))))

-- what receiving comes to: the answer, the terminal, and the operations applied in their order
pub record Received : Type 0 where
  pub answer : Answer
  pub terminal : Terminal
  pub applied : List Operation

abbrev pub refusing : Answer → Terminal → Received
refusing a T = record { answer = a; terminal = T; applied = [] }

unfoldable pub finish : Operation → Terminal → Verdict → Received
finish o T (refused a) = refusing a T
finish o T kept =
    record { answer = only 5; terminal = record { document = T.document; waiting = put (λ o. o.id) o T.waiting }; applied = [] }
finish o T taken =
    let r = settle (record { document = apply o T.document; waiting = T.waiting }) in
    record { answer = done (suc (length r.applied)) r.dropped 0; terminal = r.terminal; applied = o ∷ r.applied }

-- an operation whose message is in the layout is received
unfoldable pub receive : Operation → Terminal → Received
receive o T = finish o T (judge o T)
