-- Document 01, "Ids", "Messages" and "What is answered": a local edit. Its trials are 1 (specs/Promises), 11, 8, 9, 10, 13, 0.
-- Assumes nothing: these are definitions.
use Rattle.std.specs.Prelude.{ℕ, suc, max, Bool, false, cond, ◌||◌, List, [], ◌∷◌, eqb, ltb, length}
use Rattle.meaning.specs.Ids.{id_of}
use Rattle.meaning.specs.Ways.{Way, Operation}
use Rattle.meaning.specs.Apply.{apply}
use Rattle.meaning.specs.Limits.{fits}
use Rattle.meaning.specs.Judge.{astray, downward}
use Rattle.meaning.specs.Receive.{Terminal, settle}
use Rattle.meaning.specs.Text.{over}
use Rattle.meaning.specs.Message.{message}
use Rattle.meaning.specs.Answers.{Answer, done, only, short}

unfoldable pub largest : List ℕ → ℕ
largest [] = 0
largest (x ∷ xs) = max x (largest xs)

-- a local edit of terminal r takes deps = seen and c = 1 + the largest seen entry
unfoldable pub edit_of : List ℕ → ℕ → List ℕ → Way → Operation
edit_of s r top w = record { id = id_of (suc (largest s)) r; deps = s; top = top; way = w }

-- 11: a seen entry is 4294967295
unfoldable pub spent : List ℕ → Bool
spent [] = false
spent (x ∷ s) = eqb x 4294967295 || spent s

pub data EditVerdict : Type 0 where
  refused : Answer → EditVerdict
  taken : EditVerdict

-- 11, 8, 9, 10, 13, else it is applied; n is the buffer's length
unfoldable pub judge_edit : Operation → Terminal → ℕ → EditVerdict
judge_edit o T n =
    let D = T.document in
    cond (spent D.seen) (refused (only 11))
    (cond (astray D o) (refused (only 8))
    (cond (downward o) (refused (only 9))
    (cond (fits (apply o D))
    (cond (ltb n (length (message o))) (refused (short (length (message o)))) taken)
    (refused (only 10)))))

-- what an edit comes to: the answer, the terminal, the caller's buffer, and the operations applied in their order
pub record EditOutcome : Type 0 where
  pub answer : Answer
  pub terminal : Terminal
  pub buffer : List ℕ
  pub applied : List Operation

unfoldable pub finish_edit : Operation → Terminal → List ℕ → EditVerdict → EditOutcome
finish_edit o T buffer (refused a) = record { answer = a; terminal = T; buffer = buffer; applied = [] }
finish_edit o T buffer taken =
    let r = settle (record { document = apply o T.document; waiting = T.waiting }) in
    record {
      answer = done (suc (length r.applied)) r.dropped (length (message o));
      terminal = r.terminal;
      buffer = over (message o) buffer;
      applied = o ∷ r.applied;
    }

-- terminal r edits
unfoldable pub edit : ℕ → List ℕ → Way → Terminal → List ℕ → EditOutcome
edit r top w T buffer =
    let o = edit_of T.document.seen r top w in
    finish_edit o T buffer (judge_edit o T (length buffer))
