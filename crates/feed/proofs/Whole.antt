-- A whole stream that is fed chunk by chunk: whatever the chunks are, the terminal that is kept at the end has received the messages of the
-- stream one after another, and the sheet that is saved of it is what document 01 says `merge` prints.
-- Assumes nothing.
use Prim.Native.Nat.{ℕ, ◌+◌, ◌-◌, ◌≤◌}
use native.Mathlib.Omega.{arith}
use mathlib.Core.Path.{◌≡◌, refl, sym, ap, subst, ◌∙◌}
use mathlib.Core.Bool.{Bool, true, false, cond, true≢false}
use mathlib.Core.List.{List, [], ◌∷◌, ◌++◌, map, append_assoc, append-nil}
use lib.Dec.{ltb}
use lib.ListN.{length, take, drop}
use lib.Seq.{take-append_seam}
use borrow.Author.Tests.{ltb-true, le-ltb}
use Rattle.std.specs.Prelude.{Ok, Err}
use Rattle.meaning.specs.Text.{over}
use Rattle.meaning.specs.Receive.{Terminal, new_terminal}
use Rattle.meaning.specs.Sheet.{sheet, save}
use Rattle.meaning.specs.Stream.{messages}
use Rattle.meaning.specs.Promises.{ReceivesAll, Saves}
use Rattle.meaning.specs.declared.ReceiveError.TheVariants as R
use Rattle.meaning.specs.Answers.{Saved}
use Rattle.theorems.specs.Numbered.{saved_settled}
use Rattle.theorems.specs.Sizes.{sheet-short}
use Rattle.stream.specs.Pieces.{whole, too_long, judged, pieces, held, Moved, joined}
use Rattle.stream.specs.declared.Cut.{Cut}
use Rattle.stream.proofs.Runs.{long_refused}
use Rattle.stream.proofs.Moving.{grown_held}
use Rattle.keeping.specs.Keeping.{Keeps}
use Rattle.keeping.specs.declared.Memory.{Memory}
use Rattle.feed.specs.Feeding.{Takes, none, receives, passes, Took, AllFed}
use Rattle.feed.specs.Whole.{ReadsOn, FeedsAll, onward, ends, Unread, Merged, Prints}
use Rattle.feed.proofs.Feeding.{takes_on}

-- Behind the last bytes every piece is handed over.
pub last-handed : {M N : Memory} {b : List ℕ} {c d : Cut} (f : AllFed M b c true d N) → f.feeds.handed ≡ pieces c.passing (held b c)
last-handed {b = b} {c = c} {d = d} f =
    sym (append-nil _)
    ∙ (ap (λ l. f.feeds.handed ++ l) (sym (f.rests.done refl) ∙ ap (pieces d.passing) (sym (append-nil _)))
    ∙ (sym (f.feeds.rest [] (λ e. refl)) ∙ ap (pieces c.passing) (append-nil _)))

-- A chunk of n bytes is read behind the held ones, after these have been moved to the buffer's start.
pub reads_behind : {b a b' : List ℕ} {c room : Cut} (n : ℕ) → Moved b c a room → take room.to b' ≡ take room.to a
    → room.to + n ≤ length b'
    → ReadsOn b c (take n (drop room.to b')) b' (record { from = room.from; to = room.to + n; passing = room.passing })
reads_behind {b} {a} {b'} {c} {room} n m kept fits = record {
  bytes = grown_held a b' room n m.holds kept fits ∙ ap (λ l. l ++ take n (drop room.to b')) m.same;
  passing = m.passing;
}

-- the pieces of what was read
reads_pieces : {b b' : List ℕ} {c c' : Cut} {chunk : List ℕ} → ReadsOn b c chunk b' c' → (more : List ℕ)
    → pieces c'.passing (held b' c' ++ more) ≡ pieces c.passing (held b c ++ (chunk ++ more))
reads_pieces {b} {b'} {c} {c'} {chunk} h more =
    ap (λ p. pieces p (held b' c' ++ more)) h.passing
    ∙ ap (pieces c.passing) (ap (λ l. l ++ more) h.bytes ∙ append_assoc (held b c) chunk more)

-- A run to the end takes the pieces of the stream.
pub run_takes : {M N : Memory} {b : List ℕ} {c : Cut} {chunks : List (List ℕ)} → FeedsAll M b c chunks true N → (X : Terminal) → Keeps M X
    → Took X (pieces c.passing (held b c ++ joined chunks)) N
run_takes (onward {chunk = chunk} {chunks = chunks} d h f g) X K =
    let m = f.feeds.takes X K in
    let n = run_takes g m.exit m.keeps in
    let e = sym (f.feeds.rest (joined chunks) (λ e. absurd (true≢false (sym e)))) ∙ reads_pieces h (joined chunks) in
    record { exit = n.exit; takes = subst (λ ps. Takes X ps n.exit) e (takes_on m.takes n.takes); keeps = n.keeps }
run_takes (ends {b' = b'} {c' = c'} d h f) X K =
    let m = f.feeds.takes X K in
    let e = last-handed f ∙ (ap (pieces c'.passing) (sym (append-nil (held b' c'))) ∙ reads_pieces h []) in
    record { exit = m.exit; takes = subst (λ ps. Takes X ps m.exit) e m.takes; keeps = m.keeps }

-- Messages are received one after another; one that is too long is refused.
takes_receives : (ms : List (List ℕ)) (X Z : Terminal) → Takes X (map judged ms) Z → ReceivesAll X ms Z
takes_receives [] X Z none = refl
takes_receives (m ∷ ms) X Z h = go (ltb 463 (length m)) refl (λ Y r. takes_receives ms Y Z r) h
  where
    go : (b : Bool) → ltb 463 (length m) ≡ b → ((Y : Terminal) → Takes Y (map judged ms) Z → ReceivesAll Y ms Z)
        → Takes X (cond b too_long (whole m) ∷ map judged ms) Z → ReceivesAll X (m ∷ ms) Z
    go true e f (passes r) = (Err R.Layout, X, long_refused X m (ltb-true 463 (length m) e), f X r)
    go false e f (receives {Y = Y} a k r) = (a, Y, k, f Y r)

-- From an empty buffer and memory that keeps a new terminal.
pub run_merges : {M N : Memory} {b : List ℕ} {c : Cut} {chunks : List (List ℕ)} → Unread c → Keeps M new_terminal
    → FeedsAll M b c chunks true N → Merged (joined chunks) N
unfolding pieces
run_merges {b = b} {c = c} {chunks = chunks} u K r =
    let m = run_takes r new_terminal K in
    let n : c.to - c.from ≡ 0 = omega (arith, u.empty) in
    let e =
    ap (λ p. pieces p (held b c ++ joined chunks)) u.fresh
    ∙ ap (λ k. pieces false (take k (drop c.from b) ++ joined chunks)) n in
    let h = subst (λ ps. Takes new_terminal ps m.exit) e m.takes in
    record { exit = m.exit; receives = takes_receives (messages (joined chunks)) new_terminal m.exit h; keeps = m.keeps }

-- What is saved of it into a buffer of 65,536 bytes or more is what `merge` prints.
pub merged_prints : {input : List ℕ} {N : Memory} (m : Merged input N) {before after : List ℕ} {answer : Saved}
    → 65536 ≤ length before → Saves m.exit.document before answer after → Prints input answer after
unfolding save over
merged_prints m {before} {after} {answer} l h =
    let D = m.exit.document in
    let k : length (sheet D) ≤ length before = omega (arith, sheet-short D m.keeps.document.sound m.keeps.document.limits) in
    record {
      written = length (sheet D);
      answers = saved_settled answer (Ok (length (sheet D))) (rw (le-ltb (length before) (length (sheet D)) k) at h.answers);
      merges = record {
        exit = m.exit;
        receives = m.receives;
        prints = rw (rw (le-ltb (length before) (length (sheet D)) k) at h.writes) (take-append_seam (sheet D) _);
      };
    }
