-- Any run over any chunks of a stream hands over the messages of the stream: those of at most 463 bytes whole, each longer one as one that
-- is too long, which every terminal refuses as not in the layout.
-- Assumes nothing.
use Prim.Native.Nat.{ℕ, ◌-◌, ◌<◌}
use native.Mathlib.Omega.{arith}
use Rattle.std.specs.Prelude.{Err}
use mathlib.Core.Path.{◌≡◌, refl, sym, ap, ◌∙◌}
use mathlib.Core.Bool.{Bool, true, false}
use mathlib.Core.List.{List, [], ◌∷◌, ◌++◌, map, append_assoc}
use lib.ListN.{length, take, drop}
use Rattle.std.specs.Prelude.{Err}
use Rattle.meaning.specs.Stream.{messages}
use Rattle.meaning.specs.Ways.{Operation}
use Rattle.meaning.specs.Valid.{ValidOperation}
use Rattle.meaning.specs.Message.{message}
use Rattle.meaning.specs.Receive.{Terminal}
use Rattle.meaning.specs.Promises.{says_nothing, Receives}
use Rattle.meaning.specs.declared.ReceiveError.TheVariants as R
use Rattle.theorems.specs.Sizes.{message-short}
use Rattle.stream.specs.Pieces.{Piece, whole, too_long, judged, pieces, held, Run, joined}
use Rattle.stream.specs.Pieces as p
use Rattle.stream.specs.declared.Cut.{Cut}

append_none : (l : List ℕ) → l ++ [] ≡ l
append_none [] = refl
append_none (x ∷ l) = ap (λ m. x ∷ m) (append_none l)

no_more : {chunks : List (List ℕ)} {last : Bool} → (last ≡ true → chunks ≡ []) → last ≡ true → joined chunks ≡ []
no_more f e = ap joined (f e)

run-pieces : {s : List ℕ} {c : Cut} {chunks : List (List ℕ)} {ps : List Piece} → Run s c chunks ps
    → ps ≡ pieces c.passing (held s c ++ joined chunks)
run-pieces (p.message {s} {c} {next} {chunks} last f h r) =
    ap (λ ps. whole (take (next.from - c.from) (drop c.from s)) ∷ ps) (run-pieces r) ∙ sym (h.rest (joined chunks) (no_more f))
run-pieces (p.long {chunks = chunks} last f h r) = ap (λ ps. too_long ∷ ps) (run-pieces r) ∙ sym (h.rest (joined chunks) (no_more f))
run-pieces (p.more {s} {s'} {c} {next} {c'} {chunk} {chunks} w e g r) =
    run-pieces r
    ∙ (ap (λ b. pieces b (held s' c' ++ joined chunks)) e
    ∙ (ap (λ l. pieces next.passing (l ++ joined chunks)) g
    ∙ (ap (pieces next.passing) (append_assoc (held s next) chunk (joined chunks))
    ∙ sym (w.rest (chunk ++ joined chunks)))))
run-pieces (p.done {s} {c} {next} w) =
    sym (w.rest [] ∙ (ap (pieces next.passing) (append_none (held s next)) ∙ w.done refl))

-- from an empty buffer
pub run-messages : {s : List ℕ} {c : Cut} {chunks : List (List ℕ)} {ps : List Piece} → c.from ≡ c.to → c.passing ≡ false
    → Run s c chunks ps → ps ≡ map judged (messages (joined chunks))
unfolding pieces
run-messages {s} {c} {chunks} e f r =
    let n : c.to - c.from ≡ 0 = omega arith in
    run-pieces r ∙ (ap (λ b. pieces b (held s c ++ joined chunks)) f ∙ ap
    (λ k. pieces false (take k (drop c.from s) ++ joined chunks)) n)

-- a message that is too long is refused
pub long_refused : (T : Terminal) (m : List ℕ) → 463 < length m → Receives T m (Err R.Layout) T
long_refused T m h = record { reads = says_nothing no; answers = refl; leaves = refl }
  where
    no : (o : Operation) → ValidOperation o → m ≡ message o → ⊥
    no o v e = omega (arith, message-short o v, ap length e)
