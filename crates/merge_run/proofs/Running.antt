-- The loop of `merge`: each turn adds a read to the run; the one that ends it makes the run a whole one, and so do the turns when they are
-- used up.
-- Assumes nothing.
use Prim.Native.Nat.{ℕ, ◌+◌, ◌-◌, ◌≤◌}
use native.Mathlib.Omega.{arith}
use mathlib.Core.Path.{◌≡◌, refl, sym, ap, subst, ◌∙◌}
use mathlib.Core.Bool.{Bool, true, false, true≢false}
use mathlib.Core.List.{List, [], ◌∷◌, ◌++◌, append-nil}
use lib.ListN.{length, length-append}
use Rattle.std.specs.Prelude.{⊤, Some, None, Result, Ok, Err, is_ok, is_some}
use Rattle.std.specs.declared.io.Error.{Error}
use Rattle.meaning.specs.Receive.{new_terminal}
use Rattle.stream.specs.Pieces.{CutInside}
use Rattle.stream.specs.declared.Cut.{Cut}
use Rattle.keeping.specs.Keeping.{Keeps}
use Rattle.keeping.specs.declared.Memory.{Memory}
use Rattle.feed.specs.Feeding.{AllFed}
use Rattle.feed.specs.Whole.{FeedsAll, onward, ends, stops}
use Rattle.feed.proofs.Whole.{run_merges}
use Rattle.merge_run.specs.Run as Run
use Rattle.merge_run.specs.Run.{Told, Read, tells, chunks, GoesOn, Until, Ending, ended, failed, worn_out, Ends, well, closed}
use Rattle.merge_run.specs.Promises.{says, ReadOn, unread, TookAll}
use Rattle.merge_run.specs.declared.Input.{Input}

-- reads one after another
chunks_on : (reads : List Read) (r : Read) (rest : List (List ℕ)) → chunks (reads ++ r ∷ []) ++ rest ≡ chunks reads ++ r.chunk ∷ rest
chunks_on [] r rest = refl
chunks_on (p ∷ reads) r rest = ap (λ l. p.chunk ∷ l) (chunks_on reads r rest)

goes_on : (reads : List Read) (r : Read) → GoesOn reads → tells r ≡ Run.onward → GoesOn (reads ++ r ∷ [])
goes_on [] r g e = (e, tt)
goes_on (p ∷ reads) r g e = (g.0, goes_on reads r g.1 e)

-- The run so far has come to this memory, buffer and cut by so many turns: what is held lies in the buffer and leaves room behind it, and
-- every run from there on goes on from the start.
pub record Going (M : Memory) (b : List ℕ) (N : Memory) (b' : List ℕ) (c : Cut) (turns : ℕ) : Type 0 where
  pub holds : CutInside b' c
  pub short : c.to - c.from ≤ 468
  pub done : List Read
  pub goes : GoesOn done
  pub counted : length done ≡ turns
  pub on : (rest : List (List ℕ)) (whole : Bool) (P : Memory) → FeedsAll N b' c rest whole P
      → FeedsAll M b unread (chunks done ++ rest) whole P

pub going_none : (M : Memory) (b : List ℕ) → Going M b M b unread 0
going_none M b = record {
  holds = record { low = omega arith; high = omega arith; begun = λ e. absurd (true≢false (sym e)) };
  short = omega arith;
  done = [];
  goes = tt;
  counted = refl;
  on = λ rest whole P f. f;
}

-- all turns are used up
pub worn_out_lem : {M N : Memory} {b b' : List ℕ} {c : Cut} {turns : ℕ} (e : Error) → Going M b N b' c turns
    → turns ≡ 18446744073709551615 → TookAll M b (Err e) N
worn_out_lem {M} {N} {b} e g t = record {
  reads = g.done;
  ending = worn_out;
  ends = (g.goes, g.counted ∙ t);
  told = refl;
  run = subst (λ l. FeedsAll M b unread l false N) (append-nil _) (g.on [] false N stops);
  merged = λ z. absurd (true≢false (sym z));
}

module _ {M N P : Memory} {b b' b'' : List ℕ} {c c' : Cut} {turns : ℕ} {r : Input} {last : Bool} (g : Going M b N b' c turns)
    (n : ReadOn b' c r b'') (l : last ≡ is_some r.end) (a : AllFed N b'' r.cut last c' P) where
  -- a turn behind which others follow
  pub going_on : r.end ≡ None → Going M b P b'' c' (turns + 1)
  going_on e =
      let h : AllFed N b'' r.cut false c' P = subst (λ z. AllFed N b'' r.cut z c' P) (l ∙ ap is_some e) a in
      record {
        holds = a.feeds.holds;
        short = a.rests.short;
        done = g.done ++ n.read ∷ [];
        goes = goes_on g.done n.read g.goes (sym n.told ∙ ap says e);
        counted = omega (arith, g.counted, length-append g.done (n.read ∷ []));
        on = λ rest whole X m.
            subst
            (λ l. FeedsAll M b unread l whole X)
            (sym (chunks_on g.done n.read rest))
            (g.on (n.read.chunk ∷ rest) whole X (onward c' n.reads h m));
      }

  -- the turn at the input's end, or at a failure
  stops_at : (answer : Result ⊤ Error) → r.end ≡ Some answer → Keeps M new_terminal → (ending : Ending) → closed ending ≡ true
      → is_ok answer ≡ well ending → (what : Told) → tells n.read ≡ what → ((reads : List Read) → Until reads what → Ends reads ending)
      → TookAll M b answer P
  stops_at answer e K ending z o what m fin =
      let h : AllFed N b'' r.cut true c' P = subst (λ z. AllFed N b'' r.cut z c' P) (l ∙ ap is_some e) a in
      let run : FeedsAll M b unread (chunks (g.done ++ n.read ∷ [])) true P =
      subst
      (λ l. FeedsAll M b unread l true P)
      (sym (chunks_on g.done n.read []) ∙ append-nil _)
      (g.on (n.read.chunk ∷ []) true P (ends c' n.reads h)) in
      record {
        reads = g.done ++ n.read ∷ [];
        ending = ending;
        ends = fin _ (record { before = g.done; last = n.read; are = refl; on = g.goes; told = m });
        told = o;
        run = subst (λ closed. FeedsAll M b unread (chunks (g.done ++ n.read ∷ [])) closed P) (sym z) run;
        merged = λ d. run_merges (record { empty = refl; fresh = refl }) K run;
      }

  pub takes_all : (answer : Result ⊤ Error) → r.end ≡ Some answer → Keeps M new_terminal → TookAll M b answer P
  takes_all (Ok u) e K = stops_at (Ok u) e K ended refl refl Run.end (sym n.told ∙ ap says e) (λ reads u. u)
  takes_all (Err x) e K = stops_at (Err x) e K failed refl refl Run.failure (sym n.told ∙ ap says e) (λ reads u. u)
