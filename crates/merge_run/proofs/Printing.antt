-- The sheet that is printed: it fits the buffer, and is what document 01 says `merge` prints.
-- Assumes nothing.
use Prim.Native.Nat.{ℕ, ◌≤◌}
use native.Mathlib.Omega.{arith}
use mathlib.Core.Path.{◌≡◌, refl, sym, ap, subst, ◌∙◌}
use mathlib.Core.Bool.{true, true≢false}
use mathlib.Core.List.{List}
use lib.ListN.{length, take}
use borrow.Author.Tests.{le-ltb}
use Rattle.std.specs.Prelude.{⊤, Result, Ok, is_ok}
use Rattle.std.specs.Result.{result_unwrap_or}
use Rattle.std.specs.declared.io.Error.{Error}
use Rattle.meaning.specs.Sheet.{sheet, save}
use Rattle.meaning.specs.Promises.{Saves, Merges}
use Rattle.meaning.specs.Answers.{Saved}
use Rattle.theorems.specs.Numbered.{saved_settled}
use Rattle.theorems.specs.Sizes.{sheet-short}
use Rattle.keeping.specs.declared.Document.{Document}
use Rattle.keeping.specs.declared.Memory.{Memory}
use Rattle.sheet.specs.Saving.{Saving}
use Rattle.sheet.proofs.Saved.{sound_valid}
use Rattle.feed.specs.Whole.{Merged, Prints}
use Rattle.feed.proofs.Whole.{merged_prints}
use Rattle.merge_run.specs.Run.{Read, input, Ending, ended, failed, worn_out, Ends, well, closed}
use Rattle.merge_run.specs.Promises.{TookAll, KeepsMerged, SheetOf, Printable}

-- only a run to the input's end is told to be well
ended_well : {reads : List Read} (ending : Ending) → Ends reads ending → true ≡ well ending → Ends reads ended
ended_well ended h e = h
ended_well failed h e = absurd (true≢false e)
ended_well worn_out h e = absurd (true≢false e)

closed-well : (ending : Ending) → true ≡ well ending → closed ending ≡ true
closed-well ended e = refl
closed-well failed e = absurd (true≢false e)
closed-well worn_out e = absurd (true≢false e)

-- What is kept when all went well can be printed.
pub took_keeps : {M N : Memory} {b : List ℕ} {answer : Result ⊤ Error} → TookAll M b answer N → is_ok answer ≡ true → KeepsMerged N.document
took_keeps {N = N} k o =
    let e : true ≡ well k.ending = sym o ∙ k.told in
    record {
      reads = k.reads;
      ends = ended_well k.ending k.ends e;
      memory = N;
      document = refl;
      merged = k.merged (closed-well k.ending e);
    }

-- A buffer of 65,536 bytes or more, into which the document of the memory was saved
module _ {input : List ℕ} {M : Memory} {d : Document} {before after : List ℕ} {answer : Saved} (p : Merged input M) (e : M.document ≡ d)
    (q : Saving d.tables d.counts d.seen before answer after) (room : 65536 ≤ length before) where
  saved : Saves p.exit.document before answer after
  saved =
      let D = p.exit.document in
      let k = p.keeps.document in
      let s = subst (λ d. Saving d.tables d.counts d.seen before answer after) (sym e) q in
      s.saves D k.rows (sound_valid D k.sound) k.counters

  -- it is never too short
  answered : answer ≡ Ok (length (sheet p.exit.document))
  unfolding save
  answered =
      let D = p.exit.document in
      let k = p.keeps.document in
      let l : length (sheet D) ≤ length before = omega (arith, sheet-short D k.sound k.limits) in
      saved_settled answer (Ok (length (sheet D))) (rw (le-ltb (length before) (length (sheet D)) l) at saved.answers)

  module _ (n : ℕ) (i : n ≡ result_unwrap_or answer 0) where
    written : n ≡ length (sheet p.exit.document)
    written = i ∙ ap (λ a. result_unwrap_or a 0) answered

    pub fits : n ≤ length before
    fits = let k = p.keeps.document in omega (arith, written, sheet-short p.exit.document k.sound k.limits)

    pub merges_written : Merges input (take n after)
    merges_written =
        let r : Prints input answer after = merged_prints p room saved in
        subst (λ l. Merges input (take l after)) (sym (i ∙ ap (λ a. result_unwrap_or a 0) r.answers)) r.merges

-- the sheet of what is kept can be printed
pub sheet_printable : {d : Document} {bytes : List ℕ} → KeepsMerged d → SheetOf d bytes → Printable bytes
sheet_printable k f = record { reads = k.reads; ends = k.ends; merges = f (input k.reads) k.memory k.document k.merged }
