-- The numbers of document 01 settle an answer: two cases with the same number and values are the same case.
-- Assumes nothing.
use Rattle.std.specs.Prelude.{◌≡◌, refl, Ok, Err}
use Rattle.std.proofs.Common.{sym, ap, ◌∙◌}
use Rattle.meaning.specs.Answers.{Answer, receipt_answer, edited_answer, saved_answer, loaded_answer, reading_answer}
use Rattle.meaning.specs.Answers.{Receipt, Edited, Saved, Loaded, Reading}
use Rattle.meaning.specs.Answers.{receipt_of, edited_of, saved_of, loaded_of, reading_of}
use Rattle.meaning.specs.declared.Received.TheVariants as D
use Rattle.meaning.specs.declared.ReceiveError.TheVariants as R
use Rattle.meaning.specs.declared.EditError.TheVariants as E
use Rattle.meaning.specs.declared.ReadError.TheVariants as G

-- what can be told from its image is settled by it
settled : {A : Type 0} (f : A → Answer) (of : Answer → A) → ((a : A) → of (f a) ≡ a) → (a b : A) → f a ≡ f b → a ≡ b
settled f of back a b e = sym (back a) ∙ (ap of e ∙ back b)

receipt_back : (a : Receipt) → receipt_of (receipt_answer a) ≡ a
unfolding receipt_of
receipt_back (Ok (D.Applied a d)) = refl
receipt_back (Err R.Layout) = refl
receipt_back (Err R.Counter) = refl
receipt_back (Err R.Repeat) = refl
receipt_back (Err R.OwnDeps) = refl
receipt_back (Ok D.Waiting) = refl
receipt_back (Err R.WaitsAlready) = refl
receipt_back (Err R.WaitingFull) = refl
receipt_back (Err R.NoElement) = refl
receipt_back (Err R.NotSmaller) = refl
receipt_back (Err R.NoRoom) = refl

edited-back : (a : Edited) → edited_of (edited_answer a) ≡ a
unfolding edited_of
edited-back (Ok m) = refl
edited-back (Err E.Layout) = refl
edited-back (Err E.NoElement) = refl
edited-back (Err E.NotSmaller) = refl
edited-back (Err E.NoRoom) = refl
edited-back (Err E.LastCounter) = refl
edited-back (Err (E.ShortBuffer n)) = refl

saved_back : (a : Saved) → saved_of (saved_answer a) ≡ a
unfolding saved_of
saved_back (Ok w) = refl
saved_back (Err b) = refl

loaded-back : (a : Loaded) → loaded_of (loaded_answer a) ≡ a
unfolding loaded_of
loaded-back (Ok u) = refl
loaded-back (Err b) = refl

reading_back : (a : Reading) → reading_of (reading_answer a) ≡ a
unfolding reading_of
reading_back (Ok w) = refl
reading_back (Err G.Layout) = refl
reading_back (Err G.NotThere) = refl
reading_back (Err (G.ShortBuffer n)) = refl

pub receipt_settled : (a b : Receipt) → receipt_answer a ≡ receipt_answer b → a ≡ b
receipt_settled = settled receipt_answer receipt_of receipt_back

pub edited_settled : (a b : Edited) → edited_answer a ≡ edited_answer b → a ≡ b
edited_settled = settled edited_answer edited_of edited-back

pub saved_settled : (a b : Saved) → saved_answer a ≡ saved_answer b → a ≡ b
saved_settled = settled saved_answer saved_of saved_back

pub loaded_settled : (a b : Loaded) → loaded_answer a ≡ loaded_answer b → a ≡ b
loaded_settled = settled loaded_answer loaded_of loaded-back

pub reading_settled : (a b : Reading) → reading_answer a ≡ reading_answer b → a ≡ b
reading_settled = settled reading_answer reading_of reading_back
