-- The refusals of an operation, as those of a message and of an edit tell them.
-- Assumes nothing: these are definitions.
use Rattle.meaning.specs.declared.ReceiveError.{ReceiveError}
use Rattle.meaning.specs.declared.ReceiveError.TheVariants as R
use Rattle.meaning.specs.declared.EditError.{EditError}
use Rattle.meaning.specs.declared.EditError.TheVariants as E
use Rattle.judging.specs.declared.Refusal.{Refusal}
use Rattle.judging.specs.declared.Refusal.TheVariants as F
use Rattle.judging.specs.declared.Unfit.{Unfit}
use Rattle.judging.specs.declared.Unfit.TheVariants as Y

abbrev pub refusal_of : Unfit → Refusal
refusal_of Y.NoElement = F.NoElement
refusal_of Y.NotSmaller = F.NotSmaller
refusal_of Y.NoRoom = F.NoRoom

abbrev pub receive_error : Refusal → ReceiveError
receive_error F.Counter = R.Counter
receive_error F.Repeat = R.Repeat
receive_error F.OwnDeps = R.OwnDeps
receive_error F.NoElement = R.NoElement
receive_error F.NotSmaller = R.NotSmaller
receive_error F.NoRoom = R.NoRoom

abbrev pub edit_error : Unfit → EditError
edit_error Y.NoElement = E.NoElement
edit_error Y.NotSmaller = E.NotSmaller
edit_error Y.NoRoom = E.NoRoom
