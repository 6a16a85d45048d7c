-- Numbers and lists.
pub mod Decide
pub mod Keep
pub mod Members
pub mod Picking
pub mod Counters
-- The operation's steps: at keys, at elements, at a place; two operations commute; what is found on a way.
pub mod Keys
pub mod Elements
pub mod Atoms
pub mod Commute
pub mod Finding
pub mod ElementsFound
-- Convergence, and what two receivers hold.
pub mod Converge
pub mod Same
pub mod Tests
pub mod Verdicts
pub mod Edits
pub mod Following
pub mod Receiving
pub mod Receivers
-- Settling.
pub mod Settling
pub mod Rounds
pub mod Quiet
pub mod Hopeless
pub mod Dropped
-- Soundness, and what every terminal satisfies.
pub mod SoundAtoms
pub mod SoundRun
pub mod Once
pub mod Soundness
pub mod Invariant
pub mod Outcomes
-- Text: one spelling, and what is read back.
pub mod Decimal
pub mod Back
pub mod Lines
pub mod Steps
pub mod Spelling
-- Sheets and loading.
pub mod Rows
pub mod LoadVerdict
pub mod Fit
pub mod Saved
pub mod Running
pub mod Ran
pub mod AtEnd
pub mod Taken
pub mod Accepting
pub mod Sizes
pub mod Numbered
pub mod Determined
pub mod Worked
