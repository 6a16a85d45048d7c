-- `tables::key_at` meets its contract. Assumes nothing.
use Rattle.tables.proofs.key_at.Goals as goal

pub returns : goal.returns
returns c = rw (c.word.ensures, c.word-2.ensures, c.word-3.ensures)
