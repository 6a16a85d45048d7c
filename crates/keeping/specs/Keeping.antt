-- Memory that keeps a terminal: the tables hold its document, one more table its waiting operations, each of which may wait.
-- Assumes nothing.
use Rattle.std.specs.Prelude.{ℕ, ◌≤◌, ◌≡◌, refl, Bool, true, ◌&&◌, leb}
use Rattle.std.proofs.Common.{le-leb, leb-true}
use Rattle.meaning.specs.Members.{All}
use Rattle.meaning.specs.Receive.{Terminal}
use Rattle.theorems.specs.Decide.{and_left}
use Rattle.theorems.specs.Invariant.{Sent}
use Rattle.tables.specs.Holding.{within_tables, holds_within}
use Rattle.tables.specs.declared.Counts.{Counts}
use Rattle.waiting.specs.Waits.{Waits}
use Rattle.keeping.specs.Storing.{StoresIn}
use Rattle.keeping.specs.declared.Memory.{Memory}

pub record Keeps (M : Memory) (X : Terminal) : Type 0 where
  pub document : StoresIn M.document X.document
  pub waiting : Waits M.waiting M.count X.waiting
  pub sent : All Sent X.waiting

-- so many rows, marks and values, and so many waiting operations, have room in memory
unfoldable pub within_counts : Counts → ℕ → Bool
within_counts c n = leb n 64 && within_tables c

-- what memory counts has room in its tables
abbrev pub within_memory : Memory → Bool
within_memory M = within_counts M.document.counts M.count

pub keeps_within : {M : Memory} {X : Terminal} → Keeps M X → within_memory M ≡ true
unfolding within_counts
keeps_within {M} K = rw (le-leb M.count 64 K.waiting.fit, holds_within K.document.rows) refl

pub within-waiting : (M : Memory) → within_memory M ≡ true → M.count ≤ 64
unfolding within_counts
within-waiting M e = leb-true M.count 64 (and_left (leb M.count 64) _ e)
