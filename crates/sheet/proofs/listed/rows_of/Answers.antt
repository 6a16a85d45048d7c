use mathlib.Core.Path.{refl}
use Rattle.writers.proofs.Runs.{texts_along}
use Rattle.tables.specs.Seek.{further}
use Rattle.tables.specs.Standing.{first}
use Rattle.sheet.specs.Texts.{head_at, row_text}
use Rattle.sheet.proofs.listed.rows_of.Goals as goal

pub returns-clause-text : goal.returns-clause-text
returns-clause-text c =
    let a = c.args in
    texts_along _ _ (row_text a.t.now) (λ s. further s (head_at a.t.now s)) (λ s. record { tables = a.t; at = s }) (λ s. refl) (λ s. refl) first a.rows
