-- `merge_run::whole_sheet` meets its contract: what is kept has a sheet, and it fits. Assumes nothing.
use native.Mathlib.Omega.{arith}
use Rattle.merge_run.proofs.Printing.{fits, merges_written}
use Rattle.merge_run.proofs.whole_sheet.Goals as goal

pub returns-clause-upper_bound : goal.returns-clause-upper_bound
returns-clause-upper_bound c =
    let k = c.requires.keeps_merged in
    omega (
      arith,
      fits k.merged k.document c.save.ensures c.requires.in_bounds c.unwrap_or.result c.unwrap_or.ensures,
      c.save.auto.buf,
    )

pub returns-clause-sheet_of : goal.returns-clause-sheet_of
returns-clause-sheet_of c =
    λ input M e m. merges_written m e c.save.ensures c.requires.in_bounds c.unwrap_or.result c.unwrap_or.ensures
