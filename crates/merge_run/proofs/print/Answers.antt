-- `merge_run::print` hands on the sheet of what is kept. Assumes nothing.
use Rattle.merge_run.proofs.Printing.{sheet_printable}
use Rattle.merge_run.proofs.print.Goals as goal

pub write_out-requires : goal.write_out-requires
write_out-requires c = sheet_printable c.requires c.whole_sheet-n.ensures.sheet_of
