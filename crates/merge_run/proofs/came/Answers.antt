-- `merge_run::came` meets its contract: every byte that came is held. Assumes nothing.
use Rattle.std.proofs.Common.{rules}
use Rattle.merge_run.proofs.Reading.{came_behind}
use Rattle.merge_run.proofs.came.Goals as goal

pub returns-in-Ok : goal.returns-in-Ok
returns-in-Ok c =
    rw (c.in-Ok.is)
    (came_behind c.in-Ok.n c.min.result c.requires.cut_inside c.requires.to_in_bounds (search rules) c.min.ensures)
