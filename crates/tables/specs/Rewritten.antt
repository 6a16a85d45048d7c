-- A head's word written anew is the head's word of the row that is meant: a new one, one with a flag, one with other marks and values.
-- Assumes nothing.
use Rattle.std.specs.Prelude.{ℕ, ◌<◌, ◌≡◌, List, length}
use Rattle.std.proofs.Common.{arith}
use Rattle.meaning.specs.Places.{Value}
use Rattle.meaning.specs.Sheet.{Spot, in_map, in_list, Row}
use Rattle.rows.specs.Blocks.{new_row}
use Rattle.tables.specs.Words.{hangs, head_word}
use Rattle.tables.specs.Heads.{new_head, with_flag, with_counts}
use Rattle.tables.specs.Finds.{bit_small, side_small}
use Rattle.tables.specs.Holding.{flag_row}
use Rattle.tables.specs.declared.Side.{Side}
use Rattle.tables.specs.declared.Side.TheVariants as S

pub new_word : (depth : ℕ) (p : Spot) → new_head depth (hangs p) ≡ head_word (new_row depth p)
new_word depth (in_map k) = omega arith
new_word depth (in_list i) = omega arith

module _ (r : Row) (d : r.depth < 16) where
  pub flag_word : (side : Side) → with_flag side (head_word r) ≡ head_word (flag_row side r)
  flag_word S.List = omega (arith, side_small r.spot, bit_small r.map, bit_small r.list)
  flag_word S.Map = omega (arith, side_small r.spot, bit_small r.map, bit_small r.list)

  pub counts_word : (ms : List ℕ) (vs : List Value) → with_counts (head_word r) (length ms) (length vs)
      ≡ head_word (record { depth = r.depth; spot = r.spot; map = r.map; list = r.list; marks = ms; values = vs })
  counts_word ms vs = omega (arith, side_small r.spot, bit_small r.map, bit_small r.list)
