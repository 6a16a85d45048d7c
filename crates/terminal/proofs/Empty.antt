-- A new terminal in memory whose words are all 0.
-- Assumes nothing.
use native.Mathlib.Omega.{arith}
use mathlib.Core.Path.{refl}
use Rattle.meaning.specs.Receive.{new_terminal}
use Rattle.meaning.specs.Sheet.{rows_of, rows_children}
use Rattle.meaning.specs.Load.{marks_in, values_in}
use Rattle.theorems.specs.Soundness.{sound_empty, fits_empty}
use Rattle.tables.specs.Words.{heads_of, keys_of, marks_of, values_of}
use Rattle.words.specs.Rows.{flat}
use Rattle.keeping.specs.Keeping.{Keeps}
use Rattle.terminal.specs.Promises.{Empties, zero_memory}

pub new_keeps : Keeps zero_memory new_terminal
unfolding rows_of rows_children heads_of keys_of marks_of values_of marks_in values_in flat
new_keeps = record {
  document = record {
    rows = record {
      heads = refl;
      keys = refl;
      marks = refl;
      values = refl;
      rows_are = refl;
      marks_are = refl;
      values_are = refl;
      rows_fit = omega arith;
      marks_fit = omega arith;
      values_fit = omega arith;
      good = tt;
    };
    counters = refl;
    sound = sound_empty;
    limits = fits_empty;
  };
  waiting = record { table = refl; count = refl; fit = omega arith; ascending = tt; valid = tt };
  sent = tt;
}

pub new_empties : Empties zero_memory
new_empties = (refl, new_keeps)
