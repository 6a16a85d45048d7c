-- `readers::assigned::take_plain` meets its contract: the first letter decides.
-- Assumes nothing.
use native.Mathlib.Omega.{arith}
use Rattle.readers.proofs.Values.{is_null, is_true, is_false, integer_given, string_given, no_letter, no_plain_end}
use Rattle.readers.proofs.assigned.take_plain.Goals as goal

pub returns-in_err-letter : goal.returns-in_err-letter
returns-in_err-letter c = rw c.from_residual.ensures (no_plain_end _ _ c.in_err-letter.ensures.lookup.3)

pub returns-in-110 : goal.returns-in-110
returns-in-110 c = is_null _ _ _ c.in_ok-letter.ensures.lookup.3 c.in-110.is

pub returns-in-116 : goal.returns-in-116
returns-in-116 c = is_true _ _ _ c.in_ok-letter.ensures.lookup.3 c.in-116.is

pub returns-in-102 : goal.returns-in-102
returns-in-102 c = is_false _ _ _ c.in_ok-letter.ensures.lookup.3 c.in-102.is

pub returns-in-105 : goal.returns-in-105
returns-in-105 c = integer_given _ _ _ c.in_ok-letter.ensures.lookup.3 c.in-105.is c.take_number.result c.take_number.ensures

pub returns-in-115 : goal.returns-in-115
returns-in-115 c = string_given _ _ _ c.in_ok-letter.ensures.lookup.3 c.in-115.is c.take_bytes.result c.take_bytes.ensures

pub returns-in_default : goal.returns-in_default
returns-in_default c =
    no_letter _ _ _ c.in_ok-letter.ensures.lookup.3 (λ h. omega arith) (λ h. omega arith) (λ h. omega arith) (λ h. omega arith)
    (λ h. omega arith)
