-- Counters with commas between them: the first, and the others each behind a comma.
-- Assumes nothing.
use Prim.Native.Nat.{ℕ, zero, suc, ◌+◌}
use native.Mathlib.Numerals.{add-one}
use native.Mathlib.Omega.{arith}
use mathlib.Core.Path.{◌≡◌, refl, sym, ap, ◌∙◌}
use mathlib.Core.List.{List, ◌++◌}
use lib.ListN.{length, drop, get_or, drop_of_length-le}
use lib.Seq.{drop-cons}
use Rattle.meaning.specs.Ascii.{ascii}
use Rattle.meaning.specs.Text.{decimal, comma_text, counters_text}
use Rattle.meaning.specs.declared.Counters.{Counters}
use Rattle.writers.specs.Texts.{texts}
use Rattle.writers.specs.declared.numbers.Behind.{Behind}

-- a counter behind a comma, and the next one
abbrev pub piece : Behind → List ℕ
piece b = ascii "," ++ decimal (get_or b.counters.at b.at 0)

abbrev pub on : Behind → Behind
on b = record { counters = b.counters; at = b.at + 1 }

behind : (c : Counters) (i n : ℕ) → length c.at ≡ i + n
    → texts piece on (record { counters = c; at = i }) n ≡ comma_text (drop i c.at)
unfolding texts comma_text
behind c i zero e = rw (drop_of_length-le c.at {i = i} (omega arith))
behind c i (suc n) e =
    rw (drop-cons c.at i 0 (omega arith))
    (ap (λ t. ascii "," ++ (decimal (get_or c.at i 0) ++ t)) (behind c (i + 1) n (omega arith) ∙ ap (λ j. comma_text (drop j c.at)) (add-one i)))

pub counters_in_parts : (c : Counters) → length c.at ≡ 8
    → decimal (get_or c.at 0 0) ++ texts piece on (record { counters = c; at = 1 }) 7 ≡ counters_text c.at
unfolding counters_text
counters_in_parts c e =
    let f : drop 0 c.at ≡ c.at = refl in
    ap (λ t. decimal (get_or c.at 0 0) ++ t) (behind c 1 7 e) ∙ ap counters_text (sym (drop-cons c.at 0 0 (omega arith)) ∙ f)
