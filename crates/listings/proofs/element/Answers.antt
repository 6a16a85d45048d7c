use native.Mathlib.Omega.{arith}
use mathlib.Core.Path.{sym, ap, ◌∙◌}
use mathlib.Core.Logic.{inl, inr}
use Rattle.std.specs.Result.{result_ok}
use Rattle.std.proofs.lemmas.Result.{err_from_is_err_and}
use Rattle.meaning.specs.Read.{not_there, listed}
use Rattle.lines.specs.Rows.{id_row}
use Rattle.tables.proofs.Absent.{told}
use Rattle.listings.proofs.Answered.{not_there_lem, gives}
use Rattle.listings.proofs.Elements.{nth_finding, no_index, nth_found}
use Rattle.listings.proofs.Places.{under_few, under_count, under_long}
use Rattle.listings.proofs.element.Goals as goal

pub returns : goal.returns
returns c =
    let a = c.args in
    gives _
    (λ p u. nth_found a.heads.now a.keys.now a.rows a.from a.depth a.index p u
    (omega (arith, c.if-index-eq0.false)) _ c.nth_row.ensures
    ∙ (ap (nth_finding a.keys.now) c.in_ok-row.ensures.ok_part ∙ ap listed (ap (λ k. id_row k.hi) (sym c.key_at.ensures) ∙ sym c.id_row.ensures)))
    c.give.ensures

pub returns-in_err-row : goal.returns-in_err-row
returns-in_err-row c =
    let a = c.args in
    let e = err_from_is_err_and c.from_residual.result c.from_residual.ensures.1 in
    rw (e.1, e.2 ∙ told _ _ _ (sym c.ok_or.ensures.value ∙ c.in_err-row.was))
    (gives not_there
    (λ p u. nth_found a.heads.now a.keys.now a.rows a.from a.depth a.index p u
    (omega (arith, c.if-index-eq0.false)) _ c.nth_row.ensures
    ∙ ap (nth_finding a.keys.now) (c.ok_or.ensures.ok_part ∙ ap result_ok c.in_err-row.was))
    (not_there_lem _))

pub returns-then-rows-gt-ROWS_ROOM : goal.returns-then-rows-gt-ROWS_ROOM
returns-then-rows-gt-ROWS_ROOM c =
    gives not_there
    (λ p u. elim c.then-rows-gt-ROWS_ROOM.either [
      | inl h ↦ absurd (omega (arith, under_few u, h))
      | inr (inl h) ↦ absurd (omega (arith, under_few u, under_long u, h))
      | inr (inr (inl h)) ↦ absurd (omega (arith, under_count u, h))
      | inr (inr (inr h)) ↦ rw h.3 (no_index _)
    ])
    (not_there_lem _)
