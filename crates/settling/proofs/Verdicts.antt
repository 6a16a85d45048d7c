-- What the verdict on an operation that may wait says: which are dead, which can be applied.
-- Assumes nothing.
use mathlib.Core.Path.{◌≡◌, refl}
use mathlib.Core.Bool.{Bool, true, false, cond, ◌&&◌, ◌||◌, true≢false}
use Rattle.std.specs.Prelude.{Ok, Err}
use Rattle.meaning.specs.Places.{Document}
use Rattle.meaning.specs.Ways.{Operation}
use Rattle.meaning.specs.Apply.{apply}
use Rattle.meaning.specs.Limits.{fits}
use Rattle.meaning.specs.Judge.{not_above, repeated, own_deps_behind, astray, downward}
use Rattle.meaning.specs.Receive.{ready_in, dead, able}
use Rattle.judging.specs.Judging.{Judgement, is_taken, by_counters, ready_verdict, verdict_by, verdict}
use Rattle.judging.specs.declared.Refusal.TheVariants as F
use Rattle.judging.specs.declared.Readiness.TheVariants as B
use Rattle.judging.specs.declared.Unfit.TheVariants as Y
use Rattle.settling.specs.Verdicts.{deadly}

-- the verdict by the tests 3, 4, ready, 8, 9, 10
abbrev by : Bool → Bool → Bool → Bool → Bool → Bool → Judgement
by r c d a w f =
    verdict_by (cond r (Err F.Repeat) (cond c (Err F.OwnDeps) (cond d (Ok B.Ready) (Ok B.Early))))
    (cond a (Err Y.NoElement) (cond w (Err Y.NotSmaller) (cond f (Ok tt) (Err Y.NoRoom))))

drops : (r c d a w f : Bool) → deadly (by r c d a w f) ≡ (r || c || (d && (a || w)))
drops true c d a w f = refl
drops false true d a w f = refl
drops false false true true w f = refl
drops false false true false true f = refl
drops false false true false false true = refl
drops false false true false false false = refl
drops false false false a w f = refl

takes : (r c d a w f : Bool) → (r || c || (d && (a || w))) ≡ false → is_taken (by r c d a w f) ≡ (d && f)
takes true c d a w f e = absurd (true≢false e)
takes false true d a w f e = absurd (true≢false e)
takes false false true true w f e = absurd (true≢false e)
takes false false true false true f e = absurd (true≢false e)
takes false false true false false true e = refl
takes false false true false false false e = refl
takes false false false a w f e = refl

module _ (D : Document) (o : Operation) (above : not_above o ≡ false) where
  pub deadly-verdict : deadly (verdict o D) ≡ dead D o
  unfolding verdict by_counters ready_verdict dead
  deadly-verdict =
      rw above (drops (repeated D.seen o) (own_deps_behind D.seen o) (ready_in D o) (astray D o) (downward o) (fits (apply o D)))

  pub taken_verdict : dead D o ≡ false → is_taken (verdict o D) ≡ able D o
  unfolding verdict by_counters ready_verdict dead able
  taken_verdict e =
      rw above (takes (repeated D.seen o) (own_deps_behind D.seen o) (ready_in D o) (astray D o) (downward o) (fits (apply o D)) e)

  pub early-verdict : repeated D.seen o ≡ false → own_deps_behind D.seen o ≡ false → ready_in D o ≡ false → verdict o D ≡ Ok B.Early
  unfolding verdict by_counters
  early-verdict r k d = rw (above, r, k, d)
