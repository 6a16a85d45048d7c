-- What settling drops can never be applied: an operation that is dead in a document stays dead, whatever is applied in between, and
-- a terminal neither takes nor keeps it again.
-- Assumes nothing.
use Rattle.std.specs.Prelude.{ℕ, ◌≤◌, ◌≡◌, refl, Bool, true, false, ◌||◌, List, [], ◌∷◌, ◌⊎◌, ltb, length}
use Rattle.std.proofs.Common.{arith, sym, ap, ◌∙◌, true≢false, inl, inr, leb-true, le-leb, ltb-true, ltb-false, lt-ltb}
use Rattle.std.proofs.lemmas.Bool.{not-true}
use Rattle.meaning.specs.Ids.{counter_of, entry, covered}
use Rattle.meaning.specs.Places.{Document}
use Rattle.meaning.specs.Ways.{Operation}
use Rattle.meaning.specs.Apply.{apply, apply_all}
use Rattle.meaning.specs.Judge.{repeated, own_deps_behind, astray, downward}
use Rattle.meaning.specs.Members.{All}
use Rattle.meaning.specs.Receive.{Terminal, ready_in, dead, Verdict, judge, finish, receive}
use Rattle.theorems.specs.Counters.{raise-length, lt_uncovered, ready-own, ready_others, own_others_ready}
use Rattle.theorems.specs.Converge.{who, Ready, Goes, grows}
use Rattle.theorems.specs.Same.{In}
use Rattle.theorems.specs.Tests.{Checked, Why, repeats, crosses, barred, dead_why, why_dead}
use Rattle.theorems.specs.Verdicts.{Judged, refuses, keeps, takes, judged, takes_alive, keeps_alive}
use Rattle.theorems.specs.Following.{Alive}
use Rattle.theorems.specs.Receivers.{Event, Formed, applied_in, live_follows}
use Rattle.theorems.specs.ElementsFound.{astray_still}

-- seen only grows, so a repeat and one whose own deps are behind stay so
repeated_still : (s t : List ℕ) (o : Operation) → entry s (who o) ≤ entry t (who o) → repeated s o ≡ true → repeated t o ≡ true
unfolding repeated
repeated_still s t o g e =
    le-leb (counter_of o.id) (entry t (who o)) (omega (arith, leb-true (counter_of o.id) (entry s (who o)) e))

behind_still : (s t : List ℕ) (o : Operation) → entry s (who o) ≤ entry t (who o) → own_deps_behind s o ≡ true → own_deps_behind t o ≡ true
unfolding own_deps_behind
behind_still s t o g e =
    lt-ltb (entry o.deps (who o)) (entry t (who o)) (omega (arith, ltb-true (entry o.deps (who o)) (entry s (who o)) e))

-- what is ready stays ready, or its own deps are behind
ready_still : (D E : Document) (o : Operation) → ((k : ℕ) → entry D.seen k ≤ entry E.seen k) → ready_in D o ≡ true
    → (own_deps_behind E.seen o ≡ true) ⊎ (ready_in E o ≡ true)
unfolding own_deps_behind
ready_still D E o g r = go (ltb (entry o.deps (who o)) (entry E.seen (who o))) refl
  where
    own : entry o.deps (who o) ≡ entry D.seen (who o)
    own = ready-own D.seen o.id o.deps r

    others : (k : ℕ) → entry o.deps k ≤ entry D.seen k
    others = ready_others D.seen o.id o.deps r

    go : (b : Bool) → ltb (entry o.deps (who o)) (entry E.seen (who o)) ≡ b
        → (ltb (entry o.deps (who o)) (entry E.seen (who o)) ≡ true) ⊎ (ready_in E o ≡ true)
    go true e = inl e
    go false e =
        let most = ltb-false (entry o.deps (who o)) (entry E.seen (who o)) e in
        let same : entry o.deps (who o) ≡ entry E.seen (who o) = omega (arith, own, g (who o), most) in
        inr (own_others_ready E.seen o.id o.deps same (λ k. omega (arith, others k, g k)))

-- what is ready now doesn't cover another one that is ready now
ready_uncovers : (D : Document) (o p : Operation) → ready_in D o ≡ true → Ready D.seen p → covered o.deps p.id ≡ false
ready_uncovers D o p r q =
    let own = ready_others D.seen o.id o.deps r (who p) in
    not-true _ (lt_uncovered o.deps p.id (omega (arith, own, q.own, q.above (who p))))

dead-step : (D : Document) (o p : Operation) → length D.seen ≡ 8 → Ready D.seen p → dead D o ≡ true → dead (apply p D) o ≡ true
dead-step D o p e q h = why_dead (apply p D) o (go (dead_why D o h))
  where
    grown : (k : ℕ) → entry D.seen k ≤ entry (apply p D).seen k
    grown k = unfold apply in grows D.seen p e q k

    barred_still : (astray D o || downward o) ≡ true → ready_in D o ≡ true
        → (own_deps_behind (apply p D).seen o ≡ true) ⊎ (ready_in (apply p D) o ≡ true) → Why (apply p D) o
    barred_still b r (inl c) = crosses c
    barred_still b r (inr now) = barred now (rw (astray_still p o D (ready_uncovers D o p r q)) b)

    go : Why D o → Why (apply p D) o
    go (repeats a) = repeats (repeated_still D.seen (apply p D).seen o (grown (who o)) a)
    go (crosses a) = crosses (behind_still D.seen (apply p D).seen o (grown (who o)) a)
    go (barred r b) = barred_still b r (ready_still D (apply p D) o grown r)

-- once dead, dead for good
pub stays_dead : (os : List Operation) (D : Document) (o : Operation) → length D.seen ≡ 8 → Goes D.seen os → dead D o ≡ true
    → dead (apply_all os D) o ≡ true
unfolding apply_all apply
stays_dead [] D o e g h = h
stays_dead (p ∷ os) D o e g h =
    stays_dead os (apply p D) o (raise-length D.seen p.id e) g.1 (dead-step D o p e g.0 h)

-- none of the operations that a terminal ever applies from now on is one that is dead now
alive_never : (os : List Operation) (D : Document) (o : Operation) → length D.seen ≡ 8 → Goes D.seen os → Alive D os
    → dead D o ≡ true → In o os → ⊥
unfolding apply
alive_never [] D o e g a h i = i
alive_never (p ∷ os) D o e g a h (inl q) = true≢false (sym h ∙ (ap (dead D) q ∙ a.0))
alive_never (p ∷ os) D o e g a h (inr i) =
    alive_never os (apply p D) o (raise-length D.seen p.id e) g.1 a.1 (dead-step D o p e g.0 h) i

pub never_applied : (es : List Event) (T : Terminal) (o : Operation) → length T.document.seen ≡ 8 → All Formed es
    → All Checked T.waiting → dead T.document o ≡ true → In o (applied_in es T) → ⊥
never_applied es T o e f c h i =
    let a = live_follows es T f c in
    alive_never (applied_in es T) T.document o e a.goes a.alive h i

-- and it is refused whenever it arrives: the terminal stays as it is
pub dead_refused : (o : Operation) (T : Terminal) → dead T.document o ≡ true
    → ((receive o T).terminal ≡ T) × ((receive o T).applied ≡ [])
unfolding receive finish
dead_refused o T h = go (judge o T) (judged o T)
  where
    go : (v : Verdict) → Judged o T v → ((finish o T v).terminal ≡ T) × ((finish o T v).applied ≡ [])
    go v (refuses a x) = (refl, refl)
    go v (keeps k) = absurd (true≢false (sym h ∙ keeps_alive o T k))
    go v (takes t) = absurd (true≢false (sym h ∙ takes_alive o T t))
