-- Settling drops only what is hopeless: a message that waited before it waits still, or it was applied or dropped and is dead at the end
-- (one that was applied is a repeat now).
-- Assumes nothing.
use Rattle.std.proofs.Common.{arith, sym, ap, ◌∙◌, true≢false, inl, inr, eqb-true, le-leb}
use Rattle.std.specs.Prelude.{◌≡◌, refl, Bool, true, false, not, List, [], ◌∷◌, ◌⊎◌, eqb, length}
use Rattle.meaning.specs.Ids.{counter_of, entry, raise}
use Rattle.meaning.specs.Sets.{keep}
use Rattle.meaning.specs.Places.{Document}
use Rattle.meaning.specs.Ways.{Operation}
use Rattle.meaning.specs.Apply.{apply}
use Rattle.meaning.specs.Judge.{repeated}
use Rattle.meaning.specs.Members.{All}
use Rattle.meaning.specs.Receive.{Terminal, dead, without, settle}
use Rattle.theorems.specs.Keep.{keep_yes, keep_no}
use Rattle.theorems.specs.Counters.{raise-length, raise-own}
use Rattle.theorems.specs.Converge.{who}
use Rattle.theorems.specs.Same.{In}
use Rattle.theorems.specs.Tests.{Checked, repeats, why_dead}
use Rattle.theorems.specs.Settling.{left, rid, next, next-all, Course, cut, over, round, course}
use Rattle.theorems.specs.Following.{course_follows}
use Rattle.theorems.specs.Hopeless.{stays_dead}

in_keep : (p : Operation → Bool) (xs : List Operation) (o : Operation) → In o xs → p o ≡ true → In o (keep p xs)
in_keep p [] o h e = absurd h
in_keep p (x ∷ xs) o h e = go (p x) refl (λ h. in_keep p xs o h e) h
  where
    go : (b : Bool) → p x ≡ b → (In o xs → In o (keep p xs)) → In o (x ∷ xs) → In o (keep p (x ∷ xs))
    go true f r (inl q) = rw (keep_yes p x xs f) (inl q)
    go true f r (inr h) = rw (keep_yes p x xs f) (inr (r h))
    go false f r (inl q) = absurd (true≢false (sym e ∙ (ap p q ∙ f)))
    go false f r (inr h) = rw (keep_no p x xs f) (r h)

-- what was applied is a repeat now, and so is all that has its id
applied-dead : (D : Document) (p o : Operation) → length D.seen ≡ 8 → p.id ≡ o.id → dead (apply p D) o ≡ true
applied-dead D p o e q = why_dead (apply p D) o (repeats again)
  where
    again : repeated (apply p D).seen o ≡ true
    again =
        unfold apply repeated in
        rw q (le-leb (counter_of o.id) (entry (raise D.seen o.id) (who o)) (omega (arith, raise-own D.seen o.id e)))

course_dead : (T : Terminal) (os : List Operation) (U : Terminal) (o : Operation) → Course T os U → length T.document.seen ≡ 8
    → All Checked T.waiting → dead T.document o ≡ true → dead U.document o ≡ true
course_dead T os U o r e c h =
    let f = course_follows T os U r c in
    ap (λ D. dead D o) f.document ∙ stays_dead os T.document o e f.goes h

-- where a message is that waited in T
abbrev pub Accounted : Operation → Terminal → Type 0
Accounted o T = In o T.waiting ⊎ (dead T.document o ≡ true)

-- what isn't dead is left when the dead go
left_accounts : (T : Terminal) (o : Operation) → In o T.waiting → Accounted o (rid T)
left_accounts T o h = go (dead T.document o) refl
  where
    go : (b : Bool) → dead T.document o ≡ b → Accounted o (rid T)
    go true q = inr q
    go false q = inl (in_keep (λ o. not (dead T.document o)) T.waiting o h (ap not q))

course_accounts : (T : Terminal) (os : List Operation) (U : Terminal) (o : Operation) → Course T os U → length T.document.seen ≡ 8
    → All Checked T.waiting → In o T.waiting → Accounted o U
unfolding apply without
course_accounts T os U o cut e c h = inl h
course_accounts T os U o over e c h = left_accounts T o h
course_accounts T os U o (round {os = ps} p q r) e c h =
    go (left_accounts T o h) (eqb p.id o.id) refl (λ h. course_accounts (next T p) ps U o r eight checked h)
  where
    eight : length (next T p).document.seen ≡ 8
    eight = raise-length T.document.seen p.id e

    checked : All Checked (next T p).waiting
    checked = next-all Checked T p c

    go : Accounted o (rid T) → (b : Bool) → eqb p.id o.id ≡ b → (In o (next T p).waiting → Accounted o U) → Accounted o U
    go (inr d) b s n = inr (course_dead T os U o (round p q r) e c d)
    go (inl h) true s n =
        inr (course_dead (next T p) ps U o r eight checked (applied-dead T.document p o e (eqb-true p.id o.id s)))
    go (inl h) false s n = n (in_keep (λ o. not (eqb p.id o.id)) (left T) o h (ap not s))

pub settle_accounts : (T : Terminal) (o : Operation) → length T.document.seen ≡ 8 → All Checked T.waiting
    → In o T.waiting → Accounted o (settle T).terminal
settle_accounts T o e c h = course_accounts T (settle T).applied (settle T).terminal o (course T) e c h
