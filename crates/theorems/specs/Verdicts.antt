-- What a verdict says: an operation that is received or edited is refused, kept waiting or taken, and which tests it has passed then.
-- Assumes nothing.
use Rattle.std.specs.Prelude.{ℕ, ◌<◌, ◌≡◌, refl, Bool, true, false, cond, List, leb, ltb, length}
use Rattle.std.proofs.Common.{leb-false}
use Rattle.meaning.specs.Ids.{counter_of, entry_of, entry}
use Rattle.meaning.specs.Ways.{Operation}
use Rattle.meaning.specs.Apply.{apply}
use Rattle.meaning.specs.Limits.{fits}
use Rattle.meaning.specs.Judge.{not_above, repeated, own_deps_behind, astray, downward}
use Rattle.meaning.specs.Receive.{Terminal, ready_in, dead, waits, Verdict, refused, kept, taken, judge_ready, judge_early, judge}
use Rattle.meaning.specs.Message.{message}
use Rattle.meaning.specs.Edit.{EditVerdict, spent, judge_edit}
use Rattle.meaning.specs.Edit as Edit
use Rattle.meaning.specs.Answers.{Answer, only, short, Refusal}
use Rattle.theorems.specs.Tests.{alive_now, early_alive}

-- an operation that isn't a repeat has its counter above its terminal's seen entry
pub new_lt : (s : List ℕ) (o : Operation) → repeated s o ≡ false → entry s (entry_of o.id) < counter_of o.id
unfolding repeated
new_lt s o e = leb-false (counter_of o.id) (entry s (entry_of o.id)) e

-- it is not 2, 3 or 4
pub record Admitted (o : Operation) (T : Terminal) : Type 0 where
  pub above : not_above o ≡ false
  pub new : repeated T.document.seen o ≡ false
  pub own : own_deps_behind T.document.seen o ≡ false

-- it is ready, and not 8, 9 or 10
pub record Takes (o : Operation) (T : Terminal) : Type 0 where
  pub admitted : Admitted o T
  pub ready : ready_in T.document o ≡ true
  pub leads : astray T.document o ≡ false
  pub smaller : downward o ≡ false
  pub room : fits (apply o T.document) ≡ true

-- it is not ready, and not 6 or 7
pub record Keeps (o : Operation) (T : Terminal) : Type 0 where
  pub admitted : Admitted o T
  pub early : ready_in T.document o ≡ false
  pub once : waits o.id T.waiting ≡ false
  pub few : leb 64 (length T.waiting) ≡ false

-- neither is dead
pub takes_alive : (o : Operation) (T : Terminal) → Takes o T → dead T.document o ≡ false
takes_alive o T t = alive_now T.document o t.admitted.new t.admitted.own t.leads t.smaller

pub keeps_alive : (o : Operation) (T : Terminal) → Keeps o T → dead T.document o ≡ false
keeps_alive o T k = early_alive T.document o k.admitted.new k.admitted.own k.early

pub data Judged (o : Operation) (T : Terminal) : Verdict → Type 0 where
  refuses : (a : Answer) → Refusal a → Judged o T (refused a)
  keeps : Keeps o T → Judged o T kept
  takes : Takes o T → Judged o T taken

judged-ready : (o : Operation) (T : Terminal) → Admitted o T → ready_in T.document o ≡ true → Judged o T (judge_ready o T.document)
unfolding judge_ready
judged-ready o T p r = go (astray T.document o) refl (downward o) refl (fits (apply o T.document)) refl
  where
    go : (a : Bool) → astray T.document o ≡ a → (b : Bool) → downward o ≡ b → (c : Bool) → fits (apply o T.document) ≡ c
        → Judged o T (cond a (refused (only 8)) (cond b (refused (only 9)) (cond c taken (refused (only 10)))))
    go true e b f c g = refuses _ tt
    go false e true f c g = refuses _ tt
    go false e false f true g = takes (record { admitted = p; ready = r; leads = e; smaller = f; room = g })
    go false e false f false g = refuses _ tt

judged-early : (o : Operation) (T : Terminal) → Admitted o T → ready_in T.document o ≡ false → Judged o T (judge_early o T.waiting)
unfolding judge_early
judged-early o T p r = go (waits o.id T.waiting) refl (leb 64 (length T.waiting)) refl
  where
    go : (a : Bool) → waits o.id T.waiting ≡ a → (b : Bool) → leb 64 (length T.waiting) ≡ b
        → Judged o T (cond a (refused (only 6)) (cond b (refused (only 7)) kept))
    go true e b f = refuses _ tt
    go false e true f = refuses _ tt
    go false e false f = keeps (record { admitted = p; early = r; once = e; few = f })

pub judged : (o : Operation) (T : Terminal) → Judged o T (judge o T)
unfolding judge
judged o T =
    let D = T.document in
    go (not_above o) refl (repeated D.seen o) refl (own_deps_behind D.seen o) refl (ready_in D o) refl
  where
    go : (a : Bool) → not_above o ≡ a → (b : Bool) → repeated T.document.seen o ≡ b → (c : Bool)
        → own_deps_behind T.document.seen o ≡ c → (d : Bool) → ready_in T.document o ≡ d
        → Judged o T (cond a (refused (only 2)) (cond b (refused (only 3)) (cond c (refused (only 4))
        (cond d (judge_ready o T.document) (judge_early o T.waiting)))))
    go true e b f c g d h = refuses _ tt
    go false e true f c g d h = refuses _ tt
    go false e false f true g d h = refuses _ tt
    go false e false f false g true h = judged-ready o T (record { above = e; new = f; own = g }) h
    go false e false f false g false h = judged-early o T (record { above = e; new = f; own = g }) h

-- a local edit is not 11, 8, 9, 10 or 13
pub record TakesEdit (o : Operation) (T : Terminal) (n : ℕ) : Type 0 where
  pub counter : spent T.document.seen ≡ false
  pub leads : astray T.document o ≡ false
  pub smaller : downward o ≡ false
  pub room : fits (apply o T.document) ≡ true
  pub buffer : ltb n (length (message o)) ≡ false

pub data JudgedEdit (o : Operation) (T : Terminal) (n : ℕ) : EditVerdict → Type 0 where
  refuses_edit : (a : Answer) → Refusal a → JudgedEdit o T n (Edit.refused a)
  takes_edit : TakesEdit o T n → JudgedEdit o T n Edit.taken

pub judged_edit : (o : Operation) (T : Terminal) (n : ℕ) → JudgedEdit o T n (judge_edit o T n)
unfolding judge_edit
judged_edit o T n =
    let D = T.document in
    go (spent D.seen) refl (astray D o) refl (downward o) refl (fits (apply o D)) refl (ltb n (length (message o))) refl
  where
    go : (a : Bool) → spent T.document.seen ≡ a → (b : Bool) → astray T.document o ≡ b → (c : Bool) → downward o ≡ c
        → (d : Bool) → fits (apply o T.document) ≡ d → (x : Bool) → ltb n (length (message o)) ≡ x
        → JudgedEdit o T n (cond a (Edit.refused (only 11)) (cond b (Edit.refused (only 8)) (cond c (Edit.refused (only 9))
        (cond d (cond x (Edit.refused (short (length (message o)))) Edit.taken) (Edit.refused (only 10))))))
    go true e b f c g d h x i = refuses_edit _ tt
    go false e true f c g d h x i = refuses_edit _ tt
    go false e false f true g d h x i = refuses_edit _ tt
    go false e false f false g true h true i = refuses_edit _ tt
    go false e false f false g true h false i =
        takes_edit (record { counter = e; leads = f; smaller = g; room = h; buffer = i })
    go false e false f false g false h x i = refuses_edit _ tt
