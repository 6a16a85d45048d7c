-- Settling as a course of rounds, and one rule over it: a property that is kept when dead messages go, and when one that can be applied is
-- applied, holds of what settling leaves.
-- Assumes nothing.
use Rattle.std.specs.Prelude.{ℕ, zero, suc, ◌-◌, ◌≡◌, refl, true, false, not, List, [], ◌∷◌, eqb, length}
use Rattle.std.proofs.lemmas.Bool.{not-true}
use Rattle.meaning.specs.Places.{Document}
use Rattle.meaning.specs.Ways.{Operation}
use Rattle.meaning.specs.Sets.{keep}
use Rattle.meaning.specs.Apply.{apply}
use Rattle.meaning.specs.Limits.{fits}
use Rattle.meaning.specs.Members.{All}
use Rattle.meaning.specs.Receive.{Terminal, ready_in, dead, able, Pick, nobody, picked, first, without, Settled, onward, settle_in, settle}
use Rattle.theorems.specs.Decide.{and_left, and_right}
use Rattle.theorems.specs.Members.{all_keep, all_pass}
use Rattle.theorems.specs.Picking.{first-all}

-- the messages that aren't dead, and the terminal rid of the dead ones
abbrev pub left : Terminal → List Operation
left T = keep (λ o. not (dead T.document o)) T.waiting

abbrev pub rid : Terminal → Terminal
rid T = record { document = T.document; waiting = left T }

-- the terminal after a round that picked o
abbrev pub next : Terminal → Operation → Terminal
next T o = record { document = apply o T.document; waiting = without o.id (left T) }

-- what holds of all that wait holds of these
pub left-all : (Q : Operation → Type 0) (T : Terminal) → All Q T.waiting → All Q (left T)
left-all Q T h = all_keep Q (λ o. not (dead T.document o)) T.waiting h

pub next-all : (Q : Operation → Type 0) (T : Terminal) (o : Operation) → All Q T.waiting → All Q (next T o).waiting
unfolding without
next-all Q T o h = all_keep Q (λ x. not (eqb o.id x.id)) (left T) (left-all Q T h)

-- of some messages, o is one that can be applied: what holds of all of them holds of it
pub record Chosen (D : Document) (os : List Operation) (o : Operation) : Type 1 where
  pub among : (Q : Operation → Type 0) → All Q os → Q o
  pub lives : dead D o ≡ false
  pub can : able D o ≡ true

pub chosen_ready : (D : Document) (os : List Operation) (o : Operation) → Chosen D os o → ready_in D o ≡ true
unfolding able
chosen_ready D os o c = and_left (ready_in D o) (fits (apply o D)) c.can

pub chosen_fits : (D : Document) (os : List Operation) (o : Operation) → Chosen D os o → fits (apply o D) ≡ true
unfolding able
chosen_fits D os o c = and_right (ready_in D o) (fits (apply o D)) c.can

-- what is picked among those left is chosen
choose : (T : Terminal) (o : Operation) → first (keep (able T.document) (left T)) ≡ picked o → Chosen T.document (left T) o
choose T o e =
    let D = T.document in
    record {
      among = λ Q h. here Q (all_keep Q (able D) (left T) h);
      lives = not-true (dead D o) (here (λ x. not (dead D x) ≡ true) (all_keep _ (able D) (left T) (all_pass _ T.waiting)));
      can = here (λ x. able D x ≡ true) (all_pass (able D) (left T));
    }
  where
    here : (Q : Operation → Type 0) → All Q (keep (able T.document) (left T)) → Q o
    here Q h = rw e at (first-all Q (keep (able T.document) (left T)) h)

-- from a terminal to what settling leaves, with the operations applied on the way: the bound on the rounds is used up; no message can be
-- applied; or one is, and so on
pub data Course : Terminal → List Operation → Terminal → Type 1 where
  cut : {T : Terminal} → Course T [] T
  over : {T : Terminal} → Course T [] (rid T)
  round : {T U : Terminal} {os : List Operation} (o : Operation) → Chosen T.document (left T) o → Course (next T o) os U
      → Course T (o ∷ os) U

pub course_in : (n : ℕ) (T : Terminal) → Course T (settle_in n T).applied (settle_in n T).terminal
unfolding settle_in onward
course_in zero T = cut
course_in (suc n) T = go (first (keep (able T.document) (left T))) refl (λ U. course_in n U)
  where
    on : Pick → Settled
    on k = onward (settle_in n) T.document (left T) (length T.waiting - length (left T)) k

    go : (k : Pick) → first (keep (able T.document) (left T)) ≡ k
        → ((U : Terminal) → Course U (settle_in n U).applied (settle_in n U).terminal) → Course T (on k).applied (on k).terminal
    go nobody e r = over
    go (picked o) e r = round o (choose T o e) (r (next T o))

pub course : (T : Terminal) → Course T (settle T).applied (settle T).terminal
unfolding settle
course T = course_in (suc (length T.waiting)) T

module _ (P : Terminal → Type 0) (drops : (T : Terminal) → P T → P (rid T))
    (applies : (D : Document) (os : List Operation) (o : Operation) → Chosen D os o → P (record { document = D; waiting = os })
    → P (record { document = apply o D; waiting = without o.id os }))
  where
    along : (T : Terminal) (os : List Operation) (U : Terminal) → Course T os U → P T → P U
    along T os U cut h = h
    along T os U over h = drops T h
    along T os U (round {os = ps} o c r) h = along (next T o) ps U r (applies T.document (left T) o c (drops T h))

    pub settles : (T : Terminal) → P T → P (settle T).terminal
    settles T h = along T (settle T).applied (settle T).terminal (course T) h

-- settling keeps the limits
pub settle-fits : (T : Terminal) → fits T.document ≡ true → fits (settle T).terminal.document ≡ true
settle-fits T h = settles (λ T. fits T.document ≡ true) (λ T h. h) (λ D os o c h. chosen_fits D os o c) T h
