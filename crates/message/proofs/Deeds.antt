-- The lines behind the way.
-- Assumes nothing.
use Prim.Native.Nat.{ℕ}
use native.Mathlib.Omega.{arith}
use mathlib.Core.Path.{◌≡◌, refl, sym, ap, ◌∙◌}
use mathlib.Core.List.{List, [], ◌∷◌, ◌++◌}
use lib.ListN.{get_or, drop}
use Rattle.meaning.specs.Ascii.{ascii, byte}
use Rattle.meaning.specs.Places.{null, bool, integer, string}
use Rattle.meaning.specs.Ways.{Assigned, plain, empty_map, empty_list}
use Rattle.meaning.specs.Text.{assigned_text}
use Rattle.decimal.specs.Take.{Took, Never, fixed, then}
use Rattle.decimal.proofs.Layouts.{stands, Kind, this, other, Case, case_took}
use Rattle.decimal.proofs.Layouts.{case_none, Alike, no_second, none_alike}
use Rattle.readers.specs.Reads.{assigned, MoreAssigned}
use Rattle.readers.specs.Given.{given_of, GivenTook}
use Rattle.readers.specs.declared.Given.{Given}
use Rattle.message.specs.Steps.{Action, assigns, inserts, deletes, action_text, ValidAction, actions}
use Rattle.message.specs.Reads.{value_lines, action_deed, DeedTook}
use Rattle.message.specs.declared.Deed.{Deed}
use Rattle.message.specs.declared.Deed.TheVariants as D

-- A value and its line feed.

feed : (v : Assigned) (t : List ℕ) → MoreAssigned v (byte "\n" ∷ t)
feed (plain null) t = tt
feed (plain (bool b)) t = tt
feed (plain (integer n)) t = refl
feed (plain (string b)) t = refl
feed empty_map t = tt
feed empty_list t = tt

a_line : Alike value_lines (then assigned (fixed (ascii "\n")))
a_line = record {
  from = λ v. (v, tt);
  to = λ p. p.0;
  back = λ v o. refl;
  valid = λ v o. (o, tt);
  text = λ v o. refl;
  more = λ v t h. tt;
  made = λ p o. o.0;
  same = λ p o. refl;
  less = λ p t h. tt;
}

module _ (s : List ℕ) (a : ℕ) where
  module _ (g : Given) (n : ℕ) (k : GivenTook assigned (λ v. v) s a g n) where
    pub no_feed : Never (fixed (ascii "\n")) s n → Never value_lines s a
    no_feed h =
        none_alike value_lines (then assigned (fixed (ascii "\n"))) a_line s a
        (no_second assigned (fixed (ascii "\n")) (λ v y t o m. feed v t) s a k.value n k.took h)

-- Which of the three it is, is said by the fourth byte.

abbrev assign_text : List ℕ
assign_text = ascii "do=assign\nvalue="

abbrev insert_text : List ℕ
insert_text = ascii "do=insert\nvalue="

abbrev delete_text : List ℕ
delete_text = ascii "do=delete\n"

abbrev fourth : List ℕ → ℕ
fourth t = get_or t 3 0

an_assignment : Case assign_text value_lines actions
unfolding action_text
an_assignment = record { make = assigns; text = λ v. refl; valid = λ v o. o; more = λ v t m. tt; kind = kind }
  where
    kind : (x : Action) → Kind assign_text value_lines actions assigns x
    kind (assigns v) = this v refl (λ o. o) (λ t m. tt)
    kind (inserts v) = other (λ t u e. omega (arith, ap fourth e))
    kind deletes = other (λ t u e. omega (arith, ap fourth e))

an_insertion : Case insert_text value_lines actions
unfolding action_text
an_insertion = record { make = inserts; text = λ v. refl; valid = λ v o. o; more = λ v t m. tt; kind = kind }
  where
    kind : (x : Action) → Kind insert_text value_lines actions inserts x
    kind (assigns v) = other (λ t u e. omega (arith, ap fourth e))
    kind (inserts v) = this v refl (λ o. o) (λ t m. tt)
    kind deletes = other (λ t u e. omega (arith, ap fourth e))

a_deletion : Case delete_text (fixed []) actions
unfolding action_text
a_deletion = record { make = λ u. deletes; text = λ u. refl; valid = λ u o. tt; more = λ u t m. tt; kind = kind }
  where
    kind : (x : Action) → Kind delete_text (fixed []) actions (λ u. deletes) x
    kind (assigns v) = other (λ t u e. omega (arith, ap fourth e))
    kind (inserts v) = other (λ t u e. omega (arith, ap fourth e))
    kind deletes = this tt refl (λ o. tt) (λ t m. tt)

module _ (s : List ℕ) (a n : ℕ) where
  -- a deed with a value, whose line was read
  valued : (p : List ℕ) (c : Case p value_lines actions) (deed : Given → Deed) → ((v : Assigned) → action_deed (c.make v) ≡ deed (given_of v))
      → Took (fixed p) s a tt n → (g : Given) (m : ℕ) → GivenTook value_lines (λ v. v) s n g m → DeedTook s a (deed g) m
  valued p c deed same h g m k =
      record {
        action = c.make k.value;
        took = case_took p value_lines actions c s a n h k.value m k.took;
        deed = ap deed k.given ∙ sym (same k.value);
      }

  pub an_assign : Took (fixed assign_text) s a tt n → (g : Given) (m : ℕ) → GivenTook value_lines (λ v. v) s n g m → DeedTook s a (D.Assign g) m
  unfolding an_assignment action_deed
  an_assign = valued assign_text an_assignment D.Assign (λ v. refl)

  pub an_insert : Took (fixed insert_text) s a tt n → (g : Given) (m : ℕ) → GivenTook value_lines (λ v. v) s n g m → DeedTook s a (D.Insert g) m
  unfolding an_insertion action_deed
  an_insert = valued insert_text an_insertion D.Insert (λ v. refl)

  pub no_assign : Took (fixed assign_text) s a tt n → Never value_lines s n → Never actions s a
  no_assign h k = case_none assign_text value_lines actions an_assignment s a n h k

  pub no_insert : Took (fixed insert_text) s a tt n → Never value_lines s n → Never actions s a
  no_insert h k = case_none insert_text value_lines actions an_insertion s a n h k

  pub a_delete : Took (fixed delete_text) s a tt n → DeedTook s a D.Delete n
  unfolding a_deletion action_deed
  a_delete h =
      record {
        action = deletes;
        took = case_took delete_text (fixed []) actions a_deletion s a n h tt n (stands [] s n n refl (λ i. i));
        deed = refl;
      }

pub no_deed : (s : List ℕ) (a : ℕ) → Never (fixed assign_text) s a → Never (fixed insert_text) s a → Never (fixed delete_text) s a
    → Never actions s a
unfolding action_text
no_deed s a x y z = record { not = none }
  where
    none : (d : Action) (t : List ℕ) → ValidAction d → Unit {0} → drop a s ≡ action_text d ++ t → ⊥
    none (assigns v) t o m e = x.not tt ((assigned_text v ++ ascii "\n") ++ t) tt tt e
    none (inserts v) t o m e = y.not tt ((assigned_text v ++ ascii "\n") ++ t) tt tt e
    none deletes t o m e = z.not tt t tt tt e

-- a deletion, and no deed
pub ruleset other_deeds = (a_delete, no_assign, no_insert, no_deed)
