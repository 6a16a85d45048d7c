-- Where a message ends: the laws of the search, and what the place that it finds means.
-- Assumes nothing.
use Prim.Native.Nat.{ℕ, suc, max, ◌+◌, ◌-◌, ◌≤◌, ◌<◌}
use native.Mathlib.Numerals.{add-one}
use native.Mathlib.Omega.{arith}
use mathlib.Core.Path.{◌≡◌, refl, sym, ap, ◌∙◌}
use mathlib.Core.Bool.{true, false, cond, ◌&&◌}
use mathlib.Core.List.{List, [], ◌∷◌}
use lib.Dec.{eqb}
use lib.ListN.{length, take, drop, get_or, length-drop, drop_of_length-le}
use lib.Seq.{drop-cons, drop-drop}
use borrow.Author.Tests.{eq-eqb, ne_eqb}
use Rattle.meaning.specs.Ascii.{byte}
use Rattle.meaning.specs.Stream.{messages}
use Rattle.theorems.specs.Decide.{Tri, less, same, more, tri}
use Rattle.stream.specs.Ends.{opens, first, Ends, Cutting, done, cut}
use Rattle.stream.proofs.Messages.{messages_none, first_some, first_most, first_cuts}

first_none : first [] ≡ 0
unfolding first
first_none = refl

first_past : (s : List ℕ) (a : ℕ) → length s ≤ a → first (drop a s) ≡ 0
first_past s a h = ap first (drop_of_length-le s h) ∙ first_none

first_here : (s : List ℕ) (a : ℕ) → a < length s → 1 ≤ first (drop a s)
first_here s a h = rw (drop-cons s a 0 h) (first_some (get_or s a 0) (drop (suc a) s))

-- the place that is found
pub ends : (s : List ℕ) (a e : ℕ) → e ≡ a + first (drop a s) → Ends s a e
ends s a e p = record {
  place = p;
  cuts = λ h.
      let d : 0 < length (drop a s) = simp length-drop (omega arith) in
      let f : first (drop a s) ≡ e - a = omega arith in
      let g : drop (first (drop a s)) (drop a s) ≡ drop e s = drop-drop (first (drop a s)) a s ∙ ap (λ n. drop n s) (sym p) in
      first_cuts (drop a s) d ∙ (ap (λ n. take n (drop a s) ∷ messages (drop (first (drop a s)) (drop a s))) f
      ∙ ap (λ l. take (e - a) (drop a s) ∷ messages l) g);
  onward = λ h. omega (arith, first_here s a h);
  within = λ h. omega (arith, first_most (drop a s), length-drop a s);
  none = λ h. omega (arith, first_past s a h);
}

-- cutting a text at these places gives its messages
pub cutting_messages : {s : List ℕ} {a : ℕ} {ms : List (List ℕ)} → Cutting s a ms → ms ≡ messages (drop a s)
cutting_messages {s} (done h) = sym (ap messages (drop_of_length-le s h) ∙ messages_none)
cutting_messages {s} (cut {a} {e} h f r) = ap (λ ms. take (e - a) (drop a s) ∷ ms) (cutting_messages r) ∙ sym (f.cuts h)

-- No message ends from a to e.
pub record Searching (s : List ℕ) (a e : ℕ) : Type 0 where
  pub high : a ≤ length s → e ≤ length s
  pub same : a + first (drop a s) ≡ e + first (drop e s)

pub searching_none : (s : List ℕ) (a : ℕ) → Searching s a a
searching_none s a = record { high = λ h. h; same = refl }

module _ {s : List ℕ} {a e : ℕ} (k : Searching s a e) where
  by_byte : e < length s → first (drop e s) ≡ cond (eqb (get_or s e 0) (byte "\n") && opens (drop (e + 1) s)) 1 (suc (first (drop (e + 1) s)))
  unfolding first
  by_byte h = rw (add-one e, drop-cons s e 0 h)

  -- a message ends behind this byte
  pub found : e < length s → get_or s e 0 ≡ byte "\n" → true ≡ opens (drop (e + 1) s) → Ends s a (e + 1)
  found h b o =
      let f : first (drop e s) ≡ 1 = by_byte h ∙ rw (eq-eqb (get_or s e 0) (byte "\n") b, ← o) in
      ends s a (e + 1) (omega (arith, k.same))

  on : e < length s → first (drop e s) ≡ suc (first (drop (e + 1) s)) → Searching s a (e + 1)
  on h f = record { high = λ g. omega arith; same = omega (arith, k.same) }

  pub other_byte : e < length s → (get_or s e 0 ≡ byte "\n" → ⊥) → Searching s a (e + 1)
  other_byte h n = on h (by_byte h ∙ rw (ne_eqb (get_or s e 0) (byte "\n") n))

  pub other_line : e < length s → get_or s e 0 ≡ byte "\n" → false ≡ opens (drop (e + 1) s) → Searching s a (e + 1)
  other_line h b o = on h (by_byte h ∙ rw (eq-eqb (get_or s e 0) (byte "\n") b, ← o))

  pub at_end : length s ≤ e → (a ≤ length s → e ≤ length s) → (r : ℕ) → r ≡ max a (length s) → Ends s a r
  at_end h g r m = ends s a r (go (tri (length s) a))
    where
      go : Tri (length s) a → r ≡ a + first (drop a s)
      go (less l) = omega (arith, first_past s a (omega arith))
      go (same l) = omega (arith, first_past s a (omega arith))
      go (more l) = omega (arith, k.same, first_past s e h, g (omega arith))
