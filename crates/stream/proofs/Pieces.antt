-- A stream in pieces: what a step hands over or holds on to, and what any run over any chunks comes to.
-- Assumes nothing.
use Prim.Native.Nat.{ℕ, zero, suc, ◌+◌, ◌-◌, ◌≤◌, ◌<◌}
use native.Mathlib.Nat.{sub-zero}
use native.Mathlib.Omega.{arith}
use mathlib.Core.Path.{◌≡◌, refl, sym, ap, ◌∙◌, subst}
use mathlib.Core.Bool.{Bool, true, false, cond, ◌||◌}
use mathlib.Core.Logic.{◌≢◌}
use mathlib.Core.List.{List, [], ◌∷◌, ◌++◌, map}
use lib.Dec.{ltb}
use lib.ListN.{length, take, drop, length-append, length-drop}
use lib.Seq.{take-nil, take-take, take-append-le, drop-append-le, drop-drop, length-take-le}
use borrow.Author.Tests.{lt-ltb, le-ltb, ltb-true, ltb-false, eq-eqb, ne_eqb}
use Rattle.stream.specs.Ends.{first, Ends}
use Rattle.stream.specs.Pieces.{Piece, whole, too_long, judged, pieces, held, CutInside, Hands, Waits, Steps}
use Rattle.stream.specs.Steps.{behind, handed, tail, waiting, end_of, step}
use Rattle.stream.specs.declared.Cut.{Cut}
use Rattle.stream.specs.declared.Step.TheVariants.{Message, TooLong, More}
use Rattle.stream.proofs.Messages.{messages_none, first_some, first_most, first_cuts}
use Rattle.stream.proofs.Growing.{first_stays, first_goes_on}

pub drop-take : (k n : ℕ) (l : List ℕ) → drop k (take n l) ≡ take (n - k) (drop k l)
drop-take zero n l = ap (λ m. take m l) (sym (sub-zero n))
drop-take (suc k) zero l = let e : 0 ≡ 0 - suc k = omega arith in ap (λ m. take m (drop (suc k) l)) e
drop-take (suc k) (suc n) [] = sym (take-nil (suc n - suc k))
drop-take (suc k) (suc n) (x ∷ l) = let e : n - k ≡ suc n - suc k = omega arith in drop-take k n l ∙ ap (λ m. take m (drop k l)) e

-- The first message of a text, whose bytes begin with x.

long_judged : (m : List ℕ) → 463 < length m → judged m ≡ too_long
long_judged m h = rw (lt-ltb 463 (length m) h)

short-judged : (m : List ℕ) → length m ≤ 463 → judged m ≡ whole m
short-judged m h = rw (le-ltb 463 (length m) h)

abbrev first_piece : Bool → List ℕ → Piece
first_piece false m = judged m
first_piece true m = too_long

pieces-first : (p : Bool) (t : List ℕ) → 0 < length t
    → pieces p t ≡ first_piece p (take (first t) t) ∷ pieces false (drop (first t) t)
unfolding pieces
pieces-first false t h = ap (map judged) (first_cuts t h)
pieces-first true t h = ap (λ ms. too_long ∷ map judged (drop 1 ms)) (first_cuts t h)

pub pieces_none : pieces false [] ≡ []
unfolding pieces
pieces_none = ap (map judged) messages_none

first_one : (t : List ℕ) → 0 < length t → 1 ≤ first t
first_one [] h = absurd (omega arith)
first_one (b ∷ t) h = first_some b t

-- The held bytes from a further place on.

module _ (s : List ℕ) (c : Cut) (e : ℕ) (low : c.from ≤ e) where
  held_from : (p : Bool) → held s (record { from = e; to = c.to; passing = p }) ≡ drop (e - c.from) (held s c)
  held_from p =
      let f : c.to - c.from - (e - c.from) ≡ c.to - e = omega arith in
      let g : c.from + (e - c.from) ≡ e = omega arith in
      sym (drop-take (e - c.from) (c.to - c.from) (drop c.from s) ∙ (ap (λ n. take n (drop (e - c.from) (drop c.from s))) f
      ∙ ap (λ l. take (c.to - e) l) (drop-drop (e - c.from) c.from s ∙ ap (λ n. drop n s) g)))

module _ (s : List ℕ) (c : Cut) (h : CutInside s c) where
  pub held_long : length (held s c) ≡ c.to - c.from
  held_long = length-take-le (c.to - c.from) (drop c.from s) (simp length-drop (omega (arith, h.low, h.high)))

  -- the message that goes on from the cut ends at e, whatever follows
  module _ (e : ℕ) (some : c.from < c.to) (here : e ≡ c.from + first (held s c)) (last : Bool)
      (fixed : (t : List ℕ) → (last ≡ true → t ≡ []) → first (held s c ++ t) ≡ first (held s c)) where
    reach : first (held s c) ≤ c.to - c.from
    reach = subst (λ n. first (held s c) ≤ n) held_long (first_most (held s c))

    hands : Hands s c last (first_piece c.passing (take (first (held s c)) (held s c))) (behind c e)
    hands = record {
      holds = record {
        low = omega (arith, reach, h.low);
        high = h.high;
        begun = λ f. absurd
            (let z : ◌≡◌ {A = ℕ} 0 1 = cc in omega arith);
      };
      onward = omega (arith, first_one (held s c) (omega (arith, held_long)));
      same = refl;
      rest = λ t l.
          let f : first (held s c ++ t) ≡ first (held s c) = fixed t l in
          let m : first (held s c) ≤ length (held s c) = first_most (held s c) in
          let d : e - c.from ≡ first (held s c) = omega arith in
          let g : held s (behind c e) ≡ drop (first (held s c)) (held s c) = held_from s c e (omega arith) false ∙ ap
          (λ n. drop n (held s c)) d in
          pieces-first c.passing (held s c ++ t) (rw length-append (omega (arith, held_long)))
          ∙ (ap (λ n. first_piece c.passing (take n (held s c ++ t)) ∷ pieces false (drop n (held s c ++ t))) f
          ∙ (ap (λ x. first_piece c.passing x ∷ pieces false (drop (first (held s c)) (held s c ++ t)))
          (take-append-le (first (held s c)) (held s c) t m)
          ∙ ap (λ x. first_piece c.passing (take (first (held s c)) (held s c)) ∷ pieces false x)
          (drop-append-le (first (held s c)) (held s c) t m ∙ ap (λ l. l ++ t) (sym g))));
    }

    message_long : length (take (first (held s c)) (held s c)) ≡ e - c.from
    message_long = length-take-le (first (held s c)) (held s c) (first_most (held s c))
        ∙ (let d : first (held s c) ≡ e - c.from = omega arith in d)

    message-is : take (first (held s c)) (held s c) ≡ take (e - c.from) (drop c.from s)
    message-is =
        let d : first (held s c) ≡ e - c.from = omega arith in
        take-take (first (held s c)) (c.to - c.from) (drop c.from s) reach ∙ ap (λ n. take n (drop c.from s)) d

    pub hands_over : Steps s c last (handed c e)
    unfolding handed
    hands_over = go c.passing refl (ltb 463 (e - c.from)) refl
      where
        m : List ℕ
        m = take (first (held s c)) (held s c)

        by : {piece : Piece} → first_piece c.passing m ≡ piece → Hands s c last piece (behind c e)
        by q = subst (λ piece. Hands s c last piece (behind c e)) q hands

        go : (p : Bool) → c.passing ≡ p → (q : Bool) → ltb 463 (e - c.from) ≡ q
            → Steps s c last (cond p (TooLong (behind c e)) (cond q (TooLong (behind c e)) (Message (behind c e))))
        go true i q j = by (ap (λ p. first_piece p m) i)
        go false i true j = by (ap (λ p. first_piece p m) i ∙ long_judged m (omega (arith, message_long, ltb-true 463 (e - c.from) j)))
        go false i false j =
            by (ap (λ p. first_piece p m) i ∙ (short-judged m (omega (arith, message_long, ltb-false 463 (e - c.from) j)) ∙ ap whole
            message-is))

  -- nothing is held
  pub empties : (last : Bool) → c.from ≡ c.to → Waits s c last c
  empties last e = record {
    holds = h;
    short = omega arith;
    same = refl;
    rest = λ t. refl;
    done = λ l. go c.passing refl;
  }
    where
      go : (p : Bool) → c.passing ≡ p → pieces c.passing (held s c) ≡ []
      go true i = absurd (omega (arith, h.begun i))
      go false i =
          let n : c.to - c.from ≡ 0 = omega arith in
          ap (λ p. pieces p (held s c)) i ∙ (ap (λ k. pieces false (take k (drop c.from s))) n ∙ pieces_none)

-- a message that is too long goes on from the place d of a text
goes_on : (p : Bool) (t : List ℕ) (d : ℕ) → first t ≡ d + first (drop d t) → d < length t → 463 < first t → pieces p t ≡ pieces true
    (drop d t)
goes_on p t d f h l =
    pieces-first p t (omega arith)
    ∙ (ap (λ q. q ∷ pieces false (drop (first t) t)) (long p)
    ∙ (ap (λ u. too_long ∷ pieces false u) (ap (λ n. drop n t) f ∙ sym (drop-drop (first (drop d t)) d t))
    ∙ sym (pieces-first true (drop d t) (simp length-drop (omega arith)))))
  where
    long : (q : Bool) → first_piece q (take (first t) t) ≡ too_long
    long true = refl
    long false = long_judged (take (first t) t) (omega (arith, length-take-le (first t) t (first_most t)))

module _ (s : List ℕ) (c : Cut) (h : CutInside s c) (none : first (held s c) ≡ length (held s c)) (some : c.from < c.to) where
  -- no message ends in the held bytes: of too many, the last five are held on to
  tail-rest : 468 < c.to - c.from → (t : List ℕ) → pieces c.passing (held s c ++ t) ≡ pieces true (held s (tail c) ++ t)
  tail-rest l t =
      let x = held s c in
      let d = c.to - 5 - c.from in
      let n : length x ≡ c.to - c.from = held_long s c h in
      let f : first (x ++ t) ≡ d + first (drop d (x ++ t)) = first_goes_on d x t none (omega arith) in
      let k : d < length (x ++ t) = rw length-append (omega arith) in
      let o : 1 ≤ first (drop d (x ++ t)) = first_one (drop d (x ++ t)) (simp length-drop (omega arith)) in
      goes_on c.passing (x ++ t) d f k (omega arith)
      ∙ ap (pieces true) (drop-append-le d x t (omega arith) ∙ ap (λ u. u ++ t) (sym (held_from s c (c.to - 5) (omega arith) true)))

  pub holds_on : (last : Bool) → last ≡ false → Waits s c last (waiting c)
  unfolding waiting
  holds_on last l = go (ltb 468 (c.to - c.from)) refl
    where
      never : last ≡ true → ⊥
      never e = let z : ◌≡◌ {A = ℕ} 0 1 = cc in omega arith

      go : (q : Bool) → ltb 468 (c.to - c.from) ≡ q → Waits s c last (cond q (tail c) c)
      go true e =
          let m = ltb-true 468 (c.to - c.from) e in
          record {
            holds = record { low = omega arith; high = h.high; begun = λ f. omega arith };
            short = omega arith;
            same = refl;
            rest = tail-rest m;
            done = λ f. absurd (never f);
          }
      go false e = record {
        holds = h;
        short = ltb-false 468 (c.to - c.from) e;
        same = refl;
        rest = λ t. refl;
        done = λ f. absurd (never f);
      }

-- The answers of the code, which looks for the end of the message in the bytes that are read.

append_none : (l : List ℕ) → l ++ [] ≡ l
append_none [] = refl
append_none (x ∷ l) = ap (λ m. x ∷ m) (append_none l)

module _ (s : List ℕ) (c : Cut) (h : CutInside s c) (e : ℕ) (found : Ends (take c.to s) c.from e) (some : c.from ≢ c.to)
    (last : Bool) where
  place : e ≡ c.from + first (held s c)
  place = found.place ∙ ap (λ l. c.from + first l) (drop-take c.from c.to s)

  pub hands_inside : e < c.to → Steps s c last (handed c e)
  hands_inside l =
      let f : first (held s c) < length (held s c) = omega (arith, held_long s c h, place, h.low) in
      hands_over s c h e (omega (arith, h.low)) place last (λ t n. first_stays (held s c) t f)

  pub hands_last : last ≡ true → Steps s c last (handed c e)
  hands_last l =
      hands_over s c h e (omega (arith, h.low)) place last
      (λ t n. ap (λ u. first (held s c ++ u)) (n l) ∙ ap first (append_none (held s c)))

  pub holds_back : c.to ≤ e → last ≡ false → Waits s c last (waiting c)
  holds_back l n =
      let f : first (held s c) ≡ length (held s c) = omega (arith, held_long s c h, place, h.low, first_most (held s c)) in
      holds_on s c h f (omega (arith, h.low)) last n

-- The code's answer is the step.

or_true : (a b : Bool) → b ≡ true → (a || b) ≡ true
or_true false b e = e
or_true true b e = refl

pub step_empty : (s : List ℕ) (c : Cut) (last : Bool) → c.from ≡ c.to → More c ≡ step s c last
unfolding step
step_empty s c last e = rw (eq-eqb c.from c.to e)

module _ (s : List ℕ) (c : Cut) (h : CutInside s c) (e : ℕ) (found : Ends (take c.to s) c.from e) (some : c.from ≢ c.to)
    (last : Bool) where
  -- by the message's end, and whether that is known
  known : (b : Bool) → (ltb e c.to || last) ≡ b → cond b (handed c e) (More (waiting c)) ≡ step s c last
  unfolding step
  known b k =
      let p : e ≡ end_of s c = place s c h e found some last in
      ap (λ b. cond b (handed c e) (More (waiting c))) (sym k)
      ∙ (ap (λ e. cond (ltb e c.to || last) (handed c e) (More (waiting c))) p
      ∙ sym (ap (λ b. cond b (More c) (cond (ltb (end_of s c) c.to || last) (handed c (end_of s c)) (More (waiting c))))
      (ne_eqb c.from c.to some)))

  pub step_inside : e < c.to → handed c e ≡ step s c last
  step_inside l = known true (ap (λ b. b || last) (lt-ltb e c.to l))

  pub step-last : last ≡ true → handed c e ≡ step s c last
  step-last l = known true (or_true (ltb e c.to) last l)

  pub step_back : c.to ≤ e → last ≡ false → More (waiting c) ≡ step s c last
  step_back l n = known false (ap (λ b. b || last) (le-ltb e c.to l) ∙ n)
