-- Laws of layouts: texts one behind another, a fixed text, and two layouts with the same texts. A reader of a text that is made of
-- parts cites
-- these: what it takes, and what it refuses.
-- Assumes nothing.
use Prim.Native.Nat.{ℕ, ◌≤◌}
use mathlib.Core.Path.{◌≡◌, refl, sym, ap, ◌∙◌, subst}
use mathlib.Core.List.{List, ◌++◌, append_assoc}
use lib.ListN.{length, drop}
use Rattle.std.specs.Prelude.{Option, None}
use Rattle.decimal.specs.Take.{Layout, Took, Never, Reads, fixed, then}
use Rattle.decimal.proofs.Digits.{cancel}

-- A fixed text, whatever follows.

pub stands : (p s : List ℕ) (a n : ℕ) → drop a s ≡ p ++ drop n s → (a ≤ length s → n ≤ length s) → Took (fixed p) s a tt n
stands p s a n e w =
    record { valid = tt; text = e; rest = tt; within = w; only = λ y t ok st f. (refl, cancel p t (drop n s) (sym f ∙ e)) }

pub lacks : (p s : List ℕ) (a : ℕ) → ((t : List ℕ) → drop a s ≡ p ++ t → ⊥) → Never (fixed p) s a
lacks p s a h = record { not = λ y t ok st e. h t e }

-- What a reader that gives up answers.
pub refused : {X : Type 0} {L : Layout X} {s : List ℕ} {a : ℕ} (r : Option (X × ℕ)) → r ≡ None → Never L s a → Reads L s a r
refused {X} {L} {s} {a} r e k = subst (Reads L s a) (sym e) k

-- Two texts, one behind the other.

module _ {X Y : Type 0} where
  -- a text of the second may follow one of the first
  abbrev pub Follows : Layout X → Layout Y → Type 0
  Follows A B = (x : X) (y : Y) (t : List ℕ) → B.Valid y → B.More y t → A.More x (B.text y ++ t)

  module _ (A : Layout X) (B : Layout Y) (follows : Follows A B) (s : List ℕ) (a : ℕ) where
    pub no_first : Never A s a → Never (then A B) s a
    no_first h = record {
      not = λ p t ok st e.
          h.not p.0 (B.text p.1 ++ t) ok.0 (follows p.0 p.1 t ok.1 st)
          (e ∙ append_assoc (A.text p.0) (B.text p.1) t);
    }

    module _ (x : X) (n : ℕ) (k : Took A s a x n) where
      past : (p : X × Y) (t : List ℕ) → (then A B).Valid p → B.More p.1 t → drop a s ≡ (then A B).text p ++ t
          → (p.0 ≡ x) × (B.text p.1 ++ t ≡ drop n s)
      past p t ok st e =
          k.only p.0 (B.text p.1 ++ t) ok.0 (follows p.0 p.1 t ok.1 st)
          (e ∙ append_assoc (A.text p.0) (B.text p.1) t)

      pub no_second : Never B s n → Never (then A B) s a
      no_second h = record { not = λ p t ok st e. h.not p.1 t ok.1 st (sym (past p t ok st e).1) }

      pub both : (y : Y) (m : ℕ) → Took B s n y m → Took (then A B) s a (x, y) m
      both y m l =
          record {
            valid = (k.valid, l.valid);
            text = k.text ∙ (ap (λ t. A.text x ++ t) l.text ∙ sym (append_assoc (A.text x) (B.text y) (drop m s)));
            rest = l.rest;
            within = λ h. l.within (k.within h);
            only = λ p t ok st e.
                let q = past p t ok st e in
                let r = l.only p.1 t ok.1 st (sym q.1) in
                (λ i. (q.0 i, r.0 i), r.1);
          }

-- The same texts, of other things.

pub record Alike {X Y : Type 0} (L : Layout X) (M : Layout Y) : Type 0 where
  pub from : X → Y
  pub to : Y → X
  pub back : (x : X) → L.Valid x → to (from x) ≡ x
  pub valid : (x : X) → L.Valid x → M.Valid (from x)
  pub text : (x : X) → L.Valid x → L.text x ≡ M.text (from x)
  pub more : (x : X) (t : List ℕ) → L.More x t → M.More (from x) t
  pub made : (y : Y) → M.Valid y → L.Valid (to y)
  pub same : (y : Y) → M.Valid y → L.text (to y) ≡ M.text y
  pub less : (y : Y) (t : List ℕ) → M.More y t → L.More (to y) t

module _ {X Y : Type 0} (L : Layout X) (M : Layout Y) (i : Alike L M) (s : List ℕ) (a : ℕ) where
  there : (x : X) (t : List ℕ) → L.Valid x → drop a s ≡ L.text x ++ t → drop a s ≡ M.text (i.from x) ++ t
  there x t ok e = e ∙ ap (λ l. l ++ t) (i.text x ok)

  pub none_alike : Never M s a → Never L s a
  none_alike h = record { not = λ x t ok st e. h.not (i.from x) t (i.valid x ok) (i.more x t st) (there x t ok e) }

  pub took_alike : (y : Y) (n : ℕ) → Took M s a y n → Took L s a (i.to y) n
  took_alike y n k =
      record {
        valid = i.made y k.valid;
        text = k.text ∙ ap (λ l. l ++ drop n s) (sym (i.same y k.valid));
        rest = i.less y (drop n s) k.rest;
        within = k.within;
        only = λ x t ok st e.
            let q = k.only (i.from x) t (i.valid x ok) (i.more x t st) (there x t ok e) in
            (sym (i.back x ok) ∙ ap i.to q.0, q.1);
      }

-- A kind of things whose texts begin with p, among others whose texts don't.

-- whether y is of the kind
pub data Kind {X Y : Type 0} (p : List ℕ) (L : Layout X) (M : Layout Y) (make : X → Y) (y : Y) : Type 0 where
  this : (x : X) → y ≡ make x → (M.Valid y → L.Valid x) → ((t : List ℕ) → M.More y t → L.More x t) → Kind p L M make y
  other : ((t u : List ℕ) → M.text y ++ t ≡ p ++ u → ⊥) → Kind p L M make y

pub record Case {X Y : Type 0} (p : List ℕ) (L : Layout X) (M : Layout Y) : Type 0 where
  pub make : X → Y
  pub text : (x : X) → M.text (make x) ≡ p ++ L.text x
  pub valid : (x : X) → L.Valid x → M.Valid (make x)
  pub more : (x : X) (t : List ℕ) → L.More x t → M.More (make x) t
  pub kind : (y : Y) → Kind p L M make y

module _ {X Y : Type 0} (p : List ℕ) (L : Layout X) (M : Layout Y) (c : Case p L M) (s : List ℕ) (a b : ℕ)
    (h : Took (fixed p) s a tt b) where
  behind : (y : Y) (x : X) (t : List ℕ) → y ≡ c.make x → drop a s ≡ M.text y ++ t → drop b s ≡ L.text x ++ t
  behind y x t q e =
      cancel p (drop b s) (L.text x ++ t)
      (sym h.text ∙ (e ∙ (ap (λ l. l ++ t) (ap M.text q ∙ c.text x) ∙ append_assoc p (L.text x) t)))

  pub case_took : (x : X) (n : ℕ) → Took L s b x n → Took M s a (c.make x) n
  case_took x n k =
      record {
        valid = c.valid x k.valid;
        text =
            h.text
            ∙ (ap (λ t. p ++ t) k.text ∙ (sym (append_assoc p (L.text x) (drop n s)) ∙ ap (λ l. l ++ drop n s) (sym (c.text x))));
        rest = c.more x (drop n s) k.rest;
        within = λ i. k.within (h.within i);
        only = λ y t ok m e. go y t ok m e (c.kind y);
      }
    where
      go : (y : Y) (t : List ℕ) → M.Valid y → M.More y t → drop a s ≡ M.text y ++ t → Kind p L M c.make y → (y ≡ c.make x)
          × (t ≡ drop n s)
      go y t ok m e (this z q v w) = let r = k.only z t (v ok) (w t m) (behind y z t q e) in (q ∙ ap c.make r.0, r.1)
      go y t ok m e (other f) = absurd (f t (drop b s) (sym e ∙ h.text))

  pub case_none : Never L s b → Never M s a
  case_none k = record { not = λ y t ok m e. go y t ok m e (c.kind y) }
    where
      go : (y : Y) (t : List ℕ) → M.Valid y → M.More y t → drop a s ≡ M.text y ++ t → Kind p L M c.make y → ⊥
      go y t ok m e (this z q v w) = k.not z t (v ok) (w t m) (behind y z t q e)
      go y t ok m e (other f) = f t (drop b s) (sym e ∙ h.text)
