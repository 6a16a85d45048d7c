-- A message: its head, and an edit's lines behind it.
-- Assumes nothing.
use Prim.Native.Nat.{ℕ}
use mathlib.Core.Path.{◌≡◌, refl, sym, ap, ◌∙◌}
use mathlib.Core.List.{List, ◌++◌, append_assoc}
use lib.ListN.{drop}
use Rattle.std.proofs.Common.{Option, Some, None}
use Rattle.meaning.specs.Ascii.{ascii}
use Rattle.meaning.specs.Ways as M
use Rattle.meaning.specs.Valid.{ValidOperation}
use Rattle.meaning.specs.Text.{id_text, counters_text}
use Rattle.meaning.specs.Message.{edit_text, message}
use Rattle.meaning.specs.Promises.{Says, says, says_nothing, lines_of}
use Rattle.decimal.specs.Take.{Layout, Took, Never, fixed, then}
use Rattle.decimal.proofs.Layouts.{no_first, no_second}
use Rattle.readers.specs.Reads.{ids, counters}
use Rattle.meaning.specs.declared.Counters.{Counters}
use Rattle.message.specs.Reads.{heads}
use Rattle.message.specs.Promises.{Answers, ValidLines, MeansLines, ReadsEdit, ReadsMessage}
use Rattle.message.specs.declared.Edit.{Edit}

-- The head.

abbrev fourth : Layout (List ℕ × Unit {0})
fourth = then counters (fixed (ascii "\n"))

abbrev third : Layout (Unit {0} × (List ℕ × Unit {0}))
third = then (fixed (ascii "\ndeps=")) fourth

abbrev second : Layout (ℕ × (Unit {0} × (List ℕ × Unit {0})))
second = then ids third

module _ (s : List ℕ) where
  pub no_op : Never (fixed (ascii "op=1\nid=")) s 0 → Never heads s 0
  no_op h = no_first (fixed (ascii "op=1\nid=")) second (λ x y t v m. tt) s 0 h

  module _ (n : ℕ) (op : Took (fixed (ascii "op=1\nid=")) s 0 tt n) where
    behind-op : Never second s n → Never heads s 0
    behind-op h = no_second (fixed (ascii "op=1\nid=")) second (λ x y t v m. tt) s 0 tt n op h

    pub no_id : Never ids s n → Never heads s 0
    no_id h = behind-op (no_first ids third (λ x y t v m. refl) s n h)

    module _ (i m : ℕ) (id : Took ids s n i m) where
      behind_id : Never third s m → Never heads s 0
      behind_id h = behind-op (no_second ids third (λ x y t v m. refl) s n i m id h)

      pub no_deps : Never (fixed (ascii "\ndeps=")) s m → Never heads s 0
      no_deps h = behind_id (no_first (fixed (ascii "\ndeps=")) fourth (λ x y t v m. tt) s m h)

      module _ (o : ℕ) (deps : Took (fixed (ascii "\ndeps=")) s m tt o) where
        behind_deps : Never fourth s o → Never heads s 0
        behind_deps h = behind_id (no_second (fixed (ascii "\ndeps=")) fourth (λ x y t v m. tt) s m tt o deps h)

        pub no_counters : Never counters s o → Never heads s 0
        no_counters h = behind_deps (no_first counters (fixed (ascii "\n")) (λ x y t v m. refl) s o h)

        module _ (d : List ℕ) (e : ℕ) (all : Took counters s o d e) where
          pub no_feed : Never (fixed (ascii "\n")) s e → Never heads s 0
          no_feed h = behind_deps (no_second counters (fixed (ascii "\n")) (λ x y t v m. refl) s o d e all h)

-- The whole.

abbrev head_of : M.Operation → Unit {0} × (ℕ × (Unit {0} × (List ℕ × Unit {0})))
head_of o = (tt, (o.id, (tt, (o.deps, tt))))

head_text : (o : M.Operation) → message o ≡ heads.text (head_of o) ++ edit_text o.top o.way
unfolding message
head_text o =
    let e = edit_text o.top o.way in
    ap (λ t. ascii "op=1\nid=" ++ t)
    (ap (λ t. id_text o.id ++ (ascii "\ndeps=" ++ t)) (sym (append_assoc (counters_text o.deps) (ascii "\n") e))
    ∙ sym (append_assoc (id_text o.id) (ascii "\ndeps=" ++ (counters_text o.deps ++ ascii "\n")) e))

head_valid : (o : M.Operation) → ValidOperation o → heads.Valid (head_of o)
head_valid o v = (tt, (v.id, (tt, (v.deps, tt))))

pub no_message : (s : List ℕ) → Never heads s 0 → ReadsMessage s None
no_message s h = record {
  says = says_nothing (λ o v q. h.not (head_of o) (edit_text o.top o.way) (head_valid o v) tt (q ∙ head_text o));
  answers = tt;
}

-- the edit's lines behind a head say something, and with the head they are a message; or they say nothing, and the whole is none
module _ (s : List ℕ) (i : ℕ) (deps : Counters) (n : ℕ) (head : Took heads s 0 (tt, (i, (tt, (deps.at, tt)))) n) where
  abbrev Edited : Option Edit → Says ValidLines lines_of (drop n s) → Type 0
  Edited = Answers MeansLines

  pub a_message : (e : Edit) → ReadsEdit (drop n s) (Some e)
      → ReadsMessage s (Some (record { act = record { id = i; deps = deps; deed = e.deed }; way = e.way }))
  a_message e d = go d.says d.answers
    where
      go : (w : Says ValidLines lines_of (drop n s)) → Edited (Some e) w
          → ReadsMessage s (Some (record { act = record { id = i; deps = deps; deed = e.deed }; way = e.way }))
      go (says l v q) p =
          let o : M.Operation = record { id = i; deps = deps.at; top = l.top; way = l.way } in
          record {
            says =
                says o (record { id = head.valid.1.0; deps = head.valid.1.1.1.0; edit = v })
                (head.text ∙ (ap (λ t. heads.text (head_of o) ++ t) q ∙ sym (head_text o)));
            answers = record { id = refl; deps = refl; edit = p };
          }
      go (says_nothing n) p = absurd p

  pub half_message : ReadsEdit (drop n s) None → ReadsMessage s None
  half_message d = go d.says d.answers
    where
      go : (w : Says ValidLines lines_of (drop n s)) → Edited None w → ReadsMessage s None
      go (says l v q) p = absurd p
      go (says_nothing none) p =
          record {
            says = says_nothing (λ o v q.
                none (record { top = o.top; way = o.way }) v.edit
                (sym (head.only (head_of o) (edit_text o.top o.way) (head_valid o v) tt (q ∙ head_text o)).1));
            answers = tt;
          }
