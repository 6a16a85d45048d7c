use native.Mathlib.Omega.{arith}
use Rattle.writers.proofs.Plains.{null_text, true_text, false_text, nonneg_text, neg_text, string_text}
use Rattle.writers.proofs.Texts.{sized, sized-of}
use mathlib.Core.Path.{refl}
use mathlib.Core.Logic.{inl, inr}
use Rattle.meaning.specs.Ascii.{ascii}
use Rattle.writers.proofs.plain.PlainText.size.Goals as goal

pub returns-in-Null : goal.returns-in-Null
returns-in-Null c =
    let k = c.args.self.now.kind in
    let w = c.args.self.now.words in
    elim c.in-Null.is [
      | inl e ↦ sized (ascii "n") (null_text k w c.kind_of.ensures.0 e) refl (omega arith)
      | inr (inl e) ↦ sized (ascii "t") (true_text k w c.kind_of.ensures.0 e) refl (omega arith)
      | inr (inr e) ↦ sized (ascii "f") (false_text k w c.kind_of.ensures.0 e) refl (omega arith)
    ]

pub returns-in-NonNeg : goal.returns-in-NonNeg
returns-in-NonNeg c = sized-of (nonneg_text c.args.self.now.kind c.args.self.now.words c.kind_of.ensures.0 c.in-NonNeg.is) (omega arith) c.size.ensures

pub returns-in-Neg : goal.returns-in-Neg
returns-in-Neg c = sized-of (neg_text c.args.self.now.kind c.args.self.now.words c.kind_of.ensures.0 c.in-Neg.is) (omega arith) c.size-in-Neg.ensures

pub returns-in-String : goal.returns-in-String
returns-in-String c = sized-of (string_text c.args.self.now.kind c.args.self.now.words c.kind_of.ensures.0 c.in-String.is) (omega arith) c.size-in-String.ensures
