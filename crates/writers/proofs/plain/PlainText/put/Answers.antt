use mathlib.Core.Path.{sym}
use Rattle.writers.proofs.Over.{wrote_as}
use Rattle.writers.proofs.Plains.{null_text, true_text, false_text, nonneg_text, neg_text, string_text, string_bound}
use Rattle.writers.proofs.Texts.{fits_as}
use borrow.Author.Rules.{rules}
use Rattle.writers.proofs.plain.PlainText.put.Goals as goal

pub put-requires : goal.put-requires
put-requires c =
    let f = fits_as (null_text c.args.self.now.kind c.args.self.now.words c.kind_of.ensures.0 c.in-Null.is) c.requires.1 in search rules

pub put-requires-in-True : goal.put-requires-in-True
put-requires-in-True c =
    let f = fits_as (true_text c.args.self.now.kind c.args.self.now.words c.kind_of.ensures.0 c.in-True.is) c.requires.1 in search rules

pub put-requires-in-False : goal.put-requires-in-False
put-requires-in-False c =
    let f = fits_as (false_text c.args.self.now.kind c.args.self.now.words c.kind_of.ensures.0 c.in-False.is) c.requires.1 in search rules

pub put-requires-in-NonNeg : goal.put-requires-in-NonNeg
put-requires-in-NonNeg c =
    let f = fits_as (nonneg_text c.args.self.now.kind c.args.self.now.words c.kind_of.ensures.0 c.in-NonNeg.is) c.requires.1 in search rules

pub put-requires-in-Neg : goal.put-requires-in-Neg
put-requires-in-Neg c =
    let f = fits_as (neg_text c.args.self.now.kind c.args.self.now.words c.kind_of.ensures.0 c.in-Neg.is) c.requires.1 in search rules

pub put-requires-in-String : goal.put-requires-in-String
put-requires-in-String c =
    let b = string_bound c.in-String.is c.kind_of.ensures.1 in
    let f = fits_as (string_text c.args.self.now.kind c.args.self.now.words c.kind_of.ensures.0 c.in-String.is) c.requires.1 in search rules

pub returns-in-Null : goal.returns-in-Null
returns-in-Null c = wrote_as (sym (null_text c.args.self.now.kind c.args.self.now.words c.kind_of.ensures.0 c.in-Null.is)) c.put.ensures

pub returns-in-True : goal.returns-in-True
returns-in-True c = wrote_as (sym (true_text c.args.self.now.kind c.args.self.now.words c.kind_of.ensures.0 c.in-True.is)) c.put-in-True.ensures

pub returns-in-False : goal.returns-in-False
returns-in-False c = wrote_as (sym (false_text c.args.self.now.kind c.args.self.now.words c.kind_of.ensures.0 c.in-False.is)) c.put-in-False.ensures

pub returns-in-NonNeg : goal.returns-in-NonNeg
returns-in-NonNeg c = wrote_as (sym (nonneg_text c.args.self.now.kind c.args.self.now.words c.kind_of.ensures.0 c.in-NonNeg.is)) c.put-in-NonNeg.ensures

pub returns-in-Neg : goal.returns-in-Neg
returns-in-Neg c = wrote_as (sym (neg_text c.args.self.now.kind c.args.self.now.words c.kind_of.ensures.0 c.in-Neg.is)) c.put-in-Neg.ensures

pub returns-in-String : goal.returns-in-String
returns-in-String c = wrote_as (sym (string_text c.args.self.now.kind c.args.self.now.words c.kind_of.ensures.0 c.in-String.is)) c.put-in-String.ensures
