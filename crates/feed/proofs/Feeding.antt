-- Feeding goes on from where it has come to; and what each kind of step adds to it.
-- Assumes nothing.
use Prim.Native.Nat.{ℕ, ◌-◌}
use mathlib.Core.Path.{◌≡◌, refl, sym, ap, subst, ◌∙◌}
use mathlib.Core.Bool.{Bool}
use mathlib.Core.List.{List, [], ◌∷◌, ◌++◌, append_assoc}
use lib.ListN.{take, drop}
use Rattle.meaning.specs.Receive.{Terminal}
use Rattle.stream.specs.Pieces.{Piece, whole, too_long, CutInside, Hands, Waits}
use Rattle.stream.specs.Steps.{step, Cuts, rests, hands}
use Rattle.stream.specs.Steps as Steps
use Rattle.stream.specs.declared.Cut.{Cut}
use Rattle.stream.specs.declared.Step.TheVariants.{Message, TooLong, More}
use Rattle.terminal.specs.Promises.{Receiving}
use Rattle.keeping.specs.declared.Memory.{Memory}
use Rattle.meaning.specs.Answers.{Receipt}
use Rattle.feed.specs.Feeding.{Takes, none, receives, passes, Feeds, AllFed}

pub takes_on : {X Y Z : Terminal} {ps qs : List Piece} → Takes X ps Y → Takes Y qs Z → Takes X (ps ++ qs) Z
takes_on none r = r
takes_on (receives a h r) q = receives a h (takes_on r q)
takes_on (passes r) q = passes (takes_on r q)

pub feeds_none : (M : Memory) (b : List ℕ) (c : Cut) (last : Bool) → CutInside b c → Feeds M b c last M c
feeds_none M b c last h = record {
  holds = h;
  same = refl;
  handed = [];
  rest = λ more e. refl;
  takes = λ X K. record { exit = X; takes = none; keeps = K };
}

pub feeds_on : {M N P : Memory} {b : List ℕ} {c d e : Cut} {last : Bool} → Feeds M b c last N d → Feeds N b d last P e → Feeds M b c last P e
feeds_on f g = record {
  holds = g.holds;
  same = g.same ∙ f.same;
  handed = f.handed ++ g.handed;
  rest = λ more e. f.rest more e ∙ (ap (λ l. f.handed ++ l) (g.rest more e) ∙ sym (append_assoc f.handed g.handed _));
  takes = λ X K.
      let m = f.takes X K in
      let n = g.takes m.exit m.keeps in
      record { exit = n.exit; takes = takes_on m.takes n.takes; keeps = n.keeps };
}

-- the bytes from one cut to the next
abbrev pub between : List ℕ → Cut → Cut → List ℕ
between b c next = take (next.from - c.from) (drop c.from b)

-- What has been fed so far: the steps from there on go on from the start.
pub record Going (M : Memory) (b : List ℕ) (c : Cut) (last : Bool) (N : Memory) (d : Cut) : Type 0 where
  pub feeds : Feeds M b c last N d
  pub on : (ps : List Piece) (end : Cut) → Cuts b last d ps end → Cuts b last c (feeds.handed ++ ps) end

pub going_none : (M : Memory) (b : List ℕ) (c : Cut) (last : Bool) → CutInside b c → Going M b c last M c
unfolding feeds_none
going_none M b c last h = record { feeds = feeds_none M b c last h; on = λ ps end k. k }

module _ {M N : Memory} {b : List ℕ} {c d : Cut} {last : Bool} (g : Going M b c last N d) where
  -- one step more
  pub going_on : {P : Memory} {next : Cut} (f : Feeds N b d last P next)
      → ((ps : List Piece) (end : Cut) → Cuts b last next ps end → Cuts b last d (f.handed ++ ps) end) → Going M b c last P next
  unfolding feeds_on
  going_on f goes = record {
    feeds = feeds_on g.feeds f;
    on = λ ps end k.
        subst
        (λ l. Cuts b last c l end)
        (sym (append_assoc g.feeds.handed f.handed ps))
        (g.on (f.handed ++ ps) end (goes ps end k));
  }

  -- a whole message is received
  pub going_message : {P : Memory} {next : Cut} (a : Receipt) → Hands b d last (whole (between b d next)) next
      → step b d last ≡ Message next → Receiving N (between b d next) a P → Going M b c last P next
  going_message {next = next} a h i k =
      going_on (record {
        holds = h.holds;
        same = h.same;
        handed = whole (between b d next) ∷ [];
        rest = h.rest;
        takes = λ X K.
            let p = k.receives X K in
            record { exit = p.exit; takes = receives a p.receives none; keeps = p.keeps };
      }) (λ ps end k. hands i k)

  -- one that is too long is passed over
  pub going_long : {next : Cut} → Hands b d last too_long next → step b d last ≡ TooLong next → Going M b c last N next
  going_long h i =
      going_on (record {
        holds = h.holds;
        same = h.same;
        handed = too_long ∷ [];
        rest = h.rest;
        takes = λ X K. record { exit = X; takes = passes none; keeps = K };
      }) (λ ps end k. Steps.passes i k)

  -- more bytes are needed
  pub going_ends : {next : Cut} → Waits b d last next → step b d last ≡ More next → AllFed M b c last next N
  unfolding feeds_on
  going_ends {next} w i =
      let f : Feeds N b d last N next = record {
        holds = w.holds;
        same = w.same;
        handed = [];
        rest = λ more e. w.rest more;
        takes = λ X K. record { exit = X; takes = none; keeps = K };
      } in
      record {
        feeds = feeds_on g.feeds f;
        rests = record { short = w.short; done = w.done };
        cuts = g.on [] next (rests i);
      }
