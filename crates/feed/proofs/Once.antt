-- Any two outcomes of feeding the same bytes are equal: which pieces are handed over is settled by the bytes, taking them is a function of
-- the terminal, and a terminal is kept by one memory only.
-- Assumes nothing.
use Prim.Native.Nat.{ℕ, ◌-◌}
use native.Mathlib.Omega.{arith}
use mathlib.Core.Path.{◌≡◌, refl, sym, ap, subst, ◌∙◌}
use mathlib.Core.Bool.{Bool}
use mathlib.Core.List.{List, [], ◌∷◌}
use lib.ListN.{take, drop}
use Rattle.meaning.specs.Receive.{Terminal}
use Rattle.theorems.specs.Determined.{receives_once}
use Rattle.stream.specs.Pieces.{Piece, whole, too_long}
use Rattle.stream.specs.Steps.{Cuts, rests, hands}
use Rattle.stream.specs.Steps as Steps
use Rattle.stream.specs.declared.Cut.{Cut}
use Rattle.stream.specs.declared.Step.TheVariants.{Message, TooLong, More}
use Rattle.keeping.specs.Keeping.{Keeps}
use Rattle.keeping.specs.Once.{keeps_once}
use Rattle.keeping.specs.declared.Memory.{Memory}
use Rattle.feed.specs.Feeding.{Takes, none, receives, passes, Took, AllFed}

-- Taking is a function of the terminal and the pieces.
takes_once : {X Y Z : Terminal} (ps : List Piece) → Takes X ps Y → Takes X ps Z → Y ≡ Z
takes_once [] none none = refl
takes_once {X} {Y} {Z} (whole m ∷ ps) (receives {Y = M} a h p) (receives {Y = N} b k q) =
    takes_once ps (subst (λ K. Takes K ps Y) (receives_once X m a b M N h k).1 p) q
takes_once (too_long ∷ ps) (passes p) (passes q) = takes_once ps p q

-- So two memories that have taken the same pieces keep the same terminal.
pub took_once : {X : Terminal} {ps : List Piece} {M N : Memory} (p : Took X ps M) (q : Took X ps N) → p.exit ≡ q.exit
took_once {ps = ps} p q = takes_once ps p.takes q.takes

more_once : {c d : Cut} → More c ≡ More d → c ≡ d
more_once e = cc

message_once : {c d : Cut} → Message c ≡ Message d → c ≡ d
message_once e = cc

long_once : {c d : Cut} → TooLong c ≡ TooLong d → c ≡ d
long_once e = cc

-- The steps from a cut, and so the pieces that are handed over and the cut that is left, are settled by the bytes.
cuts_once : {b : List ℕ} {last : Bool} {c d : Cut} {ps : List Piece} → Cuts b last c ps d → (e : Cut) (qs : List Piece)
    → Cuts b last c qs e → (ps ≡ qs) × (d ≡ e)
cuts_once (rests i) e _ (rests j) = (refl, more_once (sym i ∙ j))
cuts_once (rests i) e _ (hands j q) = absurd (let z : ◌≡◌ {A = ℕ} 0 1 = cc in omega arith)
cuts_once (rests i) e _ (Steps.passes j q) = absurd (let z : ◌≡◌ {A = ℕ} 0 1 = cc in omega arith)
cuts_once (hands i p) e _ (rests j) = absurd (let z : ◌≡◌ {A = ℕ} 0 1 = cc in omega arith)
cuts_once {b} {last} {c} (hands {next = m} {ps = ps} i p) e _ (hands {next = n} {ps = qs} j q) =
    let x : n ≡ m = message_once (sym j ∙ i) in
    let k = cuts_once p e qs (subst (λ y. Cuts b last y qs e) x q) in (
      ap (λ l. whole (take (m.from - c.from) (drop c.from b)) ∷ l) k.0
          ∙ ap (λ y. whole (take (y.from - c.from) (drop c.from b)) ∷ qs) (sym x),
      k.1,
    )
cuts_once (hands i p) e _ (Steps.passes j q) = absurd (let z : ◌≡◌ {A = ℕ} 0 1 = cc in omega arith)
cuts_once (Steps.passes i p) e _ (rests j) = absurd (let z : ◌≡◌ {A = ℕ} 0 1 = cc in omega arith)
cuts_once (Steps.passes i p) e _ (hands j q) = absurd (let z : ◌≡◌ {A = ℕ} 0 1 = cc in omega arith)
cuts_once {b} {last} (Steps.passes i p) e _ (Steps.passes {ps = qs} j q) =
    let k = cuts_once p e qs (subst (λ y. Cuts b last y qs e) (long_once (sym j ∙ i)) q) in
    (ap (λ l. too_long ∷ l) k.0, k.1)

-- Any two outcomes of feeding the same bytes to memory that keeps a terminal are equal: the cut, and every word.
pub take_in_once : {M N P : Memory} {b : List ℕ} {c d e : Cut} {last : Bool} {X : Terminal} → AllFed M b c last d N → AllFed M b c last e P
    → Keeps M X → (d ≡ e) × (N ≡ P)
take_in_once {N = N} {X = X} f g K =
    let m = f.feeds.takes X K in
    let n = g.feeds.takes X K in
    let e = cuts_once f.cuts _ _ g.cuts in
    let x : m.exit ≡ n.exit = takes_once g.feeds.handed (subst (λ ps. Takes X ps m.exit) e.0 m.takes) n.takes in
    (e.1, keeps_once (subst (Keeps N) x m.keeps) n.keeps)
