-- `is_among` asks the library whether some boundary equals d.
use mathlib.Core.Path.{◌≡◌, refl, sym, ◌∙◌}
use mathlib.Core.Bool.{Bool}
use mathlib.Core.List.{List, [], ◌∷◌}
use Prim.Native.Nat.{ℕ}
use lib.Dec.{eqb}
use borrow.Author.Tests.{ne_eqb}
use Rattle.std.specs.List.{list_any}
use Rattle.rules.proofs.Floor.{by_eq}
use Rattle.calls.specs.Reasons.{among}
use Rattle.calls.proofs.reason.is_among.Goals as goal

eqb_turned : (y d : ℕ) → eqb y d ≡ eqb d y
eqb_turned y d = by_eq y d (λ e. rw e) (λ ne. rw (ne_eqb y d ne, ne_eqb d y (λ e. ne (sym e))))

-- the library's test of each boundary
any_among : (f : ℕ → Bool) (d : ℕ) (es : List ℕ) → ((y : ℕ) → f y ≡ eqb d y) → list_any f es ≡ among d es
unfolding among
any_among f d [] same = refl
any_among f d (e ∷ es) same = rw (same e, any_among f d es same)

pub returns : goal.returns
returns c = c.contains.ensures.value ∙ any_among _ c.args.d c.args.ends.now (λ y. eqb_turned y c.args.d)
