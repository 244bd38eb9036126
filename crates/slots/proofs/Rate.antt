-- A cost divided by a period and rounded up, by two products: the rate times the period reaches the cost, one less does not.
-- Both are facts about the quotient at the period's scale.
use mathlib.Core.Path.{◌≡◌, refl, ap, sym}
use mathlib.Core.Bool.{true, ◌&&◌, and_assoc, and-eq-true_iff}
use Prim.Native.Nat.{ℕ, ◌+◌, ◌-◌, ◌*◌, ◌≤◌, ◌<◌}
use native.Mathlib.Nat.{sub-add_cancel, mul-le-mul_right}
use native.Mathlib.Omega.{arith}
use borrow.Author.Tests.{lt-ltb, le-ltb, ltb-true, le-leb, leb-true, eq-eqb, eqb-true}
use lib.Dec.{leb, ltb, eqb}
use Rattle.rules.specs.declared.Task.{Task}
use Rattle.rules.specs.Station.{rate_of, in_use}
use Rattle.rules.specs.Sound.{every, lawful_test}
use Rattle.std.specs.Int.{div_ceil}
use Rattle.std.proofs.lemmas.Grind.{div_ceil_times}
use Rattle.rules.proofs.Floor.{at_scale, floor, unique, by_lt}
use Rattle.slots.proofs.Tests.{same_bool}

one_less : (r p : ℕ) → 0 < r → (r - 1) * p + p ≡ r * p
one_less r p some = omega (arith, ap (λ t. t * p) (sub-add_cancel some))

rate-to : (period cost rate : ℕ) → 1 ≤ period → 0 < rate → (rate - 1) * period < cost → cost ≤ rate * period → rate ≡ rate_of period cost
unfolding rate_of
rate-to p c r some more below reached =
    sym (unique r (c + (p - 1) - r * p) (omega (arith, one_less r p more)) (omega (arith, one_less r p more))).0

module _ (period cost : ℕ) (some : 1 ≤ period) (costs : 1 ≤ cost) where
  rate-from : (rate : ℕ) → rate ≡ rate_of period cost → (0 < rate) × ((rate - 1) * period < cost) × (cost ≤ rate * period)
  unfolding rate_of
  rate-from r is =
      let n = cost + (period - 1) in
      let at : (r * period ≤ n) × (n < r * period + period) = rw is (floor n some) in
      let more : 0 < r = by_lt 0 r (λ l. l) (λ g. let none : r ≡ 0 = omega arith in omega (arith, ap (λ t. t * period) none)) in
      omega (arith, one_less r period more)

  rate-small : (rate : ℕ) → rate ≡ rate_of period cost → cost ≤ 1000 * period → rate ≤ 1000
  rate-small r is most =
      let at = rate-from r is in
      let less : r - 1 ≤ 999 = at_scale period (omega arith) in
      omega arith

-- cost and rate are lawful exactly if the rate is 1 to 1,000, reaches the cost in a period, and one less does not
pub lawful-rate : (period cost rate : ℕ) → 1 ≤ period
    → (leb 1 cost && (leb cost (1000 * period) && (eqb rate (rate_of period cost) && true))) ≡ (leb 1 rate && (leb rate 1000 && (leb cost (rate * period) && ltb (rate * period - period) cost)))
lawful-rate p c r some = same_bool _ _ to from
  where
    to : (leb 1 c && (leb c (1000 * p) && (eqb r (rate_of p c) && true))) ≡ true → (leb 1 r && (leb r 1000 && (leb c (r * p) && ltb (r * p - p) c))) ≡ true
    to h =
        let h1 = (and-eq-true_iff (leb 1 c) _).0 h in
        let h2 = (and-eq-true_iff (leb c (1000 * p)) _).0 h1.1 in
        let is = eqb-true r (rate_of p c) ((and-eq-true_iff (eqb r (rate_of p c)) true).0 h2.1).0 in
        let costs = leb-true 1 c h1.0 in
        let most = leb-true c (1000 * p) h2.0 in
        let at = rate-from p c some costs r is in
        let small = rate-small p c some costs r is most in
        let less = one_less r p at.0 in
        (and-eq-true_iff _ _).1 (le-leb 1 r at.0, (and-eq-true_iff _ _).1 (le-leb r 1000 small, (and-eq-true_iff _ _).1 (le-leb c (r * p) at.2, lt-ltb (r * p - p) c (omega arith))))

    from : (leb 1 r && (leb r 1000 && (leb c (r * p) && ltb (r * p - p) c))) ≡ true → (leb 1 c && (leb c (1000 * p) && (eqb r (rate_of p c) && true))) ≡ true
    from h =
        let h1 = (and-eq-true_iff (leb 1 r) _).0 h in
        let h2 = (and-eq-true_iff (leb r 1000) _).0 h1.1 in
        let h3 = (and-eq-true_iff (leb c (r * p)) _).0 h2.1 in
        let more = leb-true 1 r h1.0 in
        let small = leb-true r 1000 h2.0 in
        let reached = leb-true c (r * p) h3.0 in
        let below = ltb-true (r * p - p) c h3.1 in
        let less = one_less r p more in
        let most = mul-le-mul_right p small in
        (and-eq-true_iff _ _).1 (le-leb 1 c (omega arith), (and-eq-true_iff _ _).1 (le-leb c (1000 * p) (omega arith), (and-eq-true_iff _ _).1 (eq-eqb r (rate_of p c) (rate-to p c r some more (omega arith) reached), refl)))

-- a slot is in use with a lawful task exactly where the tests that the code makes hold, grouped as it makes them
pub lawful_is : (k : Task) → (in_use k && lawful_test k) ≡ ((((leb 1 k.period && leb k.period 60000) && leb 1 k.rate) && leb k.rate 1000) && (leb k.cost (k.rate * k.period) && ltb (k.rate * k.period - k.period) k.cost))
unfolding lawful_test in_use every
lawful_is k =
    by_lt 0 k.period
    (λ used. rw (lt-ltb 0 k.period used, lawful-rate k.period k.cost k.rate used) (simp and_assoc))
    (λ none. rw (le-ltb 0 k.period none))

-- the library's quotient, rounded up, is the rate
module _ (period cost : ℕ) (some : 1 ≤ period) where
  abbrev up : ℕ
  up = div_ceil cost period

  pub up-rate : up ≡ rate_of period cost
  unfolding rate_of
  up-rate =
      let at = div_ceil_times cost period some in
      by_lt 0 up
      (λ more. by_lt 0 cost
      (λ costs. rate-to period cost up some more (omega (arith, one_less up period more)) (omega arith))
      (λ free. absurd (omega (arith, one_less up period more))))
      (λ none. let zero : up ≡ 0 = omega arith in
      let free : cost ≡ 0 = omega (arith, ap (λ t. t * period) zero) in
      rw (zero, free) (sym (unique {n = 0 + (period - 1)} {D = period} 0 (period - 1) (omega arith) (omega arith)).0))

  pub up-small : cost ≤ 1000 * period → up ≤ 1000
  up-small most =
      let at = div_ceil_times cost period some in
      by_lt 0 up
      (λ more. let less : up - 1 ≤ 999 = at_scale period (omega (arith, one_less up period more)) in omega arith)
      (λ none. omega arith)
