-- Who holds core q in grain x, of the slots laid from e on: the first one, if place q T + x of the line lies in its stretch, by the
-- one of its two pieces that is on core q; and if its stretch ends before that place, neither piece does, and the others decide.
use mathlib.Core.Path.{◌≡◌, refl, sym, ap, ◌∙◌}
use mathlib.Core.Bool.{true, false}
use mathlib.Core.List.{List, ◌∷◌}
use Prim.Native.Nat.{ℕ, suc, ◌+◌, ◌-◌, ◌*◌, ◌/◌, ◌%◌, ◌≤◌, ◌<◌, min}
use native.Mathlib.Nat.{suc-mul}
use native.Mathlib.Numerals.{add-one}
use native.Mathlib.Omega.{arith}
use borrow.Author.Tests.{lt-ltb, le-ltb, le-leb, lt-leb, eq-eqb, ne_eqb}
use lib.ListN.{length, drop, get_or, drop_of_length-le}
use lib.Seq.{drop-cons}
use Rattle.rules.specs.Wrap.{Segment, on_core, on_next, wrap, during, holds}
use Rattle.rules.specs.Advance.{Holding, held, held_in}
use Rattle.rules.proofs.Floor.{at_scale, parts, by_lt, by_eq}

module _ (q x : ℕ) where
  module _ (g : Segment) where
    holds_off : (g.core ≡ q → ⊥) → holds q x g ≡ false
    unfolding holds
    holds_off other = rw (ne_eqb g.core q other)

    holds_late : g.core ≡ q → g.after ≤ x → holds q x g ≡ false
    unfolding holds during
    holds_late same late =
        by_lt x g.first
        (λ l. rw (eq-eqb g.core q same, lt-leb g.first x l))
        (λ h. rw (eq-eqb g.core q same, le-leb g.first x h, le-ltb x g.after late))

    holds_in : g.core ≡ q → g.first ≤ x → x < g.after → holds q x g ≡ true
    unfolding holds during
    holds_in same from to = rw (eq-eqb g.core q same, le-leb g.first x from, lt-ltb x g.after to)

-- Nobody before `slot`, where the line has come to e, holds core q in grain x: the slots from there on decide.
pub record Left (q x T : ℕ) (row : List ℕ) (slot e : ℕ) : Type 0 where
  pub is : (base : ℕ) (none : Holding) → held_in base q x none (wrap T slot e (drop slot row)) ≡ held_in base q x none (wrap T 0 0 row)

pub left-all : (q x T : ℕ) (row : List ℕ) → Left q x T row 0 0
left-all q x T row = record { is = λ base none. refl }

module _ {q x T slot e : ℕ} {row : List ℕ} (left : Left q x T row slot e) where
  pub left_none : length row ≤ slot → (base : ℕ) (none : Holding) → none ≡ held_in base q x none (wrap T 0 0 row)
  unfolding wrap held_in
  left_none end base none = rw (drop_of_length-le row end) at (left.is base none)

  -- one slot, whose stretch of the line is [e, e + s), before the others
  module _ (some : 0 < T) {s : ℕ} (more : slot < length row) (share : s ≡ get_or row slot 0) where
    first : (base : ℕ) (none : Holding) → held_in base q x none (wrap T slot e (s ∷ drop (suc slot) row)) ≡ held_in base q x none (wrap T 0 0 row)
    first base none = rw share (rw (drop-cons row slot 0 more) at (left.is base none))

    pub left_later : e + s ≤ q * T + x → Left q x T row (slot + 1) (e + s)
    unfolding wrap held_in on_core on_next
    left_later past =
        let here : holds q x (on_core T slot e s) ≡ false =
        by_eq (e / T) q
        (λ same. holds_late q x (on_core T slot e s) same (omega (arith, parts e some, ap (λ c. c * T) same)))
        (λ other. holds_off q x (on_core T slot e s) other) in
        let next : holds q x (on_next T slot e s) ≡ false =
        by_eq (suc (e / T)) q
        (λ same. holds_late q x (on_next T slot e s) same (omega (arith, parts e some, ap (λ c. c * T) same, suc-mul (e / T) T)))
        (λ other. holds_off q x (on_next T slot e s) other) in
        record { is = λ base none. rw add-one (rw (here, next) at (first base none)) }

    pub left_here : x < T → s ≤ T → e ≤ q * T + x → q * T + x < e + s → (base : ℕ) (none : Holding) → held slot (base + min (e + s - q * T) T) ≡ held_in base q x none (wrap T 0 0 row)
    unfolding wrap held_in on_core on_next
    left_here inside short from to base none =
        by_eq (e / T) q
        (λ same. let line : e / T * T ≡ q * T = ap (λ c. c * T) same in
        let after : min (e % T + s) T ≡ min (e + s - q * T) T = ap (λ n. min n T) (omega (arith, parts e some)) in
        rw (holds_in q x (on_core T slot e s) same (omega (arith, parts e some)) (omega (arith, parts e some)), after) at (first base none))
        (λ other. let low : e / T ≤ q = at_scale T (omega (arith, parts e some)) in
        let high : q ≤ e / T + 1 = at_scale T (omega (arith, parts e some)) in
        let same : suc (e / T) ≡ q = omega arith in
        let line : e / T * T + T ≡ q * T = sym (suc-mul (e / T) T) ∙ ap (λ c. c * T) same in
        let after : e % T + s - T ≡ min (e + s - q * T) T = omega (arith, parts e some) in
        rw (holds_off q x (on_core T slot e s) other, holds_in q x (on_next T slot e s) same (omega arith) (omega (arith, parts e some)), after) at (first base none))
