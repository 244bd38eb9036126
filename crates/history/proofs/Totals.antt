-- A slot's shares over all slices, added up: lowering takes off what it has run, a new boundary changes no total, and a release adds rate
-- times period to its own slot's and nothing to another's.
use mathlib.Core.Path.{◌≡◌, refl, ap, ◌∙◌}
use mathlib.Core.Bool.{true, false≢true}
use mathlib.Core.List.{List, [], ◌∷◌}
use Prim.Native.Nat.{ℕ, ◌+◌, ◌-◌, ◌*◌, ◌≤◌, ◌<◌}
use native.Mathlib.Omega.{arith}
use lib.ListN.{length, get_or}
use lib.Seq.{get_or-set_same, get_or-set_other}
use borrow.Author.Tests.{ne_eqb}
use Rattle.rules.specs.declared.Task.{Task}
use Rattle.rules.specs.Station.{Slice, grains, free}
use Rattle.rules.specs.Slices.{is_end, first_part, cut_at, with_end}
use Rattle.rules.specs.Wrap.{has_run}
use Rattle.rules.specs.Release.{lower_row, lowered, given}
use Rattle.rules.specs.Sound.{Each, Rises}
use Rattle.rules.proofs.Floor.{by_eq}
use Rattle.rules.proofs.Relaid.{relaid_at, relaid-length, relaid_split}
use Rattle.rules.proofs.Cut.{cut_whole, second_relaid}
use Rattle.rules.proofs.Front.{front, front_none, front_halves, back_row_small}
use Rattle.rules.proofs.Wrap.{ran_front, lower_relaid}
use Rattle.rules.proofs.Sound.{SliceOk, each_map}
use Rattle.rules.proofs.Tasks.{pending_none}
use Rattle.rules.proofs.Slices.{end_after, with_end_cases, gift, given_cases, zeros-length, zeros_at}
use Rattle.history.specs.Jobs.{total}

-- one row, x grains into a slice of T
module _ {T : ℕ} (some : 0 < T) (row : List ℕ) (small : (j : ℕ) → get_or row j 0 ≤ T) (k : ℕ) where
  pub lower_at : (x : ℕ) → x ≤ T → get_or (lower_row T x row) k 0 + has_run T x row k ≡ get_or row k 0
  lower_at x within = rw (lower_relaid some x within row small, ran_front some x within row small k) (omega (arith, relaid_split (front_halves some x within) 0 row k))

  pub run_none : has_run T 0 row k ≡ 0
  run_none = rw (ran_front some 0 (omega arith) row small k) (relaid_at (front T 0) 0 k row ∙ simp (front_none some))

  pub run_all : has_run T T row k ≡ get_or row k 0
  run_all =
      let left : get_or (lower_row T T row) k 0 ≤ T - T = rw (lower_relaid some T (omega arith) row small) (back_row_small T T some (omega arith) row small k) in
      omega (arith, lower_at T (omega arith))

module _ (ks : List Task) (k : ℕ) where
  -- a slot with no job has no shares
  pub total_none : (lo : ℕ) (ss : List Slice) → Each (SliceOk ks) lo ss → (get_or ks k free).deadline ≡ 0 → total k ss ≡ 0
  unfolding total
  total_none lo [] ok none = refl
  total_none lo (s ∷ ss) ok none = omega (arith, (ok.0.shares k).no_job (pending_none (get_or ks k free) none), total_none s.end ss ok.1 none)

  -- at the plan start nothing has run
  pub lowered-still : (lo : ℕ) (ss : List Slice) → Each (SliceOk ks) lo ss → total k (lowered lo lo ss) ≡ total k ss
  unfolding total lowered
  lowered-still lo [] ok = refl
  lowered-still lo (s ∷ ss) ok =
      let o = ok.0 in
      let T = grains (s.end - lo) in
      let some : 0 < T = omega (arith, o.rises) in
      let small : (j : ℕ) → get_or s.shares j 0 ≤ T = λ j. (o.shares j).small in
      let none : grains (lo - lo) ≡ 0 = omega arith in
      rw none (omega (arith, lower_at some s.shares small k 0 (omega arith), run_none some s.shares small k))

-- ends that rise, and rows of 64 shares
abbrev pub Shaped : ℕ → Slice → Type 0
Shaped lo s = (lo < s.end) × (length s.shares ≡ 64)

module _ (d : ℕ) where
  pub with_end_shaped : (lo : ℕ) (ss : List Slice) → lo < d → Each Shaped lo ss → Each Shaped lo (with_end d lo ss)
  unfolding with_end cut_at first_part
  with_end_shaped lo [] after r = ((after, zeros-length), tt)
  with_end_shaped lo (s ∷ ss) after r =
      with_end_cases (Each Shaped lo) d lo s ss
      (λ l. ((after, rw relaid-length r.0.1), ((l, rw (second_relaid (d - lo) (s.end - lo) (omega arith) (omega arith) s.shares, relaid-length) r.0.1), r.1)))
      (λ q. r)
      (λ g. (r.0, with_end_shaped s.end ss g r.1))

  pub with_end-total : (k lo : ℕ) (ss : List Slice) → lo < d → Each Shaped lo ss → total k (with_end d lo ss) ≡ total k ss
  unfolding with_end cut_at total
  with_end-total k lo [] after r = omega (arith, zeros_at k)
  with_end-total k lo (s ∷ ss) after r =
      with_end_cases (λ w. total k w ≡ total k (s ∷ ss)) d lo s ss
      (λ l. omega (arith, cut_whole (d - lo) (s.end - lo) (omega arith) (omega arith) s.shares k))
      (λ q. refl)
      (λ g. omega (arith, with_end-total k s.end ss g r.1))

module _ (slot rate d : ℕ) where
  pub given_other : (k lo : ℕ) (ss : List Slice) → (k ≡ slot → ⊥) → total k (given slot rate d lo ss) ≡ total k ss
  unfolding total given gift
  given_other k lo [] other = refl
  given_other k lo (s ∷ ss) other =
      given_cases slot rate d (λ w. total k w ≡ total k (s ∷ ss)) lo s ss
      (λ l. rw (get_or-set_other s.shares slot k _ 0 other) (omega (arith, given_other k s.end ss other)))
      (λ g. refl)

  -- past d nothing is given
  given-past : (lo : ℕ) (ss : List Slice) → d ≤ lo → Each Shaped lo ss → total slot (given slot rate d lo ss) ≡ total slot ss
  unfolding total given
  given-past lo [] h r = refl
  given-past lo (s ∷ ss) h r = given_cases slot rate d (λ w. total slot w ≡ total slot (s ∷ ss)) lo s ss (λ l. absurd (omega arith)) (λ g. refl)

  -- up to d, a boundary, the slot gets its rate for each tick
  pub given-total : (lo : ℕ) (ss : List Slice) → slot < 64 → Each Shaped lo ss → is_end d ss ≡ true → total slot (given slot rate d lo ss) ≡ total slot ss + rate * (d - lo)
  unfolding total given gift is_end
  given-total lo [] wide r at = absurd (false≢true at)
  given-total lo (s ∷ ss) wide r at =
      given_cases slot rate d (λ w. total slot w ≡ total slot (s ∷ ss) + rate * (d - lo)) lo s ss
      (λ l. rw (get_or-set_same s.shares slot _ 0 (omega (arith, r.0.1)))
      (by_eq d s.end
      (λ q. rw q (omega (arith, given-past s.end ss (omega arith) r.1)))
      (λ ne. let ticks : (s.end - lo) + (d - s.end) ≡ d - lo = omega (arith, r.0.0) in
      omega (arith, given-total s.end ss wide r.1 (rw ne_eqb at at), ap (λ n. rate * n) ticks))))
      (λ g. let ne : d ≡ s.end → ⊥ = omega arith in
      absurd (omega (arith, end_after d s.end ss (each_map Shaped Rises (λ lo s r. r.0) s.end ss r.1) (rw ne_eqb at at))))
