-- What is held: the slices that boundaries and words hold are found again, any boundaries and words with zeros behind hold some slices,
-- and a fact of each slice is a fact of its place. Inductions along the slices, a boundary and a row at a time.
use mathlib.Core.Path.{◌≡◌, refl, sym, ap, ◌∙◌}
use mathlib.Core.List.{List, [], ◌∷◌}
use Prim.Native.Nat.{ℕ, zero, suc, ◌+◌, ◌-◌, ◌*◌, ◌≤◌, ◌<◌}
use native.Mathlib.Nat.{not-suc-le-zero, le_of_suc-le-suc}
use native.Mathlib.Omega.{arith}
use lib.ListN.{length, take, drop, get_or, set}
use Rattle.rules.specs.Station.{Slice, grains, longest_period, sum, zeros}
use Rattle.rules.specs.Release.{lower_row, lowered}
use Rattle.rules.specs.Sound.{Each, Rises, Small}
use Rattle.rules.specs.Words.{rows_of, row_at, Rowed, moved_up, slices_of, rows_in}
use Rattle.table.proofs.Rowed.{length-rows_of}
use Rattle.table.proofs.Zeros.{zero_rows}
use Rattle.rules.specs.Held.{ends_in}
use Rattle.plan.specs.Planned.{Planned, Ready, slices_in, taken_out, begin_of}
use Rattle.plan.proofs.Padded.{ends_padded, rows_padded, padded_length, padded_drop}

-- boundaries that hold slices are 64 words
pub planned-long : {ss : List Slice} {ends : List ℕ} {count : ℕ} {words : List ℕ} → Planned ss ends count words → length ends ≡ 64
planned-long {ss} p = rw p.bounds (padded_length ends_padded 64 ss)

slices_in_lem : (ss : List Slice) (n : ℕ) → length ss ≤ n → slices_of (take (length ss) (ends_in n ss)) (rows_in n ss) ≡ ss
unfolding slices_of ends_in rows_in
slices_in_lem [] n h = refl
slices_in_lem (s ∷ ss) zero h = absurd (not-suc-le-zero h)
slices_in_lem (s ∷ ss) (suc n) h = ap (λ l. s ∷ l) (slices_in_lem ss n (le_of_suc-le-suc h))

-- what is held can be told
pub planned-slices : {ss : List Slice} {ends : List ℕ} {count : ℕ} {words : List ℕ} → Planned ss ends count words → length ss ≤ 64 → slices_in ends count words ≡ ss
unfolding slices_in
planned-slices {ss} p h = rw (p.bounds, p.number, p.rows) (slices_in_lem ss 64 h)

slices-most : (es : List ℕ) (rs : List (List ℕ)) → length (slices_of es rs) ≤ length rs
unfolding slices_of
slices-most [] rs = omega arith
slices-most (e ∷ es) [] = omega arith
slices-most (e ∷ es) (r ∷ rs) = omega (arith, slices-most es rs)

-- boundaries that are held with their slices are no more than rows
pub planned-few : {ends : List ℕ} {count : ℕ} {words : List ℕ} → Planned (slices_in ends count words) ends count words → count ≤ 64
unfolding slices_in
planned-few {ends} {count} {words} p = omega (arith, p.number, slices-most (take count ends) (rows_of 64 words), length-rows_of 64 words)

-- boundaries and as many rows, zero from c on
held_in_lem : (es : List ℕ) (rs : List (List ℕ)) (c : ℕ) → length rs ≡ length es → c ≤ length es → sum (drop c es) ≡ 0
    → ((i : ℕ) → c ≤ i → i < length es → get_or rs i [] ≡ zeros)
    → (es ≡ ends_in (length es) (slices_of (take c es) rs)) × (c ≡ length (slices_of (take c es) rs)) × (rs ≡ rows_in (length es) (slices_of (take c es) rs))
unfolding slices_of ends_in rows_in sum
held_in_lem [] [] zero same h s z = (refl, refl, refl)
held_in_lem [] [] (suc c) same h s z = absurd (not-suc-le-zero h)
held_in_lem [] (r ∷ rs) c same h s z = absurd (omega arith)
held_in_lem (e ∷ es) [] c same h s z = absurd (omega arith)
held_in_lem (e ∷ es) (r ∷ rs) zero same h s z =
    let none : e ≡ 0 = omega arith in
    let empty : r ≡ zeros = z 0 (omega arith) (omega arith) in
    let rest = held_in_lem es rs zero (omega arith) (omega arith) (omega arith) (λ i a b. z (suc i) (omega arith) (omega arith)) in
    (cc, refl, cc)
held_in_lem (e ∷ es) (r ∷ rs) (suc c) same h s z =
    let rest = held_in_lem es rs c (omega arith) (omega arith) s (λ i a b. z (suc i) (omega arith) (omega arith)) in
    (ap (λ l. e ∷ l) rest.0, ap suc rest.1, ap (λ l. r ∷ l) rest.2)

-- what the planner's checks find makes boundaries and words hold the slices that they tell
pub held : (ends : List ℕ) (count : ℕ) (words : List ℕ) → length ends ≡ 64 → count ≤ 64 → 4096 ≤ length words → sum (drop count ends) ≡ 0
    → sum (drop (64 * count) (take 4096 words)) ≡ 0 → Planned (slices_in ends count words) ends count words
unfolding slices_in
held ends count words wide few room past below =
    let rows : length (rows_of 64 words) ≡ 64 = length-rows_of 64 words in
    let r = rw wide at (held_in_lem ends (rows_of 64 words) count (omega arith) (omega arith) past (λ i a b. (zero_rows count words room few).0 below i a (omega arith))) in
    record { bounds = r.0; number = r.1; rows = r.2 }

-- where the next slice begins
pub begin_next : (k e : ℕ) (es : List ℕ) → get_or (e ∷ es) k 0 ≡ begin_of e k es
unfolding begin_of
begin_next zero e es = refl
begin_next (suc k) e es = refl

-- what holds of each slice holds at its place
pub each_at : (P : ℕ → Slice → Type 0) (lo : ℕ) (ss : List Slice) (n k : ℕ) → Each P lo ss → length ss ≤ n → k < length ss
    → P (begin_of lo k (ends_in n ss)) (record { end = get_or (ends_in n ss) k 0; shares = get_or (rows_in n ss) k [] })
unfolding ends_in rows_in begin_of
each_at P lo [] n k p h l = absurd (not-suc-le-zero l)
each_at P lo (s ∷ ss) zero k p h l = absurd (not-suc-le-zero h)
each_at P lo (s ∷ ss) (suc n) zero p h l = p.0
each_at P lo (s ∷ ss) (suc n) (suc k) p h l = rw (begin_next k s.end (ends_in n ss)) (each_at P s.end ss n k p.1 (le_of_suc-le-suc h) (le_of_suc-le-suc l))

-- slices begin at or after any b at or before the first's begin
each_from : (b lo : ℕ) (ss : List Slice) → b ≤ lo → Each Rises lo ss → Each (λ l s. b ≤ l) lo ss
each_from b lo [] h r = tt
each_from b lo (s ∷ ss) h r = (h, each_from b s.end ss (omega arith) r.1)

-- the slice at place k: it begins at or after the first, ends after its begin and soon, and its shares are small
pub record At (start : ℕ) (ends : List ℕ) (rows : List (List ℕ)) (k : ℕ) : Type 0 where
  pub from : start ≤ begin_of start k ends
  pub rises : begin_of start k ends < get_or ends k 0
  pub soon : get_or ends k 0 ≤ start + longest_period
  pub small : (i : ℕ) → get_or (get_or rows k []) i 0 ≤ grains (get_or ends k 0 - begin_of start k ends)

pub ready_at : {ss : List Slice} {ends : List ℕ} {count : ℕ} {words : List ℕ} {start : ℕ} → Planned ss ends count words → Ready start ss → (k : ℕ) → k < count → At start ends (rows_of 64 words) k
ready_at {ss} {start = start} p r k h =
    let few = r.few in
    let here : k < length ss = omega (arith, p.number) in
    rw (p.bounds, p.rows) (record {
      from = each_at (λ l s. start ≤ l) start ss 64 k (each_from start start ss (omega arith) r.rising) few here;
      rises = each_at Rises start ss 64 k r.rising few here;
      soon = each_at (λ l s. s.end ≤ start + longest_period) start ss 64 k r.soon few here;
      small = each_at Small start ss 64 k r.small few here;
    })

-- the first slice dropped
pub planned-drop : {ss : List Slice} {ends : List ℕ} {count : ℕ} {words now : List ℕ} → Planned ss ends count words → 0 < count → count ≤ 64
    → Rowed words (moved_up count (rows_of 64 words)) now → Planned (drop 1 ss) (taken_out count ends) (count - 1) now
unfolding moved_up taken_out
planned-drop {ss = []} p some few moved = absurd (omega (arith, p.number))
planned-drop {ss = s ∷ ss} p some few moved =
    let left : length ss ≤ 63 = omega (arith, p.number) in
    record {
      bounds = rw (p.number, p.bounds) (sym (padded_drop ends_padded s ss 63 left));
      number = omega (arith, p.number);
      rows = moved.rows ∙ rw (p.number, p.rows) (sym (padded_drop rows_padded s ss 63 left));
    }

-- the first slice's row lowered
pub planned-lowered : {ss : List Slice} {ends : List ℕ} {count : ℕ} {words now : List ℕ} (start clock : ℕ) → Planned ss ends count words → 0 < count
    → Rowed words (set (rows_of 64 words) 0 (lower_row (grains (get_or ends 0 0 - start)) (grains (clock - start)) (row_at 0 words))) now → Planned (lowered start clock ss) ends count now
unfolding ends_in rows_in row_at lowered
planned-lowered {ss = []} start clock p some done = absurd (omega (arith, p.number))
planned-lowered {ss = s ∷ ss} start clock p some done = record { bounds = p.bounds; number = p.number; rows = done.rows ∙ rw (p.bounds, p.rows) }

-- with no slice there is nothing to lower
pub planned_none : {ss : List Slice} {ends words : List ℕ} (start clock : ℕ) → Planned ss ends 0 words → Planned (lowered start clock ss) ends 0 words
unfolding lowered
planned_none {ss = []} start clock p = p
planned_none {ss = s ∷ ss} start clock p = absurd (omega (arith, p.number))
