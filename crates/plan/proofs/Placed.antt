-- A new boundary d among the slices: its place k is the number of ends before it, and what is held with it is what was held, with d
-- put in at k and, where slice k is cut, its row cut. The relation `Placed` goes along the slices once; all else is read off it.
use mathlib.Core.Path.{◌≡◌, refl, sym, ap, ◌∙◌}
use mathlib.Core.Bool.{true, cond, false≢true}
use mathlib.Core.Logic.{◌⊎◌, ⊎_elim}
use mathlib.Core.List.{List, [], ◌∷◌}
use Prim.Native.Nat.{ℕ, zero, suc, ◌+◌, ◌-◌, ◌≤◌, ◌<◌}
use native.Mathlib.Nat.{not-suc-le-zero, le_of_suc-le-suc, le_of_lt}
use native.Mathlib.Numerals.{one-add}
use native.Mathlib.Omega.{arith}
use lib.Dec.{ltb}
use lib.ListN.{length, take, get_or}
use Rattle.std.proofs.lemmas.List.Sums.{sum_by-cons}
use borrow.Author.Tests.{lt-ltb, le-ltb, ne_eqb}
use Rattle.rules.specs.Station.{Slice, zeros}
use Rattle.rules.specs.Slices.{first_part, second_part, is_end, cut_at, with_end}
use Rattle.rules.specs.Sound.{Each, Rises}
use Rattle.rules.specs.Words.{rows_of, row_at, Rowed, cut_rows, rows_in}
use Rattle.rules.proofs.Slices.{end_after, with_end_cases}
use Rattle.line.specs.Asked.{Cut}
use Rattle.rules.specs.Held.{ends_in}
use Rattle.plan.specs.Planned.{Planned, Ready, before, put_in, begin_of}
use Rattle.plan.proofs.Padded.{ends_padded, rows_padded, padded_fewer}
use Rattle.plan.proofs.Planned.{begin_next, ready_at}

-- the slice that is added past the last
abbrev pub added : ℕ → Slice
added d = record { end = d; shares = zeros }

-- d among the slices ss, which begin at lo: its place is k, and with a boundary at d the slices are ws
pub data Placed (d : ℕ) : ℕ → List Slice → ℕ → List Slice → Type 0 where
  beyond : {lo : ℕ} → Placed d lo [] 0 (added d ∷ [])
  there : {lo : ℕ} {s : Slice} {ss : List Slice} → s.end ≡ d → Placed d lo (s ∷ ss) 0 (s ∷ ss)
  within : {lo : ℕ} {s : Slice} {ss : List Slice} → lo < d → d < s.end → Placed d lo (s ∷ ss) 0 (cut_at d lo s ss)
  later : {lo k : ℕ} {s : Slice} {ss ws : List Slice} → s.end < d → Placed d s.end ss k ws → Placed d lo (s ∷ ss) (suc k) (s ∷ ws)

-- one end more to count
before_next : (d : ℕ) (s : Slice) (ss : List Slice) (n : ℕ) → before d (take (suc (length ss)) (ends_in (suc n) (s ∷ ss))) ≡ cond (ltb s.end d) 1 0 + before d (take (length ss) (ends_in n ss))
unfolding before ends_in
before_next d s ss n = sum_by-cons (λ e. cond (ltb e d) 1 0) s.end (take (length ss) (ends_in n ss))

-- no end is before d where d is no later than the begin
before_late : (d lo : ℕ) (ss : List Slice) (n : ℕ) → Each Rises lo ss → d ≤ lo → before d (take (length ss) (ends_in n ss)) ≡ 0
unfolding before ends_in
before_late d lo [] n r h = refl
before_late d lo (s ∷ ss) zero r h = refl
before_late d lo (s ∷ ss) (suc n) r h = let le : d ≤ s.end = omega arith in rw (before_next d s ss n, le-ltb, before_late d s.end ss n r.1 le)

-- the place is the number of ends before d, and the slices are those of `with_end`
pub placed : (d lo : ℕ) (ss : List Slice) (n : ℕ) → Each Rises lo ss → lo < d → length ss ≤ n → Placed d lo ss (before d (take (length ss) (ends_in n ss))) (with_end d lo ss)
unfolding before ends_in with_end
placed d lo [] n r l h = beyond
placed d lo (s ∷ ss) zero r l h = absurd (not-suc-le-zero h)
placed d lo (s ∷ ss) (suc n) r l h =
    with_end_cases (Placed d lo (s ∷ ss) (before d (take (suc (length ss)) (ends_in (suc n) (s ∷ ss))))) d lo s ss
    (λ g. let le : d ≤ s.end = le_of_lt g in rw (before_next d s ss n, le-ltb, before_late d s.end ss n r.1 le) (within l g))
    (λ q. let le : d ≤ s.end = omega arith in rw (before_next d s ss n, le-ltb, before_late d s.end ss n r.1 le) (there (sym q)))
    (λ g. rw (before_next d s ss n, lt-ltb, one-add) (later g (placed d s.end ss n r.1 g (le_of_suc-le-suc h))))

-- a boundary that there is stands at its place
pub placed_end : {d lo k : ℕ} {ss ws : List Slice} → Placed d lo ss k ws → (n : ℕ) → Each Rises lo ss → length ss ≤ n → is_end d ss ≡ true → (k < length ss) × (get_or (ends_in n ss) k 0 ≡ d)
unfolding is_end ends_in
placed_end beyond n r h e = absurd (false≢true e)
placed_end (there q) zero r h e = absurd (not-suc-le-zero h)
placed_end (there q) (suc n) r h e = (omega arith, q)
placed_end {d} (within {s = s} {ss = ss} l g) n r h e = let ne : d ≡ s.end → ⊥ = omega arith in absurd (omega (arith, end_after d s.end ss r.1 (rw ne_eqb at e)))
placed_end (later l p) zero r h e = absurd (not-suc-le-zero h)
placed_end {d} (later {s = s} l p) (suc n) r h e =
    let ne : d ≡ s.end → ⊥ = omega arith in
    let at = placed_end p n r.1 (le_of_suc-le-suc h) (rw ne_eqb at e) in
    (omega arith, at.1)

-- and then nothing changes
pub placed_there : {d lo k : ℕ} {ss ws : List Slice} → Placed d lo ss k ws → (n : ℕ) → length ss ≤ n → k < length ss → get_or (ends_in n ss) k 0 ≡ d → ws ≡ ss
unfolding ends_in
placed_there beyond n h l e = absurd (not-suc-le-zero l)
placed_there (there q) n h l e = refl
placed_there (within a b) zero h l e = absurd (not-suc-le-zero h)
placed_there (within a b) (suc n) h l e = absurd (omega arith)
placed_there (later a p) zero h l e = absurd (not-suc-le-zero h)
placed_there (later {s = s} a p) (suc n) h l e = ap (λ ss. s ∷ ss) (placed_there p n (le_of_suc-le-suc h) (le_of_suc-le-suc l) e)

-- a new boundary is put in at its place
pub placed_ends : {d lo k : ℕ} {ss ws : List Slice} → Placed d lo ss k ws → (n : ℕ) → length ss < n → (k < length ss → get_or (ends_in n ss) k 0 ≡ d → ⊥)
    → (ends_in n ws ≡ put_in k (length ss) d (ends_in n ss)) × (length ws ≡ suc (length ss))
unfolding ends_in put_in cut_at
placed_ends beyond zero h new = absurd (not-suc-le-zero h)
placed_ends beyond (suc n) h new = (refl, refl)
placed_ends (there q) zero h new = absurd (not-suc-le-zero h)
placed_ends (there q) (suc n) h new = absurd (new (omega arith) q)
placed_ends (within a b) zero h new = absurd (not-suc-le-zero h)
placed_ends (within a b) (suc zero) h new = absurd (omega arith)
placed_ends {d} (within {s = s} {ss = ss} a b) (suc (suc n)) h new =
    let all : suc (length ss) - 0 ≡ suc (length ss) = omega arith in
    (rw all (ap (λ l. d ∷ (s.end ∷ l)) (padded_fewer ends_padded ss n (omega arith))), refl)
placed_ends (later a p) zero h new = absurd (not-suc-le-zero h)
placed_ends (later {k = k} {s = s} {ss = ss} a p) (suc n) h new =
    let fewer : suc (length ss) - suc k ≡ length ss - k = omega arith in
    let rest = placed_ends p n (le_of_suc-le-suc h) (λ l. new (omega arith)) in
    (rw fewer (ap (λ l. s.end ∷ l) rest.0), ap suc rest.1)

-- past the last slice the new one's row is zero already
pub placed_rows : {d lo k : ℕ} {ss ws : List Slice} → Placed d lo ss k ws → (n : ℕ) → k ≡ length ss → rows_in n ws ≡ rows_in n ss
unfolding rows_in
placed_rows beyond zero e = refl
placed_rows beyond (suc n) e = refl
placed_rows (there q) n e = absurd (omega arith)
placed_rows (within a b) n e = absurd (omega arith)
placed_rows (later a p) zero e = refl
placed_rows (later {s = s} a p) (suc n) e = ap (λ l. s.shares ∷ l) (placed_rows p n (omega arith))

-- the parts of row r of a slice from b to e that is cut at d
abbrev pub Parted : ℕ → ℕ → List (List ℕ) → ℕ → ℕ → ℕ → List ℕ → List (List ℕ)
Parted k m rs d b e r = cut_rows k m (first_part (d - b) (e - b) r) (second_part (d - b) (e - b) r) rs

-- inside slice k its row is cut
pub placed_cut : {d lo k : ℕ} {ss ws : List Slice} → Placed d lo ss k ws → (n : ℕ) → length ss < n → k < length ss → (get_or (ends_in n ss) k 0 ≡ d → ⊥)
    → (begin_of lo k (ends_in n ss) < d) × (d < get_or (ends_in n ss) k 0)
    × (rows_in n ws ≡ Parted k (length ss) (rows_in n ss) d (begin_of lo k (ends_in n ss)) (get_or (ends_in n ss) k 0) (get_or (rows_in n ss) k []))
unfolding ends_in rows_in cut_rows cut_at begin_of
placed_cut beyond n h l new = absurd (not-suc-le-zero l)
placed_cut (there q) zero h l new = absurd (not-suc-le-zero h)
placed_cut (there q) (suc n) h l new = absurd (new q)
placed_cut (within a b) zero h l new = absurd (not-suc-le-zero h)
placed_cut (within a b) (suc zero) h l new = absurd (omega arith)
placed_cut {d} {lo} (within {s = s} {ss = ss} a b) (suc (suc n)) h l new =
    let all : suc (length ss) - 1 ≡ length ss = omega arith in
    let first = first_part (d - lo) (s.end - lo) s.shares in
    let second = second_part (d - lo) (s.end - lo) s.shares in
    (a, b, rw all (ap (λ l. first ∷ (second ∷ l)) (padded_fewer rows_padded ss n (omega arith))))
placed_cut (later a p) zero h l new = absurd (not-suc-le-zero h)
placed_cut (later {k = k} {s = s} {ss = ss} a p) (suc n) h l new =
    let fewer : suc (length ss) - suc (suc k) ≡ length ss - suc k = omega arith in
    let rest = placed_cut p n (le_of_suc-le-suc h) (le_of_suc-le-suc l) new in
    rw (begin_next k s.end (ends_in n ss), fewer) (rest.0, rest.1, ap (λ l. s.shares ∷ l) rest.2)

-- What is known once the place of d has been found: the slices ss are held and ready, d is after the plan start, and there is room for a
-- boundary unless d is one.
pub record Place (ss : List Slice) (ends : List ℕ) (count : ℕ) (words : List ℕ) (start d at : ℕ) : Type 0 where
  pub planned : Planned ss ends count words
  pub ready : Ready start ss
  pub ahead : start < d
  pub is : at ≡ before d (take count ends)
  pub room : (is_end d ss ≡ true) ⊎ (count < 64)

module _ {ss : List Slice} {ends : List ℕ} {count : ℕ} {words : List ℕ} {start d at : ℕ} (q : Place ss ends count words start d at) where
  p : Planned ss ends count words
  p = q.planned

  few : length ss ≤ 64
  few = q.ready.few

  here : Placed d start ss at (with_end d start ss)
  here = rw (q.is, p.number, p.bounds) (placed d start ss 64 q.ready.rising q.ahead few)

  -- d is a boundary
  pub with_there : at < count → get_or ends at 0 ≡ d → Planned (with_end d start ss) ends count words
  with_there l e = rw (placed_there here 64 few (omega (arith, p.number)) (rw p.bounds at e)) p

  -- d is none
  module _ (new : at < count → get_or ends at 0 ≡ d → ⊥) where
    pub with_room : count < 64
    with_room = ⊎_elim (λ e. let at = placed_end here 64 q.ready.rising few e in absurd (new (omega (arith, p.number)) (rw p.bounds at.1))) (λ r. r) q.room

    put : (ends_in 64 (with_end d start ss) ≡ put_in at count d ends) × (length (with_end d start ss) ≡ suc count)
    put = rw (p.bounds, p.number) (placed_ends here 64 (omega (arith, p.number, with_room)) (λ l e. new (omega (arith, p.number)) (rw p.bounds e)))

    -- it is past the last slice
    pub with_new : at ≡ count → Planned (with_end d start ss) (put_in at count d ends) (count + 1) words
    with_new last = record { bounds = sym put.0; number = omega (arith, put.1); rows = p.rows ∙ sym (placed_rows here 64 (last ∙ p.number)) }

    -- it is inside slice `at`
    module _ (l : at < count) where
      pub inside : (begin_of start at ends < d) × (d < get_or ends at 0)
          × (rows_in 64 (with_end d start ss) ≡ Parted at count (rows_of 64 words) d (begin_of start at ends) (get_or ends at 0) (get_or (rows_of 64 words) at []))
      inside = rw (p.bounds, p.number, p.rows) (placed_cut here 64 (omega (arith, p.number, with_room)) (omega (arith, p.number)) (λ e. new l (rw p.bounds e)))

      pub cut_asked : Cut (d - begin_of start at ends) (get_or ends at 0 - begin_of start at ends)
      cut_asked = let k = ready_at p q.ready at l in record { some = omega (arith, inside); less = omega (arith, inside); most = omega (arith, k.from, k.soon) }

      pub with_cut : {now : List ℕ} → Rowed words (Parted at count (rows_of 64 words) d (begin_of start at ends) (get_or ends at 0) (row_at at words)) now
          → Planned (with_end d start ss) (put_in at count d ends) (count + 1) now
      unfolding row_at
      with_cut done = record { bounds = sym put.0; number = omega (arith, put.1); rows = done.rows ∙ sym inside.2 }
