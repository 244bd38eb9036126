-- The new job's shares, row by row: each slice's row is raised by rate times length where it ends at or before d, and by 0 elsewhere.
-- Ends rise, so from the first slice that ends after d on nothing is given.
use mathlib.Core.Path.{◌≡◌, refl, sym, ap, ◌∙◌}
use mathlib.Core.Bool.{cond}
use mathlib.Core.List.{List, [], ◌∷◌}
use Prim.Native.Nat.{ℕ, zero, suc, ◌+◌, ◌-◌, ◌*◌, ◌≤◌, ◌<◌}
use native.Mathlib.Nat.{not-suc-le-zero, le_of_suc-le-suc, add-zero}
use native.Mathlib.Omega.{arith}
use lib.Dec.{leb}
use lib.ListN.{length, drop, get_or, set, take-append-drop}
use lib.Seq.{set-get_or}
use borrow.Author.Tests.{le-leb, lt-leb}
use Rattle.rules.specs.Station.{Slice}
use Rattle.rules.specs.Release.{given}
use Rattle.rules.specs.Sound.{Each, Rises}
use Rattle.rules.specs.Words.{rows_of, row_at, rows_in}
use Rattle.rules.proofs.Slices.{gift, given_cases}
use Rattle.rows.proofs.Moves.{Mixed, mixed_more, mixed_ahead}
use Rattle.table.proofs.Rowed.{length-rows_of}
use Rattle.rules.specs.Held.{ends_in}
use Rattle.plan.specs.Planned.{Planned, Ready, begin_of}
use Rattle.plan.proofs.Padded.{rows_padded, padded_length, padded_same}
use Rattle.plan.proofs.Planned.{begin_next, ready_at}

module _ (slot rate d : ℕ) where
  -- a row of a slice from lo to end, raised
  abbrev pub raised : ℕ → ℕ → List ℕ → List ℕ
  raised lo end row = set row slot (get_or row slot 0 + cond (leb end d) (rate * (end - lo)) 0)

  -- nothing is given past d
  given_none : (lo : ℕ) (ss : List Slice) → Each Rises lo ss → d ≤ lo → given slot rate d lo ss ≡ ss
  unfolding given
  given_none lo [] r h = refl
  given_none lo (s ∷ ss) r h = rw (lt-leb s.end d (omega arith))

  pub given-next : (lo : ℕ) (s : Slice) (ss : List Slice) → Each Rises s.end ss
      → given slot rate d lo (s ∷ ss) ≡ record { end = s.end; shares = raised lo s.end s.shares } ∷ given slot rate d s.end ss
  unfolding gift
  given-next lo s ss r =
      given_cases slot rate d (λ w. w ≡ record { end = s.end; shares = raised lo s.end s.shares } ∷ given slot rate d s.end ss) lo s ss
      (λ l. rw (le-leb s.end d l))
      (λ g. rw (lt-leb s.end d g, add-zero, set-get_or s.shares slot 0, given_none s.end ss r (omega arith)))

  pub given-length : (lo : ℕ) (ss : List Slice) → length (given slot rate d lo ss) ≡ length ss
  unfolding given
  given-length lo [] = refl
  given-length lo (s ∷ ss) = given_cases slot rate d (λ w. length w ≡ suc (length ss)) lo s ss (λ l. ap suc (given-length s.end ss)) (λ g. refl)

  pub given-bounds : (lo : ℕ) (ss : List Slice) (n : ℕ) → Each Rises lo ss → ends_in n (given slot rate d lo ss) ≡ ends_in n ss
  unfolding ends_in given
  given-bounds lo [] n r = refl
  given-bounds lo (s ∷ ss) zero r = refl
  given-bounds lo (s ∷ ss) (suc n) r = rw (given-next lo s ss r.1) (ap (λ l. s.end ∷ l) (given-bounds s.end ss n r.1))

  pub given_row : (lo : ℕ) (ss : List Slice) (n k : ℕ) → Each Rises lo ss → length ss ≤ n → k < length ss
      → get_or (rows_in n (given slot rate d lo ss)) k [] ≡ raised (begin_of lo k (ends_in n ss)) (get_or (ends_in n ss) k 0) (get_or (rows_in n ss) k [])
  unfolding ends_in rows_in begin_of
  given_row lo [] n k r h l = absurd (not-suc-le-zero l)
  given_row lo (s ∷ ss) zero k r h l = absurd (not-suc-le-zero h)
  given_row lo (s ∷ ss) (suc n) zero r h l = rw (given-next lo s ss r.1)
  given_row lo (s ∷ ss) (suc n) (suc k) r h l = rw (given-next lo s ss r.1, begin_next k s.end (ends_in n ss)) (given_row s.end ss n k r.1 (le_of_suc-le-suc h) (le_of_suc-le-suc l))

  -- from a slice that ends after d on, the rows are as they were
  given-kept : (lo : ℕ) (ss : List Slice) (n k : ℕ) → Each Rises lo ss → length ss ≤ n → k < length ss → d < get_or (ends_in n ss) k 0
      → drop k (rows_in n (given slot rate d lo ss)) ≡ drop k (rows_in n ss)
  unfolding ends_in rows_in given
  given-kept lo [] n k r h l after = absurd (not-suc-le-zero l)
  given-kept lo (s ∷ ss) zero k r h l after = absurd (not-suc-le-zero h)
  given-kept lo (s ∷ ss) (suc n) zero r h l after = rw (lt-leb s.end d after)
  given-kept lo (s ∷ ss) (suc n) (suc k) r h l after = rw (given-next lo s ss r.1) (given-kept s.end ss n k r.1 (le_of_suc-le-suc h) (le_of_suc-le-suc l) after)

  -- The loop over the rows of the slices ss that are held: the first k are raised, the others as they were.
  module _ {ss : List Slice} {ends : List ℕ} {count : ℕ} {words : List ℕ} (p : Planned ss ends count words) {start : ℕ} (r : Ready start ss) where
    module _ {k : ℕ} (now : List ℕ) (m : Mixed (rows_in 64 (given slot rate d start ss)) (rows_of 64 words) k (rows_of 64 now)) (l : k < count) where
      wide : (k < length ss) × (length ss ≤ 64) × (length (rows_in 64 (given slot rate d start ss)) ≡ 64) × (length (rows_of 64 words) ≡ 64)
      wide = (omega (arith, p.number), r.few, padded_length rows_padded 64 (given slot rate d start ss), length-rows_of 64 words)

      -- the row that a turn finds is as it was
      ahead : row_at k now ≡ get_or (rows_of 64 words) k []
      unfolding row_at
      ahead = mixed_ahead [] m k (omega (arith, wide)) (omega arith)

      -- the share that a turn raises is small
      pub given-fits : get_or (row_at k now) slot 0 ≤ 60000000
      given-fits = let here = ready_at p r k l in rw ahead (omega (arith, here.small slot, here.from, here.soon))

      pub given_more : Mixed (rows_in 64 (given slot rate d start ss)) (rows_of 64 words) (k + 1) (set (rows_of 64 now) k (raised (begin_of start k ends) (get_or ends k 0) (row_at k now)))
      given_more =
          mixed_more [] m (raised (begin_of start k ends) (get_or ends k 0) (row_at k now)) (omega (arith, wide)) (omega (arith, wide))
          (rw (ahead, p.bounds, p.rows) (sym (given_row start ss 64 k r.rising r.few wide.0)))

    given-held : {now : List ℕ} → rows_of 64 now ≡ rows_in 64 (given slot rate d start ss) → Planned (given slot rate d start ss) ends count now
    given-held rows = record {
      bounds = p.bounds ∙ sym (given-bounds start ss 64 r.rising);
      number = p.number ∙ sym (given-length start ss);
      rows = rows;
    }

    -- the loop ends after the last slice, or at the first one that ends after d
    pub given-all : {now : List ℕ} → Mixed (rows_in 64 (given slot rate d start ss)) (rows_of 64 words) count (rows_of 64 now) → Planned (given slot rate d start ss) ends count now
    given-all m = given-held (m.is ∙ rw (p.number, p.rows) (sym (padded_same rows_padded ss (given slot rate d start ss) 64 (given-length start ss) r.few)))

    pub given_stop : {k : ℕ} {now : List ℕ} → Mixed (rows_in 64 (given slot rate d start ss)) (rows_of 64 words) k (rows_of 64 now) → k < count → d < get_or ends k 0
        → Planned (given slot rate d start ss) ends count now
    given_stop {k} m l after =
        let kept = given-kept start ss 64 k r.rising r.few (omega (arith, p.number)) (rw p.bounds at after) in
        given-held (m.is ∙ rw (p.rows, ← kept) (take-append-drop k (rows_in 64 (given slot rate d start ss))))
