-- A sound table that is put into a planner and words comes back from them, and passes the check: the other half of Joint.antt.
-- The rows of its words are its rows, then zeros, as each row has 64 shares and at most 64 slices exist.
use mathlib.Core.Path.{◌≡◌, refl, ap, ◌∙◌}
use mathlib.Core.Bool.{true}
use mathlib.Core.List.{List, [], ◌∷◌, ◌++◌, append_assoc}
use Prim.Native.Nat.{ℕ, zero, suc, ◌*◌, ◌≤◌, ◌<◌}
use native.Mathlib.Nat.{le_of_suc-le-suc, not-suc-le-zero}
use native.Mathlib.Omega.{arith}
use lib.ListN.{length, take, drop, get_or, length-append}
use lib.Seq.{take_at, drop_at}
use borrow.Author.Tests.{le-leb, eq-eqb}
use Rattle.rules.specs.Station.{Slice, Table, slot_count, row_count, share_words, zeros, sum}
use Rattle.rules.specs.Sound.{Each, Columns, Sound, is_sound}
use Rattle.rules.specs.Words.{rows_of, rows_in, flat, words_of}
use Rattle.rules.proofs.Slices.{zeros-length}
use Rattle.rules.proofs.Sound.{every-from, sound-from}
use Rattle.table.proofs.Zeros.{zero_rows}
use Rattle.rules.specs.Held.{planner_of, state_of, table_of, table_at, is_sound_in, is_sound_at, used_of, ends_in}
use Rattle.rules.proofs.Held.{planner-ends, planner-tasks}
use Rattle.rules.proofs.Few.{sound-few}
use Rattle.plan.specs.Planned.{Planned, slices_in}
use Rattle.plan.proofs.Planned.{planned-slices}

-- the rows of the words are the rows
pub rows_back : (n lo : ℕ) (ss : List Slice) (past : List ℕ) → Each Columns lo ss → rows_of n (flat (rows_in n ss) ++ past) ≡ rows_in n ss
unfolding rows_of rows_in flat
rows_back zero lo ss past wide = refl
rows_back (suc n) lo [] past wide =
    let rest = flat (rows_in n []) ++ past in
    rw (append_assoc zeros (flat (rows_in n [])) past, take_at zeros rest 64 zeros-length, drop_at zeros rest 64 zeros-length, rows_back n lo [] past tt)
rows_back (suc n) lo (s ∷ ss) past wide =
    let rest = flat (rows_in n ss) ++ past in
    rw (append_assoc s.shares (flat (rows_in n ss)) past, take_at s.shares rest 64 wide.0, drop_at s.shares rest 64 wide.0, rows_back n s.end ss past wide.1)

flat-length : (n lo : ℕ) (ss : List Slice) → Each Columns lo ss → length (flat (rows_in n ss)) ≡ 64 * n
unfolding rows_in flat
flat-length zero lo ss wide = refl
flat-length (suc n) lo [] wide = simp (length-append, zeros-length, flat-length n lo [] tt) (omega arith)
flat-length (suc n) lo (s ∷ ss) wide = simp (length-append, wide.0, flat-length n s.end ss wide.1) (omega arith)

-- past the slices there are zeros
ends-past : (n : ℕ) (ss : List Slice) → sum (drop (length ss) (ends_in n ss)) ≡ 0
unfolding ends_in sum
ends-past zero [] = refl
ends-past zero (s ∷ ss) = refl
ends-past (suc n) [] = omega (arith, ends-past n [])
ends-past (suc n) (s ∷ ss) = ends-past n ss

rows-past : (n : ℕ) (ss : List Slice) (i : ℕ) → length ss ≤ i → i < n → get_or (rows_in n ss) i [] ≡ zeros
unfolding rows_in
rows-past zero ss i h l = absurd (not-suc-le-zero l)
rows-past (suc n) [] zero h l = refl
rows-past (suc n) [] (suc i) h l = rows-past n [] i (omega arith) (le_of_suc-le-suc l)
rows-past (suc n) (s ∷ ss) zero h l = absurd (not-suc-le-zero h)
rows-past (suc n) (s ∷ ss) (suc i) h l = rows-past n ss i (le_of_suc-le-suc h) (le_of_suc-le-suc l)

abbrev sliced : Table → List Slice → Table
sliced t ss = record { cores = t.cores; clock = t.clock; start = t.start; tasks = t.tasks; slices = ss }

module _ (t : Table) (sound : Sound t) (past : List ℕ) where
  held : Planned t.slices (ends_in row_count t.slices) (length t.slices) (words_of t ++ past)
  unfolding words_of
  held = record { bounds = refl; number = refl; rows = rows_back row_count t.start t.slices past sound.columns }

  few : length t.slices ≤ 64
  few = sound-few t sound

  pub words-length : length (words_of t) ≡ share_words
  unfolding words_of
  words-length = flat-length row_count t.start t.slices sound.columns

  -- the table comes back
  pub same-table : table_of (planner_of t) (words_of t ++ past) ≡ t
  unfolding table_of table_at planner_of state_of slices_in
  same-table = rw (planner-ends t, planner-tasks t sound.slots) (ap (sliced t) (planned-slices held few))

  long : share_words ≤ length (words_of t ++ past)
  long = simp length-append (omega (arith, words-length))

  words_back : sum (drop (slot_count * length t.slices) (take share_words (words_of t ++ past))) ≡ 0
  words_back = (zero_rows (length t.slices) (words_of t ++ past) long few).1 (λ i h l. rw held.rows (rows-past row_count t.slices i h l))

  -- and it is found sound
  sound_back : is_sound_at t.cores t.clock t.start (used_of t.tasks) t.tasks (length t.slices) (ends_in row_count t.slices) (words_of t ++ past) ≡ true
  unfolding is_sound_at table_at slices_in
  sound_back =
      every-from _ (
        le-leb _ _ long,
        (ap (λ ss. is_sound (sliced t ss)) (planned-slices held few) ∙ sound-from t sound, (eq-eqb (used_of t.tasks) (used_of t.tasks) refl, (le-leb _ _ few, (eq-eqb _ _ (ends-past row_count t.slices), (eq-eqb _ _ words_back, tt))))),
      )

  pub still-sound : is_sound_in (planner_of t) (words_of t ++ past) ≡ true
  unfolding is_sound_in planner_of state_of
  still-sound = rw (planner-ends t, planner-tasks t sound.slots) sound_back
