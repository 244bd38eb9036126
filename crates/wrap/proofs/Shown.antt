-- Segments written one slot after the other: what stands in a buffer, and what the rest of the walk would write, are the segments
-- asked for. It starts with nothing written, and a turn takes one slot's segments from the rest.
use mathlib.Core.Path.{◌≡◌, refl, sym, ap, ◌∙◌}
use mathlib.Core.List.{List, [], ◌∷◌, ◌++◌, append_assoc}
use Prim.Native.Nat.{ℕ, ◌+◌, ◌*◌, ◌<◌, ◌≤◌, min, max}
use native.Mathlib.Nat.{zero-add, add-zero}
use native.Mathlib.Numerals.{add-one}
use native.Mathlib.Omega.{arith}
use borrow.Author.Tests.{lt-ltb, le-ltb}
use lib.ListN.{length, take, drop, get_or, length-append, length-take, drop_of_length-le, take-append-drop}
use lib.Seq.{drop-cons, drop-drop, take_at, drop-append-add}
use Rattle.rules.specs.Wrap.{Segment, Window, on_core, on_next, wrap, kept, clip, clipped}
use Rattle.rules.specs.Words.{segments_flat, written}
use Rattle.wrap.specs.Shown.{slot_shown, written_from, Wrote}

flat_append : (gs hs : List Segment) → segments_flat (gs ++ hs) ≡ segments_flat gs ++ segments_flat hs
unfolding segments_flat
flat_append [] hs = refl
flat_append (g ∷ gs) hs = rw (flat_append gs hs)

flat-length : (gs : List Segment) → length (segments_flat gs) ≡ 4 * length gs
unfolding segments_flat
flat-length [] = refl
flat-length (g ∷ gs) = omega (arith, flat-length gs)

-- segments after segments
written_more : (count : ℕ) (gs hs : List Segment) (old : List ℕ) → 4 * (count + length gs) ≤ length old
    → written_from (count + length gs) hs (written_from count gs old) ≡ written_from count (gs ++ hs) old
unfolding written_from
written_more count gs hs old room =
    let before : List ℕ = take (4 * count) old in
    let mid : List ℕ = segments_flat gs in
    let past : List ℕ = drop (4 * (count + length gs)) old in
    let long : length (before ++ mid) ≡ 4 * (count + length gs) = simp (length-append, length-take, flat-length) (omega arith) in
    let far : 4 * (count + length gs + length hs) ≡ length (before ++ mid) + 4 * length hs = omega arith in
    let start : take (4 * (count + length gs)) (before ++ (mid ++ past)) ≡ before ++ mid = rw (← append_assoc before mid past) (take_at (before ++ mid) past (4 * (count + length gs)) long) in
    let same : 4 * (count + length gs) + 4 * length hs ≡ 4 * (count + length (gs ++ hs)) = simp length-append (omega arith) in
    let end : drop (4 * (count + length gs + length hs)) (before ++ (mid ++ past)) ≡ drop (4 * (count + length (gs ++ hs))) old =
    rw (← append_assoc before mid past, far, drop-append-add (before ++ mid) past (4 * length hs), drop-drop (4 * length hs) (4 * (count + length gs)) old)
    (ap (λ n. drop n old) same) in
    rw (start, end, flat_append gs hs) (simp append_assoc)

wrote_start : (gs : List Segment) (old : List ℕ) → Wrote 0 gs old (length gs) (written gs old)
unfolding written_from written
wrote_start gs old = record { count-is = omega arith; words_are = rw zero-add }

pub wrote_none : (count : ℕ) (old : List ℕ) → Wrote count [] old count old
unfolding written_from segments_flat
wrote_none count old = record { count-is = omega arith; words_are = rw add-zero (sym (take-append-drop (4 * count) old)) }

wrote_more : {count mid : ℕ} {gs : List Segment} {old between : List ℕ} → Wrote count gs old mid between → 4 * mid ≤ length old → (hs : List Segment)
    → written_from mid hs between ≡ written_from count (gs ++ hs) old
wrote_more {count} {gs = gs} {old = old} first room hs = rw (first.words_are, first.count-is) (written_more count gs hs old (omega arith))

module _ {count r : ℕ} {old buffer : List ℕ} where
  wrote_done : Wrote count [] old r buffer → (count ≡ r) × (old ≡ buffer)
  wrote_done a =
      let none = wrote_none count old in
      (omega arith, none.words_are ∙ sym a.words_are)

  module _ {mid : ℕ} {gs hs : List Segment} {between : List ℕ} (first : Wrote count gs old mid between) (room : 4 * mid ≤ length old) where
    pub wrote_then : Wrote mid hs between r buffer → Wrote count (gs ++ hs) old r buffer
    wrote_then second = record { count-is = simp length-append (omega arith); words_are = second.words_are ∙ wrote_more first room hs }

    -- of segments to be written, some were
    wrote_rest : Wrote count (gs ++ hs) old r buffer → Wrote mid hs between r buffer
    wrote_rest all = record { count-is = omega (arith, simp length-append at all.count-is); words_are = all.words_are ∙ sym (wrote_more first room hs) }

-- a segment as far as it is seen in the window, and none where that is empty
module _ (w : Window) (g seen : Segment) (is : seen ≡ kept w g) where
  pub clip-some : seen.first < seen.after → clip w g ≡ seen ∷ []
  unfolding clip kept
  clip-some h =
      let inside : w.base + max g.first w.from < w.base + min g.after w.to = rw is at h in
      rw (is, lt-ltb (max g.first w.from) (min g.after w.to) (omega arith))

  pub clip_none : seen.after ≤ seen.first → clip w g ≡ []
  unfolding clip kept
  clip_none h =
      let inside : w.base + min g.after w.to ≤ w.base + max g.first w.from = rw is at h in
      rw (le-ltb (max g.first w.from) (min g.after w.to) (omega arith))

pub slot-length : (w : Window) (T slot e s : ℕ) → length (slot_shown w T slot e s) ≡ length (clip w (on_core T slot e s)) + length (clip w (on_next T slot e s))
unfolding slot_shown
slot-length w T slot e s = simp length-append

-- `count` segments stand in the buffer, and with what the slots from `slot` on show, laid from e on, they are the segments gs, written over `old`.
pub record Rest (w : Window) (T : ℕ) (row : List ℕ) (gs : List Segment) (old : List ℕ) (slot e count : ℕ) (buffer : List ℕ) : Type 0 where
  pub is : Wrote count (clipped w (wrap T slot e (drop slot row))) buffer (length gs) (written gs old)

pub rest_all : (w : Window) (T : ℕ) (row old : List ℕ) → Rest w T row (clipped w (wrap T 0 0 row)) old 0 0 0 old
rest_all w T row old = record { is = wrote_start (clipped w (wrap T 0 0 row)) old }

module _ {w : Window} {T slot e count : ℕ} {row old buffer : List ℕ} {gs : List Segment} (rest : Rest w T row gs old slot e count buffer) where
  pub rest_none : length row ≤ slot → (count ≡ length gs) × (buffer ≡ written gs old)
  unfolding wrap clipped
  rest_none end = wrote_done (rw (drop_of_length-le row end) at rest.is)

  -- one slot's turn, whose share is s
  module _ {s : ℕ} (more : slot < length row) (share : s ≡ get_or row slot 0) where
    turn : Wrote count (slot_shown w T slot e s ++ clipped w (wrap T (slot + 1) (e + s) (drop (slot + 1) row))) buffer (length gs) (written gs old)
    unfolding wrap clipped slot_shown
    turn = rw (add-one, share, append_assoc) (rw (drop-cons row slot 0 more) at rest.is)

    pub rest_few : count + length (slot_shown w T slot e s) ≤ length gs
    rest_few = omega (arith, simp length-append at turn.count-is)

    pub rest_more : {mid : ℕ} {between : List ℕ} → Wrote count (slot_shown w T slot e s) buffer mid between → 4 * length gs ≤ length buffer
        → Rest w T row gs old (slot + 1) (e + s) mid between
    rest_more here room = record { is = wrote_rest here (omega (arith, rest_few)) turn }
