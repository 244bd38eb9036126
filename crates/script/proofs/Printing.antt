-- Segments printed one after another: what stands in the output, with what is left to print put behind it, is the whole.
use mathlib.Core.Path.{◌≡◌, refl, ap, sym, ◌∙◌}
use mathlib.Core.List.{List, [], ◌++◌}
use Prim.Native.Nat.{ℕ, zero, suc, ◌+◌, ◌-◌, ◌*◌, ◌≤◌, ◌<◌}
use native.Mathlib.Nat.{sub_self, sub-zero}
use native.Mathlib.Omega.{arith}
use lib.ListN.{length, take, drop, get_or, length-append}
use lib.Seq.{drop-drop, get_or-take}
use borrow.Author.Tests.{ne_eqb}
use Rattle.std.specs.Prelude.{Err}
use Rattle.std.specs.Simd.{first_chunks}
use Rattle.rules.specs.declared.Refusal.{Refusal}
use Rattle.rules.specs.Numbers.{number_of}
use Rattle.rules.specs.Calls.{refusal}
use Rattle.rules.proofs.Numbers.{number_some}
use Rattle.wrap.specs.Asked.{most_segments}
use Rattle.calls.specs.Called.{did, answer_of}
use Rattle.text.specs.Grammar.{ok_text, no_text, put_at}
use Rattle.text.proofs.Promises.{ok_length, no_length, sg_length}
use Rattle.script.specs.Drilled.{segment_text, segment_texts, answer_text, Printed}
use Rattle.script.proofs.Placed.{put_none, put_front, put_more, put_length}

-- of a segment its four words are printed
pub segment_whole : (buffer : List ℕ) → segment_text (take 4 buffer) ≡ segment_text buffer
unfolding segment_text
segment_whole buffer =
    let zeroth : 0 < 4 = omega arith in
    let first : 1 < 4 = omega arith in
    let second : 2 < 4 = omega arith in
    let third : 3 < 4 = omega arith in
    simp (get_or-take, zeroth, first, second, third)

-- chunk k of a buffer
pub chunk_at : (count k : ℕ) (buffer : List ℕ) (other : List ℕ) → k < count → get_or (first_chunks 4 count buffer) k other ≡ take 4 (drop (4 * k) buffer)
chunk_at zero k buffer other less = absurd (omega arith)
chunk_at (suc count) zero buffer other less = refl
chunk_at (suc count) (suc k) buffer other less =
    let on : 4 + 4 * k ≡ 4 * suc k = omega arith in
    chunk_at count k (drop 4 buffer) other (omega arith) ∙ ap (take 4) (drop-drop (4 * k) 4 buffer ∙ ap (λ n. drop n buffer) on)

-- what is printed of one of the first `count` chunks
pub chunk_text : {chunks : List (List ℕ)} (count n k : ℕ) (buffer : List ℕ) → chunks ≡ first_chunks 4 n buffer → k < count → k < n
    → segment_text (get_or (take count chunks) k []) ≡ segment_text (drop (4 * k) buffer)
chunk_text count n k buffer e less inside =
    ap segment_text (rw e (get_or-take count (first_chunks 4 n buffer) k [] less) ∙ chunk_at n k buffer [] inside) ∙ segment_whole (drop (4 * k) buffer)

segment_short : (buffer : List ℕ) → length (segment_text buffer) ≤ 87
unfolding segment_text
segment_short buffer = sg_length _ _ _ _

-- the texts from segment k on, of `count` segments
abbrev left : ℕ → ℕ → List ℕ → List ℕ
left count k buffer = segment_texts (count - k) (drop (4 * k) buffer)

left-next : (count k : ℕ) (buffer : List ℕ) → k < count → left count k buffer ≡ segment_text (drop (4 * k) buffer) ++ left count (k + 1) buffer
unfolding segment_texts
left-next count k buffer more =
    let one : count - k ≡ suc (count - (k + 1)) = omega arith in
    let four : 4 * k + 4 ≡ 4 * (k + 1) = omega arith in
    let on : drop 4 (drop (4 * k) buffer) ≡ drop (4 * (k + 1)) buffer = drop-drop 4 (4 * k) buffer ∙ ap (λ n. drop n buffer) four in
    rw one (ap (λ b. segment_text (drop (4 * k) buffer) ++ segment_texts (count - (k + 1)) b) on)

-- k of `count` segments were printed from `at` on, and end at `end`
pub record Printing (buffer was : List ℕ) (count at k end : ℕ) (is : List ℕ) : Type 0 where
  pub within : k ≤ count
  pub long : length is ≡ length was
  pub room : end ≤ at + 87 * k
  pub place : end + length (left count k buffer) ≡ at + length (segment_texts count buffer)
  pub whole : put_at end (left count k buffer) is ≡ put_at at (segment_texts count buffer) was

pub printing_none : (buffer was : List ℕ) (count at : ℕ) → Printing buffer was count at 0 at was
printing_none buffer was count at = record { within = omega arith; long = refl; room = omega arith; place = rw (sub-zero count); whole = rw (sub-zero count) }

pub printing_more : {buffer was : List ℕ} {count at k end : ℕ} {is : List ℕ} → Printing buffer was count at k end is → k < count → at + 87 * count ≤ length was
    → {next : ℕ} {out : List ℕ} → next ≡ end + length (segment_text (drop (4 * k) buffer)) → out ≡ put_at end (segment_text (drop (4 * k) buffer)) is
    → Printing buffer was count at (k + 1) next out
printing_more {buffer} {was} {count} {at} {k} {end} {is} p more fits {next} {out} to now =
    let text = segment_text (drop (4 * k) buffer) in
    let short : length text ≤ 87 = segment_short (drop (4 * k) buffer) in
    let step = left-next count k buffer more in
    let size : length (left count k buffer) ≡ length text + length (left count (k + 1) buffer) = rw step (length-append text (left count (k + 1) buffer)) in
    record {
      within = omega arith;
      long = rw now (put_length end text is (omega (arith, p.long, p.room)) ∙ p.long);
      room = omega (arith, p.room);
      place = omega (arith, p.place);
      whole = rw (to, now, put_more end text is (omega (arith, p.long, p.room)) (left count (k + 1) buffer), ← step) p.whole;
    }

pub printing_all : {buffer was : List ℕ} {count at end : ℕ} {is : List ℕ} → Printing buffer was count at count end is
    → (end ≡ at + length (segment_texts count buffer)) × (is ≡ put_at at (segment_texts count buffer) was)
unfolding segment_texts
printing_all {buffer} {was} {count} {at} {end} {is} p =
    let none : left count count buffer ≡ [] = rw (sub_self count) in
    (omega (arith, rw none at p.place), sym (put_none end is) ∙ (rw none at p.whole))

-- a refusal's number at the front
pub number-printed : (number : ℕ) (was : List ℕ) {r : ℕ} {is : List ℕ} → r ≡ 0 + length (no_text number) → is ≡ put_at 0 (no_text number) was → Printed (no_text number) r was is
number-printed number was {r} size now =
    let used : r ≡ length (no_text number) = omega arith in
    record { size = used; short = omega (arith, no_length number); bytes = now ∙ put_front (no_text number) was ∙ ap (λ k. no_text number ++ drop k was) (sym used) }

module _ (buffer was : List ℕ) where
  -- a refusal is its number
  pub refused-printed : (refused : Refusal) {r : ℕ} {is : List ℕ} → r ≡ 0 + length (no_text (number_of refused)) → is ≡ put_at 0 (no_text (number_of refused)) was
      → Printed (answer_text (answer_of (Err refused)) buffer) r was is
  unfolding answer_text answer_of refusal
  refused-printed refused {r} {is} size now =
      let other : number_of refused ≡ 0 → ⊥ = λ z. let some = number_some refused in omega arith in
      rw (ne_eqb (number_of refused) 0 other) (number-printed (number_of refused) was size now)

  -- an accepted call is its value, and then the segments
  pub done-printed : (value count : ℕ) {at r : ℕ} {mid is : List ℕ} → count ≤ most_segments → at ≡ 0 + length (ok_text value) → mid ≡ put_at 0 (ok_text value) was
      → r ≡ at + length (segment_texts count buffer) → is ≡ put_at at (segment_texts count buffer) mid → r ≤ at + 87 * count
      → Printed (answer_text (answer_of (did value count)) buffer) r was is
  unfolding answer_text answer_of
  done-printed value count {at} {r} {mid} {is} few first begun size now short =
      let text = ok_text value ++ segment_texts count buffer in
      let used : r ≡ length text = rw (length-append (ok_text value) (segment_texts count buffer)) (omega arith) in
      let both : is ≡ put_at 0 text was = rw (now, first, begun) (put_more 0 (ok_text value) was (omega arith) (segment_texts count buffer)) in
      record { size = used; short = omega (arith, ok_length value); bytes = both ∙ put_front text was ∙ ap (λ k. text ++ drop k was) (sym used) }
