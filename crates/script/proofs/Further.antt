-- Bytes after bytes: what was printed before stands in front of what is printed next.
use mathlib.Core.Path.{◌≡◌, refl, ap, sym, ◌∙◌}
use mathlib.Core.Logic.{◌⊎◌, inl, inr}
use mathlib.Core.List.{List, [], ◌∷◌, ◌++◌, append-nil, append_assoc}
use Prim.Native.Nat.{ℕ, suc, ◌+◌, ◌-◌, ◌≤◌, ◌<◌}
use native.Mathlib.Omega.{arith}
use lib.Dec.{eqb}
use lib.ListN.{length, take, drop, length-append, length-drop, drop_of_length-le}
use lib.Seq.{take_at, drop_at, drop-drop, take-add, take_all, length-take-le}
use Rattle.rules.proofs.Floor.{by_bool, by_lt}
use Rattle.rules.specs.Held.{Planner}
use Rattle.lines.specs.Lines.{newline, line_bytes, taken, Keeps}
use Rattle.planner.specs.declared.Planner.{Planner as Struct}
use Rattle.planner.specs.Struct.{in_struct}
use Rattle.script.specs.declared.Fed.{Fed}
use Rattle.script.specs.Drilled.{Drilled, answer_bytes}
use Rattle.script.specs.Fed.{next, Midst, midst, silent, fed, lastly, finished, Comes, Goes}
use Rattle.script.proofs.Feeding.{fed_of, fed-first, fed_later}
use Rattle.script.proofs.Streams.{fed-append}

-- a text in front of what was printed
abbrev pub prefixed : List ℕ → Drilled → Drilled
prefixed t d = record { planner = d.planner; words = d.words; buffer = d.buffer; text = t ++ d.text }

abbrev behind : List ℕ → Midst → Midst
behind t m = midst (prefixed t m.drilled) m.kept

next_prefixed : (t : List ℕ) (d : Drilled) (line : List ℕ) → next (prefixed t d) line ≡ prefixed t (next d line)
unfolding next
next_prefixed t d line = rw (append_assoc t d.text)

fed_prefixed : (t : List ℕ) (d : Drilled) (kept xs : List ℕ) → fed (midst (prefixed t d) kept) xs ≡ behind t (fed (midst d kept) xs)
unfolding fed
fed_prefixed t d kept [] = refl
fed_prefixed t d kept (b ∷ bs) =
    by_bool (eqb b newline)
    (λ e. rw (fed-first (prefixed t d) kept b bs e, fed-first d kept b bs e, next_prefixed t d kept) (fed_prefixed t (next d kept) [] bs))
    (λ e. rw (fed_later (prefixed t d) kept b bs e, fed_later d kept b bs e) (fed_prefixed t d (kept ++ (b ∷ [])) bs))

lastly_prefixed : (t : List ℕ) (d : Drilled) (kept : List ℕ) → lastly (prefixed t d) kept ≡ prefixed t (lastly d kept)
unfolding lastly
lastly_prefixed t d [] = refl
lastly_prefixed t d (k ∷ ks) = next_prefixed t d (k ∷ ks)

module _ {m : Midst} {r : Fed} {words buffer line was is : List ℕ} (c : Comes m r words buffer line was is) where
  -- what is held, with what was printed in front
  come_to : midst (prefixed m.drilled.text (silent (in_struct r.planner) words buffer)) m.kept ≡ m
  come_to = rw (c.planner, c.shares, c.segments, append-nil m.drilled.text)

  pub come_printed : take r.written is ≡ m.drilled.text
  come_printed = rw c.bytes (take_at m.drilled.text (drop r.written was) r.written (sym c.size))

  -- the end, with what was printed in front
  pub come_last : finished m ≡ prefixed m.drilled.text (lastly (silent (in_struct r.planner) words buffer) m.kept)
  unfolding finished
  come_last = ap finished (sym come_to) ∙ lastly_prefixed m.drilled.text (silent (in_struct r.planner) words buffer) m.kept

-- some bytes more, whose text goes behind what was printed
pub comes_more : {m : Midst} {r : Fed} {words buffer line was is : List ℕ} → Comes m r words buffer line was is
    → (xs : List ℕ) {s : Fed} {words' buffer' line' part : List ℕ} → Comes (fed (midst (silent (in_struct r.planner) words buffer) m.kept) xs) s words' buffer' line' (drop r.written is) part
    → (used : ℕ) → Comes (fed m xs) (record { planner = s.planner; len = s.len; used = used; written = r.written + s.written }) words' buffer' line' was (take r.written is ++ part)
comes_more {m} {r} {words} {buffer} {line} {was} {is} c xs {s} {words'} {buffer'} {line'} {part} d used =
    let t = m.drilled.text in
    let w = r.written in
    let start : fed m xs ≡ behind t (fed (midst (silent (in_struct r.planner) words buffer) m.kept) xs) = ap (λ k. fed k xs) (sym (come_to c)) ∙ fed_prefixed t (silent (in_struct r.planner) words buffer) m.kept xs in
    let text = (fed (midst (silent (in_struct r.planner) words buffer) m.kept) xs).drilled.text in
    let past : drop w is ≡ drop w was = ap (drop w) c.bytes ∙ drop_at t (drop w was) w (sym c.size) in
    let rest : part ≡ text ++ drop (w + s.written) was = d.bytes ∙ ap (λ l. text ++ drop s.written l) past ∙ ap (λ l. text ++ l) (drop-drop s.written w was) in
    rw start (record {
      planner = d.planner;
      shares = d.shares;
      segments = d.segments;
      keeps = d.keeps;
      size = simp length-append (omega (arith, c.size, d.size));
      bytes = rw (come_printed c, rest) (sym (append_assoc t text (drop (w + s.written) was)));
    })

-- A piece is taken line by line: what the loop keeps from turn to turn.
pub record Going (p : Planner) (words₀ buffer₀ line₀ : List ℕ) (len : ℕ) (piece out₀ words buffer line out : List ℕ) (r : Fed) : Type 0 where
  pub within : r.used ≤ length piece
  pub short : r.len ≤ suc line_bytes
  pub fits : r.written ≤ length out₀
  pub begun : r.used ≡ 0 → r.written ≡ 0
  pub same-words : length words ≡ length words₀
  pub same-buffer : length buffer ≡ length buffer₀
  pub same_line : length line ≡ length line₀
  pub same_out : length out ≡ length out₀
  pub comes : (kept : List ℕ) → Keeps line₀ len kept → Comes (fed (midst (silent p words₀ buffer₀) kept) (take r.used piece)) r words buffer line out₀ out

pub going_none : (p : Struct) (words buffer line : List ℕ) (len : ℕ) (piece out : List ℕ) → len ≤ suc line_bytes → Going (in_struct p) words buffer line len piece out words buffer line out (fed_of p len 0 0)
unfolding fed
going_none p words buffer line len piece out short = record {
  within = omega arith;
  short = short;
  fits = omega arith;
  begun = λ e. refl;
  same-words = refl;
  same-buffer = refl;
  same_line = refl;
  same_out = refl;
  comes = λ kept k. record { planner = refl; shares = refl; segments = refl; keeps = k; size = refl; bytes = refl };
}

-- the end of a list, lent as a part, and put back
pub tail_all : (n : ℕ) (l : List ℕ) → take (length l - n) (drop n l) ≡ drop n l
tail_all n l = let size = length-drop n l in take_all (length l - n) (drop n l) (omega arith)

pub tail_length : (n : ℕ) (l : List ℕ) → length (take (length l - n) (drop n l)) ≡ length l - n
tail_length n l = rw (tail_all n l) (length-drop n l)

pub tail_put : (n : ℕ) (l part : List ℕ) → take n l ++ (part ++ drop (length l - n) (drop n l)) ≡ take n l ++ part
tail_put n l part =
    let size = length-drop n l in
    let none : drop (length l - n) (drop n l) ≡ [] = drop_of_length-le (drop n l) {i = length l - n} (omega arith) in
    rw (none, append-nil part)

-- some bytes are taken of a piece that has some
pub taken-some : (piece : List ℕ) → 0 < length piece → 0 < taken piece
unfolding taken
taken-some piece some = omega arith

pub taken-within : (piece : List ℕ) → taken piece ≤ length piece
unfolding taken
taken-within piece = omega arith

-- of the end of a piece
pub taken_tail : (n : ℕ) (piece : List ℕ) → n < length piece → (0 < taken (take (length piece - n) (drop n piece))) × (n + taken (take (length piece - n) (drop n piece)) ≤ length piece)
taken_tail n piece more =
    let size = length-drop n piece in
    rw (tail_all n piece) (taken-some (drop n piece) (omega arith), omega (arith, taken-within (drop n piece)))

module _ {p : Planner} {words₀ buffer₀ line₀ : List ℕ} {len : ℕ} {piece out₀ words buffer line out : List ℕ} {r : Fed}
    (g : Going p words₀ buffer₀ line₀ len piece out₀ words buffer line out r) (more : r.used < length piece) (room : r.written + answer_bytes ≤ length out) where
  -- one line more
  pub going_more : {s : Fed} {xs words' buffer' line' was part after : List ℕ} → xs ≡ drop r.used piece → was ≡ drop r.written out → after ≡ take r.written out ++ part
      → s.len ≤ suc line_bytes → s.used ≡ taken xs → s.written ≤ answer_bytes
      → ((kept : List ℕ) → Keeps line r.len kept → Comes (fed (midst (silent (in_struct r.planner) words buffer) kept) (take s.used xs)) s words' buffer' line' was part)
      → length words' ≡ length words → length buffer' ≡ length buffer → length line' ≡ length line → length part ≡ length was
      → Going p words₀ buffer₀ line₀ len piece out₀ words' buffer' line' after (fed_of s.planner s.len (r.used + s.used) (r.written + s.written))
  going_more {s} {xs} {words'} {buffer'} {line'} {was} {part} {after} rest behind' now short used written step sw sb sl so =
      let left : length xs ≡ length piece - r.used = rw rest (length-drop r.used piece) in
      let size : length part ≡ length out - r.written = so ∙ rw behind' (length-drop r.written out) in
      let some = taken-some xs (omega arith) in
      let most = taken-within xs in
      record {
        within = omega (arith, g.within);
        short = short;
        fits = omega (arith, g.same_out);
        begun = λ e. absurd (omega arith);
        same-words = sw ∙ g.same-words;
        same-buffer = sb ∙ g.same-buffer;
        same_line = sl ∙ g.same_line;
        same_out = rw now (simp (length-append, length-take-le r.written out (omega arith)) (omega (arith, g.same_out)));
        comes = λ kept k.
            let c = g.comes kept k in
            let m = fed (midst (silent p words₀ buffer₀) kept) (take r.used piece) in
            let d = rw behind' at (step m.kept c.keeps) in
            let both = comes_more c (take s.used xs) d (r.used + s.used) in
            let bytes : fed m (take s.used xs) ≡ fed (midst (silent p words₀ buffer₀) kept) (take (r.used + s.used) piece) =
            rw (rest, take-add r.used s.used piece) (sym (fed-append (midst (silent p words₀ buffer₀) kept) (take r.used piece) (take s.used (drop r.used piece)))) in
            rw (now, ← bytes) both;
      }

-- the piece is at its end, or the output has no room for another line
pub goes_out : {p : Planner} {words₀ buffer₀ line₀ : List ℕ} {len : ℕ} {piece out₀ words buffer line out : List ℕ} {r : Fed}
    → Going p words₀ buffer₀ line₀ len piece out₀ words buffer line out r → (length piece ≤ r.used) ⊎ (length out - r.written < answer_bytes) → Goes (length piece) (length out₀) r
goes_out g (inl all) = record { kept = g.short; inside = g.within; fits = g.fits; some = λ some room. omega arith }
goes_out {r = r} g (inr full) = record {
  kept = g.short;
  inside = g.within;
  fits = g.fits;
  some = λ some room. by_lt 0 r.used (λ h. h) (λ none. let z : r.used ≡ 0 = omega arith in absurd (omega (arith, g.begun z, g.same_out)));
}
