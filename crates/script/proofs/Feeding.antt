-- A piece of a script up to its first newline, taken byte by byte: the line is answered where the newline stands.
use mathlib.Core.Path.{◌≡◌, refl, ap, sym, ◌∙◌}
use mathlib.Core.Bool.{true, false}
use mathlib.Core.List.{List, [], ◌∷◌, ◌++◌, append-nil, append_assoc}
use Prim.Native.Nat.{ℕ, suc, ◌≤◌, ◌<◌}
use native.Mathlib.Omega.{arith}
use lib.Dec.{eqb}
use lib.ListN.{length, take}
use borrow.Author.Tests.{ltb-true, ltb-false}
use Rattle.rules.proofs.Floor.{by_bool}
use Rattle.lines.specs.declared.Filled.{Filled}
use Rattle.lines.specs.Lines.{newline, line_end, head_of, taken, Keeps, Fills}
use Rattle.lines.proofs.Kept.{keeps_none, keeps_filled}
use Rattle.planner.specs.declared.Planner.{Planner as Struct}
use Rattle.planner.specs.Struct.{in_struct}
use Rattle.script.specs.declared.Reply.{Reply}
use Rattle.script.specs.declared.Fed.{Fed}
use Rattle.script.specs.Drilled.{Drilled, drilled, Answers}
use Rattle.script.specs.Fed.{next, midst, silent, took, fed, lastly, Comes}

-- a piece whose first byte is a newline, and one whose first byte is another
module _ (b : ℕ) (bs : List ℕ) where
  end-first : eqb b newline ≡ true → line_end (b ∷ bs) ≡ 0
  unfolding line_end
  end-first e = rw e

  end_later : eqb b newline ≡ false → line_end (b ∷ bs) ≡ suc (line_end bs)
  unfolding line_end
  end_later e = rw e

  taken-first : eqb b newline ≡ true → taken (b ∷ bs) ≡ 1
  unfolding taken
  taken-first e = rw (end-first e) (omega arith)

  taken_later : eqb b newline ≡ false → taken (b ∷ bs) ≡ suc (taken bs)
  unfolding taken
  taken_later e = rw (end_later e) (omega arith)

  head_first : eqb b newline ≡ true → head_of (b ∷ bs) ≡ []
  unfolding head_of
  head_first e = rw (end-first e)

  head_later : eqb b newline ≡ false → head_of (b ∷ bs) ≡ b ∷ head_of bs
  unfolding head_of
  head_later e = rw (end_later e)

-- one byte
pub fed-first : (d : Drilled) (kept : List ℕ) (b : ℕ) (bs : List ℕ) → eqb b newline ≡ true → fed (midst d kept) (b ∷ bs) ≡ fed (midst (next d kept) []) bs
unfolding fed took
fed-first d kept b bs e = rw e

pub fed_later : (d : Drilled) (kept : List ℕ) (b : ℕ) (bs : List ℕ) → eqb b newline ≡ false → fed (midst d kept) (b ∷ bs) ≡ fed (midst d (kept ++ (b ∷ []))) bs
unfolding fed took
fed_later d kept b bs e = rw e

-- the newline stands in the piece
pub fed-ended : (d : Drilled) (kept piece : List ℕ) → line_end piece < length piece → fed (midst d kept) (take (taken piece) piece) ≡ midst (next d (kept ++ head_of piece)) []
unfolding fed
fed-ended d kept [] inside = absurd (omega arith)
fed-ended d kept (b ∷ bs) inside =
    by_bool (eqb b newline)
    (λ e. rw (taken-first b bs e, head_first b bs e, append-nil kept) (fed-first d kept b [] e))
    (λ e. let more : line_end bs < length bs = omega (arith, end_later b bs e) in
    rw (taken_later b bs e, head_later b bs e) (fed_later d kept b (take (taken bs) bs) e ∙ fed-ended d (kept ++ (b ∷ [])) bs more ∙ ap (λ l. midst (next d l) []) (append_assoc kept (b ∷ []) (head_of bs))))

-- it does not
pub fed_part : (d : Drilled) (kept piece : List ℕ) → length piece ≤ line_end piece → fed (midst d kept) (take (taken piece) piece) ≡ midst d (kept ++ head_of piece)
unfolding fed taken head_of line_end
fed_part d kept [] all = rw (append-nil kept)
fed_part d kept (b ∷ bs) all =
    by_bool (eqb b newline)
    (λ e. absurd (omega (arith, end-first b bs e)))
    (λ e. let more : length bs ≤ line_end bs = omega (arith, end_later b bs e) in
    rw (taken_later b bs e, head_later b bs e) (fed_later d kept b (take (taken bs) bs) e ∙ fed_part d (kept ++ (b ∷ [])) bs more ∙ ap (midst d) (append_assoc kept (b ∷ []) (head_of bs))))

abbrev pub fed_of : Struct → ℕ → ℕ → ℕ → Fed
fed_of p len used written = record { planner = p; len = len; used = used; written = written }

module _ {line : List ℕ} {len : ℕ} {piece : List ℕ} {r : Filled} {after : List ℕ} (f : Fills line len piece r after) {kept : List ℕ} (k : Keeps line len kept) (p : Struct) (words buffer : List ℕ) where
  -- no line has ended
  pub comes_part : r.ended ≡ false → (out : List ℕ) → Comes (fed (midst (silent (in_struct p) words buffer) kept) (take r.used piece)) (fed_of p r.len r.used 0) words buffer after out out
  comes_part open' out =
      let all : length piece ≤ line_end piece = ltb-false _ _ (sym f.ended ∙ open') in
      rw (f.used, fed_part (silent (in_struct p) words buffer) kept piece all) (record { planner = refl; shares = refl; segments = refl; keeps = keeps_filled k f; size = refl; bytes = refl })

  -- a line has ended and was answered
  pub comes_ended : r.ended ≡ true → {reply : Reply} {words' buffer' was is : List ℕ} → Answers (drilled (in_struct p) words buffer (kept ++ head_of piece)) reply words' buffer' was is
      → Comes (fed (midst (silent (in_struct p) words buffer) kept) (take r.used piece)) (fed_of reply.planner 0 r.used reply.used) words' buffer' after was is
  unfolding next
  comes_ended over a =
      let inside : line_end piece < length piece = ltb-true _ _ (sym f.ended ∙ over) in
      rw (f.used, fed-ended (silent (in_struct p) words buffer) kept piece inside) (record {
        planner = a.planner;
        shares = a.shares;
        segments = a.segments;
        keeps = keeps_none after (keeps_filled k f).room;
        size = a.printed.size;
        bytes = a.printed.bytes;
      })

-- at the end, nothing is kept
pub last_none : (p : Struct) (words buffer out kept : List ℕ) → length kept ≡ 0 → Answers (lastly (silent (in_struct p) words buffer) kept) (record { planner = p; used = 0 }) words buffer out out
unfolding lastly
last_none p words buffer out [] none = record { planner = refl; shares = refl; segments = refl; printed = record { size = refl; short = omega arith; bytes = refl } }
last_none p words buffer out (k ∷ ks) none = absurd (omega arith)

-- or a last line
pub last_some : (p : Struct) (words buffer kept : List ℕ) → 0 < length kept → {reply : Reply} {words' buffer' was is : List ℕ} → Answers (drilled (in_struct p) words buffer kept) reply words' buffer' was is
    → Answers (lastly (silent (in_struct p) words buffer) kept) reply words' buffer' was is
unfolding lastly next
last_some p words buffer [] some a = absurd (omega arith)
last_some p words buffer (k ∷ ks) some a = record { planner = a.planner; shares = a.shares; segments = a.segments; printed = a.printed }
