-- A script that arrives in pieces: what is there after some bytes of it, and at its end.
use Rattle.std.specs.Prelude.{◌≡◌, cond, List, [], ◌∷◌, ◌++◌, ℕ, suc, ◌≤◌, ◌<◌, eqb, length, drop}
use Rattle.rules.specs.Held.{Planner}
use Rattle.lines.specs.Lines.{newline, line_bytes, Keeps}
use Rattle.planner.specs.Struct.{in_struct}
use Rattle.script.specs.declared.Fed.{Fed}
use Rattle.script.specs.Drilled.{Drilled, drilled, answer_bytes}

-- one line after what was printed before
unfoldable pub next : Drilled → List ℕ → Drilled
next d line =
    let e = drilled d.planner d.words d.buffer line in
    record { planner = e.planner; words = e.words; buffer = e.buffer; text = d.text ++ e.text }

-- one line after another
unfoldable pub scripted : Drilled → List (List ℕ) → Drilled
scripted d [] = d
scripted d (line ∷ lines) = scripted (next d line) lines

-- What is there in the midst of a script: the bytes of the line that has no newline yet, too.
pub record Midst : Type 0 where
  pub drilled : Drilled
  pub kept : List ℕ

abbrev pub midst : Drilled → List ℕ → Midst
midst d kept = record { drilled = d; kept = kept }

-- one byte more: a newline ends the line, which is answered
unfoldable pub took : Midst → ℕ → Midst
took m b = cond (eqb b newline) (midst (next m.drilled m.kept) []) (midst m.drilled (m.kept ++ (b ∷ [])))

-- some bytes more
unfoldable pub fed : Midst → List ℕ → Midst
fed m [] = m
fed m (b ∷ bs) = fed (took m b) bs

-- a piece after another
unfoldable pub fed_pieces : Midst → List (List ℕ) → Midst
fed_pieces m [] = m
fed_pieces m (piece ∷ pieces) = fed_pieces (fed m piece) pieces

-- the end of the script: "A last line without its newline counts"
unfoldable pub lastly : Drilled → List ℕ → Drilled
lastly d [] = d
lastly d (k ∷ ks) = next d (k ∷ ks)

unfoldable pub finished : Midst → Drilled
finished m = lastly m.drilled m.kept

-- the pieces, joined
unfoldable pub joined : List (List ℕ) → List ℕ
joined [] = []
joined (piece ∷ pieces) = piece ++ joined pieces

-- before anything is printed
abbrev pub silent : Planner → List ℕ → List ℕ → Drilled
silent p words buffer = record { planner = p; words = words; buffer = buffer; text = [] }

-- The code has come to m: the state, the lent words, what is stored of the unfinished line, and what was printed.
pub record Comes (m : Midst) (r : Fed) (words buffer line was is : List ℕ) : Type 0 where
  pub planner : in_struct r.planner ≡ m.drilled.planner
  pub shares : words ≡ m.drilled.words
  pub segments : buffer ≡ m.drilled.buffer
  pub keeps : Keeps line r.len m.kept
  pub size : r.written ≡ length m.drilled.text
  pub bytes : is ≡ m.drilled.text ++ drop r.written was

-- As much of a piece of n bytes was taken as an output of so many bytes has room for: some of it, where the output has room for one line.
pub record Goes (n room : ℕ) (r : Fed) : Type 0 where
  pub kept : r.len ≤ suc line_bytes
  pub inside : r.used ≤ n
  pub fits : r.written ≤ room
  pub some : 0 < n → answer_bytes ≤ room → 0 < r.used
