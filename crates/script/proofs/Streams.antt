-- A script fed in pieces is the script fed at once, and that is its lines answered one after another.
use mathlib.Core.Path.{◌≡◌, refl, sym, ◌∙◌}
use mathlib.Core.List.{List, [], ◌∷◌, ◌++◌}
use Prim.Native.Nat.{ℕ}
use lib.Dec.{eqb}
use Rattle.rules.proofs.Floor.{by_bool}
use Rattle.lines.specs.Lines.{newline, last_line, lines_from}
use Rattle.script.specs.Drilled.{Drilled}
use Rattle.script.specs.Fed.{next, scripted, Midst, midst, took, fed, fed_pieces, lastly, finished, joined}
use Rattle.script.proofs.Feeding.{fed-first, fed_later}

pub fed-append : (m : Midst) (xs ys : List ℕ) → fed m (xs ++ ys) ≡ fed (fed m xs) ys
unfolding fed
fed-append m [] ys = refl
fed-append m (b ∷ bs) ys = fed-append (took m b) bs ys

pub fed-joined : (m : Midst) (pieces : List (List ℕ)) → fed_pieces m pieces ≡ fed m (joined pieces)
unfolding fed_pieces fed joined
fed-joined m [] = refl
fed-joined m (piece ∷ pieces) = fed-joined (fed m piece) pieces ∙ sym (fed-append m piece (joined pieces))

last_line_lem : (d : Drilled) (kept : List ℕ) → lastly d kept ≡ scripted d (last_line kept)
unfolding lastly scripted last_line
last_line_lem d [] = refl
last_line_lem d (k ∷ ks) = refl

pub fed-lines : (d : Drilled) (kept stream : List ℕ) → finished (fed (midst d kept) stream) ≡ scripted d (lines_from kept stream)
unfolding finished fed lines_from scripted
fed-lines d kept [] = last_line_lem d kept
fed-lines d kept (b ∷ bs) =
    by_bool (eqb b newline)
    (λ e. rw (fed-first d kept b bs e, e) (fed-lines (next d kept) [] bs))
    (λ e. rw (fed_later d kept b bs e, e) (fed-lines d (kept ++ (b ∷ [])) bs))
