-- `write` puts one segment's four words after those that stand, and changes no other word.
-- Four stores in a row are one list written into another.
use mathlib.Core.Path.{◌≡◌}
use mathlib.Core.List.{[], ◌∷◌, append_assoc}
use Prim.Native.Nat.{◌+◌, ◌*◌}
use native.Mathlib.Numerals.{towards_suc}
use lib.Seq.{sets-eq}
use native.Mathlib.Omega.{arith}
use lib.ListN.{length-set}
use Rattle.rules.specs.Words.{segments_flat}
use Rattle.wrap.specs.Shown.{segment_of, written_from}
use Rattle.wrap.proofs.segments.write.Goals as goal

pub bounds-buffer-at-2 : goal.bounds-buffer-at-2
bounds-buffer-at-2 c = simp length-set (omega arith)

pub bounds-buffer-at-3 : goal.bounds-buffer-at-3
bounds-buffer-at-3 c = simp length-set (omega arith)

pub bounds-buffer-at-4 : goal.bounds-buffer-at-4
bounds-buffer-at-4 c = simp length-set (omega arith)

pub returns : goal.returns
unfolding written_from segments_flat segment_of
returns c =
    let a = c.args in
    let g = a.segment in
    let far : 4 * (a.count + 1) ≡ 4 * a.count + 4 = omega arith in
    rw far (simp towards_suc (simp (towards_suc, append_assoc) at (sets-eq (g.core ∷ (g.slot ∷ (g.first ∷ (g.after ∷ [])))) a.buffer.now (4 * a.count) (omega arith))))
