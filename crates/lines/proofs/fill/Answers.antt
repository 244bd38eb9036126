-- `fill` takes a piece up to its first newline: what is stored and counted follows from where the newline stands.
use mathlib.Core.Path.{◌≡◌, sym}
use mathlib.Core.List.{List, append_assoc}
use Prim.Native.Nat.{ℕ, ◌+◌, ◌-◌, min}
use native.Mathlib.Omega.{arith}
use borrow.Rule.Slice.PartMut.{put_mid}
use lib.ListN.{take, drop}
use lib.Seq.{paste, drop-drop}
use Rattle.lines.specs.Lines.{taken, line_end, line_bytes}
use Rattle.lines.proofs.fill.Goals as goal

-- a part of a list that holds the first bytes of another
part_pasted : (xs zs ys : List ℕ) (a k b n m : ℕ) → ys ≡ take m zs → a ≡ b → k ≡ n → m ≡ n → put_mid a k xs ys ≡ paste xs b zs n
part_pasted xs zs ys a k b n m is at-is size-is n-is = rw (is, at-is, size-is, n-is, drop-drop n b xs) (sym (append_assoc (take b xs) (take n zs) (drop (b + n) xs)))

pub returns : goal.returns
unfolding taken
returns c =
    let a = c.args in
    let at = c.min-at.result in
    let stored = c.min-stored.result in
    let b = min a.len line_bytes in
    record {
      length-is = omega arith;
      used = omega arith;
      ended = cc;
      bytes = part_pasted a.line.now a.piece.now c.copy_from_slice.new.self at (at + stored - at) b (min (line_end a.piece.now) (line_bytes - b)) stored c.copy_from_slice.ensures.after (omega arith) (omega arith) (omega arith);
    }
