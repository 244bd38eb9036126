-- The highest bit of a word of 32 bits, as a mark: an or of two words has it exactly where one of them has.
-- An or is at least each of its words, and below a power of two where both are.
use Rattle.std.proofs.Common.{◌≡◌, ℕ, ◌+◌, ◌%◌, ◌<◌, ◌≤◌, ◌&&◌, ltb, leb, arith, le-ltb, lt-ltb, le-leb}
use borrow.Author.Tests.{lt-leb}
use lib.Bits.{bit_or, or_lt, or_add_and, and_le_l, and_le_r}
use Rattle.rules.proofs.Floor.{by_lt}

or_above : (a b : ℕ) → (a ≤ bit_or a b) × (b ≤ bit_or a b)
or_above a b =
    let both = or_add_and a b in
    let left = and_le_l a b in
    let right = and_le_r a b in
    (omega arith, omega arith)

or_below : (a b : ℕ) → a < 2147483648 → b < 2147483648 → bit_or a b < 2147483648
or_below a b l m = or_lt 31 a b l m

pub or_marked : (a b : ℕ) → ltb (bit_or a b) 2147483648 ≡ (ltb a 2147483648 && ltb b 2147483648)
or_marked a b =
    let above = or_above a b in
    by_lt a 2147483648
    (λ l. by_lt b 2147483648
    (λ m. rw (lt-ltb a 2147483648 l, lt-ltb b 2147483648 m, lt-ltb (bit_or a b) 2147483648 (or_below a b l m)))
    (λ g. rw (lt-ltb a 2147483648 l, le-ltb b 2147483648 g, le-ltb (bit_or a b) 2147483648 (omega arith))))
    (λ g. rw (le-ltb a 2147483648 g, le-ltb (bit_or a b) 2147483648 (omega arith)))

-- w is m less s, wrapped: neither s nor w is marked exactly where s is at most m
pub difference : (m s w : ℕ) → m < 2147483648 → s < 4294967296 → w < 4294967296 → (w + s) % 4294967296 ≡ m → ltb (bit_or s w) 2147483648 ≡ leb s m
difference m s w small fits-s fits-w is =
    let above = or_above s w in
    by_lt m s
    (λ more. rw (lt-leb s m more, le-ltb (bit_or s w) 2147483648 (by_lt s 2147483648 (λ l. omega arith) (λ g. omega arith))))
    (λ g. rw (le-leb s m g, lt-ltb (bit_or s w) 2147483648 (or_below s w (omega arith) (omega arith))))
