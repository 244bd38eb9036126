-- `clear_table` fills the words of the table with zeros, which makes 64 rows of zeros.
-- What lies past them is not lent.
use Rattle.std.proofs.Common.{sym, arith, ◌≡◌, ◌∙◌, length, replicate, drop, length-take-le, rules}
use lib.Seq.{drop_at}
use Rattle.table.proofs.Zeros.{zero_words_rows}
use Rattle.table.proofs.zero.clear_table.Goals as goal

pub returns : goal.returns
returns c =
    let v = c.args.shares.now in
    let many : length c.fill.new.self ≡ 4096 = omega (arith, c.fill.ensures.len, length-take-le 4096 v c.requires) in
    let filled : c.fill.new.self ≡ replicate 4096 0 = c.fill.ensures.after (λ y h. search rules) ∙ rw (sym c.fill.ensures.len ∙ many) in
    record { rows = rw filled (zero_words_rows 64 (drop 4096 v)); past = drop_at c.fill.new.self (drop 4096 v) 4096 many }
